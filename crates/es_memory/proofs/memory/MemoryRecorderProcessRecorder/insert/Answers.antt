use Rattle.std.proofs.Common.{arith, ◌≡◌, ◌∙◌, sym, ap, length, ◌++◌, ◌∷◌, [], subst}
use Rattle.std.specs.Prelude.{IfSome}
use Rattle.es_model.specs.declared.event.Recording.{Recording}
use Rattle.es_model.specs.History.{log, IsFormed}
use Rattle.es_model.proofs.HistoryLemmas.{size-push}
use Rattle.es_recorder.proofs.InsertLemmas.{refused-small, refused-full, refused-cause, IsFormed-push}
use Rattle.es_memory.specs.inner.Index.{Stands}
use Rattle.es_memory.proofs.memory.MemoryRecorderProcessRecorder.insert.Goals as goal

pub returns-in-Err-clause-small : goal.returns-in-Err-clause-small
returns-in-Err-clause-small c = refused-small c.args.self.now.capacity c.args.self.now.history c.args.recording.now c.in-Err.fault c.args.self.now.formed (c.in-Err.ensures {u = tt}).refused

pub returns-in-Err-clause-full : goal.returns-in-Err-clause-full
returns-in-Err-clause-full c = refused-full c.args.self.now.capacity c.args.self.now.history c.args.recording.now c.in-Err.fault (c.in-Err.ensures {u = tt}).refused

pub returns-in-Err-clause-cause : goal.returns-in-Err-clause-cause
returns-in-Err-clause-cause c = refused-cause c.args.self.now.capacity c.args.self.now.history c.args.recording.now c.in-Err.fault (c.in-Err.ensures {u = tt}).refused

pub grown-requires : goal.grown-requires
grown-requires c =
    let formed = IsFormed-push c.args.self.now.capacity c.args.self.now.history c.args.recording.now c.args.self.now.formed c.requires (c.in-Ok.ensures {u = tt}).ok c.args.self.now.bounded (omega (arith, c.len.ensures)) in
    omega (arith, formed.few_events, size-push c.args.self.now.history c.args.recording.now, c.args.self.now.counted)

pub invariant_of-self : goal.invariant_of-self
invariant_of-self c =
    let same : c.push.new.self ≡ c.args.self.now.history ++ c.args.recording.now ∷ [] = (c.in-Ok-push.ensures {u = tt}).ok ∙ ap (λ (r : Recording). c.args.self.now.history ++ r ∷ []) (c.in-Ok-copy.ensures {u = tt}) in
    record {
      indexed = subst (λ h. IfSome c.grown.result (Stands h)) (sym same)
          (c.grown.ensures c.args.self.now.history (omega (arith, c.len.ensures)) (sym c.args.self.now.counted) (subst (λ o. IfSome o (Stands c.args.self.now.history)) (sym c.replace-index.ensures.value) c.args.self.now.indexed));
      counted = omega (arith, ap (λ h. length (log h)) same, size-push c.args.self.now.history c.args.recording.now, c.len-2.ensures, c.args.self.now.counted);
      formed = subst IsFormed (sym same) (IsFormed-push c.args.self.now.capacity _ _ c.args.self.now.formed c.requires (c.in-Ok.ensures {u = tt}).ok c.args.self.now.bounded (omega (arith, c.len.ensures)));
      bounded = c.args.self.now.bounded;
    }
