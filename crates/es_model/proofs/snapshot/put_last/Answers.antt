use Rattle.std.proofs.Common.{rules, ◌≡◌, ◌∙◌, ◌++◌, ◌∷◌, [], List, not, ap}
use Rattle.std.specs.Prelude.{filter}
use Rattle.std.proofs.lemmas.Fn.{filter_same}
use Rattle.es_model.specs.declared.snapshot.Snapshot.{Snapshot}
use Rattle.es_model.specs.Snapshots.{is_same}
use Rattle.es_model.proofs.snapshot.put_last.Goals as goal

pub returns-clause-ok : goal.returns-clause-ok
returns-clause-ok c =
    let others : List Snapshot → List Snapshot = λ xs. filter (λ x. not (is_same x c.args.snapshot)) xs in
    let kept : c.retain.new.self.items ≡ others c.reserve.new.self.items = filter_same _ _ _ (λ x b f' k. search rules) _ _ c.retain.ensures.filtered in
    (c.in_ok-push.ensures {u = tt}).items ∙ ap (λ (xs : List Snapshot). xs ++ c.args.snapshot ∷ []) (kept ∙ ap others (c.reserve.ensures.items ∙ c.list.view_is))
