use Rattle.std.proofs.Common.{refl, ap, sym, subst, ◌∙◌, ◌≡◌, ℕ, List, [], arith, rules, replicate, length}
use Rattle.atomic_table.specs.Table.{opening, Allows}
use Rattle.es_ties.specs.Views.{first_view, owns_at, seen_of, is_some, opened}
use Rattle.es_ties.specs.Ties.{IsTied}
use Rattle.es_ties.specs.Seen.{log_count}
use Rattle.es_ties.proofs.Live.{live_after}
use Rattle.es_ties.proofs.Opening.{begins, opens, number_opened}
use Rattle.es_ties.proofs.SeenLemmas.{opened_seen}
use Rattle.es_ties.proofs.making.made.Goals as goal

pub of_words-requires : goal.of_words-requires
of_words-requires g c =
    let items : c.in_ok-words.words.items ≡ replicate c.args.count 0 = search rules in
    subst (λ (ws : List ℕ). IsTied c.args.count (opening ws (let none : List (Unit {0}) = [] in none) (first_view c.args.count))) (sym (c.as_slice.ensures.value ∙ items)) (begins c.args.count)

pub load-requires : goal.load-requires
load-requires g c =
    let h = c.in_ok-table.ensures {u = tt} in
    let table = c.in_ok-table.table.shared.table_id in
    let key : c.in_ok-table.table.shared.key ≡ length g.N.Starts.starts = h.5 ∙ c.requires.0 in
    let me = c.in_ok-table.seat.me in
    let first : me.0 ≡ first_view (length g.N.Starts.starts) = ap (λ m. m.0) h.4 ∙ ap first_view c.requires.0 in (
      h.2,
      (let count : c.in_ok-table.table.shared.table_id.words ≡ c.args.count = h.0 ∙ (c.as_slice.ensures.len ∙ (c.in_ok-words.ensures {u = tt}).len) in omega (arith, count, c.requires.1)),
      subst (λ (k : ℕ). Allows (IsTied k) table.slots c.in_ok-table.seat.id me 0 (λ n. n) (λ found w. (w.0 ≡ opened g.N.Starts.starts) × (w.1 ≡ me.1))) (sym key) (opens table.slots c.in_ok-table.seat.id me g.N.Starts.starts first),
    )

pub returns : goal.returns
returns g c =
    let h = c.in_ok-table.ensures {u = tt} in
    let v : c.load.new.seat.me.0 ≡ opened g.N.Starts.starts = c.load.ensures.2.0 in (
      record {
        live = live_after c.load.new.seat (opened g.N.Starts.starts) v refl refl (c.load.ensures.2.1 ∙ ap (λ m. m.1) h.4);
        table = c.load.ensures.0 ∙ (h.2 ∙ sym c.of.ensures);
        dealt = ap (λ x. x.dealt) v;
        owns = λ j le lt. ap (λ x. owns_at x j) v ∙ ap is_some (number_opened g.N.Starts.starts j lt);
        seen = ap seen_of v ∙ opened_seen g.N.Starts.starts;
      },
      ap log_count c.of.ensures ∙ (h.0 ∙ (c.as_slice.ensures.len ∙ (c.in_ok-words.ensures {u = tt}).len)),
    )
