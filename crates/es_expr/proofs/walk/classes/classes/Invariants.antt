use Rattle.std.proofs.Common.{◌≡◌, List, ℕ, drop, take}
use Rattle.std.specs.List.{list_any}
use Rattle.std.specs.Str.{bytes_eq}
use Rattle.es_model.specs.declared.declaration.Class.{Class}
use Rattle.es_expr.specs.Misfits.{each, class_misfits}
use Rattle.es_expr.specs.inner.Seen.{has_seen}
use Rattle.es_expr.proofs.walk.classes.classes.Given as goal

abbrev pub invariant-loop-place : goal.invariant-loop-place
invariant-loop-place l = record {
  seen : (name : List ℕ) → has_seen l.seen name ≡ list_any (λ (d : Class). bytes_eq d.name name) (take l.place l.classes);
  faults : each (class_misfits l.sys l.path) 0 l.classes ≡ each (class_misfits l.sys l.path) l.place (drop l.place l.classes);
}
