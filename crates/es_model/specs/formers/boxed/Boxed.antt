-- How a `Boxed` stores its value, so that a type may hold itself through one.
use mathlib.Core.Path.{refl}
use mathlib.Core.Former.{Former, this, const, pair, via}
use base.Stored.{gnil}
use base.Fml.{ftrue}
use denote.RattleType.{RattleType}
use denote.Memory.{part_of}
use denote.RawPtr.{Ptr}
use denote.Sharing.{nothing}
use denote.HoleLaws.{Alike}
use denote.HolePlaces.{Recodes, struct_places, laid, one_value}
use denote.Hole.Fix.{over}
use denote.Param.Weighed.{Weighed}
use denote.Model.Placed.{view_places}
use Rattle.std.specs.declared.boxed.Box.{Box}
use Rattle.std.specs.contracts.boxed.Box as std_box
use Rattle.std.specs.declared.alloc.Global.{Global}
use Rattle.std.specs.contracts.alloc.Global as global
use Rattle.std.specs.contracts.impls.GlobalAllocator.TheImpl.{ghosts}
use Rattle.es_model.specs.declared.boxed.Boxed.TheInside.{Inside}
use Rattle.es_model.specs.declared.boxed.Boxed.TheView.{view, invariant}
use Rattle.es_model.specs.contracts.boxed.Boxed as model
use Rattle.es_model.specs.contracts.boxed.Boxed.TheInside as inside

-- a contract sees the one value alone
abbrev pub the_former : Former {0} → Former {0}
the_former value = value

abbrev pub the_weighed : {value : Former {0}} → Weighed value → Weighed (the_former value)
the_weighed weighed = weighed

-- the field: the box's pointer and allocator beside the value
abbrev held_former : Former {0}
held_former =
    via (pair (const (Ptr × Global)) this) Inside
    (λ X s. ((s.held.ptr, s.held.alloc), s.held.value))
    (λ X p. record { held = record { ptr = p.0.0; alloc = p.0.1; value = p.1 } })
    (λ X s. refl) (λ X p. refl)

abbrev holding : {X Y : Type 0} → Box X Global → Y → Box Y Global
holding b value = record { ptr = b.ptr; alloc = b.alloc; value = value }

abbrev box_row : RattleType → RattleType
box_row R = std_box.the_row R global.the_row ghosts

module _ (R S : RattleType) (h : R.Denot → S.Denot) where
  box_alike : Alike R S h → Alike (box_row R) (box_row S) (λ b. holding b (h b.value))
  unfolding part_of
  box_alike alike = record {
    mir_same = λ i. (box_row (one_value R (alike.mir_same i) (λ _. ftrue) (λ _ _. nothing) gnil)).mir;
    own_same = λ b i. (box_row (one_value R (alike.mir_same i) (alike.own_same b.value i) (alike.shr_same b.value i) gnil)).own_val (holding b tt);
    shr_same = λ b i. (box_row (one_value R (alike.mir_same i) (alike.own_same b.value i) (alike.shr_same b.value i) gnil)).shr_at (holding b tt);
  }

  pub the_places : Alike R S h → Alike (model.the_row R) (model.the_row S) ((the_former this).map R.Denot S.Denot h)
  the_places alike =
      view_places held_former this view (λ X Y k s. refl) (λ X s. refl) R.Denot S.Denot h (model.the_row R).coded (model.the_row S).coded
      (invariant R.Denot) (invariant S.Denot) (λ s p q. refl) (λ s p q. refl) (λ s e. tt) (λ s e. tt)
      (over (inside.the_row R)) (over (inside.the_row S))
      (struct_places (inside.the_type R) (inside.the_type S) ((λ b. holding b (h b.value)), tt) _ (λ d. refl) refl (laid _ _ _ (box_alike alike), tt))

  pub the_codes_placed : Recodes R S h → Recodes (model.the_row R) (model.the_row S) ((the_former this).map R.Denot S.Denot h)
  the_codes_placed recodes value = recodes value
