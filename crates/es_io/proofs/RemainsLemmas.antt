-- The bytes that may be left.
use Rattle.std.proofs.Common.{◌≡◌, ℕ, Bool, true, false, List, [], ◌++◌, take, drop, Option, Some, None, Result, Ok, Err, OnErr, refl, sym, ap, ◌∙◌, arith}
use Rattle.std.proofs.lemmas.List.{drop_all, length-take}
use Rattle.std.specs.Io.KnownBytes.{Consumes, Keeps, IsAtEnd}
use Rattle.std.specs.Io.KnownBytes.{prepend_known}
use Rattle.es_io.specs.Remains.{MayHold, MayRemain, MayHaveLeft, ahead_of}
use Rattle.es_io.specs.LinesLeft.{EndsRightly}
use Rattle.es_io.specs.declared.lines.Ahead.{Ahead}
use Rattle.es_io.specs.declared.lines.Lines.{Lines}

pub hold_more : (u v : Option (List ℕ)) (bs rest : List ℕ) → Consumes u v bs → MayHold v rest → MayHold u (bs ++ rest)
hold_more None v bs rest goes may = tt
hold_more (Some xs) None bs rest goes may = absurd goes
hold_more (Some xs) (Some ys) bs rest goes may = ap (λ (t : List ℕ). bs ++ t) may ∙ sym goes

pub hold_kept : (u v : Option (List ℕ)) (rest : List ℕ) → Keeps u v → MayHold v rest → MayHold u rest
hold_kept None v rest same may = tt
hold_kept (Some xs) None rest same may = absurd same
hold_kept (Some xs) (Some ys) rest same may = may ∙ same

pub hold_end : (u : Option (List ℕ)) → IsAtEnd u → MayHold u []
hold_end None end = tt
hold_end (Some xs) end = sym end

-- nothing was read ahead
pub none_ahead : (start end : ℕ) (items : List ℕ) → start ≡ end → drop start (take end items) ≡ []
none_ahead start end items is = drop_all start (take end items) (omega (arith, length-take end items))

pub not_both : (b : Bool) → b ≡ false → b ≡ true → ⊥
not_both b n y = absurd (cc (n, y))

pub on_err : {T E : Type 0} (r : Result T E) (P : Type 0) → P → OnErr r P
on_err (Ok x) P p = tt
on_err (Err e) P p = p

-- something may be left of an object
pub some_held : (u : Option (List ℕ)) → (bytes : List ℕ) × MayHold u bytes
some_held None = ([], tt)
some_held (Some told) = (told, refl)

end_of : (bytes : List ℕ) (u : Option (List ℕ)) → bytes ≡ [] → IsAtEnd (prepend_known bytes u) → MayHold u []
end_of bytes None none end = tt
end_of bytes (Some xs) none end = sym end ∙ ap (λ (t : List ℕ). t ++ xs) none

left_by : {S : Type 0} (left : S → Option (List ℕ)) (l : Lines S) (ended : Bool) → l.ended ≡ ended → EndsRightly left l → (bytes : List ℕ) × MayHaveLeft left l bytes
left_by left l true is ends = (
  [],
  record {
    unread = ([], sym (ap (λ (t : List ℕ). t ++ []) (none_ahead _ _ l.ahead.piece.items (l.spent is))), end_of (ahead_of l.ahead) (left l.ahead.source.now) (none_ahead _ _ l.ahead.piece.items (l.spent is)) (ends is));
    ended = λ e. refl;
  },
)
left_by left l false is ends =
    let some = some_held (left l.ahead.source.now) in
    (ahead_of l.ahead ++ some.0, record { unread = (some.0, refl, some.1); ended = λ e. absurd (not_both _ is e) })

pub something_left : {S : Type 0} (left : S → Option (List ℕ)) (l : Lines S) → EndsRightly left l → (bytes : List ℕ) × MayHaveLeft left l bytes
something_left left l ends = left_by left l l.ended refl ends

-- where nothing was read ahead
pub left_is : {S : Type 0} (left : S → Option (List ℕ)) (a : Ahead S) (bytes : List ℕ) → a.start ≡ a.end → MayHold (left a.source.now) bytes → MayRemain left a bytes
left_is left a bytes none may = (bytes, ap (λ (t : List ℕ). t ++ bytes) (sym (none_ahead a.start a.end a.piece.items none)), may)
