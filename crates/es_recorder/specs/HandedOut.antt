-- How many events a recorder has handed out.
use Rattle.std.specs.Prelude.{ℕ, ◌+◌, ◌-◌, ◌^◌, min, List, length, Option, Result, Ok, Err}
use Rattle.std.specs.Option.{option_map}
use Rattle.es_model.specs.declared.memory.CallFault.{CallFault}

-- how many a call has answered
abbrev pub answered : {A : Type 0} → Result (List A) CallFault → ℕ
answered (Ok xs) = length xs
answered (Err fault) = 0

-- the count after a call, where it is told; it stays at the greatest number of its type
abbrev pub count_after : {A : Type 0} → Option ℕ → Result (List A) CallFault → Option ℕ
count_after count result = option_map (λ n. min (n + answered result) (2 ^ 64 - 1)) count
