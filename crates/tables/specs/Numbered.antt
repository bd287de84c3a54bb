-- Tables counted from 1.
use Rattle.std.specs.Prelude.{ℕ, ◌-◌, cond, List, None, Option, nat_le, slice_get}

-- the entry with that number, if there is one
abbrev pub numbered : {X : Type 0} → List X → ℕ → Option X
numbered table n = cond (nat_le 1 n) (slice_get table (n - 1)) None
