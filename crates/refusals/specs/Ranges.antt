-- Tests of ranges, and the first cause that holds.
use Rattle.std.specs.Prelude.{ℕ, Bool, cond, not, ◌&&◌, List, [], ◌∷◌, ℤ, Some, None, Ok, Err, Option, Result, int_le, nat_le}
use Rattle.std.specs.List.{list_any}
use Rattle.refusals.specs.declared.Refusal.{Refusal}

-- n is not low to high
abbrev pub outside : ℕ → ℕ → ℕ → Bool
outside low high n = not (nat_le low n && nat_le n high)

-- the same of a signed number
abbrev pub outside_ℤ : ℤ → ℤ → ℤ → Bool
outside_ℤ low high z = not (int_le low z && int_le z high)

-- some element passes the test
abbrev pub any : {X : Type 0} → (X → Bool) → List X → Bool
any = list_any

-- Causes stand in the order in which they are tested, each as a test and the refusal where it holds.
abbrev pub Cause : Type 0
Cause = Bool × Refusal

-- the first cause that holds
abbrev pub first : List Cause → Option Refusal
first [] = None
first ((holds, refusal) ∷ rest) = cond holds (Some refusal) (first rest)

-- what is answered: the refusal where there is one, else x
abbrev pub answered : {X : Type 0} → Option Refusal → X → Result X Refusal
answered None x = Ok x
answered (Some refusal) x = Err refusal

-- a result with f of what was accepted
abbrev pub accepted_as : {X Y E : Type 0} → (X → Y) → Result X E → Result Y E
accepted_as f (Ok x) = Ok (f x)
accepted_as f (Err e) = Err e
