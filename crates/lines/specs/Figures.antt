-- What a run of fields holds.
use Rattle.std.specs.Prelude.{ℕ, ◌+◌, List, [], ◌∷◌, Some, None, Ok, Err, Option, Result}

-- What one field holds, before what the fields after it hold; the place of the field where it is bad.
abbrev pub before : {X : Type 0} → ℕ → Option X → Result (List X) ℕ → Result (List X) ℕ
before place None rest = Err place
before place (Some x) (Ok xs) = Ok (x ∷ xs)
before place (Some x) (Err bad) = Err bad

-- What the fields from a place on hold, or the place of the first bad one.
abbrev pub figures : {X : Type 0} → (List ℕ → Option X) → ℕ → List (List ℕ) → Result (List X) ℕ
figures reads place [] = Ok []
figures reads place (f ∷ fs) = before place (reads f) (figures reads (place + 1) fs)

-- The first, and what follows from its result; a bad place passes through.
abbrev pub and_then : {X Y : Type 0} → Result X ℕ → (X → Result Y ℕ) → Result Y ℕ
and_then (Ok x) f = f x
and_then (Err bad) f = Err bad
