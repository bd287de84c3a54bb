-- What a reader answers, and what it leaves to its caller.
use Rattle.std.specs.Prelude.{◌≡◌, ℕ, List, Ok, Err, Result, MatchResult}
use Rattle.refusals.specs.declared.Refusal.{Refusal}
use Rattle.refusals.specs.declared.Refusal.TheVariants.{Line}
use Rattle.lines.specs.Said.{Said}

-- The answer where something could be read, and where a field is bad.
abbrev pub answer : {X : Type 0} → Result X ℕ → Result (Unit {0}) Refusal
answer (Ok x) = Ok tt
answer (Err bad) = Err (Line bad)

-- What the caller's event says then: what was read, or what it said before.
abbrev pub kept : Result Said ℕ → Said → Said
kept (Ok s) old = s
kept (Err bad) old = old

-- A reader of what p says answers r, and turns what the caller's event says from old to new.
pub record Reading (p : Result Said ℕ) (r : Result (Unit {0}) Refusal) (old new : Said) : Type 0 where
  pub answers : r ≡ answer p
  pub keeps : new ≡ kept p old

-- A table was filled as p says, and `follows` holds of what came after it; or p's first bad field is refused.
abbrev pub Filling : {X R : Type 0} → Result (List X) ℕ → Result R Refusal → List X → (R → Type 0) → Type 0
Filling p r table follows = MatchResult r (λ after. (p ≡ Ok table) × follows after) (λ refusal. answer p ≡ Err refusal)
