-- What is known where a test, or each of a list of causes, did not hold.
use Rattle.std.proofs.Common.{◌≡◌, ℕ, zero, suc, ◌<◌, ◌≤◌, Bool, true, false, cond, ◌&&◌, leb, List, [], ◌∷◌, length, get_or, Some, None, Ok, Err, Option, refl, arith}
use Rattle.std.specs.List.{AllByRecursion}
use Rattle.std.proofs.lemmas.Bool.{and_parts, or_parts, not-false, leb-true}
use Rattle.refusals.specs.declared.Refusal.{Refusal}
use Rattle.refusals.specs.Ranges.{Cause, first, answered, outside, any}

pub inside : (low high n : ℕ) → outside low high n ≡ false → (low ≤ n) × (n ≤ high)
inside low high n e =
    let both = and_parts (leb low n) (leb n high) (not-false (leb low n && leb n high) e) in
    (leb-true low n both.0, leb-true n high both.1)

no_first : (b : Bool) (r : Refusal) (rest : Option Refusal) → cond b (Some r) rest ≡ None → (b ≡ false) × (rest ≡ None)
no_first true r rest e = let z : ◌≡◌ {A = ℕ} 0 1 = cc in absurd (omega arith)
no_first false r rest e = (refl, e)

-- where no cause is the first, none of the list holds
pub no_cause : (cs : List Cause) → first cs ≡ None → AllByRecursion (λ (c : Cause). c.0 ≡ false) cs
no_cause [] e = tt
no_cause (c ∷ cs) e = let both = no_first c.0 c.1 (first cs) e in (both.0, no_cause cs both.1)

-- where no element passes a test, the one at each place does not
pub none_at : {X : Type 0} (test : X → Bool) (xs : List X) → any test xs ≡ false → (k : ℕ) (d : X) → k < length xs → test (get_or xs k d) ≡ false
none_at test [] e k d h = absurd (omega arith)
none_at test (x ∷ xs) e zero d h = (or_parts (test x) (any test xs) e).0
none_at test (x ∷ xs) e (suc k) d h = none_at test xs (or_parts (test x) (any test xs) e).1 k d (omega arith)

-- an answer says whether there was a cause, and which
pub refused_by : {X : Type 0} (o : Option Refusal) (x : X) (cause : Refusal) → answered o x ≡ Err cause → Some cause ≡ o
refused_by None x cause e = let z : ◌≡◌ {A = ℕ} 0 1 = cc in absurd (omega arith)
refused_by (Some r) x cause e = cc

pub accepted_by : {X : Type 0} (o : Option Refusal) (x y : X) → answered o x ≡ Ok y → None ≡ o
accepted_by None x y e = refl
accepted_by (Some r) x y e = let z : ◌≡◌ {A = ℕ} 0 1 = cc in absurd (omega arith)

pub accepted_with : {X : Type 0} (o : Option Refusal) (x y : X) → answered o x ≡ Ok y → x ≡ y
accepted_with None x y e = cc
accepted_with (Some r) x y e = let z : ◌≡◌ {A = ℕ} 0 1 = cc in absurd (omega arith)
