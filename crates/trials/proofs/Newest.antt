-- Which lot is the last that passes a test.
use Prim.Native.Nat.{zero}
use Rattle.std.proofs.Common.{◌≡◌, ℕ, suc, ◌+◌, ◌<◌, Bool, true, false, cond, nat_lt, List, [], ◌∷◌, length, get_or, Some, None, Option, sym, refl, ap, ◌∙◌, arith}
use Rattle.std.proofs.lemmas.Bool.{cond-true, cond-false, lt-ltb, le-ltb}
use Rattle.records.specs.declared.lots.Lot.{Lot}
use Rattle.records.specs.Lots.{nobody}
use Rattle.closing.specs.Rules.{Pair}
use Rattle.trials.specs.Odd.{last_from, odd_pair}

-- none passes
pub last_none : (test : Lot → Bool) (i found : ℕ) (ls : List Lot) → ((k : ℕ) → k < length ls → test (get_or ls k nobody) ≡ false) → last_from test i found ls ≡ found
last_none test i found [] none = refl
last_none test i found (l ∷ ls) none =
    last_none test (i + 1) (cond (test l) i found) ls (λ k h. none (suc k) (omega arith)) ∙ ap (λ (b : Bool). cond b i found) (none 0 (omega arith))

-- lot k passes, and none behind it
pub last_some : (test : Lot → Bool) (i found : ℕ) (ls : List Lot) (k : ℕ) → k < length ls → test (get_or ls k nobody) ≡ true → ((j : ℕ) → k < j → j < length ls → test (get_or ls j nobody) ≡ false) → last_from test i found ls ≡ i + k
last_some test i found [] k within here later = absurd (omega arith)
last_some test i found (l ∷ ls) zero within here later =
    last_none test (i + 1) (cond (test l) i found) ls (λ j h. later (suc j) (omega arith) (omega arith)) ∙ (ap (λ (b : Bool). cond b i found) here ∙ omega arith)
last_some test i found (l ∷ ls) (suc k) within here later =
    last_some test (i + 1) (cond (test l) i found) ls k (omega arith) here (λ j after h. later (suc j) (omega arith) (omega arith)) ∙ omega arith

-- the odd rule's pair, by the place of the newest bought lot
pub odd_none : (o : Option Pair) (bought places : ℕ) → bought ≡ places → odd_pair o bought places ≡ None
odd_none None bought places is = refl
odd_none (Some t) bought places is = cond-false (nat_lt bought places) (Some (bought, t.1, 1)) None (le-ltb bought places (omega arith))

pub odd_some : (o : Option Pair) (t : Pair) (bought place places : ℕ) → Some t ≡ o → bought ≡ 0 + place → place < places → odd_pair o bought places ≡ Some (place, t.1, 1)
odd_some o t bought place places paired is within =
    ap (λ (p : Option Pair). odd_pair p bought places) (sym paired)
    ∙ (cond-true (nat_lt bought places) (Some (bought, t.1, 1)) None (lt-ltb bought places (omega arith)) ∙ ap (λ (k : ℕ). Some (k, t.1, 1)) (omega (arith, is)))
