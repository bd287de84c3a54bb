-- Tables of yen with a place for each account.
use Rattle.std.proofs.Common.{◌≡◌, ℕ, zero, suc, ◌+◌, ◌-◌, ◌≤◌, leb, List, length, get_or, set, replicate, ℤ, pos, sym, refl, ap, ◌∙◌, arith}
use Rattle.std.proofs.lemmas.List.{get_or-set_same, get_or-set_other}
use Rattle.std.proofs.lemmas.List.FromFn.{length-map-range_with_len, get_or-map-range_with_len}
use Rattle.std.proofs.lemmas.Bool.{le-leb, cond-true, cond_both}
use Rattle.money.specs.declared.Yen.{Yen}
use Rattle.money.specs.Kinds.{yen}
use Rattle.report.specs.State.{of_account, no_yen}
use Rattle.rolling.specs.Sheets.{each_account}

-- the place of an account from 1
at_place : (table : List Yen) (a : ℕ) → 1 ≤ a → of_account table a ≡ (get_or table (a - 1) (yen (pos 0))).0
at_place table a h = cond-true (leb 1 a) (get_or table (a - 1) (yen (pos 0))).0 (pos 0) (le-leb 1 a h)

-- a table in which one amount was written
pub of_set : (table : List Yen) (a : ℕ) (z : ℤ) → 1 ≤ a → a ≤ length table → of_account (set table (a - 1) (yen z)) a ≡ z
of_set table a z h k =
    at_place (set table (a - 1) (yen z)) a h ∙ ap (λ (y : Yen). y.0) (get_or-set_same table (a - 1) (yen z) (yen (pos 0)) (omega arith))

pub of_set_other : (table : List Yen) (a b : ℕ) (z : ℤ) → 1 ≤ a → 1 ≤ b → (b ≡ a → ⊥) → of_account (set table (a - 1) (yen z)) b ≡ of_account table b
of_set_other table a b z h k n =
    at_place (set table (a - 1) (yen z)) b k
    ∙ ap (λ (y : Yen). y.0) (get_or-set_other table (a - 1) (b - 1) (yen z) (yen (pos 0)) (λ e. n (omega arith)))
    ∙ sym (at_place table b k)

-- a table with so many yen for each account
pub length_each : (f : ℕ → ℤ) → length (each_account f) ≡ 64
unfolding each_account
length_each f = length-map-range_with_len (λ k. yen (f (k + 1))) 0 64

pub of_each : (f : ℕ → ℤ) (a : ℕ) → 1 ≤ a → a ≤ 64 → of_account (each_account f) a ≡ f a
unfolding each_account
of_each f a low high =
    let same : a - 1 + 1 ≡ a = omega arith in
    at_place (each_account f) a low
    ∙ ap (λ (y : Yen). y.0) (get_or-map-range_with_len (λ k. yen (f (k + 1))) 0 64 (a - 1) (a - 1) (yen (pos 0)) (omega arith) (omega arith))
    ∙ ap f same

-- a table without yen
getD_zeros : (n i : ℕ) → get_or (replicate n (yen (pos 0))) i (yen (pos 0)) ≡ yen (pos 0)
getD_zeros zero i = refl
getD_zeros (suc n) zero = refl
getD_zeros (suc n) (suc i) = getD_zeros n i

pub of_zeros : (a : ℕ) → of_account no_yen a ≡ pos 0
of_zeros a =
    cond_both (leb 1 a) (get_or no_yen (a - 1) (yen (pos 0))).0 (pos 0) (λ z. z ≡ pos 0)
    (λ e. ap (λ (y : Yen). y.0) (getD_zeros 64 (a - 1))) (λ e. refl)
