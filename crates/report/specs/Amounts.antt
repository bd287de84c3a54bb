-- What the proofs know of a report's amounts: sums over the products, how large a move of the price is, and numbers that are not below 0.
use Rattle.std.specs.Prelude.{◌≡◌, ℕ, suc, ◌+◌, ◌-◌, ◌≤◌, ℤ, pos, negsuc, ◌+ℤ◌, ◌-ℤ◌, unsigned_abs, refl}
use Rattle.std.specs.Int.{int_max, int_min}
use Rattle.std.proofs.Common.{sym, ap, subst, ◌∙◌, arith, mul-le-mul}
use Rattle.std.proofs.lemmas.Int.{ints, clamps}
use Rattle.money.specs.Sums.{sum_to}
use Rattle.money.specs.Products.{step_worth, move_worth}
use Rattle.money.specs.Ints.{size_times}
use Rattle.money.proofs.Tables.{step_most}
use Rattle.report.specs.Report.{not_below_0, smaller}

-- a sum over the products, one product more
pub sum_none : (f : ℕ → ℤ) → sum_to f 0 ≡ pos 0
unfolding sum_to
sum_none f = refl

next : (f : ℕ → ℤ) (n : ℕ) → sum_to f (suc n) ≡ f (suc n) +ℤ sum_to f n
unfolding sum_to
next f n = refl

-- the same in a loop that has summed the products below p
pub sum_next : (f : ℕ → ℤ) (p : ℕ) → 1 ≤ p → sum_to f (p + 1 - 1) ≡ f p +ℤ sum_to f (p - 1)
sum_next f p h =
    let here : p + 1 - 1 ≡ suc (p - 1) = omega arith in
    let is : suc (p - 1) ≡ p = omega arith in
    ap (sum_to f) here ∙ (next f (p - 1) ∙ ap (λ (k : ℕ). f k +ℤ sum_to f (p - 1)) is)

-- what a move of the price is worth
move_few : (step from to : ℕ) → step ≤ 1000 → from ≤ 999999 → to ≤ 999999 → unsigned_abs (move_worth step from to) ≤ 999999000
move_few step from to s f t =
    let moved : unsigned_abs (pos to -ℤ pos from) ≤ 999999 = omega (arith, ints) in
    subst (λ (n : ℕ). n ≤ 999999000) (sym (size_times (pos step) (pos to -ℤ pos from))) (mul-le-mul s moved)

pub move_of_product_few : (p from to : ℕ) → from ≤ 999999 → to ≤ 999999 → unsigned_abs (move_worth (step_worth p) from to) ≤ 999999000
move_of_product_few p from to f t = move_few (step_worth p) from to (step_most p) f t

-- in the words of `max` and `min`
pub not_below_is : (z : ℤ) → pos (not_below_0 z) ≡ int_max z (pos 0)
not_below_is (pos n) = omega (arith, ints, clamps)
not_below_is (negsuc n) = refl

pub smaller_is : (x y : ℤ) → smaller x y ≡ int_min x y
smaller_is x y = grind (arith, ints)
