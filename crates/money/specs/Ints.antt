-- Arithmetic of ℤ. `omega (arith, ints)` proves what is linear, with products as unknowns; these lemmas multiply out.
use Rattle.std.specs.Prelude.{◌≡◌, ℕ, ◌+◌, ◌*◌, ◌≤◌, ℤ, pos, negsuc, ◌+ℤ◌, ◌*ℤ◌, neg_ℤ, ◌≤ℤ◌, unsigned_abs, refl}
use Rattle.std.proofs.Common.{sym, ap, ◌∙◌, arith, mul-le-mul_left}
use Rattle.std.proofs.Math.IntN.{*ℤ_comm, zero-*ℤ, *ℤ-zero}
use borrow.Author.Differences.{up, down, sum_is_lem, product_is, neg_is, le_out, ints}

-- multiplying a sum out
pub times_sum : (a b c : ℤ) → a *ℤ (b +ℤ c) ≡ a *ℤ b +ℤ a *ℤ c
times_sum a b c = omega (arith, ints, ap (λ (x : ℕ). up a * x) (sum_is_lem b c), ap (λ (x : ℕ). down a * x) (sum_is_lem b c))

pub sum_times : (a b c : ℤ) → (a +ℤ b) *ℤ c ≡ a *ℤ c +ℤ b *ℤ c
sum_times a b c = *ℤ_comm (a +ℤ b) c ∙ times_sum c a b ∙ (omega (arith, ints))

pub times_neg : (a b : ℤ) → a *ℤ neg_ℤ b ≡ neg_ℤ (a *ℤ b)
times_neg a b = omega (arith, ints, ap (λ (x : ℕ). up a * x) (neg_is b).0, ap (λ (x : ℕ). up a * x) (neg_is b).1, ap (λ (x : ℕ). down a * x) (neg_is b).0, ap (λ (x : ℕ). down a * x) (neg_is b).1)

pub neg_times : (a b : ℤ) → neg_ℤ a *ℤ b ≡ neg_ℤ (a *ℤ b)
neg_times a b = *ℤ_comm (neg_ℤ a) b ∙ times_neg b a ∙ ap neg_ℤ (*ℤ_comm b a)

pub times_assoc : (a b c : ℤ) → (a *ℤ b) *ℤ c ≡ a *ℤ (b *ℤ c)
times_assoc a b c = omega (
  arith,
  ints,
  ap (λ (x : ℕ). x * up c) (product_is a b).0,
  ap (λ (x : ℕ). x * down c) (product_is a b).0,
  ap (λ (x : ℕ). x * up c) (product_is a b).1,
  ap (λ (x : ℕ). x * down c) (product_is a b).1,
  ap (λ (x : ℕ). up a * x) (product_is b c).0,
  ap (λ (x : ℕ). down a * x) (product_is b c).0,
  ap (λ (x : ℕ). up a * x) (product_is b c).1,
  ap (λ (x : ℕ). down a * x) (product_is b c).1,
)

pub times_swap : (a b c : ℤ) → a *ℤ (b *ℤ c) ≡ b *ℤ (a *ℤ c)
times_swap a b c = sym (times_assoc a b c) ∙ ap (λ (x : ℤ). x *ℤ c) (*ℤ_comm a b) ∙ times_assoc b a c

pub one_times : (a : ℤ) → pos 1 *ℤ a ≡ a
one_times a = omega (arith, ints)

pub minus_times : (a : ℤ) → negsuc 0 *ℤ a ≡ neg_ℤ a
minus_times a = omega (arith, ints)

pub times_one : (a : ℤ) → a *ℤ pos 1 ≡ a
times_one a = omega (arith, ints)

pub times_minus : (a : ℤ) → a *ℤ negsuc 0 ≡ neg_ℤ a
times_minus a = omega (arith, ints)

-- `simp multiplied (omega (arith, ints))`: the products of the goal are multiplied out and their factors sorted; what is left is linear
pub ruleset multiplied = (zero-*ℤ, *ℤ-zero, one_times, minus_times, times_one, times_minus, times_sum, sum_times, times_neg, neg_times, times_assoc, times_swap, *ℤ_comm)

-- ---- sizes: how far from 0
pub size_times : (a b : ℤ) → unsigned_abs (a *ℤ b) ≡ unsigned_abs a * unsigned_abs b
size_times (pos a) (pos b) = refl
size_times (pos a) (negsuc b) = omega (arith, ints)
size_times (negsuc a) (pos b) = omega (arith, ints)
size_times (negsuc a) (negsuc b) = refl

pub size_plus : (a b : ℤ) → unsigned_abs (a +ℤ b) ≤ unsigned_abs a + unsigned_abs b
size_plus a b = omega (arith, ints)

pub times_at_most : (n : ℕ) (b c : ℤ) → b ≤ℤ c → (pos n *ℤ b) ≤ℤ (pos n *ℤ c)
times_at_most n b c h = omega (arith, ints, mul-le-mul_left n (le_out b c h))
