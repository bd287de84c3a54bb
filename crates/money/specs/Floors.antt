-- The floor of a product, split so that both parts stay small.
use Rattle.std.specs.Prelude.{◌≡◌, ℕ, suc, ◌+◌, ◌-◌, ◌*◌, ◌/◌, ◌%◌, ◌≤◌, ℤ, pos, negsuc, ◌+ℤ◌, ◌*ℤ◌, neg_ℤ, ◌≤ℤ◌, ◌<ℤ◌, unsigned_abs}
use Rattle.std.proofs.Common.{sym, ap, ◌∙◌, arith, add-mul, mul_assoc, mul_comm, mul_right_comm}
use Rattle.std.proofs.lemmas.Int.{ints}
use Rattle.money.specs.Products.{floored, rest_of, RoundsDown, exact_yen}

pub floor_unique : (z r : ℤ) → (r *ℤ pos 100000) ≤ℤ z → z <ℤ (r *ℤ pos 100000 +ℤ pos 100000) → floored z ≡ r
floor_unique (pos n) (pos m) h k = ap pos (omega (arith, ints))
floor_unique (pos n) (negsuc m) h k = absurd (omega (arith, ints))
floor_unique (negsuc n) (pos m) h k = absurd (omega (arith, ints))
floor_unique (negsuc n) (negsuc m) h k = ap negsuc (omega (arith, ints))

by_whole : (n p : ℕ) → n * p ≡ n / 100000 * p * 100000 + n % 100000 * p
by_whole n p =
    let e : n ≡ n / 100000 * 100000 + n % 100000 = omega arith in
    ap (λ (k : ℕ). k * p) e ∙ (add-mul (n / 100000 * 100000) (n % 100000) p ∙ ap (λ (k : ℕ). k + n % 100000 * p) (mul_assoc (n / 100000) 100000 p ∙ (ap (λ (k : ℕ). n / 100000 * k) (mul_comm 100000 p) ∙ sym (mul_assoc (n / 100000) p 100000))))

below : (n k q : ℕ) → n + q ≡ k * 100000 → floored (neg_ℤ (pos n)) ≡ neg_ℤ (pos k) +ℤ pos (q / 100000)
below n k q e = floor_unique (neg_ℤ (pos n)) (neg_ℤ (pos k) +ℤ pos (q / 100000)) (omega (arith, ints)) (omega (arith, ints))

pub floor_split : (h : ℤ) (p : ℕ) → floored (h *ℤ pos p) ≡ floored h *ℤ pos p +ℤ pos (rest_of h * p / 100000)
floor_split (pos n) p =
    let e = by_whole n p in
    ap pos (omega arith)
floor_split (negsuc n) p =
    let k : ℕ = n / 100000 in
    let m : ℕ = 99999 - n % 100000 in
    let e : suc n + m ≡ suc k * 100000 = omega arith in
    let f : suc n * p + m * p ≡ suc k * p * 100000 = sym (add-mul (suc n) m p) ∙ (ap (λ (j : ℕ). j * p) e ∙ mul_right_comm (suc k) 100000 p) in
    below (suc n * p) (suc k * p) (m * p) f

pub rest_few : (h : ℤ) → rest_of h ≤ 99999
rest_few (pos n) = omega arith
rest_few (negsuc n) = omega arith

pub whole_few : (h : ℤ) (m : ℕ) → unsigned_abs h ≤ m * 100000 → unsigned_abs (floored h) ≤ m
whole_few (pos n) m k = omega arith
whole_few (negsuc n) m k = omega arith

-- the conversion bound, for every kind of products
pub floor_rounds_down : (z : ℤ) → RoundsDown z (floored z)
floor_rounds_down (pos n) = record { never_above = omega (arith, ints); less_than_one_below = omega (arith, ints) }
floor_rounds_down (negsuc n) = record { never_above = omega (arith, ints); less_than_one_below = omega (arith, ints) }

-- whole yen are the floor of themselves, so the same bound serves them
pub floored_yen : (z : ℤ) → floored (exact_yen z) ≡ z
floored_yen z = floor_unique (exact_yen z) z (omega (arith, ints)) (omega (arith, ints))
