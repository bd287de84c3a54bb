-- Schedules of base amounts: what is asked in yen for one open contract of a product.
use Rattle.std.specs.Prelude.{◌≡◌, ℕ, ◌+◌, ◌-◌, ◌*◌, ◌/◌, ◌≤◌, min, max, true, cond, List, slice_index}
use Rattle.refusals.specs.Ranges.{outside}

-- the largest base amount, and the largest percentage by which one is raised
abbrev pub largest_amount : ℕ
largest_amount = 1000000000

abbrev pub largest_percentage : ℕ
largest_percentage = 100

-- what every schedule's meaning keeps: no amount is above the largest, and a product other than 1 to 16 has 0
pub record Scheduled (base : ℕ → ℕ) : Type 0 where
  pub most : (p : ℕ) → base p ≤ largest_amount
  pub others : (p : ℕ) → outside 1 16 p ≡ true → base p ≡ 0

-- the published schedule: a list of sixteen amounts, counted from 1
abbrev pub published : List ℕ → ℕ → ℕ
published amounts p = cond (outside 1 16 p) 0 (slice_index amounts (p - 1))

-- the least whole number not below n ÷ 1,000
abbrev pub thousandths_up : ℕ → ℕ
thousandths_up n = (n + 999) / 1000

-- r is not below n ÷ 1,000, and no smaller whole number is
pub record LeastThousandths (n r : ℕ) : Type 0 where
  pub enough : n ≤ 1000 * r
  pub least : (m : ℕ) → n ≤ 1000 * m → r ≤ m

-- a base amount raised by u percent, rounded up to 10 yen, at most the largest
abbrev pub raised : ℕ → (ℕ → ℕ) → ℕ → ℕ
raised u base p = min largest_amount (10 * thousandths_up (base p * (100 + u)))

-- the larger of two schedules' amounts
abbrev pub larger : (ℕ → ℕ) → (ℕ → ℕ) → ℕ → ℕ
larger one two p = max (one p) (two p)
