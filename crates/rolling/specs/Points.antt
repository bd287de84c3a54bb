-- Swap points, by product.
use Rattle.std.specs.Prelude.{ℕ, ◌-◌, ◌≤◌, cond, List, ℤ, pos, nat_le, slice_index_or, unsigned_abs}

-- a product's points in a sheet, counted from 1; any other product has none
abbrev pub points_of : List ℤ → ℕ → ℤ
points_of points p = cond (nat_le 1 p) (slice_index_or points (p - 1) (pos 0)) (pos 0)

-- points within ±10,000
abbrev pub Mild : List ℤ → Type 0
Mild points = (k : ℕ) → unsigned_abs (slice_index_or points k (pos 0)) ≤ 10000
