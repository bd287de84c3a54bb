-- Sums of whole numbers.
use Rattle.std.specs.Prelude.{ℕ, zero, suc, List, [], ◌∷◌, ℤ, pos, ◌+ℤ◌}

-- the sum of f over a list
abbrev pub sum_z : {X : Type 0} → (X → ℤ) → List X → ℤ
sum_z f [] = pos 0
sum_z f (x ∷ xs) = f x +ℤ sum_z f xs

-- n, n − 1, .. 1
abbrev pub down_from : ℕ → List ℕ
down_from zero = []
down_from (suc n) = suc n ∷ down_from n

-- f n + .. + f 1: over all accounts with n their number, over all products with n = 16
unfoldable pub sum_to : (ℕ → ℤ) → ℕ → ℤ
sum_to f n = sum_z f (down_from n)
