-- The one sum: over the figures of an account, a product and a column.
use Rattle.std.specs.Prelude.{ℕ, cond, ◌&&◌, List, [], ◌∷◌, ℤ, pos, negsuc, ◌+ℤ◌, ◌≤ℤ◌, ◌==◌}
use Rattle.records.specs.declared.sum.Told.{Told}

-- a record's figure counts where account, product and column are those asked for
abbrev pub share : ℕ → ℕ → ℕ → Told → ℤ
share a p c t = cond (t.account == a && (t.product == p && t.column == c)) t.figure (pos 0)

abbrev pub summed : {X : Type 0} → (X → Told) → ℕ → ℕ → ℕ → List X → ℤ
summed told a p c [] = pos 0
summed told a p c (x ∷ xs) = share a p c (told x) +ℤ summed told a p c xs

-- within ±1,000,000,000,000
abbrev pub Within : ℤ → Type 0
Within z = (negsuc 999999999999 ≤ℤ z) × (z ≤ℤ pos 1000000000000)
