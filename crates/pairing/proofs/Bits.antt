-- What the machine adds up is the sum.
use Rattle.std.proofs.Common.{◌≡◌, ◌≤◌, ℤ, ◌+ℤ◌, nat_abs, ap, ◌∙◌, arith, w64, to_z, of_z}
use Rattle.std.proofs.lemmas.Int.{ints}

pub each_is : (m u v : ℤ) → nat_abs m ≤ 999999000 → nat_abs u ≤ 200000000 → nat_abs v ≤ 200000000 →
    to_z w64 (of_z w64 (to_z w64 (of_z w64 m) +ℤ to_z w64 (of_z w64 (to_z w64 (of_z w64 u) +ℤ to_z w64 (of_z w64 v))))) ≡ m +ℤ (u +ℤ v)
each_is m u v h i j =
    let x : to_z w64 (of_z w64 u) +ℤ to_z w64 (of_z w64 v) ≡ u +ℤ v = omega (arith, ints) in
    let y : to_z w64 (of_z w64 (u +ℤ v)) ≡ u +ℤ v = omega (arith, ints) in
    let z : to_z w64 (of_z w64 m) +ℤ (u +ℤ v) ≡ m +ℤ (u +ℤ v) = omega (arith, ints) in
    let t : to_z w64 (of_z w64 (m +ℤ (u +ℤ v))) ≡ m +ℤ (u +ℤ v) = omega (arith, ints) in
    ap (λ (k : ℤ). to_z w64 (of_z w64 (to_z w64 (of_z w64 m) +ℤ to_z w64 (of_z w64 k)))) x
    ∙ (ap (λ (k : ℤ). to_z w64 (of_z w64 (to_z w64 (of_z w64 m) +ℤ k))) y ∙ (ap (λ (k : ℤ). to_z w64 (of_z w64 k)) z ∙ t))
