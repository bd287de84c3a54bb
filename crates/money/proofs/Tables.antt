-- Tables of products.
use Rattle.std.proofs.Common.{◌≡◌, ℕ, zero, suc, ◌-◌, ◌*◌, ◌<◌, ◌≤◌, Bool, true, false, cond, ◌&&◌, leb, List, [], ◌∷◌, length, get_or, ℤ, pos, ◌*ℤ◌, nat_abs, sym, refl, ap, ◌∙◌, subst, ⊎_elim, le_refl, mul-le-mul, arith}
use Rattle.std.specs.Option.{unwrap_or}
use Rattle.std.proofs.lemmas.List.{get_or_past}
use Rattle.std.proofs.lemmas.Bool.{and_parts, leb-true, le-leb, cond-true, cases_lt}
use Rattle.money.specs.declared.Row.{Row}
use Rattle.money.specs.declared.CrossKind.{CrossKind}
use Rattle.money.specs.declared.ProductKind.TheVariants as product
use Rattle.money.specs.Kinds.{kind_of}
use Rattle.money.specs.Products.{Priced, of_product, yen_row, rows, step_worth, converter, is_yen, floored, converted, exact_cross}
use Rattle.money.specs.Ints.{size_times}
use Rattle.money.specs.Floors.{whole_few}

-- the entry of a product that there is
pub of_product_at : (table : List ℕ) (p : ℕ) → 1 ≤ p → of_product table p ≡ get_or table (p - 1) 0
of_product_at table p h = cond-true (leb 1 p) (get_or table (p - 1) 0) 0 (le-leb 1 p h)

-- product 0, and any past the table, have 0
pub of_product_none : (table : List ℕ) → of_product table 0 ≡ 0
of_product_none table = refl

pub of_product_past : (table : List ℕ) (p : ℕ) → length table < p → of_product table p ≡ 0
of_product_past table p h = of_product_at table p (omega arith) ∙ get_or_past table (p - 1) 0 (omega arith)

-- the rows, within bounds by a computed test
all_within : List Row → Bool
all_within [] = true
all_within (r ∷ rs) = (leb r.step 1000 && leb (unwrap_or r.by 0) 16) && all_within rs

row_within : (rs : List Row) (k : ℕ) → all_within rs ≡ true → ((get_or rs k (yen_row 0)).step ≤ 1000) × (unwrap_or (get_or rs k (yen_row 0)).by 0 ≤ 16)
unfolding all_within
row_within [] k e = (omega arith, omega arith)
row_within (r ∷ rs) zero e =
    let here = and_parts (leb r.step 1000) (leb (unwrap_or r.by 0) 16) (and_parts (leb r.step 1000 && leb (unwrap_or r.by 0) 16) (all_within rs) e).0 in
    (leb-true r.step 1000 here.0, leb-true (unwrap_or r.by 0) 16 here.1)
row_within (r ∷ rs) (suc k) e = row_within rs k (and_parts (leb r.step 1000 && leb (unwrap_or r.by 0) 16) (all_within rs) e).1

within : (p : ℕ) → (step_worth p ≤ 1000) × (converter p ≤ 16)
unfolding all_within rows
within p =
    elim (leb 1 p) as (λ b. ((cond b (get_or rows (p - 1) (yen_row 0)) (yen_row 0)).step ≤ 1000) × (unwrap_or (cond b (get_or rows (p - 1) (yen_row 0)) (yen_row 0)).by 0 ≤ 16)) [
      | true ↦ row_within rows (p - 1) refl
      | false ↦ (omega arith, omega arith)
    ]

pub step_most : (p : ℕ) → step_worth p ≤ 1000
step_most p = (within p).0

pub converter_most : (p : ℕ) → converter p ≤ 16
converter_most p = (within p).1

-- no price is above 999,999
pub price_most : (prices : List ℕ) → Priced prices → (p : ℕ) → p ≤ 16 → of_product prices p ≤ 999999
price_most prices priced p h =
    ⊎_elim
    (λ (e : 0 < p). subst (λ (n : ℕ). n ≤ 999999) (sym (of_product_at prices p e)) (priced (p - 1) (omega arith)))
    (λ (e : p ≤ 0). let z : p ≡ 0 = omega arith in subst (λ (k : ℕ). of_product prices k ≤ 999999) (sym z) (omega arith))
    (cases_lt 0 p)

-- nor that of a product that there is not
pub any_price_most : (prices : List ℕ) → length prices ≡ 16 → Priced prices → (p : ℕ) → of_product prices p ≤ 999999
any_price_most prices sixteen priced p =
    ⊎_elim
    (λ (h : 16 < p). subst (λ (n : ℕ). n ≤ 999999) (sym (of_product_past prices p (omega arith))) (omega arith))
    (λ (h : p ≤ 16). price_most prices priced p h)
    (cases_lt 16 p)

-- a conversion is at most ten times the amount
floored_most : (z : ℤ) (price : ℕ) → price ≤ 999999 → nat_abs (floored (z *ℤ pos price)) ≤ 10 * nat_abs z
floored_most z price h =
    let m : nat_abs z * price ≤ nat_abs z * 999999 = mul-le-mul (le_refl (nat_abs z)) h in
    whole_few (z *ℤ pos price) (10 * nat_abs z) (rw (size_times z (pos price)) (omega arith))

pub converted_most : (prices : List ℕ) → Priced prices → (p : ℕ) (z : ℤ) → nat_abs (converted prices p z) ≤ 10 * nat_abs z
converted_most prices priced p z =
    elim (is_yen p) as (λ b. nat_abs (cond b z (floored (exact_cross (of_product prices (converter p)) z))) ≤ 10 * nat_abs z) [
      | true ↦ omega arith
      | false ↦ floored_most z (of_product prices (converter p)) (price_most prices priced (converter p) (converter_most p))
    ]

-- the conversion of a product of the cross kind, by its kind
pub cross_converts : (p : ℕ) (k : CrossKind) → product.Cross k ≡ kind_of p → (prices : List ℕ) (z : ℤ) →
    converted prices p z ≡ floored (exact_cross (of_product prices k.by) z)
cross_converts p k e prices z = by_case (is_yen p) e
  where
    by_case : (b : Bool) → product.Cross k ≡ cond b (product.Yen (record { step = step_worth p })) (product.Cross (record { step = step_worth p; by = converter p })) →
        cond b z (floored (exact_cross (of_product prices (converter p)) z)) ≡ floored (exact_cross (of_product prices k.by) z)
    by_case true same = let z : ◌≡◌ {A = ℕ} 0 1 = cc in absurd (omega arith)
    by_case false same = let by_is : k.by ≡ converter p = cc in ap (λ (n : ℕ). floored (exact_cross (of_product prices n) z)) (sym by_is)
