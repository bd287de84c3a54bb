-- The first record that passes a test, and why the pairs of the three rules are lawful.
use Rattle.std.specs.Prelude.{◌≡◌, ℕ, ◌+◌, ◌<◌, ◌≤◌, min, Bool, true, false, cond, not, ◌&&◌, List, [], ◌∷◌, length, drop, Some, None, Option, ◌==◌, nat_lt, slice_index_or, refl}
use Rattle.std.proofs.Common.{ap, subst, ◌∙◌, ⊎_elim, arith, one-add}
use Rattle.std.proofs.lemmas.List.{at_drop_more, at_drop_all}
use Rattle.std.proofs.lemmas.Bool.{and_parts, eqb-true, ltb-true, cases_Bool}
use Rattle.records.specs.declared.lots.Side.{Side}
use Rattle.records.specs.declared.lots.Side.TheVariants.{Bought, Sold}
use Rattle.records.specs.declared.lots.Lot.{Lot}
use Rattle.records.specs.Lots.{column, is_of, nobody}
use Rattle.closing.specs.Rules.{Pair, Rule, Lawful, OpenLot, lot_at, place_of, first_of, oldest_first, designated, by_account, marked}
use Rattle.refusals.specs.Ranges.{outside}
use Rattle.std.proofs.ByRecursion.{All-get_or}

module _ (f : Lot → Bool) where
  -- one step past a record that fails
  pub place_more : (x : Lot) (xs : List Lot) → f x ≡ false → place_of f (x ∷ xs) ≡ 1 + place_of f xs
  place_more x xs e = ap (λ (t : Bool). cond (not t) (1 + place_of f xs) 0) e

  pub place_here : (x : Lot) (xs : List Lot) → f x ≡ true → place_of f (x ∷ xs) ≡ 0
  place_here x xs e = ap (λ (t : Bool). cond (not t) (1 + place_of f xs) 0) e

  -- the record at the place passes
  pub place_passes : (xs : List Lot) (d : Lot) → place_of f xs < length xs → f (slice_index_or xs (place_of f xs) d) ≡ true
  place_passes [] d h = absurd (omega arith)
  place_passes (x ∷ xs) d h =
      ⊎_elim
      (λ (e : f x ≡ true). ap (λ (k : ℕ). f (slice_index_or (x ∷ xs) k d)) (place_here x xs e) ∙ e)
      (λ (e : f x ≡ false).
      let m = place_more x xs e in
      let lt : place_of f xs < length xs = omega arith in
      ap (λ (k : ℕ). f (slice_index_or (x ∷ xs) k d)) (m ∙ one-add (place_of f xs)) ∙ place_passes xs d lt)
      (cases_Bool (f x))

  -- the steps of a search
  pub place_at : (xs : List Lot) (i : ℕ) (d : Lot) → i < length xs → f (slice_index_or xs i d) ≡ true → place_of f (drop i xs) ≡ 0
  place_at xs i d h e = at_drop_more (place_of f) xs i d h ∙ place_here (slice_index_or xs i d) (drop (i + 1) xs) e

  pub place_next : (xs : List Lot) (i : ℕ) (d : Lot) → i < length xs → f (slice_index_or xs i d) ≡ false → place_of f (drop i xs) ≡ 1 + place_of f (drop (i + 1) xs)
  place_next xs i d h e = at_drop_more (place_of f) xs i d h ∙ place_more (slice_index_or xs i d) (drop (i + 1) xs) e

  pub place_none : (xs : List Lot) (i : ℕ) → length xs ≤ i → place_of f (drop i xs) ≡ 0
  place_none xs i h = at_drop_all (place_of f) xs i h

pub bought_is : (s : Side) → column s ≡ 0 → s ≡ Bought
bought_is Bought e = refl
bought_is Sold e = absurd (omega arith)

sold_is : (s : Side) → column s ≡ 1 → s ≡ Sold
sold_is Bought e = absurd (omega arith)
sold_is Sold e = refl

pub of_parts : (a p c : ℕ) (l : Lot) → is_of a p c l ≡ true → (l.account ≡ a) × (l.product ≡ p) × (column l.side ≡ c)
of_parts a p c l e =
    let x = and_parts (l.account == a) (l.product == p && column l.side == c) e in
    let y = and_parts (l.product == p) (column l.side == c) x.1 in
    (eqb-true l.account a x.0, eqb-true l.product p y.0, eqb-true (column l.side) c y.1)

-- what a choice that gave something gave
pub picked : {X : Type 0} (t : Bool) (x y : X) → cond t (Some x) None ≡ Some y → (t ≡ true) × (x ≡ y)
picked true x y e = (refl, cc)
picked false x y e = let z : ◌≡◌ {A = ℕ} 0 1 = cc in absurd (omega arith)

Good : List Lot → ℕ → ℕ → (ℕ × ℕ × ℕ) → Type 0
Good lots a p t = OpenLot lots a p Bought t.0 t.2 × OpenLot lots a p Sold t.1 t.2 × (1 ≤ t.2)

pub oldest_lawful : Lawful oldest_first
unfolding Good
oldest_lawful = record {
  lawful = λ a p lots all_open b s q e.
      let k : ℕ = first_of a p 0 lots in
      let m : ℕ = first_of a p 1 lots in
      let got = picked (nat_lt k (length lots) && nat_lt m (length lots)) (k, m, min (lot_at lots k).remaining (lot_at lots m).remaining) (b, s, q) e in
      let two = and_parts (nat_lt k (length lots)) (nat_lt m (length lots)) got.0 in
      let k_in = ltb-true k (length lots) two.0 in
      let m_in = ltb-true m (length lots) two.1 in
      let x = of_parts a p 0 (lot_at lots k) (place_passes (is_of a p 0) lots nobody k_in) in
      let y = of_parts a p 1 (lot_at lots m) (place_passes (is_of a p 1) lots nobody m_in) in
      let k_open = All-get_or (λ (l : Lot). 1 ≤ l.remaining) lots k nobody k_in all_open in
      let m_open = All-get_or (λ (l : Lot). 1 ≤ l.remaining) lots m nobody m_in all_open in
      subst (Good lots a p) got.1 (
        record { within = k_in; account_is = x.0; product_is = x.1; side_is = bought_is (lot_at lots k).side x.2; enough = omega arith },
        record { within = m_in; account_is = y.0; product_is = y.1; side_is = sold_is (lot_at lots m).side y.2; enough = omega arith },
        omega (arith, k_open, m_open),
      );
}

-- a rule that never pairs
pub designated_lawful : Lawful designated
designated_lawful = record { lawful = λ a p lots all_open b s q e. let z : ◌≡◌ {A = ℕ} 0 1 = cc in absurd (omega arith) }

pub by_account_lawful : (marks : List ℕ) (one two : Rule) → Lawful one → Lawful two → Lawful (by_account marks one two)
by_account_lawful marks one two f g = record {
  lawful = λ a p lots all_open b s q.
      let P : Option Pair → Type 0 = λ o. o ≡ Some (b, s, q) → OpenLot lots a p Bought b q × OpenLot lots a p Sold s q × (1 ≤ q) in
      elim (outside 1 64 a) as (λ t. P (cond t None (cond (marked marks a) (two.pairing a p lots) (one.pairing a p lots)))) [
        | true ↦ λ e. let z : ◌≡◌ {A = ℕ} 0 1 = cc in absurd (omega arith)
        | false ↦ elim (marked marks a) as (λ t. P (cond t (two.pairing a p lots) (one.pairing a p lots))) [
          | true ↦ λ e. g.lawful a p lots all_open b s q e
          | false ↦ λ e. f.lawful a p lots all_open b s q e
        ]
      ];
}
