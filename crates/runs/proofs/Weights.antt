-- Sums over the open lots in which each contract counts by a weight of its lot: the contracts bought less sold, the worth at price 0.
use Rattle.std.proofs.Common.{◌≡◌, ℕ, ◌-◌, ◌<◌, ◌≤◌, Bool, true, false, cond, ◌&&◌, eqb, List, [], ◌∷◌, length, ℤ, pos, negsuc, ◌+ℤ◌, ◌-ℤ◌, ◌*ℤ◌, neg_ℤ, sym, refl, ap, ◌∙◌, ⊎_elim, arith}
use lib.IntN.{zero-*ℤ}
use borrow.Author.Differences.{ints}
use Rattle.std.proofs.lemmas.Bool.{eqb-true, cases_eq}
use Rattle.money.specs.Sums.{sum_z}
use Rattle.money.specs.Products.{step_worth}
use Rattle.money.specs.Ints.{multiplied, times_assoc}
use Rattle.money.proofs.Sums.{sum_same, sum_plus, sum_by, sum_set}
use Rattle.records.specs.declared.lots.Side.TheVariants.{Bought, Sold}
use Rattle.records.specs.declared.lots.Lot.{Lot}
use Rattle.records.specs.Lots.{is_bought, nobody, gain, lot_worth, open_worth}
use Rattle.closing.specs.Rules.{OpenLot, lot_at}
use Rattle.pairing.specs.Pairs.{with_remaining, reduced, still_open, paired}
use Rattle.pairing.proofs.Sweeping.{leaves, stays}
use Rattle.pairing.proofs.Held.{other_kept, still_within}
use Rattle.report.specs.State.{Ledger}

abbrev pub weighted : (Lot → ℤ) → List Lot → ℤ
weighted k = sum_z (λ l. pos l.remaining *ℤ k l)

-- a lot of which nothing remains has no weight
weighted_open : (k : Lot → ℤ) (lots : List Lot) → weighted k (still_open lots) ≡ weighted k lots
weighted_open k [] = refl
weighted_open k (l ∷ lots) =
    let rest = weighted_open k lots in
    ⊎_elim
    (λ (z : l.remaining ≡ 0).
    let none : pos l.remaining *ℤ k l ≡ pos 0 = ap (λ (n : ℕ). pos n *ℤ k l) z ∙ zero-*ℤ (k l) in
    ap (weighted k) (leaves l lots z) ∙ omega (arith, ints, none, rest))
    (λ (z : l.remaining ≡ 0 → ⊥). ap (weighted k) (stays l lots z) ∙ ap (λ (x : ℤ). pos l.remaining *ℤ k l +ℤ x) rest)
    (cases_eq l.remaining 0)

-- a weight that does not look at what remains
abbrev pub UnitWeight : (Lot → ℤ) → Type 0
UnitWeight k = (l : Lot) (n : ℕ) → k (with_remaining l n) ≡ k l

taken : (n q : ℕ) (k : ℤ) → q ≤ n → pos (n - q) *ℤ k -ℤ pos n *ℤ k ≡ neg_ℤ (pos q *ℤ k)
taken n q k h =
    let less : pos (n - q) ≡ pos n -ℤ pos q = omega (arith, ints) in
    rw less (simp multiplied (omega (arith, ints)))

weighted_reduced : (k : Lot → ℤ) → UnitWeight k → (lots : List Lot) (i q : ℕ) → i < length lots → q ≤ (lot_at lots i).remaining →
    weighted k (reduced lots i q) ≡ weighted k lots -ℤ pos q *ℤ k (lot_at lots i)
weighted_reduced k unit lots i q within enough =
    let l : Lot = lot_at lots i in
    sum_set (λ x. pos x.remaining *ℤ k x) lots i (with_remaining l (l.remaining - q)) nobody within
    ∙ ap (λ (z : ℤ). weighted k lots +ℤ z)
    (ap (λ (z : ℤ). pos (l.remaining - q) *ℤ z -ℤ pos l.remaining *ℤ k l) (unit l (l.remaining - q)) ∙ taken l.remaining q (k l) enough)

-- a pair takes its contracts of both lots
pub weighted_paired : (k : Lot → ℤ) → UnitWeight k → (a p : ℕ) (l : Ledger) (b s q : ℕ) → OpenLot l.lots a p Bought b q → OpenLot l.lots a p Sold s q →
    weighted k (paired l b s q).lots ≡ weighted k l.lots -ℤ pos q *ℤ k (lot_at l.lots b) -ℤ pos q *ℤ k (lot_at l.lots s)
weighted_paired k unit a p l b s q bought sold =
    let other = other_kept a p l b s q bought sold in
    weighted_open k (reduced (reduced l.lots b q) s q)
    ∙ weighted_reduced k unit (reduced l.lots b q) s q (still_within a p l b s q bought sold) (rw other sold.enough)
    ∙ ap (λ (x : Lot). weighted k (reduced l.lots b q) -ℤ pos q *ℤ k x) other
    ∙ ap (λ (z : ℤ). z -ℤ pos q *ℤ k (lot_at l.lots s)) (weighted_reduced k unit l.lots b q bought.within bought.enough)

-- THE TWO WEIGHTS

-- counted for a lot of that account and product, and 0 for any other
abbrev pub if_of : ℕ → ℕ → Lot → ℤ → ℤ
if_of a p l z = cond (eqb l.account a && eqb l.product p) z (pos 0)

-- one contract: bought 1, sold -1
abbrev pub unit_net : ℕ → ℕ → Lot → ℤ
unit_net a p l = if_of a p l (cond (is_bought l.side) (pos 1) (negsuc 0))

-- what a contract is worth at price 0
abbrev pub unit_rest : ℕ → ℕ → Lot → ℤ
unit_rest a p l = if_of a p l (gain 0 l +ℤ l.points)

-- what counts for product p counts by p in place of the lot's product
pub own_product : (a p : ℕ) (l : Lot) (z : ℤ) (f : ℕ → ℤ) → if_of a p l z *ℤ f l.product ≡ if_of a p l z *ℤ f p
own_product a p l z f = by (eqb l.account a) (eqb l.product p) refl
  where
    by : (x y : Bool) → eqb l.product p ≡ y → cond (x && y) z (pos 0) *ℤ f l.product ≡ cond (x && y) z (pos 0) *ℤ f p
    by true true e = ap (λ (n : ℕ). z *ℤ f n) (eqb-true l.product p e)
    by true false e = zero-*ℤ (f l.product) ∙ sym (zero-*ℤ (f p))
    by false y e = zero-*ℤ (f l.product) ∙ sym (zero-*ℤ (f p))

-- the worth of a lot: contracts × step worth × price, and the worth at price 0
worth_splits : (mine bought : Bool) (r w now price points : ℤ) →
    cond mine (r *ℤ (cond bought (w *ℤ (now -ℤ price)) (w *ℤ (price -ℤ now)) +ℤ points)) (pos 0)
    ≡ r *ℤ (cond mine (cond bought (pos 1) (negsuc 0)) (pos 0) *ℤ (w *ℤ now))
    +ℤ r *ℤ cond mine (cond bought (w *ℤ (pos 0 -ℤ price)) (w *ℤ (price -ℤ pos 0)) +ℤ points) (pos 0)
worth_splits true true r w now price points = simp multiplied (omega (arith, ints))
worth_splits true false r w now price points = simp multiplied (omega (arith, ints))
worth_splits false bought r w now price points = simp multiplied (omega (arith, ints))

pub open_worth_splits : (now a p : ℕ) (lots : List Lot) →
    open_worth now a p lots ≡ weighted (unit_net a p) lots *ℤ (pos (step_worth p) *ℤ pos now) +ℤ weighted (unit_rest a p) lots
open_worth_splits now a p lots =
    sum_same (λ l. if_of a p l (lot_worth now l)) (λ l. (pos l.remaining *ℤ unit_net a p l) *ℤ (pos (step_worth p) *ℤ pos now) +ℤ pos l.remaining *ℤ unit_rest a p l) each lots
    ∙ sum_plus (λ l. (pos l.remaining *ℤ unit_net a p l) *ℤ (pos (step_worth p) *ℤ pos now)) (λ l. pos l.remaining *ℤ unit_rest a p l) lots
    ∙ ap (λ (z : ℤ). z +ℤ weighted (unit_rest a p) lots) (sum_by (λ l. pos l.remaining *ℤ unit_net a p l) (pos (step_worth p) *ℤ pos now) lots)
  where
    each : (l : Lot) → if_of a p l (lot_worth now l)
        ≡ (pos l.remaining *ℤ unit_net a p l) *ℤ (pos (step_worth p) *ℤ pos now) +ℤ pos l.remaining *ℤ unit_rest a p l
    each l =
        worth_splits (eqb l.account a && eqb l.product p) (is_bought l.side) (pos l.remaining) (pos (step_worth l.product)) (pos now) (pos l.price) l.points
        ∙ ap (λ (z : ℤ). pos l.remaining *ℤ z +ℤ pos l.remaining *ℤ unit_rest a p l)
        (own_product a p l (cond (is_bought l.side) (pos 1) (negsuc 0)) (λ p'. pos (step_worth p') *ℤ pos now))
        ∙ ap (λ (z : ℤ). z +ℤ pos l.remaining *ℤ unit_rest a p l) (sym (times_assoc (pos l.remaining) (unit_net a p l) (pos (step_worth p) *ℤ pos now)))
