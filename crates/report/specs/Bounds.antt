-- How large the worth of lots and slips can be, by their lists.
use Rattle.std.specs.Prelude.{◌≡◌, ℕ, zero, suc, ◌+◌, ◌*◌, ◌≤◌, Bool, true, false, cond, ◌&&◌, List, [], ◌∷◌, length, ℤ, pos, negsuc, ◌+ℤ◌, ◌==◌, unsigned_abs, refl}
use Rattle.std.proofs.Common.{sym, ap, subst, ◌∙◌, arith, mul-le-mul, le_trans, add-one, lit≤}
use Rattle.std.specs.List.{AllByRecursion}
use Rattle.std.proofs.ByRecursion.{All-weaker}
use Rattle.std.proofs.lemmas.Int.{ints}
use Rattle.money.specs.Sums.{sum_to}
use Rattle.money.specs.Products.{Priced, Modest, step_worth, move_worth, converted}
use Rattle.money.specs.Ints.{size_times}
use Rattle.money.proofs.Tables.{converted_most}
use Rattle.records.specs.declared.lots.Lot.{Lot}
use Rattle.records.specs.declared.lots.Slip.{Slip}
use Rattle.records.specs.declared.sum.Told.{Told}
use Rattle.records.specs.Sum.{Within, share}
use Rattle.records.specs.Lots.{is_bought, told_of_slip, slip_sum, gain, lot_worth, open_worth}
use Rattle.report.specs.Sound.{LotSound, SlipSound}
use Rattle.report.specs.Report.{not_below_0}
use Rattle.report.specs.Amounts.{move_of_product_few}

-- a sum over the products, one product more
next : (f : ℕ → ℤ) (n : ℕ) → sum_to f (suc n) ≡ f (suc n) +ℤ sum_to f n
unfolding sum_to
next f n = refl

pub sum_more : (f : ℕ → ℤ) (n : ℕ) → sum_to f (n + 1) ≡ f (n + 1) +ℤ sum_to f n
sum_more f n = ap (sum_to f) (add-one n) ∙ (next f n ∙ ap (λ (k : ℕ). f k +ℤ sum_to f n) (sym (add-one n)))

pub sum_few : (f : ℕ → ℤ) (m : ℕ) → ((p : ℕ) → unsigned_abs (f p) ≤ m) → (n : ℕ) → unsigned_abs (sum_to f n) ≤ m * n
unfolding sum_to
sum_few f m few zero = omega arith
sum_few f m few (suc n) = let rest = sum_few f m few n in let one = few (suc n) in omega (arith, ints)

-- slips
pub slip_within : (s : Slip) → SlipSound s → Within s.worth
slip_within s h = (omega (arith, ints), omega (arith, ints))

pub slips_within : (slips : List Slip) → AllByRecursion SlipSound slips → AllByRecursion (λ (s : Slip). Within (told_of_slip s).figure) slips
slips_within slips h = All-weaker SlipSound (λ (s : Slip). Within (told_of_slip s).figure) slip_within slips h

share_few : (a p c : ℕ) (t : Told) → Within t.figure → unsigned_abs (share a p c t) ≤ 1000000000000
share_few a p c t h =
    elim (t.account == a && (t.product == p && t.column == c)) as (λ (b : Bool). unsigned_abs (cond b t.figure (pos 0)) ≤ 1000000000000) [
      | true ↦ omega (arith, ints)
      | false ↦ omega arith
    ]

pub slip_sum_few : (a p : ℕ) (slips : List Slip) → AllByRecursion SlipSound slips → unsigned_abs (slip_sum a p slips) ≤ 1000000000000 * length slips
slip_sum_few a p [] h = omega arith
slip_sum_few a p (s ∷ ss) h =
    let one = share_few a p 0 (told_of_slip s) (slip_within s h.0) in
    let rest = slip_sum_few a p ss h.1 in
    omega (arith, ints)

-- lots
pub gain_few : (at : ℕ) (l : Lot) → l.price ≤ 999999 → at ≤ 999999 → unsigned_abs (gain at l) ≤ 999999000
gain_few at l h k =
    elim (is_bought l.side) as (λ (b : Bool). unsigned_abs (cond b (move_worth (step_worth l.product) l.price at) (move_worth (step_worth l.product) at l.price)) ≤ 999999000) [
      | true ↦ move_of_product_few l.product l.price at h k
      | false ↦ move_of_product_few l.product at l.price k h
    ]

pub is_few : (z : ℤ) (at : ℕ) (l : Lot) → z ≡ gain at l → l.price ≤ 999999 → at ≤ 999999 → unsigned_abs z ≤ 999999000
is_few z at l e h k = subst (λ (x : ℤ). unsigned_abs x ≤ 999999000) (sym e) (gain_few at l h k)

pub lot_worth_few : (at : ℕ) (l : Lot) → LotSound 20000 l → at ≤ 999999 → unsigned_abs (lot_worth at l) ≤ 1000000000000
lot_worth_few at l h k =
    let each : unsigned_abs (gain at l +ℤ l.points) ≤ 1200000000 = omega (arith, ints, gain_few at l h.2 k, h.3) in
    subst (λ (n : ℕ). n ≤ 1000000000000) (sym (size_times (pos l.remaining) (gain at l +ℤ l.points))) (le_trans (mul-le-mul h.1 each) (lit≤ tt))

pub part_few : (at a p : ℕ) (l : Lot) → LotSound 20000 l → at ≤ 999999 → unsigned_abs (cond (l.account == a && l.product == p) (lot_worth at l) (pos 0)) ≤ 1000000000000
part_few at a p l h k =
    elim (l.account == a && l.product == p) as (λ (b : Bool). unsigned_abs (cond b (lot_worth at l) (pos 0)) ≤ 1000000000000) [
      | true ↦ lot_worth_few at l h k
      | false ↦ omega arith
    ]

pub open_worth_few : (at a p : ℕ) (lots : List Lot) → AllByRecursion (LotSound 20000) lots → at ≤ 999999 → unsigned_abs (open_worth at a p lots) ≤ 1000000000000 * length lots
open_worth_few at a p [] h k = omega arith
open_worth_few at a p (l ∷ ls) h k =
    let one = part_few at a p l h.0 k in
    let rest = open_worth_few at a p ls h.1 k in
    omega (arith, ints)

-- any sum of a book's list can be converted, and stays small
pub converted_few : (prices : List ℕ) → Priced prices → (p : ℕ) (z : ℤ) (n : ℕ) → unsigned_abs z ≤ 1000000000000 * n → n ≤ 8192 → Modest z × (unsigned_abs (converted prices p z) ≤ 100000000000000000)
converted_few prices priced p z n h k = (omega arith, omega (arith, converted_most prices priced p z))

pub not_below_few : (z : ℤ) → not_below_0 z ≤ unsigned_abs z
not_below_few (pos n) = omega arith
not_below_few (negsuc n) = omega arith
