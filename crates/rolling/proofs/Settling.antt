-- What settling leaves is bounded: an account's slips, converted, by the contracts that they closed,
-- and so all that an account has and waits for by the entries taken.
use Rattle.std.proofs.Common.{◌≡◌, ℕ, zero, suc, ◌+◌, ◌*◌, ◌≤◌, ◌&&◌, eqb, List, [], ◌∷◌, map, ℤ, pos, ◌+ℤ◌, ◌*ℤ◌, nat_abs, ◌≤ℤ◌, sym, refl, ap, ⊎_elim, arith}
use Rattle.std.specs.List.{AllByRecursion}
use Rattle.std.proofs.lemmas.List.{get_or-replicate}
use Rattle.std.proofs.lemmas.List.Sums.{sum_by-cons}
use Rattle.std.proofs.lemmas.Bool.{ne_eqb, and_left, and_right, cond-false, cond_both, cases_eq}
use Rattle.std.proofs.lemmas.Int.{ints}
use Rattle.money.specs.declared.Yen.{Yen}
use Rattle.money.specs.Kinds.{yen}
use Rattle.money.specs.Sums.{sum_z, down_from, sum_to}
use Rattle.money.specs.Products.{Priced, converted}
use Rattle.money.proofs.Sums.{sum_zero, sum_at_most, sum_plus, sum_by, only, only_is, only_not, nobody_else}
use Rattle.money.proofs.Tables.{converted_most}
use Rattle.records.specs.declared.lots.Lot.{Lot}
use Rattle.records.specs.declared.lots.Slip.{Slip}
use Rattle.records.specs.declared.sum.Told.{Told}
use Rattle.records.specs.Sum.{share}
use Rattle.records.specs.Lots.{told_of_slip, slip_sum}
use Rattle.report.specs.State.{Money, of_account}
use Rattle.report.specs.Report.{slips_converted}
use Rattle.report.specs.Sound.{SlipSound, Funded, slipped}
use Rattle.rolling.specs.declared.sheets.Sheet.{Sheet}
use Rattle.rolling.specs.Sheets.{rolled_lot, with_slips, transferred, is_bank_day, rolled_money}
use Rattle.rolling.proofs.Keeping.{each_at, of_next, rolled_bought}

-- a sum is no farther from 0 than its parts together
sizes : {X : Type 0} (f : X → ℤ) (xs : List X) → pos (nat_abs (sum_z f xs)) ≤ℤ sum_z (λ x. pos (nat_abs (f x))) xs
sizes f [] = omega (arith, ints)
sizes f (x ∷ xs) = omega (arith, ints, sizes f xs)

-- an amount of one product counts once at most
once : (n p m : ℕ) → sum_z (only p (pos m)) (down_from n) ≤ℤ pos m
once zero p m = omega (arith, ints)
once (suc n) p m =
    ⊎_elim
    (λ (e : suc n ≡ p). omega (arith, ints, only_is p (pos m) (suc n) e, nobody_else n p (pos m) (omega arith)))
    (λ (e : suc n ≡ p → ⊥). omega (arith, ints, only_not p (pos m) (suc n) e, once n p m))
    (cases_eq (suc n) p)

share_most : (a p : ℕ) (t : Told) → pos (nat_abs (share a p 0 t)) ≤ℤ only t.product (pos (nat_abs t.figure)) p
share_most a p t =
    let mine = eqb t.account a in
    let same = eqb t.product p in
    let bought = eqb t.column 0 in
    let few : nat_abs (share a p 0 t) ≤ nat_abs t.figure =
    cond_both (mine && (same && bought)) t.figure (pos 0) (λ (z : ℤ). nat_abs z ≤ nat_abs t.figure) (λ e. omega arith) (λ e. omega arith) in
    ⊎_elim
    (λ (e : p ≡ t.product). omega (arith, ints, only_is t.product (pos (nat_abs t.figure)) p e))
    (λ (e : p ≡ t.product → ⊥).
    let none : share a p 0 t ≡ pos 0 = cond-false (mine && (same && bought)) t.figure (pos 0) (and_right mine (same && bought) (and_left same bought (ne_eqb t.product p (λ i. e (sym i))))) in
    omega (arith, ints, ap nat_abs none, only_not t.product (pos (nat_abs t.figure)) p e))
    (cases_eq p t.product)

-- all of an account's sums together are bounded by all slips
sums_few : (n a : ℕ) (slips : List Slip) → AllByRecursion SlipSound slips → sum_z (λ p. pos (nat_abs (slip_sum a p slips))) (down_from n) ≤ℤ pos (1400000000 * slipped slips)
sums_few n a [] h = omega (arith, ints, sum_zero (λ (p : ℕ). pos 0) (λ p. refl) (down_from n))
sums_few n a (s ∷ ss) h =
    let one : ℕ → ℤ = only s.product (pos (nat_abs s.worth)) in
    let rest : ℕ → ℤ = λ p. pos (nat_abs (slip_sum a p ss)) in
    let parts = sum_at_most (λ p. pos (nat_abs (slip_sum a p (s ∷ ss)))) (λ p. one p +ℤ rest p) (λ p. omega (arith, ints, share_most a p (told_of_slip s))) (down_from n) in
    let quantity = sum_by-cons (λ (x : Slip). x.quantity) s ss in
    omega (arith, ints, sum_plus one rest (down_from n), once n s.product (nat_abs s.worth), sums_few n a ss h.1, h.0.1)

converted_few : (n : ℕ) (prices : List ℕ) (a : ℕ) (slips : List Slip) → Priced prices → AllByRecursion SlipSound slips → nat_abs (sum_to (λ p. converted prices p (slip_sum a p slips)) n) ≤ 14000000000 * slipped slips
unfolding sum_to
converted_few n prices a slips priced h =
    let yen_of : ℕ → ℤ = λ p. converted prices p (slip_sum a p slips) in
    let size : ℕ → ℤ = λ p. pos (nat_abs (slip_sum a p slips)) in
    let each = sum_at_most (λ p. pos (nat_abs (yen_of p))) (λ p. size p *ℤ pos 10) (λ p. omega (arith, ints, converted_most prices priced p (slip_sum a p slips))) (down_from n) in
    omega (arith, ints, sizes yen_of (down_from n), sum_by size (pos 10) (down_from n), sums_few n a slips h)

pub settling_few : (prices : List ℕ) (a : ℕ) (slips : List Slip) → Priced prices → AllByRecursion SlipSound slips → nat_abs (slips_converted prices a slips) ≤ 14000000000 * slipped slips
settling_few = converted_few 16

-- what was slipped is now in yen
slips_funded : (n : ℕ) (prices : List ℕ) (points : List ℤ) (m : Money) (lots : List Lot) (slips : List Slip) → Funded n m.deposits m.waiting_one m.waiting_two lots slips → Priced prices → AllByRecursion SlipSound slips →
    Funded n m.deposits m.waiting_one (with_slips prices slips m).waiting_two (map (rolled_lot points) lots) []
slips_funded n prices points m lots slips f priced h = λ k l.
    let at = each_at (λ a. of_account m.waiting_two a +ℤ slips_converted prices a slips) k l in
    let few = settling_few prices (k + 1) slips priced h in
    let sum : nat_abs (of_account m.waiting_two (k + 1) +ℤ slips_converted prices (k + 1) slips) ≤ nat_abs (of_account m.waiting_two (k + 1)) + nat_abs (slips_converted prices (k + 1) slips) = omega (arith, ints) in
    omega (arith, f k l, ap (λ (y : Yen). nat_abs y.0) at, ap nat_abs (of_next m.waiting_two k), rolled_bought points lots)

-- a transfer moves yen within an account
transfer_funded : (n : ℕ) (m : Money) (lots : List Lot) (slips : List Slip) → Funded n m.deposits m.waiting_one m.waiting_two lots slips →
    Funded n (transferred m).deposits (transferred m).waiting_one (transferred m).waiting_two lots slips
transfer_funded n m lots slips f = λ k l.
    let at = each_at (λ a. of_account m.deposits a +ℤ of_account m.waiting_one a) k l in
    let sum : nat_abs (of_account m.deposits (k + 1) +ℤ of_account m.waiting_one (k + 1)) ≤ nat_abs (of_account m.deposits (k + 1)) + nat_abs (of_account m.waiting_one (k + 1)) = omega (arith, ints) in
    let nothing = get_or-replicate 64 k (yen (pos 0)) (yen (pos 0)) l in
    omega (arith, f k l, ap (λ (y : Yen). nat_abs y.0) at, ap (λ (y : Yen). nat_abs y.0) nothing, ap nat_abs (of_next m.deposits k), ap nat_abs (of_next m.waiting_one k))

pub rolled_funded : (n : ℕ) (sheet : Sheet) (m : Money) (lots : List Lot) (slips : List Slip) → Funded n m.deposits m.waiting_one m.waiting_two lots slips → Priced sheet.prices → AllByRecursion SlipSound slips →
    Funded (n + 1) (rolled_money sheet slips m).deposits (rolled_money sheet slips m).waiting_one (rolled_money sheet slips m).waiting_two (map (rolled_lot sheet.points) lots) []
rolled_funded n sheet m lots slips f priced h =
    let with : Money = with_slips sheet.prices slips m in
    let after : List Lot = map (rolled_lot sheet.points) lots in
    let settled = slips_funded n sheet.prices sheet.points m lots slips f priced h in
    let moved = transfer_funded n with after [] settled in
    cond_both (is_bank_day sheet) (transferred with) with (λ (m' : Money). Funded (n + 1) m'.deposits m'.waiting_one m'.waiting_two after [])
    (λ e k l. omega (arith, moved k l))
    (λ e k l. omega (arith, settled k l))
