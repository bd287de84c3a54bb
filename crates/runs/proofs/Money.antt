-- The money held is near the exact money: never above it, and below it by less than one yen a conversion.
use Rattle.std.proofs.Common.{◌≡◌, ℕ, ◌-◌, ◌≤◌, Bool, true, false, cond, ◌||◌, List, [], ◌∷◌, length, set, ℤ, pos, negsuc, ◌+ℤ◌, ◌-ℤ◌, ◌*ℤ◌, neg_ℤ, ◌≤ℤ◌, None, refl, ap, ◌∙◌, inl, inr, arith}
use lib.IntN.{zero-*ℤ, +ℤ_idl}
use borrow.Author.Differences.{ints}
use Rattle.std.proofs.lemmas.Bool.{eqb-true, cases_eq, cond_both}
use Rattle.money.specs.Kinds.{yen}
use Rattle.money.specs.Sums.{sum_to}
use Rattle.money.specs.Products.{of_product, converter, is_yen, floored, exact_yen, exact_cross, exact, converted}
use Rattle.money.proofs.Sums.{only, only_is, only_not}
use Rattle.money.specs.Floors.{floor_rounds_down}
use Rattle.records.specs.declared.lots.Slip.{Slip}
use Rattle.records.specs.Lots.{slip_sum}
use Rattle.report.specs.State.{State, Ledger, Money, next, of_account}
use Rattle.report.specs.Report.{slips_converted}
use Rattle.rolling.specs.declared.sheets.Sheet.{Sheet}
use Rattle.rolling.specs.Sheets.{with_slips, transferred, is_bank_day, rolled_money}
use Rattle.runs.specs.Opening.{Terms, over_places, opened}
use Rattle.runs.specs.Calls.{Call, cause_of, after, paid}
use Rattle.runs.specs.Calls.Call.{trade, declare, rollover, deposit, withdraw}
use Rattle.runs.specs.Whole.{Met, Reached, if_accepted, prices_by, cleared_by, cleared, over_all, is_zero, exact_cleared, conversions_by, conversions, deposit_by, withdrawal_by, exact_money, held_in_all}
use Rattle.runs.proofs.Totals.{total_same, total_zero, total_plus, total_only, all_zero, all_at_most, all_by, all_plus}
use Rattle.runs.proofs.Tables.{of_set, of_set_other, of_each, of_zeros}
use Rattle.runs.proofs.Runs.{always, as_met}
use Rattle.runs.proofs.Accepted.{payable, drawable}
use Rattle.runs.proofs.Kept.{Sized, sized_opened, sized_after}

-- c yen are near e hundred-thousandths of a yen, with k conversions
pub record Near (c e k : ℤ) : Type 0 where
  pub never_above : exact_yen c ≤ℤ e
  pub hardly_below : e ≤ℤ (exact_yen c +ℤ k *ℤ pos 99999)

near_plus : (c e k c' e' k' c'' e'' : ℤ) → Near c e k → Near c' e' k' → c'' ≡ c +ℤ c' → e'' ≡ e' +ℤ e → Near c'' e'' (k' +ℤ k)
near_plus c e k c' e' k' c'' e'' one two yen_is exact_is = record { never_above = omega (arith, ints); hardly_below = omega (arith, ints) }

-- ONE CONVERSION

none_is : (z : ℤ) → is_zero z ≡ true → z ≡ pos 0
none_is (pos n) e = ap pos (eqb-true n 0 e)
none_is (negsuc n) e = let z : ◌≡◌ {A = ℕ} 0 1 = cc in absurd (omega arith)

-- 1 for a cross sum that is not 0
abbrev counted : ℕ → ℤ → ℤ
counted p amount = cond (is_yen p || is_zero amount) (pos 0) (pos 1)

near_by : (in_yen none : Bool) (amount : ℤ) (price : ℕ) → (none ≡ true → amount ≡ pos 0) →
    Near (cond in_yen amount (floored (exact_cross price amount))) (cond in_yen (exact_yen amount) (exact_cross price amount)) (cond (in_yen || none) (pos 0) (pos 1))
near_by true none amount price is = record { never_above = omega (arith, ints); hardly_below = omega (arith, ints) }
near_by false true amount price is = rw (is refl, zero-*ℤ) (record { never_above = omega (arith, ints); hardly_below = omega (arith, ints) })
near_by false false amount price is =
    let floor = floor_rounds_down (exact_cross price amount) in
    record { never_above = floor.never_above; hardly_below = omega (arith, ints, floor.less_than_one_below) }

near : (prices : List ℕ) (p : ℕ) (amount : ℤ) → Near (converted prices p amount) (exact prices p amount) (counted p amount)
near prices p amount = near_by (is_yen p) (is_zero amount) amount (of_product prices (converter p)) (none_is amount)

-- amounts that are near one by one are near together
near_over_all : (t : Terms) (c e k : ℕ → ℕ → ℤ) → ((a p : ℕ) → Near (c a p) (e a p) (k a p)) → Near (over_all t c) (over_all t e) (over_all t k)
near_over_all t c e k each =
    let low = all_at_most t (λ a p. exact_yen (c a p)) e (λ a p. (each a p).never_above) in
    let high = all_at_most t e (λ a p. exact_yen (c a p) +ℤ k a p *ℤ pos 99999) (λ a p. (each a p).hardly_below) in
    let by = all_by t c (pos 100000) in
    let split = all_plus t (λ a p. exact_yen (c a p)) (λ a p. k a p *ℤ pos 99999) ∙ ap (λ z. over_all t (λ a p. exact_yen (c a p)) +ℤ z) (all_by t k (pos 99999)) in
    record { never_above = rw by at low; hardly_below = rw (split, by) at high }

-- WHAT A CALL ADDS TO THE MONEY HELD

-- an account's deposit and waiting amounts
abbrev held_in : Money → ℕ → ℤ
held_in m a = of_account m.deposits a +ℤ (of_account m.waiting_one a +ℤ of_account m.waiting_two a)

-- a payment adds to one account
paid_one : (m : Money) (a : ℕ) (z : ℤ) → 1 ≤ a → a ≤ length m.deposits → (b : ℕ) → 1 ≤ b → held_in (paid m a z) b ≡ held_in m b +ℤ only a z b
paid_one m a z low fits b low' =
    let sum : ℤ = of_account m.deposits a +ℤ z in
    let after = of_account (set m.deposits (a - 1) (yen sum)) in
    elim (cases_eq b a) [
      | inl e ↦ omega (arith, ints, ap after e, ap (of_account m.deposits) e, of_set m.deposits a sum low fits, only_is a z b e)
      | inr e ↦ omega (arith, ints, of_set_other m.deposits a b sum low low' e, only_not a z b e)
    ]

paid_total : (n : ℕ) (m : Money) (a : ℕ) (z : ℤ) → 1 ≤ a → a ≤ n → n ≤ length m.deposits → sum_to (held_in (paid m a z)) n ≡ sum_to (held_in m) n +ℤ z
paid_total n m a z low high fits =
    total_same n (held_in (paid m a z)) (λ b. held_in m b +ℤ only a z b) (λ b low' high'. paid_one m a z low (omega arith) b low')
    ∙ total_plus n (held_in m) (only a z)
    ∙ ap (λ (x : ℤ). sum_to (held_in m) n +ℤ x) (total_only n a z low high)

-- a rollover moves money between the three tables, and adds what the slips convert to
rolled_one : (bank : Bool) (prices : List ℕ) (slips : List Slip) (m : Money) (a : ℕ) → 1 ≤ a → a ≤ 64 →
    held_in (cond bank (transferred (with_slips prices slips m)) (with_slips prices slips m)) a ≡ held_in m a +ℤ slips_converted prices a slips
rolled_one true prices slips m a low high =
    omega (
      arith,
      ints,
      of_each (λ b. of_account m.deposits b +ℤ of_account m.waiting_one b) a low high,
      of_each (λ b. of_account m.waiting_two b +ℤ slips_converted prices b slips) a low high,
      of_zeros a,
    )
rolled_one false prices slips m a low high =
    omega (arith, ints, of_each (λ b. of_account m.waiting_two b +ℤ slips_converted prices b slips) a low high)

rolled_total : (n : ℕ) (sheet : Sheet) (slips : List Slip) (m : Money) → n ≤ 64 →
    sum_to (held_in (rolled_money sheet slips m)) n ≡ sum_to (held_in m) n +ℤ sum_to (λ a. slips_converted sheet.prices a slips) n
rolled_total n sheet slips m few =
    total_same n (held_in (rolled_money sheet slips m)) (λ a. held_in m a +ℤ slips_converted sheet.prices a slips)
    (λ a low high. rolled_one (is_bank_day sheet) sheet.prices slips m a low (omega arith))
    ∙ total_plus n (held_in m) (λ a. slips_converted sheet.prices a slips)

-- THE MONEY STAYS NEAR

abbrev Balanced : Terms → List Met → State → Type 0
Balanced t h st = Near (held_in_all t st) (exact_money t h) (conversions t h)

-- what one call adds to the exact money
abbrev settled : Terms → Met → ℤ
settled t m = exact_yen (if_accepted m (deposit_by m.call) -ℤ if_accepted m (withdrawal_by m.call)) +ℤ exact_cleared t m

one_more : (t : Terms) (m : Met) (h : List Met) → exact_money t (m ∷ h) ≡ settled t m +ℤ exact_money t h
one_more t m h = omega (arith, ints)

balanced_step : (t : Terms) (h : List Met) (st st' : State) (m : Met) (g : ℤ) → Balanced t h st →
    held_in_all t st' ≡ held_in_all t st +ℤ g → Near g (settled t m) (conversions_by t m) → Balanced t (m ∷ h) st'
balanced_step t h st st' m g old is new =
    near_plus (held_in_all t st) (exact_money t h) (conversions t h) g (settled t m) (conversions_by t m) (held_in_all t st') (exact_money t (m ∷ h)) old new is
    (one_more t m h)

-- where no slip is settled, nothing is converted
exact_none : (prices : List ℕ) (p : ℕ) → exact prices p (pos 0) ≡ pos 0
exact_none prices p =
    cond_both (is_yen p) (exact_yen (pos 0)) (exact_cross (of_product prices (converter p)) (pos 0)) (λ z. z ≡ pos 0) (λ _. refl) (λ _. zero-*ℤ (pos (of_product prices (converter p))))

counted_none : (p : ℕ) → counted p (pos 0) ≡ pos 0
counted_none p = by (is_yen p)
  where
    by : (in_yen : Bool) → cond (in_yen || true) (pos 0) (pos 1) ≡ pos 0
    by true = refl
    by false = refl

only_paid : (t : Terms) (m : Met) (g : ℤ) → cleared m ≡ [] → if_accepted m (deposit_by m.call) -ℤ if_accepted m (withdrawal_by m.call) ≡ g →
    Near g (settled t m) (conversions_by t m)
only_paid t m g none is =
    let prices : List ℕ = prices_by m.call [] in
    let e : exact_cleared t m ≡ pos 0 =
    ap (λ (slips : List Slip). over_all t (λ a p. exact prices p (slip_sum a p slips))) none ∙ all_zero t (λ a p. exact prices p (pos 0)) (λ a p. exact_none prices p) in
    let k : conversions_by t m ≡ pos 0 =
    ap (λ (slips : List Slip). over_all t (λ a p. counted p (slip_sum a p slips))) none ∙ all_zero t (λ a p. counted p (pos 0)) (λ a p. counted_none p) in
    record { never_above = omega (arith, ints, e, is); hardly_below = omega (arith, ints, e, k, is) }

-- a call that moves no money
idle : (t : Terms) (h : List Met) (st : State) (ledger : Ledger) (call : Call) → Balanced t h st →
    cleared_by call st.ledger.slips ≡ [] → deposit_by call ≡ pos 0 → withdrawal_by call ≡ pos 0 →
    Balanced t (as_met st call true ∷ h) (next st st.prices ledger st.money)
idle t h st ledger call old none no_deposit no_withdrawal =
    balanced_step t h st (next st st.prices ledger st.money) (as_met st call true) (pos 0) old (omega (arith, ints))
    (only_paid t (as_met st call true) (pos 0) none (omega (arith, ints, no_deposit, no_withdrawal)))

balanced_after : (t : Terms) (h : List Met) (st : State) → Sized t st → Balanced t h st → (call : Call) → cause_of st call ≡ None → Balanced t (as_met st call true ∷ h) (after st call)
balanced_after t h st s old (trade rule buyer seller p q price) none =
    idle t h st (after st (trade rule buyer seller p q price)).ledger (trade rule buyer seller p q price) old refl refl refl
balanced_after t h st s old (declare rule a p b e q) none =
    idle t h st (after st (declare rule a p b e q)).ledger (declare rule a p b e q) old refl refl refl
balanced_after t h st s old (rollover sheet) none =
    let slips : List Slip = st.ledger.slips in
    let each = near_over_all t (λ a p. converted sheet.prices p (slip_sum a p slips)) (λ a p. exact sheet.prices p (slip_sum a p slips)) (λ a p. counted p (slip_sum a p slips))
    (λ a p. near sheet.prices p (slip_sum a p slips)) in
    balanced_step t h st (after st (rollover sheet)) (as_met st (rollover sheet) true) (over_all t (λ a p. converted sheet.prices p (slip_sum a p slips))) old
    (rolled_total t.accounts sheet slips st.money s.few_accounts) (rw +ℤ_idl each)
balanced_after t h st s old (deposit a y) none =
    let passed = payable st a y none in
    balanced_step t h st (after st (deposit a y)) (as_met st (deposit a y) true) (pos y) old
    (paid_total t.accounts st.money a (pos y) passed.from (omega (arith, passed.known, s.accounts_are)) (omega (arith, s.deposits_are, s.few_accounts)))
    (only_paid t (as_met st (deposit a y) true) (pos y) refl (omega (arith, ints)))
balanced_after t h st s old (withdraw schedule a y) none =
    let passed = (drawable schedule st a y none).payment in
    balanced_step t h st (after st (withdraw schedule a y)) (as_met st (withdraw schedule a y) true) (neg_ℤ (pos y)) old
    (paid_total t.accounts st.money a (neg_ℤ (pos y)) passed.from (omega (arith, passed.known, s.accounts_are)) (omega (arith, s.deposits_are, s.few_accounts)))
    (only_paid t (as_met st (withdraw schedule a y) true) (neg_ℤ (pos y)) refl (omega (arith, ints)))

balanced_refused : (t : Terms) (h : List Met) (st : State) → Balanced t h st → (call : Call) → Balanced t (as_met st call false ∷ h) st
balanced_refused t h st old call =
    balanced_step t h st st (as_met st call false) (pos 0) old (omega (arith, ints)) (only_paid t (as_met st call false) (pos 0) refl refl)

balanced_opened : (t : Terms) (lots slips : ℕ) → Balanced t [] (opened (over_places t lots slips))
balanced_opened t lots slips =
    let none = total_zero t.accounts (held_in (opened (over_places t lots slips)).money) (λ a. omega (arith, ints, of_zeros a)) in
    record { never_above = omega (arith, ints, none); hardly_below = omega (arith, ints, none) }

-- after every list of calls
pub money : (t : Terms) {h : List Met} {st : State} → Reached t h st → Balanced t h st
money t r = (always t (λ h st. Sized t st × Balanced t h st)
    (λ ok lots slips. (sized_opened t ok lots slips, balanced_opened t lots slips))
    (λ h st s call law none. (sized_after t st s.0 call, balanced_after t h st s.0 s.1 call none))
    (λ h st s call. (s.0, balanced_refused t h st s.1 call))
    r).1
