-- Right after an accepted withdrawal the account that drew is covered.
use Rattle.std.proofs.Common.{◌≡◌, ℕ, ◌-◌, ◌≤◌, List, set, ℤ, pos, negsuc, ◌+ℤ◌, ◌-ℤ◌, neg_ℤ, ◌≤ℤ◌, None, refl, arith}
use lib.Signed.{lt_z}
use borrow.Author.Differences.{ints}
use Rattle.std.proofs.lemmas.Bool.{cond_both, false≢true}
use Rattle.money.specs.Kinds.{yen}
use Rattle.report.specs.State.{State, of_account}
use Rattle.report.specs.Report.{not_below_0, smaller, shortfall_of, open_loss, withdrawable_of, deposit_of, settled_difference, unsettled_difference, base_amount}
use Rattle.runs.specs.Opening.{Terms}
use Rattle.runs.specs.Calls.{Call, cause_of, after, withdrawn}
use Rattle.runs.specs.Calls.Call.{trade, declare, rollover, deposit, withdraw}
use Rattle.runs.specs.Whole.{Met, Reached, Covered, Drew, AfterDrawing}
use Rattle.runs.proofs.Runs.{always}
use Rattle.runs.proofs.Accepted.{drawable}
use Rattle.runs.proofs.Kept.{Sized, sized_opened, sized_after}
use Rattle.runs.proofs.Tables.{of_set}

-- what the choices say
from_below : (z : ℤ) → z ≤ℤ pos (not_below_0 z)
from_below (pos n) = omega (arith, ints)
from_below (negsuc n) = omega (arith, ints)

none_above : (z : ℤ) → z ≤ℤ pos 0 → not_below_0 z ≡ 0
none_above (pos n) h = omega (arith, ints)
none_above (negsuc n) h = refl

some_above : (z : ℤ) (y : ℕ) → 1 ≤ y → y ≤ not_below_0 z → pos y ≤ℤ z
some_above (pos n) y some h = omega (arith, ints)
some_above (negsuc n) y some h = absurd (omega arith)

smaller_at_most : (x y : ℤ) → smaller x y ≤ℤ y
smaller_at_most x y = cond_both (lt_z x y) x y (λ z. z ≤ℤ y) (λ e. omega (arith, ints)) (λ e. omega (arith, ints))

-- of the deposit d, the settled difference p, the unsettled u and the base amount b: what may be drawn leaves no shortfall
draw_leaves : (d p u b now : ℤ) (y : ℕ) → 1 ≤ y → y ≤ withdrawable_of d p u b → now ≡ d +ℤ neg_ℤ (pos y) →
    (shortfall_of now p u b ≡ 0) × (b ≤ℤ (now +ℤ p))
draw_leaves d p u b now y some fits is =
    let free : ℤ = d +ℤ p -ℤ b -ℤ pos (open_loss u) in
    let drawn = some_above (smaller d free) y some fits in
    let below = smaller_at_most d free in
    let loss = from_below (neg_ℤ u) in
    let enough : pos y ≤ℤ (d +ℤ p -ℤ b -ℤ pos (open_loss u)) = omega (arith, ints, drawn, below) in
    (none_above (b -ℤ p -ℤ u -ℤ now) (omega (arith, ints, enough, is, loss)), omega (arith, ints, enough, is))

covered : (schedule : ℕ → ℕ) (t : Terms) (st : State) → Sized t st → (a y : ℕ) → cause_of st (withdraw schedule a y) ≡ None →
    Covered schedule (withdrawn st a y) a
covered schedule t st s a y none =
    let passed = drawable schedule st a y none in
    let now : ℤ = of_account st.money.deposits a +ℤ neg_ℤ (pos y) in
    let both = draw_leaves (deposit_of st a) (settled_difference st a) (unsettled_difference st a) (base_amount schedule st a)
    (of_account (set st.money.deposits (a - 1) (yen now)) a) y passed.payment.some passed.enough
    (of_set st.money.deposits a now passed.payment.from (omega (arith, passed.payment.known, s.accounts_are, s.deposits_are, s.few_accounts))) in
    record { no_shortfall = both.0; base_covered = both.1 }

drew_after : (t : Terms) (st : State) → Sized t st → (call : Call) → cause_of st call ≡ None → Drew call (after st call)
drew_after t st s (trade _ _ _ _ _ _) none = tt
drew_after t st s (declare _ _ _ _ _ _) none = tt
drew_after t st s (rollover _) none = tt
drew_after t st s (deposit _ _) none = tt
drew_after t st s (withdraw schedule a y) none = covered schedule t st s a y none

pub after_drawing : (t : Terms) {h : List Met} {st : State} → Reached t h st → AfterDrawing h st
after_drawing t r = (always t (λ h st. Sized t st × AfterDrawing h st)
    (λ ok lots slips. (sized_opened t ok lots slips, tt))
    (λ h st s call law none. (sized_after t st s.0 call, λ _. drew_after t st s.0 call none))
    (λ h st s call. (s.0, λ no. absurd (false≢true no)))
    r).1
