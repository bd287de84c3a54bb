use Rattle.std.proofs.Common.{ℤ, ◌≡◌, ℕ, ◌≤◌, None, Err, pos, sym, refl, ap, ◌∙◌, arith, w64, to_z, of_z}
use Rattle.std.proofs.lemmas.Int.{ints}
use Rattle.refusals.specs.Ranges.{first}
use Rattle.refusals.proofs.Passed.{refused_by, accepted_by, accepted_with}
use Rattle.records.specs.Lists.{items}
use Rattle.report.specs.State.{State, Money, next}
use Rattle.rolling.specs.Balances.{money}
use Rattle.runs.specs.Calls.{paid, deposit_causes}
use Rattle.runs.specs.Calls.Call.{deposit}
use Rattle.book.specs.View.{view}
use Rattle.book.specs.declared.accounts.Payment.{Payment}
use Rattle.book.specs.Payments.{payment}
use Rattle.book.proofs.Bounds.{funded_paid, lots_later}
use Rattle.runs.proofs.Accepted.{payable, not_refused}
use Rattle.runs.proofs.Answered.{Answered, when_refused, when_accepted}
use Rattle.book.proofs.state.Book.deposit.Goals as goal
use Rattle.book.proofs.state.Book.deposit.Goals.{In_ok-payment, In_err-payment}

-- nothing refuses the payment
passed : (c : In_ok-payment) → None ≡ first (deposit_causes (view c.args.self.now) c.args.account c.args.yen)
passed c = accepted_by _ _ c.in_ok-payment.payment (sym c.check_payment.ensures ∙ c.in_ok-payment.was)

-- what it moves is what the definitions say
payment_is : (c : In_ok-payment) → payment c.args.account c.args.yen ≡ c.in_ok-payment.payment
payment_is c = accepted_with _ _ c.in_ok-payment.payment (sym c.check_payment.ensures ∙ c.in_ok-payment.was)

-- or a cause does
refused : (c : In_err-payment) → Answered (view c.args.self.now) (view c.args.self.now) (deposit c.args.account c.args.yen) (Err c.in_err-payment.field-0.0)
refused c =
    when_refused (view c.args.self.now) (deposit c.args.account c.args.yen) tt c.in_err-payment.field-0.0
    (refused_by _ _ c.in_err-payment.field-0.0 (sym c.check_payment.ensures ∙ c.in_err-payment.was))

-- what the machine makes of the amount
amount_is : (z : ℤ) (y : ℕ) → z ≡ pos y → y ≤ 1000000000 → to_z w64 (of_z w64 z) ≡ pos y
amount_is z y e few = omega (arith, ints)

-- what is paid
paid_is : (c : In_ok-payment) (m : Money) → paid m c.in_ok-payment.payment.account (to_z w64 (of_z w64 c.in_ok-payment.payment.yen)) ≡ paid m c.args.account (pos c.args.yen)
paid_is c m =
    let few = (payable (view c.args.self.now) c.args.account c.args.yen (sym (passed c))).few in
    let same = payment_is c in
    ap (λ (a : ℕ). paid m a (to_z w64 (of_z w64 c.in_ok-payment.payment.yen))) (sym (ap (λ (x : Payment). x.account) same)) ∙ ap (paid m c.args.account) (amount_is c.in_ok-payment.payment.yen c.args.yen (sym (ap (λ (x : Payment). x.yen) same)) few)

pub invariant_of-self : goal.invariant_of-self
invariant_of-self c =
    let b = c.args.self.now in
    let bs = b.balances in
    let at = (goal.at.invariant_of-self c).In_ok-payment in
    let payment = payable (view c.args.self.now) c.args.account c.args.yen (sym (passed at)) in
    let moved : money c.pay.new.balances ≡ paid (money bs) c.args.account (pos c.args.yen) = c.pay.ensures ∙ paid_is at (money bs) in
    record {
      peopled = b.peopled;
      taken = omega (arith, payment.entry_free);
      lotroom = b.lotroom;
      sliproom = b.sliproom;
      lotsound = lots_later b.entries (items b.ledger.lots) b.lotsound;
      lotsknown = b.lotsknown;
      slipsound = b.slipsound;
      slipsknown = b.slipsknown;
      funded = funded_paid b.entries (money bs) (money c.pay.new.balances) (items b.ledger.lots) (items b.ledger.slips) c.args.account (pos c.args.yen) b.funded payment.from (omega (arith, ints, payment.few)) moved;
    }

pub returns-in_err-payment-clause-left : goal.returns-in_err-payment-clause-left
returns-in_err-payment-clause-left c = (refused (goal.at.returns-in_err-payment-clause-left c).In_err-payment).leaves

pub returns-in_err-payment-clause-whole : goal.returns-in_err-payment-clause-whole
returns-in_err-payment-clause-whole c = (refused (goal.at.returns-in_err-payment-clause-whole c).In_err-payment).stands

pub returns : goal.returns
returns c =
    let st : State = view c.args.self.now in
    let at = (goal.at.returns c).In_ok-payment in
    let now : Money → State = next st st.prices st.ledger in
    let r = when_accepted st (now (money c.pay.new.balances)) (deposit c.args.account c.args.yen) tt (passed at) (ap now (c.pay.ensures ∙ paid_is at st.money)) in
    record { answer = r.answers; left = r.leaves; whole = r.stands; untouched = not_refused; lots = refl; slips = refl }
