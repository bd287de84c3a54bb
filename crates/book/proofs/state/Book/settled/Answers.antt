use Rattle.std.proofs.Common.{◌≡◌, ◌≤◌, List, ℤ, ◌+ℤ◌, nat_abs, ap, ◌∙◌, arith, w64, to_z, of_z}
use Rattle.std.proofs.lemmas.Int.{ints}
use Rattle.money.proofs.Sizes.{near}
use Rattle.records.specs.declared.lots.Slip.{Slip}
use Rattle.records.specs.Lists.{items}
use Rattle.report.specs.State.{of_account}
use Rattle.report.specs.Report.{slips_converted}
use Rattle.rolling.specs.Balances.{first_waiting, second_waiting}
use Rattle.book.proofs.state.Book.settled.Goals as goal

-- what the machine adds up is the sum
three : (x y z : ℤ) → nat_abs x ≤ 150000000000000000 → nat_abs y ≤ 150000000000000000 → nat_abs z ≤ 1600000000000000000 →
    to_z w64 (of_z w64 (to_z w64 (of_z w64 x) +ℤ to_z w64 (of_z w64 (to_z w64 (of_z w64 y) +ℤ to_z w64 (of_z w64 z))))) ≡ x +ℤ (y +ℤ z)
three x y z h k l =
    let a = near x (omega arith) in
    let b = near y (omega arith) in
    let d = near z (omega arith) in
    let e = near (y +ℤ z) (omega (arith, ints)) in
    let f = near (x +ℤ (y +ℤ z)) (omega (arith, ints)) in
    cc

pub returns-clause-yen : goal.returns-clause-yen
returns-clause-yen c =
    let b = c.args.self.now in
    let a = c.args.account in
    let had = c.balance-balance.ensures in
    let y = c.balance-balance.result.waiting_two.0 in
    let z = c.in_yen-today.result.0 in
    let today : z ≡ slips_converted b.prices.table a (items b.ledger.slips) = c.in_yen-today.ensures.yen ∙ ap (λ (ss : List Slip). slips_converted b.prices.table a ss) c.todays_slips.ensures in
    let one : ℤ = of_account (first_waiting b.balances) a in
    let two : ℤ = of_account (second_waiting b.balances) a in
    three c.balance-balance.result.waiting_one.0 y z had.one_few had.two_few c.in_yen-today.ensures.most
    ∙ (ap (λ (i : ℤ). i +ℤ (y +ℤ z)) had.waiting_one ∙ ap (λ (i : ℤ). one +ℤ i) (ap (λ (i : ℤ). i +ℤ z) had.waiting_two ∙ ap (λ (i : ℤ). two +ℤ i) today))
