use Rattle.std.proofs.Common.{◌≡◌, ◌-◌, get_or, ℤ, ◌+ℤ◌, nat_abs, sym, ap, ◌∙◌, arith}
use Rattle.money.specs.declared.Yen.{Yen}
use Rattle.money.proofs.Sizes.{sum_back}
use Rattle.report.specs.State.{of_account}
use Rattle.rolling.specs.Balances.{deposits}
use Rattle.rolling.proofs.Tables.{nothing, deposit}
use Rattle.std.proofs.Math.ListN.{get_or-map}
use Rattle.book.proofs.Bounds.{of_account_is}
use Rattle.book.proofs.Balances.{paid_in}
use Rattle.book.proofs.accounts.pay.Goals as goal

pub returns : goal.returns
returns c =
    let bs = c.args.balances.now in
    let a = c.args.account in
    let had : (get_or bs (a - 1) nothing).deposit.0 ≡ of_account (deposits bs) a =
    ap (λ (y : Yen). y.0) (sym (get_or-map deposit bs (a - 1) nothing)) ∙ sym (of_account_is (deposits bs) a c.requires.from) in
    let sum = sum_back (get_or bs (a - 1) nothing).deposit.0 c.args.yen (omega (arith, ap nat_abs had, c.requires.roomy)) (omega (arith, c.requires.few)) in
    paid_in bs a c.args.yen _ (sum ∙ ap (λ (z : ℤ). z +ℤ c.args.yen) had)
