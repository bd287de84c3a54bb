use Rattle.std.proofs.Common.{◌≡◌, IfSome, sym, subst, arith}
use Rattle.std.proofs.lemmas.Bool.Decides.{nat_tests}
use Rattle.lines.specs.Said.{Short}
use Rattle.lines.specs.Numbers.{number}
use Rattle.lines.proofs.Figured.{number_short}
use Rattle.lines.proofs.figure.read_number.Goals as goal

pub returns-in-empty-clause-value : goal.returns-in-empty-clause-value
unfolding number
returns-in-empty-clause-value c = grind (arith, nat_tests)

pub returns-in-empty-2-clause-value : goal.returns-in-empty-2-clause-value
unfolding number
returns-in-empty-2-clause-value c = grind (arith, nat_tests)

pub returns-in_default-clause-value : goal.returns-in_default-clause-value
unfolding number
returns-in_default-clause-value c = grind (arith, nat_tests)

pub returns-in_default-2 : goal.returns-in_default-2
unfolding number
returns-in_default-2 c =
    let is : c.read_digits.result ≡ number c.args.field.now = grind (arith, nat_tests) in
    record { value = is; short = subst (λ o. IfSome o Short) (sym is) (number_short c.args.field.now) }
