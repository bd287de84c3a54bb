use Rattle.std.proofs.Common.{◌≡◌, ◌+◌, ◌*◌, ◌&&◌, get_or, drop, sym, ap, ◌∙◌, pow-suc, add-one, arith}
use Rattle.std.specs.Char.{is_ascii_digit}
use Rattle.std.specs.Str.{all_ascii_digits}
use Rattle.std.proofs.lemmas.List.{at_drop_more, at_drop_all}
use Rattle.std.proofs.lemmas.Bool.Decides.{nat_tests}
use Rattle.lines.specs.Numbers.{value_after}
use Rattle.lines.proofs.figure.read_digits.Goals as goal

pub returns-then-not-is_ascii_digit : goal.returns-then-not-is_ascii_digit
returns-then-not-is_ascii_digit c =
    let step : all_ascii_digits (drop c.loop-digit.digit-index c.args.digits.now) ≡ (is_ascii_digit (get_or c.args.digits.now c.loop-digit.digit-index 0) && all_ascii_digits (drop (c.loop-digit.digit-index + 1) c.args.digits.now)) =
    at_drop_more all_ascii_digits c.args.digits.now c.loop-digit.digit-index 0 c.loop-digit-test.true in
    grind (arith, nat_tests)

pub loop-digit-preserved : goal.loop-digit-preserved
loop-digit-preserved c =
    let is = c.if-not-is_ascii_digit.ensures in (
      ap (λ d. value_after (c.loop-digit.value * 10 + d) (drop (c.loop-digit.digit-index + 1) c.args.digits.now)) c.from.ensures
          ∙ sym (at_drop_more (value_after c.loop-digit.value) c.args.digits.now c.loop-digit.digit-index 0 c.loop-digit-test.true) ∙ c.loop-digit.invariant.0,
      (let step : all_ascii_digits (drop c.loop-digit.digit-index c.args.digits.now) ≡ (is_ascii_digit (get_or c.args.digits.now c.loop-digit.digit-index 0) && all_ascii_digits (drop (c.loop-digit.digit-index + 1) c.args.digits.now)) =
          at_drop_more all_ascii_digits c.args.digits.now c.loop-digit.digit-index 0 c.loop-digit-test.true in
          ap (λ b. b && all_ascii_digits (drop (c.loop-digit.digit-index + 1) c.args.digits.now)) is.value ∙ sym step ∙ c.loop-digit.invariant.1),
      rw (add-one, pow-suc) (omega (arith, c.from.ensures, is.cases.1)),
    )

pub returns : goal.returns
returns c =
    let e = at_drop_all all_ascii_digits c.args.digits.now c.loop-digit.digit-index c.loop-digit-test.false in
    let v = at_drop_all (value_after c.loop-digit.value) c.args.digits.now c.loop-digit.digit-index c.loop-digit-test.false in
    grind (arith, nat_tests)
