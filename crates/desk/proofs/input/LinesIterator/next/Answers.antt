use Rattle.std.proofs.Common.{eqb, refl, rules}
use Rattle.std.proofs.lemmas.Fn.{always_returns_same}
use Rattle.lines.specs.Letters.{line_feed}
use Rattle.desk.proofs.Cuts.{first_line}
use Rattle.desk.proofs.input.LinesIterator.next.Goals as goal

pub returns-clause-steps : goal.returns-clause-steps
returns-clause-steps c =
    let steps = c.in_ok-bytes.ensures.steps in
    let matched = (steps.1.2 (λ b. eqb b line_feed) (always_returns_same _ _ _ (λ a r f k. search rules))).1 in
    (refl, first_line c.args.self.now.rest.now c.split_inclusive.result.rest.now c.in_ok-bytes.bytes.now c.next.new.self.rest.now steps.1.0 c.split_inclusive.ensures.rest steps.0 steps.2 steps.1.1 matched, refl)
