use Rattle.std.proofs.Common.{sym}
use Rattle.rolling.proofs.Keeping.{priced_from}
use Rattle.runs.proofs.Accepted.{openable}
use Rattle.book.proofs.state.Opening.check.Goals as goal

pub invariant_of-result : goal.invariant_of-result
invariant_of-result c = record { priced = priced_from c.args.prices.now (sym c.if-any_outside.ensures) }

pub invariant_of-result-2 : goal.invariant_of-result-2
invariant_of-result-2 c =
    let limits = openable c.args.accounts c.args.lot_places c.args.slip_places (sym c.if-outside_limits.ensures) in
    record {
      peopled = (limits.some, limits.few);
      lotroom = limits.lots_few;
      sliproom = limits.slips_few;
      limited = sym c.if-outside_limits.ensures;
      tested = sym c.if-any_outside.ensures;
    }
