use Rattle.std.proofs.Common.{◌≡◌, length, sym, subst, arith}
use Rattle.records.specs.Lists.{items}
use Rattle.runs.specs.Opening.{Terms, over_places, opened}
use Rattle.runs.specs.Whole.{WholeOpened}
use Rattle.runs.proofs.Accepted.{opens}
use Rattle.runs.proofs.Whole.{whole_opened}
use Rattle.book.specs.View.{terms}
use Rattle.book.proofs.Bounds.{empty_lots, unknown_lots, empty_slips, unknown_slips, unfunded}
use Rattle.book.proofs.state.Book.open.Goals as goal

pub invariant_of-result : goal.invariant_of-result
invariant_of-result c =
    let o = c.args.opening in
    let lots = c.over-lots.ensures.items in
    let slips = c.over-slips.ensures.items in
    record {
      peopled = o.peopled;
      taken = omega arith;
      lotroom = omega (arith, c.over-lots.ensures.room, o.lotroom);
      sliproom = omega (arith, c.over-slips.ensures.room, o.sliproom);
      lotsound = empty_lots 0 (items c.over-lots.result) lots;
      lotsknown = unknown_lots o.accounts (items c.over-lots.result) lots;
      slipsound = empty_slips (items c.over-slips.result) slips;
      slipsknown = unknown_slips o.accounts (items c.over-slips.result) slips;
      funded = unfunded (items c.over-lots.result) (items c.over-slips.result) lots slips;
    }

pub returns : goal.returns
returns c =
    let o = c.args.opening in
    let t : Terms = terms o in
    let lots = c.over-lots.ensures.items in
    let slips = c.over-slips.ensures.items in
    let lot_room = c.over-lots.ensures.room in
    let slip_room = c.over-slips.ensures.room in
    let fresh : _ ≡ opened (over_places t (length c.args.lots.now) (length c.args.slips.now)) = cc in
    record {
      opened = fresh;
      whole = subst (WholeOpened t) (sym fresh) (whole_opened t (opens t o.limited o.tested) (length c.args.lots.now) (length c.args.slips.now));
    }
