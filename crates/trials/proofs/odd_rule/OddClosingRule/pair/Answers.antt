use Rattle.std.proofs.Common.{length, sym, ◌∙◌}
use Rattle.records.specs.Lots.{is_of}
use Rattle.closing.specs.Rules.{oldest_first}
use Rattle.trials.specs.Odd.{newest}
use Rattle.trials.proofs.Newest.{last_none, last_some, odd_none, odd_some}
use Rattle.trials.proofs.odd_rule.OddClosingRule.pair.Goals as goal

pub returns-in_err-bought : goal.returns-in_err-bought
returns-in_err-bought c =
    let lots = c.args.lots.now in
    c.from_residual-in_err-bought.ensures
    ∙ sym (odd_none (oldest_first.pairing c.args.account c.args.product lots) (newest c.args.account c.args.product lots) (length lots) (last_none (is_of c.args.account c.args.product 0) 0 (length lots) lots c.in_err-bought.ensures.none))

pub returns : goal.returns
returns c =
    let lots = c.args.lots.now in
    let bought = c.in_ok-bought.ensures in
    sym (odd_some (oldest_first.pairing c.args.account c.args.product lots) (c.in_ok-sold.field-0-0, c.in_ok-sold.sold, c.in_ok-sold.field-0-2) (newest c.args.account c.args.product lots) c.in_ok-bought.bought (length lots) c.in_ok-sold.ensures
    (last_some (is_of c.args.account c.args.product 0) 0 (length lots) lots c.in_ok-bought.bought bought.within bought.here bought.later) bought.within)
