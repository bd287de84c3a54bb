use Rattle.std.proofs.Common.{◌≡◌, ℕ, List, ℤ, ap, ◌∙◌}
use Rattle.records.specs.declared.lots.Lot.{Lot}
use Rattle.records.specs.Lists.{items}
use Rattle.report.specs.State.{of_account}
use Rattle.report.specs.Report.{settled_difference, lots_converted, base_of, figures}
use Rattle.rolling.specs.Balances.{deposits}
use Rattle.book.specs.View.{view}
use Rattle.book.proofs.state.Book.figures.Goals as goal

pub returns : goal.returns
returns g c =
    let b = c.args.self.now in
    let a = c.args.account in
    let schedule : ℕ → ℕ = g.S.Schedule.base c.args.schedule.now in
    let d = c.balance.ensures.deposit in
    let u : c.in_yen.result.0 ≡ lots_converted b.prices.table a (items b.ledger.lots) = c.in_yen.ensures.yen ∙ ap (λ (ls : List Lot). lots_converted b.prices.table a ls) c.open_lots-lots.ensures in
    let k : c.base_in_yen.result.0 ≡ base_of schedule a (items b.ledger.lots) = c.base_in_yen.ensures.yen ∙ ap (λ (ls : List Lot). base_of schedule a ls) c.open_lots-lots.ensures in
    c.report.ensures
    ∙ (ap (λ (z : ℤ). figures z c.settled.result.0 c.in_yen.result.0 c.base_in_yen.result.0) d
    ∙ (ap (λ (z : ℤ). figures (of_account (deposits b.balances) a) z c.in_yen.result.0 c.base_in_yen.result.0) c.settled.ensures.yen
    ∙ (ap (λ (z : ℤ). figures (of_account (deposits b.balances) a) (settled_difference (view b) a) z c.base_in_yen.result.0) u
    ∙ ap (λ (z : ℤ). figures (of_account (deposits b.balances) a) (settled_difference (view b) a) (lots_converted b.prices.table a (items b.ledger.lots)) z) k)))
