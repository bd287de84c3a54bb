use Rattle.std.proofs.Common.{◌≡◌, ◌+◌, ◌≤◌, length}
use Rattle.std.specs.List.{AllByRecursion}
use Rattle.records.specs.Lists.{items, room}
use Rattle.report.specs.Sound.{LotSound}
use Rattle.pairing.specs.Pairs.{ledger, closed, least_held}
use Rattle.pairing.proofs.Ledger.close.Given as goal

-- what is left to close gives the whole, and what bounds it stays
abbrev pub invariant-loop-bought : goal.invariant-loop-bought
invariant-loop-bought g l =
    (closed (g.R.ClosingRule.meaning l.rule) 500 l.account l.product (ledger (items l.self.lots) (items l.self.slips)) ≡ closed (g.R.ClosingRule.meaning l.rule) 500 l.account l.product (ledger (items l.initial.self.lots) (items l.initial.self.slips))) ×
    AllByRecursion (LotSound 20000) (items l.self.lots) ×
    (least_held l.account l.product (items l.self.lots) ≤ 500) ×
    (length (items l.self.slips) + least_held l.account l.product (items l.self.lots) ≤ room l.self.slips) ×
    (room l.self.lots ≡ room l.initial.self.lots) ×
    (room l.self.slips ≡ room l.initial.self.slips)

abbrev pub decreases-loop-bought : goal.decreases-loop-bought
decreases-loop-bought g l = least_held l.account l.product (items l.self.lots)
