use Rattle.std.proofs.Common.{◌≡◌, ◌*◌, drop, pos, ◌+ℤ◌, neg_ℤ, ◌≤ℤ◌}
use Rattle.records.specs.Sum.{summed}
use Rattle.records.proofs.sum.total.Given as goal

abbrev pub invariant-loop-record : goal.invariant-loop-record
invariant-loop-record g l =
    (l.sum +ℤ summed g.T.Record.told l.account l.product l.column (drop l.record-index l.records) ≡ summed g.T.Record.told l.account l.product l.column l.records) ×
    (neg_ℤ (pos (l.record-index * 1000000000000)) ≤ℤ l.sum) × (l.sum ≤ℤ pos (l.record-index * 1000000000000))
