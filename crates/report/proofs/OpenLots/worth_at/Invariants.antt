use Rattle.std.proofs.Common.{◌≡◌, ◌*◌, ◌≤◌, drop, ◌+ℤ◌, unsigned_abs}
use Rattle.records.specs.Lots.{open_worth}
use Rattle.report.proofs.OpenLots.worth_at.Given as goal

abbrev pub invariant-loop-lot : goal.invariant-loop-lot
invariant-loop-lot l = record {
  sum_is : l.sum +ℤ open_worth l.price l.account l.product (drop l.lot-index l.self.lots.now) ≡ open_worth l.price l.account l.product l.self.lots.now;
  most : unsigned_abs l.sum ≤ 1000000000000 * l.lot-index;
}
