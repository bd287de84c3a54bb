use Rattle.std.proofs.Common.{◌≡◌, ◌+◌, ◌-◌, ◌*◌, ◌≤◌, length, unsigned_abs}
use Rattle.money.specs.Sums.{sum_to}
use Rattle.report.specs.Report.{base_in_product}
use Rattle.report.proofs.OpenLots.base_in_yen.Given as goal

abbrev pub invariant-loop-product : goal.invariant-loop-product
invariant-loop-product g l = record {
  sum_is : l.sum ≡ sum_to (base_in_product (g.S.Schedule.base l.schedule) l.account l.self.lots.now) (l.product - 1);
  most : unsigned_abs l.sum + 500000000000 * length l.self.lots.now ≤ 500000000000 * length l.self.lots.now * l.product;
}
