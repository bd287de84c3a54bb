use Rattle.std.proofs.Common.{◌≡◌, ◌+◌, ◌-◌, ◌*◌, ◌≤◌, unsigned_abs}
use Rattle.money.specs.Sums.{sum_to}
use Rattle.money.specs.Products.{converted}
use Rattle.report.proofs.in_yen.Given as goal

abbrev pub invariant-loop-product : goal.invariant-loop-product
invariant-loop-product g l = record {
  sum_is : l.sum ≡ sum_to (λ p. converted l.prices.table p (g.T.Valued.worth l.records l.prices.table l.account p)) (l.product - 1);
  most : unsigned_abs l.sum + 100000000000000000 ≤ 100000000000000000 * l.product;
}
