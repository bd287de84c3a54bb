use Rattle.std.proofs.Common.{◌≡◌, true, refl}
use Rattle.money.specs.Sums.{down_from}
use Rattle.money.specs.Products.{rows, converted_by_yen}
use Rattle.money.proofs.kind_of.Goals as goal

-- the computed test of the table: what converts is a yen product
by_yen : converted_by_yen (down_from 16) ≡ true
unfolding rows converted_by_yen
by_yen = refl

pub returns-in-None-clause-table : goal.returns-in-None-clause-table
returns-in-None-clause-table c = by_yen

pub returns-in-Some-clause-table : goal.returns-in-Some-clause-table
returns-in-Some-clause-table c = by_yen
