use Rattle.std.proofs.Common.{◌≡◌, ℤ, pos, ap, ◌∙◌, arith, nat_abs, w64, to_z, of_z, Option}
use Rattle.std.specs.Option.{unwrap_or}
use Rattle.tables.specs.Lookups.{numbered_or}
use Rattle.money.proofs.Sizes.{back}
use Rattle.rolling.specs.Points.{points_of}
use Rattle.rolling.proofs.Keeping.{points_few}
use Rattle.rolling.proofs.sheets.Points.of.Goals as goal

is : (c : goal.After-unwrap_or) → to_z w64 (of_z w64 c.unwrap_or.result) ≡ points_of c.args.self.now.table c.args.product
is c =
    back c.unwrap_or.result c.unwrap_or.type_inv
    ∙ (c.unwrap_or.ensures ∙ (ap (λ (o : Option ℤ). unwrap_or o (pos 0)) c.numbered.ensures ∙ numbered_or c.args.self.now.table c.args.product (pos 0)))

pub returns : goal.returns
returns c = record { points = is c; few = omega (arith, ap nat_abs (is c), points_few c.args.self.now.table c.args.self.now.mild c.args.product) }
