use Rattle.std.proofs.Common.{ap, ◌∙◌, Option}
use Rattle.std.specs.Option.{unwrap_or}
use Rattle.tables.specs.Lookups.{numbered_or}
use Rattle.money.specs.declared.Row.{Row}
use Rattle.money.specs.Products.{rows, yen_row}
use Rattle.money.proofs.row_of.Goals as goal

pub returns : goal.returns
unfolding rows
returns c =
    c.unwrap_or.ensures
    ∙ (ap (λ (o : Option Row). unwrap_or o (yen_row 0)) c.numbered.ensures ∙ numbered_or rows c.args.product (yen_row 0))
