use Rattle.std.proofs.Common.{ℕ, ap, ◌∙◌, Option}
use Rattle.std.specs.Option.{unwrap_or}
use Rattle.tables.specs.Lookups.{numbered_or}
use Rattle.money.proofs.price_of.Goals as goal

pub returns : goal.returns
returns c =
    c.unwrap_or.ensures
    ∙ (ap (λ (o : Option ℕ). unwrap_or o 0) c.numbered.ensures ∙ numbered_or c.args.prices.now c.args.product 0)
