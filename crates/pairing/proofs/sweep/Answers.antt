use Rattle.std.proofs.Common.{◌∙◌, rules}
use Rattle.records.specs.Lists.{items}
use Rattle.pairing.proofs.Sweeping.{remains, kept_open}
use Rattle.pairing.proofs.sweep.Goals as goal

pub returns-clause-items : goal.returns-clause-items
returns-clause-items c = c.retain.ensures.items remains (λ x b post. search rules) ∙ kept_open (items c.args.lots.now)
