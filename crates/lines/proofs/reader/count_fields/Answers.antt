use Rattle.std.proofs.Common.{◌≡◌, eqb, rules, arith}
use Rattle.std.specs.List.{count_by}
use Rattle.std.proofs.iter.runs.Made.{chains}
use Rattle.lines.specs.Letters.{comma}
use Rattle.lines.proofs.Splits.{split_long}
use Rattle.lines.proofs.reader.count_fields.Goals as goal

pub returns : goal.returns
returns c =
    let commas : c.count.result ≡ count_by (λ b. eqb b comma) c.args.text.now = search (rules, chains) in omega (arith, split_long c.args.text.now)
