use Rattle.lines.proofs.Splits.{first_cut}
use Rattle.lines.proofs.reader.first_field.Goals as goal

pub returns-clause-cut : goal.returns-clause-cut
returns-clause-cut c = first_cut c.args.text.now c.first_comma.ensures c.unwrap_or-end.ensures c.split_at.ensures.front c.split_at.ensures.back
