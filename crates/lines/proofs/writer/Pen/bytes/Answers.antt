use Rattle.std.proofs.Common.{refl}
use Rattle.lines.proofs.Writings.{written_part}
use Rattle.lines.proofs.writer.Pen.bytes.Goals as goal

pub returns-clause-wrote : goal.returns-clause-wrote
returns-clause-wrote c =
    record { ends = refl; bytes = written_part c.args.self.now.out.now c.args.bytes.now _ c.args.self.now.at c.copy_from_slice.ensures.after }
