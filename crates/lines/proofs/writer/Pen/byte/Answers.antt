use Rattle.std.proofs.Common.{refl}
use Rattle.lines.proofs.Writings.{written_byte}
use Rattle.lines.proofs.writer.Pen.byte.Goals as goal

pub returns-clause-wrote : goal.returns-clause-wrote
returns-clause-wrote c =
    record { ends = refl; bytes = written_byte c.args.self.now.out.now c.args.self.now.at c.args.byte c.requires.room }
