use Rattle.std.proofs.Common.{◌≡◌, take}
use Rattle.lines.specs.Fields.{listed}
use Rattle.lines.specs.Written.{Wrote}
use Rattle.lines.proofs.writer.Pen.table.Given as goal

abbrev pub invariant-loop-figure : goal.invariant-loop-figure
invariant-loop-figure g l = record {
  same_bytes : l.self.out.ghost_name ≡ l.initial.self.out.ghost_name;
  wrote : Wrote l.initial.self.out.now l.initial.self.at (listed g.T.Figure.spelled (take l.figure-index l.table)) l.self.out.now l.self.at;
}
