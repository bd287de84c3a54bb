use Rattle.std.proofs.Common.{◌≡◌, take, Ok}
use Rattle.lines.specs.Fields.{fields_after}
use Rattle.lines.specs.Figures.{figures}
use Rattle.lines.specs.Rests.{Past}
use Rattle.lines.proofs.reader.Fields.read_table.Given as goal

abbrev pub invariant-loop-slot : goal.invariant-loop-slot
invariant-loop-slot g l = record {
  past : Past l.slot-index l.initial.self l.self;
  good : figures g.T.Figure.reads l.initial.self.place (take l.slot-index (fields_after l.initial.self.rest.now)) ≡ Ok (take l.slot-index l.table);
}
