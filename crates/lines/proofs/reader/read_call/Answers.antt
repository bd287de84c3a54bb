use Rattle.std.proofs.Common.{sym, subst}
use Rattle.lines.specs.Fields.{fields_after}
use Rattle.lines.specs.Lines.{said, meant}
use Rattle.lines.specs.Readings.{Reading}
use Rattle.lines.proofs.reader.read_call.Goals as goal

pub returns-in-S : goal.returns-in-S
returns-in-S c = subst (λ k. Reading (meant k (fields_after c.args.fields.rest.now)) c.read_schedule.result (said c.args.event.now) (said c.read_schedule.new.event)) (sym c.in-S.is) c.read_schedule.ensures
