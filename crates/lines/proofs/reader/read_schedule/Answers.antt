use Rattle.lines.specs.Fields.{fields_after}
use Rattle.lines.proofs.Readings.{ghosts, accepted, passed_on, schedule_good, schedule_bad, schedule_sayable}
use Rattle.lines.proofs.reader.read_schedule.Goals as goal

pub invariant_of-event : goal.invariant_of-event
invariant_of-event c = ghosts (schedule_sayable (fields_after c.args.fields.rest.now) c.requires.after.as_many (rw c.requires.after.second at c.in_ok-read_table.ensures.0))

pub returns : goal.returns
returns c = accepted (schedule_good (fields_after c.args.fields.rest.now) c.requires.after.as_many (rw c.requires.after.second at c.in_ok-read_table.ensures.0))

pub returns-in_err-read_table : goal.returns-in_err-read_table
returns-in_err-read_table c =
    passed_on c.from_residual.result c.from_residual.ensures.1 (rw c.requires.after.second at c.in_err-read_table.ensures) (schedule_bad (fields_after c.args.fields.rest.now) c.requires.after.as_many)
