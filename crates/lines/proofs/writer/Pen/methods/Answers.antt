use Rattle.std.proofs.Common.{length, ap, arith}
use Rattle.lines.specs.Lines.{said}
use Rattle.lines.proofs.Writings.{wrote_none, wrote_long, wrote_then, wrote_same}
use Rattle.lines.proofs.Texts.{no_methods, some_methods}
use Rattle.lines.proofs.writer.Pen.methods.Goals as goal

pub byte-requires : goal.byte-requires
byte-requires c = record { room = omega (arith, c.requires.room, ap length (some_methods (said c.args.event.now) c.if-event-eq79.true)) }

pub bytes-requires : goal.bytes-requires
bytes-requires c =
    let whole = ap length (some_methods (said c.args.event.now) c.if-event-eq79.true) in
    record { room = omega (arith, c.requires.room, c.byte.ensures.wrote.ends, wrote_long c.byte.ensures.wrote (omega (arith, c.requires.room))) }

pub returns-then-event-eq79-clause-wrote : goal.returns-then-event-eq79-clause-wrote
returns-then-event-eq79-clause-wrote c =
    let e = some_methods (said c.args.event.now) c.if-event-eq79.true in
    wrote_same e (wrote_then c.byte.ensures.wrote (omega (arith, c.requires.room, ap length e)) c.bytes.ensures.wrote)

pub returns-else-event-eq79-clause-wrote : goal.returns-else-event-eq79-clause-wrote
returns-else-event-eq79-clause-wrote c =
    wrote_same (no_methods (said c.args.event.now) c.if-event-eq79.false) (wrote_none c.args.self.now.out.now c.args.self.now.at)
