use Rattle.std.proofs.Common.{length, ap, arith}
use Rattle.lines.proofs.Writings.{led_minus, led_plus, led_room, led_then, minus_spelled}
use Rattle.lines.proofs.writer.Pen.signed.Goals as goal
use Rattle.lines.proofs.writer.Pen.signed.Goals.{then-number-lt0, else-number-lt0}

pub byte-requires : goal.byte-requires
byte-requires c = record { room = omega (arith, c.requires.room, ap length (minus_spelled c.args.number c.ranges.number c.if-number-lt0.true)) }

pub decimal-requires : goal.decimal-requires
decimal-requires c =
    elim c.if-number-lt0.branch [
      | then-number-lt0 w ↦ rw (w.self-is, c.unsigned_abs.ensures.value) (record { room = led_room (led_minus c.args.number c.ranges.number w.if-number-lt0.true w.byte.ensures.wrote) c.requires.room })
      | else-number-lt0 w ↦ rw (w.self-is, c.unsigned_abs.ensures.value) (record { room = led_room (led_plus c.args.self.now.out.now c.args.self.now.at c.args.number c.ranges.number w.if-number-lt0.false) c.requires.room })
    ]

pub returns-clause-wrote : goal.returns-clause-wrote
returns-clause-wrote c =
    elim c.if-number-lt0.branch [
      | then-number-lt0 w ↦ led_then (led_minus c.args.number c.ranges.number w.if-number-lt0.true w.byte.ensures.wrote) c.requires.room (rw (w.self-is, c.unsigned_abs.ensures.value) at c.decimal.ensures.wrote)
      | else-number-lt0 w ↦ led_then (led_plus c.args.self.now.out.now c.args.self.now.at c.args.number c.ranges.number w.if-number-lt0.false) c.requires.room (rw (w.self-is, c.unsigned_abs.ensures.value) at c.decimal.ensures.wrote)
    ]
