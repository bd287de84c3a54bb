use Rattle.std.proofs.Common.{◌+◌, ◌%◌, refl, arith}
use Rattle.lines.proofs.Writings.{led_digits, led_digit, led_room, led_then, more_digits, written_byte}
use Rattle.lines.proofs.writer.+put_decimal.Goals as goal

pub bounds-out-at : goal.bounds-out-at
bounds-out-at t c = omega (arith, led_room (led_digit c.args.out.now c.args.at c.args.number c.if-number-lt10.true) c.requires.room)

pub returns-then-number-lt10 : goal.returns-then-number-lt10
returns-then-number-lt10 t c =
    let before = led_digit c.args.out.now c.args.at c.args.number c.if-number-lt10.true in
    led_then before c.requires.room (record {
      ends = refl;
      bytes = written_byte c.args.out.now c.args.at (48 + c.args.number % 10) (omega (arith, led_room before c.requires.room));
    })

pub put_decimal-end-requires : goal.put_decimal-end-requires
put_decimal-end-requires t c =
    let more = more_digits c.args.number c.if-number-lt10.false (omega arith) in (omega (arith, c.decreases), omega (arith, c.requires.room))

pub bounds-out-end : goal.bounds-out-end
bounds-out-end t c = omega (arith, led_room (led_digits c.args.number c.if-number-lt10.false (omega arith) c.put_decimal-end.ensures) c.requires.room)

pub returns : goal.returns
returns t c =
    let before = led_digits c.args.number c.if-number-lt10.false (omega arith) c.put_decimal-end.ensures in
    led_then before c.requires.room (record {
      ends = refl;
      bytes = written_byte c.put_decimal-end.new.out c.put_decimal-end.result (48 + c.args.number % 10) (omega (arith, led_room before c.requires.room));
    })
