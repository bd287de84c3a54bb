use Rattle.std.proofs.Common.{◌≡◌, ℕ, ◌+◌, ◌≤◌, List, [], ◌∷◌, ◌++◌, length, take, decimal, ap, arith}
use Rattle.std.specs.Fmt.{signed_decimal as spelled}
use Rattle.lines.specs.declared.event.Event.{Event}
use Rattle.lines.specs.declared.writer.Pen.{Pen}
use Rattle.lines.specs.Letters.{line_feed}
use Rattle.lines.specs.Fields.{listed}
use Rattle.lines.specs.Said.{number_count, price_count, point_count}
use Rattle.lines.specs.Lines.{said, text, numbers_text, methods_text, prices_text, points_text}
use Rattle.lines.specs.Written.{Wrote}
use Rattle.lines.proofs.Writings.{Led, led_start, led_next, led_room, led_then, part_room, wrote_same}
use Rattle.lines.proofs.Texts.{event_sayable, text_is, numbers_cut, prices_cut, points_cut, numbers_cut_fit, prices_cut_fit, points_cut_fit}
use Rattle.lines.proofs.writer.Pen.line.Goals as goal

-- a front of the line was written, and `rest` is left of it
abbrev Left : Event → Pen → Pen → List ℕ → Type 0
Left e old new rest = Led old.out.now old.at rest (text (said e)) new.out.now new.at

-- what is left after each part
abbrev last : List ℕ
last = line_feed ∷ []

abbrev from_points : Event → List ℕ
from_points e = points_text (said e) ++ last

abbrev from_prices : Event → List ℕ
from_prices e = prices_text (said e) ++ from_points e

abbrev from_methods : Event → List ℕ
from_methods e = methods_text (said e) ++ from_prices e

abbrev from_numbers : Event → List ℕ
from_numbers e = numbers_text (said e) ++ from_methods e

-- each part is written after the one before it
module _ (e : Event) (p0 : Pen) (room : p0.at + length (text (said e)) ≤ length p0.out.now) where
  start : Left e p0 p0 ((e.kind ∷ []) ++ from_numbers e)
  start = led_start p0.out.now p0.at (text_is (said e))

  module _ (p1 : Pen) (letter : Wrote p0.out.now p0.at (e.kind ∷ []) p1.out.now p1.at) where
    at_numbers : Left e p0 p1 (from_numbers e)
    at_numbers = led_next (e.kind ∷ []) (from_numbers e) start room letter

    module _ (p2 : Pen) (n : ℕ) (long : n ≡ number_count e.kind) (numbers : Wrote p1.out.now p1.at (listed decimal (take n e.numbers)) p2.out.now p2.at) where
      at_methods : Left e p0 p2 (from_methods e)
      at_methods = led_next (numbers_text (said e)) (from_methods e) at_numbers room (wrote_same (numbers_cut (said e) n long) numbers)

      module _ (p3 : Pen) (methods : Wrote p2.out.now p2.at (methods_text (said e)) p3.out.now p3.at) where
        at_prices : Left e p0 p3 (from_prices e)
        at_prices = led_next (methods_text (said e)) (from_prices e) at_methods room methods

        module _ (p4 : Pen) (m : ℕ) (wide : m ≡ price_count e.kind) (prices : Wrote p3.out.now p3.at (listed decimal (take m e.prices)) p4.out.now p4.at) where
          at_points : Left e p0 p4 (from_points e)
          at_points = led_next (prices_text (said e)) (from_points e) at_prices room (wrote_same (prices_cut (said e) m wide) prices)

          module _ (p5 : Pen) (k : ℕ) (deep : k ≡ point_count e.kind) (points : Wrote p4.out.now p4.at (listed spelled (take k e.points)) p5.out.now p5.at) where
            at_end : Left e p0 p5 last
            at_end = led_next (points_text (said e)) last at_points room (wrote_same (points_cut (said e) k deep) points)

pub byte-requires : goal.byte-requires
byte-requires c =
    record { room = omega (arith, part_room (c.args.event.now.kind ∷ []) (from_numbers c.args.event.now) (start c.args.event.now c.args.self.now c.requires.room) c.requires.room) }

pub table-requires : goal.table-requires
table-requires c =
    let e = c.args.event.now in
    let left = at_numbers e c.args.self.now c.requires.room c.byte.new.self c.byte.ensures.wrote in
    record {
      fit = numbers_cut_fit (said e) (event_sayable e) _ c.of-counts.ensures.numbers;
      room = omega (arith, ap length (numbers_cut (said e) _ c.of-counts.ensures.numbers), part_room (numbers_text (said e)) (from_methods e) left c.requires.room);
    }

pub methods-requires : goal.methods-requires
methods-requires c =
    let left = at_methods c.args.event.now c.args.self.now c.requires.room c.byte.new.self c.byte.ensures.wrote c.table.new.self _ c.of-counts.ensures.numbers c.table.ensures.wrote in
    record { room = part_room (methods_text (said c.args.event.now)) (from_prices c.args.event.now) left c.requires.room }

pub table-requires-2 : goal.table-requires-2
table-requires-2 c =
    let e = c.args.event.now in
    let left = at_prices e c.args.self.now c.requires.room c.byte.new.self c.byte.ensures.wrote c.table.new.self _ c.of-counts.ensures.numbers c.table.ensures.wrote c.methods.new.self c.methods.ensures.wrote in
    record {
      fit = prices_cut_fit (said e) (event_sayable e) _ c.of-counts.ensures.prices;
      room = omega (arith, ap length (prices_cut (said e) _ c.of-counts.ensures.prices), part_room (prices_text (said e)) (from_points e) left c.requires.room);
    }

pub table-requires-3 : goal.table-requires-3
table-requires-3 c =
    let e = c.args.event.now in
    let left = at_points e c.args.self.now c.requires.room c.byte.new.self c.byte.ensures.wrote c.table.new.self _ c.of-counts.ensures.numbers c.table.ensures.wrote c.methods.new.self c.methods.ensures.wrote c.table-2.new.self _ c.of-counts.ensures.prices c.table-2.ensures.wrote in
    record {
      fit = points_cut_fit (said e) (event_sayable e) _ c.of-counts.ensures.points;
      room = omega (arith, ap length (points_cut (said e) _ c.of-counts.ensures.points), part_room (points_text (said e)) last left c.requires.room);
    }

pub byte-requires-2 : goal.byte-requires-2
byte-requires-2 c =
    let left = at_end c.args.event.now c.args.self.now c.requires.room c.byte.new.self c.byte.ensures.wrote c.table.new.self _ c.of-counts.ensures.numbers c.table.ensures.wrote c.methods.new.self c.methods.ensures.wrote c.table-2.new.self _ c.of-counts.ensures.prices c.table-2.ensures.wrote c.table-3.new.self _ c.of-counts.ensures.points c.table-3.ensures.wrote in
    record { room = omega (arith, led_room left c.requires.room) }

pub returns-clause-wrote : goal.returns-clause-wrote
returns-clause-wrote c =
    let left = at_end c.args.event.now c.args.self.now c.requires.room c.byte.new.self c.byte.ensures.wrote c.table.new.self _ c.of-counts.ensures.numbers c.table.ensures.wrote c.methods.new.self c.methods.ensures.wrote c.table-2.new.self _ c.of-counts.ensures.prices c.table-2.ensures.wrote c.table-3.new.self _ c.of-counts.ensures.points c.table-3.ensures.wrote in
    led_then left c.requires.room c.byte-2.ensures.wrote
