use Rattle.std.proofs.Common.{◌++◌, drop, sym, ap, ◌∙◌, zero-add, arith}
use Rattle.lines.specs.Lines.{said, text}
use Rattle.lines.proofs.RoundTrips.{front_back}
use Rattle.lines.proofs.Texts.{event_sayable, text_fits}
use Rattle.lines.proofs.writer.write.Goals as goal

pub line-requires : goal.line-requires
line-requires c = record { room = omega (arith, text_fits (said c.args.event.now) (event_sayable c.args.event.now)) }

pub returns : goal.returns
returns c =
    let e = c.args.event.now in
    let long = c.line.ensures.wrote.ends ∙ zero-add _ in
    let front = c.line.ensures.wrote.bytes ∙ ap (λ n. text (said e) ++ drop n c.args.out.now) (sym c.line.ensures.wrote.ends) in
    record { length = long; front = front; reads_back = front_back e _ c.args.out.now _ long front }
