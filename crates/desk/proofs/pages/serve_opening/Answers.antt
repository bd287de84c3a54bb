use Rattle.std.proofs.Common.{◌≡◌, Err, string_bytes, sym, subst}
use Rattle.desk.specs.Pages.{Page, nothing, print, stop, lines_of, opening_page}
use Rattle.desk.specs.Served.{GoesOn}
use Rattle.desk.proofs.Firsts.{opening_turn}
use Rattle.desk.proofs.pages.serve_opening.Goals as goal

pub returns-in-Err : goal.returns-in-Err
returns-in-Err c =
    let steps = c.in-Some.ensures.steps in
    let line = c.in-Some.line.number in
    let turn : opening_page (lines_of c.args.lines.now.rest.now) ≡ stop line c.in-Err.refusal =
    opening_turn c.args.lines.now.rest.now c.in-Some.line.bytes.now c.next.new.self.rest.now c.args.lines.now.number line (Err c.in-Err.refusal) c.requires steps.0 steps.1 c.in-Err.ensures.terms in
    subst (λ (page : Page). GoesOn c.print.result (string_bytes c.print.new.out) (print (string_bytes c.args.out.now) page) nothing) (sym turn) (c.print.ensures nothing)
