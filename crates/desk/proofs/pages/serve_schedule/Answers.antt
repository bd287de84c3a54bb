use Rattle.std.proofs.Common.{◌≡◌, Err, string_bytes, sym, subst}
use Rattle.report.specs.State.{State}
use Rattle.book.specs.Opening.{opened, over_places}
use Rattle.book.specs.View.{terms}
use Rattle.desk.specs.Pages.{Page, rule_by, nothing, print, stop, lines_of, schedule_page}
use Rattle.desk.specs.Served.{GoesOn}
use Rattle.desk.proofs.Firsts.{schedule_turn}
use Rattle.desk.proofs.pages.serve_schedule.Goals as goal

pub returns-in-Err : goal.returns-in-Err
returns-in-Err c =
    let rule = rule_by c.args.rule.marks.table in
    let st : State = opened (over_places (terms c.args.opening) 1024 2000) in
    let steps = c.in-Some.ensures.steps in
    let line = c.in-Some.line.number in
    let turn : schedule_page rule st (lines_of c.args.lines.now.rest.now) ≡ stop line c.in-Err.refusal =
    schedule_turn rule st c.args.lines.now.rest.now c.in-Some.line.bytes.now c.next.new.self.rest.now c.args.lines.now.number line (Err c.in-Err.refusal) c.requires steps.0 steps.1 c.in-Err.ensures in
    subst (λ (page : Page). GoesOn c.print.result (string_bytes c.print.new.out) (print (string_bytes c.args.out.now) page) nothing) (sym turn) (c.print.ensures nothing)
