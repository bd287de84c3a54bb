use Rattle.std.proofs.Common.{◌≡◌, ℕ, List, Err, string_bytes, sym, ap, ◌∙◌, subst, rules}
use Rattle.lines.specs.Lines.{parsed}
use Rattle.report.specs.State.{State}
use Rattle.desk.specs.declared.answers.Stop.{Stop}
use Rattle.desk.specs.Pages.{Page, print, nothing, at_line, page_of, lines_of}
use Rattle.desk.specs.Served.{GoesOn, rule_of, schedule_of, state_of}
use Rattle.desk.proofs.Turns.{line_turn, stopped}
use Rattle.desk.proofs.pages.Desk.serve_lines.Goals as goal
use Rattle.desk.proofs.pages.Desk.serve_lines.Goals.{In-Some}

-- the page from the line of a turn on
turn : (c : In-Some) →
    page_of (rule_of c.loop-line.self) (schedule_of c.loop-line.self) c.loop-line.line-iterator.now.number (state_of c.loop-line.self) (lines_of c.loop-line.line-iterator.now.rest.now) ≡
    at_line (rule_of c.loop-line.self) (schedule_of c.loop-line.self) c.in-Some.line.number (state_of c.loop-line.self) (parsed c.in-Some.line.number c.in-Some.line.bytes.now)
    (λ after. page_of (rule_of c.loop-line.self) (schedule_of c.loop-line.self) c.next.new.self.now.number after (lines_of c.next.new.self.now.rest.now))
turn c =
    line_turn (rule_of c.loop-line.self) (schedule_of c.loop-line.self) c.loop-line.line-iterator.now.number c.in-Some.line.number c.next.new.self.now.number (state_of c.loop-line.self) c.loop-line.line-iterator.now.rest.now c.in-Some.line.bytes.now c.next.new.self.now.rest.now
    c.in-Some.ensures.steps.0 c.in-Some.ensures.steps.2 c.in-Some.ensures.steps.1

pub loop-line-preserved : goal.loop-line-preserved
loop-line-preserved c =
    let desk = c.loop-line.self in
    let left = c.serve_line.new.self in
    let kept : page_of (rule_of desk) (schedule_of desk) c.next.new.self.now.number (state_of left) (lines_of c.next.new.self.now.rest.now) ≡ page_of (rule_of left) (schedule_of left) c.next.new.self.now.number (state_of left) (lines_of c.next.new.self.now.rest.now) = cc in
    c.loop-line.invariant
    ∙ (ap (print (string_bytes c.loop-line.out)) (turn (goal.at.loop-line-preserved c).In-Some)
    ∙ (c.in_ok-serve_line.ensures.served (λ after. page_of (rule_of desk) (schedule_of desk) c.next.new.self.now.number after (lines_of c.next.new.self.now.rest.now))
    ∙ ap (print (string_bytes c.serve_line.new.out)) kept))

pub returns-in_err-serve_line : goal.returns-in_err-serve_line
returns-in_err-serve_line c =
    let desk = c.loop-line.self in
    let text = string_bytes c.serve_line.new.out in
    let why : Stop = c.in_err-serve_line.field-0.0 in
    let same : c.from_residual.result ≡ Err why = search rules in
    let rest : State → Page = λ after. page_of (rule_of desk) (schedule_of desk) c.next.new.self.now.number after (lines_of c.next.new.self.now.rest.now) in
    let whole : print (string_bytes c.args.out.now) (page_of (rule_of c.args.self.now) (schedule_of c.args.self.now) c.args.lines.now.number (state_of c.args.self.now) (lines_of c.args.lines.now.rest.now)) ≡
    print (string_bytes c.loop-line.out) (at_line (rule_of desk) (schedule_of desk) c.in-Some.line.number (state_of desk) (parsed c.in-Some.line.number c.in-Some.line.bytes.now) rest) =
    c.loop-line.invariant ∙ ap (print (string_bytes c.loop-line.out)) (turn (goal.at.returns-in_err-serve_line c).In-Some) in
    let goes = stopped why text (print (string_bytes c.loop-line.out) (at_line (rule_of desk) (schedule_of desk) c.in-Some.line.number (state_of desk) (parsed c.in-Some.line.number c.in-Some.line.bytes.now) rest)) (rest (state_of c.serve_line.new.self)) nothing (c.in_err-serve_line.ensures.served rest) in
    rw same (subst (λ (page : Page). GoesOn (Err why) text page nothing) (sym whole) goes)

-- no line is left
pub returns : goal.returns
unfolding page_of
returns c =
    let desk = c.loop-line.self in
    c.loop-line.invariant ∙ ap (λ (ls : List (List ℕ)). print (string_bytes c.loop-line.out) (page_of (rule_of desk) (schedule_of desk) c.loop-line.line-iterator.now.number (state_of desk) ls)) c.in-None.ensures.steps
