use Rattle.std.proofs.Common.{rules, ◌≡◌, string_bytes, sym, ap, ◌∙◌, subst}
use Rattle.lines.specs.Lines.{said}
use Rattle.book.specs.Calls.Call.{trade, declare, deposit, withdraw}
use Rattle.desk.specs.Answers.{answer_text}
use Rattle.desk.specs.Pages.{Page, number, print, call_of, at_call}
use Rattle.desk.specs.Served.{GoesOn, rule_of, schedule_of, state_of}
use Rattle.desk.proofs.Turns.{is_trade, is_declaration, is_deposit, is_withdrawal, called, reports}
use Rattle.desk.proofs.pages.Desk.serve_event.Goals as goal
use Rattle.desk.proofs.pages.Desk.serve_event.Goals.{in-T, in-C, in-D, in-W, in-M}

pub returns-clause-served : goal.returns-clause-served
returns-clause-served c =
    λ rest.
    let turn : at_call (rule_of c.args.self.now) (schedule_of c.args.self.now) c.args.line (state_of c.args.self.now) (said c.args.event.now) (call_of (said c.args.event.now)) rest ≡ print (answer_text c.args.line c.match-event.told) (rest (state_of c.match-event.self)) =
    elim c.match-event.branch [
      | in-T w ↦ called (rule_of c.args.self.now) (schedule_of c.args.self.now) c.args.line (state_of c.args.self.now) (state_of c.match-event.self) (said c.args.event.now) (trade (number (said c.args.event.now) 0) (number (said c.args.event.now) 1) (number (said c.args.event.now) 2) (number (said c.args.event.now) 3) (number (said c.args.event.now) 4)) rest w.trade.result w.map-told.result c.match-event.told (is_trade (said c.args.event.now) w.in-T.is) w.trade.ensures.answer (ap state_of w.self-is ∙ w.trade.ensures.left) w.map-told.ensures.cases w.told-is
      | in-C w ↦ called (rule_of c.args.self.now) (schedule_of c.args.self.now) c.args.line (state_of c.args.self.now) (state_of c.match-event.self) (said c.args.event.now) (declare (number (said c.args.event.now) 0) (number (said c.args.event.now) 1) (number (said c.args.event.now) 2) (number (said c.args.event.now) 3) (number (said c.args.event.now) 4)) rest w.declare.result w.map-told-in-C.result c.match-event.told (is_declaration (said c.args.event.now) w.in-C.is) w.declare.ensures.answer (ap state_of w.self-is ∙ w.declare.ensures.left) w.map-told-in-C.ensures.cases w.told-is
      | in-D w ↦ called (rule_of c.args.self.now) (schedule_of c.args.self.now) c.args.line (state_of c.args.self.now) (state_of c.match-event.self) (said c.args.event.now) (deposit (number (said c.args.event.now) 0) (number (said c.args.event.now) 1)) rest w.deposit.result w.map-told-in-D.result c.match-event.told (is_deposit (said c.args.event.now) w.in-D.is) w.deposit.ensures.answer (ap state_of w.self-is ∙ w.deposit.ensures.left) w.map-told-in-D.ensures.cases w.told-is
      | in-W w ↦ called (rule_of c.args.self.now) (schedule_of c.args.self.now) c.args.line (state_of c.args.self.now) (state_of c.match-event.self) (said c.args.event.now) (withdraw (number (said c.args.event.now) 0) (number (said c.args.event.now) 1)) rest w.withdraw.result w.map-told-in-W.result c.match-event.told (is_withdrawal (said c.args.event.now) w.in-W.is) w.withdraw.ensures.answer (ap state_of w.self-is ∙ w.withdraw.ensures.left) w.map-told-in-W.ensures.cases w.told-is
      | in-M w ↦ reports (rule_of c.args.self.now) (schedule_of c.args.self.now) c.args.line (state_of c.args.self.now) (state_of c.match-event.self) (said c.args.event.now) rest _ w.report.result w.map-told-in-M.result c.match-event.told w.in-M.is w.report.ensures (ap state_of w.self-is) (λ x a h. search rules) w.map-told-in-M.ensures.cases w.told-is
    ] in
    subst (λ (page : Page). GoesOn c.print.result (string_bytes c.print.new.out) (print (string_bytes c.args.out.now) page) (rest (state_of c.match-event.self))) (sym turn) (c.print.ensures (rest (state_of c.match-event.self)))
