use Rattle.std.proofs.Common.{◌≡◌, string_bytes}
use Rattle.desk.specs.Pages.{print, page_of, lines_of}
use Rattle.desk.specs.Served.{rule_of, schedule_of, state_of}
use Rattle.desk.proofs.pages.Desk.serve_lines.Given as goal

-- what is printed so far, with the page of the lines that are left, is the whole page
abbrev pub invariant-loop-line : goal.invariant-loop-line
invariant-loop-line l =
    print (string_bytes l.fn.out) (page_of (rule_of l.fn.self) (schedule_of l.fn.self) l.fn.lines.number (state_of l.fn.self) (lines_of l.fn.lines.rest.now)) ≡
    print (string_bytes l.out) (page_of (rule_of l.self) (schedule_of l.self) l.line-iterator.number (state_of l.self) (lines_of l.line-iterator.rest.now))
