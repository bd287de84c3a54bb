-- What is printed for an input, and how it ends. This is all that the program does.
use Rattle.std.specs.Prelude.{ℕ, ◌+◌, cond, List, [], ◌∷◌, ◌++◌, map, length, Some, None, Ok, Err, Option, Result, ◌==◌, nat_lt, slice_index}
use Rattle.refusals.specs.declared.Refusal.{Refusal}
use Rattle.refusals.specs.declared.Refusal.TheVariants.{Line, BaseAmount}
use Rattle.refusals.specs.Ranges.{outside, any}
use Rattle.schedules.specs.Amounts.{largest_amount, published}
use Rattle.lines.specs.Letters.{trade_letter, declaration_letter, designated_letter, deposit_letter, withdrawal_letter, report_letter, line_feed}
use Rattle.lines.specs.Said.{Said}
use Rattle.lines.specs.Lines.{parsed}
use Rattle.report.specs.State.{State}
use Rattle.book.specs.Opening.{Terms, checked, opened}
use Rattle.book.specs.Calls.{Call, answer, left, reported}
use Rattle.book.specs.Calls.Call.{trade, declare, deposit, withdraw}
use Rattle.closing.specs.Rules.{Rule, oldest_first, designated, by_account}
use Rattle.desk.specs.declared.answers.Unserved.{Unserved}
use Rattle.desk.specs.Answers.{ok_text, no_text, call_text, figures_text}

-- The lines of an input: each ends in a line feed, which belongs to it; what follows the last line feed is a line if it is not empty.
abbrev pub before : ℕ → List (List ℕ) → List (List ℕ)
before b [] = (b ∷ []) ∷ []
before b (line ∷ lines) = (b ∷ line) ∷ lines

abbrev pub lines_of : List ℕ → List (List ℕ)
lines_of [] = []
lines_of (b ∷ bs) = cond (b == line_feed) ((b ∷ []) ∷ lines_of bs) (before b (lines_of bs))

-- How a page ended: with the input, or at a line whose call is not served yet, with its letter.
abbrev pub Ending : Type 0
Ending = Result (Unit {0}) Unserved

-- A page: what is printed, and how it ended.
pub record Page : Type 0 where
  pub text : List ℕ
  pub ending : Ending

abbrev pub so_far : List ℕ → Ending → Page
so_far text ending = record { text = text; ending = ending }

abbrev pub nothing : Page
nothing = so_far [] (Ok tt)

-- a line printed before a page
abbrev pub print : List ℕ → Page → Page
print line page = record { text = line ++ page.text; ending = page.ending }

-- a refusal that ends the page
abbrev pub stop : ℕ → Refusal → Page
stop line refusal = print (no_text line refusal) nothing

-- a number of an event
abbrev pub number : Said → ℕ → ℕ
number s k = slice_index s.numbers k

-- The call that an event makes, if it is one that takes an entry number and is served.
abbrev pub call_of : Said → Option Call
call_of s =
    cond (s.kind == trade_letter) (Some (trade (number s 0) (number s 1) (number s 2) (number s 3) (number s 4)))
    (cond (s.kind == declaration_letter) (Some (declare (number s 0) (number s 1) (number s 2) (number s 3) (number s 4)))
    (cond (s.kind == deposit_letter) (Some (deposit (number s 0) (number s 1)))
    (cond (s.kind == withdrawal_letter) (Some (withdraw (number s 0) (number s 1)))
    None)))

-- An event on a line, with a book under a closing rule and a schedule. The call is made, and the page goes on with the book as it is left;
-- a report leaves the book as it was; at a call that is not served the page ends.
abbrev pub at_call : Rule → (ℕ → ℕ) → ℕ → State → Said → Option Call → (State → Page) → Page
at_call rule schedule line st s (Some call) rest = print (call_text line (answer rule schedule st call)) (rest (left rule schedule st call))
at_call rule schedule line st s None rest =
    cond (s.kind == report_letter) (print (figures_text line (number s 0) (reported schedule st (number s 0))) (rest st))
    (so_far [] (Err (record { line = line; letter = s.kind })))

-- A line, as it was read: one that is refused is answered, and the next one is served.
abbrev pub at_line : Rule → (ℕ → ℕ) → ℕ → State → Result Said ℕ → (State → Page) → Page
at_line rule schedule line st (Err field) rest = print (no_text line (Line field)) (rest st)
at_line rule schedule line st (Ok s) rest = at_call rule schedule line st s (call_of s) rest

-- The lines from a number on.
unfoldable pub page_of : Rule → (ℕ → ℕ) → ℕ → State → List (List ℕ) → Page
page_of rule schedule line st [] = nothing
page_of rule schedule line st (l ∷ ls) = at_line rule schedule line st (parsed line l) (λ after. page_of rule schedule (line + 1) after ls)

-- Line 2, as it was read: its amounts are the published schedule.
abbrev pub at_schedule : Rule → State → Result Said ℕ → List (List ℕ) → Page
at_schedule rule st (Err field) ls = stop 2 (Line field)
at_schedule rule st (Ok s) ls =
    cond (any (outside 0 largest_amount) s.prices) (stop 2 BaseAmount)
    (print (ok_text 0) (page_of rule (published s.prices) 3 st ls))

abbrev pub schedule_page : Rule → State → List (List ℕ) → Page
schedule_page rule st [] = nothing
schedule_page rule st (l ∷ ls) = at_schedule rule st (parsed 2 l) ls

-- Line 1, as it was read: the book is opened with 1,024 lot places and 2,000 slip places.
abbrev pub terms_of : Said → Terms
terms_of s = record { accounts = number s 0; prices = s.prices; lot_places = 1024; slip_places = 2000 }

-- An account goes by its method: F oldest first, D designated.
abbrev pub mark_of : ℕ → ℕ
mark_of method = cond (method == designated_letter) 1 0

abbrev pub rule_by : List ℕ → Rule
rule_by marks = by_account marks oldest_first designated

abbrev pub methods_rule : Result Said ℕ → Rule
methods_rule (Err field) = designated
methods_rule (Ok s) = rule_by (map mark_of s.methods)

abbrev pub at_opening : Rule → Result Terms Refusal → List (List ℕ) → Page
at_opening rule (Err refusal) ls = stop 1 refusal
at_opening rule (Ok terms) ls = print (ok_text 0) (schedule_page rule (opened terms) ls)

abbrev pub opening_terms : Result Said ℕ → Result Terms Refusal
opening_terms (Err field) = Err (Line field)
opening_terms (Ok s) = checked (terms_of s)

abbrev pub opening_page : List (List ℕ) → Page
opening_page [] = nothing
opening_page (l ∷ ls) = at_opening (methods_rule (parsed 1 l)) (opening_terms (parsed 1 l)) ls

-- An input of more than 65,536 bytes is refused as a whole.
abbrev pub page : List ℕ → Page
page input = cond (nat_lt 65536 (length input)) (stop 0 (Line 0)) (opening_page (lines_of input))

-- what is printed for an input
abbrev pub printed : List ℕ → List ℕ
printed input = (page input).text
