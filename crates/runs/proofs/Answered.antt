-- What a call answers and leaves, with the whole-book statement: where a cause refuses it, and where none does.
use Rattle.std.proofs.Common.{◌≡◌, ℕ, ◌+◌, Some, None, Ok, Err, Option, Result, ap, ◌∙◌}
use Rattle.refusals.specs.declared.Refusal.{Refusal}
use Rattle.refusals.specs.Ranges.{answered}
use Rattle.report.specs.State.{State}
use Rattle.runs.specs.Calls.{Call, cause_of, after, answer, left, left_by}
use Rattle.runs.specs.Whole.{LawKept, Whole}
use Rattle.runs.proofs.Whole.{whole}

-- a call on a book that answers so and leaves it so
pub record Answered (st now : State) (call : Call) (r : Result ℕ Refusal) : Type 0 where
  pub answers : r ≡ answer st call
  pub leaves : now ≡ left st call
  pub stands : Whole call st now

pub when_refused : (st : State) (call : Call) → LawKept call → (cause : Refusal) → Some cause ≡ cause_of st call → Answered st st call (Err cause)
when_refused st call law cause some = record { answers = ap (λ (o : Option Refusal). answered o (st.entries + 1)) some; leaves = stays; stands = whole call st st law stays }
  where
    stays : st ≡ left st call
    stays = ap (λ (o : Option Refusal). left_by o (after st call) st) some

pub when_accepted : (st now : State) (call : Call) → LawKept call → None ≡ cause_of st call → now ≡ after st call → Answered st now call (Ok (st.entries + 1))
when_accepted st now call law none is = record { answers = ap (λ (o : Option Refusal). answered o (st.entries + 1)) none; leaves = moves; stands = whole call st now law moves }
  where
    moves : now ≡ left st call
    moves = is ∙ ap (λ (o : Option Refusal). left_by o (after st call) st) none
