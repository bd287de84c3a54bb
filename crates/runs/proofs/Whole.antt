-- What is true of a book however it was used: the theorem, and what each call and each opening promise by it.
use Rattle.std.proofs.Common.{◌≡◌, ℕ, List, None, sym, subst}
use Rattle.refusals.specs.Ranges.{first}
use Rattle.report.specs.State.{State}
use Rattle.runs.specs.Opening.{Terms, opening_causes, over_places, opened}
use Rattle.runs.specs.Calls.{Call, left}
use Rattle.runs.specs.Whole.{Met, LawKept, Reached, Stands, Whole, WholeOpened}
use Rattle.runs.specs.Whole.Reached.{fresh, met}
use Rattle.runs.proofs.Kept.{latest_prices}
use Rattle.runs.proofs.Conserved.{accounted, event_sums}
use Rattle.runs.proofs.Cancelling.{cancelling}
use Rattle.runs.proofs.Money.{money}
use Rattle.runs.proofs.Drawn.{after_drawing}

pub whole_book : {t : Terms} {h : List Met} {st : State} → Reached t h st → Stands t h st
whole_book {t} {h} {st} r =
    let near = money t r in
    record {
      latest_prices = latest_prices t r;
      event_sums = event_sums t h st.ledger (accounted t r);
      cancelling = cancelling t r;
      never_above = near.never_above;
      hardly_below = near.hardly_below;
      after_drawing = after_drawing t r;
    }

-- a call leads from run to run
pub whole : (call : Call) (before after : State) → LawKept call → after ≡ left before call → Whole call before after
whole call before after law is =
    subst (Whole call before) (sym is) (λ t h r. let now = met r call law in (now, whole_book now))

-- a fresh book
pub whole_opened : (t : Terms) → first (opening_causes t) ≡ None → (lots slips : ℕ) → WholeOpened t (opened (over_places t lots slips))
whole_opened t ok lots slips = let now = fresh ok lots slips in (now, whole_book now)
