-- How every statement over all runs is proved: at the opening, over an accepted call, over a refused one.
use Rattle.std.proofs.Common.{◌≡◌, ℕ, Bool, true, false, List, [], ◌∷◌, Some, None, Option, refl}
use Rattle.refusals.specs.declared.Refusal.{Refusal}
use Rattle.refusals.specs.Ranges.{first}
use Rattle.report.specs.State.{State}
use Rattle.runs.specs.Opening.{Terms, opening_causes, over_places, opened}
use Rattle.runs.specs.Calls.{Call, cause_of, after, left_by}
use Rattle.runs.specs.Whole.{Met, is_accepted, LawKept, Reached}
use Rattle.runs.specs.Whole.Reached.{fresh, met}

-- one call as it was met
abbrev pub as_met : State → Call → Bool → Met
as_met st call accepted = record { call = call; accepted = accepted; slips = st.ledger.slips }

module _ (t : Terms) (P : List Met → State → Type 0)
    (opening : first (opening_causes t) ≡ None → (lots slips : ℕ) → P [] (opened (over_places t lots slips)))
    (accepted : (h : List Met) (st : State) → P h st → (call : Call) → LawKept call → cause_of st call ≡ None → P (as_met st call true ∷ h) (after st call))
    (refused : (h : List Met) (st : State) → P h st → (call : Call) → P (as_met st call false ∷ h) st) where
  one_call : (h : List Met) (st : State) → P h st → (call : Call) → LawKept call → (cause : Option Refusal) → cause_of st call ≡ cause →
      P (as_met st call (is_accepted cause) ∷ h) (left_by cause (after st call) st)
  one_call h st before call law None e = accepted h st before call law e
  one_call h st before call law (Some cause) e = refused h st before call

  -- what holds at the opening, and is kept by every call, holds after every list of calls
  pub always : {h : List Met} {st : State} → Reached t h st → P h st
  always (fresh ok lots slips) = opening ok lots slips
  always (met {h} {st} r call law) = one_call h st (always r) call law (cause_of st call) refl
