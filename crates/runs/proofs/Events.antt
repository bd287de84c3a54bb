-- The event sum in the shape of the lots' sums: contracts × step worth × latest price, and the event sum at price 0.
use Rattle.std.proofs.Common.{◌≡◌, ℕ, Bool, true, false, cond, List, ◌∷◌, ℤ, pos, ◌+ℤ◌, ◌-ℤ◌, ◌*ℤ◌, ◌∙◌, arith}
use borrow.Author.Differences.{ints}
use Rattle.money.specs.Products.{of_product, step_worth}
use Rattle.money.specs.Ints.{multiplied}
use Rattle.money.proofs.Sums.{sum_same, sum_plus, sum_by}
use Rattle.report.specs.State.{State}
use Rattle.runs.specs.Opening.{Terms}
use Rattle.runs.specs.Calls.{Call}
use Rattle.runs.specs.Whole.{Met, latest, if_accepted, net_by, net, trade_price, moved, moves, points_by, points_sum, event_sum}
use Rattle.runs.proofs.Runs.{as_met}

-- the event sum at price 0
abbrev pub rest_sum : ℕ → ℕ → List Met → ℤ
rest_sum a p h = moves 0 a p h +ℤ points_sum a p h

price_splits : (n w now price : ℤ) → n *ℤ (w *ℤ (now -ℤ price)) ≡ n *ℤ (w *ℤ now) +ℤ n *ℤ (w *ℤ (pos 0 -ℤ price))
price_splits n w now price = simp multiplied (omega (arith, ints))

moves_split : (now a p : ℕ) (h : List Met) → moves now a p h ≡ net a p h *ℤ (pos (step_worth p) *ℤ pos now) +ℤ moves 0 a p h
moves_split now a p h =
    let k : ℤ = pos (step_worth p) *ℤ pos now in
    let each = sum_same (λ m. if_accepted m (moved now a p m.call)) (λ m. if_accepted m (net_by a p m.call) *ℤ k +ℤ if_accepted m (moved 0 a p m.call))
    (λ m. one m.accepted (net_by a p m.call) (pos (step_worth p)) (pos now) (pos (trade_price m.call))) h in
    let two = sum_plus (λ m. if_accepted m (net_by a p m.call) *ℤ k) (λ m. if_accepted m (moved 0 a p m.call)) h in
    let by = sum_by (λ m. if_accepted m (net_by a p m.call)) k h in
    omega (arith, ints, each ∙ two, by)
  where
    one : (accepted : Bool) (n w now price : ℤ) → cond accepted (n *ℤ (w *ℤ (now -ℤ price))) (pos 0)
        ≡ cond accepted n (pos 0) *ℤ (w *ℤ now) +ℤ cond accepted (n *ℤ (w *ℤ (pos 0 -ℤ price))) (pos 0)
    one true n w now price = price_splits n w now price
    one false n w now price = simp multiplied (omega (arith, ints))

pub event_sum_splits : (t : Terms) (a p : ℕ) (h : List Met) →
    event_sum t a p h ≡ net a p h *ℤ (pos (step_worth p) *ℤ pos (of_product (latest t h) p)) +ℤ rest_sum a p h
event_sum_splits t a p h = omega (arith, ints, moves_split (of_product (latest t h) p) a p h)

-- what one more call adds
pub net_accepted : (st : State) (call : Call) (a p : ℕ) (h : List Met) → net a p (as_met st call true ∷ h) ≡ net a p h +ℤ net_by a p call
net_accepted st call a p h = omega (arith, ints)

pub rest_accepted : (st : State) (call : Call) (a p : ℕ) (h : List Met) →
    rest_sum a p (as_met st call true ∷ h) ≡ rest_sum a p h +ℤ (moved 0 a p call +ℤ net a p h *ℤ points_by call p)
rest_accepted st call a p h = by (moved 0 a p call) (moves 0 a p h) (net a p h *ℤ points_by call p) (points_sum a p h)
  where
    by : (x s y z : ℤ) → (x +ℤ s) +ℤ (y +ℤ z) ≡ (s +ℤ z) +ℤ (x +ℤ y)
    by x s y z = omega (arith, ints)

-- a refused call adds nothing
pub net_refused : (st : State) (call : Call) (a p : ℕ) (h : List Met) → net a p (as_met st call false ∷ h) ≡ net a p h
net_refused st call a p h = omega (arith, ints)

pub rest_refused : (st : State) (call : Call) (a p : ℕ) (h : List Met) → rest_sum a p (as_met st call false ∷ h) ≡ rest_sum a p h
rest_refused st call a p h = by (moves 0 a p h) (points_sum a p h)
  where
    by : (s z : ℤ) → (pos 0 +ℤ s) +ℤ (pos 0 +ℤ z) ≡ s +ℤ z
    by s z = omega (arith, ints)
