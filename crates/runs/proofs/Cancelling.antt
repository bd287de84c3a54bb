-- For each product the event sums of all accounts add up to zero.
use Rattle.std.proofs.Common.{◌≡◌, ℕ, ◌≤◌, Bool, true, false, cond, eqb, List, ◌∷◌, ℤ, pos, negsuc, ◌+ℤ◌, ◌-ℤ◌, ◌*ℤ◌, neg_ℤ, None, refl, ap, ◌∙◌, arith}
use lib.IntN.{zero-*ℤ}
use borrow.Author.Differences.{ints}
use Rattle.money.specs.Sums.{sum_to}
use Rattle.money.specs.Products.{of_product, step_worth, move_worth}
use Rattle.money.proofs.Sums.{only}
use Rattle.report.specs.State.{State}
use Rattle.runs.specs.Opening.{Terms}
use Rattle.runs.specs.Calls.{Call, cause_of, after}
use Rattle.runs.specs.Calls.Call.{trade, declare, rollover, deposit, withdraw}
use Rattle.runs.specs.Whole.{Met, Reached, latest, net_by, net, trade_price, moved, points_by, event_sum}
use Rattle.runs.proofs.Totals.{total_like, total_zero, total_plus, total_by, total_only}
use Rattle.runs.proofs.Runs.{always, as_met}
use Rattle.runs.proofs.Accepted.{Tradable, tradable}
use Rattle.runs.proofs.Kept.{Sized, sized_opened, sized_after}
use Rattle.runs.proofs.Events.{rest_sum, event_sum_splits, net_accepted, rest_accepted, net_refused, rest_refused}

-- amounts of the accounts 1 to n that add up to zero
abbrev Cancel : ℕ → (ℕ → ℤ) → Type 0
Cancel n f = sum_to f n ≡ pos 0

nothing : (n : ℕ) → Cancel n (λ a. pos 0)
nothing n = total_zero n (λ a. pos 0) (λ a. refl)

like : (n : ℕ) (f g : ℕ → ℤ) → ((a : ℕ) → f a ≡ g a) → Cancel n g → Cancel n f
like n f g same e = total_like n f g same ∙ e

both_cancel : (n : ℕ) (f g : ℕ → ℤ) → Cancel n f → Cancel n g → Cancel n (λ a. f a +ℤ g a)
both_cancel n f g ef eg = omega (arith, ints, total_plus n f g, ef, eg)

times_cancels : (n : ℕ) (f : ℕ → ℤ) (k : ℤ) → Cancel n f → Cancel n (λ a. f a *ℤ k)
times_cancels n f k e = total_by n f k ∙ ap (λ (z : ℤ). z *ℤ k) e ∙ zero-*ℤ k

-- what one account buys another sells
trade_cancels : (n buyer seller q : ℕ) → 1 ≤ buyer → buyer ≤ n → 1 ≤ seller → seller ≤ n → Cancel n (λ a. only buyer (pos q) a -ℤ only seller (pos q) a)
trade_cancels n buyer seller q low high low' high' =
    let bought = total_only n buyer (pos q) low high in
    let sold = total_only n seller (pos q) low' high' in
    let apart = total_plus n (only buyer (pos q)) (λ a. neg_ℤ (only seller (pos q) a)) in
    let turned = total_like n (λ a. neg_ℤ (only seller (pos q) a)) (λ a. only seller (pos q) a *ℤ negsuc 0) (λ a. omega (arith, ints)) in
    let by = total_by n (only seller (pos q)) (negsuc 0) in
    omega (arith, ints, bought, sold, apart, turned, by)

call_cancels : (t : Terms) (st : State) → Sized t st → (call : Call) → cause_of st call ≡ None → (p : ℕ) → Cancel t.accounts (λ a. net_by a p call)
call_cancels t st s (trade rule buyer seller p' q price) none p = by (eqb p p')
  where
    passed : Tradable st buyer seller p' q price
    passed = tradable st buyer seller p' q price none

    by : (same : Bool) → Cancel t.accounts (λ a. cond same (only buyer (pos q) a -ℤ only seller (pos q) a) (pos 0))
    by true =
        trade_cancels t.accounts buyer seller q
        passed.buyer_from (omega (arith, passed.buyer_known, s.accounts_are)) passed.seller_from (omega (arith, passed.seller_known, s.accounts_are))
    by false = nothing t.accounts
call_cancels t st s (declare _ _ _ _ _ _) none p = nothing t.accounts
call_cancels t st s (rollover _) none p = nothing t.accounts
call_cancels t st s (deposit _ _) none p = nothing t.accounts
call_cancels t st s (withdraw _ _ _) none p = nothing t.accounts

pub record Cancels (t : Terms) (h : List Met) (st : State) : Type 0 where
  pub size : Sized t st
  pub nets : (p : ℕ) → Cancel t.accounts (λ a. net a p h)
  pub rests : (p : ℕ) → Cancel t.accounts (λ a. rest_sum a p h)

cancels_after : (t : Terms) (h : List Met) (st : State) → Cancels t h st → (call : Call) → cause_of st call ≡ None → Cancels t (as_met st call true ∷ h) (after st call)
cancels_after t h st before call none =
    let n : ℕ = t.accounts in
    let one : (p : ℕ) → Cancel n (λ a. net_by a p call) = call_cancels t st before.size call none in
    record {
      size = sized_after t st before.size call;
      nets = λ p.
          like n (λ a. net a p (as_met st call true ∷ h)) (λ a. net a p h +ℤ net_by a p call) (λ a. net_accepted st call a p h)
          (both_cancel n (λ a. net a p h) (λ a. net_by a p call) (before.nets p) (one p));
      rests = λ p.
          like n (λ a. rest_sum a p (as_met st call true ∷ h)) (λ a. rest_sum a p h +ℤ (moved 0 a p call +ℤ net a p h *ℤ points_by call p)) (λ a. rest_accepted st call a p h)
          (both_cancel n (λ a. rest_sum a p h) (λ a. moved 0 a p call +ℤ net a p h *ℤ points_by call p) (before.rests p)
          (both_cancel n (λ a. moved 0 a p call) (λ a. net a p h *ℤ points_by call p)
          (times_cancels n (λ a. net_by a p call) (move_worth (step_worth p) (trade_price call) 0) (one p)) (times_cancels n (λ a. net a p h) (points_by call p) (before.nets p))));
    }

cancels_refused : (t : Terms) (h : List Met) (st : State) → Cancels t h st → (call : Call) → Cancels t (as_met st call false ∷ h) st
cancels_refused t h st before call = record {
  size = before.size;
  nets = λ p. like t.accounts (λ a. net a p (as_met st call false ∷ h)) (λ a. net a p h) (λ a. net_refused st call a p h) (before.nets p);
  rests = λ p. like t.accounts (λ a. rest_sum a p (as_met st call false ∷ h)) (λ a. rest_sum a p h) (λ a. rest_refused st call a p h) (before.rests p);
}

-- after every list of calls
cancels : (t : Terms) {h : List Met} {st : State} → Reached t h st → Cancels t h st
cancels t = always t (Cancels t)
    (λ ok lots slips. record { size = sized_opened t ok lots slips; nets = λ p. nothing t.accounts; rests = λ p. nothing t.accounts })
    (λ h st before call law none. cancels_after t h st before call none)
    (cancels_refused t)

pub cancelling : (t : Terms) {h : List Met} {st : State} → Reached t h st → (p : ℕ) → sum_to (λ a. event_sum t a p h) t.accounts ≡ pos 0
cancelling t {h} r p =
    let c = cancels t r in
    let k : ℤ = pos (step_worth p) *ℤ pos (of_product (latest t h) p) in
    like t.accounts (λ a. event_sum t a p h) (λ a. net a p h *ℤ k +ℤ rest_sum a p h) (λ a. event_sum_splits t a p h)
    (both_cancel t.accounts (λ a. net a p h *ℤ k) (λ a. rest_sum a p h) (times_cancels t.accounts (λ a. net a p h) k (c.nets p)) (c.rests p))
