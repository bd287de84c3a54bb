-- All slips and the open lots at the latest prices are worth the event sum, after every list of calls.
--
-- No latest price is carried through the runs: what is kept are the contracts and the worth at price 0, and from these the worth at
-- any price follows.
use Rattle.std.proofs.Common.{◌≡◌, ℕ, ◌≤◌, Bool, true, false, cond, ◌&&◌, eqb, List, [], ◌∷◌, ◌++◌, map, ℤ, pos, negsuc, ◌+ℤ◌, ◌-ℤ◌, ◌*ℤ◌, None, sym, refl, ap, ◌∙◌, ⊎_elim, arith}
use mathlib.Core.Bool.{and-false}
use lib.IntN.{zero-*ℤ, *ℤ-zero}
use borrow.Author.Differences.{ints}
use Rattle.std.proofs.ByRecursion.{All-append, All-map}
use Rattle.std.proofs.lemmas.Bool.{eq-eqb, ne_eqb, cases_eq}
use Rattle.money.specs.Products.{of_product, step_worth, move_worth}
use Rattle.money.specs.Ints.{multiplied}
use Rattle.money.proofs.Sums.{sum_same, sum_plus, sum_by, sum_append, sum_map}
use Rattle.records.specs.declared.lots.Side.TheVariants.{Bought, Sold}
use Rattle.records.specs.declared.lots.Lot.{Lot}
use Rattle.records.specs.Lots.{is_bought, gain, slip_sum, open_worth}
use Rattle.closing.specs.Rules.{Rule, Lawful, AllOpen}
use Rattle.pairing.specs.declared.Deal.{Deal}
use Rattle.pairing.specs.Pairs.{ledger, paired}
use Rattle.pairing.specs.Deals.{new_lot, with_deal, entered, bought_closed, dealt}
use Rattle.pairing.proofs.Held.{pair_open}
use Rattle.pairing.proofs.Entering.{closed_open}
use Rattle.report.specs.State.{State, Ledger}
use Rattle.rolling.specs.declared.sheets.Sheet.{Sheet}
use Rattle.rolling.specs.Points.{points_of}
use Rattle.rolling.specs.Sheets.{rolled_lot}
use Rattle.runs.specs.Opening.{Terms}
use Rattle.runs.specs.Calls.{Call, cause_of, after, deal, named_lot}
use Rattle.runs.specs.Calls.Call.{trade, declare, rollover, deposit, withdraw}
use Rattle.runs.specs.Whole.{Met, Reached, LawKept, latest, net_by, net, trade_price, moved, points_by, past_slips, cleared_by, event_sum}
use Rattle.runs.proofs.Runs.{always, as_met}
use Rattle.runs.proofs.Accepted.{tradable, declarable}
use Rattle.runs.proofs.Weights.{weighted, if_of, unit_net, unit_rest, own_product, open_worth_splits}
use Rattle.runs.proofs.Pairs.{slips_append, at_zero, Conserved, unchanged, then, pair_conserves, closing_conserves}
use Rattle.runs.proofs.Events.{rest_sum, event_sum_splits, net_accepted, rest_accepted, net_refused, rest_refused}

-- What is kept of lots and slips.
pub record Accounted (h : List Met) (l : Ledger) : Type 0 where
  pub all_open : AllOpen l.lots
  pub nets : (a p : ℕ) → weighted (unit_net a p) l.lots ≡ net a p h
  pub rests : (a p : ℕ) → slip_sum a p (past_slips h) +ℤ at_zero a p l ≡ rest_sum a p h

-- from which the event sums follow at the latest prices, whatever they are
pub event_sums : (t : Terms) (h : List Met) (l : Ledger) → Accounted h l → (a p : ℕ) →
    slip_sum a p (past_slips h ++ l.slips) +ℤ open_worth (of_product (latest t h) p) a p l.lots ≡ event_sum t a p h
event_sums t h l kept a p =
    let now : ℕ = of_product (latest t h) p in
    let worth = open_worth_splits now a p l.lots ∙ ap (λ (z : ℤ). z *ℤ (pos (step_worth p) *ℤ pos now) +ℤ weighted (unit_rest a p) l.lots) (kept.nets a p) in
    omega (arith, ints, worth, slips_append a p (past_slips h) l.slips, event_sum_splits t a p h, kept.rests a p)

-- A CALL THAT IS NO TRADE AND NO ROLLOVER

no_move : (a p : ℕ) (call : Call) → net_by a p call ≡ pos 0 → moved 0 a p call ≡ pos 0
no_move a p call none = let each : ℤ = move_worth (step_worth p) (trade_price call) 0 in ap (λ (z : ℤ). z *ℤ each) none ∙ zero-*ℤ each

quiet : (h : List Met) (st : State) (call : Call) (now : Ledger) → Accounted h st.ledger → AllOpen now.lots → Conserved st.ledger now →
    ((a p : ℕ) → net_by a p call ≡ pos 0) → ((p : ℕ) → points_by call p ≡ pos 0) → cleared_by call st.ledger.slips ≡ [] →
    Accounted (as_met st call true ∷ h) now
quiet h st call now kept open_now same no_trade no_points none = record {
  all_open = open_now;
  nets = λ a p. omega (arith, ints, same.nets a p, kept.nets a p, net_accepted st call a p h, no_trade a p);
  rests = λ a p.
      let x : moved 0 a p call ≡ pos 0 = no_move a p call (no_trade a p) in
      let y : net a p h *ℤ points_by call p ≡ pos 0 = ap (λ (z : ℤ). net a p h *ℤ z) (no_points p) ∙ *ℤ-zero (net a p h) in
      let past : slip_sum a p (past_slips (as_met st call true ∷ h)) ≡ slip_sum a p (past_slips h) = ap (λ xs. slip_sum a p (xs ++ past_slips h)) none in
      omega (arith, ints, same.worths a p, kept.rests a p, rest_accepted st call a p h, x, y, past);
}

-- A TRADE

same_test : (m n : ℕ) → eqb m n ≡ eqb n m
same_test m n =
    ⊎_elim (λ (e : m ≡ n). eq-eqb m n e ∙ sym (eq-eqb n m (sym e))) (λ (d : m ≡ n → ⊥). ne_eqb m n d ∙ sym (ne_eqb n m (λ e. d (sym e)))) (cases_eq m n)

-- one lot is bought, one sold
two_nets : (buys sells mine : Bool) (q : ℤ) →
    q *ℤ cond (buys && mine) (pos 1) (pos 0) +ℤ (q *ℤ cond (sells && mine) (negsuc 0) (pos 0) +ℤ pos 0) ≡ cond mine (cond buys q (pos 0) -ℤ cond sells q (pos 0)) (pos 0)
two_nets true true true q = simp multiplied (omega (arith, ints))
two_nets true false true q = simp multiplied (omega (arith, ints))
two_nets false true true q = simp multiplied (omega (arith, ints))
two_nets false false true q = simp multiplied (omega (arith, ints))
two_nets buys sells false q = rw (and-false buys, and-false sells) (simp multiplied (omega (arith, ints)))

-- a lot without points is worth at price 0 what its price says
lot_rest : (a p : ℕ) (l : Lot) → l.points ≡ pos 0 → unit_rest a p l ≡ unit_net a p l *ℤ move_worth (step_worth p) l.price 0
lot_rest a p l none =
    ap (λ (z : ℤ). if_of a p l (gain 0 l +ℤ z)) none
    ∙ by (eqb l.account a && eqb l.product p) (is_bought l.side) (pos (step_worth l.product)) (pos l.price)
    ∙ own_product a p l (cond (is_bought l.side) (pos 1) (negsuc 0)) (λ p'. move_worth (step_worth p') l.price 0)
  where
    by : (mine bought : Bool) (w price : ℤ) →
        cond mine (cond bought (w *ℤ (pos 0 -ℤ price)) (w *ℤ (price -ℤ pos 0)) +ℤ pos 0) (pos 0) ≡ cond mine (cond bought (pos 1) (negsuc 0)) (pos 0) *ℤ (w *ℤ (pos 0 -ℤ price))
    by true true w price = simp multiplied (omega (arith, ints))
    by true false w price = simp multiplied (omega (arith, ints))
    by false bought w price = simp multiplied (omega (arith, ints))

gathered : (q b s k rb rs n : ℤ) → rb ≡ b *ℤ k → rs ≡ s *ℤ k → q *ℤ b +ℤ (q *ℤ s +ℤ pos 0) ≡ n → q *ℤ rb +ℤ (q *ℤ rs +ℤ pos 0) ≡ n *ℤ k
gathered q b s k rb rs n eb es en = rw (eb, es, ← en) (simp multiplied (omega (arith, ints)))

module _ (rule : Rule) (d : Deal) (lots : List Lot) (a p : ℕ) where
  abbrev call_of : Call
  call_of = trade rule d.buyer d.seller d.product d.quantity d.price

  abbrev bought_lot : Lot
  bought_lot = new_lot d.buyer Bought d

  abbrev sold_lot : Lot
  sold_lot = new_lot d.seller Sold d

  with_both : (k : Lot → ℤ) → weighted k (with_deal d lots) ≡ weighted k lots +ℤ (pos d.quantity *ℤ k bought_lot +ℤ (pos d.quantity *ℤ k sold_lot +ℤ pos 0))
  with_both k = sum_append (λ l. pos l.remaining *ℤ k l) lots (bought_lot ∷ sold_lot ∷ [])

  both_nets : pos d.quantity *ℤ unit_net a p bought_lot +ℤ (pos d.quantity *ℤ unit_net a p sold_lot +ℤ pos 0) ≡ net_by a p call_of
  both_nets =
      rw (same_test a d.buyer, same_test a d.seller, same_test p d.product)
      (two_nets (eqb d.buyer a) (eqb d.seller a) (eqb d.product p) (pos d.quantity))

  entered_net : weighted (unit_net a p) (with_deal d lots) ≡ weighted (unit_net a p) lots +ℤ net_by a p call_of
  entered_net = with_both (unit_net a p) ∙ ap (λ (z : ℤ). weighted (unit_net a p) lots +ℤ z) both_nets

  entered_rest : weighted (unit_rest a p) (with_deal d lots) ≡ weighted (unit_rest a p) lots +ℤ moved 0 a p call_of
  entered_rest =
      with_both (unit_rest a p)
      ∙ ap (λ (z : ℤ). weighted (unit_rest a p) lots +ℤ z)
      (gathered (pos d.quantity) (unit_net a p bought_lot) (unit_net a p sold_lot) (move_worth (step_worth p) d.price 0) (unit_rest a p bought_lot) (unit_rest a p sold_lot) (net_by a p call_of)
      (lot_rest a p bought_lot refl) (lot_rest a p sold_lot refl) both_nets)

-- both lots come in, and the rule closes buyer and seller
deal_open : (d : Deal) (l : Ledger) → 1 ≤ d.quantity → AllOpen l.lots → AllOpen (entered d l).lots
deal_open d l some open_all =
    All-append (λ (x : Lot). 1 ≤ x.remaining) l.lots (new_lot d.buyer Bought d ∷ new_lot d.seller Sold d ∷ []) open_all (some, (some, tt))

kept_trade : (rule : Rule) → Lawful rule → (h : List Met) (st : State) → Accounted h st.ledger → (buyer seller p q price : ℕ) → 1 ≤ q →
    Accounted (as_met st (trade rule buyer seller p q price) true ∷ h) (dealt rule (deal st buyer seller p q price) st.ledger)
kept_trade rule lawful h st kept buyer seller p q price some =
    let call : Call = trade rule buyer seller p q price in
    let d : Deal = deal st buyer seller p q price in
    let in_open = deal_open d st.ledger some kept.all_open in
    let MidOpen = closed_open rule lawful buyer p 500 (entered d st.ledger) in_open in
    let same : Conserved (entered d st.ledger) (dealt rule d st.ledger) =
    then (entered d st.ledger) (bought_closed rule d st.ledger) (dealt rule d st.ledger)
    (closing_conserves rule lawful 500 buyer p (entered d st.ledger) in_open)
    (closing_conserves rule lawful 500 seller p (bought_closed rule d st.ledger) MidOpen) in
    record {
      all_open = closed_open rule lawful seller p 500 (bought_closed rule d st.ledger) MidOpen;
      nets = λ a p'. omega (arith, ints, same.nets a p', entered_net rule d st.ledger.lots a p', kept.nets a p', net_accepted st call a p' h);
      rests = λ a p'. omega (arith, ints, same.worths a p', entered_rest rule d st.ledger.lots a p', kept.rests a p', rest_accepted st call a p' h, *ℤ-zero (net a p' h));
    }

-- A ROLLOVER

-- each lot gains its points for each contract bought
rolled_one : (points : List ℤ) (a p : ℕ) (l : Lot) → unit_rest a p (rolled_lot points l) ≡ unit_rest a p l +ℤ unit_net a p l *ℤ points_of points p
rolled_one points a p l =
    by (eqb l.account a && eqb l.product p) (is_bought l.side) (gain 0 l) l.points (points_of points l.product)
    ∙ ap (λ (z : ℤ). unit_rest a p l +ℤ z) (own_product a p l (cond (is_bought l.side) (pos 1) (negsuc 0)) (points_of points))
  where
    by : (mine bought : Bool) (g z x : ℤ) →
        cond mine (g +ℤ cond bought (z +ℤ x) (z -ℤ x)) (pos 0) ≡ cond mine (g +ℤ z) (pos 0) +ℤ cond mine (cond bought (pos 1) (negsuc 0)) (pos 0) *ℤ x
    by true true g z x = omega (arith, ints)
    by true false g z x = omega (arith, ints)
    by false bought g z x = omega (arith, ints)

rolled_rest : (points : List ℤ) (a p : ℕ) (lots : List Lot) →
    weighted (unit_rest a p) (map (rolled_lot points) lots) ≡ weighted (unit_rest a p) lots +ℤ weighted (unit_net a p) lots *ℤ points_of points p
rolled_rest points a p lots =
    sum_map (λ l. pos l.remaining *ℤ unit_rest a p l) (rolled_lot points) lots
    ∙ sum_same (λ l. pos l.remaining *ℤ unit_rest a p (rolled_lot points l))
    (λ l. pos l.remaining *ℤ unit_rest a p l +ℤ (pos l.remaining *ℤ unit_net a p l) *ℤ points_of points p)
    (λ l. ap (λ (z : ℤ). pos l.remaining *ℤ z) (rolled_one points a p l) ∙ spread (pos l.remaining) (unit_rest a p l) (unit_net a p l) (points_of points p)) lots
    ∙ sum_plus (λ l. pos l.remaining *ℤ unit_rest a p l) (λ l. (pos l.remaining *ℤ unit_net a p l) *ℤ points_of points p) lots
    ∙ ap (λ (z : ℤ). weighted (unit_rest a p) lots +ℤ z) (sum_by (λ l. pos l.remaining *ℤ unit_net a p l) (points_of points p) lots)
  where
    spread : (r x n y : ℤ) → r *ℤ (x +ℤ n *ℤ y) ≡ r *ℤ x +ℤ (r *ℤ n) *ℤ y
    spread r x n y = simp multiplied (omega (arith, ints))

kept_rollover : (h : List Met) (st : State) → Accounted h st.ledger → (sheet : Sheet) →
    Accounted (as_met st (rollover sheet) true ∷ h) (ledger (map (rolled_lot sheet.points) st.ledger.lots) [])
kept_rollover h st kept sheet =
    let call : Call = rollover sheet in
    let lots : List Lot = st.ledger.lots in
    record {
      all_open = All-map (λ (l : Lot). 1 ≤ l.remaining) (rolled_lot sheet.points) lots kept.all_open;
      nets = λ a p. omega (arith, ints, sum_map (λ l. pos l.remaining *ℤ unit_net a p l) (rolled_lot sheet.points) lots, kept.nets a p, net_accepted st call a p h);
      rests = λ a p.
          let new = rolled_rest sheet.points a p lots ∙ ap (λ (z : ℤ). weighted (unit_rest a p) lots +ℤ z *ℤ points_of sheet.points p) (kept.nets a p) in
          omega (arith, ints, new, slips_append a p st.ledger.slips (past_slips h), kept.rests a p, rest_accepted st call a p h, no_move a p call refl);
    }

-- AFTER EVERY LIST OF CALLS

kept_after : (h : List Met) (st : State) → Accounted h st.ledger → (call : Call) → LawKept call → cause_of st call ≡ None → Accounted (as_met st call true ∷ h) (after st call).ledger
kept_after h st kept (trade rule buyer seller p q price) law none = kept_trade rule law h st kept buyer seller p q price (tradable st buyer seller p q price none).some
kept_after h st kept (declare rule a p b s q) law none =
    let passed = declarable rule st a p b s q none in
    let at_b : ℕ = named_lot st a p Bought b in
    let at_s : ℕ = named_lot st a p Sold s in
    quiet h st (declare rule a p b s q) (paired st.ledger at_b at_s q) kept (pair_open st.ledger at_b at_s q)
    (pair_conserves a p st.ledger at_b at_s q passed.bought_open passed.sold_open) (λ _ _. refl) (λ _. refl) refl
kept_after h st kept (rollover sheet) law none = kept_rollover h st kept sheet
kept_after h st kept (deposit a y) law none = quiet h st (deposit a y) st.ledger kept kept.all_open (unchanged st.ledger) (λ _ _. refl) (λ _. refl) refl
kept_after h st kept (withdraw schedule a y) law none =
    quiet h st (withdraw schedule a y) st.ledger kept kept.all_open (unchanged st.ledger) (λ _ _. refl) (λ _. refl) refl

kept_refused : (h : List Met) (st : State) → Accounted h st.ledger → (call : Call) → Accounted (as_met st call false ∷ h) st.ledger
kept_refused h st kept call = record {
  all_open = kept.all_open;
  nets = λ a p. kept.nets a p ∙ sym (net_refused st call a p h);
  rests = λ a p. kept.rests a p ∙ sym (rest_refused st call a p h);
}

pub accounted : (t : Terms) {h : List Met} {st : State} → Reached t h st → Accounted h st.ledger
accounted t = always t (λ h st. Accounted h st.ledger)
    (λ ok lots slips. record { all_open = tt; nets = λ a p. refl; rests = λ a p. refl })
    kept_after
    kept_refused
