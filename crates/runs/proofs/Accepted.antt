-- What is known of a call that no cause refuses.
use Rattle.std.proofs.Common.{◌≡◌, ℕ, ◌+◌, ◌<◌, ◌≤◌, Bool, true, false, cond, ◌&&◌, ◌||◌, eqb, ltb, List, length, pos, negsuc, Some, None, refl, ap, ◌∙◌, arith}
use Rattle.refusals.specs.declared.Refusal.TheVariants as refusal
use Rattle.std.proofs.lemmas.Bool.{leb-false, ltb-false, eqb-true, and_parts, or_parts}
use Rattle.refusals.specs.Ranges.{outside, outside_ℤ, any, first}
use Rattle.refusals.proofs.Passed.{inside, no_cause}
use Rattle.records.specs.declared.lots.Side.{Side}
use Rattle.records.specs.declared.lots.Side.TheVariants.{Bought, Sold}
use Rattle.records.specs.declared.lots.Lot.{Lot}
use Rattle.records.specs.Lots.{column, is_of, held, nobody}
use Rattle.closing.specs.Rules.{Rule, OpenLot, lot_at}
use Rattle.closing.specs.Pairs.{place_passes}
use Rattle.pairing.specs.Deals.{is_lot}
use Rattle.report.specs.State.{State}
use Rattle.report.specs.Report.{withdrawable}
use Rattle.rolling.specs.declared.sheets.Sheet.{Sheet}
use Rattle.runs.specs.Opening.{Terms, bad_price, outside_limits, opening_causes}
use Rattle.runs.specs.Calls.{trade_causes, declare_causes, rollover_causes, deposit_causes, withdraw_causes, named_lot, smaller_remainder}

-- its answer is no refusal
pub not_refused : {A : Type 0} → true ≡ false → A
not_refused e = let z : ◌≡◌ {A = ℕ} 0 1 = cc in absurd (omega arith)

-- an opening: its limits and prices were tested
pub record Openable (accounts lot_places slip_places : ℕ) : Type 0 where
  pub some : 1 ≤ accounts
  pub few : accounts ≤ 64
  pub lots_few : lot_places ≤ 4096
  pub slips_few : slip_places ≤ 8192

pub openable : (accounts lots slips : ℕ) → outside_limits accounts lots slips ≡ false → Openable accounts lots slips
openable accounts lots slips e =
    let all = or_parts (outside 1 64 accounts) (outside 2 4096 lots || outside 1000 8192 slips) e in
    let places = or_parts (outside 2 4096 lots) (outside 1000 8192 slips) all.1 in
    let a = inside 1 64 accounts all.0 in
    record { some = a.0; few = a.1; lots_few = (inside 2 4096 lots places.0).1; slips_few = (inside 1000 8192 slips places.1).1 }

-- where neither test holds, no cause refuses it
pub opens : (t : Terms) → outside_limits t.accounts t.lot_places t.slip_places ≡ false → any bad_price t.prices ≡ false → first (opening_causes t) ≡ None
opens t limits prices =
    ap (λ (b : Bool). cond b (Some refusal.Opening) (cond (any bad_price t.prices) (Some refusal.Figure) None)) limits
    ∙ ap (λ (b : Bool). cond b (Some refusal.Figure) None) prices

-- a payment
pub record Payable (st : State) (a y : ℕ) : Type 0 where
  pub from : 1 ≤ a
  pub known : a ≤ st.limits.accounts
  pub entry_free : st.entries < 20000
  pub some : 1 ≤ y
  pub few : y ≤ 1000000000

pub payable : (st : State) (a y : ℕ) → first (deposit_causes st a y) ≡ None → Payable st a y
payable st a y none =
    let passed = no_cause (deposit_causes st a y) none in
    let account = inside 1 st.limits.accounts a passed.0 in
    let amount = inside 1 1000000000 y passed.1.1.0 in
    record {
      from = account.0;
      known = account.1;
      entry_free = leb-false 20000 st.entries passed.1.0;
      some = amount.0;
      few = amount.1;
    }

-- a withdrawal, which is a payment of no more than may be withdrawn
pub record Drawable (schedule : ℕ → ℕ) (st : State) (a y : ℕ) : Type 0 where
  pub payment : Payable st a y
  pub enough : y ≤ withdrawable schedule st a

pub drawable : (schedule : ℕ → ℕ) (st : State) (a y : ℕ) → first (withdraw_causes schedule st a y) ≡ None → Drawable schedule st a y
drawable schedule st a y none =
    let passed = no_cause (withdraw_causes schedule st a y) none in
    let account = inside 1 st.limits.accounts a passed.0 in
    let amount = inside 1 1000000000 y passed.1.1.0 in
    record {
      payment = record {
        from = account.0;
        known = account.1;
        entry_free = leb-false 20000 st.entries passed.1.0;
        some = amount.0;
        few = amount.1;
      };
      enough = ltb-false (withdrawable schedule st a) y passed.1.1.1.0;
    }

-- a trade
pub record Tradable (st : State) (buyer seller p q price : ℕ) : Type 0 where
  pub buyer_from : 1 ≤ buyer
  pub buyer_known : buyer ≤ st.limits.accounts
  pub seller_from : 1 ≤ seller
  pub seller_known : seller ≤ st.limits.accounts
  pub product_from : 1 ≤ p
  pub product_known : p ≤ 16
  pub some : 1 ≤ q
  pub few : q ≤ 500
  pub priced : price ≤ 999999
  pub buys : held 0 buyer p st.ledger.lots + q ≤ 500
  pub sells : held 1 seller p st.ledger.lots + q ≤ 500
  pub lots_free : length st.ledger.lots + 2 ≤ st.limits.lot_places
  pub slips_free : length st.ledger.slips + 1000 ≤ st.limits.slip_places
  pub entry_free : st.entries < 20000

pub tradable : (st : State) (buyer seller p q price : ℕ) → first (trade_causes st buyer seller p q price) ≡ None → Tradable st buyer seller p q price
tradable st buyer seller p q price none =
    let passed = no_cause (trade_causes st buyer seller p q price) none in
    let first_account = inside 1 st.limits.accounts buyer passed.0 in
    let second_account = inside 1 st.limits.accounts seller passed.1.0 in
    let product = inside 1 16 p passed.1.1.0 in
    let quantity = inside 1 500 q passed.1.1.1.0 in
    let rest = passed.1.1.1.1.1.1 in
    let free = or_parts (ltb st.limits.lot_places (length st.ledger.lots + 2)) (ltb st.limits.slip_places (length st.ledger.slips + 1000)) rest.1.1.0 in
    record {
      buyer_from = first_account.0;
      buyer_known = first_account.1;
      seller_from = second_account.0;
      seller_known = second_account.1;
      product_from = product.0;
      product_known = product.1;
      some = quantity.0;
      few = quantity.1;
      priced = (inside 1 999999 price passed.1.1.1.1.0).1;
      buys = ltb-false 500 (held 0 buyer p st.ledger.lots + q) rest.0;
      sells = ltb-false 500 (held 1 seller p st.ledger.lots + q) rest.1.0;
      lots_free = ltb-false st.limits.lot_places (length st.ledger.lots + 2) free.0;
      slips_free = ltb-false st.limits.slip_places (length st.ledger.slips + 1000) free.1;
      entry_free = leb-false 20000 st.entries rest.1.1.1.0;
    }

-- a declaration
same_side : (s t : Side) → column s ≡ column t → s ≡ t
same_side Bought Bought e = refl
same_side Bought Sold e = absurd (omega arith)
same_side Sold Bought e = absurd (omega arith)
same_side Sold Sold e = refl

-- the lot that is named is what it is named for
open_named : (st : State) (a p : ℕ) (side : Side) (n q : ℕ) → named_lot st a p side n < length st.ledger.lots →
    q ≤ (lot_at st.ledger.lots (named_lot st a p side n)).remaining → OpenLot st.ledger.lots a p side (named_lot st a p side n) q
open_named st a p side n q h le =
    let lots : List Lot = st.ledger.lots in
    let l : Lot = lot_at lots (named_lot st a p side n) in
    let both = and_parts (is_of a p (column side) l) (eqb l.entry n) (place_passes (is_lot a p side n) lots nobody h) in
    let x = and_parts (eqb l.account a) (eqb l.product p && eqb (column l.side) (column side)) both.0 in
    let y = and_parts (eqb l.product p) (eqb (column l.side) (column side)) x.1 in
    record {
      within = h;
      account_is = eqb-true l.account a x.0;
      product_is = eqb-true l.product p y.0;
      side_is = same_side l.side side (eqb-true (column l.side) (column side) y.1);
      enough = le;
    }

pub record Declarable (st : State) (a p b s q : ℕ) : Type 0 where
  pub few : q ≤ 500
  pub slip_free : length st.ledger.slips < st.limits.slip_places
  pub entry_free : st.entries < 20000
  pub bought_open : OpenLot st.ledger.lots a p Bought (named_lot st a p Bought b) q
  pub sold_open : OpenLot st.ledger.lots a p Sold (named_lot st a p Sold s) q

pub declarable : (rule : Rule) (st : State) (a p b s q : ℕ) → first (declare_causes rule st a p b s q) ≡ None → Declarable st a p b s q
declarable rule st a p b s q none =
    let lots : List Lot = st.ledger.lots in
    let passed = no_cause (declare_causes rule st a p b s q) none in
    let rest = passed.1.1.1.1.1 in
    let in_b = leb-false (length lots) (named_lot st a p Bought b) rest.1.0 in
    let in_s = leb-false (length lots) (named_lot st a p Sold s) rest.1.1.0 in
    let least = ltb-false (smaller_remainder st a p b s) q rest.1.1.1.0 in
    record {
      few = (inside 1 500 q passed.1.1.0).1;
      slip_free = leb-false st.limits.slip_places (length st.ledger.slips) passed.1.1.1.0;
      entry_free = leb-false 20000 st.entries passed.1.1.1.1.0;
      bought_open = open_named st a p Bought b q in_b (omega arith);
      sold_open = open_named st a p Sold s q in_s (omega arith);
    }

-- a rollover
pub record Rollable (st : State) (sheet : Sheet) : Type 0 where
  pub prices_good : any bad_price sheet.prices ≡ false
  pub points_good : any (outside_ℤ (negsuc 9999) (pos 10000)) sheet.points ≡ false
  pub entry_free : st.entries < 20000

pub rollable : (st : State) (sheet : Sheet) → first (rollover_causes st sheet) ≡ None → Rollable st sheet
rollable st sheet none =
    let passed = no_cause (rollover_causes st sheet) none in
    let wild : Bool = any (outside_ℤ (negsuc 9999) (pos 10000)) sheet.points in
    let figures = or_parts (outside 0 1 sheet.mark) (any bad_price sheet.prices || wild) passed.0 in
    let tables = or_parts (any bad_price sheet.prices) wild figures.1 in
    record { prices_good = tables.0; points_good = tables.1; entry_free = leb-false 20000 st.entries passed.1.0 }
