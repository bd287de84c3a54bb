use Rattle.std.proofs.Common.{◌≡◌, ℕ, ◌+◌, Bool, None, Err, List, map, length, sym, ap, ◌∙◌, subst, arith, rules}
use Rattle.std.specs.List.{AllByRecursion}
use Rattle.refusals.specs.Ranges.{first, accepted_as}
use Rattle.refusals.proofs.Passed.{refused_by, accepted_by, accepted_with}
use Rattle.records.specs.declared.lots.Lot.{Lot}
use Rattle.records.specs.declared.lots.Slip.{Slip}
use Rattle.records.specs.Lists.{items}
use Rattle.report.specs.State.{Money, Ledger}
use Rattle.report.specs.Sound.{LotSound, Funded}
use Rattle.pairing.specs.Pairs.{ledger}
use Rattle.pairing.proofs.Held.{LotKnown, all_fine}
use Rattle.rolling.specs.declared.sheets.Sheet.{Sheet}
use Rattle.rolling.specs.Sheets.{rolled_lot, rolled_at, rolled_money}
use Rattle.rolling.specs.Days.{sheet_of}
use Rattle.rolling.specs.Balances.{money}
use Rattle.rolling.proofs.Keeping.{marked, rolled_sound, rolled_known}
use Rattle.rolling.proofs.Settling.{rolled_funded}
use Rattle.runs.specs.Calls.{rollover_causes, rolled}
use Rattle.runs.specs.Calls.Call.{rollover}
use Rattle.runs.proofs.Accepted.{Rollable, rollable, not_refused}
use Rattle.runs.proofs.Answered.{Answered, when_refused, when_accepted}
use Rattle.book.specs.View.{view}
use Rattle.book.proofs.Bounds.{within_room, all_sound, sound_lots, by_place, all_known, known_by_place, sound_slips, roomy, empty_slips, unknown_slips}
use Rattle.book.proofs.state.Book.rollover.Goals as goal
use Rattle.book.proofs.state.Book.rollover.Goals.{In_ok-day, In_err-day, After-settle}

-- the bound on an account's yen, by the parts of a state
abbrev FundedBy : ℕ → Money → Ledger → Type 0
FundedBy n m l = Funded n m.deposits m.waiting_one m.waiting_two l.lots l.slips

-- nothing refuses the sheet, and the day is its day
passed : (c : In_ok-day) → None ≡ first (rollover_causes (view c.args.self.now) c.args.sheet.now)
passed c = accepted_by _ c.args.sheet.now (sheet_of c.in_ok-day.day) (sym c.check_rollover.ensures ∙ ap (accepted_as sheet_of) c.in_ok-day.was)

day_is : (c : In_ok-day) → sheet_of c.in_ok-day.day ≡ c.args.sheet.now
day_is c = sym (accepted_with _ c.args.sheet.now (sheet_of c.in_ok-day.day) (sym c.check_rollover.ensures ∙ ap (accepted_as sheet_of) c.in_ok-day.was))

accepted : (c : In_ok-day) → Rollable (view c.args.self.now) c.args.sheet.now
accepted c = rollable (view c.args.self.now) c.args.sheet.now (sym (passed c))

-- or a cause refuses it
refused : (c : In_err-day) → Answered (view c.args.self.now) (view c.args.self.now) (rollover c.args.sheet.now) (Err c.in_err-day.field-0.0)
refused c =
    when_refused (view c.args.self.now) (rollover c.args.sheet.now) tt c.in_err-day.field-0.0
    (refused_by _ c.args.sheet.now c.in_err-day.field-0.0 (sym c.check_rollover.ensures ∙ ap (accepted_as sheet_of) c.in_err-day.was))

pub roll_lots-requires : goal.roll_lots-requires
roll_lots-requires c =
    let b = c.args.self.now in all_fine 20000 (items b.ledger.lots) (sound_lots b.entries (items b.ledger.lots) b.taken b.lotsound)

pub settle-requires : goal.settle-requires
settle-requires c =
    let b = c.args.self.now in
    let long : length b.balances ≡ 64 = search rules in
    record { few = omega (arith, within_room b.ledger.slips, b.sliproom); sound = b.slipsound; roomy = roomy b.entries b.balances (items b.ledger.lots) (items b.ledger.slips) long b.taken b.funded }

-- the yen are what the sheet makes of them
money_is : (c : After-settle) → money c.settle.new.balances ≡ rolled_money (sheet_of c.in_ok-day.day) (items c.args.self.now.ledger.slips) (view c.args.self.now).money
money_is c =
    c.settle.ensures.money
    ∙ ap (λ (bank : Bool). rolled_at c.in_ok-day.day.prices.table bank (items c.args.self.now.ledger.slips) (view c.args.self.now).money) (sym (marked c.in_ok-day.day.is_bank_day))

pub invariant_of-self : goal.invariant_of-self
invariant_of-self c =
    let b = c.args.self.now in
    let day = c.in_ok-day.day in
    let sheet : Sheet = sheet_of day in
    let n : ℕ = b.entries + 1 in
    let r = accepted (goal.at.invariant_of-self c).In_ok-day in
    let lots : List Lot = items c.roll_lots.new.lots in
    let slips : List Slip = items c.settle.new.slips in
    let lots_are = c.roll_lots.ensures.items in
    let slips_are = c.settle.ensures.cleared in
    let sound_now : AllByRecursion (LotSound n) lots =
    subst (AllByRecursion (LotSound n)) (sym lots_are) (rolled_sound sheet.points day.points.mild b.entries (items b.ledger.lots) (all_sound b.entries (items b.ledger.lots) b.lotsound)) in
    let known_now : AllByRecursion (LotKnown b.accounts) lots =
    subst (AllByRecursion (LotKnown b.accounts)) (sym lots_are) (rolled_known sheet.points b.accounts (items b.ledger.lots) (all_known b.accounts (items b.ledger.lots) b.lotsknown)) in
    let funded_now : FundedBy n (money c.settle.new.balances) (ledger lots slips) =
    subst (λ (m : Money). FundedBy n m (ledger lots slips)) (sym (money_is (goal.at.invariant_of-self c).After-settle))
    (subst (λ (xs : List Lot). FundedBy n (rolled_money sheet (items b.ledger.slips) (view b).money) (ledger xs slips)) (sym lots_are)
    (subst (λ (xs : List Slip). FundedBy n (rolled_money sheet (items b.ledger.slips) (view b).money) (ledger (map (rolled_lot sheet.points) (items b.ledger.lots)) xs)) (sym slips_are)
    (rolled_funded b.entries sheet (view b).money (items b.ledger.lots) (items b.ledger.slips) b.funded day.prices.priced (sound_slips (items b.ledger.slips) b.slipsound)))) in
    record {
      peopled = b.peopled;
      taken = omega (arith, r.entry_free);
      lotroom = omega (arith, c.roll_lots.ensures.room, b.lotroom);
      sliproom = omega (arith, c.settle.ensures.room, b.sliproom);
      lotsound = by_place n lots sound_now;
      lotsknown = known_by_place b.accounts lots known_now;
      slipsound = empty_slips slips slips_are;
      slipsknown = unknown_slips b.accounts slips slips_are;
      funded = funded_now;
    }

pub returns-in_err-day-clause-left : goal.returns-in_err-day-clause-left
returns-in_err-day-clause-left c = (refused (goal.at.returns-in_err-day-clause-left c).In_err-day).leaves

pub returns-in_err-day-clause-whole : goal.returns-in_err-day-clause-whole
returns-in_err-day-clause-whole c = (refused (goal.at.returns-in_err-day-clause-whole c).In_err-day).stands

pub returns : goal.returns
returns c =
    let b = c.args.self.now in
    let sheet : Sheet = sheet_of c.in_ok-day.day in
    let lots_are = c.roll_lots.ensures.items in
    let slips_are = c.settle.ensures.cleared in
    let lot_room = c.roll_lots.ensures.room in
    let slip_room = c.settle.ensures.room in
    let yen_are = money_is (goal.at.returns c).After-settle in
    let moves : _ ≡ rolled (view b) sheet = λ i. record {
      limits = record { accounts = b.accounts; lot_places = lot_room i; slip_places = slip_room i };
      prices = sheet.prices;
      ledger = record { lots = lots_are i; slips = slips_are i };
      money = yen_are i;
      entries = b.entries + 1;
    } in
    let r = when_accepted (view b) _ (rollover c.args.sheet.now) tt (passed (goal.at.returns c).In_ok-day) (moves ∙ ap (rolled (view b)) (day_is (goal.at.returns c).In_ok-day)) in
    record { answer = r.answers; left = r.leaves; whole = r.stands; untouched = not_refused }
