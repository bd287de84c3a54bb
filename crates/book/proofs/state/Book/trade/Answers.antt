use Rattle.std.proofs.Common.{◌≡◌, ℕ, ◌+◌, None, Err, List, sym, ap, ◌∙◌, subst, arith}
use Rattle.std.specs.List.{AllByRecursion}
use Rattle.refusals.specs.Ranges.{first}
use Rattle.refusals.proofs.Passed.{refused_by, accepted_by, accepted_with}
use Rattle.records.specs.declared.lots.Lot.{Lot}
use Rattle.records.specs.declared.lots.Slip.{Slip}
use Rattle.records.specs.Lists.{items, room}
use Rattle.closing.specs.Rules.{Rule, Lawful}
use Rattle.report.specs.State.{State, Ledger}
use Rattle.report.specs.Sound.{LotSound, SlipSound, Known, Funded, slipped, bought_left}
use Rattle.pairing.specs.declared.Deal.{Deal}
use Rattle.pairing.specs.Pairs.{Asked, ledger}
use Rattle.pairing.specs.Deals.{bought_closed, dealt}
use Rattle.pairing.proofs.Held.{LotKnown, SlipKnown}
use Rattle.pairing.proofs.Entering.{Dealable, buyer_asked, seller_asked, dealt_sound, dealt_known, dealt_slips, dealt_slips_known, dealt_passes}
use Rattle.rolling.specs.Balances.{deposits, first_waiting, second_waiting}
use Rattle.runs.specs.Calls.{deal, trade_causes}
use Rattle.runs.specs.Calls.Call.{trade}
use Rattle.book.specs.View.{view}
use Rattle.book.proofs.Bounds.{all_sound, later, sound_lots, by_place, all_known, known_by_place, sound_slips, slips_by_place, all_slips_known, slips_known_by_place, with_ledger}
use Rattle.runs.proofs.Accepted.{Tradable, tradable, not_refused}
use Rattle.runs.proofs.Answered.{Answered, when_refused, when_accepted}
use Rattle.book.proofs.state.Book.trade.Given as given
use Rattle.book.proofs.state.Book.trade.Goals as goal
use Rattle.book.proofs.state.Book.trade.Goals.{In_ok-deal, In_err-deal}

-- nothing refuses the trade
passed : (g : given.Over) (c : In_ok-deal g) → None ≡ first (trade_causes (view c.args.self.now) c.args.buyer c.args.seller c.args.product c.args.quantity c.args.price)
passed g c = accepted_by _ _ c.in_ok-deal.deal (sym c.check_trade.ensures ∙ c.in_ok-deal.was)

accepted : (g : given.Over) (c : In_ok-deal g) → Tradable (view c.args.self.now) c.args.buyer c.args.seller c.args.product c.args.quantity c.args.price
accepted g c = tradable (view c.args.self.now) c.args.buyer c.args.seller c.args.product c.args.quantity c.args.price (sym (passed g c))

-- the deal is the one that the definitions make
deal_is : (g : given.Over) (c : In_ok-deal g) → deal (view c.args.self.now) c.args.buyer c.args.seller c.args.product c.args.quantity c.args.price ≡ c.in_ok-deal.deal
deal_is g c = accepted_with _ _ c.in_ok-deal.deal (sym c.check_trade.ensures ∙ c.in_ok-deal.was)

-- what it is over
able : (g : given.Over) (c : In_ok-deal g) → Dealable (deal (view c.args.self.now) c.args.buyer c.args.seller c.args.product c.args.quantity c.args.price) (view c.args.self.now).ledger (room c.args.self.now.ledger.slips)
able g c =
    let b = c.args.self.now in
    let t = accepted g c in
    record { sound = sound_lots b.entries (items b.ledger.lots) b.taken b.lotsound; some = t.some; priced = t.priced; buys = t.buys; sells = t.sells; free = t.slips_free }

pub enter-requires : goal.enter-requires
enter-requires g c =
    let b = c.args.self.now in
    let at = (goal.at.enter-requires g c).In_ok-deal in
    let t = accepted g at in
    let a = subst (λ (d : Deal). Dealable d (view b).ledger (room b.ledger.slips)) (deal_is g at) (able g at) in
    record { sound = a.sound; some = a.some; priced = a.priced; buys = a.buys; sells = a.sells; lots_free = t.lots_free; slips_free = a.free }

pub invariant_of-self : goal.invariant_of-self
invariant_of-self g c =
    let b = c.args.self.now in
    let st : State = view b in
    let rule : Rule = g.R.ClosingRule.meaning c.args.rule.now in
    let law : Lawful rule = g.met.R.ClosingRule.lawful c.args.rule.now in
    let d : Deal = deal st c.args.buyer c.args.seller c.args.product c.args.quantity c.args.price in
    let t = accepted g (goal.at.invariant_of-self g c).In_ok-deal in
    let can = able g (goal.at.invariant_of-self g c).In_ok-deal in
    let r : ℕ = room b.ledger.slips in
    let same = deal_is g (goal.at.invariant_of-self g c).In_ok-deal in
    let n : ℕ = b.entries + 1 in
    let lots : List Lot = items c.enter.new.self.lots in
    let slips : List Slip = items c.enter.new.self.slips in
    let after : ledger lots slips ≡ dealt rule d st.ledger = c.enter.ensures.dealt ∙ ap (λ (x : Deal). dealt rule x st.ledger) (sym same) in
    let lots_are : lots ≡ (dealt rule d st.ledger).lots = ap (λ (l : Ledger). l.lots) after in
    let slips_are : slips ≡ (dealt rule d st.ledger).slips = ap (λ (l : Ledger). l.slips) after in
    let buyer : Known b.accounts d.buyer d.product = (t.buyer_from, t.buyer_known, t.product_from, t.product_known) in
    let seller : Known b.accounts d.seller d.product = (t.seller_from, t.seller_known, t.product_from, t.product_known) in
    let known = all_known b.accounts (items b.ledger.lots) b.lotsknown in
    let sound_now : AllByRecursion (LotSound n) lots =
    subst (AllByRecursion (LotSound n)) (sym lots_are) (dealt_sound rule law d st.ledger r can n (later b.entries n (items b.ledger.lots) (omega arith) (all_sound b.entries (items b.ledger.lots) b.lotsound))) in
    let known_now : AllByRecursion (LotKnown b.accounts) lots = subst (AllByRecursion (LotKnown b.accounts)) (sym lots_are) (dealt_known rule law d st.ledger r can b.accounts known buyer seller) in
    let slips_now : AllByRecursion SlipSound slips = subst (AllByRecursion SlipSound) (sym slips_are) (dealt_slips rule law d st.ledger r can (sound_slips (items b.ledger.slips) b.slipsound)) in
    let slips_known_now : AllByRecursion (SlipKnown b.accounts) slips =
    subst (AllByRecursion (SlipKnown b.accounts)) (sym slips_are) (dealt_slips_known rule law d st.ledger r can b.accounts known buyer seller (all_slips_known b.accounts (items b.ledger.slips) b.slipsknown)) in
    let passed = ap (λ (l : Ledger). slipped l.slips + bought_left l.lots) after ∙ dealt_passes rule law d st.ledger r can in
    let funded_now : Funded n (deposits b.balances) (first_waiting b.balances) (second_waiting b.balances) lots slips = λ k h. omega (arith, b.funded k h, t.few) in
    record {
      peopled = b.peopled;
      taken = omega (arith, t.entry_free);
      lotroom = omega (arith, c.enter.ensures.lot_room, b.lotroom);
      sliproom = omega (arith, c.enter.ensures.slip_room, b.sliproom);
      lotsound = by_place n lots sound_now;
      lotsknown = known_by_place b.accounts lots known_now;
      slipsound = slips_by_place slips slips_now;
      slipsknown = slips_known_by_place b.accounts slips slips_known_now;
      funded = funded_now;
    }

-- or a cause does
refused : (g : given.Over) (c : In_err-deal g) → Answered (view c.args.self.now) (view c.args.self.now) (trade (g.R.ClosingRule.meaning c.args.rule.now) c.args.buyer c.args.seller c.args.product c.args.quantity c.args.price) (Err c.in_err-deal.field-0.0)
refused g c =
    when_refused (view c.args.self.now) (trade (g.R.ClosingRule.meaning c.args.rule.now) c.args.buyer c.args.seller c.args.product c.args.quantity c.args.price) (g.met.R.ClosingRule.lawful c.args.rule.now) c.in_err-deal.field-0.0
    (refused_by _ _ c.in_err-deal.field-0.0 (sym c.check_trade.ensures ∙ c.in_err-deal.was))

pub returns-in_err-deal-clause-left : goal.returns-in_err-deal-clause-left
returns-in_err-deal-clause-left g c = (refused g (goal.at.returns-in_err-deal-clause-left g c).In_err-deal).leaves

pub returns-in_err-deal-clause-whole : goal.returns-in_err-deal-clause-whole
returns-in_err-deal-clause-whole g c = (refused g (goal.at.returns-in_err-deal-clause-whole g c).In_err-deal).stands

pub returns : goal.returns
returns g c =
    let b = c.args.self.now in
    let st : State = view b in
    let rule : Rule = g.R.ClosingRule.meaning c.args.rule.now in
    let law : Lawful rule = g.met.R.ClosingRule.lawful c.args.rule.now in
    let buyer = c.args.buyer in
    let seller = c.args.seller in
    let p = c.args.product in
    let q = c.args.quantity in
    let price = c.args.price in
    let d : Deal = deal st buyer seller p q price in
    let at = (goal.at.returns g c).In_ok-deal in
    let can = able g at in
    let after : ledger (items c.enter.new.self.lots) (items c.enter.new.self.slips) ≡ dealt rule d st.ledger = c.enter.ensures.dealt ∙ ap (λ (x : Deal). dealt rule x st.ledger) (sym (deal_is g at)) in
    let r = when_accepted st _ (trade rule buyer seller p q price) law (passed g at)
    (with_ledger st (room c.enter.new.self.lots) (room c.enter.new.self.slips) (ledger (items c.enter.new.self.lots) (items c.enter.new.self.slips)) (dealt rule d st.ledger) c.enter.ensures.lot_room c.enter.ensures.slip_room after) in
    record {
      answer = r.answers;
      left = r.leaves;
      whole = r.stands;
      buyer_asked = λ ok. buyer_asked rule law d st.ledger (room b.ledger.slips) can;
      seller_asked = λ ok. subst (Asked rule seller p (bought_closed rule d st.ledger)) (sym after) (seller_asked rule law d st.ledger (room b.ledger.slips) can);
      untouched = not_refused;
    }
