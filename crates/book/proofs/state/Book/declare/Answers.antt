use Rattle.std.proofs.Common.{◌≡◌, ℕ, ◌+◌, ◌<◌, None, Err, List, length, sym, ap, ◌∙◌, subst, arith}
use Rattle.std.specs.List.{AllByRecursion}
use Rattle.std.proofs.ByRecursion.{All-get_or}
use Rattle.refusals.specs.Ranges.{first}
use Rattle.refusals.proofs.Passed.{refused_by, accepted_by, accepted_with}
use Rattle.records.specs.declared.lots.Side.TheVariants.{Bought, Sold}
use Rattle.records.specs.declared.lots.Lot.{Lot}
use Rattle.records.specs.declared.lots.Slip.{Slip}
use Rattle.records.specs.Lists.{items, room}
use Rattle.records.specs.Lots.{nobody}
use Rattle.closing.specs.Rules.{lot_at}
use Rattle.report.specs.State.{State, Ledger}
use Rattle.report.specs.Sound.{LotSound, SlipSound, Funded, slipped, bought_left}
use Rattle.pairing.specs.Pairs.{ledger, paired}
use Rattle.pairing.proofs.Held.{LotKnown, SlipKnown, fine_of, pair_sound, pair_slips, pair_passes, pair_known, pair_slips_known}
use Rattle.rolling.specs.Balances.{deposits, first_waiting, second_waiting}
use Rattle.runs.specs.Calls.{declare_causes, named_lot, declared_pair}
use Rattle.runs.specs.Calls.Call.{declare}
use Rattle.book.specs.View.{view}
use Rattle.book.proofs.Bounds.{all_sound, later, sound_lots, by_place, all_known, known_by_place, sound_slips, slips_by_place, all_slips_known, slips_known_by_place, with_ledger}
use Rattle.runs.proofs.Accepted.{Declarable, declarable, not_refused}
use Rattle.runs.proofs.Answered.{Answered, when_refused, when_accepted}
use Rattle.book.proofs.state.Book.declare.Given as given
use Rattle.book.proofs.state.Book.declare.Goals as goal
use Rattle.book.proofs.state.Book.declare.Goals.{In_ok-b, In_err-b}

-- nothing refuses the declaration
passed : (g : given.Over) (c : In_ok-b g) → None ≡ first (declare_causes (g.R.ClosingRule.meaning c.args.rule.now) (view c.args.self.now) c.args.account c.args.product c.args.bought c.args.sold c.args.quantity)
passed g c = accepted_by _ _ (c.in_ok-b.b, c.in_ok-b.s, c.in_ok-b.q) (sym c.check_declaration.ensures ∙ c.in_ok-b.was)

accepted : (g : given.Over) (c : In_ok-b g) → Declarable (view c.args.self.now) c.args.account c.args.product c.args.bought c.args.sold c.args.quantity
accepted g c = declarable (g.R.ClosingRule.meaning c.args.rule.now) (view c.args.self.now) c.args.account c.args.product c.args.bought c.args.sold c.args.quantity (sym (passed g c))

-- the lots were found where the definition names them
found : (g : given.Over) (c : In_ok-b g) →
    (c.in_ok-b.b ≡ named_lot (view c.args.self.now) c.args.account c.args.product Bought c.args.bought) ×
    (c.in_ok-b.s ≡ named_lot (view c.args.self.now) c.args.account c.args.product Sold c.args.sold) ×
    (c.in_ok-b.q ≡ c.args.quantity)
found g c =
    let both = accepted_with _ _ (c.in_ok-b.b, c.in_ok-b.s, c.in_ok-b.q) (sym c.check_declaration.ensures ∙ c.in_ok-b.was) in
    (sym (ap (λ (t : ℕ × ℕ × ℕ). t.0) both), sym (ap (λ (t : ℕ × ℕ × ℕ). t.1) both), sym (ap (λ (t : ℕ × ℕ × ℕ). t.2) both))

pub make_pair-requires : goal.make_pair-requires
make_pair-requires g c =
    let b = c.args.self.now in
    let lots : List Lot = items b.ledger.lots in
    let d = accepted g (goal.at.make_pair-requires g c).In_ok-b in
    let whole : AllByRecursion (LotSound 20000) lots = sound_lots b.entries lots b.taken b.lotsound in
    let at = found g (goal.at.make_pair-requires g c).In_ok-b in
    let x : c.in_ok-b.b < length lots = omega (arith, at.0, d.bought_open.within) in
    let y : c.in_ok-b.s < length lots = omega (arith, at.1, d.sold_open.within) in
    record {
      bought = x;
      sold = y;
      few = omega (arith, at.2, d.few);
      bought_fine = fine_of 20000 (lot_at lots c.in_ok-b.b) (All-get_or (LotSound 20000) lots c.in_ok-b.b nobody x whole);
      sold_fine = fine_of 20000 (lot_at lots c.in_ok-b.s) (All-get_or (LotSound 20000) lots c.in_ok-b.s nobody y whole);
      slip_free = d.slip_free;
    }

pub invariant_of-self : goal.invariant_of-self
invariant_of-self g c =
    let b = c.args.self.now in
    let st : State = view b in
    let l : Ledger = st.ledger in
    let a = c.args.account in
    let p = c.args.product in
    let q = c.args.quantity in
    let n : ℕ = b.entries + 1 in
    let d = accepted g (goal.at.invariant_of-self g c).In_ok-b in
    let at = found g (goal.at.invariant_of-self g c).In_ok-b in
    let at_b : ℕ = named_lot st a p Bought c.args.bought in
    let at_s : ℕ = named_lot st a p Sold c.args.sold in
    let lots : List Lot = items c.make_pair.new.self.lots in
    let slips : List Slip = items c.make_pair.new.self.slips in
    let made : ledger lots slips ≡ paired l at_b at_s q =
    c.make_pair.ensures.made ∙ (ap (λ (k : ℕ). paired l c.in_ok-b.b c.in_ok-b.s k) at.2 ∙ (ap (λ (k : ℕ). paired l k c.in_ok-b.s q) at.0 ∙ ap (λ (k : ℕ). paired l at_b k q) at.1)) in
    let lots_are = ap (λ (m : Ledger). m.lots) made in
    let slips_are = ap (λ (m : Ledger). m.slips) made in
    let known = all_known b.accounts l.lots b.lotsknown in
    let sound_now : AllByRecursion (LotSound n) lots =
    subst (AllByRecursion (LotSound n)) (sym lots_are) (pair_sound n a p l at_b at_s q d.bought_open d.sold_open (later b.entries n l.lots (omega arith) (all_sound b.entries l.lots b.lotsound))) in
    let known_now : AllByRecursion (LotKnown b.accounts) lots = subst (AllByRecursion (LotKnown b.accounts)) (sym lots_are) (pair_known b.accounts a p l at_b at_s q d.bought_open d.sold_open known) in
    let slips_now : AllByRecursion SlipSound slips =
    subst (AllByRecursion SlipSound) (sym slips_are) (pair_slips a p l at_b at_s q d.bought_open d.sold_open (sound_lots b.entries l.lots b.taken b.lotsound) (sound_slips l.slips b.slipsound)) in
    let slips_known_now : AllByRecursion (SlipKnown b.accounts) slips =
    subst (AllByRecursion (SlipKnown b.accounts)) (sym slips_are) (pair_slips_known b.accounts a p l at_b at_s q d.bought_open known (all_slips_known b.accounts l.slips b.slipsknown)) in
    let passed = ap (λ (m : Ledger). slipped m.slips + bought_left m.lots) made ∙ pair_passes a p l at_b at_s q d.bought_open d.sold_open in
    let funded_now : Funded n (deposits b.balances) (first_waiting b.balances) (second_waiting b.balances) lots slips = λ k h. omega (arith, b.funded k h) in
    record {
      peopled = b.peopled;
      taken = omega (arith, d.entry_free);
      lotroom = omega (arith, c.make_pair.ensures.lot_room, b.lotroom);
      sliproom = omega (arith, c.make_pair.ensures.slip_room, b.sliproom);
      lotsound = by_place n lots sound_now;
      lotsknown = known_by_place b.accounts lots known_now;
      slipsound = slips_by_place slips slips_now;
      slipsknown = slips_known_by_place b.accounts slips slips_known_now;
      funded = funded_now;
    }

-- or a cause does
refused : (g : given.Over) (c : In_err-b g) → Answered (view c.args.self.now) (view c.args.self.now) (declare (g.R.ClosingRule.meaning c.args.rule.now) c.args.account c.args.product c.args.bought c.args.sold c.args.quantity) (Err c.in_err-b.field-0.0)
refused g c =
    when_refused (view c.args.self.now) (declare (g.R.ClosingRule.meaning c.args.rule.now) c.args.account c.args.product c.args.bought c.args.sold c.args.quantity) (g.met.R.ClosingRule.lawful c.args.rule.now) c.in_err-b.field-0.0
    (refused_by _ _ c.in_err-b.field-0.0 (sym c.check_declaration.ensures ∙ c.in_err-b.was))

pub returns-in_err-b-clause-left : goal.returns-in_err-b-clause-left
returns-in_err-b-clause-left g c = (refused g (goal.at.returns-in_err-b-clause-left g c).In_err-b).leaves

pub returns-in_err-b-clause-whole : goal.returns-in_err-b-clause-whole
returns-in_err-b-clause-whole g c = (refused g (goal.at.returns-in_err-b-clause-whole g c).In_err-b).stands

pub returns : goal.returns
returns g c =
    let b = c.args.self.now in
    let st : State = view b in
    let l : Ledger = st.ledger in
    let rule = c.args.rule.now in
    let a = c.args.account in
    let p = c.args.product in
    let q = c.args.quantity in
    let at = found g (goal.at.returns g c).In_ok-b in
    let made : ledger (items c.make_pair.new.self.lots) (items c.make_pair.new.self.slips) ≡ (declared_pair st a p c.args.bought c.args.sold q).ledger =
    c.make_pair.ensures.made ∙ (ap (λ (k : ℕ). paired l c.in_ok-b.b c.in_ok-b.s k) at.2 ∙ (ap (λ (k : ℕ). paired l k c.in_ok-b.s q) at.0 ∙ ap (λ (k : ℕ). paired l (named_lot st a p Bought c.args.bought) k q) at.1)) in
    let r = when_accepted st _ (declare (g.R.ClosingRule.meaning rule) a p c.args.bought c.args.sold q) (g.met.R.ClosingRule.lawful rule) (passed g (goal.at.returns g c).In_ok-b)
    (with_ledger st (room c.make_pair.new.self.lots) (room c.make_pair.new.self.slips) (ledger (items c.make_pair.new.self.lots) (items c.make_pair.new.self.slips)) (declared_pair st a p c.args.bought c.args.sold q).ledger c.make_pair.ensures.lot_room c.make_pair.ensures.slip_room made) in
    record { answer = r.answers; left = r.leaves; whole = r.stands; untouched = not_refused }
