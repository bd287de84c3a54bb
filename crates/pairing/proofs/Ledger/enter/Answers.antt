use Rattle.std.proofs.Common.{◌≡◌, ℕ, sym, ap, ◌∙◌, subst, arith}
use Rattle.records.specs.declared.list.RecordList.{RecordList}
use Rattle.records.specs.declared.lots.Slip.{Slip}
use Rattle.records.specs.Lists.{room}
use Rattle.closing.specs.Rules.{Rule, Lawful}
use Rattle.report.specs.State.{Ledger}
use Rattle.pairing.specs.Kept.{kept}
use Rattle.pairing.specs.Pairs.{closed}
use Rattle.pairing.specs.Deals.{bought_closed}
use Rattle.pairing.proofs.Entering.{Closable, Dealable, first_closable, second_closable}
use Rattle.pairing.proofs.Ledger.enter.Goals as goal

pub close-requires : goal.close-requires
close-requires g c =
    let rule : Rule = g.R.ClosingRule.meaning c.args.rule.now in
    let law : Lawful rule = g.met.R.ClosingRule.lawful c.args.rule.now in
    let d = c.args.deal.now in
    let l : Ledger = kept c.args.self.now in
    let r : ℕ = room c.args.self.now.slips in
    let able : Dealable d l r = record { sound = c.requires.sound; some = c.requires.some; priced = c.requires.priced; buys = c.requires.buys; sells = c.requires.sells; free = c.requires.slips_free } in
    let same = ap (λ (s : RecordList Slip). room s) c.add_deal.ensures.slips in
    let f = subst (Closable d.buyer d.product r) (sym c.add_deal.ensures.entered) (first_closable rule law d l r able) in
    record { sound = f.sound; few = f.few; roomy = omega (arith, f.roomy) }

pub close-requires-2 : goal.close-requires-2
close-requires-2 g c =
    let rule : Rule = g.R.ClosingRule.meaning c.args.rule.now in
    let law : Lawful rule = g.met.R.ClosingRule.lawful c.args.rule.now in
    let d = c.args.deal.now in
    let l : Ledger = kept c.args.self.now in
    let r : ℕ = room c.args.self.now.slips in
    let able : Dealable d l r = record { sound = c.requires.sound; some = c.requires.some; priced = c.requires.priced; buys = c.requires.buys; sells = c.requires.sells; free = c.requires.slips_free } in
    let closed_first : kept c.close.new.self ≡ bought_closed rule d l =
    c.close.ensures.closed ∙ ap (closed rule 500 d.buyer d.product) c.add_deal.ensures.entered in
    let f = subst (Closable d.seller d.product r) (sym closed_first) (second_closable rule law d l r able) in
    let same = c.close.ensures.slip_room ∙ ap (λ (s : RecordList Slip). room s) c.add_deal.ensures.slips in
    record { sound = f.sound; few = f.few; roomy = omega (arith, f.roomy) }

pub returns : goal.returns
returns g c =
    let rule : Rule = g.R.ClosingRule.meaning c.args.rule.now in
    let d = c.args.deal.now in
    record {
      dealt = c.close-2.ensures.closed
          ∙ ap (closed rule 500 d.seller d.product) (c.close.ensures.closed ∙ ap (closed rule 500 d.buyer d.product) c.add_deal.ensures.entered);
      lot_room = c.close-2.ensures.lot_room ∙ (c.close.ensures.lot_room ∙ c.add_deal.ensures.lot_room);
      slip_room = c.close-2.ensures.slip_room ∙ (c.close.ensures.slip_room ∙ ap (λ (s : RecordList Slip). room s) c.add_deal.ensures.slips);
    }
