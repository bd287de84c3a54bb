use Rattle.std.proofs.Common.{◌≡◌, ◌+◌, ◌<◌, ◌≤◌, List, length, Some, None, sym, ap, ◌∙◌, subst, arith}
use Rattle.std.specs.List.{AllByRecursion}
use Rattle.std.proofs.ByRecursion.{All-get_or}
use Rattle.std.proofs.lemmas.List.{length_push}
use Rattle.records.specs.declared.lots.Lot.{Lot}
use Rattle.records.specs.Lists.{items, room}
use Rattle.records.specs.Lots.{nobody}
use Rattle.closing.specs.Rules.{Pair, Rule, Lawful, lot_at}
use Rattle.report.specs.State.{Ledger}
use Rattle.report.specs.Sound.{LotSound}
use Rattle.pairing.specs.Pairs.{ledger, slip_of, paired, closed, least_held}
use Rattle.pairing.proofs.Held.{pair_sound, fine_of, open_of}
use Rattle.pairing.proofs.Closing.{opened, falls, turn_closes, closed_none}
use Rattle.pairing.proofs.Ledger.close.Given as given
use Rattle.pairing.proofs.Ledger.close.Goals as goal

pub make_pair-requires : goal.make_pair-requires
make_pair-requires g c =
    let rule : Rule = g.R.ClosingRule.meaning c.args.rule.now in
    let lots : List Lot = items c.loop-bought.self.lots in
    let l : Ledger = ledger lots (items c.loop-bought.self.slips) in
    let t : Pair = (c.in-Some.bought, c.in-Some.sold, c.in-Some.quantity) in
    let asked : rule.pairing c.args.account c.args.product lots ≡ Some t =
    ap (λ (ys : List Lot). rule.pairing c.args.account c.args.product ys) (sym c.all.ensures) ∙ (sym c.pair.ensures ∙ c.in-Some.is) in
    let law : Lawful rule = g.met.R.ClosingRule.lawful c.args.rule.now in
    let open_all = open_of 20000 lots c.loop-bought.invariant.1 in
    let o = opened rule law c.args.account c.args.product l t open_all asked in
    let d = falls rule law c.args.account c.args.product l t open_all asked in
    let b : LotSound 20000 (lot_at lots t.0) = All-get_or (LotSound 20000) lots t.0 nobody o.0.within c.loop-bought.invariant.1 in
    let s : LotSound 20000 (lot_at lots t.1) = All-get_or (LotSound 20000) lots t.1 nobody o.1.within c.loop-bought.invariant.1 in
    let left : length (items c.loop-bought.self.slips) < room c.loop-bought.self.slips = omega (arith, c.loop-bought.invariant.3) in
    let few : c.in-Some.quantity ≤ 500 = omega (arith, o.0.enough) in
    record {
      bought = o.0.within;
      sold = o.1.within;
      few = few;
      bought_fine = fine_of 20000 (lot_at lots t.0) b;
      sold_fine = fine_of 20000 (lot_at lots t.1) s;
      slip_free = left;
    }

-- what a turn does
turned : (g : given.Over) (c : goal.After-make_pair g) →
    (closed (g.R.ClosingRule.meaning c.args.rule.now) 500 c.args.account c.args.product (ledger (items c.make_pair.new.self.lots) (items c.make_pair.new.self.slips))
    ≡ closed (g.R.ClosingRule.meaning c.args.rule.now) 500 c.args.account c.args.product (ledger (items c.loop-bought.self.lots) (items c.loop-bought.self.slips))) ×
    AllByRecursion (LotSound 20000) (items c.make_pair.new.self.lots) ×
    (least_held c.args.account c.args.product (items c.make_pair.new.self.lots) + 1 ≤ least_held c.args.account c.args.product (items c.loop-bought.self.lots)) ×
    (length (items c.make_pair.new.self.slips) ≡ length (items c.loop-bought.self.slips) + 1)
turned g c =
    let rule : Rule = g.R.ClosingRule.meaning c.args.rule.now in
    let lots : List Lot = items c.loop-bought.self.lots in
    let l : Ledger = ledger lots (items c.loop-bought.self.slips) in
    let t : Pair = (c.in-Some.bought, c.in-Some.sold, c.in-Some.quantity) in
    let asked : rule.pairing c.args.account c.args.product lots ≡ Some t =
    ap (λ (ys : List Lot). rule.pairing c.args.account c.args.product ys) (sym c.all.ensures) ∙ (sym c.pair.ensures ∙ c.in-Some.is) in
    let law : Lawful rule = g.met.R.ClosingRule.lawful c.args.rule.now in
    let open_all = open_of 20000 lots c.loop-bought.invariant.1 in
    let o = opened rule law c.args.account c.args.product l t open_all asked in
    let made : ledger (items c.make_pair.new.self.lots) (items c.make_pair.new.self.slips) ≡ paired l t.0 t.1 t.2 = c.make_pair.ensures.made in
    let lots_now : items c.make_pair.new.self.lots ≡ (paired l t.0 t.1 t.2).lots = ap (λ (m : Ledger). m.lots) made in (
      ap (closed rule 500 c.args.account c.args.product) made ∙ turn_closes rule law c.args.account c.args.product l t open_all asked c.loop-bought.invariant.2,
      subst (AllByRecursion (LotSound 20000)) (sym lots_now) (pair_sound 20000 c.args.account c.args.product l t.0 t.1 t.2 o.0 o.1 c.loop-bought.invariant.1),
      subst (λ (ys : List Lot). least_held c.args.account c.args.product ys + 1 ≤ least_held c.args.account c.args.product lots) (sym lots_now) (falls rule law c.args.account c.args.product l t open_all asked),
      ap (λ (m : Ledger). length m.slips) made ∙ length_push l.slips (slip_of (lot_at lots t.0) (lot_at lots t.1) t.2),
    )

pub loop-bought-smaller : goal.loop-bought-smaller
loop-bought-smaller g c = let t = (turned g c).2 in omega arith

pub loop-bought-preserved : goal.loop-bought-preserved
loop-bought-preserved g c =
    let t = turned g c in
    let room_now = c.make_pair.ensures.slip_room in (
      t.0 ∙ c.loop-bought.invariant.0,
      t.1,
      omega (arith, t.2, c.loop-bought.invariant.2),
      omega (arith, t.2, t.3, c.loop-bought.invariant.3),
      c.make_pair.ensures.lot_room ∙ c.loop-bought.invariant.4,
      room_now ∙ c.loop-bought.invariant.5,
    )

pub returns : goal.returns
returns g c =
    let rule : Rule = g.R.ClosingRule.meaning c.args.rule.now in
    let lots : List Lot = items c.loop-bought.self.lots in
    let done : rule.pairing c.args.account c.args.product lots ≡ None =
    ap (λ (ys : List Lot). rule.pairing c.args.account c.args.product ys) (sym c.all.ensures) ∙ (sym c.pair.ensures ∙ c.in_default.is) in
    let law : Lawful rule = g.met.R.ClosingRule.lawful c.args.rule.now in
    record {
      closed = sym (closed_none rule law c.args.account c.args.product 500 (ledger lots (items c.loop-bought.self.slips)) done) ∙ c.loop-bought.invariant.0;
      lot_room = c.loop-bought.invariant.4;
      slip_room = c.loop-bought.invariant.5;
    }
