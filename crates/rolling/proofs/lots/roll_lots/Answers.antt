-- Each lot is rolled in its place.
use Rattle.std.proofs.Common.{◌≡◌, ◌<◌, ◌≤◌, List, ◌++◌, map, length, get_or, take, set, sym, ap, ◌∙◌, subst, append-nil, arith}
use Rattle.std.proofs.lemmas.List.{take_all, drop_all, length-set}
use Rattle.std.proofs.ByRecursion.{All-get_or}
use Rattle.records.specs.declared.lots.Lot.{Lot}
use Rattle.records.specs.Lists.{items}
use Rattle.records.specs.Lots.{nobody}
use Rattle.pairing.specs.Pairs.{LotFine}
use Rattle.rolling.specs.Sheets.{rolled_lot}
use Rattle.rolling.proofs.Filling.{not_yet, one_more}
use Rattle.rolling.proofs.lots.roll_lots.Goals as goal

pub rolled-lot-requires : goal.rolled-lot-requires
rolled-lot-requires c =
    let xs : List Lot = items c.args.lots.now in
    let ys : List Lot = items c.loop-place.lots in
    let i = c.loop-place.place in
    let below : i < length xs = omega (arith, c.count-place-end.ensures, c.loop-place-test.true, c.loop-place.invariant.as_long) in
    let same : get_or c.all.result.now i nobody ≡ get_or xs i nobody =
    ap (λ (zs : List Lot). get_or zs i nobody) c.all.ensures ∙ not_yet (rolled_lot c.args.points.now.table) xs ys i nobody below c.loop-place.invariant.rolled in
    subst (LotFine 20000) (sym same) (All-get_or (LotFine 20000) xs i nobody below c.requires)

pub loop-place-preserved : goal.loop-place-preserved
loop-place-preserved c =
    let xs : List Lot = items c.args.lots.now in
    let ys : List Lot = items c.loop-place.lots in
    let i = c.loop-place.place in
    let f : Lot → Lot = rolled_lot c.args.points.now.table in
    let below : i < length xs = omega (arith, c.count-place-end.ensures, c.loop-place-test.true, c.loop-place.invariant.as_long) in
    let put : items c.replace.new.self ≡ set ys i (f (get_or ys i nobody)) =
    c.replace.ensures.items ∙ (ap (set ys i) c.rolled-lot.ensures ∙ ap (λ (zs : List Lot). set ys i (f (get_or zs i nobody))) c.all.ensures) in
    record {
      rolled = put ∙ one_more f xs ys i nobody below c.loop-place.invariant.rolled;
      same_room = c.replace.ensures.room ∙ c.loop-place.invariant.same_room;
      as_long = ap length put ∙ (length-set ys i (f (get_or ys i nobody)) ∙ c.loop-place.invariant.as_long);
    }

pub returns : goal.returns
returns c =
    let xs : List Lot = items c.args.lots.now in
    let i = c.loop-place.place in
    let f : Lot → Lot = rolled_lot c.args.points.now.table in
    let all : length xs ≤ i = omega (arith, c.count-place-end.ensures, c.loop-place-test.false, c.loop-place.invariant.as_long) in
    record {
      items = c.loop-place.invariant.rolled ∙ (ap (λ (zs : List Lot). map f (take i xs) ++ zs) (drop_all i xs all) ∙ (append-nil (map f (take i xs)) ∙ ap (map f) (take_all i xs all)));
      room = c.loop-place.invariant.same_room;
    }
