use Rattle.std.proofs.Common.{◌≡◌, ◌+◌, List, get_or, drop, ℤ, pos, ◌+ℤ◌, sym, ap, ◌∙◌, subst, arith}
use Rattle.std.proofs.lemmas.List.{at_drop_more, at_drop_all}
use Rattle.std.proofs.ByRecursion.{All-get_or}
use Rattle.std.proofs.lemmas.Int.{ints}
use Rattle.records.specs.Sum.{summed, share, Within}
use Rattle.records.proofs.Bounds.{within_share}
use Rattle.records.specs.declared.sum.Told.{Told}
use Rattle.records.proofs.sum.total.Given as given
use Rattle.records.proofs.sum.total.Goals as goal

pub loop-record-init : goal.loop-record-init
loop-record-init g c = (omega (arith, ints), omega (arith, ints), omega (arith, ints))

-- the figure that a turn adds is within bounds
added_within : (g : given.Over) (c : goal.After-share_of-sum g) → Within c.share_of-sum.result
added_within g c =
    let xs : List g.row.T.Denot = c.args.records.now in
    let x = c.record-item.result in
    let of_x : g.T.Record.told (get_or xs c.loop-record.record-index x) ≡ c.tell.result = ap (λ (y : g.row.T.Denot). g.T.Record.told y) (sym c.record-item.is) ∙ sym c.tell.ensures in
    let w : Within c.tell.result.figure =
    subst (λ (t : Told). Within t.figure) of_x
    (All-get_or (λ (y : g.row.T.Denot). Within (g.T.Record.told y).figure) xs c.loop-record.record-index x c.loop-record-test.true c.requires.1) in
    subst Within (sym c.share_of-sum.ensures) (within_share c.args.account c.args.product c.args.column c.tell.result w)

pub overflow_add-sum : goal.overflow_add-sum
overflow_add-sum g c = let w = added_within g c in let n = c.requires.0 in omega (arith, ints)

pub loop-record-preserved : goal.loop-record-preserved
loop-record-preserved g c =
    let xs : List g.row.T.Denot = c.args.records.now in
    let i = c.loop-record.record-index in
    let x = c.record-item.result in
    let w = added_within g c in
    let sum_of : List g.row.T.Denot → ℤ = summed g.T.Record.told c.args.account c.args.product c.args.column in
    let share_of : Told → ℤ = share c.args.account c.args.product c.args.column in
    let this : share_of (g.T.Record.told (get_or xs i x)) ≡ c.share_of-sum.result =
    ap (λ (y : g.row.T.Denot). share_of (g.T.Record.told y)) (sym c.record-item.is) ∙ (ap share_of (sym c.tell.ensures) ∙ sym c.share_of-sum.ensures) in
    let step : sum_of (drop i xs) ≡ c.share_of-sum.result +ℤ sum_of (drop (i + 1) xs) =
    at_drop_more sum_of xs i x c.loop-record-test.true ∙ ap (λ (z : ℤ). z +ℤ sum_of (drop (i + 1) xs)) this in
    (omega (arith, ints, c.loop-record.invariant.0), omega (arith, ints), omega (arith, ints))

pub returns : goal.returns
returns g c =
    let sum_of : List g.row.T.Denot → ℤ = summed g.T.Record.told c.args.account c.args.product c.args.column in
    let none : sum_of (drop c.loop-record.record-index c.args.records.now) ≡ pos 0 = at_drop_all sum_of c.args.records.now c.loop-record.record-index c.loop-record-test.false in
    record { sum = omega (arith, ints); most = omega (arith, ints, c.loop-record.auto.record-index-end) }
