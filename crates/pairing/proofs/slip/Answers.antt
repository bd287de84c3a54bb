use Rattle.std.proofs.Common.{◌≡◌, ℕ, ◌≤◌, ℤ, pos, ◌+ℤ◌, ◌*ℤ◌, nat_abs, sym, ap, ◌∙◌, subst, le_trans, mul-le-mul, arith, lit≤, w64, to_z, of_z}
use Rattle.std.proofs.lemmas.Int.{ints}
use Rattle.money.specs.Products.{step_worth, move_worth}
use Rattle.money.proofs.Sizes.{back}
use Rattle.records.specs.declared.lots.Slip.{Slip}
use Rattle.report.specs.Amounts.{move_of_product_few}
use Rattle.pairing.proofs.Bits.{each_is}
use Rattle.pairing.proofs.slip.Goals as goal

-- the move's worth is bounded
few : (z : ℤ) (p from to : ℕ) → z ≡ move_worth (step_worth p) from to → from ≤ 999999 → to ≤ 999999 → nat_abs z ≤ 999999000
few z p from to e h k = subst (λ (x : ℤ). nat_abs x ≤ 999999000) (sym e) (move_of_product_few p from to h k)

pub overflow_add-each-2 : goal.overflow_add-each-2
overflow_add-each-2 c =
    let m = few c.worth_of_move.result c.args.bought.now.product c.args.bought.now.price c.args.sold.now.price c.worth_of_move.ensures c.requires.bought.1 c.requires.sold.1 in
    omega (arith, ints, c.requires.bought.2, c.requires.sold.2)

pub times-requires : goal.times-requires
times-requires c =
    let m = few c.worth_of_move.result c.args.bought.now.product c.args.bought.now.price c.args.sold.now.price c.worth_of_move.ensures c.requires.bought.1 c.requires.sold.1 in
    let x : nat_abs (to_z w64 (of_z w64 c.from.result)) ≤ 500 = omega (arith, ints, c.requires.few, c.from.ensures) in
    let y : nat_abs (to_z w64 (of_z w64 (to_z w64 (of_z w64 c.worth_of_move.result) +ℤ to_z w64 (of_z w64 (to_z w64 (of_z w64 c.args.bought.now.points) +ℤ to_z w64 (of_z w64 c.args.sold.now.points)))))) ≤ 1400000000 =
    subst (λ (z : ℤ). nat_abs z ≤ 1400000000) (sym (each_is c.worth_of_move.result c.args.bought.now.points c.args.sold.now.points m c.requires.bought.2 c.requires.sold.2)) (omega (arith, ints, c.requires.bought.2, c.requires.sold.2)) in
    le_trans (mul-le-mul x y) (lit≤ tt)

pub returns : goal.returns
returns c =
    let b = c.args.bought.now in
    let s = c.args.sold.now in
    let q = c.args.quantity in
    let m = few c.worth_of_move.result b.product b.price s.price c.worth_of_move.ensures c.requires.bought.1 c.requires.sold.1 in
    let x : to_z w64 (of_z w64 c.from.result) ≡ pos q = omega (arith, ints, c.requires.few, c.from.ensures) in
    let y = each_is c.worth_of_move.result b.points s.points m c.requires.bought.2 c.requires.sold.2 in
    let worth_is : to_z w64 (of_z w64 c.times.result) ≡ pos q *ℤ (move_worth (step_worth b.product) b.price s.price +ℤ (b.points +ℤ s.points)) =
    back c.times.result c.times.type_inv
    ∙ (c.times.ensures.product
    ∙ (ap (λ (z : ℤ). z *ℤ to_z w64 (of_z w64 (to_z w64 (of_z w64 c.worth_of_move.result) +ℤ to_z w64 (of_z w64 (to_z w64 (of_z w64 b.points) +ℤ to_z w64 (of_z w64 s.points)))))) x
    ∙ (ap (λ (z : ℤ). pos q *ℤ z) y ∙ ap (λ (z : ℤ). pos q *ℤ (z +ℤ (b.points +ℤ s.points))) c.worth_of_move.ensures))) in
    let made : ℤ → Slip = λ w. record { account = b.account; product = b.product; bought = b.entry; sold = s.entry; quantity = q; worth = w } in
    ap made worth_is
