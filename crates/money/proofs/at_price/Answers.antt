use Rattle.std.proofs.Common.{◌≡◌, ◌*◌, ◌/◌, ◌<◌, ◌≤◌, ℤ, pos, ◌+ℤ◌, ◌*ℤ◌, nat_abs, sym, ap, ◌∙◌, subst, le_trans, mul-le-mul, arith, lit≤, w64, SFits, to_z, of_z}
use lib.Signed.{mag}
use Rattle.std.proofs.lemmas.Int.{ints, to_z-of_z}
use Rattle.money.specs.Products.{floored, rest_of}
use Rattle.money.specs.Floors.{floor_split, rest_few, whole_few}
use Rattle.money.proofs.Sizes.{back, back_pos, sum_back, nat_abs_mul}
use Rattle.money.proofs.at_price.Goals as goal

-- what a call gave, as it is passed on
passed : (f : ℤ → ℤ) (h w : ℤ) → SFits w64 h → mag w < 9223372036854775808 → w ≡ f (to_z w64 (of_z w64 h)) → to_z w64 (of_z w64 w) ≡ f h
passed f h w fits ok e = back w ok ∙ (e ∙ ap f (to_z-of_z w64 h fits))

pub times-requires : goal.times-requires
times-requires c =
    let w = passed floored c.args.h c.wholes.result c.ranges.h c.wholes.type_inv c.wholes.ensures in
    let x : nat_abs (to_z w64 (of_z w64 c.wholes.result)) ≤ 1000000000000 = rw w (whole_few c.args.h 1000000000000 c.requires.modest) in
    let y : nat_abs (to_z w64 c.args.price) ≤ 999999 = rw (back_pos c.args.price c.requires.price) c.requires.price in
    le_trans (mul-le-mul x y) (lit≤ tt)

pub times-requires-2 : goal.times-requires-2
times-requires-2 c =
    let r = passed (λ z. pos (rest_of z)) c.args.h c.rest.result c.ranges.h c.rest.type_inv c.rest.ensures in
    let x : nat_abs (to_z w64 (of_z w64 c.rest.result)) ≤ 99999 = rw r (rest_few c.args.h) in
    let y : nat_abs (to_z w64 c.args.price) ≤ 999999 = rw (back_pos c.args.price c.requires.price) c.requires.price in
    le_trans (mul-le-mul x y) (lit≤ tt)

-- the two parts, and that their sum fits
parts : (c : goal.After-part) →
    (c.times.result ≡ floored c.args.h *ℤ pos c.args.price) ×
    (c.part.result ≡ pos (rest_of c.args.h * c.args.price / 100000)) ×
    (nat_abs c.times.result ≤ 999999000000000000) × (nat_abs c.part.result ≤ 1000000)
parts c =
    let h = c.args.h in
    let p = c.args.price in
    let w = passed floored h c.wholes.result c.ranges.h c.wholes.type_inv c.wholes.ensures in
    let r = passed (λ z. pos (rest_of z)) h c.rest.result c.ranges.h c.rest.type_inv c.rest.ensures in
    let e = back_pos p c.requires.price in
    let first : c.times.result ≡ floored h *ℤ pos p = c.times.ensures.product ∙ (ap (λ (z : ℤ). z *ℤ to_z w64 p) w ∙ ap (λ (z : ℤ). floored h *ℤ z) e) in
    let second : c.times-2.result ≡ pos (rest_of h * p) = c.times-2.ensures.product ∙ (ap (λ (z : ℤ). z *ℤ to_z w64 p) r ∙ ap (λ (z : ℤ). pos (rest_of h) *ℤ z) e) in
    let third : c.part.result ≡ pos (rest_of h * p / 100000) = c.part.ensures ∙ ap (λ (z : ℤ). pos (nat_abs z / 100000)) (back c.times-2.result c.times-2.type_inv ∙ second) in
    let m : nat_abs (floored h) * p ≤ 1000000000000 * 999999 = mul-le-mul (whole_few h 1000000000000 c.requires.modest) c.requires.price in
    let n : rest_of h * p ≤ 99999 * 999999 = mul-le-mul (rest_few h) c.requires.price in
    (first, third, subst (λ (z : ℤ). nat_abs z ≤ 999999000000000000) (sym first) (rw (nat_abs_mul (floored h) (pos p)) m), subst (λ (z : ℤ). nat_abs z ≤ 1000000) (sym third) (omega arith))

pub overflow_add-result : goal.overflow_add-result
overflow_add-result c = let t = parts c in let a = t.2 in let b = t.3 in omega (arith, ints)

pub returns : goal.returns
returns c =
    let t = parts c in
    let a = t.2 in
    let b = t.3 in
    let tidy : to_z w64 (of_z w64 (to_z w64 (of_z w64 c.times.result) +ℤ to_z w64 (of_z w64 c.part.result))) ≡ c.times.result +ℤ c.part.result = sum_back c.times.result c.part.result (omega arith) (omega arith) in
    tidy ∙ (ap (λ (z : ℤ). z +ℤ c.part.result) t.0 ∙ (ap (λ (z : ℤ). floored c.args.h *ℤ pos c.args.price +ℤ z) t.1 ∙ sym (floor_split c.args.h c.args.price)))
