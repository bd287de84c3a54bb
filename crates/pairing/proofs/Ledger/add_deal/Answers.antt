use Rattle.std.proofs.Common.{◌≡◌, List, [], ◌∷◌, ◌++◌, length, refl, ap, ◌∙◌, arith}
use Rattle.std.proofs.lemmas.List.{append_assoc, length_push}
use Rattle.std.proofs.lemmas.Bool.{lt-ltb, cond-true}
use Rattle.records.specs.declared.lots.Lot.{Lot}
use Rattle.records.specs.Lists.{items, room}
use Rattle.records.specs.declared.lots.Side.TheVariants.{Bought}
use Rattle.pairing.specs.Pairs.{ledger}
use Rattle.pairing.specs.Deals.{new_lot}
use Rattle.pairing.proofs.Ledger.add_deal.Goals as goal

pub returns : goal.returns
returns c =
    let xs : List Lot = items c.args.self.now.lots in
    let ys : List Lot = items c.add.new.self in
    let d = c.args.deal.now in
    let x = c.lot.result in
    let y = c.lot-2.result in
    let first : ys ≡ xs ++ (x ∷ []) =
    c.add.ensures.items ∙ cond-true c.add.result (xs ++ (x ∷ [])) xs (c.add.ensures.took ∙ lt-ltb (length xs) (room c.args.self.now.lots) (omega (arith, c.requires))) in
    let long = ap length first ∙ length_push xs x in
    let second : items c.add-2.new.self ≡ ys ++ (y ∷ []) =
    c.add-2.ensures.items ∙ cond-true c.add-2.result (ys ++ (y ∷ [])) ys
    (c.add-2.ensures.took ∙ lt-ltb (length ys) (room c.add.new.self) (omega (arith, c.requires, c.add.ensures.room))) in
    let both : items c.add-2.new.self ≡ xs ++ x ∷ y ∷ [] = second ∙ (ap (λ (zs : List Lot). zs ++ (y ∷ [])) first ∙ append_assoc xs (x ∷ []) (y ∷ [])) in
    record {
      entered = ap (λ (zs : List Lot). ledger zs (items c.args.self.now.slips)) (both ∙ (ap (λ (z : Lot). xs ++ z ∷ y ∷ []) c.lot.ensures ∙ ap (λ (z : Lot). xs ++ new_lot d.buyer Bought d ∷ z ∷ []) c.lot-2.ensures));
      lot_room = c.add-2.ensures.room ∙ c.add.ensures.room;
      slips = refl;
    }
