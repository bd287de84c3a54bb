-- What a closing keeps, and what the two lots of a deal add.
use Rattle.std.proofs.Common.{◌≡◌, ℕ, ◌+◌, ◌≤◌, cond, eqb, List, [], ◌∷◌, length, refl, ◌∙◌, arith}
use Rattle.std.specs.List.{AllByRecursion}
use Rattle.std.proofs.lemmas.List.{length_push}
use Rattle.std.proofs.ByRecursion.{All-append}
use Rattle.std.proofs.lemmas.List.Sums.{sum_by-append}
use Rattle.records.specs.declared.lots.Side.TheVariants.{Bought, Sold}
use Rattle.records.specs.declared.lots.Lot.{Lot}
use Rattle.records.specs.Lots.{column, held}
use Rattle.closing.specs.Rules.{Rule, Lawful, AllOpen, lot_at}
use Rattle.report.specs.State.{Ledger}
use Rattle.report.specs.Sound.{LotSound, SlipSound, Known, bought_left, slipped}
use Rattle.pairing.specs.declared.Deal.{Deal}
use Rattle.pairing.specs.Pairs.{Asked, closed, slip_of, least_held}
use Rattle.pairing.specs.Deals.{new_lot, with_deal, entered, bought_closed, dealt}
use Rattle.pairing.proofs.Held.{LotKnown, SlipKnown, share, share_mine, share_other, open_of, pair_sound, pair_slips, pair_lowers, pair_passes, pair_known, pair_slips_known}
use Rattle.pairing.proofs.Closing.{opened, stays_open, falls, kept_by_closing, asked}

module _ (rule : Rule) (lawful : Lawful rule) (a p : ℕ) (fuel : ℕ) (l : Ledger) (open_all : AllOpen l.lots) where
  pub closed_open : AllOpen (closed rule fuel a p l).lots
  closed_open = kept_by_closing rule lawful a p (λ (m : Ledger). AllOpen m.lots) (λ m t open_m e f. stays_open rule lawful a p m t open_m e) fuel l open_all open_all

  pub closed_sound : (n : ℕ) → AllByRecursion (LotSound n) l.lots → AllByRecursion (LotSound n) (closed rule fuel a p l).lots
  closed_sound n h =
      kept_by_closing rule lawful a p (λ (m : Ledger). AllByRecursion (LotSound n) m.lots)
      (λ m t open_m e f. let o = opened rule lawful a p m t open_m e in pair_sound n a p m t.0 t.1 t.2 o.0 o.1 f) fuel l open_all h

  pub closed_known : (n : ℕ) → AllByRecursion (LotKnown n) l.lots → AllByRecursion (LotKnown n) (closed rule fuel a p l).lots
  closed_known n h =
      kept_by_closing rule lawful a p (λ (m : Ledger). AllByRecursion (LotKnown n) m.lots)
      (λ m t open_m e f. let o = opened rule lawful a p m t open_m e in pair_known n a p m t.0 t.1 t.2 o.0 o.1 f) fuel l open_all h

  pub closed_slips : AllByRecursion (LotSound 20000) l.lots → AllByRecursion SlipSound l.slips → AllByRecursion SlipSound (closed rule fuel a p l).slips
  closed_slips h k =
      (kept_by_closing rule lawful a p (λ (m : Ledger). AllByRecursion (LotSound 20000) m.lots × AllByRecursion SlipSound m.slips)
      (λ m t open_m e f.
      let o = opened rule lawful a p m t open_m e in
      (pair_sound 20000 a p m t.0 t.1 t.2 o.0 o.1 f.0, pair_slips a p m t.0 t.1 t.2 o.0 o.1 f.0 f.1)) fuel l open_all (h, k)).1

  pub closed_slips_known : (n : ℕ) → AllByRecursion (LotKnown n) l.lots → AllByRecursion (SlipKnown n) l.slips → AllByRecursion (SlipKnown n) (closed rule fuel a p l).slips
  closed_slips_known n h k =
      (kept_by_closing rule lawful a p (λ (m : Ledger). AllByRecursion (LotKnown n) m.lots × AllByRecursion (SlipKnown n) m.slips)
      (λ m t open_m e f.
      let o = opened rule lawful a p m t open_m e in
      (pair_known n a p m t.0 t.1 t.2 o.0 o.1 f.0, pair_slips_known n a p m t.0 t.1 t.2 o.0 f.0 f.1)) fuel l open_all (h, k)).1

  pub closed_passes : slipped (closed rule fuel a p l).slips + bought_left (closed rule fuel a p l).lots ≡ slipped l.slips + bought_left l.lots
  closed_passes =
      kept_by_closing rule lawful a p (λ (m : Ledger). slipped m.slips + bought_left m.lots ≡ slipped l.slips + bought_left l.lots)
      (λ m t open_m e f. let o = opened rule lawful a p m t open_m e in pair_passes a p m t.0 t.1 t.2 o.0 o.1 ∙ f) fuel l open_all refl

  pub closed_lowers : (c a' p' m : ℕ) → held c a' p' l.lots ≤ m → held c a' p' (closed rule fuel a p l).lots ≤ m
  closed_lowers c a' p' m h =
      kept_by_closing rule lawful a p (λ (k : Ledger). held c a' p' k.lots ≤ m)
      (λ k t open_k e f. let o = opened rule lawful a p k t open_k e in omega (arith, pair_lowers a p k t.0 t.1 t.2 o.0 o.1 c a' p')) fuel l open_all h

  pub closed_room : (m : ℕ) → length l.slips + least_held a p l.lots ≤ m → length (closed rule fuel a p l).slips ≤ m
  closed_room m h =
      let k = kept_by_closing rule lawful a p (λ (k : Ledger). length k.slips + least_held a p k.lots ≤ m)
      (λ k t open_k e f. let d = falls rule lawful a p k t open_k e in let n = length_push k.slips (slip_of (lot_at k.lots t.0) (lot_at k.lots t.1) t.2) in omega arith) fuel l open_all h in
      omega arith

module _ (d : Deal) (xs : List Lot) where
  pub deal_held : (c a p : ℕ) → held c a p (with_deal d xs) ≡ held c a p xs + (share c a p (new_lot d.buyer Bought d) + share c a p (new_lot d.seller Sold d))
  deal_held c a p = let s = sum_by-append (share c a p) xs (new_lot d.buyer Bought d ∷ new_lot d.seller Sold d ∷ []) in omega arith

  pub deal_bought : held 0 d.buyer d.product (with_deal d xs) ≡ held 0 d.buyer d.product xs + d.quantity
  deal_bought =
      omega (
        arith,
        deal_held 0 d.buyer d.product,
        share_mine 0 d.buyer d.product (new_lot d.buyer Bought d) refl refl refl,
        share_other 0 d.buyer d.product (new_lot d.seller Sold d) (λ e. omega arith),
      )

  pub deal_sold : held 1 d.seller d.product (with_deal d xs) ≡ held 1 d.seller d.product xs + d.quantity
  deal_sold =
      omega (
        arith,
        deal_held 1 d.seller d.product,
        share_other 1 d.seller d.product (new_lot d.buyer Bought d) (λ e. omega arith),
        share_mine 1 d.seller d.product (new_lot d.seller Sold d) refl refl refl,
      )

  pub deal_sound : (n : ℕ) → AllByRecursion (LotSound n) xs → 1 ≤ d.quantity → d.quantity ≤ 500 → d.price ≤ 999999 → AllByRecursion (LotSound n) (with_deal d xs)
  deal_sound n f h k m =
      All-append (LotSound n) xs (new_lot d.buyer Bought d ∷ new_lot d.seller Sold d ∷ []) f ((h, k, m, omega arith), ((h, k, m, omega arith), tt))

  pub deal_known : (n : ℕ) → AllByRecursion (LotKnown n) xs → Known n d.buyer d.product → Known n d.seller d.product → AllByRecursion (LotKnown n) (with_deal d xs)
  deal_known n f buyer seller = All-append (LotKnown n) xs (new_lot d.buyer Bought d ∷ new_lot d.seller Sold d ∷ []) f (buyer, (seller, tt))

-- What a closing asks of the lots and slips.
pub record Closable (a p r : ℕ) (l : Ledger) : Type 0 where
  pub sound : AllByRecursion (LotSound 20000) l.lots
  pub few : least_held a p l.lots ≤ 500
  pub roomy : length l.slips + least_held a p l.lots ≤ r

-- A deal that nothing refuses, over sound lots, with r slip places.
pub record Dealable (d : Deal) (l : Ledger) (r : ℕ) : Type 0 where
  pub sound : AllByRecursion (LotSound 20000) l.lots
  pub some : 1 ≤ d.quantity
  pub priced : d.price ≤ 999999
  pub buys : held 0 d.buyer d.product l.lots + d.quantity ≤ 500
  pub sells : held 1 d.seller d.product l.lots + d.quantity ≤ 500
  pub free : length l.slips + 1000 ≤ r

module _ (rule : Rule) (lawful : Lawful rule) (d : Deal) (l : Ledger) (r : ℕ) (able : Dealable d l r) where
  pub first_closable : Closable d.buyer d.product r (entered d l)
  first_closable =
      let b = deal_bought d l.lots in
      let buys = able.buys in
      let free = able.free in
      record { sound = deal_sound d l.lots 20000 able.sound able.some (omega arith) able.priced; few = omega arith; roomy = omega arith }

  pub entered_open : AllOpen (entered d l).lots
  entered_open = open_of 20000 (entered d l).lots first_closable.sound

  pub bought_open : AllOpen (bought_closed rule d l).lots
  bought_open = closed_open rule lawful d.buyer d.product 500 (entered d l) entered_open

  pub second_closable : Closable d.seller d.product r (bought_closed rule d l)
  second_closable =
      let b = deal_bought d l.lots in
      let s = deal_sold d l.lots in
      let buys = able.buys in
      let sells = able.sells in
      let free = able.free in
      let held_now = closed_lowers rule lawful d.buyer d.product 500 (entered d l) entered_open 1 d.seller d.product 500 (omega arith) in
      let long = closed_room rule lawful d.buyer d.product 500 (entered d l) entered_open (length l.slips + 500) (omega arith) in
      record {
        sound = closed_sound rule lawful d.buyer d.product 500 (entered d l) entered_open 20000 first_closable.sound;
        few = omega arith;
        roomy = omega arith;
      }

  -- the rule was asked until it gave no pair, for the buyer and then for the seller
  pub buyer_asked : Asked rule d.buyer d.product (entered d l) (bought_closed rule d l)
  buyer_asked = asked rule lawful d.buyer d.product 500 (entered d l) entered_open first_closable.few

  pub seller_asked : Asked rule d.seller d.product (bought_closed rule d l) (dealt rule d l)
  seller_asked = asked rule lawful d.seller d.product 500 (bought_closed rule d l) bought_open second_closable.few

  -- the bounds after the deal
  pub dealt_sound : (n : ℕ) → AllByRecursion (LotSound n) l.lots → AllByRecursion (LotSound n) (dealt rule d l).lots
  dealt_sound n h =
      let buys = able.buys in
      closed_sound rule lawful d.seller d.product 500 (bought_closed rule d l) bought_open n
      (closed_sound rule lawful d.buyer d.product 500 (entered d l) entered_open n (deal_sound d l.lots n h able.some (omega arith) able.priced))

  pub dealt_known : (n : ℕ) → AllByRecursion (LotKnown n) l.lots → Known n d.buyer d.product → Known n d.seller d.product → AllByRecursion (LotKnown n) (dealt rule d l).lots
  dealt_known n h buyer seller =
      closed_known rule lawful d.seller d.product 500 (bought_closed rule d l) bought_open n
      (closed_known rule lawful d.buyer d.product 500 (entered d l) entered_open n (deal_known d l.lots n h buyer seller))

  pub dealt_slips : AllByRecursion SlipSound l.slips → AllByRecursion SlipSound (dealt rule d l).slips
  dealt_slips h =
      closed_slips rule lawful d.seller d.product 500 (bought_closed rule d l) bought_open second_closable.sound
      (closed_slips rule lawful d.buyer d.product 500 (entered d l) entered_open first_closable.sound h)

  pub dealt_slips_known : (n : ℕ) → AllByRecursion (LotKnown n) l.lots → Known n d.buyer d.product → Known n d.seller d.product → AllByRecursion (SlipKnown n) l.slips → AllByRecursion (SlipKnown n) (dealt rule d l).slips
  dealt_slips_known n h buyer seller k =
      closed_slips_known rule lawful d.seller d.product 500 (bought_closed rule d l) bought_open n
      (closed_known rule lawful d.buyer d.product 500 (entered d l) entered_open n (deal_known d l.lots n h buyer seller))
      (closed_slips_known rule lawful d.buyer d.product 500 (entered d l) entered_open n (deal_known d l.lots n h buyer seller) k)

  pub dealt_passes : slipped (dealt rule d l).slips + bought_left (dealt rule d l).lots ≡ slipped l.slips + bought_left l.lots + d.quantity
  dealt_passes =
      let add = sum_by-append (λ (x : Lot). cond (eqb (column x.side) 0) x.remaining 0) l.lots (new_lot d.buyer Bought d ∷ new_lot d.seller Sold d ∷ []) in
      omega (arith, closed_passes rule lawful d.seller d.product 500 (bought_closed rule d l) bought_open, closed_passes rule lawful d.buyer d.product 500 (entered d l) entered_open)
