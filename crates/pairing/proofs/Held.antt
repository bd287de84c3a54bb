-- What a pair does to the contracts that an account holds, and to the bounds on lots and slips.
use Rattle.std.proofs.Common.{◌≡◌, ℕ, ◌+◌, ◌-◌, ◌*◌, ◌<◌, ◌≤◌, true, false, cond, ◌&&◌, eqb, ◌≢◌, List, [], ◌∷◌, length, ℤ, pos, ◌+ℤ◌, nat_abs, sym, refl, ap, ◌∙◌, subst, ⊎_elim, mul_comm, mul-le-mul, arith}
use Rattle.std.specs.List.{AllByRecursion}
use Rattle.std.proofs.lemmas.List.{get_or-set_other, length-set}
use Rattle.std.proofs.ByRecursion.{All-get_or, All-set, All-push, All-weaker}
use Rattle.std.proofs.lemmas.List.Sums.{sum_by-cons, sum_by-set, sum_by_push}
use Rattle.std.proofs.lemmas.Int.{ints}
use Rattle.std.proofs.lemmas.Bool.{eq-eqb, ne_eqb, and_from, and_right, cond-true, cond-false, cases_eq}
use Rattle.records.specs.declared.lots.Side.TheVariants.{Bought, Sold}
use Rattle.records.specs.declared.lots.Lot.{Lot}
use Rattle.records.specs.declared.lots.Slip.{Slip}
use Rattle.money.specs.Products.{step_worth, move_worth}
use Rattle.records.specs.Lots.{column, held, nobody}
use Rattle.closing.specs.Rules.{OpenLot, AllOpen, lot_at}
use Rattle.report.specs.State.{Ledger}
use Rattle.report.specs.Sound.{LotSound, SlipSound, Known, bought_left, slipped}
use Rattle.pairing.specs.Pairs.{LotFine, with_remaining, still_open, reduced, slip_of, paired}
use Rattle.money.specs.Ints.{size_times}
use Rattle.report.specs.Amounts.{move_of_product_few}
use Rattle.pairing.proofs.Sweeping.{leaves, stays}

-- what a lot adds to the contracts held
abbrev pub share : ℕ → ℕ → ℕ → Lot → ℕ
share c a p l = cond (eqb l.account a && (eqb l.product p && eqb (column l.side) c)) l.remaining 0

module _ (c a p : ℕ) where
  pub share_mine : (l : Lot) → l.account ≡ a → l.product ≡ p → column l.side ≡ c → share c a p l ≡ l.remaining
  share_mine l x y z =
      cond-true (eqb l.account a && (eqb l.product p && eqb (column l.side) c)) l.remaining 0
      (and_from (eqb l.account a) (eqb l.product p && eqb (column l.side) c) (eq-eqb l.account a x)
      (and_from (eqb l.product p) (eqb (column l.side) c) (eq-eqb l.product p y) (eq-eqb (column l.side) c z)))

  pub share_other : (l : Lot) → (column l.side ≡ c → ⊥) → share c a p l ≡ 0
  share_other l z =
      cond-false (eqb l.account a && (eqb l.product p && eqb (column l.side) c)) l.remaining 0
      (and_right (eqb l.account a) (eqb l.product p && eqb (column l.side) c)
      (and_right (eqb l.product p) (eqb (column l.side) c) (ne_eqb (column l.side) c z)))

  share_none : (l : Lot) → l.remaining ≡ 0 → share c a p l ≡ 0
  share_none l e =
      elim (eqb l.account a && (eqb l.product p && eqb (column l.side) c)) as (λ t. cond t l.remaining 0 ≡ 0) [ true ↦ e | false ↦ refl ]

  share_less : (l : Lot) (n : ℕ) → n ≤ l.remaining → share c a p (with_remaining l n) ≤ share c a p l
  share_less l n h =
      elim (eqb l.account a && (eqb l.product p && eqb (column l.side) c)) as (λ t. cond t n 0 ≤ cond t l.remaining 0) [ true ↦ h | false ↦ omega arith ]

  -- empty lots hold nothing
  pub held_open : (xs : List Lot) → held c a p (still_open xs) ≡ held c a p xs
  held_open [] = refl
  held_open (x ∷ xs) =
      let i = held_open xs in
      let e = sum_by-cons (share c a p) x xs in
      ⊎_elim
      (λ (z : x.remaining ≡ 0). let s = share_none x z in ap (held c a p) (leaves x xs z) ∙ omega arith)
      (λ (z : x.remaining ≡ 0 → ⊥). let f = sum_by-cons (share c a p) x (still_open xs) in ap (held c a p) (stays x xs z) ∙ omega arith)
      (cases_eq x.remaining 0)

  pub held_taken : (xs : List Lot) (k q : ℕ) → k < length xs → (lot_at xs k).account ≡ a → (lot_at xs k).product ≡ p → column (lot_at xs k).side ≡ c →
      q ≤ (lot_at xs k).remaining → held c a p (reduced xs k q) + q ≡ held c a p xs
  held_taken xs k q h x y z le =
      let l : Lot = lot_at xs k in
      let s = sum_by-set (share c a p) xs k (with_remaining l (l.remaining - q)) nobody h in
      let m = share_mine l x y z in
      let n = share_mine (with_remaining l (l.remaining - q)) x y z in
      omega arith

  pub held_kept : (xs : List Lot) (k q : ℕ) → k < length xs → (column (lot_at xs k).side ≡ c → ⊥) → held c a p (reduced xs k q) ≡ held c a p xs
  held_kept xs k q h z =
      let l : Lot = lot_at xs k in
      let s = sum_by-set (share c a p) xs k (with_remaining l (l.remaining - q)) nobody h in
      let m = share_other l z in
      let n = share_other (with_remaining l (l.remaining - q)) z in
      omega arith

  pub held_lower : (xs : List Lot) (k q : ℕ) → k < length xs → held c a p (reduced xs k q) ≤ held c a p xs
  held_lower xs k q h =
      let l : Lot = lot_at xs k in
      let s = sum_by-set (share c a p) xs k (with_remaining l (l.remaining - q)) nobody h in
      let m = share_less l (l.remaining - q) (omega arith) in
      omega arith

-- The facts of a pair.
module _ (a p : ℕ) (l : Ledger) (b s q : ℕ) (bought : OpenLot l.lots a p Bought b q) (sold : OpenLot l.lots a p Sold s q) where
  pub apart : s ≢ b
  apart e =
      let z : ◌≡◌ {A = ℕ} 1 0 = ap column (sym sold.side_is ∙ (ap (λ (k : ℕ). (lot_at l.lots k).side) e ∙ bought.side_is)) in omega arith

  pub other_kept : lot_at (reduced l.lots b q) s ≡ lot_at l.lots s
  other_kept = get_or-set_other l.lots b s _ nobody apart

  pub still_within : s < length (reduced l.lots b q)
  still_within = let w = sold.within in simp length-set w

  same_account : (lot_at (reduced l.lots b q) s).account ≡ a
  same_account = ap (λ (x : Lot). x.account) other_kept ∙ sold.account_is

  same_product : (lot_at (reduced l.lots b q) s).product ≡ p
  same_product = ap (λ (x : Lot). x.product) other_kept ∙ sold.product_is

  same_side : column (lot_at (reduced l.lots b q) s).side ≡ 1
  same_side = ap (λ (x : Lot). column x.side) other_kept ∙ ap column sold.side_is

  same_remaining : (lot_at (reduced l.lots b q) s).remaining ≡ (lot_at l.lots s).remaining
  same_remaining = ap (λ (x : Lot). x.remaining) other_kept

  bought_side : column (lot_at l.lots b).side ≡ 0
  bought_side = ap column bought.side_is

  pub pair_takes : (held 0 a p (paired l b s q).lots + q ≡ held 0 a p l.lots) × (held 1 a p (paired l b s q).lots + q ≡ held 1 a p l.lots)
  pair_takes =
      let xs : List Lot = reduced l.lots b q in
      let side = same_side in
      let first = bought_side in
      let enough : q ≤ (lot_at xs s).remaining = omega (arith, same_remaining, sold.enough) in (
        omega (arith, held_open 0 a p (reduced xs s q), held_kept 0 a p xs s q still_within (λ e. omega arith), held_taken 0 a p l.lots b q bought.within bought.account_is bought.product_is bought_side bought.enough),
        omega (arith, held_open 1 a p (reduced xs s q), held_taken 1 a p xs s q still_within same_account same_product same_side enough, held_kept 1 a p l.lots b q bought.within (λ e. omega arith)),
      )

  -- no account holds more after a pair
  pub pair_lowers : (c a' p' : ℕ) → held c a' p' (paired l b s q).lots ≤ held c a' p' l.lots
  pair_lowers c a' p' =
      omega (arith, held_open c a' p' (reduced (reduced l.lots b q) s q), held_lower c a' p' (reduced l.lots b q) s q still_within, held_lower c a' p' l.lots b q bought.within)

-- The bounds on lots.
fine_reduced : (n : ℕ) (xs : List Lot) (k q : ℕ) → k < length xs → AllByRecursion (LotFine n) xs → AllByRecursion (LotFine n) (reduced xs k q)
fine_reduced n xs k q h f =
    let l : Lot = lot_at xs k in
    let m : LotFine n l = All-get_or (LotFine n) xs k nobody h f in
    All-set (LotFine n) xs k (with_remaining l (l.remaining - q)) (omega arith, m.1, m.2) f

sound_open : (n : ℕ) (xs : List Lot) → AllByRecursion (LotFine n) xs → AllByRecursion (LotSound n) (still_open xs)
sound_open n [] f = tt
sound_open n (x ∷ xs) f =
    ⊎_elim
    (λ (z : x.remaining ≡ 0). subst (AllByRecursion (LotSound n)) (sym (leaves x xs z)) (sound_open n xs f.1))
    (λ (z : x.remaining ≡ 0 → ⊥). subst (AllByRecursion (LotSound n)) (sym (stays x xs z)) ((omega arith, f.0.0, f.0.1, f.0.2), sound_open n xs f.1))
    (cases_eq x.remaining 0)

pub fine_of : (n : ℕ) (l : Lot) → LotSound n l → LotFine n l
fine_of n l h = (h.1, h.2, h.3)

pub all_fine : (n : ℕ) (xs : List Lot) → AllByRecursion (LotSound n) xs → AllByRecursion (LotFine n) xs
all_fine n xs f = All-weaker (LotSound n) (LotFine n) (fine_of n) xs f

-- and on a slip
pub slip_sound : (b s : Lot) (q : ℕ) → LotFine 20000 b → LotFine 20000 s → q ≤ 500 → SlipSound (slip_of b s q)
slip_sound b s q f g h =
    let move : ℤ = move_worth (step_worth b.product) b.price s.price in
    let m = move_of_product_few b.product b.price s.price f.1 g.1 in
    let each : ℤ = move +ℤ (b.points +ℤ s.points) in
    let e : nat_abs each ≤ 1400000000 = omega (arith, ints, f.2, g.2) in
    (h, subst (λ (n : ℕ). n ≤ 1400000000 * q) (sym (size_times (pos q) each)) (omega (arith, mul-le-mul {n₁ = q} {n₂ = q} (omega arith) e, mul_comm q 1400000000)))

pub pair_sound : (n a p : ℕ) (l : Ledger) (b s q : ℕ) → OpenLot l.lots a p Bought b q → OpenLot l.lots a p Sold s q → AllByRecursion (LotSound n) l.lots → AllByRecursion (LotSound n) (paired l b s q).lots
pair_sound n a p l b s q x y f =
    sound_open n (reduced (reduced l.lots b q) s q)
    (fine_reduced n (reduced l.lots b q) s q (still_within a p l b s q x y) (fine_reduced n l.lots b q x.within (all_fine n l.lots f)))

pub pair_slips : (a p : ℕ) (l : Ledger) (b s q : ℕ) → OpenLot l.lots a p Bought b q → OpenLot l.lots a p Sold s q → AllByRecursion (LotSound 20000) l.lots → AllByRecursion SlipSound l.slips → AllByRecursion SlipSound (paired l b s q).slips
pair_slips a p l b s q x y f g =
    let m : LotSound 20000 (lot_at l.lots b) = All-get_or (LotSound 20000) l.lots b nobody x.within f in
    let n : LotSound 20000 (lot_at l.lots s) = All-get_or (LotSound 20000) l.lots s nobody y.within f in
    All-push SlipSound l.slips (slip_of (lot_at l.lots b) (lot_at l.lots s) q) g (slip_sound (lot_at l.lots b) (lot_at l.lots s) q (fine_of 20000 (lot_at l.lots b) m) (fine_of 20000 (lot_at l.lots s) n) (omega (arith, x.enough)))

-- Contracts only pass from lots to slips.
bought_share : Lot → ℕ
bought_share l = cond (eqb (column l.side) 0) l.remaining 0

bought_open : (xs : List Lot) → bought_left (still_open xs) ≡ bought_left xs
unfolding bought_share
bought_open [] = refl
bought_open (x ∷ xs) =
    let i = bought_open xs in
    let e = sum_by-cons bought_share x xs in
    ⊎_elim
    (λ (z : x.remaining ≡ 0). let s : bought_share x ≡ 0 = elim (eqb (column x.side) 0) as (λ t. cond t x.remaining 0 ≡ 0) [ true ↦ z | false ↦ refl ] in ap bought_left (leaves x xs z) ∙ omega arith)
    (λ (z : x.remaining ≡ 0 → ⊥). let f = sum_by-cons bought_share x (still_open xs) in ap bought_left (stays x xs z) ∙ omega arith)
    (cases_eq x.remaining 0)

bought_taken : (xs : List Lot) (k q : ℕ) → k < length xs → column (lot_at xs k).side ≡ 0 → q ≤ (lot_at xs k).remaining → bought_left (reduced xs k q) + q ≡ bought_left xs
unfolding bought_share
bought_taken xs k q h z le =
    let l : Lot = lot_at xs k in
    let t : eqb (column l.side) 0 ≡ true = eq-eqb (column l.side) 0 z in
    let s = sum_by-set bought_share xs k (with_remaining l (l.remaining - q)) nobody h in
    let m : bought_share l ≡ l.remaining = cond-true (eqb (column l.side) 0) l.remaining 0 t in
    let n : bought_share (with_remaining l (l.remaining - q)) ≡ l.remaining - q = cond-true (eqb (column l.side) 0) (l.remaining - q) 0 t in
    omega arith

bought_kept : (xs : List Lot) (k q : ℕ) → k < length xs → (column (lot_at xs k).side ≡ 0 → ⊥) → bought_left (reduced xs k q) ≡ bought_left xs
unfolding bought_share
bought_kept xs k q h z =
    let l : Lot = lot_at xs k in
    let t : eqb (column l.side) 0 ≡ false = ne_eqb (column l.side) 0 z in
    let s = sum_by-set bought_share xs k (with_remaining l (l.remaining - q)) nobody h in
    let m : bought_share l ≡ 0 = cond-false (eqb (column l.side) 0) l.remaining 0 t in
    let n : bought_share (with_remaining l (l.remaining - q)) ≡ 0 = cond-false (eqb (column l.side) 0) (l.remaining - q) 0 t in
    omega arith

pub pair_passes : (a p : ℕ) (l : Ledger) (b s q : ℕ) → OpenLot l.lots a p Bought b q → OpenLot l.lots a p Sold s q →
    slipped (paired l b s q).slips + bought_left (paired l b s q).lots ≡ slipped l.slips + bought_left l.lots
pair_passes a p l b s q x y =
    let xs : List Lot = reduced l.lots b q in
    let side = same_side a p l b s q x y in
    let n = sum_by_push (λ (z : Slip). z.quantity) l.slips (slip_of (lot_at l.lots b) (lot_at l.lots s) q) in
    omega (arith, bought_open (reduced xs s q), bought_kept xs s q (still_within a p l b s q x y) (λ e. omega arith), bought_taken l.lots b q x.within (bought_side a p l b s q x y) x.enough)

-- Any fact of a lot that what remains of it does not touch is kept by a pair.
kept_reduced : (P : Lot → Type 0) → ((l : Lot) (n : ℕ) → P l → P (with_remaining l n)) → (xs : List Lot) (k q : ℕ) → k < length xs → AllByRecursion P xs → AllByRecursion P (reduced xs k q)
kept_reduced P stable xs k q h f = let l : Lot = lot_at xs k in All-set P xs k (with_remaining l (l.remaining - q)) (stable l (l.remaining - q) (All-get_or P xs k nobody h f)) f

kept_open : (P : Lot → Type 0) (xs : List Lot) → AllByRecursion P xs → AllByRecursion P (still_open xs)
kept_open P [] f = tt
kept_open P (x ∷ xs) f =
    ⊎_elim
    (λ (z : x.remaining ≡ 0). subst (AllByRecursion P) (sym (leaves x xs z)) (kept_open P xs f.1))
    (λ (z : x.remaining ≡ 0 → ⊥). subst (AllByRecursion P) (sym (stays x xs z)) (f.0, kept_open P xs f.1))
    (cases_eq x.remaining 0)

-- an account and a product that there are
abbrev pub LotKnown : ℕ → Lot → Type 0
LotKnown n l = Known n l.account l.product

abbrev pub SlipKnown : ℕ → Slip → Type 0
SlipKnown n s = Known n s.account s.product

pub pair_known : (n a p : ℕ) (l : Ledger) (b s q : ℕ) → OpenLot l.lots a p Bought b q → OpenLot l.lots a p Sold s q → AllByRecursion (LotKnown n) l.lots → AllByRecursion (LotKnown n) (paired l b s q).lots
pair_known n a p l b s q x y f =
    kept_open (LotKnown n) (reduced (reduced l.lots b q) s q)
    (kept_reduced (LotKnown n) (λ lot m h. h) (reduced l.lots b q) s q (still_within a p l b s q x y) (kept_reduced (LotKnown n) (λ lot m h. h) l.lots b q x.within f))

pub pair_slips_known : (n a p : ℕ) (l : Ledger) (b s q : ℕ) → OpenLot l.lots a p Bought b q → AllByRecursion (LotKnown n) l.lots → AllByRecursion (SlipKnown n) l.slips → AllByRecursion (SlipKnown n) (paired l b s q).slips
pair_slips_known n a p l b s q x f g =
    All-push (SlipKnown n) l.slips (slip_of (lot_at l.lots b) (lot_at l.lots s) q) g (All-get_or (LotKnown n) l.lots b nobody x.within f)

-- a sound lot is an open one
pub open_of : (n : ℕ) (xs : List Lot) → AllByRecursion (LotSound n) xs → AllOpen xs
open_of n xs f = All-weaker (LotSound n) (λ (l : Lot). 1 ≤ l.remaining) (λ l h. h.0) xs f

-- what a pair leaves is open
all_open : (xs : List Lot) → AllOpen (still_open xs)
all_open [] = tt
all_open (x ∷ xs) =
    ⊎_elim
    (λ (z : x.remaining ≡ 0). subst AllOpen (sym (leaves x xs z)) (all_open xs))
    (λ (z : x.remaining ≡ 0 → ⊥). subst AllOpen (sym (stays x xs z)) (omega arith, all_open xs))
    (cases_eq x.remaining 0)

pub pair_open : (l : Ledger) (b s q : ℕ) → AllOpen (paired l b s q).lots
pair_open l b s q = all_open (reduced (reduced l.lots b q) s q)
