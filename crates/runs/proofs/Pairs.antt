-- What pairing conserves, of every account and product: the contracts bought less sold, and the worth of slips and lots together.
use Rattle.std.proofs.Common.{◌≡◌, ℕ, Bool, true, false, cond, ◌&&◌, eqb, List, [], ◌∷◌, ◌++◌, ℤ, pos, negsuc, ◌+ℤ◌, ◌-ℤ◌, ◌*ℤ◌, sym, refl, ap, ◌∙◌, arith}
use mathlib.Core.Bool.{and-true}
use borrow.Author.Differences.{ints}
use Rattle.money.specs.Products.{step_worth}
use Rattle.money.specs.Ints.{multiplied}
use Rattle.money.proofs.Sums.{sum_append}
use Rattle.records.specs.declared.lots.Side.TheVariants.{Bought, Sold}
use Rattle.records.specs.declared.lots.Lot.{Lot}
use Rattle.records.specs.declared.lots.Slip.{Slip}
use Rattle.records.specs.Sum.{share}
use Rattle.records.specs.Lots.{told_of_slip, slip_sum}
use Rattle.closing.specs.Rules.{Rule, Lawful, OpenLot, AllOpen, lot_at}
use Rattle.pairing.specs.Pairs.{slip_of, paired, closed}
use Rattle.pairing.proofs.Closing.{opened, kept_by_closing}
use Rattle.report.specs.State.{Ledger}
use Rattle.runs.proofs.Weights.{weighted, weighted_paired, unit_net, unit_rest}

pub slips_append : (a p : ℕ) (xs ys : List Slip) → slip_sum a p (xs ++ ys) ≡ slip_sum a p xs +ℤ slip_sum a p ys
slips_append a p xs ys = sum_append (λ x. share a p 0 (told_of_slip x)) xs ys

-- what slips and open lots are worth at price 0
abbrev pub at_zero : ℕ → ℕ → Ledger → ℤ
at_zero a p l = slip_sum a p l.slips +ℤ weighted (unit_rest a p) l.lots

pub record Conserved (before after : Ledger) : Type 0 where
  pub nets : (a p : ℕ) → weighted (unit_net a p) after.lots ≡ weighted (unit_net a p) before.lots
  pub worths : (a p : ℕ) → at_zero a p after ≡ at_zero a p before

pub unchanged : (l : Ledger) → Conserved l l
unchanged l = record { nets = λ a p. refl; worths = λ a p. refl }

pub then : (l m n : Ledger) → Conserved l m → Conserved m n → Conserved l n
then l m n c d = record { nets = λ a p. d.nets a p ∙ c.nets a p; worths = λ a p. d.worths a p ∙ c.worths a p }

-- a bought and a sold contract of one account and product
module _ (a p : ℕ) (b s : Lot) (same_account : s.account ≡ b.account) (same_product : s.product ≡ b.product) (b_side : b.side ≡ Bought) (s_side : s.side ≡ Sold) where
  nets_cancel : (q : ℤ) → q *ℤ unit_net a p b +ℤ q *ℤ unit_net a p s ≡ pos 0
  nets_cancel q = rw (same_account, same_product, b_side, s_side) (by (eqb b.account a && eqb b.product p))
    where
      by : (mine : Bool) → q *ℤ cond mine (pos 1) (pos 0) +ℤ q *ℤ cond mine (negsuc 0) (pos 0) ≡ pos 0
      by true = simp multiplied (omega (arith, ints))
      by false = simp multiplied (omega (arith, ints))

  slip_worth : (q : ℕ) → share a p 0 (told_of_slip (slip_of b s q)) ≡ pos q *ℤ unit_rest a p b +ℤ pos q *ℤ unit_rest a p s
  slip_worth q =
      ap (λ (t : Bool). cond (eqb b.account a && t) (slip_of b s q).worth (pos 0)) (and-true (eqb b.product p))
      ∙ rw (same_account, same_product, b_side, s_side)
      (by (eqb b.account a && eqb b.product p) (pos q) (pos (step_worth b.product)) (pos b.price) (pos s.price) b.points s.points)
    where
      by : (mine : Bool) (q w from to x y : ℤ) →
          cond mine (q *ℤ (w *ℤ (to -ℤ from) +ℤ (x +ℤ y))) (pos 0)
          ≡ q *ℤ cond mine (w *ℤ (pos 0 -ℤ from) +ℤ x) (pos 0) +ℤ q *ℤ cond mine (w *ℤ (to -ℤ pos 0) +ℤ y) (pos 0)
      by true q w from to x y = simp multiplied (omega (arith, ints))
      by false q w from to x y = simp multiplied (omega (arith, ints))

-- one pair
pub pair_conserves : (a p : ℕ) (l : Ledger) (b s q : ℕ) → OpenLot l.lots a p Bought b q → OpenLot l.lots a p Sold s q → Conserved l (paired l b s q)
pair_conserves a p l b s q bought sold =
    let lb : Lot = lot_at l.lots b in
    let ls : Lot = lot_at l.lots s in
    let same_account : ls.account ≡ lb.account = sold.account_is ∙ sym bought.account_is in
    let same_product : ls.product ≡ lb.product = sold.product_is ∙ sym bought.product_is in
    record {
      nets = λ a' p'.
          let two = weighted_paired (unit_net a' p') (λ x n. refl) a p l b s q bought sold in
          let none = nets_cancel a' p' lb ls same_account same_product bought.side_is sold.side_is (pos q) in
          omega (arith, ints, two, none);
      worths = λ a' p'.
          let two = weighted_paired (unit_rest a' p') (λ x n. refl) a p l b s q bought sold in
          let one = slips_append a' p' l.slips (slip_of lb ls q ∷ []) in
          let worth = slip_worth a' p' lb ls same_account same_product bought.side_is sold.side_is q in
          omega (arith, ints, two, one, worth);
    }

-- all pairs that a lawful rule gives
pub closing_conserves : (rule : Rule) → Lawful rule → (n a p : ℕ) (l : Ledger) → AllOpen l.lots → Conserved l (closed rule n a p l)
closing_conserves rule lawful n a p l open_all =
    kept_by_closing rule lawful a p (Conserved l)
    (λ m t open_m e c.
    let both = opened rule lawful a p m t open_m e in
    then l m (paired m t.0 t.1 t.2) c (pair_conserves a p m t.0 t.1 t.2 both.0 both.1))
    n l open_all (unchanged l)
