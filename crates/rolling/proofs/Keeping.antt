-- What a sheet's ranges give, what a rollover keeps of the lots, and the places of a table of accounts.
use Rattle.std.proofs.Common.{◌≡◌, ℕ, ◌+◌, ◌-◌, ◌*◌, ◌<◌, ◌≤◌, Bool, true, false, cond, ◌&&◌, eqb, leb, List, [], ◌∷◌, map, length, get_or, ℤ, pos, negsuc, ◌+ℤ◌, ◌-ℤ◌, nat_abs, sym, refl, ap, ◌∙◌, ⊎_elim, arith}
use lib.Signed.{le_z}
use Rattle.std.specs.List.{AllByRecursion}
use Rattle.std.proofs.lemmas.List.{get_or_past}
use Rattle.std.proofs.lemmas.List.FromFn.{get_or-map-range_with_len}
use Rattle.std.proofs.ByRecursion.{All-weaker, All-map}
use Rattle.std.proofs.lemmas.List.Sums.{sum_by-cons}
use Rattle.std.proofs.lemmas.Bool.{and_parts, not-false, le-leb, cond-true, cond_both, cases_lt}
use Rattle.std.proofs.lemmas.Int.{ints}
use Rattle.money.specs.declared.Yen.{Yen}
use Rattle.money.specs.Kinds.{yen}
use Rattle.money.specs.Products.{Priced}
use Rattle.records.specs.declared.lots.Lot.{Lot}
use Rattle.records.specs.Lots.{column, is_bought}
use Rattle.refusals.specs.Ranges.{any, outside, outside_ℤ}
use Rattle.refusals.proofs.Passed.{inside, none_at}
use Rattle.report.specs.State.{of_account}
use Rattle.report.specs.Sound.{LotSound, bought_left}
use Rattle.pairing.proofs.Held.{LotKnown}
use Rattle.rolling.specs.Points.{points_of, Mild}
use Rattle.rolling.specs.Sheets.{rolled_lot, each_account}

-- The ranges of a sheet.
pub priced_from : (prices : List ℕ) → any (outside 1 999999) prices ≡ false → Priced prices
priced_from prices e k h =
    ⊎_elim
    (λ (l : k < length prices). (inside 1 999999 (get_or prices k 0) (none_at (outside 1 999999) prices e k 0 l)).1)
    (λ (l : length prices ≤ k). omega (arith, get_or_past prices k 0 l))
    (cases_lt k (length prices))

few_inside : (z : ℤ) → outside_ℤ (negsuc 9999) (pos 10000) z ≡ false → nat_abs z ≤ 10000
few_inside z e =
    let both = and_parts (le_z (negsuc 9999) z) (le_z z (pos 10000)) (not-false (le_z (negsuc 9999) z && le_z z (pos 10000)) e) in
    let low = both.0 in
    let high = both.1 in
    omega (arith, ints)

pub mild_from : (points : List ℤ) → any (outside_ℤ (negsuc 9999) (pos 10000)) points ≡ false → Mild points
mild_from points e k =
    ⊎_elim
    (λ (l : k < length points). few_inside (get_or points k (pos 0)) (none_at (outside_ℤ (negsuc 9999) (pos 10000)) points e k (pos 0) l))
    (λ (l : length points ≤ k). omega (arith, ap nat_abs (get_or_past points k (pos 0) l)))
    (cases_lt k (length points))

-- a day's mark says whether it is a bank day
pub marked : (bank : Bool) → eqb (cond bank 1 0) 1 ≡ bank
marked true = refl
marked false = refl

-- Lots.
pub points_few : (points : List ℤ) → Mild points → (p : ℕ) → nat_abs (points_of points p) ≤ 10000
points_few points m p = cond_both (leb 1 p) (get_or points (p - 1) (pos 0)) (pos 0) (λ (z : ℤ). nat_abs z ≤ 10000) (λ e. m (p - 1)) (λ e. omega arith)

lot_sound : (points : List ℤ) → Mild points → (n : ℕ) (l : Lot) → LotSound n l → LotSound (n + 1) (rolled_lot points l)
lot_sound points m n l h =
    let change : ℤ = points_of points l.product in
    let few = points_few points m l.product in
    let most : ℤ → Type 0 = λ z. nat_abs z ≤ 10000 * (n + 1) in (
      h.0,
      h.1,
      h.2,
      cond_both (is_bought l.side) (l.points +ℤ change) (l.points -ℤ change) most (λ e. omega (arith, ints, h.3)) (λ e. omega (arith, ints, h.3)),
    )

pub rolled_sound : (points : List ℤ) → Mild points → (n : ℕ) (xs : List Lot) → AllByRecursion (LotSound n) xs → AllByRecursion (LotSound (n + 1)) (map (rolled_lot points) xs)
rolled_sound points m n xs h =
    All-map (LotSound (n + 1)) (rolled_lot points) xs (All-weaker (LotSound n) (λ (l : Lot). LotSound (n + 1) (rolled_lot points l)) (lot_sound points m n) xs h)

pub rolled_known : (points : List ℤ) (accounts : ℕ) (xs : List Lot) → AllByRecursion (LotKnown accounts) xs → AllByRecursion (LotKnown accounts) (map (rolled_lot points) xs)
rolled_known points accounts xs h = All-map (LotKnown accounts) (rolled_lot points) xs h

pub rolled_bought : (points : List ℤ) (xs : List Lot) → bought_left (map (rolled_lot points) xs) ≡ bought_left xs
rolled_bought points [] = refl
rolled_bought points (x ∷ xs) =
    let f : Lot → ℕ = λ l. cond (eqb (column l.side) 0) l.remaining 0 in
    sum_by-cons f (rolled_lot points x) (map (rolled_lot points) xs) ∙ (ap (λ (n : ℕ). f x + n) (rolled_bought points xs) ∙ sym (sum_by-cons f x xs))

-- Tables of accounts.
pub each_at : (f : ℕ → ℤ) (k : ℕ) → k < 64 → get_or (each_account f) k (yen (pos 0)) ≡ yen (f (k + 1))
unfolding each_account
each_at f k h = get_or-map-range_with_len (λ j. yen (f (j + 1))) 0 64 k k (yen (pos 0)) h (omega arith)

pub of_next : (table : List Yen) (k : ℕ) → of_account table (k + 1) ≡ (get_or table k (yen (pos 0))).0
of_next table k =
    cond-true (leb 1 (k + 1)) (get_or table (k + 1 - 1) (yen (pos 0))).0 (pos 0) (le-leb 1 (k + 1) (omega arith)) ∙ ap (λ (n : ℕ). (get_or table n (yen (pos 0))).0) (omega arith)
