-- A rollover: what the sheet of a new day does to lots and money.
use Rattle.std.specs.Prelude.{ℕ, ◌+◌, Bool, cond, ◌||◌, List, map, ℤ, pos, negsuc, ◌+ℤ◌, ◌-ℤ◌, ◌==◌}
use Rattle.std.specs.List.{range_with_len}
use Rattle.refusals.specs.Ranges.{any, outside, outside_ℤ}
use Rattle.money.specs.declared.Yen.{Yen}
use Rattle.money.specs.Kinds.{yen}
use Rattle.records.specs.declared.lots.Lot.{Lot}
use Rattle.records.specs.declared.lots.Slip.{Slip}
use Rattle.records.specs.Lots.{is_bought}
use Rattle.report.specs.State.{Money, of_account, no_yen}
use Rattle.report.specs.Report.{slips_converted}
use Rattle.rolling.specs.declared.sheets.Sheet.{Sheet}
use Rattle.rolling.specs.Points.{points_of}

-- Lots.

abbrev pub with_points : Lot → ℤ → Lot
with_points l z = record {
  account = l.account;
  product = l.product;
  side = l.side;
  entry = l.entry;
  remaining = l.remaining;
  price = l.price;
  points = z;
}

-- a bought lot gains its product's points, a sold lot loses them
abbrev pub rolled_lot : List ℤ → Lot → Lot
rolled_lot points l =
    with_points l (cond (is_bought l.side) (l.points +ℤ points_of points l.product) (l.points -ℤ points_of points l.product))

-- Money.

abbrev pub money_of : (deposits waiting_one waiting_two : List Yen) → Money
money_of deposits one two = record { deposits = deposits; waiting_one = one; waiting_two = two }

-- so many yen for each of the accounts 1 to 64
unfoldable pub each_account : (ℕ → ℤ) → List Yen
each_account f = map (λ k. yen (f (k + 1))) (range_with_len 0 64)

-- each account's slips, summed by product and each sum converted once at these prices, go to waiting two
abbrev pub with_slips : List ℕ → List Slip → Money → Money
with_slips prices slips m = record {
  deposits = m.deposits;
  waiting_one = m.waiting_one;
  waiting_two = each_account (λ a. of_account m.waiting_two a +ℤ slips_converted prices a slips);
}

-- waiting one goes to the deposit, waiting two becomes waiting one, and waiting two becomes 0
abbrev pub transferred : Money → Money
transferred m = record {
  deposits = each_account (λ a. of_account m.deposits a +ℤ of_account m.waiting_one a);
  waiting_one = m.waiting_two;
  waiting_two = no_yen;
}

-- the day that begins is a bank day
abbrev pub is_bank_day : Sheet → Bool
is_bank_day sheet = sheet.mark == 1

-- the slips are converted at these prices; on a bank day what waits is then transferred
abbrev pub rolled_at : List ℕ → Bool → List Slip → Money → Money
rolled_at prices bank slips m = cond bank (transferred (with_slips prices slips m)) (with_slips prices slips m)

abbrev pub rolled_money : Sheet → List Slip → Money → Money
rolled_money sheet slips m = rolled_at sheet.prices (is_bank_day sheet) slips m

-- the bank mark, a price or points outside their range
abbrev pub bad_sheet : Sheet → Bool
bad_sheet sheet =
    outside 0 1 sheet.mark || (any (outside 1 999999) sheet.prices || any (outside_ℤ (negsuc 9999) (pos 10000)) sheet.points)
