-- The book's bounds, by place and by list.
use Rattle.std.proofs.Common.{◌≡◌, ℕ, ◌+◌, ◌-◌, ◌<◌, ◌≤◌, leb, List, [], length, get_or, set, ℤ, pos, ◌+ℤ◌, nat_abs, sym, ap, ◌∙◌, subst, ⊎_elim, arith}
use Rattle.std.specs.List.{AllByRecursion}
use Rattle.std.proofs.ByRecursion.{All-get_or, All-from_get_or, All-weaker}
use Rattle.std.proofs.lemmas.List.{length-take, get_or-set_same, get_or-set_other, get_or_past, set_past, get_or-replicate}
use Rattle.std.proofs.lemmas.Bool.{le-leb, cases_eq, cases_lt, cond-true, cond_both}
use Rattle.std.proofs.lemmas.Int.{ints}
use Rattle.money.specs.declared.Yen.{Yen}
use Rattle.money.specs.Kinds.{yen}
use Rattle.records.specs.declared.list.RecordList.{RecordList}
use Rattle.records.specs.declared.lots.Lot.{Lot}
use Rattle.records.specs.declared.lots.Slip.{Slip}
use Rattle.records.specs.Lists.{items, room}
use Rattle.records.specs.Lots.{nobody}
use Rattle.report.specs.State.{State, Ledger, Money, next, of_account}
use Rattle.runs.specs.Calls.{paid}
use Rattle.report.specs.Sound.{LotSound, SlipSound, LotsSound, LotsKnown, SlipsSound, SlipsKnown, Funded, size_at, slipped, bought_left}
use Rattle.pairing.proofs.Held.{LotKnown, SlipKnown}
use Rattle.rolling.specs.declared.balances.Balance.{Balance}
use Rattle.rolling.specs.Balances.{deposits, first_waiting, second_waiting, HasRoom}
use Rattle.rolling.proofs.Tables.{nothing, deposit, first, second}
use Rattle.std.proofs.Math.ListN.{get_or-map}
use Rattle.book.specs.Opening.{no_yen}

pub within_room : {X : Type 0} (r : RecordList X) → length (items r) ≤ room r
within_room r = simp length-take (omega arith)

pub all_sound : (n : ℕ) (xs : List Lot) → LotsSound n xs → AllByRecursion (LotSound n) xs
all_sound n xs h = All-from_get_or (LotSound n) xs nobody (λ i k. h i nobody k)

pub by_place : (n : ℕ) (xs : List Lot) → AllByRecursion (LotSound n) xs → LotsSound n xs
by_place n xs h = λ k d l. All-get_or (LotSound n) xs k d l h

pub later : (n m : ℕ) (xs : List Lot) → n ≤ m → AllByRecursion (LotSound n) xs → AllByRecursion (LotSound m) xs
later n m xs le h = All-weaker (LotSound n) (LotSound m) (λ x f. (f.0, f.1, f.2, omega (arith, f.3))) xs h

-- lots of a book, whatever entries it has left
pub sound_lots : (n : ℕ) (xs : List Lot) → n ≤ 20000 → LotsSound n xs → AllByRecursion (LotSound 20000) xs
sound_lots n xs few h = later n 20000 xs few (all_sound n xs h)

pub all_known : (n : ℕ) (xs : List Lot) → LotsKnown n xs → AllByRecursion (LotKnown n) xs
all_known n xs h = All-from_get_or (LotKnown n) xs nobody (λ i k. h i nobody k)

pub known_by_place : (n : ℕ) (xs : List Lot) → AllByRecursion (LotKnown n) xs → LotsKnown n xs
known_by_place n xs h = λ k d l. All-get_or (LotKnown n) xs k d l h

abbrev pub no_slip : Slip
no_slip = record { account = 0; product = 0; bought = 0; sold = 0; quantity = 0; worth = pos 0 }

pub sound_slips : (xs : List Slip) → SlipsSound xs → AllByRecursion SlipSound xs
sound_slips xs h = All-from_get_or SlipSound xs no_slip (λ i k. h i no_slip k)

pub slips_by_place : (xs : List Slip) → AllByRecursion SlipSound xs → SlipsSound xs
slips_by_place xs h = λ k d l. All-get_or SlipSound xs k d l h

pub all_slips_known : (n : ℕ) (xs : List Slip) → SlipsKnown n xs → AllByRecursion (SlipKnown n) xs
all_slips_known n xs h = All-from_get_or (SlipKnown n) xs no_slip (λ i k. h i no_slip k)

pub slips_known_by_place : (n : ℕ) (xs : List Slip) → AllByRecursion (SlipKnown n) xs → SlipsKnown n xs
slips_known_by_place n xs h = λ k d l. All-get_or (SlipKnown n) xs k d l h

pub of_account_is : (t : List Yen) (a : ℕ) → 1 ≤ a → of_account t a ≡ (get_or t (a - 1) (yen (pos 0))).0
of_account_is t a h = cond-true (leb 1 a) (get_or t (a - 1) (yen (pos 0))).0 (pos 0) (le-leb 1 a h)

-- an amount of a table is bounded by what bounds its places
of_account_few : (t : List Yen) (m a : ℕ) → length t ≡ 64 → ((k : ℕ) → k < 64 → size_at t k ≤ m) → nat_abs (of_account t a) ≤ m
of_account_few t m a long h =
    cond_both (leb 1 a) (get_or t (a - 1) (yen (pos 0))).0 (pos 0) (λ (z : ℤ). nat_abs z ≤ m)
    (λ e. ⊎_elim (λ (l : a - 1 < 64). h (a - 1) l) (λ (l : 64 ≤ a - 1). omega (arith, ap (λ (y : Yen). nat_abs y.0) (get_or_past t (a - 1) (yen (pos 0)) (omega (arith, long))))) (cases_lt (a - 1) 64))
    (λ e. omega arith)

-- no amount of an account comes near what 64 bits hold
pub record Few (x y z : ℤ) : Type 0 where
  pub deposit : nat_abs x ≤ 150000000000000000
  pub first : nat_abs y ≤ 150000000000000000
  pub second : nat_abs z ≤ 150000000000000000

pub few_yen : (n : ℕ) (ds ones twos : List Yen) (lots : List Lot) (slips : List Slip) (a : ℕ) → Funded n ds ones twos lots slips → n ≤ 20000 → 1 ≤ a → a ≤ 64 →
    Few (of_account ds a) (of_account ones a) (of_account twos a)
few_yen n ds ones twos lots slips a f h k l =
    let less : a - 1 < 64 = omega arith in
    let g = f (a - 1) less in
    let x = of_account_is ds a k in
    let y = of_account_is ones a k in
    let z = of_account_is twos a k in
    record { deposit = omega (arith, ap nat_abs x); first = omega (arith, ap nat_abs y); second = omega (arith, ap nat_abs z) }

-- the same of any account number, where the tables are those of 64 accounts
pub few_yen_of_any : (n : ℕ) (ds ones twos : List Yen) (lots : List Lot) (slips : List Slip) (a : ℕ) → Funded n ds ones twos lots slips → n ≤ 20000 →
    length ds ≡ 64 → length ones ≡ 64 → length twos ≡ 64 → Few (of_account ds a) (of_account ones a) (of_account twos a)
few_yen_of_any n ds ones twos lots slips a f h ld lo lt = record {
  deposit = of_account_few ds 150000000000000000 a ld (λ k l. omega (arith, f k l));
  first = of_account_few ones 150000000000000000 a lo (λ k l. omega (arith, f k l));
  second = of_account_few twos 150000000000000000 a lt (λ k l. omega (arith, f k l));
}

-- each balance has room for one more amount
pub roomy : (n : ℕ) (bs : List Balance) (lots : List Lot) (slips : List Slip) → length bs ≡ 64 → n ≤ 20000 → Funded n (deposits bs) (first_waiting bs) (second_waiting bs) lots slips → AllByRecursion HasRoom bs
roomy n bs lots slips long few f = All-from_get_or HasRoom bs nothing (λ j l.
    let g = f j (omega (arith, long)) in
    let d = get_or-map deposit bs j nothing in
    let one = get_or-map first bs j nothing in
    let two = get_or-map second bs j nothing in (
      omega (arith, ap (λ (y : Yen). nat_abs y.0) d),
      omega (arith, ap (λ (y : Yen). nat_abs y.0) one),
      omega (arith, ap (λ (y : Yen). nat_abs y.0) two),
    ))

-- a change of one amount by 1,000,000,000 at most is paid for by one entry
set_few : (ds : List Yen) (i k : ℕ) (z : ℤ) → nat_abs z ≤ size_at ds i + 1000000000 → size_at (set ds i (yen z)) k ≤ size_at ds k + 1000000000
set_few ds i k z h =
    ⊎_elim
    (λ (e : k ≡ i).
    ⊎_elim
    (λ (l : i < length ds). omega (arith, ap (λ (y : Yen). nat_abs y.0) (ap (λ (j : ℕ). get_or (set ds i (yen z)) j (yen (pos 0))) e ∙ get_or-set_same ds i (yen z) (yen (pos 0)) l), ap (size_at ds) e))
    (λ (l : length ds ≤ i). omega (arith, ap (λ (xs : List Yen). size_at xs k) (set_past ds i (yen z) l)))
    (cases_lt i (length ds)))
    (λ (n : k ≡ i → ⊥). omega (arith, ap (λ (y : Yen). nat_abs y.0) (get_or-set_other ds i k (yen z) (yen (pos 0)) n)))
    (cases_eq k i)

pub funded_set : (n : ℕ) (ds ones twos : List Yen) (lots : List Lot) (slips : List Slip) (i : ℕ) (z : ℤ) → Funded n ds ones twos lots slips →
    nat_abs z ≤ size_at ds i + 1000000000 → Funded (n + 1) (set ds i (yen z)) ones twos lots slips
funded_set n ds ones twos lots slips i z f h = λ k l. omega (arith, f k l, set_few ds i k z h)

-- the same of a payment, in the words of the definitions
pub funded_paid : (n : ℕ) (m m' : Money) (lots : List Lot) (slips : List Slip) (a : ℕ) (z : ℤ) → Funded n m.deposits m.waiting_one m.waiting_two lots slips → 1 ≤ a → nat_abs z ≤ 1000000000 →
    m' ≡ paid m a z → Funded (n + 1) m'.deposits m'.waiting_one m'.waiting_two lots slips
funded_paid n m m' lots slips a z f h few is =
    let held = of_account_is m.deposits a h in
    let new : nat_abs (of_account m.deposits a +ℤ z) ≤ size_at m.deposits (a - 1) + 1000000000 = omega (arith, ints, ap nat_abs held) in
    subst (λ (x : Money). Funded (n + 1) x.deposits x.waiting_one x.waiting_two lots slips) (sym is) (funded_set n m.deposits m.waiting_one m.waiting_two lots slips (a - 1) (of_account m.deposits a +ℤ z) f new)

pub lots_later : (n : ℕ) (xs : List Lot) → LotsSound n xs → LotsSound (n + 1) xs
lots_later n xs h = λ k d l. let f = h k d l in (f.0, f.1, f.2, omega (arith, f.3))

-- a fresh book
pub empty_lots : (n : ℕ) (xs : List Lot) → xs ≡ [] → LotsSound n xs
empty_lots n xs e = λ k d l. absurd (omega (arith, ap length e))

pub unknown_lots : (n : ℕ) (xs : List Lot) → xs ≡ [] → LotsKnown n xs
unknown_lots n xs e = λ k d l. absurd (omega (arith, ap length e))

pub empty_slips : (xs : List Slip) → xs ≡ [] → SlipsSound xs
empty_slips xs e = λ k d l. absurd (omega (arith, ap length e))

pub unknown_slips : (n : ℕ) (xs : List Slip) → xs ≡ [] → SlipsKnown n xs
unknown_slips n xs e = λ k d l. absurd (omega (arith, ap length e))

pub unfunded : (xs : List Lot) (ss : List Slip) → xs ≡ [] → ss ≡ [] → Funded 0 no_yen no_yen no_yen xs ss
unfunded xs ss e f = λ k l. omega (arith, ap bought_left e, ap slipped f, ap (λ (y : Yen). nat_abs y.0) (get_or-replicate 64 k (yen (pos 0)) (yen (pos 0)) l))

-- a book whose records alone have changed, with one entry more
pub with_ledger : (st : State) (lot_places slip_places : ℕ) (now after : Ledger) → lot_places ≡ st.limits.lot_places → slip_places ≡ st.limits.slip_places → now ≡ after →
    ◌≡◌ {A = State}
    (record { limits = record { accounts = st.limits.accounts; lot_places = lot_places; slip_places = slip_places }; prices = st.prices; ledger = now; money = st.money; entries = st.entries + 1 })
    (next st st.prices after st.money)
with_ledger st lot_places slip_places now after lots slips same = λ i. record {
  limits = record { accounts = st.limits.accounts; lot_places = lots i; slip_places = slips i };
  prices = st.prices;
  ledger = same i;
  money = st.money;
  entries = st.entries + 1;
}
