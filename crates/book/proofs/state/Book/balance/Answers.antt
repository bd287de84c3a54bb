use Rattle.std.proofs.Common.{◌≡◌, length, ap, nat_abs, ◌∙◌, refl, arith, rules, Option}
use Rattle.std.specs.Option.{unwrap_or}
use Rattle.std.proofs.lemmas.List.{length-map}
use Rattle.tables.specs.Numbered.{numbered}
use Rattle.records.specs.Lists.{items}
use Rattle.report.specs.State.{of_account}
use Rattle.rolling.specs.declared.balances.Balance.{Balance}
use Rattle.rolling.specs.Balances.{deposits, first_waiting, second_waiting}
use Rattle.rolling.proofs.Tables.{nothing, deposit, first, second}
use Rattle.book.proofs.Bounds.{few_yen_of_any}
use Rattle.book.proofs.Balances.{column_of}
use Rattle.book.proofs.state.Book.balance.Goals as goal

pub returns : goal.returns
returns c =
    let b = c.args.self.now in
    let bs = b.balances in
    let a = c.args.account in
    let long : length bs ≡ 64 = search rules in
    let is : c.unwrap_or.result ≡ unwrap_or (numbered bs a) nothing = c.unwrap_or.ensures ∙ ap (λ (o : Option Balance). unwrap_or o nothing) c.numbered.ensures in
    let d : c.unwrap_or.result.deposit.0 ≡ of_account (deposits bs) a = ap (λ (x : Balance). x.deposit.0) is ∙ column_of deposit refl bs a in
    let one : c.unwrap_or.result.waiting_one.0 ≡ of_account (first_waiting bs) a = ap (λ (x : Balance). x.waiting_one.0) is ∙ column_of first refl bs a in
    let two : c.unwrap_or.result.waiting_two.0 ≡ of_account (second_waiting bs) a = ap (λ (x : Balance). x.waiting_two.0) is ∙ column_of second refl bs a in
    let few = few_yen_of_any b.entries (deposits bs) (first_waiting bs) (second_waiting bs) (items b.ledger.lots) (items b.ledger.slips) a b.funded b.taken
    (length-map bs deposit ∙ long) (length-map bs first ∙ long) (length-map bs second ∙ long) in
    record {
      deposit = d;
      waiting_one = one;
      waiting_two = two;
      deposit_few = omega (arith, ap nat_abs d, few.deposit);
      one_few = omega (arith, ap nat_abs one, few.first);
      two_few = omega (arith, ap nat_abs two, few.second);
    }
