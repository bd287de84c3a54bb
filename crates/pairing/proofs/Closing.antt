-- Asking a rule until it gives no pair.
use Rattle.std.proofs.Common.{◌≡◌, ℕ, zero, suc, ◌+◌, ◌≤◌, ◌⊎◌, Some, None, Option, sym, refl, ap, ◌∙◌, subst, inl, inr, ⊎_elim, arith}
use Rattle.records.specs.declared.lots.Side.TheVariants.{Bought, Sold}
use Rattle.closing.specs.Rules.{Pair, Rule, Lawful, OpenLot, AllOpen}
use Rattle.report.specs.State.{Ledger}
use Rattle.pairing.specs.Pairs.{Asked, paired, closed, closed_by, least_held}
use Rattle.pairing.specs.Pairs.Asked.{no_pair, one_pair}
use Rattle.pairing.proofs.Held.{pair_takes, pair_open}

cases_pair : (o : Option Pair) → (o ≡ None) ⊎ ((t : Pair) × (o ≡ Some t))
cases_pair None = inl refl
cases_pair (Some t) = inr (t, refl)

module _ (rule : Rule) (lawful : Lawful rule) (a p : ℕ) where
  pub closed_none : (n : ℕ) (l : Ledger) → rule.pairing a p l.lots ≡ None → closed rule n a p l ≡ l
  unfolding closed
  closed_none zero l e = refl
  closed_none (suc n) l e = ap (λ (o : Option Pair). closed_by o (λ b s q. closed rule n a p (paired l b s q)) l) e

  pub closed_some : (n : ℕ) (l : Ledger) (t : Pair) → rule.pairing a p l.lots ≡ Some t → closed rule (suc n) a p l ≡ closed rule n a p (paired l t.0 t.1 t.2)
  unfolding closed
  closed_some n l t e = ap (λ (o : Option Pair). closed_by o (λ b s q. closed rule n a p (paired l b s q)) l) e

  -- a pair is two open lots
  pub opened : (l : Ledger) (t : Pair) → AllOpen l.lots → rule.pairing a p l.lots ≡ Some t → OpenLot l.lots a p Bought t.0 t.2 × OpenLot l.lots a p Sold t.1 t.2 × (1 ≤ t.2)
  opened l t open_all e = lawful.lawful a p l.lots open_all t.0 t.1 t.2 e

  -- after which all lots are open again
  pub stays_open : (l : Ledger) (t : Pair) → AllOpen l.lots → rule.pairing a p l.lots ≡ Some t → AllOpen (paired l t.0 t.1 t.2).lots
  stays_open l t open_all e = let o = opened l t open_all e in pair_open l t.0 t.1 t.2

  -- and it takes something of both sides
  pub falls : (l : Ledger) (t : Pair) → AllOpen l.lots → rule.pairing a p l.lots ≡ Some t → least_held a p (paired l t.0 t.1 t.2).lots + 1 ≤ least_held a p l.lots
  falls l t open_all e =
      let o = opened l t open_all e in
      let h = pair_takes a p l t.0 t.1 t.2 o.0 o.1 in
      omega arith

  -- more askings than contracts change nothing
  pub enough : (n : ℕ) (l : Ledger) → AllOpen l.lots → least_held a p l.lots ≤ n → closed rule (suc n) a p l ≡ closed rule n a p l
  enough zero l open_all h =
      ⊎_elim
      (λ e. closed_none 1 l e ∙ sym (closed_none 0 l e))
      (λ (f : (t : Pair) × (rule.pairing a p l.lots ≡ Some t)). let d = falls l f.0 open_all f.1 in absurd (omega arith))
      (cases_pair (rule.pairing a p l.lots))
  enough (suc n) l open_all h =
      ⊎_elim
      (λ e. closed_none (suc (suc n)) l e ∙ sym (closed_none (suc n) l e))
      (λ (f : (t : Pair) × (rule.pairing a p l.lots ≡ Some t)).
      let d = falls l f.0 open_all f.1 in
      closed_some (suc n) l f.0 f.1
      ∙ (enough n (paired l f.0.0 f.0.1 f.0.2) (stays_open l f.0 open_all f.1) (omega arith) ∙ sym (closed_some n l f.0 f.1)))
      (cases_pair (rule.pairing a p l.lots))

  -- a fact that each pair keeps
  pub kept_by_closing : (P : Ledger → Type 0) → ((l : Ledger) (t : Pair) → AllOpen l.lots → rule.pairing a p l.lots ≡ Some t → P l → P (paired l t.0 t.1 t.2)) →
      (n : ℕ) (l : Ledger) → AllOpen l.lots → P l → P (closed rule n a p l)
  unfolding closed
  kept_by_closing P step zero l open_all h = h
  kept_by_closing P step (suc n) l open_all h =
      ⊎_elim
      (λ e. subst P (sym (closed_none (suc n) l e)) h)
      (λ (f : (t : Pair) × (rule.pairing a p l.lots ≡ Some t)).
      subst P (sym (closed_some n l f.0 f.1))
      (kept_by_closing P step n (paired l f.0.0 f.0.1 f.0.2) (stays_open l f.0 open_all f.1) (step l f.0 open_all f.1 h)))
      (cases_pair (rule.pairing a p l.lots))

  -- one turn of the closing: what is left to do stays the same
  pub turn_closes : (l : Ledger) (t : Pair) → AllOpen l.lots → rule.pairing a p l.lots ≡ Some t → least_held a p l.lots ≤ 500 →
      closed rule 500 a p (paired l t.0 t.1 t.2) ≡ closed rule 500 a p l
  turn_closes l t open_all e h =
      let d = falls l t open_all e in
      enough 499 (paired l t.0 t.1 t.2) (stays_open l t open_all e) (omega arith) ∙ sym (closed_some 499 l t e)

  -- the budget suffices: the asking ends because the rule gives no pair
  pub asked : (n : ℕ) (l : Ledger) → AllOpen l.lots → least_held a p l.lots ≤ n → Asked rule a p l (closed rule n a p l)
  unfolding closed
  asked zero l open_all h =
      ⊎_elim
      (λ (e : rule.pairing a p l.lots ≡ None). no_pair e)
      (λ (f : (t : Pair) × (rule.pairing a p l.lots ≡ Some t)). let d = falls l f.0 open_all f.1 in absurd (omega arith))
      (cases_pair (rule.pairing a p l.lots))
  asked (suc n) l open_all h =
      ⊎_elim
      (λ (e : rule.pairing a p l.lots ≡ None). subst (Asked rule a p l) (sym (closed_none (suc n) l e)) (no_pair e))
      (λ (f : (t : Pair) × (rule.pairing a p l.lots ≡ Some t)).
      let d = falls l f.0 open_all f.1 in
      subst (Asked rule a p l) (sym (closed_some n l f.0 f.1))
      (one_pair f.0.0 f.0.1 f.0.2 f.1 (asked n (paired l f.0.0 f.0.1 f.0.2) (stays_open l f.0 open_all f.1) (omega arith))))
      (cases_pair (rule.pairing a p l.lots))
