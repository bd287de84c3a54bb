-- Every event reads back as itself, and every accepted line is written again as it was.
use Rattle.std.proofs.Common.{◌≡◌, ℕ, ◌+◌, ◌-◌, ◌<◌, Bool, true, false, cond, eqb, List, [], ◌∷◌, ◌++◌, map, length, get_or, take, drop, Ok, Err, decimal, Result, sym, refl, ap, ◌∙◌, subst, arith}
use Rattle.std.specs.List.{AllByRecursion}
use Rattle.std.specs.Fmt.{signed_decimal as spelled}
use Rattle.std.proofs.lemmas.List.{length_push, get_or_push, take_at, take-append-drop, drop_more, drop_all}
use Rattle.std.proofs.lemmas.Bool.{cond-true, cond-false, cond_both, eq-eqb, ne_eqb, eqb-true, and_parts}
use Rattle.std.proofs.lemmas.Bool.Decides.{nat_tests}
use Rattle.lines.specs.Letters.{comma, line_feed}
use Rattle.lines.specs.Fields.{onto, split, sewn, ended, body}
use Rattle.lines.specs.Said.{Said, Sayable, Short, ShortSigned, is_kind, accounts, method_count}
use Rattle.lines.specs.Lines.{said, text, fields_of, later_fields, method_fields, may_stand, fields_say, parsed, InFormat}
use Rattle.lines.specs.declared.event.Event.{Event}
use Rattle.lines.specs.Readings.{answer, kept, Reading}
use Rattle.refusals.specs.declared.Refusal.{Refusal}
use Rattle.lines.proofs.Splits.{split_some}
use Rattle.lines.proofs.Faithful.{NoComma}
use Rattle.lines.proofs.Figured.{decimal_plain, spelled_plain, methods_plain}
use Rattle.lines.proofs.Meant.{few, parts, whole, parts_sayable, parts_fields, sayable_parts, fields_long, methods_all}
use Rattle.lines.proofs.Texts.{event_sayable, numbers_fit, prices_fit, points_fit}
use Rattle.lines.proofs.Parsing.{parsed_meant}

-- commas
split_sewn : (f : List ℕ) (fs : List (List ℕ)) → NoComma f → AllByRecursion NoComma fs → split (sewn (f ∷ fs)) ≡ f ∷ fs
split_sewn [] [] plain all = refl
split_sewn [] (g ∷ gs) plain all = ap (λ t. [] ∷ t) (split_sewn g gs all.0 all.1)
split_sewn (c ∷ cs) fs plain all =
    cond-false _ _ _ (ne_eqb c comma plain.0) ∙ ap (onto (c ∷ [])) (split_sewn cs fs plain.1 all)

-- sewing where the text begins with a comma
sewn_comma : (fs : List (List ℕ)) → 0 < length fs → sewn ([] ∷ fs) ≡ comma ∷ sewn fs
sewn_comma [] some = absurd (omega arith)
sewn_comma (f ∷ fs) some = refl

-- and where it begins with another byte
sewn_onto : (c : ℕ) (fs : List (List ℕ)) → 0 < length fs → sewn (onto (c ∷ []) fs) ≡ c ∷ sewn fs
sewn_onto c [] some = absurd (omega arith)
sewn_onto c (f ∷ fs) some = refl

-- parted fields are sewn to the text again
sewn_split : (bs : List ℕ) → sewn (split bs) ≡ bs
sewn_split [] = refl
sewn_split (c ∷ cs) =
    cond_both (eqb c comma) ([] ∷ split cs) (onto (c ∷ []) (split cs)) (λ fs. sewn fs ≡ c ∷ cs)
    (λ is. sewn_comma (split cs) (split_some cs) ∙ (let e = eqb-true c comma is in let back = sewn_split cs in λ i. sym e i ∷ back i))
    (λ other. sewn_onto c (split cs) (split_some cs) ∙ ap (λ t. c ∷ t) (sewn_split cs))

-- the line feed
last_place : (bs : List ℕ) → length (bs ++ line_feed ∷ []) - 1 ≡ length bs
last_place bs = omega (arith, length_push bs line_feed)

-- a line with it is ended
ends_so : (bs : List ℕ) → ended (bs ++ line_feed ∷ []) ≡ true
ends_so bs = eq-eqb _ line_feed (get_or_push bs line_feed 0 _ (sym (last_place bs)))

-- what is before it is the body
body_so : (bs : List ℕ) → body (bs ++ line_feed ∷ []) ≡ bs
body_so bs = ap (λ n. take n (bs ++ line_feed ∷ [])) (cond-true _ _ _ (ends_so bs) ∙ last_place bs) ∙ take_at bs (line_feed ∷ []) (length bs) refl

-- an ended line is its body with a line feed
ended_so : (line : List ℕ) → ended line ≡ true → body line ++ line_feed ∷ [] ≡ line
ended_so [] is = absurd (let y : ◌≡◌ {A = ℕ} 0 1 = cc in omega arith)
ended_so (b ∷ bs) is =
    let line : List ℕ = b ∷ bs in
    let n : ℕ = length line - 1 in
    let last : drop n line ≡ line_feed ∷ [] = drop_more line n 0 (omega arith) ∙ (λ i. eqb-true _ line_feed is i ∷ drop_all (n + 1) line (omega arith) i) in
    ap (λ k. take k line ++ line_feed ∷ []) (cond-true _ _ _ is) ∙ ap (λ t. take n line ++ t) (sym last) ∙ take-append-drop n line

-- no field of an event has a comma
all_map : {X : Type 0} (spell : X → List ℕ) (Fits : X → Type 0) → ((x : X) → Fits x → NoComma (spell x)) → (xs : List X) → AllByRecursion Fits xs → AllByRecursion NoComma (map spell xs)
all_map spell Fits each [] all = tt
all_map spell Fits each (x ∷ xs) all = (each x all.0, all_map spell Fits each xs all.1)

-- nor have two lists of fields
all_both : (xs ys : List (List ℕ)) → AllByRecursion NoComma xs → AllByRecursion NoComma ys → AllByRecursion NoComma (xs ++ ys)
all_both [] ys all more = more
all_both (x ∷ xs) ys all more = (all.0, all_both xs ys all.1 more)

-- a weaker fact of all
all_weaker : {X : Type 0} (P Q : X → Type 0) → ((x : X) → P x → Q x) → (xs : List X) → AllByRecursion P xs → AllByRecursion Q xs
all_weaker P Q each [] all = tt
all_weaker P Q each (x ∷ xs) all = (each x all.0, all_weaker P Q each xs all.1)

module _ (s : Said) (h : Sayable s) where
  -- no letter is a comma
  letter_plain : NoComma (s.kind ∷ [])
  letter_plain = ((λ is. let known = h.known in let y : ◌≡◌ {A = ℕ} 0 1 = grind (arith, nat_tests) in omega arith), tt)

  -- so no field has one
  fields_plain : AllByRecursion NoComma (later_fields s)
  fields_plain =
      all_both _ _ (all_map decimal Short decimal_plain _ (numbers_fit s h))
      (all_both _ _ (all_weaker _ _ (methods_plain (accounts s)) (method_fields s) (methods_all (method_count s.kind) (accounts s) s.methods (few s.kind).1 h.methodical))
      (all_both _ _ (all_map decimal Short decimal_plain _ (prices_fit s h)) (all_map spelled ShortSigned spelled_plain _ (points_fit s h))))

  -- an event's line says that event
  pub reads_back : (at : ℕ) → may_stand at s.kind ≡ true → parsed at (text s) ≡ Ok s
  unfolding text
  reads_back at may =
      parsed_meant at (text s) (s.kind ∷ []) (later_fields s) (ap split (body_so (sewn (fields_of s))) ∙ split_sewn (s.kind ∷ []) (later_fields s) letter_plain fields_plain) may (ends_so (sewn (fields_of s))) (fields_long s h)
      ∙ whole _ _ _ _ s.kind (later_fields s) s (sayable_parts s h)

-- what a line that is accepted consists of
one_letter : (f : List ℕ) → length f ≡ 1 → get_or f 0 0 ∷ [] ≡ f
one_letter [] long = absurd (omega arith)
one_letter (c ∷ []) long = refl
one_letter (c ∷ d ∷ cs) long = absurd (omega arith)

-- a test that leads to a good answer was true
cond_ok : (b : Bool) (r : Result Said ℕ) (bad : ℕ) (s : Said) → cond b r (Err bad) ≡ Ok s → (b ≡ true) × (r ≡ Ok s)
cond_ok true r bad s e = (refl, e)
cond_ok false r bad s e = absurd (let y : ◌≡◌ {A = ℕ} 0 1 = cc in omega arith)

-- what a letter that may stand somewhere is
stands_known : (at k : ℕ) → may_stand at k ≡ true → is_kind k ≡ true
stands_known at k may = grind (arith, nat_tests)

-- what is known of a line that says s
record Accepted (at : ℕ) (line : List ℕ) (s : Said) : Type 0 where
  sayable : Sayable s
  stands : may_stand at s.kind ≡ true
  written : text s ≡ line

module _ (at : ℕ) (line : List ℕ) (s : Said) where
  -- by the fields of the line
  by_fields : (gs : List (List ℕ)) → split (body line) ≡ gs → fields_say at (ended line) gs ≡ Ok s → Accepted at line s
  unfolding text
  by_fields [] cut e = absurd (let y : ◌≡◌ {A = ℕ} 0 1 = cc in omega arith)
  by_fields (f ∷ fs) cut e =
      let letter = cond_ok _ _ 1 s e in
      let counted = cond_ok _ _ 0 s letter.1 in
      let one = and_parts _ _ letter.0 in
      let whole_line = and_parts _ _ counted.0 in
      let long = eqb-true _ _ whole_line.1 in
      let found = parts _ _ _ _ (get_or f 0 0) fs s counted.1 in
      let fields = parts_fields (get_or f 0 0) fs long s found in
      record {
        sayable = parts_sayable (get_or f 0 0) fs long s found (stands_known at (get_or f 0 0) one.1);
        stands = subst (λ t. may_stand at t.kind ≡ true) found.all one.1;
        written =
            ap (λ gs. sewn gs ++ line_feed ∷ []) (fields ∙ ap (λ g. g ∷ fs) (one_letter f (eqb-true _ 1 one.0)) ∙ sym cut)
            ∙ ap (λ t. t ++ line_feed ∷ []) (sewn_split (body line)) ∙ ended_so line whole_line.0;
      }

  -- by the line
  accepted_line : parsed at line ≡ Ok s → Accepted at line s
  unfolding parsed
  accepted_line e = by_fields (split (body line)) refl e

-- what a reader's answer tells of the line
pub record Promised (at : ℕ) (line : List ℕ) (r : Result (Unit {0}) Refusal) (new : Said) : Type 0 where
  pub written : r ≡ Ok tt → text new ≡ line
  pub only : r ≡ Ok tt → InFormat at line
  pub all : InFormat at line → r ≡ Ok tt

-- a reader that does as its contract says tells so
pub tells_format : (at : ℕ) (line : List ℕ) (r : Result (Unit {0}) Refusal) (old new : Said) → Reading (parsed at line) r old new → Promised at line r new
tells_format at line r old new h = record {
  written = λ ok. (accepted ok).written;
  only = λ ok. (new, (accepted ok).sayable, (accepted ok).stands, (accepted ok).written);
  all = λ f. h.answers ∙ ap answer (ap (parsed at) (sym f.3) ∙ reads_back f.0 f.1 at f.2);
}
  where
    -- by what the line says
    by : (p : Result Said ℕ) → parsed at line ≡ p → answer p ≡ Ok tt → Accepted at line (kept p old)
    by (Ok s) is good = accepted_line at line s is
    by (Err bad) is good = absurd (let y : ◌≡◌ {A = ℕ} 0 1 = cc in omega arith)

    accepted : r ≡ Ok tt → Accepted at line new
    accepted ok = subst (Accepted at line) (sym h.keeps) (by (parsed at line) refl (sym h.answers ∙ ok))

-- what a writer has left is read as the event
pub front_back : (e : Event) (out old : List ℕ) (r : ℕ) → r ≡ length (text (said e)) → out ≡ text (said e) ++ drop r old → (at : ℕ) → may_stand at e.kind ≡ true → parsed at (take r out) ≡ Ok (said e)
front_back e out old r long is at may =
    ap (parsed at) (ap (take r) is ∙ take_at (text (said e)) (drop r old) r (sym long)) ∙ reads_back (said e) (event_sayable e) at may
