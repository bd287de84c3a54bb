use Rattle.std.proofs.Common.{◌≡◌, ◌<◌, length, set, sym, ◌∙◌, arith, ap, rules}
use Rattle.std.proofs.lemmas.List.{length-set}
use Rattle.std.proofs.lemmas.List.Filters.{FiltersInPlace-more_set, FiltersInPlace-more_no}
use Rattle.records.proofs.list.gather.Goals as goal
use Rattle.records.proofs.list.gather.Goals.{then-keep, else-keep}

pub loop-place-preserved : goal.loop-place-preserved
loop-place-preserved g c =
    let i = c.loop-place.invariant in
    let below : c.loop-place.place < length c.loop-place.s = omega (arith, c.loop-place-test.true, i.same) in
    elim c.if-keep.branch [
      | then-keep w ↦
          let put : c.if-keep.s ≡ set c.loop-place.s c.loop-place.kept c.index-s-place.result = search rules in
          record {
            filtered = λ p h. rw (put, w.kept-is) (FiltersInPlace-more_set (i.filtered p h) below (sym (h c.index-s-place.result c.keep.result c.keep.ensures) ∙ w.if-keep.true) c.index-s-place.is);
            behind = omega (arith, w.kept-is, i.behind);
            same = ap length put ∙ (length-set c.loop-place.s c.loop-place.kept c.index-s-place.result ∙ i.same);
          }
      | else-keep w ↦ record {
        filtered = λ p h. rw (w.s-is, w.kept-is) (FiltersInPlace-more_no (i.filtered p h) below (sym (h c.index-s-place.result c.keep.result c.keep.ensures) ∙ w.if-keep.false) c.index-s-place.is);
        behind = omega (arith, w.kept-is, i.behind);
        same = ap length w.s-is ∙ i.same;
      }
    ]
