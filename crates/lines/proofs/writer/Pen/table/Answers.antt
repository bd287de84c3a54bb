use Rattle.std.proofs.Common.{◌+◌, ◌≤◌, ◌∷◌, length, sym, ◌∙◌, arith}
use Rattle.lines.specs.Letters.{comma}
use Rattle.lines.proofs.Writings.{wrote_long, wrote_then, wrote_same, joined_next, joined_room}
use Rattle.lines.proofs.writer.Pen.table.Given as given
use Rattle.lines.proofs.writer.Pen.table.Goals as goal
use Rattle.lines.proofs.writer.Pen.table.Goals.{After-figure-item}

-- the next figure finds room
next : (g : given.Over) (c : After-figure-item g) → c.loop-figure.self.at + (length (g.T.Figure.spelled c.figure-item.result) + 1) ≤ length c.loop-figure.self.out.now
next g c =
    let more = joined_room (λ x. comma ∷ g.T.Figure.spelled x) c.args.table.now c.loop-figure.figure-index _ c.loop-figure-test.true c.figure-item.is in
    omega (arith, c.loop-figure.invariant.wrote.ends, wrote_long c.loop-figure.invariant.wrote (omega (arith, c.requires.room)), c.requires.room)

pub byte-requires : goal.byte-requires
byte-requires g c = record { room = omega (arith, next g (goal.at.byte-requires g c).After-figure-item) }

pub put-requires-clause-room : goal.put-requires-clause-room
put-requires-clause-room g c =
    let room = next g (goal.at.put-requires-clause-room g c).After-figure-item in
    omega (arith, c.byte.ensures.wrote.ends, wrote_long c.byte.ensures.wrote (omega arith))

pub loop-figure-preserved : goal.loop-figure-preserved
loop-figure-preserved g c =
    let more = joined_room (λ x. comma ∷ g.T.Figure.spelled x) c.args.table.now c.loop-figure.figure-index _ c.loop-figure-test.true c.figure-item.is in
    let room = next g (goal.at.loop-figure-preserved g c).After-figure-item in
    record {
      same_bytes = c.put.ensures.same_bytes ∙ c.byte.ensures.same_bytes ∙ c.loop-figure.invariant.same_bytes;
      wrote =
          wrote_same (sym (joined_next (λ x. comma ∷ g.T.Figure.spelled x) c.args.table.now c.loop-figure.figure-index _ c.loop-figure-test.true c.figure-item.is))
          (wrote_then c.loop-figure.invariant.wrote (omega (arith, c.requires.room)) (wrote_then c.byte.ensures.wrote (omega arith) c.put.ensures.wrote));
    }
