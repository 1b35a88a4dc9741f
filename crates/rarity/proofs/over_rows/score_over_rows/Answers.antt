use Rattle.std.proofs.Common.{ap, set}
use Rattle.store.proofs.Rows.{length_rows}
use Rattle.rarity.proofs.Turns.{float_zero, score_taking, score_zero, scores_end}
use Rattle.rarity.proofs.over_rows.score_over_rows.Goals as goal
use Rattle.rarity.proofs.over_rows.score_over_rows.Goals.{then-rows-r, else-rows-r}

pub loop-r-preserved : goal.loop-r-preserved
loop-r-preserved c =
    let a = c.args.rows.a_flag_each in
    let h = c.loop-r.invariant.written in
    let l = c.loop-r-test.true in
    record {
      written =
          elim c.if-rows-r.branch [
            | then-rows-r w ↦ score_taking a (length_rows _ _ _ _ _) h l w.if-rows-r.true w.score_row.ensures (ap (set _ _) w.scores-is)
            | else-rows-r w ↦ score_zero a (length_rows _ _ _ _ _) h l w.if-rows-r.false float_zero (ap (set _ _) w.scores-is)
          ];
    }

pub returns : goal.returns
returns c = scores_end c.args.rows.a_flag_each (length_rows _ _ _ _ _) c.loop-r.invariant.written c.loop-r-test.false
