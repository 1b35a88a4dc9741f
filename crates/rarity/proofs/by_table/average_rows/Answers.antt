use Rattle.std.proofs.Common.{ap, set}
use Rattle.store.proofs.Rows.{length_rows}
use Rattle.rarity.proofs.Same.{counters_there, score_there}
use Rattle.rarity.proofs.Turns.{float_zero, score_taking, score_zero, scores_end}
use Rattle.rarity.proofs.by_table.average_rows.Goals as goal
use Rattle.rarity.proofs.by_table.average_rows.Goals.{then-rows-r, else-rows-r}

pub average_row-requires-clause-counters : goal.average_row-requires-clause-counters
average_row-requires-clause-counters c =
    counters_there c.args.rows c.loop-r-test.true c.if-rows-r.true c.row.ensures.value c.row.ensures.marks c.requires.exact c.requires.counted

pub loop-r-preserved : goal.loop-r-preserved
loop-r-preserved c =
    let t = c.args.rows in
    let h = c.loop-r.invariant.written in
    let l = c.loop-r-test.true in
    record {
      written =
          elim c.if-rows-r.branch [
            | then-rows-r w ↦
                let flag = w.if-rows-r.true in
                let score = score_there t l flag w.row.ensures.value w.row.ensures.marks c.requires.exact c.requires.counted _ w.average_row.ensures.value in
                score_taking t.a_flag_each (length_rows _ _ _ _ _) h l flag score (ap (set _ _) w.scores-is)
            | else-rows-r w ↦ score_zero t.a_flag_each (length_rows _ _ _ _ _) h l w.if-rows-r.false float_zero (ap (set _ _) w.scores-is)
          ];
    }

pub returns : goal.returns
returns c = scores_end c.args.rows.a_flag_each (length_rows _ _ _ _ _) c.loop-r.invariant.written c.loop-r-test.false
