use Rattle.rows.specs.Limits.{most_rows}
use Rattle.store.specs.Lent.{rows_seen}
use Rattle.tables.proofs.Stores.{taking_inside}
use Rattle.rarity.proofs.Same.{no_gaps, zero_again, long_there}
use Rattle.rarity.proofs.by_table.score_by_table.Goals as goal

pub count_rows-increments-requires-clause-gaps : goal.count_rows-increments-requires-clause-gaps
count_rows-increments-requires-clause-gaps c = no_gaps (rows_seen c.args.rows.store) most_rows

pub uncount_rows-requires-clause-inside : goal.uncount_rows-requires-clause-inside
uncount_rows-requires-clause-inside c =
    rw (long_there c.args.rows c.requires.table c.count_rows-increments.ensures.table) (taking_inside c.args.rows)

pub returns-clause-same_table : goal.returns-clause-same_table
returns-clause-same_table c = zero_again c.args.rows c.requires.table c.count_rows-increments.ensures.table c.uncount_rows.ensures
