-- A stepping stone between contracts: the counters of one row among those that take part, and its score.
use Rattle.std.specs.Prelude.{List, ℕ, Float}
use Rattle.store.specs.Store.{nth_row}
use Rattle.store.specs.Lent.{rows_seen}
use Rattle.means.specs.declared.MeanType.{MeanType}
use Rattle.counting.specs.Counters.{counters_of}
use Rattle.counting.specs.Lent.{rows_taking}
use Rattle.counting.specs.declared.taking.Taking.{Taking}
use Rattle.rarity.specs.Scores.{score}

-- the counters of row r among the rows that take part
abbrev pub row_counters : Taking → ℕ → List ℕ
row_counters t r = counters_of (rows_taking t) (nth_row (rows_seen t.store) r)

-- its score among them
abbrev pub row_score : MeanType → Taking → ℕ → Float
row_score m t r = score m (rows_taking t) (nth_row (rows_seen t.store) r)
