-- The rarity of states among themselves ("Scoring" in document 01): the mean of a state's counters.
use Rattle.std.specs.Prelude.{Bool, true, cond, ◌&&◌, List, [], ◌∷◌, map, Float}
use Rattle.std.specs.Float.Ieee.{le}
use Rattle.rows.specs.Rows.{Row}
use Rattle.means.specs.Means.{mean, whole}
use Rattle.means.specs.declared.MeanType.{MeanType}
use Rattle.counting.specs.Counters.{counters_of, taking}

-- the score of one of the given states
unfoldable pub score : MeanType → List Row → Row → Float
score m rows r = mean m (counters_of rows r)

-- the scores of all of them
abbrev pub scores_of : MeanType → List Row → List Float
scores_of m rows = map (score m rows) rows

-- the scores of the rows whose flag is set, among all that take part; 0 stands for the others
unfoldable pub scores_among : MeanType → List Row → List Bool → List Row → List Float
scores_among m all [] rows = []
scores_among m all (f ∷ fs) [] = []
scores_among m all (f ∷ fs) (r ∷ rows) = cond f (score m all r) (whole 0) ∷ scores_among m all fs rows

-- the scores of the rows whose flag is set among themselves
abbrev pub flagged_scores : MeanType → List Bool → List Row → List Float
flagged_scores m flags rows = scores_among m (taking flags rows) flags rows

-- 31: a score that is not at most itself (NaN) cannot be ordered
unfoldable pub are_ordered : List Float → Bool
are_ordered [] = true
are_ordered (s ∷ ss) = le s s && are_ordered ss
