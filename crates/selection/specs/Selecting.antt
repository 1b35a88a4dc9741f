-- A stepping stone between contracts: the selection as the code makes it, on the numbers of the rows and then on the rows.
-- `kept_states` in proofs/States shows it to be that of the rounds.
use Rattle.std.specs.Prelude.{Bool, cond, List, [], ◌∷◌, map, ℕ, suc, Float}
use Rattle.std.specs.Float.Ieee.{lt}
use Rattle.rows.specs.Rows.{Row}
use Rattle.store.specs.Store.{nth_row}
use Rattle.rounds.specs.Selection.{rarest}
use Rattle.selection.specs.declared.order.ScoredRow.{ScoredRow}

-- the rows whose flag is set, numbered from i on
unfoldable pub candidates : ℕ → List Float → List Bool → List ScoredRow
candidates i [] flags = []
candidates i (s ∷ scores) [] = []
candidates i (s ∷ scores) (f ∷ flags) = cond f (record { row = i; score = s } ∷ candidates (suc i) scores flags) (candidates (suc i) scores flags)

-- whether the first has the lower score
abbrev pub lower_score : ScoredRow → ScoredRow → Bool
lower_score x y = lt x.score y.score

-- the number of a row
abbrev pub number_of : ScoredRow → ℕ
number_of x = x.row

-- the numbers of the rows that are kept, in order
unfoldable pub kept_numbers : ℕ → List Float → List Bool → List ℕ
kept_numbers k scores flags = map number_of (rarest lower_score k (candidates 0 scores flags)).kept

-- and the rows
abbrev pub kept_rows : ℕ → List Float → List Bool → List Row → List Row
kept_rows k scores flags rows = map (nth_row rows) (kept_numbers k scores flags)
