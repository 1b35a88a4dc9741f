-- A stepping stone between contracts: what the search for the lowest row computes, row by row.
use Rattle.std.specs.Prelude.{Bool, cond, List, [], ◌∷◌, Option, Some, None}
use Rattle.selection.specs.declared.order.ScoredRow.{ScoredRow}
use Rattle.selection.specs.Selecting.{lower_score}

-- b where the two are equal
unfoldable pub lower_of : ScoredRow → ScoredRow → ScoredRow
lower_of b x = cond (lower_score x b) x b

-- the lowest so far, with a row more
abbrev pub lowest_of : Option ScoredRow → ScoredRow → Option ScoredRow
lowest_of None x = Some x
lowest_of (Some b) x = Some (lower_of b x)

-- a row counts where its flag is set
abbrev pub considered : Bool → Option ScoredRow → ScoredRow → Option ScoredRow
considered flag b x = cond flag (lowest_of b x) b

-- with all rows of a list more
unfoldable pub lowest_in : Option ScoredRow → List ScoredRow → Option ScoredRow
lowest_in b [] = b
lowest_in b (x ∷ xs) = lowest_in (lowest_of b x) xs
