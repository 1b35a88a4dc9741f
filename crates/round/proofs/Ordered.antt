-- The test for 31 on the scores of all rows is that on the scores of the running ones: the 0 of the other rows can be ordered.
use Rattle.std.proofs.Common.{Bool, true, false, ◌&&◌, List, [], ◌∷◌, map, ◌≡◌, refl, ap}
use Rattle.std.specs.Float.Ieee.{le, of_int}
use Rattle.rows.specs.Rows.{Row}
use Rattle.means.specs.Means.{whole}
use Rattle.means.specs.declared.MeanType.{MeanType}
use Rattle.counting.specs.Counters.{taking}
use Rattle.rarity.specs.Scores.{score, scores_of, scores_among, flagged_scores, are_ordered}

zero_ordered : le (whole 0) (whole 0) ≡ true
unfolding le of_int
zero_ordered = refl

module _ (m : MeanType) where
  among_ordered : (all : List Row) (flags : List Bool) (rows : List Row)
      → are_ordered (scores_among m all flags rows) ≡ are_ordered (map (score m all) (taking flags rows))
  unfolding are_ordered scores_among taking
  among_ordered all [] rows = refl
  among_ordered all (f ∷ fs) [] = refl
  among_ordered all (true ∷ fs) (r ∷ rows) = ap (λ (b : Bool). le (score m all r) (score m all r) && b) (among_ordered all fs rows)
  among_ordered all (false ∷ fs) (r ∷ rows) = rw zero_ordered (among_ordered all fs rows)

  pub flagged_ordered : (flags : List Bool) (rows : List Row) → are_ordered (flagged_scores m flags rows) ≡ are_ordered (scores_of m (taking flags rows))
  flagged_ordered flags rows = among_ordered (taking flags rows) flags rows
