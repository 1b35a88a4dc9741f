-- The rows that take part, at most all rows, and where all flags are set just these; and the scores of rows among them.
use Rattle.std.proofs.Common.{◌≡◌, refl, ap, ◌∙◌, Bool, true, false, cond, List, [], ◌∷◌, map, ℕ, zero, suc, ◌<◌, le_of_suc-le-suc, not-suc-le-zero, arith, Float, length, get_or, replicate}
use lib.Ieee.{nan}
use Rattle.rows.specs.Rows.{Row}
use Rattle.store.specs.Store.{nth_row}
use Rattle.means.specs.declared.MeanType.{MeanType}
use Rattle.means.specs.Means.{whole}
use Rattle.counting.specs.Counters.{taking}
use Rattle.rarity.specs.Scores.{score, scores_of, scores_among, flagged_scores}

pub taking_all : (rows : List Row) (n : ℕ) → length rows ≡ n → taking (replicate n true) rows ≡ rows
unfolding taking
taking_all [] zero e = refl
taking_all [] (suc n) e = refl
taking_all (r ∷ rows) zero e = absurd (omega (arith, e))
taking_all (r ∷ rows) (suc n) e = ap (λ (z : List Row). r ∷ z) (taking_all rows n (omega arith))

among_all : (m : MeanType) (all rows : List Row) (n : ℕ) → length rows ≡ n → scores_among m all (replicate n true) rows ≡ map (score m all) rows
unfolding scores_among
among_all m all [] zero e = refl
among_all m all [] (suc n) e = refl
among_all m all (r ∷ rows) zero e = absurd (omega (arith, e))
among_all m all (r ∷ rows) (suc n) e = ap (λ (z : List Float). score m all r ∷ z) (among_all m all rows n (omega arith))

pub all_taking : (m : MeanType) (rows : List Row) (n : ℕ) → length rows ≡ n → flagged_scores m (replicate n true) rows ≡ scores_of m rows
all_taking m rows n e = among_all m (taking (replicate n true) rows) rows n e ∙ ap (λ (z : List Row). map (score m z) rows) (taking_all rows n e)

-- the scores of the rows that take part, 0 for the others
pub score_at : (m : MeanType) (all : List Row) (flags : List Bool) (rows : List Row) (r : ℕ) → r < length flags → r < length rows
    → get_or (scores_among m all flags rows) r nan ≡ cond (get_or flags r false) (score m all (nth_row rows r)) (whole 0)
unfolding scores_among
score_at m all [] rows r h g = absurd (not-suc-le-zero h)
score_at m all (f ∷ fs) [] r h g = absurd (not-suc-le-zero g)
score_at m all (f ∷ fs) (q ∷ rows) zero h g = refl
score_at m all (f ∷ fs) (q ∷ rows) (suc r) h g = score_at m all fs rows r (le_of_suc-le-suc h) (le_of_suc-le-suc g)

pub scores_length : (m : MeanType) (all : List Row) (flags : List Bool) (rows : List Row) {n : ℕ} → length flags ≡ n → length rows ≡ n
    → length (scores_among m all flags rows) ≡ n
unfolding scores_among
scores_length m all [] rows a b = a
scores_length m all (f ∷ fs) [] a b = b
scores_length m all (f ∷ fs) (r ∷ rows) a b = ap suc (scores_length m all fs rows refl (omega arith)) ∙ a
