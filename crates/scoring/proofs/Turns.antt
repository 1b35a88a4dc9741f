-- One turn of each loop of this crate, and what score_store computes.
use Rattle.std.proofs.Common.{◌≡◌, sym, ap, ◌∙◌, Bool, true, false, ◌&&◌, List, [], ℕ, ◌+◌, ◌-◌, ◌≤◌, ◌<◌, add-one, arith, Float, length, take, drop, replicate, drop_of_length-le, drop-cons, Ok, Err}
use Rattle.laws.proofs.Fronts.{front_alike}
use Rattle.rows.specs.Limits.{most_rows}
use Rattle.rows.specs.Rows.{Row, row}
use Rattle.rows.specs.Valid.{valid_row}
use Rattle.store.specs.declared.layout.Layout.{Layout}
use Rattle.store.specs.Store.{Fit, rows_of, nth_row}
use Rattle.store.proofs.Rows.{length_rows}
use Rattle.counting.specs.Counters.{taking}
use Rattle.tables.specs.Tables.{increments}
use Rattle.means.specs.declared.MeanType.{MeanType}
use Rattle.rarity.specs.Scores.{scores_of, flagged_scores, are_ordered}
use Rattle.rarity.proofs.Among.{taking_all, all_taking}
use Rattle.scoring.specs.Entry.{all_valid, ordered_answer}
use Rattle.scoring.specs.declared.ScoringError.TheVariants.{ScoresUnordered}

-- the rows from r on are valid just where row r is and those after it
module _ {s : Layout} {words marks : List ℕ} (f : Fit s words marks) (r : ℕ) (h : r < s.rows) {x : Row}
    (o : x ≡ nth_row (rows_of s words marks) r) {t : Bool} (d : t ≡ valid_row x) where
  valid_turn : all_valid (drop r (rows_of s words marks)) ≡ t && all_valid (drop (r + 1) (rows_of s words marks))
  unfolding all_valid
  valid_turn =
      let l : r < length (rows_of s words marks) = omega (arith, length_rows s.rows s.words s.marks words marks) in
      rw (drop-cons (rows_of s words marks) r (row [] []) l, add-one, d, o)

  pub valid_passed : t ≡ true → all_valid (drop (r + 1) (rows_of s words marks)) ≡ all_valid (drop r (rows_of s words marks))
  valid_passed e = sym (valid_turn ∙ rw e)

  pub valid_failed : t ≡ false → false ≡ all_valid (drop r (rows_of s words marks))
  valid_failed e = sym (valid_turn ∙ rw e)

pub valid_all : (s : Layout) (words marks : List ℕ) (r : ℕ) → s.rows ≤ r → true ≡ all_valid (drop r (rows_of s words marks))
unfolding all_valid
valid_all s words marks r h =
    let l : length (rows_of s words marks) ≤ r = omega (arith, length_rows s.rows s.words s.marks words marks) in
    rw (drop_of_length-le (rows_of s words marks) l)

-- with the first of 4096 flags, all of them set, all rows are scored
pub all_scored : (m : MeanType) (s : Layout) (words marks : List ℕ) → s.rows ≤ most_rows
    → flagged_scores m (take (s.rows - 0) (drop 0 (replicate 4096 true))) (rows_of s words marks) ≡ scores_of m (rows_of s words marks)
all_scored m s words marks h =
    ap (λ (z : List Bool). flagged_scores m z (rows_of s words marks)) (front_alike s.rows 4096 true h)
    ∙ all_taking m (rows_of s words marks) s.rows (length_rows s.rows s.words s.marks words marks)

-- and all are counted
pub all_counted : (s : Layout) (words marks : List ℕ) → s.rows ≤ most_rows
    → increments (taking (take (s.rows - 0) (drop 0 (replicate 4096 true))) (rows_of s words marks)) ≡ increments (rows_of s words marks)
all_counted s words marks h =
    let rows = rows_of s words marks in
    ap (λ (flags : List Bool). increments (taking flags rows)) (front_alike s.rows 4096 true h)
    ∙ ap increments (taking_all rows s.rows (length_rows s.rows s.words s.marks words marks))

-- what is answered of the scores in a part
module _ {t : Bool} {part scores : List Float} (d : t ≡ are_ordered part) (e : part ≡ scores) where
  pub ordered : t ≡ true → Ok tt ≡ ordered_answer (are_ordered scores)
  ordered h = rw (← e, ← d, h)

  pub unordered : t ≡ false → Err ScoresUnordered ≡ ordered_answer (are_ordered scores)
  unordered h = rw (← e, ← d, h)
