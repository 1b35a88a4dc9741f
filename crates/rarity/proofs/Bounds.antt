-- The bound of document 01 for the scores of states: whatever the rows, the score of one of them is near its exact mean.
use Rattle.std.proofs.Common.{List, [], ◌∷◌, map, ◌≡◌, refl, Bool, true, false, ℕ, ◌*◌, ◌≤◌, le_refl, arith, T, Float, length}
use mathlib.Core.List.{Memᴰ}
use lib.Ieee.{le}
use lib.Ieee.Positive.{num, den, positive, cross→le}
use Rattle.std.proofs.Math.ListN.{length-map}
use Rattle.rows.specs.Rows.{Row}
use Rattle.rows.specs.Limits.{most_rows}
use Rattle.store.specs.Store.{most_marks}
use Rattle.means.specs.declared.MeanType.{MeanType}
use Rattle.means.specs.Means.{Counters, Scores, AtMost, exact_mean}
use Rattle.means.proofs.Bound.{bounded}
use Rattle.means.proofs.Ruler.{ruler}
use Rattle.counting.specs.Cells.{addresses_of}
use Rattle.counting.specs.Counters.{highest_counter, counter_in, counters_of}
use Rattle.counting.proofs.Bounds.{addresses_length, counter_least, counter_most}
use Rattle.rarity.specs.Scores.{score, scores_of, are_ordered}

map_counters : (f : ℕ → ℕ) (xs : List ℕ) → ((x : ℕ) → Memᴰ x xs → 1 ≤ f x) → ((x : ℕ) → f x ≤ highest_counter) → Counters (map f xs)
map_counters f [] low high = tt
map_counters f (x ∷ xs) low high = (low x (Memᴰ.head refl), high x, map_counters f xs (λ y m. low y (Memᴰ.tail m)) high)

module _ (rows : List Row) (few : length rows ≤ most_rows) where
  pub own_counters : {r : Row} → Memᴰ r rows → Counters (counters_of rows r)
  unfolding counters_of
  own_counters {r} m =
      map_counters (counter_in rows) (addresses_of r) (λ a l. counter_least m l) (λ a. omega (arith, counter_most a rows))

  pub scored : (m : MeanType) {r : Row} → Memᴰ r rows → length r.marks ≤ most_marks → Scores (score m rows r) (exact_mean m (counters_of rows r))
  unfolding score counters_of
  scored m {r} i short =
      let n = addresses_length r in
      bounded m (counters_of rows r) (own_counters i) (rw length-map (omega arith)) (rw length-map (omega arith))

  pub scores_positive : (m : MeanType) {r : Row} → Memᴰ r rows → length r.marks ≤ most_marks → T (positive (score m rows r))
  scores_positive m i short = (scored m i short).finite

  pub ruler_of : (m : MeanType) {q r : Row} → Memᴰ q rows → Memᴰ r rows → length q.marks ≤ most_marks → length r.marks ≤ most_marks
      → T (le (score m rows q) (score m rows r)) → AtMost (exact_mean m (counters_of rows q)) (exact_mean m (counters_of rows r))
  ruler_of m {q} {r} i j a b order =
      ruler (score m rows q) (score m rows r) (exact_mean m (counters_of rows q)) (exact_mean m (counters_of rows r)) (scored m i a) (scored m j b) order

-- ---- scores above zero can be ordered
holds : (b : Bool) → T b → b ≡ true
holds true t = refl
holds false t = absurd t

above_ordered : (f : Row → Float) (rows : List Row) → ((r : Row) → Memᴰ r rows → T (positive (f r))) → are_ordered (map f rows) ≡ true
unfolding are_ordered
above_ordered f [] above = refl
above_ordered f (r ∷ rows) above =
    let x = f r in
    let p = above r (Memᴰ.head refl) in
    rw (holds (le x x) (cross→le x x p p (le_refl (num x * den x))), above_ordered f rows (λ q i. above q (Memᴰ.tail i)))

-- so 31 is not given
pub scores_ordered : (m : MeanType) (rows : List Row) → length rows ≤ most_rows → ((r : Row) → Memᴰ r rows → length r.marks ≤ most_marks)
    → are_ordered (scores_of m rows) ≡ true
scores_ordered m rows few short = above_ordered (score m rows) rows (λ r i. scores_positive rows few m i (short r i))
