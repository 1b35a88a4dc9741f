-- What a round keeps of the rows still running: each is kept or passed over, and none that is passed over is rarer than one that is kept.
use Rattle.std.proofs.Common.{Bool, true, false, cond, List, [], ◌∷◌, ◌++◌, map, ◌≡◌, refl, ap, ◌∙◌, ℕ, min, ◌≤◌, T, length}
use Rattle.std.proofs.lemmas.List.{map-append}
use mathlib.Core.List.{Memᴰ}
use Rattle.std.specs.Float.Ieee.Positive.{positive}
use Rattle.std.proofs.Math.ListN.{length-map}
use Rattle.store.specs.Store.{most_marks}
use Rattle.rows.specs.Limits.{most_rows}
use Rattle.rows.specs.Rows.{Row}
use Rattle.counting.specs.Counters.{counters_of}
use Rattle.means.specs.declared.MeanType.{MeanType}
use Rattle.means.specs.Means.{exact_mean, AtMost}
use Rattle.rarity.specs.Scores.{score, scores_of, are_ordered}
use Rattle.rarity.proofs.Bounds.{scored, scores_positive, scores_ordered, ruler_of}
use Rattle.answers.specs.declared.finding.Finding.{Finding}
use Rattle.answers.specs.declared.finding.Finding.TheVariants.{Nothing, Found, Failed, TapeShort, ScoresUnordered}
use Rattle.rounds.specs.Calls.{Call}
use Rattle.rounds.specs.Demand.{Permutation, All}
use Rattle.rounds.specs.Rounds.{Start, Ranked, state_of, ranked_among, lower, chosen_of, After, ends_or, selected}
use Rattle.rounds.specs.Series.{goes_on}
use Rattle.rounds.proofs.Choosing.{rarest_each_once, rarest_as_many, rarest_lowest}
use Rattle.rounds.proofs.Floats.{lt_irreflexive, lt_transitive, not_lt_le}
use Rattle.rounds.proofs.Lists.{permutation_map, all_permuted, all_left, all_right, all_mem, all_with, all_both, all_among, all_map}

-- ---- a round that goes on keeps what is chosen
either : {A : Type 0} {x y z : After} (b : Bool) → cond b x y ≡ z → (x ≡ z → A) → (y ≡ z → A) → A
either true e f g = f e
either false e f g = g e

goes_kept : (c : Call) (rows : List Row) (used : ℕ) (running : List Row) (next : Start) → selected c.options rows used running ≡ goes_on next
    → next.kept ≡ map state_of (chosen_of c.options running).kept
unfolding selected
goes_kept c rows used running next e = either (are_ordered (scores_of c.options.mean running)) e (λ p. cc) (λ p. cc)

pub round_kept : (c : Call) (f : Finding) (rows : List Row) (used : ℕ) (running : List Row) (next : Start)
    → ends_or f rows used (selected c.options rows used running) ≡ goes_on next → next.kept ≡ map state_of (chosen_of c.options running).kept
round_kept c Nothing rows used running next e = goes_kept c rows used running next e
round_kept c (Found bug i pc) rows used running next e = cc
round_kept c (Failed error i pc) rows used running next e = cc
round_kept c TapeShort rows used running next e = cc
round_kept c ScoresUnordered rows used running next e = cc

-- ---- the rows of a choice
states : (m : MeanType) (all rows : List Row) → map state_of (map (ranked_among m all) rows) ≡ rows
states m all [] = refl
states m all (r ∷ rows) = ap (λ (l : List Row). r ∷ l) (states m all rows)

module _ (c : Call) (rows : List Row) where
  abbrev ranked : List Ranked
  ranked = map (ranked_among c.options.mean rows) rows

  once : Permutation ((chosen_of c.options rows).kept ++ (chosen_of c.options rows).passed) ranked
  unfolding chosen_of
  once = rarest_each_once lower _ ranked

  pub each_once : Permutation (map state_of (chosen_of c.options rows).kept ++ map state_of (chosen_of c.options rows).passed) rows
  each_once = rw (states c.options.mean rows rows, map-append) at (permutation_map state_of once)

  pub as_many : length (map state_of (chosen_of c.options rows).kept) ≡ min c.options.selection (length rows)
  unfolding chosen_of
  as_many =
      length-map (chosen_of c.options rows).kept state_of
      ∙ rarest_as_many lower _ ranked
      ∙ ap (min _) (length-map rows (ranked_among c.options.mean rows))

-- few rows of few marks: their scores are above zero and a ruler for the exact means
module _ (c : Call) (rows : List Row) (few : length rows ≤ most_rows) (short : All (λ r. length r.marks ≤ most_marks) rows) where
  abbrev m : MeanType
  m = c.options.mean

  -- one of the rows, with its score
  record Scored (x : Ranked) : Type 0 where
    among : Memᴰ x.state rows
    small : length x.state.marks ≤ most_marks
    rank : x.rank ≡ score m rows x.state

  above : (x : Ranked) → Scored x → T (positive x.rank)
  above x h = rw h.rank (scores_positive rows few m h.among h.small)

  all_scored : All Scored (ranked c rows)
  all_scored =
      all_map (ranked_among m rows) (all_with (λ r h. record { among = h.0; small = h.1; rank = refl }) (all_both (all_among rows) short))

  -- 31 is not given, so the round goes on with what is chosen
  pub follows_on : (left : List Row) (used : ℕ)
      → selected c.options left used rows ≡ goes_on (record { kept = map state_of (chosen_of c.options rows).kept; used = used })
  unfolding selected
  follows_on left used = rw (scores_ordered m rows few (λ r i. all_mem i short))

  -- no exact mean has a zero denominator
  pub all_exact : All (λ r. 1 ≤ (exact_mean m (counters_of rows r)).denominator) rows
  all_exact = all_with (λ r h. (scored rows few m h.0 h.1).exact) (all_both (all_among rows) short)

  abbrev Rarer : Row → Row → Type 0
  Rarer q r = AtMost (exact_mean m (counters_of rows q)) (exact_mean m (counters_of rows r))

  rarer : (x y : Ranked) → Scored x → Scored y → lower y x ≡ false → Rarer x.state y.state
  rarer x y h k e =
      ruler_of rows few m h.among k.among h.small k.small
      (rw (← h.rank, ← k.rank) (not_lt_le x.rank y.rank (above x h) (above y k) e))

  lowest : All (λ x. All (λ y. lower y x ≡ false) (chosen_of c.options rows).passed) (chosen_of c.options rows).kept
  unfolding chosen_of
  lowest =
      rarest_lowest lower Scored
      (λ x h. lt_irreflexive x.rank (above x h))
      (λ x y z h k l. lt_transitive x.rank y.rank z.rank (above x h) (above y k) (above z l))
      _ (ranked c rows) all_scored

  pub rarest_kept : All (λ q. All (Rarer q) (map state_of (chosen_of c.options rows).passed)) (map state_of (chosen_of c.options rows).kept)
  rarest_kept =
      let kept = (chosen_of c.options rows).kept in
      let passed = (chosen_of c.options rows).passed in
      let scored = all_permuted (once c rows) all_scored in
      all_map state_of
      (all_with (λ x h. all_map state_of (all_with (λ y k. rarer x y h.0 k.0 k.1) (all_both (all_right kept scored) h.1)))
      (all_both (all_left kept passed scored) lowest))
