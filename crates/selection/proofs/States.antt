-- The selection by numbers is the selection of states: what the search's round needs.
use Rattle.std.proofs.Common.{Bool, true, false, List, [], ◌∷◌, map, ◌≡◌, refl, sym, ap, ◌∙◌, ℕ, suc, ◌+◌, arith}
use Rattle.rows.specs.Rows.{Row}
use Rattle.store.specs.Store.{nth_row}
use Rattle.counting.specs.Counters.{taking}
use Rattle.means.specs.declared.MeanType.{MeanType}
use Rattle.rarity.specs.Scores.{score, scores_among, flagged_scores}
use Rattle.rounds.specs.Rounds.{Ranked, state_of, ranked_among, lower}
use Rattle.rounds.specs.Selection.{Chosen, rarest}
use Rattle.rounds.proofs.Choosing.{rarest_map}
use Rattle.selection.specs.declared.order.ScoredRow.{ScoredRow}
use Rattle.selection.specs.Selecting.{candidates, lower_score, number_of, kept_numbers, kept_rows}

-- a numbered row with its score is a state with its rank
abbrev ranked : List Row → ScoredRow → Ranked
ranked rows x = record { state = nth_row rows x.row; rank = x.score }

ranked_states : (all : List Row) (l : List ScoredRow) → map state_of (map (ranked all) l) ≡ map (nth_row all) (map number_of l)
ranked_states all [] = refl
ranked_states all (x ∷ l) = ap (λ (z : List Row). nth_row all x.row ∷ z) (ranked_states all l)

module _ (m : MeanType) (among all : List Row) where
  -- `rows` are those of `all` from row i on
  abbrev From : ℕ → List Row → Type 0
  From i rows = (j : ℕ) → nth_row all (i + j) ≡ nth_row rows j

  further : (i : ℕ) (r : Row) (rows : List Row) → From i (r ∷ rows) → From (suc i) rows
  further i r rows same j =
      let e : suc i + j ≡ i + suc j = omega arith in
      ap (λ (k : ℕ). nth_row all k) e ∙ same (suc j)

  ranked_candidates : (i : ℕ) (flags : List Bool) (rows : List Row) → From i rows
      → map (ranked all) (candidates i (scores_among m among flags rows) flags) ≡ map (ranked_among m among) (taking flags rows)
  unfolding candidates scores_among taking
  ranked_candidates i [] rows same = refl
  ranked_candidates i (f ∷ flags) [] same = refl
  ranked_candidates i (true ∷ flags) (r ∷ rows) same =
      let i0 : i ≡ i + 0 = omega arith in
      let rest = map (ranked all) (candidates (suc i) (scores_among m among flags rows) flags) in
      ap (λ (z : Row). record { state = z; rank = score m among r } ∷ rest) (ap (λ (k : ℕ). nth_row all k) i0 ∙ same 0)
      ∙ ap (λ (z : List Ranked). ranked_among m among r ∷ z) (ranked_candidates (suc i) flags rows (further i r rows same))
  ranked_candidates i (false ∷ flags) (r ∷ rows) same = ranked_candidates (suc i) flags rows (further i r rows same)

module _ (m : MeanType) (k : ℕ) (flags : List Bool) (rows : List Row) where
  abbrev running : List Row
  running = taking flags rows

  pub kept_states : kept_rows k (flagged_scores m flags rows) flags rows ≡ map state_of (rarest lower k (map (ranked_among m running) running)).kept
  unfolding kept_numbers
  kept_states =
      let c = candidates 0 (flagged_scores m flags rows) flags in
      let from-0 : From m running rows 0 rows = λ j. ap (λ (i : ℕ). nth_row rows i) (omega arith) in
      sym
      (ap (λ (l : List Ranked). map state_of (rarest lower k l).kept) (sym (ranked_candidates m running rows 0 flags rows from-0))
      ∙ ap (λ (z : Chosen Ranked). map state_of z.kept) (rarest_map (ranked rows) lower k c)
      ∙ ranked_states rows (rarest lower_score k c).kept)
