-- Keeping the rarest, as the code does it, is the definition's selection.
use Rattle.std.proofs.Common.{Bool, true, false, List, ◌≡◌, sym, ap, ◌∙◌, subst, ℕ, ◌≤◌, arith, Float, length, take}
use Rattle.std.proofs.Math.ListN.{length-map}
use Rattle.rows.specs.Rows.{Row}
use Rattle.store.specs.declared.layout.Layout.{Layout}
use Rattle.store.specs.declared.view.StoreMut.{StoreMut}
use Rattle.store.specs.Store.{nth_row}
use Rattle.store.specs.Lent.{rows_lent, SameStore}
use Rattle.store.proofs.Rows.{length_rows}
use Rattle.counting.specs.Counters.{taking}
use Rattle.rarity.specs.Scores.{flagged_scores, are_ordered}
use Rattle.rarity.proofs.Among.{scores_length}
use Rattle.answers.specs.declared.finding.Finding.TheVariants.{ScoresUnordered}
use Rattle.options.specs.declared.RaritySimulationOptions.{RaritySimulationOptions}
use Rattle.rounds.specs.Handed.{Holding}
use Rattle.rounds.specs.Rounds.{stored, chosen_of, ends, selected}
use Rattle.rounds.specs.Series.{goes_on}
use Rattle.rounds.specs.Selection.{rarest}
use Rattle.rounds.proofs.Choosing.{rarest_as_many}
use Rattle.filling.proofs.Fronts.{Front, front_taken, front_holds}
use Rattle.selection.specs.Selecting.{candidates, lower_score, number_of, kept_numbers, kept_rows}
use Rattle.selection.proofs.Finding.{candidates_few}
use Rattle.selection.proofs.States.{kept_states}
use Rattle.round.proofs.Ordered.{flagged_ordered}

-- the numbers kept are not more than the scores
numbers_few : (k : ℕ) (scores : List Float) (flags : List Bool) → length (kept_numbers k scores flags) ≤ length scores
unfolding kept_numbers
numbers_few k scores flags =
    let all = candidates 0 scores flags in
    omega (arith, length-map (rarest lower_score k all).kept number_of, rarest_as_many lower_score k all, candidates_few 0 scores flags)

module _ (o : RaritySimulationOptions) (s : StoreMut) (flags : List Bool) (used : ℕ) where
  abbrev rows : List Row
  rows = rows_lent s

  abbrev scores : List Float
  scores = flagged_scores o.mean flags rows

  module _ (each : length flags ≡ s.layout.rows) where
    pub scores_many : length scores ≡ s.layout.rows
    scores_many =
        scores_length o.mean (taking flags rows) flags rows each
        (length_rows s.layout.rows s.layout.words s.layout.marks s.words.now s.marks.now)

    module _ {found : List Float} (same : found ≡ scores) where
      test_same : are_ordered found ≡ are_ordered scores
      test_same = ap are_ordered same

      pub unordered : are_ordered found ≡ false → ends ScoresUnordered rows used ≡ selected o rows used (taking flags rows)
      unfolding selected
      unordered e = rw (sym (flagged_ordered o.mean flags rows) ∙ sym test_same ∙ e)

      module _ {kept : ℕ} (t : StoreMut) (still : SameStore s t) (many : kept ≡ length (kept_numbers o.selection found flags))
          (moved : rows_lent t ≡ stored s.layout (kept_rows o.selection found flags rows)) where
        abbrev front : List Row
        front = kept_rows o.selection scores flags rows

        front_many : length front ≡ kept
        front_many =
            length-map (kept_numbers o.selection scores flags) (nth_row rows)
            ∙ sym (many ∙ ap (λ (l : List Float). length (kept_numbers o.selection l flags)) same)

        in_front : Front t.layout front (rows_lent t)
        in_front =
            subst (λ (l : Layout). Front l front (rows_lent t)) (sym still.same_layout)
            (record {
              few =
                  omega (arith, length-map (kept_numbers o.selection scores flags) (nth_row rows), numbers_few o.selection scores flags, scores_many);
              rows = moved ∙ ap (λ (l : List Float). stored s.layout (kept_rows o.selection l flags rows)) same;
            })

        pub holds : Holding t kept
        holds = front_holds kept front_many in_front

        pub follows_on : are_ordered found ≡ true
            → goes_on (record { kept = take kept (rows_lent t); used = used }) ≡ selected o rows used (taking flags rows)
        unfolding selected chosen_of
        follows_on e =
            rw (sym (flagged_ordered o.mean flags rows) ∙ sym test_same ∙ e)
            (ap (λ (l : List Row). goes_on (record { kept = l; used = used }))
            (front_taken kept front_many in_front ∙ kept_states o.mean o.selection flags rows))
