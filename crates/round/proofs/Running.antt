-- A round's runs, as the code has them: the round ends with what was found, or it goes on to the selection.
use Rattle.std.proofs.Common.{◌≡◌, refl, sym, ap, ◌∙◌, Bool, List, map, ℕ, length}
use Rattle.std.proofs.lemmas.List.{length-map}
use Rattle.rows.specs.Rows.{Row}
use Rattle.machine.specs.Runs.{Finished}
use Rattle.store.specs.declared.view.StoreMut.{StoreMut}
use Rattle.store.specs.Lent.{rows_lent}
use Rattle.store.proofs.Rows.{length_rows}
use Rattle.counting.specs.Counters.{taking}
use Rattle.answers.specs.declared.finding.Finding.{Finding}
use Rattle.answers.specs.declared.finding.Finding.TheVariants.{Nothing, Found, Failed, TapeShort, ScoresUnordered}
use Rattle.options.specs.declared.RaritySimulationOptions.{RaritySimulationOptions}
use Rattle.rounds.specs.declared.call.Ended.{Ended}
use Rattle.rounds.specs.Rounds.{After, ends, ends_or, selected, run_all, row_after, running_flag, still_running, outcome_of, used_after, ran_on}
use Rattle.rounds.proofs.Running.{run_all_length}
use Rattle.running.specs.Running.{all_ran}

-- the findings other than none end a round
ends_with : (f : Finding) (rows : List Row) (used : ℕ) (next : After) → (f ≡ Nothing → ⊥) → ends f rows used ≡ ends_or f rows used next
ends_with Nothing rows used next h = absurd (h refl)
ends_with (Found bug i pc) rows used next h = refl
ends_with (Failed error i pc) rows used next h = refl
ends_with TapeShort rows used next h = refl
ends_with ScoresUnordered rows used next h = refl

module _ (o : RaritySimulationOptions) (tape : List ℕ) (used : ℕ) (s : StoreMut) where
  abbrev runs : List Finished
  runs = run_all o.step_size tape used (rows_lent s)

  abbrev next : After
  next = selected o (map row_after runs) (used_after used runs) (still_running runs)

  pub flags_many : length (map running_flag runs) ≡ s.layout.rows
  flags_many =
      length-map runs running_flag
      ∙ run_all_length o.step_size tape used (rows_lent s)
      ∙ length_rows s.layout.rows s.layout.words s.layout.marks s.words.now s.marks.now

  module _ {all : Ended} (ran : all ≡ all_ran used runs) {rows : List Row} (after : rows ≡ map row_after runs) where
    pub ended : (all.finding ≡ Nothing → ⊥) → ends all.finding rows all.used ≡ (ran_on o tape used (rows_lent s)).after
    unfolding ran_on
    ended h =
        ends_with all.finding rows all.used next h
        ∙ ap (λ (a : Ended). ends_or a.finding rows a.used next) ran
        ∙ ap (λ (l : List Row). ends_or (outcome_of runs) l (used_after used runs) next) after

    pub selects : {flags : List Bool} {t : After} → flags ≡ map running_flag runs → all.finding ≡ Nothing
        → t ≡ selected o rows all.used (taking flags rows) → t ≡ (ran_on o tape used (rows_lent s)).after
    unfolding ran_on
    selects {flags} flagged nothing e =
        e
        ∙ ap (λ (l : List Bool). selected o rows all.used (taking l rows)) flagged
        ∙ ap (λ (l : List Row). selected o l all.used (taking (map running_flag runs) l)) after
        ∙ ap (λ (a : Ended). selected o (map row_after runs) a.used (taking (map running_flag runs) (map row_after runs))) ran
        ∙ ap (λ (f : Finding). ends_or f (map row_after runs) (used_after used runs) next) (sym nothing ∙ ap (λ (a : Ended). a.finding) ran)
