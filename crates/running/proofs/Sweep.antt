-- The loop over the rows: the runs that are made and those to come are all the runs, and what is stored is what the first have left.
use Rattle.std.proofs.Common.{Bool, ◌≡◌, refl, sym, ap, ◌∙◌, List, [], ◌∷◌, ◌++◌, map, append-nil, ℕ, suc, ◌+◌, ◌≤◌, ◌<◌, ◌^◌, add-zero, lt-suc_self, add-one, arith, length, set, take, drop, length-append, length-set, drop_of_length-le, take_all, take-suc-set, drop-cons, drop-set-lt, drop-drop, get_or-drop}
use Rattle.std.proofs.lemmas.List.{map-append}
use Rattle.std.proofs.Math.Seq.{append_snoc}
use Rattle.rows.specs.Rows.{Row, row, limit_of}
use Rattle.machine.specs.declared.run.Ran.{Ran}
use Rattle.machine.specs.Runs.{Finished}
use Rattle.store.specs.Store.{nth_row}
use Rattle.answers.specs.declared.finding.Finding.{Finding}
use Rattle.answers.specs.declared.finding.Finding.TheVariants.{Nothing}
use Rattle.rounds.specs.Rounds.{run_all, used_after, row_after, is_running, running_flag, first_bug, first_error, outcome_of}
use Rattle.rounds.specs.declared.call.Ended.{Ended}
use Rattle.running.specs.Running.{LimitsAllow, all_ran}
use Rattle.running.specs.RowRuns.{row_run, with_row_run}

-- one run more, f of which is stored
one_more : {A : Type 0} (f : Finished → A) (l : List A) (r : ℕ) (done : List Finished) (x : Finished) → r < length l → take r l ≡ map f done
    → take (suc r) (set l r (f x)) ≡ map f (done ++ (x ∷ []))
one_more {A} f l r done x h e =
    take-suc-set l r (f x) h ∙ ap (λ (z : List A). z ++ (f x ∷ [])) e ∙ sym (map-append f done (x ∷ []))

used_last : (used : ℕ) (done : List Finished) (x : Finished) → x.ran.used ≡ used_after used (done ++ (x ∷ []))
unfolding used_after
used_last used [] x = refl
used_last used (y ∷ done) x = used_last y.ran.used done x

-- the first of what is to come
first : (l : List Row) (r : ℕ) → nth_row (drop r l) 0 ≡ nth_row l r
first l r = get_or-drop r l 0 (row [] []) ∙ ap (λ (n : ℕ). nth_row l n) (add-zero r)

drop_next : (l m : List Row) (r : ℕ) → drop r l ≡ drop r m → drop (suc r) l ≡ drop (suc r) m
drop_next l m r e = sym (once l) ∙ ap (λ (k : List Row). drop 1 k) e ∙ once m
  where
    once : (k : List Row) → drop 1 (drop r k) ≡ drop (suc r) k
    once k = drop-drop 1 r k ∙ ap (λ (n : ℕ). drop n k) (add-one r)

-- the rows at entry, run from `start` on
module _ (step : ℕ) (tape : List ℕ) (start : ℕ) (rows : List Row) where
  abbrev runs : List Finished
  runs = run_all step tape start rows

  -- the runs of the rows from r on
  abbrev to_come : ℕ → ℕ → List Finished
  to_come used r = run_all step tape used (drop r rows)

  -- what holds when the first r rows are run
  pub record Swept (now : List Row) (running : List Bool) (best : Finding) (used r : ℕ) : Type 0 where
    pub all_rows : length now ≡ length rows
    pub all_flags : length running ≡ length rows
    pub untouched : drop r now ≡ drop r rows
    pub done : List Finished
    pub count : r ≡ length done
    pub all : done ++ to_come used r ≡ runs
    pub rows_done : take r now ≡ map row_after done
    pub flags_done : take r running ≡ map running_flag done
    pub finding : best ≡ outcome_of done
    pub used_done : used ≡ used_after start done

  pub none_run : (running : List Bool) → length running ≡ length rows → Swept rows running Nothing start 0
  unfolding used_after first_bug first_error
  none_run running e =
      record {
        all_rows = refl;
        all_flags = e;
        untouched = refl;
        done = [];
        count = refl;
        all = refl;
        rows_done = refl;
        flags_done = refl;
        finding = refl;
        used_done = refl;
      }

  module _ {now : List Row} {running : List Bool} {best : Finding} {used r : ℕ} (k : Swept now running best used r) where
    -- row r is as it was at entry
    same_row : nth_row now r ≡ nth_row rows r
    same_row = sym (first now r) ∙ ap (λ (l : List Row). nth_row l 0) k.untouched ∙ first rows r

    module _ (h : r < length rows) where
      pub allowed : LimitsAllow step rows → limit_of (nth_row now r) + step < 2 ^ 64
      allowed l = rw same_row (l r h)

      -- its run
      abbrev this : Finished
      this = row_run step tape used r now

      this_first : to_come used r ≡ this ∷ to_come this.ran.used (suc r)
      unfolding run_all
      this_first = rw (same_row, drop-cons rows r (row [] []) h)

      module _ {now' : List Row} {running' : List Bool} (e : now' ≡ with_row_run step tape used r now) where
        next : (best' : Finding) → running' ≡ set running r (running_flag this) → best' ≡ outcome_of (k.done ++ (this ∷ []))
            → Swept now' running' best' this.ran.used (suc r)
        next best' q b =
            record {
              all_rows = ap length e ∙ length-set now r (row_after this) ∙ k.all_rows;
              all_flags = ap length q ∙ length-set running r (running_flag this) ∙ k.all_flags;
              untouched =
                  ap (λ (l : List Row). drop (suc r) l) e
                  ∙ drop-set-lt (suc r) now r (row_after this) (lt-suc_self r)
                  ∙ drop_next now rows r k.untouched;
              done = k.done ++ (this ∷ []);
              count = omega (arith, k.count, length-append k.done (this ∷ []));
              all =
                  append_snoc k.done this (to_come this.ran.used (suc r))
                  ∙ ap (λ (l : List Finished). k.done ++ l) (sym this_first)
                  ∙ k.all;
              rows_done =
                  ap (λ (l : List Row). take (suc r) l) e
                  ∙ one_more row_after now r k.done this (omega (arith, k.all_rows)) k.rows_done;
              flags_done =
                  ap (λ (l : List Bool). take (suc r) l) q
                  ∙ one_more running_flag running r k.done this (omega (arith, k.all_flags)) k.flags_done;
              finding = b;
              used_done = used_last start k.done this;
            }

        -- as the calls of `run_row` and `choose` say it
        pub is_one_run : (ran : Ran) (best' : Finding) → ran ≡ this.ran → running' ≡ set running r (is_running ran.progress)
            → ((before : List Finished) (last : Finished) → best ≡ outcome_of before → r ≡ length before → ran ≡ last.ran
            → best' ≡ outcome_of (before ++ (last ∷ [])))
            → Swept now' running' best' ran.used (r + 1)
        is_one_run ran best' a q b =
            rw (add-one r, a)
            (next best' (q ∙ ap (λ (z : Ran). set running r (is_running z.progress)) a) (b k.done this k.finding k.count a))

    module _ (h : length rows ≤ r) where
      none_to_come : to_come used r ≡ []
      unfolding run_all
      none_to_come = rw (drop_of_length-le rows {i = r} h)

      all_done : k.done ≡ runs
      all_done = sym (append-nil k.done) ∙ ap (λ (l : List Finished). k.done ++ l) (sym none_to_come) ∙ k.all

      pub all_run : (◌≡◌ {A = Ended} (record { finding = best; used = used }) (all_ran start runs))
          × (now ≡ map row_after runs) × (running ≡ map running_flag runs)
      all_run = (
        ap (λ (f : Finding). record { finding = f; used = used }) k.finding
            ∙ ap (λ (n : ℕ). record { finding = outcome_of k.done; used = n }) k.used_done
            ∙ ap (all_ran start) all_done,
        sym (take_all r now (omega (arith, k.all_rows))) ∙ k.rows_done ∙ ap (map row_after) all_done,
        sym (take_all r running (omega (arith, k.all_flags))) ∙ k.flags_done ∙ ap (map running_flag) all_done,
      )
