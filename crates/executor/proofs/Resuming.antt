-- What a run leaves that is accepted goes on: after 22 the next run makes the single run of it, and any other answer is the single run's.
use Rattle.std.proofs.Common.{Result, Ok, Err, List, ◌≡◌, refl, ap, ◌∙◌, ℕ, ◌+◌, ◌≤◌, ◌^◌, arith, length, drop}
use Rattle.laws.proofs.Absurd.{impossible}
use Rattle.answers.specs.Numbers.{progress_number}
use Rattle.answers.specs.declared.bug.Bug.TheVariants as bug
use Rattle.answers.specs.declared.error.ExecutorError.TheVariants as error
use Rattle.answers.specs.declared.outcome.Outcome.TheVariants.{Exited, Found, Failed}
use Rattle.answers.specs.declared.outcome.Progress.{Progress}
use Rattle.answers.specs.declared.outcome.Progress.TheVariants.{Running, Ended}
use Rattle.rows.specs.Rows.{Row, Shape, limit_of, set_limit}
use Rattle.machine.specs.Runs.{Finished, run_of}
use Rattle.invariants.proofs.Kept.{run_words, run_marks}
use Rattle.invariants.proofs.Sound.{run_sound}
use Rattle.checks.specs.declared.refusal.Refusal.{Refusal}
use Rattle.invariants.proofs.TapeUse.{run_used}
use Rattle.invariants.proofs.GoingOn.{goes_on, ends_alike}
use Rattle.executor.specs.Entries.{Answered, run_checked, run_answered, run_entry, run_answer}
use Rattle.executor.specs.Resuming.{Numbered, numbered_as, numbered, joined, GoesOn, StopAndGoOn}
use Rattle.executor.proofs.Accepted.{runnable, run_accepted}

-- only a run that stopped at its limit answers 22
pub running_number : (p : Progress) → progress_number p ≡ progress_number Running → p ≡ Running
running_number Running h = refl
running_number (Ended Exited) h = impossible cc
running_number (Ended (Found bug.DivisionByZero)) h = impossible cc
running_number (Ended (Found (bug.AccessToUninitializedMemory why))) h = impossible cc
running_number (Ended (Found (bug.AccessToUnalignedAddress address))) h = impossible cc
running_number (Ended (Found bug.AccessToOutOfRangeAddress)) h = impossible cc
running_number (Ended (Found (bug.ExitCodeGreaterZero code))) h = impossible cc
running_number (Ended (Failed (error.NotSupported why))) h = impossible cc
running_number (Ended (Failed error.InvalidInstructionEncoding)) h = impossible cc
running_number (Ended (Failed error.PcOutOfRange)) h = impossible cc
running_number (Ended (Failed error.TapeEmpty)) h = impossible cc
running_number (Ended (Failed error.LogFull)) h = impossible cc
running_number (Ended (Failed error.OutputFull)) h = impossible cc

-- what a run leaves that was made, its answer in numbers
abbrev told : Finished → Numbered
told x = numbered_as x.row.words x.row.marks (run_answer (Ok x.ran))

told_run : (memory log n : ℕ) (tape : List ℕ) (r : Row) → run_checked memory log r ≡ Ok tt → numbered (run_entry memory log n tape r) ≡ told (run_of n tape 0 r)
unfolding run_entry run_answered
told_run memory log n tape r accepted = rw accepted

-- the row that a run leaves can be run, but for its limit
pub accepted_again : (memory log a : ℕ) (tape : List ℕ) (r : Row) → run_checked memory log r ≡ Ok tt → limit_of (run_of a tape 0 r).row ≤ 2 ^ 63
    → run_checked memory log (run_of a tape 0 r).row ≡ Ok tt
accepted_again memory log a tape r accepted low =
    let ready = runnable memory log r accepted in
    let sound = run_sound a tape 0 r ready.sizes.shape ready.sound in
    run_accepted memory log r (run_of a tape 0 r).row ready.tests (run_words a tape 0 r) (run_marks a tape 0 r) sound low

module _ (memory log a b : ℕ) (tape : List ℕ) (r : Row) (accepted : run_checked memory log r ≡ Ok tt) where
  abbrev first : Finished
  first = run_of a tape 0 r

  abbrev second : Finished
  second = run_of b (drop first.ran.used tape) 0 first.row

  shape : Shape r.words r.marks
  shape = (runnable memory log r accepted).sizes.shape

  both : first.ran.progress ≡ Running → joined (told first) (told second) ≡ told (run_of (a + b) tape 0 r)
  both still = ap told (goes_on a b tape r shape still)

  ended : (p : Progress) → first.ran.progress ≡ p → (progress_number first.ran.progress ≡ progress_number Running → ⊥)
      → told (run_of (a + b) tape 0 r) ≡ record { row = set_limit (limit_of first.row + b) first.row; answer = run_answer (Ok first.ran) }
  ended Running e other = absurd (other (ap progress_number e))
  ended (Ended o) e other = ap told (ends_alike a b tape r shape o e)

  going_on : GoesOn memory log b tape (told first) (told (run_of (a + b) tape 0 r))
  going_on =
      record {
        goes_on = λ still low.
            let again = accepted_again memory log a tape r accepted low in (
              again,
              ap (joined (told first)) (told_run memory log b (drop first.ran.used tape) first.row again) ∙ both (running_number first.ran.progress still),
            );
        ends = ended first.ran.progress refl;
      }

pub stop_and_go_on : (memory log a : ℕ) (tape : List ℕ) (r : Row) {x : Numbered} → x ≡ numbered (run_entry memory log a tape r) → StopAndGoOn memory log a tape r x
stop_and_go_on memory log a tape r {x} e accepted b bound =
    rw (e, told_run memory log a tape r accepted, told_run memory log (a + b) tape r accepted) (going_on memory log a b tape r accepted)

-- what is left of the tape is a part of it
answered_used : (c : Result (Unit {0}) Refusal) (step : ℕ) (tape : List ℕ) (r : Row) → (run_answer (run_answered c step tape r).answer).used ≤ length tape
unfolding run_answered
answered_used (Ok t) step tape r = run_used step tape 0 r (omega arith)
answered_used (Err f) step tape r = omega arith

pub used_within : (memory log step : ℕ) (tape : List ℕ) (r : Row) {x : Answered} → x ≡ run_entry memory log step tape r → (run_answer x.answer).used ≤ length tape
unfolding run_entry
used_within memory log step tape r {x} e = rw e (answered_used (run_checked memory log r) step tape r)
