-- What an accepted call leaves goes on: after 22 the next call makes the single call of it, and any other answer is the single call's.
use Rattle.std.proofs.Common.{Ok, List, ◌++◌, append_assoc, ◌≡◌, refl, sym, ap, ◌∙◌, subst, ℕ, ◌+◌, ◌-◌, ◌≤◌, ◌^◌, length, length-append, length-drop, take, drop, drop-drop}
use Rattle.std.proofs.Math.Seq.{take-append_seam, drop-append_seam}
use Rattle.answers.specs.Numbers.{progress_number}
use Rattle.answers.specs.declared.error.ExecutorError.TheVariants.{OutputFull}
use Rattle.answers.specs.declared.outcome.Outcome.TheVariants.{Failed}
use Rattle.answers.specs.declared.outcome.Progress.{Progress}
use Rattle.answers.specs.declared.outcome.Progress.TheVariants.{Running, Ended}
use Rattle.rows.specs.Rows.{Row, Shape, limit_of, set_limit}
use Rattle.loader.specs.Loading.{Program, new_executor}
use Rattle.machine.specs.Runs.{Finished}
use Rattle.executor.specs.Entries.{creation_checked, created_row, run_checked, run_answer}
use Rattle.executor.proofs.Accepted.{runnable}
use Rattle.executor.proofs.NewRows.{new_accepted}
use Rattle.executor.proofs.Resuming.{running_number, accepted_again}
use Rattle.writing.specs.Written.{written}
use Rattle.runner.specs.Serving.{Served, served_of}
use Rattle.runner.specs.Entry.{left_by, served_entry, run_program, go_on}
use Rattle.runner.specs.Resuming.{Numbered, numbered, joined, GoesOn, ProgramGoesOn, RowGoesOn}
use Rattle.runner.proofs.Completing.{served_of_run}
use Rattle.runner.proofs.GoingOn.{goes_on, ends_alike}

-- what a served run leaves of row and output, its answer in numbers
abbrev told : Served → List ℕ → Numbered
told x output = numbered (left_by x output)

told_row : (memory log n : ℕ) (input : List ℕ) (r : Row) (output : List ℕ) → run_checked memory log r ≡ Ok tt
    → numbered (go_on memory log n input r output) ≡ told (served_of n input (length output) 0 r) output
unfolding go_on served_entry
told_row memory log n input r output accepted = rw accepted

-- two texts, one written behind the other into what the first left
written_on : (a b out : List ℕ) → take (length a) (written a out) ++ written b (drop (length a) (written a out)) ≡ written (a ++ b) out
written_on a b out =
    rw (take-append_seam a (drop (length a) out), drop-append_seam a (drop (length a) out), drop-drop (length b) (length a) out, length-append a b)
    (sym (append_assoc a b (drop (length a + length b) out)))

module _ (memory log a b : ℕ) (input : List ℕ) (r : Row) (output : List ℕ) (accepted : run_checked memory log r ≡ Ok tt) where
  abbrev first : Served
  first = served_of a input (length output) 0 r

  -- what is left of the output
  abbrev rest : List ℕ
  rest = drop (length first.output) (written first.output output)

  room_left : length rest ≡ length output - length first.output
  room_left = rw (drop-append_seam first.output (drop (length first.output) output)) (length-drop (length first.output) output)

  shape : Shape r.words r.marks
  shape = (runnable memory log r accepted).sizes.shape

  module _ (still : first.finished.ran.progress ≡ Running) where
    again : limit_of first.finished.row ≤ 2 ^ 63 → run_checked memory log first.finished.row ≡ Ok tt
    again low =
        let e = served_of_run a input (length output) r (λ full. let p : Running ≡ Ended (Failed OutputFull) = sym still ∙ full in cc) in
        subst (λ (x : Finished). run_checked memory log x.row ≡ Ok tt) (sym e)
        (accepted_again memory log a input r accepted (subst (λ (x : Finished). limit_of x.row ≤ 2 ^ 63) e low))

    both : limit_of first.finished.row ≤ 2 ^ 63
        → joined (told first output) (numbered (go_on memory log b (drop first.finished.ran.used input) first.finished.row rest))
        ≡ told (served_of (a + b) input (length output) 0 r) output
    both low =
        let s = served_of b (drop first.finished.ran.used input) (length output - length first.output) 0 first.finished.row in
        ap (joined (told first output))
        (told_row memory log b (drop first.finished.ran.used input) first.finished.row rest (again low)
        ∙ ap (λ (room : ℕ). told (served_of b (drop first.finished.ran.used input) room 0 first.finished.row) rest) room_left)
        ∙ (λ i. record {
          row = s.finished.row;
          output = written_on first.output s.output output i;
          answer = (joined (told first output) (told s rest)).answer;
          written = sym (length-append first.output s.output) i;
        })
        ∙ ap (λ (x : Served). told x output) (goes_on a b input (length output) r shape still)

  ended : (p : Progress) → first.finished.ran.progress ≡ p → (progress_number first.finished.ran.progress ≡ progress_number Running → ⊥)
      → told (served_of (a + b) input (length output) 0 r) output
      ≡ record {
        row = set_limit (limit_of first.finished.row + b) first.finished.row;
        output = written first.output output;
        answer = run_answer (Ok first.finished.ran);
        written = length first.output;
      }
  ended Running e other = absurd (other (ap progress_number e))
  ended (Ended o) e other = ap (λ (x : Served). told x output) (ends_alike a b input (length output) r shape o e)

  going_on : GoesOn memory log b input (told first output) (told (served_of (a + b) input (length output) 0 r) output)
  going_on =
      record {
        goes_on = λ still low. let s = running_number first.finished.ran.progress still in (again s low, both s low);
        ends = ended first.finished.ran.progress refl;
      }

pub row_goes_on : (memory log a : ℕ) (input : List ℕ) (r : Row) (output : List ℕ) {x : Numbered} → x ≡ numbered (go_on memory log a input r output)
    → RowGoesOn memory log a input r output x
row_goes_on memory log a input r output e accepted b bound =
    rw (e, told_row memory log a input r output accepted, told_row memory log (a + b) input r output accepted) (going_on memory log a b input r output accepted)

told_program : (memory log n : ℕ) (p : Program) (input : List ℕ) (r : Row) (output : List ℕ) → creation_checked memory log p r ≡ Ok tt
    → numbered (run_program memory log n p input r output) ≡ told (served_of n input (length output) 0 (new_executor p (length r.words) (length r.marks))) output
unfolding run_program served_entry created_row
told_program memory log n p input r output accepted = rw accepted

pub program_goes_on : (memory log a : ℕ) (p : Program) (input : List ℕ) (r : Row) (output : List ℕ) {x : Numbered}
    → x ≡ numbered (run_program memory log a p input r output) → ProgramGoesOn memory log a p input r output x
program_goes_on memory log a p input r output e accepted b bound =
    rw (e, told_program memory log a p input r output accepted, told_program memory log (a + b) p input r output accepted)
    (going_on memory log a b input (new_executor p (length r.words) (length r.marks)) output (new_accepted memory log p r accepted))
