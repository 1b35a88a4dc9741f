-- The turns of a run whose write calls are put out: what each leaves is what the run still has to do.
use Rattle.std.proofs.Common.{List, [], ◌++◌, append-nil, append_assoc, ◌≡◌, sym, ap, ◌∙◌, subst, ℕ, ◌+◌, ◌-◌, ◌≤◌, ◌<◌, arith, le-leb, length, length-append}
use Rattle.std.proofs.Math.Nat.{sub-zero}
use Rattle.std.proofs.lemmas.Bool.{lt-leb}
use Rattle.answers.specs.declared.error.ExecutorError.TheVariants.{OutputFull}
use Rattle.answers.specs.declared.outcome.Outcome.{Outcome}
use Rattle.answers.specs.declared.outcome.Outcome.TheVariants.{Failed}
use Rattle.answers.specs.declared.outcome.Progress.{Progress}
use Rattle.answers.specs.declared.outcome.Progress.TheVariants.{Running, Ended}
use Rattle.rows.specs.Rows.{Row, Shape, depth_of, limit_of}
use Rattle.calls.specs.Calls.{completed}
use Rattle.calls.specs.declared.step.Step.{Step}
use Rattle.calls.specs.declared.step.Step.TheVariants as step
use Rattle.calls.proofs.Kept.{completed_depth, completed_limit}
use Rattle.machine.specs.Runs.{Finished, stops, answer_of}
use Rattle.machine.specs.Pauses.{Halted, paused_of}
use Rattle.machine.specs.Writes.{bytes_from}
use Rattle.writing.specs.Writing.{Wrote}
use Rattle.writing.proofs.Writing.{wrote_more, wrote_none, wrote_front}
use Rattle.runner.specs.Serving.{Served, silent, preceded, served_by, served_of}
use Rattle.runner.specs.Entry.{Left, printed, left, left_by}
use Rattle.runner.specs.declared.Printed.{Printed}
use Rattle.runner.proofs.Printing.{bytes_length}
use Rattle.runner.proofs.Halts.{after_pause, Fewer, Halt, halting}

-- where a run stands that comes to whole: a text is at the front of out, which is out' now, and what r still has to do is the rest
pub record Serves (whole : Served) (input out : List ℕ) (more used at : ℕ) (out' : List ℕ) (r : Row) : Type 0 where
  pub text : List ℕ
  pub wrote : Wrote out 0 text at out'
  pub rest : preceded text (served_of more input (length out - at) used r) ≡ whole

-- where it ends
pub record Ends (whole : Served) (out : List ℕ) (at : ℕ) (out' : List ℕ) (x : Finished) : Type 0 where
  pub ended : x ≡ whole.finished
  pub wrote : Wrote out 0 whole.output at out'

-- what is answered of it
pub answered : {whole : Served} {out out' : List ℕ} {at : ℕ} {p : Progress} {pc used : ℕ} {r : Row} {x : Printed} → Ends whole out at out' (stops p pc used r)
    → x ≡ printed (answer_of p pc used) at → left r.words r.marks out' x ≡ left_by whole out
answered {whole} {out} e f =
    let front = wrote_front e.wrote in
    rw (f, front.0, front.1.0) (ap (λ (y : Finished). left_by (record { finished = y; output = whole.output }) out) e.ended)

-- an output with its text at the front has room for it
pub within : (whole : Served) (out : List ℕ) {words marks out' : List ℕ} {x : Printed} → left words marks out' x ≡ left_by whole out → length out' ≡ length out → x.written ≤ length out
within whole out e l =
    omega (arith, l, ap (λ (y : Left). length y.output) e ∙ length-append whole.output _, ap (λ (y : Left). y.printed.written) e)

pub begins : (step : ℕ) (input out : List ℕ) (r : Row) → Serves (served_of step input (length out) 0 r) input out step 0 0 out r
begins step input out r = record { text = []; wrote = wrote_none out 0 (omega arith); rest = simp sub-zero }

-- a turn: x is where the run halted
module _ {whole : Served} {input out out' : List ℕ} {more used at : ℕ} {r : Row} (s : Serves whole input out more used at out' r)
    (w : Shape r.words r.marks) {x : Halted} (e : x ≡ paused_of more input used r) where
  halt : Halt (λ room. served_of more input room used r) (limit_of r + more) (limit_of r + more - depth_of r) input x
  halt = rw e (halting more input used r (omega (arith, w)))

  -- what is left once it is known at what it halted
  came : {t : Step} → x.paused.step ≡ t → preceded s.text (after_pause input (length out - at) t x.paused.pc x.paused.used x.row) ≡ whole
  came p =
      ap (λ (t : Step). preceded s.text (after_pause input (length out - at) t x.paused.pc x.paused.used x.row)) (sym p)
      ∙ ap (preceded s.text) (sym (halt.rest (length out - at)))
      ∙ s.rest

  closed : {f : Finished} → preceded s.text (silent f) ≡ whole → Ends whole out at out' f
  closed g =
      record {
        ended = ap (λ (y : Served). y.finished) g;
        wrote = subst (λ (t : List ℕ). Wrote out 0 t at out') (sym (append-nil s.text) ∙ ap (λ (y : Served). y.output) g) s.wrote;
      }

  -- at its limit, or at its end
  pub limited : x.paused.step ≡ step.Running → Ends whole out at out' (stops Running x.paused.pc x.paused.used x.row)
  unfolding after_pause
  limited p = closed (came p)

  pub stopped : {o : Outcome} → x.paused.step ≡ step.Ended o → Ends whole out at out' (stops (Ended o) x.paused.pc x.paused.used x.row)
  unfolding after_pause
  stopped p = closed (came p)

  -- at a write call
  module _ {buffer size : ℕ} (p : x.paused.step ≡ step.Write buffer size) where
    -- that needs more output than is left
    pub filled : length out - at < size → Ends whole out at out' (stops (Ended (Failed OutputFull)) x.paused.pc x.paused.used x.row)
    unfolding after_pause served_by
    filled h = closed (rw (lt-leb size (length out - at) h) at (came p))

    -- whose completion leaves r'
    module _ {r' : Row} (c : r' ≡ completed size x.row) where
      pub limit_kept : limit_of r' ≡ limit_of r + more
      limit_kept = ap limit_of c ∙ completed_limit size x.row ∙ halt.kept

      pub fewer_left : limit_of r' + 0 - depth_of r' < limit_of r + more - depth_of r
      fewer_left =
          let fewer = subst (λ (t : Step). Fewer (limit_of r + more) (limit_of r + more - depth_of r) t x.row) p halt.fewer in
          omega (arith, fewer, limit_kept, ap depth_of c ∙ completed_depth size x.row)

      pub turned : {next : ℕ} {out'' : List ℕ} → Wrote out' at (bytes_from size buffer x.row) next out''
          → Serves whole input out 0 x.paused.used next out'' r'
      unfolding after_pause served_by
      turned {next} {out''} v =
          let bytes = bytes_from size buffer x.row in
          let wrote : Wrote out 0 (s.text ++ bytes) next out'' = wrote_more s.wrote v in
          let long = bytes_length size buffer x.row in
          let fits : size ≤ length out - at = omega (arith, wrote.room, v.place, long) in
          let left : length out - next ≡ length out - at - size = omega (arith, v.place, long) in
          record {
            text = s.text ++ bytes;
            wrote = wrote;
            rest = simp (c, left, append_assoc) (rw (le-leb size (length out - at) fits) at (came p));
          }
