-- What a run comes to is what its halt leaves to do, and at a write call fewer instructions are left.
use Rattle.std.proofs.Common.{cond, List, ◌≡◌, refl, sym, ap, ◌∙◌, ℕ, zero, suc, ◌+◌, ◌-◌, ◌≤◌, ◌<◌, add-zero, arith, leb, length, length-set, get_or-set_same, get_or-set_other}
use Rattle.std.proofs.Math.Seq.{set-get_or}
use Rattle.answers.specs.declared.error.ExecutorError.TheVariants.{OutputFull}
use Rattle.answers.specs.declared.outcome.Outcome.TheVariants.{Failed}
use Rattle.answers.specs.declared.outcome.Progress.TheVariants.{Running, Ended}
use Rattle.rows.specs.Rows.{Row, header, pc_of, depth_of, limit_of, set_limit}
use Rattle.calls.specs.Calls.{completed}
use Rattle.calls.specs.declared.step.Step.{Step}
use Rattle.calls.specs.declared.step.Step.TheVariants as step
use Rattle.calls.proofs.Kept.{completed_depth, completed_limit}
use Rattle.machine.specs.Steps.{stepped}
use Rattle.machine.specs.Runs.{stops}
use Rattle.machine.specs.Pauses.{Halted, unless_running, paused_for, paused_of}
use Rattle.machine.specs.Writes.{bytes_from}
use Rattle.machine.proofs.Kept.{stepped_words, stepped_depth, stepped_limit}
use Rattle.runner.specs.Serving.{Served, silent, preceded, served_by, served_for, served_of}

-- what is left to do at a halt: at the limit and at an end nothing
unfoldable pub after_pause : List ℕ → ℕ → Step → ℕ → ℕ → Row → Served
after_pause tape room step.Running pc used r = silent (stops Running pc used r)
after_pause tape room (step.Write buffer size) pc used r = served_by (served_of 0 tape) room pc (step.Write buffer size) used r
after_pause tape room (step.Ended o) pc used r = silent (stops (Ended o) pc used r)

abbrev pub after_halt : List ℕ → ℕ → Halted → Served
after_halt tape room x = after_pause tape room x.paused.step x.paused.pc x.paused.used x.row

-- fewer than so many instructions are left where a write call is handed out
abbrev pub Fewer : ℕ → ℕ → Step → Row → Type 0
Fewer limit most step.Running r = Unit {0}
Fewer limit most (step.Write buffer size) r = limit - depth_of r < most
Fewer limit most (step.Ended o) r = Unit {0}

-- what is known of the halt of a run; served says what the run comes to, by the room of its output
pub record Halt (served : ℕ → Served) (limit most : ℕ) (tape : List ℕ) (x : Halted) : Type 0 where
  pub rest : (room : ℕ) → served room ≡ after_halt tape room x
  pub kept : limit_of x.row ≡ limit
  pub fewer : Fewer limit most x.paused.step x.row

-- a run goes on by adding 0 to its limit
follows_on : (n : ℕ) (tape : List ℕ) (room used : ℕ) (r : Row) → n ≡ limit_of r - depth_of r
    → served_for n tape room used r ≡ served_of 0 tape room used r
unfolding served_of
follows_on n tape room used r e = simp (e, add-zero, set-get_or)

module _ (limit most : ℕ) (tape : List ℕ) where
  -- one instruction, if the rest is so
  by_halt : (n pc : ℕ) (s : Step) (used : ℕ) (r : Row) → limit_of r ≡ limit → n ≡ limit - depth_of r → n < most
      → ((used : ℕ) → Halt (λ room. served_for n tape room used r) limit most tape (paused_for n tape used r))
      → Halt (λ room. served_by (served_for n tape) room pc s used r) limit most tape (unless_running (paused_for n tape) pc s used r)
  unfolding served_by unless_running after_pause
  by_halt n pc step.Running used r l e h each = each used
  by_halt n pc (step.Write buffer size) used r l e h each =
      let same : n ≡ limit_of (completed size r) - depth_of (completed size r) = omega (arith, completed_limit size r, completed_depth size r) in
      record {
        rest = λ room.
            ap (λ (x : Served). cond (leb size room) (preceded (bytes_from size buffer r) x) (silent (stops (Ended (Failed OutputFull)) pc used r)))
            (follows_on n tape (room - size) used (completed size r) same);
        kept = l;
        fewer = omega arith;
      }
  by_halt n pc (step.Ended o) used r l e h each = record { rest = λ room. refl; kept = l; fewer = tt }

  walk : (n used : ℕ) (r : Row) → header ≤ length r.words → limit_of r ≡ limit → n ≡ limit - depth_of r → n ≤ most
      → Halt (λ room. served_for n tape room used r) limit most tape (paused_for n tape used r)
  unfolding served_for paused_for after_pause
  walk zero used r w l e h = record { rest = λ room. refl; kept = l; fewer = tt }
  walk (suc n) used r w l e h =
      let x = stepped tape used r in
      let deeper = stepped_depth tape used r (omega arith) in
      let limited = stepped_limit tape used r ∙ l in
      let left : n ≡ limit - depth_of x.row = omega arith in
      by_halt n (pc_of r) x.stepped.step x.stepped.used x.row limited left (omega arith)
      (λ u. walk n u x.row (omega (arith, w, stepped_words tape used r)) limited left (omega arith))

-- the halt of a whole run
pub halting : (step : ℕ) (tape : List ℕ) (used : ℕ) (r : Row) → header ≤ length r.words
    → Halt (λ room. served_of step tape room used r) (limit_of r + step) (limit_of r + step - depth_of r) tape (paused_of step tape used r)
unfolding served_of paused_of
halting step tape used r w =
    let limit = limit_of r + step in
    let r₁ = set_limit limit r in
    let same-depth : depth_of r₁ ≡ depth_of r = get_or-set_other r.words _ _ limit 0 (λ e. omega arith) in
    walk limit (limit - depth_of r) tape (limit - depth_of r) used r₁ (simp length-set w)
    (get_or-set_same r.words _ limit 0 (omega arith)) (ap (λ (d : ℕ). limit - d) (sym same-depth)) (omega arith)
