-- The word `born` tells the truth in every round of a call.
use Rattle.std.proofs.Common.{Ok, ◌≡◌, sym, ◌∙◌, subst, ℕ, suc, ◌+◌, ◌*◌, arith, suc-mul, T}
use Rattle.answers.specs.declared.outcome.Progress.TheVariants.{Running}
use Rattle.checks.specs.Refusals.{is_copy_ratio}
use Rattle.invariants.proofs.Limits.{run_limit, run_between, running_at_limit}
use Rattle.invariants.proofs.Kept.{run_born}
use Rattle.machine.specs.Runs.{Finished, run_of}
use Rattle.rows.specs.Rows.{Row, Shape, born_of}
use Rattle.store.specs.Store.{Sized}
use Rattle.rounds.specs.Ages.{Line, anew, on, Aged, AgedRun, AgedRound, Ages}
use Rattle.rounds.specs.Calls.{Call}
use Rattle.rounds.specs.Demand.{All, nil}
use Rattle.rounds.specs.Rounds.{Start, beginning, copies, new_row, filled, Round, ran_on, round_of, round_after, round_made}
use Rattle.rounds.specs.Series.{goes_on}
use Rattle.rounds.proofs.Demand.{Ready, begins, next_ready}
use Rattle.rounds.proofs.Every.{every}
use Rattle.rounds.proofs.Filling.{new_round_depth, new_round_limit, new_round_born, new_proper, made_of, filled_all}
use Rattle.rounds.proofs.Handing.{kept_all}
use Rattle.rounds.proofs.Lists.{all_both, all_with}
use Rattle.rounds.proofs.Proper.{Proper}
use Rattle.rounds.proofs.Running.{run_all_each, still_running_each}

module _ (c : Call) where
  abbrev step : ℕ
  step = c.options.step_size

  -- a round's new executors
  new_aged : (k : ℕ) → Sized c.store → Aged c k (new_row c k)
  new_aged k sized =
      let born = new_round_born c k sized in
      let depth = new_round_depth c k sized in
      record {
        line = subst (λ (b : ℕ). Line c b k (new_row c k)) (sym born) anew;
        born = omega arith;
        depth = rw (born, depth) (omega arith);
        limit = new_round_limit c k sized ∙ sym depth;
      }

  -- a run of round k
  module _ (k used : ℕ) (r : Row) (h : Aged c k r) (shape : Shape r.words r.marks) where
    abbrev x : Finished
    x = run_of step c.tape used r

    same : born_of x.row ≡ born_of r
    same = run_born step c.tape used r

    more : suc k * step ≡ k * step + step
    more = suc-mul k step ∙ omega arith

    line : Line c (born_of x.row) (suc k) x.row
    line = subst (λ (b : ℕ). Line c b (suc k) x.row) (sym same) (on used h.line)

    whole : x.ran.progress ≡ Running → Aged c (suc k) x.row
    whole e =
        let limit = run_limit step c.tape used r shape in
        let depth = running_at_limit step c.tape used r shape (omega (arith, h.limit)) e in
        record {
          line = line;
          born = omega (arith, h.born, same);
          depth = rw same (omega (arith, h.limit, h.depth, limit, depth, more));
          limit = sym depth;
        }

    run_aged : AgedRun c k x
    run_aged =
        let limit = run_limit step c.tape used r shape in
        let b = run_between step c.tape used r shape (omega (arith, h.limit)) in
        record {
          line = line;
          born = omega (arith, h.born, same);
          limit = rw same (omega (arith, h.limit, h.depth, limit, more));
          not_before = rw same (omega (arith, h.depth, b.0));
          not_after = omega (arith, limit, b.1);
          whole = whole;
        }

-- what the start of round k is
pub record AgedStart (c : Call) (k : ℕ) (s : Start) : Type 0 where
  pub ready : Ready c s
  pub aged : All (Aged c k) s.kept

pub aged_begins : (c : Call) → AgedStart c 0 beginning
aged_begins c = record { ready = begins c; aged = nil }

module _ (c : Call) (sized : Sized c.store) (ratio : T (is_copy_ratio c.options.copy_init_ratio)) where
  proper_shape : (r : Row) → Proper c.store r → Shape r.words r.marks
  proper_shape r h = record { registers = omega (arith, h.marks, sized.registers); slots = omega (arith, h.words, h.marks, sized.slots) }

  module _ (k : ℕ) (s : Start) (start : AgedStart c k s) where
    both : All (λ r. Proper c.store r × Aged c k r) (filled c k s)
    both = filled_all c k s (all_both start.ready.proper start.aged) (new_proper c k sized, new_aged c k sized)

    runs : All (AgedRun c k) (round_of c k s).runs
    unfolding round_of ran_on
    runs = run_all_each c.options.step_size c.tape (λ used r h. run_aged c k used r h.1 (proper_shape r h.0)) (s.used + copies c s) both

    kept : (next : Start) → (round_of c k s).after ≡ goes_on next → All (Aged c (suc k)) next.kept
    kept next e = kept_all c k s next e (still_running_each (round_of c k s).runs (all_with (λ x h. h.whole) runs))

    aged_round : AgedRound c k (round_of c k s)
    unfolding round_of ran_on
    aged_round = record { full = all_with (λ r h. h.1) both; runs = runs; kept = kept }

  aged_made : (k : ℕ) (s : Start) (r : Round) → AgedStart c k s → round_made c k s ≡ Ok r → AgedRound c k r
  aged_made k s r start e = rw (made_of c k s e).1 (aged_round k s start)

  pub aged_next : (k : ℕ) (s : Start) (r : Round) (next : Start) → AgedStart c k s → round_made c k s ≡ Ok r → r.after ≡ goes_on next
      → AgedStart c (suc k) next
  aged_next k s r next start e h =
      record { ready = next_ready c sized ratio k s r next start.ready e h; aged = (aged_made k s r start e).kept next h }

  pub ages : Ages c
  ages = every round_after (round_made c) (AgedStart c) (AgedRound c) aged_made aged_next c.options.iterations 0 beginning (aged_begins c)
