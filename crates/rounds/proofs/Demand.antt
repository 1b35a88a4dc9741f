-- Demand 3: every round of a call that goes on is fair, whatever the call is given.
use Rattle.std.proofs.Common.{false, Ok, ℕ, map, ◌≡◌, ◌∙◌, min, ◌+◌, ◌≤◌, arith, T, length}
use Rattle.rows.specs.Limits.{most_rows}
use Rattle.checks.specs.Refusals.{is_copy_ratio}
use Rattle.store.specs.Store.{most_marks, Sized}
use Rattle.rounds.specs.Calls.{Call}
use Rattle.rounds.specs.Demand.{All, nil, Fair, FairRound, Demand}
use Rattle.rounds.specs.Rounds.{Start, beginning, copies, tape_short, filled, used_after, row_after, state_of, chosen_of, Round, ran_on, round_of, round_after, round_made}
use Rattle.rounds.specs.Series.{goes_on}
use Rattle.rounds.proofs.Every.{every, all_of}
use Rattle.rounds.proofs.Filling.{filled_length, new_proper, made_of}
use Rattle.rounds.proofs.Fronts.{front, leaves}
use Rattle.rounds.proofs.Handing.{running, running_all, kept_chosen, kept_all}
use Rattle.rounds.proofs.Keeping.{each_once, as_many, follows_on, all_exact, rarest_kept}
use Rattle.rounds.proofs.Lists.{all_with}
use Rattle.rounds.proofs.Proper.{Proper, not_zero}
use Rattle.rounds.proofs.Running.{run_all_length, run_proper, still_running_length}

-- what every round starts from
pub record Ready (c : Call) (s : Start) : Type 0 where
  pub proper : All (Proper c.store) s.kept
  pub few : length s.kept ≤ c.store.rows

pub begins : (c : Call) → Ready c beginning
begins c = record { proper = nil; few = omega arith }

module _ (c : Call) (sized : Sized c.store) (ratio : T (is_copy_ratio c.options.copy_init_ratio)) where
  module _ (k : ℕ) (s : Start) (ready : Ready c s) (tape : tape_short c s ≡ false) where
    pub runs_length : length (round_of c k s).runs ≡ c.store.rows
    unfolding round_of ran_on
    runs_length =
        run_all_length c.options.step_size c.tape (s.used + copies c s) (filled c k s)
        ∙ filled_length c s sized k ratio ready.few tape

    running_proper : All (Proper c.store) (running c k s)
    running_proper =
        running_all c k s (run_proper c.store c.options.step_size c.tape) ready.proper (new_proper c k sized)

    running_few : length (running c k s) ≤ c.store.rows
    running_few = let n = still_running_length (round_of c k s).runs in omega (arith, runs_length)

    few : length (running c k s) ≤ most_rows
    few = omega (arith, running_few, sized.few)

    short : All (λ r. length r.marks ≤ most_marks) (running c k s)
    short = all_with (λ r h. omega (arith, h.marks, sized.memory)) running_proper

    module _ (next : Start) (e : (round_of c k s).after ≡ goes_on next) where
      kept : next.kept ≡ map state_of (chosen_of c.options (running c k s)).kept
      kept = kept_chosen c k s next e

      kept_proper : All (Proper c.store) next.kept
      kept_proper = kept_all c k s next e running_proper

      kept_as_many : length next.kept ≡ min c.options.selection (length (running c k s))
      kept_as_many = rw kept (as_many c (running c k s))

      pub ready_on : Ready c next
      ready_on = record { proper = kept_proper; few = omega (arith, kept_as_many, running_few) }

      fair : Fair c (round_of c k s) next
      fair =
          record {
            each_once = rw kept (each_once c (running c k s));
            as_many = kept_as_many;
            exact = all_exact c (running c k s) few short;
            rarest = rw kept (rarest_kept c (running c k s) few short);
            not_zero = all_with (λ r h. not_zero sized h) kept_proper;
          }

    -- a round that meets no bug and no error
    pub fair_round : FairRound c (round_of c k s)
    unfolding round_of ran_on
    fair_round quiet =
        let runs = (round_of c k s).runs in
        let used = used_after (s.used + copies c s) runs in
        let next : Start = record { kept = map state_of (chosen_of c.options (running c k s)).kept; used = used } in
        let e : (round_of c k s).after ≡ goes_on next = rw quiet (follows_on c (running c k s) few short (map row_after runs) used) in
        record { next = next; follows_on = e; fair = fair next e }

  fair_made : (k : ℕ) (s : Start) (r : Round) → Ready c s → round_made c k s ≡ Ok r → FairRound c r
  fair_made k s r ready e = let made = made_of c k s e in rw made.1 (fair_round k s ready made.0)

  pub next_ready : (k : ℕ) (s : Start) (r : Round) (next : Start) → Ready c s → round_made c k s ≡ Ok r → r.after ≡ goes_on next → Ready c next
  next_ready k s r next ready e h = let made = made_of c k s e in ready_on k s ready made.0 next (rw (← made.1) h)

-- a store and a copy ratio that document 01 allows are all that is asked of a call
pub demand : (c : Call) → Sized c.store → T (is_copy_ratio c.options.copy_init_ratio) → Demand c
demand c sized ratio =
    record {
      every = all_of (every round_after (round_made c) (λ k. Ready c) (λ k. FairRound c) (fair_made c sized ratio) (next_ready c sized ratio) c.options.iterations 0 beginning (begins c));
      front = front c;
      leaves = leaves c;
    }
