-- The two ways on after filling: the round ends with 8, or the filled rows run.
use Rattle.std.proofs.Common.{◌≡◌, refl, sym, ◌∙◌, Bool, true, false, cond, List, ℕ, ◌+◌, ◌<◌, ◌^◌, Result, Ok, Err}
use Rattle.rows.specs.Rows.{Row}
use Rattle.store.specs.Store.{Sized}
use Rattle.answers.specs.declared.finding.Finding.TheVariants as finding
use Rattle.rounds.specs.Calls.{Call}
use Rattle.rounds.specs.Rounds.{Start, stored, copies, tape_short, filled, After, ends, ran_on, round_of, round_after, between, round_made}
use Rattle.rounds.specs.Series.{with_filling}
use Rattle.rounds.specs.declared.call.Ended.{Ended}
use Rattle.filling.specs.Filling.{filling, after_filling}
use Rattle.running.specs.Running.{LimitsAllow}
use Rattle.round.specs.After.{round_with_filling}
use Rattle.round.proofs.Limits.{filled_allow}

module _ (c : Call) (k : ℕ) (s : Start) {rows : List Row} (left : rows ≡ after_filling c k s) {answer : Result ℕ Ended} (is : answer ≡ filling c s) where
  -- how a search ends that is short of tape words
  abbrev short : Ended
  short = record { finding = finding.TapeShort; used = s.used }

  pub short_round : {e : Ended} → answer ≡ Err e → ends e.finding rows e.used ≡ round_with_filling c k s
  unfolding filling after_filling round_made
  short_round {e} h = by (tape_short c s) (sym h ∙ is) left
    where
      by : (b : Bool) → Err e ≡ cond b (Err short) (Ok (s.used + copies c s))
          → rows ≡ cond b (stored c.store s.kept) (filled c k s)
          → ends e.finding rows e.used ≡ with_filling round_after (cond b (Err (between c finding.TapeShort s)) (Ok (round_of c k s)))
      by true h r = let same : e ≡ short = cc in rw (same, r)
      by false h r = cc

  module _ {used : ℕ} (full : answer ≡ Ok used) where
    not_short : tape_short c s ≡ false
    unfolding filling
    not_short = by (tape_short c s) (sym full ∙ is)
      where
        by : (b : Bool) → Ok used ≡ cond b (Err short) (Ok (s.used + copies c s)) → b ≡ false
        by true e = cc
        by false e = refl

    is_filled : rows ≡ filled c k s
    unfolding after_filling
    is_filled = rw not_short at left

    used_is : used ≡ s.used + copies c s
    unfolding filling
    used_is = let e : Ok used ≡ Ok (s.used + copies c s) = rw not_short at (sym full ∙ is) in cc

    pub filled_limits : Sized c.store → c.options.step_size < 2 ^ 32 → LimitsAllow c.options.step_size s.kept
        → LimitsAllow c.options.step_size rows
    filled_limits sized small h = rw is_filled (filled_allow c.options.step_size c k s sized small h)

    pub full_round : {t : After} → t ≡ (ran_on c.options c.tape used rows).after → t ≡ round_with_filling c k s
    unfolding round_made round_of
    full_round e = rw (not_short, ← is_filled, ← used_is) e
