-- The rounds of a search: what is still to be searched from here is what was to be searched from the beginning.
use Rattle.std.proofs.Common.{◌≡◌, refl, sym, ap, ◌∙◌, subst, ℕ, suc, ◌+◌, ◌-◌, ◌^◌, ◌≤◌, ◌<◌, add-one, arith, Result, Ok, Err}
use Rattle.std.proofs.Math.Nat.{sub-zero}
use Rattle.store.specs.Store.{Sized}
use Rattle.store.specs.declared.layout.Layout.{Layout}
use Rattle.store.specs.declared.view.StoreMut.{StoreMut}
use Rattle.store.specs.Lent.{rows_lent, SameStore}
use Rattle.rounds.specs.Calls.{Call}
use Rattle.rounds.specs.Handed.{call_of, Callable, Holding, start_of}
use Rattle.rounds.specs.declared.call.Call.{Call as LentCall}
use Rattle.rounds.specs.declared.call.Ended.{Ended}
use Rattle.rounds.specs.declared.call.Start.{Start as StartByValue}
use Rattle.rounds.specs.Rounds.{Start, After, beginning, stored, Round, round_after, between, round_made, Searched}
use Rattle.rounds.specs.Series.{goes_on, with_filling, search_after, search_from}
use Rattle.rounds.proofs.Ages.{AgedStart, aged_begins, aged_next}
use Rattle.answers.specs.declared.finding.Finding.TheVariants.{Nothing}
use Rattle.running.specs.Running.{LimitsAllow}
use Rattle.round.specs.After.{round_with_filling, after_in}
use Rattle.search.specs.Searching.{searched_as}
use Rattle.search.proofs.Limits.{limits_allow}

-- what at most n rounds come to, from round k on
abbrev pub coming_to : Call → ℕ → ℕ → Start → Searched
coming_to c = search_from round_after (round_made c) (between c Nothing)

-- one round, and the rounds after it
search_round : (n k : ℕ) (c : Call) (s : Start)
    → coming_to c (suc n) k s ≡ search_after round_after (round_with_filling c k s) (λ next. coming_to c n (suc k) next)
unfolding search_from
search_round n k c s = refl

-- a round with its filling that goes on was made, and goes on
goes_made : (m : Result Round Searched) (next : Start) → with_filling round_after m ≡ goes_on next
    → (r : Round) × (m ≡ Ok r) × (r.after ≡ goes_on next)
goes_made (Ok r) next e = (r, refl, e)
goes_made (Err e) next h = cc

-- a search of n rounds before its round i, in a lent store
pub record Going (c : Call) (n i : ℕ) (s : StoreMut) (start : StartByValue) : Type 0 where
  pub cut : s.layout ≡ c.store
  pub holding : Holding s start.kept
  pub left : coming_to c (n - i) i (start_of s start) ≡ coming_to c n 0 beginning
  pub aged : AgedStart c i (start_of s start)

-- before the first round
pub begins : (c : Call) (n : ℕ) (s : StoreMut) → s.layout ≡ c.store → Holding s 0 → Going c n 0 s (record { kept = 0; used = 0 })
begins c n s cut holding =
    record {
      cut = cut;
      holding = holding;
      left = rw (sub-zero n);
      aged = aged_begins c;
    }

module _ {c : Call} {n i : ℕ} {s : StoreMut} {start : StartByValue} (going : Going c n i s start) where
  module _ (before : i < n) where
    pub going_limits : n < 2 ^ 32 → c.options.step_size < 2 ^ 32 → LimitsAllow c.options.step_size (start_of s start).kept
    going_limits few small = limits_allow c n i _ before few small going.aged.aged

    round_left : search_after round_after (round_with_filling c i (start_of s start)) (λ next. coming_to c (n - (i + 1)) (i + 1) next)
        ≡ coming_to c n 0 beginning
    round_left =
        let more : n - i ≡ suc (n - suc i) = omega arith in
        rw (add-one i) (sym (search_round (n - suc i) i c (start_of s start)) ∙ rw more at going.left)

    -- a round of the code's call, which is of the store as it is cut now
    module _ (asked : LentCall) (is : call_of c.store asked ≡ c) (t : StoreMut) (same : SameStore s t) where
      of_now : {after : After} → after ≡ round_with_filling (call_of s.layout asked) i (start_of s start)
          → after ≡ round_with_filling c i (start_of s start)
      of_now e =
          e
          ∙ ap (λ (l : Layout). round_with_filling (call_of l asked) i (start_of s start)) going.cut
          ∙ ap (λ (k : Call). round_with_filling k i (start_of s start)) is

      pub follows_on : (start' : StartByValue) → Callable c
          → after_in t (Ok start') ≡ round_with_filling (call_of s.layout asked) i (start_of s start)
          → Holding t start'.kept → Going c n (i + 1) t start'
      follows_on start' callable r holding =
          let e = of_now r in
          let next = start_of t start' in
          let made = goes_made (round_made c i (start_of s start)) next (sym e) in
          let sized = subst Sized going.cut s.fit.sized in
          record {
            cut = same.same_layout ∙ going.cut;
            holding = holding;
            left = rw (← e) at round_left;
            aged = rw (add-one i) (aged_next c sized callable.ratio i _ made.0 next going.aged made.1 made.2);
          }

      pub ends_with : (e : Ended) → after_in t (Err e) ≡ round_with_filling (call_of s.layout asked) i (start_of s start)
          → searched_as e (rows_lent t) (coming_to c n 0 beginning)
      ends_with e r = rw (← round_left, ← of_now r) (refl, refl)

  -- all rounds are done
  pub done : n ≤ i → searched_as (record { finding = Nothing; used = start.used }) (rows_lent s) (coming_to c n 0 beginning)
  unfolding search_from
  done after =
      let none : n - i ≡ 0 = omega arith in
      let last = rw none at going.left in
      rw (← last) (refl, going.holding.rest ∙ ap (λ (l : Layout). stored l (start_of s start).kept) going.cut)
