-- The list of a call's rounds for fewer rounds, and what the call leaves after its last one.
use Rattle.std.proofs.Common.{Result, Ok, Err, List, [], ◌∷◌, ◌++◌, ◌≡◌, refl, sym, ap, ◌∙◌, ℕ, zero, suc, ◌≤◌, not-suc-le-zero, le_of_suc-le-suc, arith, length, take, length-append}
use Rattle.std.proofs.Math.Seq.{take-nil}
use Rattle.answers.specs.declared.finding.Finding.TheVariants.{Nothing}
use Rattle.rounds.specs.Calls.{Call, of_rounds}
use Rattle.rounds.specs.Rounds.{Start, beginning, stored, tape_short, filled, chosen_of, selected, Round, ran_on, round_of, round_after, between, round_made, rounds_of, Searched, searched}
use Rattle.rounds.specs.Series.{Next, goes_on, over, rounds_after, listed, with_filling, search_after, rounds, search_from}

-- whatever a round is
module _ {S R E : Type 0} (after : R → Next S E) (made : ℕ → S → Result R E) where
  -- the list for fewer rounds is the front of the list for more
  shorter : (i n k : ℕ) (s : S) → i ≤ n → rounds after made i k s ≡ take i (rounds after made n k s)
  unfolding rounds
  shorter zero n k s h = refl
  shorter (suc i) zero k s h = absurd (not-suc-le-zero h)
  shorter (suc i) (suc n) k s h = by (made k s) (λ t. shorter i n (suc k) t (le_of_suc-le-suc h))
    where
      few : S → List R
      few t = rounds after made i (suc k) t

      many : S → List R
      many t = rounds after made n (suc k) t

      follows : (a : Next S E) → ((t : S) → few t ≡ take i (many t)) → rounds_after after a few ≡ take i (rounds_after after a many)
      follows (goes_on t) more = more t
      follows (over e) more = sym (take-nil i)

      by : (m : Result R E) → ((t : S) → few t ≡ take i (many t)) → listed after m few ≡ take (suc i) (listed after m many)
      by (Ok r) more = ap (λ (l : List R). r ∷ l) (follows (after r) more)
      by (Err e) more = refl

  -- rounds of which the last goes on with `next` leave what is left between two rounds
  module _ (left : S → E) (r : R) (next : S) (e : after r ≡ goes_on next) where
    last_leaves : (before : List R) (k : ℕ) (s : S) → rounds after made (suc (length before)) k s ≡ before ++ (r ∷ [])
        → search_from after made left (suc (length before)) k s ≡ left next
    unfolding rounds search_from
    last_leaves [] k s = by (made k s)
      where
        by : (m : Result R E) → listed after m (λ t. []) ≡ r ∷ [] → search_after after (with_filling after m) left ≡ left next
        by (Ok q) h = let same : q ≡ r = cc in rw (same, e)
        by (Err f) h = cc
    last_leaves (b ∷ before) k s = by (made k s) (λ t. last_leaves before (suc k) t)
      where
        list : S → List R
        list t = rounds after made (suc (length before)) (suc k) t

        come : S → E
        come t = search_from after made left (suc (length before)) (suc k) t

        follows : (a : Next S E) → ((t : S) → list t ≡ before ++ (r ∷ []) → come t ≡ left next)
            → rounds_after after a list ≡ before ++ (r ∷ []) → search_after after a come ≡ left next
        follows (goes_on t) more h = more t h
        follows (over f) more h = absurd (omega (arith, simp length-append at (ap length h)))

        by : (m : Result R E) → ((t : S) → list t ≡ before ++ (r ∷ []) → come t ≡ left next)
            → listed after m list ≡ b ∷ (before ++ (r ∷ [])) → search_after after (with_filling after m) come ≡ left next
        by (Ok q) more h = follows (after q) more (cc)
        by (Err f) more h = cc

module _ (c : Call) where
  -- a round does not read how many rounds there are
  made_same : (n : ℕ) → round_made (of_rounds n c) ≡ round_made c
  unfolding round_made tape_short round_of ran_on filled selected chosen_of
  made_same n = refl

  same_rounds : (n : ℕ) → rounds_of (of_rounds n c) ≡ rounds round_after (round_made c) n 0 beginning
  same_rounds n = ap (λ (m : ℕ → Start → Result Round Searched). rounds round_after m n 0 beginning) (made_same n)

  same_search : (n : ℕ) → searched (of_rounds n c) ≡ search_from round_after (round_made c) (between c Nothing) n 0 beginning
  same_search n = ap (λ (m : ℕ → Start → Result Round Searched). search_from round_after m (between c Nothing) n 0 beginning) (made_same n)

  pub front : (n : ℕ) → n ≤ c.options.iterations → rounds_of (of_rounds n c) ≡ take n (rounds_of c)
  front n h = same_rounds n ∙ shorter round_after (round_made c) n c.options.iterations 0 beginning h

  pub leaves : (before : List Round) (r : Round) (next : Start) → rounds_of (of_rounds (suc (length before)) c) ≡ before ++ (r ∷ []) → r.after ≡ goes_on next
      → searched (of_rounds (suc (length before)) c) ≡ record { finding = Nothing; rows = stored c.store next.kept; used = next.used }
  leaves before r next h e =
      let n = suc (length before) in
      same_search n ∙ last_leaves round_after (round_made c) (between c Nothing) r next e before 0 beginning (sym (same_rounds n) ∙ h)
