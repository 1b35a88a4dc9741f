-- The outcome of some runs, with one run more: their first bug stands, else its bug, else their first error, else its error.
use Rattle.std.proofs.Common.{true, false, cond, ◌≡◌, refl, sym, ap, ◌∙◌, List, [], ◌∷◌, ◌++◌, ℕ, suc, ◌+◌, arith, ltb, length}
use Rattle.answers.specs.declared.bug.Bug.{Bug}
use Rattle.answers.specs.declared.outcome.Outcome.TheVariants as outcome
use Rattle.answers.specs.declared.outcome.Progress.{Progress}
use Rattle.answers.specs.declared.outcome.Progress.TheVariants.{Running, Ended}
use Rattle.machine.specs.declared.run.Ran.{Ran}
use Rattle.machine.specs.Runs.{Finished}
use Rattle.answers.specs.declared.finding.Finding.{Finding}
use Rattle.answers.specs.declared.finding.Finding.TheVariants.{Nothing, Found, Failed, TapeShort, ScoresUnordered}
use Rattle.rounds.specs.Rounds.{bug_at, error_at, first_bug, first_error, outcome_of}

-- a bug stands against an error, and anything stands against nothing
abbrev precedence_of : Finding → ℕ
precedence_of Nothing = 0
precedence_of (Found bug i pc) = 2
precedence_of (Failed error i pc) = 1
precedence_of TapeShort = 1
precedence_of ScoresUnordered = 1

-- `new` where b has a lower precedence
abbrev unless : ℕ → Finding → Finding → Finding
unless precedence b new = cond (ltb (precedence_of b) precedence) new b

-- ---- the first bug or error of the runs stands; where they have none, so does what is given for that

first_bug_new : (i : ℕ) (runs : List Finished) (other new : Finding) → ltb (precedence_of other) 2 ≡ true
    → first_bug i runs new ≡ unless 2 (first_bug i runs other) new
unfolding first_bug
first_bug_new i [] other new h = rw h
first_bug_new i (x ∷ runs) other new h = go x.ran.progress (first_bug_new (suc i) runs other new h)
  where
    go : (p : Progress) → first_bug (suc i) runs new ≡ unless 2 (first_bug (suc i) runs other) new
        → bug_at p i x.ran.pc (first_bug (suc i) runs new) ≡ unless 2 (bug_at p i x.ran.pc (first_bug (suc i) runs other)) new
    go Running later = later
    go (Ended outcome.Exited) later = later
    go (Ended (outcome.Found bug)) later = refl
    go (Ended (outcome.Failed error)) later = later

first_error_new : (i : ℕ) (runs : List Finished) (new : Finding) → first_error i runs new ≡ unless 1 (first_error i runs Nothing) new
unfolding first_error
first_error_new i [] new = refl
first_error_new i (x ∷ runs) new = go x.ran.progress (first_error_new (suc i) runs new)
  where
    go : (p : Progress) → first_error (suc i) runs new ≡ unless 1 (first_error (suc i) runs Nothing) new
        → error_at p i x.ran.pc (first_error (suc i) runs new) ≡ unless 1 (error_at p i x.ran.pc (first_error (suc i) runs Nothing)) new
    go Running later = later
    go (Ended outcome.Exited) later = later
    go (Ended (outcome.Found bug)) later = later
    go (Ended (outcome.Failed error)) later = refl

error_no_bug : (i : ℕ) (runs : List Finished) → ltb (precedence_of (first_error i runs Nothing)) 2 ≡ true
unfolding first_error
error_no_bug i [] = refl
error_no_bug i (x ∷ runs) = go x.ran.progress (error_no_bug (suc i) runs)
  where
    go : (p : Progress) → ltb (precedence_of (first_error (suc i) runs Nothing)) 2 ≡ true
        → ltb (precedence_of (error_at p i x.ran.pc (first_error (suc i) runs Nothing))) 2 ≡ true
    go Running later = later
    go (Ended outcome.Exited) later = later
    go (Ended (outcome.Found bug)) later = later
    go (Ended (outcome.Failed error)) later = refl

-- a bug, else the first error
either : (b error new : Finding) → b ≡ unless 2 b error → unless 2 b (unless 1 error new) ≡ unless 1 b new
either Nothing error new h = ap (λ (f : Finding). unless 1 f new) (sym h)
either (Found bug i pc) error new h = refl
either (Failed x i pc) error new h = ap (λ (f : Finding). unless 1 f new) (sym h)
either TapeShort error new h = ap (λ (f : Finding). unless 1 f new) (sym h)
either ScoresUnordered error new h = ap (λ (f : Finding). unless 1 f new) (sym h)

-- what has no precedence is nothing, and what has not that of a bug is none
no_bug : (b : Finding) → ((bug : Bug) (row pc : ℕ) → b ≡ Found bug row pc → ⊥) → ltb (precedence_of b) 2 ≡ true
no_bug Nothing h = refl
no_bug (Found bug row pc) h = absurd (h bug row pc refl)
no_bug (Failed error row pc) h = refl
no_bug TapeShort h = refl
no_bug ScoresUnordered h = refl

some : (b : Finding) → (b ≡ Nothing → ⊥) → ltb (precedence_of b) 1 ≡ false
some Nothing h = absurd (h refl)
some (Found bug row pc) h = refl
some (Failed error row pc) h = refl
some TapeShort h = refl
some ScoresUnordered h = refl

-- ---- where `best` is the outcome of the runs before

module _ {best : Finding} (new : Finding) (before : List Finished) (e : best ≡ outcome_of before) where
  after_bug : (f : Finding) → first_bug 0 before f ≡ unless 2 best f
  after_bug f =
      first_bug_new 0 before (first_error 0 before Nothing) f (error_no_bug 0 before) ∙ ap (λ (b : Finding). unless 2 b f) (sym e)

  pub new_bug : ((bug : Bug) (row pc : ℕ) → best ≡ Found bug row pc → ⊥) → new ≡ first_bug 0 before new
  new_bug h = sym (after_bug new ∙ rw (no_bug best h))

  pub bug_stays : {bug : Bug} {row pc : ℕ} → best ≡ Found bug row pc → best ≡ first_bug 0 before new
  bug_stays h = sym (after_bug new ∙ rw h)

  after_error : first_bug 0 before (first_error 0 before new) ≡ unless 1 best new
  after_error =
      after_bug (first_error 0 before new)
      ∙ ap (λ (f : Finding). unless 2 best f) (first_error_new 0 before new)
      ∙ either best (first_error 0 before Nothing) new (e ∙ after_bug (first_error 0 before Nothing))

  pub new_error : best ≡ Nothing → new ≡ first_bug 0 before (first_error 0 before new)
  new_error h = sym (after_error ∙ rw h)

  pub outcome_stays : (best ≡ Nothing → ⊥) → best ≡ first_bug 0 before (first_error 0 before new)
  outcome_stays h = sym (after_error ∙ rw (some best h))

-- ---- one run more

bug_after : (i : ℕ) (runs : List Finished) (x : Finished) (other : Finding)
    → first_bug i (runs ++ (x ∷ [])) other ≡ first_bug i runs (bug_at x.ran.progress (i + length runs) x.ran.pc other)
unfolding first_bug
bug_after i [] x other = ap (λ (n : ℕ). bug_at x.ran.progress n x.ran.pc other) (omega arith)
bug_after i (y ∷ runs) x other =
    ap (λ (f : Finding). bug_at y.ran.progress i y.ran.pc f)
    (bug_after (suc i) runs x other ∙ ap (λ (n : ℕ). first_bug (suc i) runs (bug_at x.ran.progress n x.ran.pc other)) (omega arith))

error_after : (i : ℕ) (runs : List Finished) (x : Finished) (other : Finding)
    → first_error i (runs ++ (x ∷ [])) other ≡ first_error i runs (error_at x.ran.progress (i + length runs) x.ran.pc other)
unfolding first_error
error_after i [] x other = ap (λ (n : ℕ). error_at x.ran.progress n x.ran.pc other) (omega arith)
error_after i (y ∷ runs) x other =
    ap (λ (f : Finding). error_at y.ran.progress i y.ran.pc f)
    (error_after (suc i) runs x other ∙ ap (λ (n : ℕ). first_error (suc i) runs (error_at x.ran.progress n x.ran.pc other)) (omega arith))

-- the outcome of the runs before and of one more, which made this progress in row i
abbrev with_run : List Finished → ℕ → ℕ → Progress → Finding
with_run before i pc p = first_bug 0 before (bug_at p i pc (first_error 0 before (error_at p i pc Nothing)))

-- which is all of them, where that is the last run
pub outcome_with : {f : Finding} {row : ℕ} {ran : Ran} {p : Progress} (before : List Finished) (last : Finished) → row ≡ length before → ran ≡ last.ran
    → ran.progress ≡ p → f ≡ with_run before row ran.pc p → f ≡ outcome_of (before ++ (last ∷ []))
outcome_with {f} {row} {ran} before last n q k e =
    let i : row ≡ 0 + length before = omega arith in
    e
    ∙ ap (with_run before row ran.pc) (sym k)
    ∙ ap (λ (r : Ran). with_run before row r.pc r.progress) q
    ∙ ap (λ (j : ℕ). with_run before j last.ran.pc last.ran.progress) i
    ∙ sym (bug_after 0 before last (first_error 0 (before ++ (last ∷ [])) Nothing)
    ∙ ap (λ (o : Finding). first_bug 0 before (bug_at last.ran.progress (0 + length before) last.ran.pc o)) (error_after 0 before last Nothing))
