-- The loop over full words: what is left to read, at each turn.
use Rattle.std.proofs.Common.{List, ◌≡◌, sym, ap, ◌∙◌, ℕ, suc, ◌+◌, ◌-◌, ◌<◌, ◌≤◌, arith}
use Rattle.answers.specs.declared.outcome.Outcome.{Outcome}
use Rattle.answers.specs.declared.outcome.Progress.{Progress}
use Rattle.answers.specs.declared.outcome.Progress.TheVariants.{Running, Ended}
use Rattle.rows.specs.Rows.{Row, log_start}
use Rattle.reading.specs.Reading.{Reached, running, ended, onwards, ◌then_on◌, drawn, full_word, full_words}

-- k of n words are read, and x is what reading the next comes to
module _ (n k m : ℕ) (tape : List ℕ) (used : ℕ) (r : Row) (x : Reached) (more : k < n) (read : x ≡ full_word (drawn (log_start r) tape used r) (m + k) used r) where
  turn : full_words (n - k) tape (m + k) used r ≡ x then_on full_words (n - (k + 1)) tape (m + (k + 1))
  unfolding full_words
  turn =
      let left : n - k ≡ suc (n - (k + 1)) = omega arith in
      let next : m + (k + 1) ≡ m + k + 1 = omega arith in
      rw (left, next) (ap (λ (y : Reached). y then_on full_words (n - (k + 1)) tape (m + k + 1)) (sym read))

  turn_by : (p : Progress) → x.moved.progress ≡ p → onwards (full_words (n - (k + 1)) tape (m + (k + 1))) p x.moved.used x.row ≡ full_words (n - k) tape (m + k) used r
  turn_by p e = sym (turn ∙ ap (λ (q : Progress). onwards (full_words (n - (k + 1)) tape (m + (k + 1))) q x.moved.used x.row) e)

  pub read_on : x.moved.progress ≡ Running → full_words (n - (k + 1)) tape (m + (k + 1)) x.moved.used x.row ≡ full_words (n - k) tape (m + k) used r
  unfolding onwards
  read_on e = turn_by Running e

  pub read_ended : (o : Outcome) → x.moved.progress ≡ Ended o → ended o x.moved.used x.row ≡ full_words (n - k) tape (m + k) used r
  unfolding onwards
  read_ended o e = turn_by (Ended o) e

-- no word is left
pub read_all : (n k m : ℕ) (tape : List ℕ) (used : ℕ) (r : Row) → n ≤ k → running used r ≡ full_words (n - k) tape (m + k) used r
unfolding full_words
read_all n k m tape used r h = let left : n - k ≡ 0 = omega arith in rw left

-- every word is left
pub read_none : (n m : ℕ) (tape : List ℕ) (used : ℕ) (r : Row) → full_words (n - 0) tape (m + 0) used r ≡ full_words n tape m used r
read_none n m tape used r =
    let left : n - 0 ≡ n = omega arith in
    let first : m + 0 ≡ m = omega arith in
    rw (left, first)
