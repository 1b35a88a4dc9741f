-- The word `born` tells the truth: how old the line of every row is that a round runs or keeps, as one claim about the whole list of a call's rounds.
use Rattle.std.specs.Prelude.{List, [], ◌∷◌, ◌≡◌, ℕ, suc, ◌+◌, ◌*◌, ◌≤◌}
use Rattle.answers.specs.declared.outcome.Progress.TheVariants.{Running}
use Rattle.rows.specs.Rows.{Row, born_of, depth_of, limit_of}
use Rattle.machine.specs.Runs.{Finished, run_of}
use Rattle.rounds.specs.Calls.{Call}
use Rattle.rounds.specs.Demand.{All}
use Rattle.rounds.specs.Rounds.{Start, new_row, Round, rounds_of}
use Rattle.rounds.specs.Series.{goes_on}

-- P holds of each element and its place, counted from k
pub data Each {A : Type 0} (P : ℕ → A → Type 0) : ℕ → List A → Type 0 where
  no_more : {k : ℕ} → Each P k []
  one_more : {k : ℕ} {x : A} {xs : List A} → P k x → Each P (suc k) xs → Each P k (x ∷ xs)

module _ (c : Call) where
  -- the line of a row as round k begins: its first ancestor was created anew in round b, and a run of each round since led to it. A copy is its parent
  pub data Line (b : ℕ) : ℕ → Row → Type 0 where
    anew : Line b b (new_row c b)
    on : {k : ℕ} {r : Row} (used : ℕ) → Line b k r → Line b (suc k) (run_of c.options.step_size c.tape used r).row

  -- a row as round k begins: each round since its word `born` was one whole step
  pub record Aged (k : ℕ) (r : Row) : Type 0 where
    pub line : Line (born_of r) k r
    pub born : born_of r ≤ k
    pub depth : depth_of r + born_of r * c.options.step_size ≡ k * c.options.step_size
    pub limit : limit_of r ≡ depth_of r

  -- a row that round k has run, whatever it met: its limit is one step for each round from `born` to k, of which it has done those before k, and
  -- all if it is still running
  pub record AgedRun (k : ℕ) (x : Finished) : Type 0 where
    pub line : Line (born_of x.row) (suc k) x.row
    pub born : born_of x.row ≤ k
    pub limit : limit_of x.row + born_of x.row * c.options.step_size ≡ suc k * c.options.step_size
    pub not_before : k * c.options.step_size ≤ depth_of x.row + born_of x.row * c.options.step_size
    pub not_after : depth_of x.row ≤ limit_of x.row
    pub whole : x.ran.progress ≡ Running → Aged (suc k) x.row

  -- every row that round k runs, what its run leaves, and every row that is kept for the next
  pub record AgedRound (k : ℕ) (r : Round) : Type 0 where
    pub full : All (Aged k) r.full
    pub runs : All (AgedRun k) r.runs
    pub kept : (next : Start) → r.after ≡ goes_on next → All (Aged (suc k)) next.kept

  -- all rounds, counted from 0
  abbrev pub Ages : Type 0
  Ages = Each AgedRound 0 (rounds_of c)
