-- Stop and go on: a run of a instructions, and then one of b on the row that it left with the rest of the tape, are one run of a + b.
use Rattle.std.proofs.Common.{List, ◌≡◌, refl, sym, ap, ◌∙◌, ℕ, zero, suc, ◌+◌, ◌-◌, arith, drop, length-set, get_or-set_other, zero-add, suc-add}
use Rattle.std.proofs.Math.Seq.{set-set}
use Rattle.answers.specs.declared.outcome.Outcome.{Outcome}
use Rattle.answers.specs.declared.outcome.Progress.{Progress}
use Rattle.answers.specs.declared.outcome.Progress.TheVariants.{Running, Ended}
use Rattle.rows.specs.Rows.{Row, row, Shape, pc_of, depth_of, limit_of, memory_words, set_limit}
use Rattle.machine.specs.Steps.{advanced}
use Rattle.machine.specs.Runs.{Finished, answer_of, continued, run_for, run_of}
use Rattle.invariants.proofs.Limits.{run_limit, running_depth}
use Rattle.invariants.proofs.AlikeReading.{drawing_alike}
use Rattle.invariants.proofs.AlikeResumed.{Resumed, resumed}
use Rattle.invariants.proofs.AlikeRuns.{AgreedRuns, run_for_alike}

-- what a run came to, and what comes after it where it still runs
abbrev followed_by : Finished → (ℕ → Row → Finished) → Finished
followed_by x more = continued more x.ran.pc x.ran.progress x.ran.used x.row

continued_followed : (first more : ℕ → Row → Finished) (pc : ℕ) (p : Progress) (used : ℕ) (r : Row)
    → followed_by (continued first pc p used r) more ≡ continued (λ u s. followed_by (first u s) more) pc p used r
unfolding continued
continued_followed first more pc Running used r = refl
continued_followed first more pc (Ended o) used r = refl

continued_same : (more more' : ℕ → Row → Finished) → ((used : ℕ) (r : Row) → more used r ≡ more' used r) → (pc : ℕ) (p : Progress) (used : ℕ) (r : Row)
    → continued more pc p used r ≡ continued more' pc p used r
unfolding continued
continued_same more more' each pc Running used r = each used r
continued_same more more' each pc (Ended o) used r = refl

-- n instructions and then m
run_split : (n m : ℕ) (tape : List ℕ) (used : ℕ) (r : Row) → run_for (n + m) tape used r ≡ followed_by (run_for n tape used r) (run_for m tape)
unfolding run_for continued
run_split zero m tape used r = ap (λ (n : ℕ). run_for n tape used r) (zero-add m)
run_split (suc n) m tape used r =
    let x = advanced tape used r in
    ap (λ (n : ℕ). run_for n tape used r) (suc-add n m)
    ∙ continued_same (run_for (n + m) tape) (λ u s. followed_by (run_for n tape u s) (run_for m tape)) (λ u s. run_split n m tape u s) (pc_of r) x.moved.progress x.moved.used x.row
    ∙ sym (continued_followed (run_for n tape) (run_for m tape) (pc_of r) x.moved.progress x.moved.used x.row)

-- a run with the limit x, from where k words of the tape are used, on what is left of it
run_resumed : (k : ℕ) (tape : List ℕ) (x n u v : ℕ) (r : Row) → u ≡ k + v
    → AgreedRuns (Resumed k tape x (memory_words r)) (run_for n tape u r) (run_for n (drop k tape) v (set_limit x r))
run_resumed k tape x n u v r e =
    let w = memory_words r in
    let R = Resumed k tape x w in
    run_for_alike w tape (drop k tape) R (drawing_alike w tape (drop k tape) R (resumed k tape x w)) n u v r (set_limit x r)
    (record { memory = refl; used = e; other = refl })

-- what is the same of two runs that agree with a third, one of them on the rest of the tape
pub same_end : {k x w : ℕ} {tape : List ℕ} {f y z : Finished} → AgreedRuns (Resumed 0 tape x w) f z → AgreedRuns (Resumed k tape x w) f y
    → record { row = y.row; ran = answer_of y.ran.progress y.ran.pc (k + y.ran.used) } ≡ z
same_end {k} {x} {w} {tape} {f} {y} {z} one two =
    let used : k + y.ran.used ≡ z.ran.used = omega (arith, one.rows.used, two.rows.used) in
    λ i. record {
      row = (two.rows.other ∙ sym one.rows.other) i;
      ran = answer_of ((sym two.progress ∙ one.progress) i) ((sym two.pc ∙ one.pc) i) (used i);
    }

-- a run that agrees with another but for the limit
pub begun_again : {x w : ℕ} {tape : List ℕ} {f z : Finished} → AgreedRuns (Resumed 0 tape x w) f z → z ≡ record { row = set_limit x f.row; ran = f.ran }
begun_again {x} {w} {tape} {f} {z} one =
    let used : z.ran.used ≡ f.ran.used = omega (arith, one.rows.used) in
    λ i. record { row = one.rows.other i; ran = answer_of (sym one.progress i) (sym one.pc i) (used i) }

-- of a run of a + b instructions from r
module _ (a b : ℕ) (r : Row) where
  -- its limit
  abbrev pub limit : ℕ
  limit = limit_of r + (a + b)

  -- how many instructions a run of a makes that still runs, and how many are left
  abbrev pub made : ℕ
  made = limit_of r + a - depth_of r

  abbrev pub left : ℕ
  left = limit - (depth_of r + made)

  pub in_two : limit - depth_of r ≡ made + left
  in_two = omega arith

  -- where a run of a stops
  pub record Stopped (s : Row) : Type 0 where
    pub limit : limit_of s ≡ limit_of r + a
    pub depth : depth_of s ≡ depth_of r + made

  pub limit_then : (s : Row) → limit_of s ≡ limit_of r + a → limit_of s + b ≡ limit
  limit_then s e = omega arith

  pub count_then : (s : Row) → Stopped s → limit_of s + b - depth_of s ≡ left
  count_then s e = omega (arith, e.limit, e.depth)

pub limit_again : (x y : ℕ) (s : Row) → set_limit y (set_limit x s) ≡ set_limit y s
limit_again x y s = ap (λ (l : List ℕ). row l s.marks) (set-set s.words 3 x y)

module _ (a b : ℕ) (tape : List ℕ) (r : Row) (shape : Shape r.words r.marks) where
  abbrev first : Finished
  first = run_of a tape 0 r

  -- the single run, so far
  abbrev begun : Finished
  begun = run_for (made a b r) tape 0 (set_limit (limit a b r) r)

  so_far : AgreedRuns (Resumed 0 tape (limit a b r) (memory_words r)) first begun
  unfolding run_of
  so_far =
      rw (limit_again (limit_of r + a) (limit a b r) r) at
      (run_resumed 0 tape (limit a b r) (made a b r) 0 0 (set_limit (limit_of r + a) r) (omega arith))

  begun_used : first.ran.used ≡ begun.ran.used
  begun_used = let e = so_far.rows.used in omega arith

  single : run_of (a + b) tape 0 r ≡ followed_by begun (run_for (left a b r) tape)
  unfolding run_of
  single = rw (in_two a b r) (run_split (made a b r) (left a b r) tape 0 (set_limit (limit a b r) r))

  pub first_limit : limit_of first.row ≡ limit_of r + a
  first_limit = run_limit a tape 0 r shape

  module _ (still : first.ran.progress ≡ Running) where
    pub first_stopped : Stopped a b r first.row
    unfolding run_of
    first_stopped =
        let long = length-set r.words 3 (limit_of r + a) in
        let depth = get_or-set_other r.words 3 2 (limit_of r + a) 0 (λ e. omega arith) in
        record {
          limit = first_limit;
          depth = running_depth (made a b r) tape 0 (set_limit (limit_of r + a) r) (omega arith) still ∙ omega arith;
        }

    -- the run of what is left, from where the first stopped
    abbrev rest : Finished
    rest = run_for (left a b r) tape first.ran.used first.row

    single_rest : AgreedRuns (Resumed 0 tape (limit a b r) (memory_words first.row)) rest (run_of (a + b) tape 0 r)
    unfolding continued
    single_rest =
        let s = single in
        let p : begun.ran.progress ≡ Running = sym so_far.progress ∙ still in
        rw (s, p, so_far.rows.other, ← begun_used) (run_resumed 0 tape (limit a b r) (left a b r) first.ran.used first.ran.used first.row (omega arith))

    second_rest : AgreedRuns (Resumed first.ran.used tape (limit a b r) (memory_words first.row)) rest (run_of b (drop first.ran.used tape) 0 first.row)
    unfolding run_of
    second_rest =
        rw (count_then a b r first.row first_stopped, limit_then a b r first.row first_limit)
        (run_resumed first.ran.used tape (limit a b r) (left a b r) first.ran.used 0 first.row (omega arith))

    -- both come to the same
    pub goes_on : let x = run_of b (drop first.ran.used tape) 0 first.row in
        record { row = x.row; ran = answer_of x.ran.progress x.ran.pc (first.ran.used + x.ran.used) } ≡ run_of (a + b) tape 0 r
    goes_on = same_end single_rest second_rest

  ended : (o : Outcome) → begun.ran.progress ≡ Ended o → followed_by begun (run_for (left a b r) tape) ≡ begun
  unfolding continued
  ended o p = rw p

  -- the single run ends where the first did, and its row differs in the limit alone
  pub ends_alike : (o : Outcome) → first.ran.progress ≡ Ended o
      → run_of (a + b) tape 0 r ≡ record { row = set_limit (limit_of first.row + b) first.row; ran = first.ran }
  ends_alike o e =
      single ∙ ended o (sym so_far.progress ∙ e) ∙ begun_again so_far ∙ ap (λ (x : ℕ). record { row = set_limit x first.row; ran = first.ran }) (sym (limit_then a b r first.row first_limit))
