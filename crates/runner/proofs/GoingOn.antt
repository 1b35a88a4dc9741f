-- Stop and go on: two runs whose write calls are put out, the second on what the first left of row, tape and room, are one.
use Rattle.std.proofs.Common.{Bool, true, false, cond, List, ◌++◌, append_assoc, ◌≡◌, refl, sym, ap, ◌∙◌, ℕ, zero, suc, ◌+◌, ◌-◌, leb, arith, length, length-append, drop, zero-add, suc-add}
use Rattle.std.proofs.Math.Nat.{sub-zero}
use Rattle.answers.specs.declared.error.ExecutorError.TheVariants.{OutputFull}
use Rattle.answers.specs.declared.outcome.Outcome.{Outcome}
use Rattle.answers.specs.declared.outcome.Outcome.TheVariants.{Failed}
use Rattle.answers.specs.declared.outcome.Progress.{Progress}
use Rattle.answers.specs.declared.outcome.Progress.TheVariants.{Running, Ended}
use Rattle.rows.specs.Rows.{Row, Shape, pc_of, limit_of, memory_words, set_limit}
use Rattle.calls.specs.Calls.{completed}
use Rattle.calls.specs.declared.step.Step.{Step}
use Rattle.calls.specs.declared.step.Step.TheVariants as step
use Rattle.machine.specs.Steps.{stepped}
use Rattle.machine.specs.Runs.{Finished, stops, answer_of}
use Rattle.machine.specs.Writes.{bytes_from}
use Rattle.invariants.proofs.AlikeReading.{drawing_alike}
use Rattle.invariants.proofs.AlikeResumed.{Resumed, resumed}
use Rattle.invariants.proofs.GoingOn.{limit, made, left, in_two, Stopped, limit_then, count_then, limit_again, same_end, begun_again, first_stopped}
use Rattle.runner.specs.Serving.{Served, silent, preceded, served_by, served_for, served_of}
use Rattle.runner.proofs.Alike.{AgreedServed, served_for_alike}
use Rattle.runner.proofs.Completing.{served_of_run}
use Rattle.runner.proofs.Kept.{served_limit}
use Rattle.runner.proofs.Printing.{bytes_length}

-- what comes after a run that put out a text and still runs
unfoldable continued : (ℕ → ℕ → Row → Served) → ℕ → List ℕ → ℕ → Progress → ℕ → Row → Served
continued more room out pc Running used r = preceded out (more (room - length out) used r)
continued more room out pc (Ended o) used r = record { finished = stops (Ended o) pc used r; output = out }

ended : (more : ℕ → ℕ → Row → Served) (room : ℕ) (out : List ℕ) (pc : ℕ) (p : Progress) (o : Outcome) (used : ℕ) (r : Row) → p ≡ Ended o
    → continued more room out pc p used r ≡ record { finished = stops p pc used r; output = out }
unfolding continued
ended more room out pc p o used r e = rw e

abbrev followed_by : Served → ℕ → (ℕ → ℕ → Row → Served) → Served
followed_by x room more = continued more room x.output x.finished.ran.pc x.finished.ran.progress x.finished.ran.used x.finished.row

-- a text in front of both
preceded_followed : (room size : ℕ) (bytes out : List ℕ) → length bytes ≡ size → (more : ℕ → ℕ → Row → Served) (pc : ℕ) (p : Progress) (used : ℕ) (r : Row)
    → continued more room (bytes ++ out) pc p used r ≡ preceded bytes (continued more (room - size) out pc p used r)
unfolding continued
preceded_followed room size bytes out e more pc Running used r =
    let left : room - length (bytes ++ out) ≡ room - size - length out = omega (arith, length-append bytes out, e) in
    rw (left, append_assoc)
preceded_followed room size bytes out e more pc (Ended o) used r = refl

module _ (first more : ℕ → ℕ → Row → Served) where
  by_followed : (room pc : ℕ) (t : Step) (used : ℕ) (r : Row)
      → followed_by (served_by first room pc t used r) room more ≡ served_by (λ q u s. followed_by (first q u s) q more) room pc t used r
  unfolding served_by continued
  by_followed room pc step.Running used r = refl
  by_followed room pc (step.Write buffer size) used r = go (leb size room)
    where
      bytes : List ℕ
      bytes = bytes_from size buffer r

      rest : Served
      rest = first (room - size) used (completed size r)

      full : Served
      full = silent (stops (Ended (Failed OutputFull)) pc used r)

      go : (fits : Bool) → followed_by (cond fits (preceded bytes rest) full) room more ≡ cond fits (preceded bytes (followed_by rest (room - size) more)) full
      go true = preceded_followed room size bytes rest.output (bytes_length size buffer r) more rest.finished.ran.pc rest.finished.ran.progress rest.finished.ran.used rest.finished.row
      go false = refl
  by_followed room pc (step.Ended o) used r = refl

module _ (more more' : ℕ → ℕ → Row → Served) (each : (room used : ℕ) (r : Row) → more room used r ≡ more' room used r) where
  by_same : (room pc : ℕ) (t : Step) (used : ℕ) (r : Row) → served_by more room pc t used r ≡ served_by more' room pc t used r
  unfolding served_by
  by_same room pc step.Running used r = each room used r
  by_same room pc (step.Write buffer size) used r =
      ap (λ (x : Served). cond (leb size room) (preceded (bytes_from size buffer r) x) (silent (stops (Ended (Failed OutputFull)) pc used r)))
      (each (room - size) used (completed size r))
  by_same room pc (step.Ended o) used r = refl

-- n instructions and then m
served_split : (n m : ℕ) (tape : List ℕ) (room used : ℕ) (r : Row)
    → served_for (n + m) tape room used r ≡ followed_by (served_for n tape room used r) room (served_for m tape)
unfolding served_for continued
served_split zero m tape room used r =
    ap (λ (n : ℕ). served_for n tape room used r) (zero-add m) ∙ ap (λ (q : ℕ). served_for m tape q used r) (sym (sub-zero room))
served_split (suc n) m tape room used r =
    let x = stepped tape used r in
    ap (λ (n : ℕ). served_for n tape room used r) (suc-add n m)
    ∙ by_same (served_for (n + m) tape) (λ q u s. followed_by (served_for n tape q u s) q (served_for m tape)) (λ q u s. served_split n m tape q u s)
    room (pc_of r) x.stepped.step x.stepped.used x.row
    ∙ sym (by_followed (served_for n tape) (served_for m tape) room (pc_of r) x.stepped.step x.stepped.used x.row)

-- a run with the limit x, from where k words of the tape are used, on what is left of it
served_resumed : (k : ℕ) (tape : List ℕ) (x n room u v : ℕ) (r : Row) → u ≡ k + v
    → AgreedServed (Resumed k tape x (memory_words r)) (served_for n tape room u r) (served_for n (drop k tape) room v (set_limit x r))
served_resumed k tape x n room u v r e =
    let w = memory_words r in
    let R = Resumed k tape x w in
    served_for_alike w tape (drop k tape) R (drawing_alike w tape (drop k tape) R (resumed k tape x w)) n room u v r (set_limit x r)
    (record { memory = refl; used = e; other = refl })

module _ (a b : ℕ) (tape : List ℕ) (room : ℕ) (r : Row) (shape : Shape r.words r.marks) where
  abbrev first : Served
  first = served_of a tape room 0 r

  -- the single run, so far
  abbrev begun : Served
  begun = served_for (made a b r) tape room 0 (set_limit (limit a b r) r)

  so_far : AgreedServed (Resumed 0 tape (limit a b r) (memory_words r)) first begun
  unfolding served_of
  so_far =
      rw (limit_again (limit_of r + a) (limit a b r) r) at
      (served_resumed 0 tape (limit a b r) (made a b r) room 0 0 (set_limit (limit_of r + a) r) (omega arith))

  -- it has come as far as the first run, but for the limit
  begun_is : begun ≡ record { finished = record { row = set_limit (limit a b r) first.finished.row; ran = first.finished.ran }; output = first.output }
  begun_is = λ i. record { finished = begun_again so_far.runs i; output = sym so_far.output i }

  single : served_of (a + b) tape room 0 r
      ≡ continued (served_for (left a b r) tape) room first.output first.finished.ran.pc first.finished.ran.progress first.finished.ran.used
      (set_limit (limit a b r) first.finished.row)
  unfolding served_of
  single =
      rw (in_two a b r)
      (served_split (made a b r) (left a b r) tape room 0 (set_limit (limit a b r) r)
      ∙ ap (λ (x : Served). followed_by x room (served_for (left a b r) tape)) begun_is)

  module _ (still : first.finished.ran.progress ≡ Running) where
    abbrev second : Served
    second = served_of b (drop first.finished.ran.used tape) (room - length first.output) 0 first.finished.row

    stopped : Stopped a b r first.finished.row
    stopped =
        let e = served_of_run a tape room r (λ full. let p : Running ≡ Ended (Failed OutputFull) = sym still ∙ full in cc) in
        rw (← e) at (first_stopped a b tape r shape (ap (λ (x : Finished). x.ran.progress) (sym e) ∙ still))

    -- the run of what is left, from where the first stopped
    abbrev rest : Served
    rest = served_for (left a b r) tape (room - length first.output) first.finished.ran.used first.finished.row

    second_rest : AgreedServed (Resumed first.finished.ran.used tape (limit a b r) (memory_words first.finished.row)) rest second
    unfolding served_of
    second_rest =
        rw (count_then a b r first.finished.row stopped, limit_then a b r first.finished.row stopped.limit)
        (served_resumed first.finished.ran.used tape (limit a b r) (left a b r) (room - length first.output) first.finished.ran.used 0 first.finished.row (omega arith))

    -- both come to the same
    pub goes_on : let x = second.finished in
        record {
          finished = record { row = x.row; ran = answer_of x.ran.progress x.ran.pc (first.finished.ran.used + x.ran.used) };
          output = first.output ++ second.output;
        } ≡ served_of (a + b) tape room 0 r
    unfolding continued
    goes_on =
        let one = served_resumed 0 tape (limit a b r) (left a b r) (room - length first.output) first.finished.ran.used first.finished.ran.used first.finished.row (omega arith) in
        let two = second_rest in
        let s = single in
        rw (s, still) (λ i. record { finished = same_end one.runs two.runs i; output = first.output ++ (sym two.output ∙ one.output) i })

  -- the single run ends where the first did, and its row differs in the limit alone
  pub ends_alike : (o : Outcome) → first.finished.ran.progress ≡ Ended o
      → served_of (a + b) tape room 0 r
      ≡ record { finished = record { row = set_limit (limit_of first.finished.row + b) first.finished.row; ran = first.finished.ran }; output = first.output }
  ends_alike o e =
      single
      ∙ ended (served_for (left a b r) tape) room first.output first.finished.ran.pc first.finished.ran.progress o first.finished.ran.used _ e
      ∙ ap (λ (x : ℕ). record { finished = record { row = set_limit x first.finished.row; ran = first.finished.ran }; output = first.output })
      (sym (limit_then a b r first.finished.row (served_limit a tape room 0 r (omega (arith, shape)))))
