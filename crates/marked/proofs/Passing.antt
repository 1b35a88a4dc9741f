-- Marks that are passed over: none, one stretch after another, a block.
use Rattle.std.proofs.Common.{inl, inr, List, ℕ, ◌-◌, ◌≤◌, arith, length, take, drop}
use Rattle.std.proofs.lemmas.Bool.{cases_lt}
use Rattle.std.proofs.lemmas.Grind.{common_steps}
use Rattle.marked.specs.Marks.{Unmarked}

pub nothing_passed : (marks : List ℕ) (i : ℕ) → i ≤ length marks → Unmarked marks i i
nothing_passed marks i h = record { forward = omega arith; within = h; zeros = λ k p q. absurd (omega arith) }

pub passed_both : {marks : List ℕ} {a b c : ℕ} → Unmarked marks a b → Unmarked marks b c → Unmarked marks a c
passed_both {marks} {a} {b} {c} s t =
    record {
      forward = omega arith;
      within = t.within;
      zeros = λ k p q. elim (cases_lt k b) [ inl h ↦ s.zeros k p h | inr h ↦ t.zeros k h q ];
    }

-- the marks up to j, of a block up to k that was looked at by itself
pub block_passed : {marks : List ℕ} {i j k : ℕ} → i ≤ j → j ≤ k → k ≤ length marks
    → Unmarked (take (k - i) (drop i marks)) 0 (length (take (k - i) (drop i marks))) → Unmarked marks i j
block_passed {marks} {i} {j} {k} f g h block =
    record { forward = f; within = omega arith; zeros = λ n p q. grind (arith, common_steps, block.zeros (n - i)) }
