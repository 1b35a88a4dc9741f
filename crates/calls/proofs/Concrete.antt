-- Whether memory words are concrete, one after the other: the turns of all_concrete.
use Rattle.std.proofs.Common.{◌≡◌, ℕ, suc, ◌+◌, ◌-◌, ◌<◌, ◌≤◌, true, false, cond, arith}
use Rattle.values.specs.declared.Value.{Value}
use Rattle.values.specs.declared.Value.TheVariants.{Concrete, Uninitialized}
use Rattle.rows.specs.Rows.{Row, memory_at}
use Rattle.calls.specs.Calls.{is_concrete, all_concrete}

module _ (n k m : ℕ) (r : Row) where
  turn : k < n → all_concrete (n - k) (m + k) r ≡ cond (is_concrete (memory_at r (m + k))) (all_concrete (n - (k + 1)) (m + (k + 1)) r) false
  unfolding all_concrete
  turn h =
      let l : n - k ≡ suc (n - (k + 1)) = omega arith in
      let s : m + (k + 1) ≡ m + k + 1 = omega arith in
      rw (l, s)

  pub one_missing : (v : Value) → k < n → v ≡ memory_at r (m + k) → v ≡ Uninitialized → false ≡ all_concrete (n - k) (m + k) r
  one_missing v h e u = rw (turn h, ← e, u)

  pub one_passed : (v : Value) (x : ℕ) → k < n → v ≡ memory_at r (m + k) → v ≡ Concrete x → all_concrete (n - (k + 1)) (m + (k + 1)) r ≡ all_concrete (n - k) (m + k) r
  one_passed v x h e u = rw (turn h, ← e, u)

  pub all_passed : n ≤ k → true ≡ all_concrete (n - k) (m + k) r
  unfolding all_concrete
  all_passed h = let e : n - k ≡ 0 = omega arith in rw e

pub from_first : (n m : ℕ) (r : Row) → all_concrete (n - 0) (m + 0) r ≡ all_concrete n m r
from_first n m r = let a : n - 0 ≡ n = omega arith in let b : m + 0 ≡ m = omega arith in rw (a, b)
