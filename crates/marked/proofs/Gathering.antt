-- `|` over marks is 0 only if all of them are.
use Rattle.std.proofs.Common.{◌≡◌, List, [], ◌∷◌, ◌++◌, ℕ, arith, length, lit≤, bit_or}
use Rattle.std.proofs.lemmas.Nat.{le_or_l, le_or_r}
use Rattle.std.proofs.lemmas.Grind.{common_steps}
use Rattle.marked.specs.Marks.{Unmarked}

pub record Gathered (seen : List ℕ) (any : ℕ) : Type 0 where
  pub none : any ≡ 0 → Unmarked seen 0 (length seen)

pub nothing_gathered : Gathered [] 0
nothing_gathered = record { none = λ e. record { forward = lit≤ tt; within = lit≤ tt; zeros = λ k p q. absurd (omega arith) } }

pub gathered_more : {seen : List ℕ} {any both : ℕ} (mark : ℕ) → Gathered seen any → both ≡ bit_or any mark → Gathered (seen ++ (mark ∷ [])) both
gathered_more {seen} {any} mark g b =
    record {
      none = λ e.
          let before = g.none (omega (arith, le_or_l any mark)) in
          let last : mark ≡ 0 = omega (arith, le_or_r any mark) in
          record { forward = omega arith; within = omega arith; zeros = λ k p q. grind (arith, common_steps, before.zeros k) };
    }
