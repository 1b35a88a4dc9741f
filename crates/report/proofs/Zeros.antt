-- The front of a local array of zeros.
use Rattle.std.proofs.Common.{◌≡◌, ap, ◌∙◌, List, ℕ, ◌-◌, ◌≤◌, length, take, drop, replicate}
use Rattle.std.proofs.Math.ListN.{length-replicate}
use Rattle.laws.proofs.Fronts.{front_alike}

abbrev pub zeros : ℕ → List ℕ
zeros n = replicate n 0

-- the first n of k zeros, as they are lent
abbrev pub lent : ℕ → ℕ → List ℕ
lent n k = take (n - 0) (drop 0 (zeros k))

pub lent_length : (n k : ℕ) → n ≤ k → length (lent n k) ≡ n
lent_length n k h = ap length (front_alike n k 0 h) ∙ length-replicate n 0
