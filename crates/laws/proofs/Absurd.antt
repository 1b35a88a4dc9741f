-- What cannot be.
use Rattle.std.proofs.Common.{◌≡◌, ℕ, arith}

-- anything follows where two constructors would be equal, which `cc` brings to 0 ≡ 1: `impossible cc`
pub impossible : {A : Type 0} → ◌≡◌ {A = ℕ} 0 1 → A
impossible e = absurd (omega arith)
