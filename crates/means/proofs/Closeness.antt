-- Two fractions that differ by at most so many units, a unit being one part in 2^55. A rounding is 4 units, and each is given 5, so that errors add up.
use Rattle.std.proofs.Common.{ℕ, ◌+◌, ◌*◌, ◌≤◌, ◌<◌, le_trans, le_of_eq, mul_comm, mul_assoc, mul-le-mul_right, arith, lit<}
use Rattle.means.specs.Means.{Fraction}
use Rattle.means.proofs.Fractions.{over, plus, Ratio, looser, through, ratio_plus, ratio_over}

-- 2^55
abbrev pub units : ℕ
units = 0x80_0000_0000_0000

-- each is at most the other and e units more
pub record Close (e : ℕ) (f g : Fraction) : Type 0 where
  pub above : Ratio units (units + e) f g
  pub below : Ratio units (units + e) g f

pub close_looser : {e : ℕ} {f g : Fraction} (d : ℕ) → e ≤ d → Close e f g → Close d f g
close_looser {e} d h c =
    let l : (units + e) * units ≤ (units + d) * units = omega arith in
    record { above = looser units (units + d) (lit< tt) l c.above; below = looser units (units + d) (lit< tt) l c.below }

pub close_plus : {e : ℕ} {f g f' g' : Fraction} → Close e f g → Close e f' g' → Close e (plus f f') (plus g g')
close_plus c d = record { above = ratio_plus c.above d.above; below = ratio_plus c.below d.below }

pub close_over : {e : ℕ} {f g : Fraction} (n : ℕ) → Close e f g → Close e (over n f) (over n g)
close_over n c = record { above = ratio_over n c.below; below = ratio_over n c.above }

-- f is g rounded once more: with u a unit, (1 + 4u)(1 + eu) ≤ 1 + (e + 5)u
pub once_more : {e : ℕ} {f g h : Fraction} → 0 < g.denominator → 4 * e ≤ units → Close 4 f g → Close e g h → Close (e + 5) f h
once_more {e} some small c d = record {
  above = looser units (units + (e + 5)) (lit< tt) (fits ((units + 4) * (units + e)) (room e small)) (through some c.above d.above);
  below = looser units (units + (e + 5)) (lit< tt) (fits ((units + e) * (units + 4)) (rw (mul_comm (units + e) (units + 4)) (room e small))) (through some d.below c.below);
}
  where
    room : (e : ℕ) → 4 * e ≤ units → (units + 4) * (units + e) ≤ (units + (e + 5)) * units
    room e h = omega arith

    fits : (a : ℕ) → a ≤ (units + (e + 5)) * units → a * units ≤ (units + (e + 5)) * (units * units)
    fits a h = le_trans (mul-le-mul_right units h) (le_of_eq (mul_assoc (units + (e + 5)) units units))
