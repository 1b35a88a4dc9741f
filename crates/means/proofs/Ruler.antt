-- Scores as a ruler: where one score is at most another, so is its exact mean, up to one part in 2^30.
use Rattle.std.proofs.Common.{T, lit<, lit≤, Float}
use Rattle.std.specs.Float.Ieee.{le}
use Rattle.std.specs.Float.Ieee.Positive.{den_pos, le→cross}
use Rattle.means.specs.Means.{Fraction, Scores, AtMost}
use Rattle.means.proofs.Fractions.{Ratio, as_ratio, looser, through}
use Rattle.means.proofs.Rounding.{value}

-- f is near s, s is at most t, and t is near g
pub ruler : (s t : Float) (f g : Fraction) → Scores s f → Scores t g → T (le s t) → AtMost f g
ruler s t f g a b order =
    let low : Ratio 0xffff_ffff 0x1_0000_0000 f (value s) = record { cross = a.lower } in
    let mid : Ratio 1 1 (value s) (value t) = as_ratio (value s) (value t) (le→cross s t a.finite b.finite order) in
    let high : Ratio 0x1_0000_0000 0x1_0000_0001 (value t) g = record { cross = b.upper } in
    (looser _ _ (lit< tt) (lit≤ tt) (through (den_pos t) (through (den_pos s) low mid) high)).cross
