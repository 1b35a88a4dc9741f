-- Floats that are finite and have no minus sign.
use Rattle.std.proofs.Common.{Bool, true, false, ℕ, ◌<◌, mul-pos, T, ltb→lt, lt→ltb, ℤ, Float}
use Rattle.std.specs.Float.{nan, inf, fin}
use Rattle.std.specs.Float.Ieee.{up}
use Rattle.std.specs.Float.Ieee.Fits.{up_pos}
use Rattle.std.specs.Float.Ieee.Positive.{num, positive, first_pos}

abbrev pub plain : Float → Bool
plain nan = false
plain (inf s) = false
plain (fin true m e) = false
plain (fin false m e) = true

pub positive_plain : (x : Float) → T (positive x) → T (plain x)
positive_plain nan p = p
positive_plain (inf s) p = p
positive_plain (fin true m e) p = p
positive_plain (fin false m e) p = tt

pub plain_positive : (x : Float) → T (plain x) → 0 < num x → T (positive x)
plain_positive nan p h = p
plain_positive (inf s) p h = p
plain_positive (fin true m e) p h = p
plain_positive (fin false m e) p h = lt→ltb 0 m (first_pos m (up e) h)

pub positive_num : (x : Float) → T (positive x) → 0 < num x
positive_num nan p = absurd p
positive_num (inf s) p = absurd p
positive_num (fin true m e) p = absurd p
positive_num (fin false m e) p = mul-pos (ltb→lt 0 m p) (up_pos e)

-- a claim about two of them, from the claim about their parts
pub both_plain : (P : Float → Float → Type 0) → ((m : ℕ) (e : ℤ) (n : ℕ) (d : ℤ) → P (fin false m e) (fin false n d)) → (x y : Float) → T (plain x) → T (plain y) → P x y
both_plain P h nan y p q = absurd p
both_plain P h (inf s) y p q = absurd p
both_plain P h (fin true m e) y p q = absurd p
both_plain P h (fin false m e) nan p q = absurd q
both_plain P h (fin false m e) (inf t) p q = absurd q
both_plain P h (fin false m e) (fin true n d) p q = absurd q
both_plain P h (fin false m e) (fin false n d) p q = h m e n d
