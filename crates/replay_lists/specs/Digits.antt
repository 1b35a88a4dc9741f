-- Lowercase hexadecimal digits, as bytes.
use Rattle.std.specs.Prelude.{ℕ, ◌-◌, ◌+◌, ◌&&◌, Bool, cond, nat_le, Option, Some, None}

-- whether a byte is from this one to that
abbrev pub is_from : ℕ → ℕ → ℕ → Bool
is_from first last byte = nat_le first byte && nat_le byte last

-- what a digit stands for; `0` is 48, and `a` is 97
unfoldable pub digit_of : ℕ → Option ℕ
digit_of byte = cond (is_from 48 57 byte) (Some (byte - 48)) (cond (is_from 97 102 byte) (Some (byte - 97 + 10)) None)
