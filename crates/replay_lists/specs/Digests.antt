-- The digest of words and marks.
use Rattle.std.specs.Prelude.{ℕ, ◌*◌, ◌/◌, ◌%◌, ◌^◌, List, fold, bit_or, bit_xor}

abbrev pub start : ℕ
start = 0x9e37_79b9_7f4a_7c15

-- 64 bits turned to the left by 23
abbrev pub turned : ℕ → ℕ
turned x = bit_or (x * 2 ^ 23 % 2 ^ 64) (x / 2 ^ 41)

-- a digest with one number more: by xor, then turned, then times 33
unfoldable pub put : ℕ → ℕ → ℕ
put digest number = turned (bit_xor digest number) * 33 % 2 ^ 64

-- with all of a list, the first first
abbrev pub put_all : ℕ → List ℕ → ℕ
put_all digest ns = fold put digest ns

-- words first, then marks
abbrev pub digest_of : List ℕ → List ℕ → ℕ
digest_of words marks = put_all (put_all start words) marks
