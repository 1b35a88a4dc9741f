-- Stored values: a word and a mark, 1 for a concrete word, 0 for an uninitialised one ("A row" in document 01).
use Rattle.std.specs.Prelude.{cond, List, ℕ, ◌*◌, ◌/◌, ◌%◌, ◌^◌, ◌≤◌, eqb, length, get_or}
use Rattle.values.specs.declared.Value.{Value}
use Rattle.values.specs.declared.Value.TheVariants.{Concrete, Uninitialized}

-- the value at place n
unfoldable pub value_at : List ℕ → List ℕ → ℕ → Value
value_at words marks n = cond (eqb (get_or marks n 0) 0) Uninitialized (Concrete (get_or words n 0))

-- byte k of a word, the lowest being byte 0
abbrev pub byte_of : ℕ → ℕ → ℕ
byte_of word k = word / 2 ^ (8 * k) % 256

-- how many registers a machine has
abbrev pub register_count : ℕ
register_count = 32

-- the registers at the front of some words and their marks
pub record RegisterFile (words marks : List ℕ) : Type 0 where
  pub in_words : register_count ≤ length words
  pub in_marks : register_count ≤ length marks
