-- A stepping stone between contracts: a text written at a place of a lent output. For the parts of a line, each of which starts where the one before it ended.
use Rattle.std.specs.Prelude.{◌≡◌, List, ◌++◌, ℕ, ◌+◌, ◌≤◌, length, take, drop}

-- the output with a text in it from index at on
unfoldable pub written_at : List ℕ → ℕ → List ℕ → List ℕ
written_at out at text = take at out ++ text ++ drop (at + length text) out

-- a text that out has room for was written from index at on: next is the index after it, and out' what out then holds
pub record Wrote (out : List ℕ) (at : ℕ) (text : List ℕ) (next : ℕ) (out' : List ℕ) : Type 0 where
  pub place : next ≡ at + length text
  pub room : next ≤ length out
  pub bytes : out' ≡ written_at out at text
