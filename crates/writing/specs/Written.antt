-- A lent output with a text at its front, if it has the room; what follows the text stays.
use Rattle.std.specs.Prelude.{List, ◌++◌, ℕ, length, drop}

abbrev pub written : List ℕ → List ℕ → List ℕ
written text out = text ++ drop (length text) out
