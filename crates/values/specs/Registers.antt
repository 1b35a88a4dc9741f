-- Registers as they are lent.
use Rattle.std.specs.Prelude.{ℕ}
use Rattle.values.specs.Values.{value_at}
use Rattle.values.specs.declared.Slots.{Slots}
use Rattle.values.specs.declared.Value.{Value}

-- what register n holds
abbrev pub register : Slots → ℕ → Value
register slots n = value_at slots.words.now slots.marks.now n
