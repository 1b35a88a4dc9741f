-- A stepping stone between contracts: a text that was put into an output, after what was put before it. The output is still of the same bytes,
-- so that their owner sees what was written.
use Rattle.std.specs.Prelude.{◌≡◌, List, ℕ, length}
use Rattle.writing.specs.declared.Output.{Output}
use Rattle.writing.specs.Writing.{Wrote}

pub record Put (before : Output) (text : List ℕ) (after : Output) : Type 0 where
  pub same_bytes : after.bytes.ghost_name ≡ before.bytes.ghost_name
  pub wrote : Wrote before.bytes.now before.written text after.written after.bytes.now
  pub len : length after.bytes.now ≡ length before.bytes.now
