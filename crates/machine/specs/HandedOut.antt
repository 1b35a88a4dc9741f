-- A stepping stone between contracts: the bytes of a write call that is handed out lie in a memory of W words.
use Rattle.std.specs.Prelude.{ℕ, ◌+◌, ◌*◌, ◌≤◌}
use Rattle.calls.specs.declared.step.Step.{Step}
use Rattle.calls.specs.declared.step.Step.TheVariants.{Running, Write, Ended}

abbrev pub HandedOut : ℕ → Step → Type 0
HandedOut w Running = Unit {0}
HandedOut w (Write buffer size) = buffer + size ≤ 8 * w
HandedOut w (Ended o) = Unit {0}
