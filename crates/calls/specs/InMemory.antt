-- A stepping stone between contracts: a buffer that passed its checks lies in a memory of w words.
use Rattle.std.specs.Prelude.{Result, Ok, Err, ℕ, ◌+◌, ◌*◌, ◌≤◌}
use Rattle.answers.specs.declared.outcome.Outcome.{Outcome}
use Rattle.calls.specs.declared.transfer.Buffer.{Buffer}

abbrev pub InMemory : ℕ → Result Buffer Outcome → Type 0
InMemory w (Ok b) = b.address + b.size ≤ 8 * w
InMemory w (Err o) = Unit {0}
