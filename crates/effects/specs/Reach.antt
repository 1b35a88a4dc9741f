-- A stepping stone between contracts: what an effect may name on a machine of W memory words, registers 1 to 31 and words below W.
use Rattle.std.specs.Prelude.{ℕ, ◌<◌}
use Rattle.values.specs.Values.{register_count}
use Rattle.effects.specs.declared.effect.Effect.{Effect}
use Rattle.effects.specs.declared.effect.Effect.TheVariants.{Assign, Load, Store, Jump, Call, End}

abbrev pub InReach : ℕ → Effect → Type 0
InReach w (Assign rd v next_pc) = (0 < rd) × (rd < register_count)
InReach w (Load rd m next_pc) = (0 < rd) × (rd < register_count) × (m < w)
InReach w (Store m v next_pc) = m < w
InReach w (Jump next_pc) = Unit {0}
InReach w Call = Unit {0}
InReach w (End outcome) = Unit {0}
