-- An effect carried out on a row.
use Rattle.riscu.specs.declared.instruction.Instruction.{Instruction}
use Rattle.effects.specs.Effects.{effect_of}
use Rattle.effects.specs.declared.effect.Effect.{Effect}
use Rattle.effects.specs.declared.effect.Effect.TheVariants as effect
use Rattle.execution.specs.declared.Next.{Next}
use Rattle.execution.specs.declared.Next.TheVariants as next
use Rattle.rows.specs.Rows.{Row, pc_of, memory_words, set_pc, slot_at, set_slot, memory_at, set_memory}

-- what an instruction does in a row
unfoldable pub effect_in : Instruction → Row → Effect
effect_in i r = effect_of i (pc_of r) (slot_at r) (memory_words r)

-- the row after an effect; a call is carried out by the layer above, and an end changes nothing
unfoldable pub applied : Effect → Row → Row
applied (effect.Assign rd v next_pc) r = set_pc next_pc (set_slot rd v r)
applied (effect.Load rd m next_pc) r = set_pc next_pc (set_slot rd (memory_at r m) r)
applied (effect.Store m v next_pc) r = set_pc next_pc (set_memory m v r)
applied (effect.Jump next_pc) r = set_pc next_pc r
applied effect.Call r = r
applied (effect.End outcome) r = r

abbrev pub next_of : Effect → Next
next_of (effect.Assign rd v next_pc) = next.Instruction
next_of (effect.Load rd m next_pc) = next.Instruction
next_of (effect.Store m v next_pc) = next.Instruction
next_of (effect.Jump next_pc) = next.Instruction
next_of effect.Call = next.Call
next_of (effect.End outcome) = next.End outcome
