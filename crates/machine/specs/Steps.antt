-- One instruction of an executor ("Run and fetch" in document 01): depth grows by 1; fetch, decode, execute.
use Rattle.std.specs.Prelude.{cond, List, Option, Some, None, Result, Ok, Err, ℕ, ◌+◌, ◌/◌, ◌%◌, ◌^◌, eqb, ltb}
use Rattle.riscu.specs.Decoding.{decoded}
use Rattle.riscu.specs.declared.instruction.Instruction.{Instruction}
use Rattle.answers.specs.declared.error.NotSupportedReason.TheVariants.{FetchUninitializedWord}
use Rattle.answers.specs.declared.error.ExecutorError.{ExecutorError}
use Rattle.answers.specs.declared.error.ExecutorError.TheVariants.{NotSupported, InvalidInstructionEncoding, PcOutOfRange}
use Rattle.answers.specs.declared.outcome.Outcome.TheVariants.{Failed}
use Rattle.values.specs.declared.Value.{Value}
use Rattle.values.specs.declared.Value.TheVariants.{Concrete, Uninitialized}
use Rattle.rows.specs.Rows.{Row, pc_of, depth_of, memory_words, set_depth, memory_at}
use Rattle.execution.specs.Execution.{effect_in, applied, next_of}
use Rattle.execution.specs.declared.Next.{Next}
use Rattle.execution.specs.declared.Next.TheVariants as next
use Rattle.reading.specs.Reading.{Reached, running, ended}
use Rattle.calls.specs.Calls.{Called, step_to, system, completed}
use Rattle.calls.specs.declared.step.Step.{Step}
use Rattle.calls.specs.declared.step.Step.TheVariants as step

-- pc divisible by 8 takes the word's low half, any other pc the high half; 20 (1) on an uninitialised word
unfoldable pub half_at : ℕ → Value → Result ℕ ExecutorError
half_at pc (Concrete x) = Ok (cond (eqb (pc % 8) 0) (x % 2 ^ 32) (x / 2 ^ 32))
half_at pc Uninitialized = Err (NotSupported FetchUninitializedWord)

-- 23 if pc/8 is at or past W
unfoldable pub fetched : Row → Result ℕ ExecutorError
fetched r = cond (ltb (pc_of r / 8) (memory_words r)) (half_at (pc_of r) (memory_at r (pc_of r / 8))) (Err PcOutOfRange)

-- after an instruction's effect on the row
unfoldable pub followed : Next → List ℕ → ℕ → Row → Called
followed next.Instruction tape used r = step_to step.Running used r
followed next.Call tape used r = system tape used r
followed (next.End o) tape used r = step_to (step.Ended o) used r

-- 21 where no instruction is encoded
unfoldable pub executed : Option Instruction → List ℕ → ℕ → Row → Called
executed (Some i) tape used r = followed (next_of (effect_in i r)) tape used (applied (effect_in i r) r)
executed None tape used r = step_to (step.Ended (Failed InvalidInstructionEncoding)) used r

unfoldable pub interpreted : Result ℕ ExecutorError → List ℕ → ℕ → Row → Called
interpreted (Ok x) tape used r = executed (decoded x) tape used r
interpreted (Err e) tape used r = step_to (step.Ended (Failed e)) used r

abbrev pub deeper : Row → Row
deeper r = set_depth (depth_of r + 1) r

-- one instruction, up to the completion of a write call
unfoldable pub stepped : List ℕ → ℕ → Row → Called
stepped tape used r = interpreted (fetched (deeper r)) tape used (deeper r)

-- a write call that a step hands out is completed; its bytes go nowhere
unfoldable pub settled : Step → ℕ → Row → Reached
settled step.Running used r = running used r
settled (step.Write buffer size) used r = running used (completed size r)
settled (step.Ended o) used r = ended o used r

abbrev pub settled_call : Called → Reached
settled_call x = settled x.stepped.step x.stepped.used x.row

-- one instruction, whole
unfoldable pub advanced : List ℕ → ℕ → Row → Reached
advanced tape used r = settled_call (stepped tape used r)
