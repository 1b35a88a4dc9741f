-- The system calls on a row ("Executing" in document 01): brk, read, write, exit, and any other.
use Rattle.std.specs.Prelude.{ℕ, zero, suc, ◌+◌, ◌/◌, ◌%◌, Bool, true, false, cond, List, Result, Ok, Err, ◌==◌, ◌&&◌, ◌*◌, nat_lt, nat_le}
use Rattle.answers.specs.declared.bug.Bug.TheVariants.{AccessToUninitializedMemory, AccessToOutOfRangeAddress, ExitCodeGreaterZero}
use Rattle.answers.specs.declared.bug.UninitializedMemoryAccessReason.TheVariants.{ReadUninitializedMemoryAddress}
use Rattle.answers.specs.declared.error.NotSupportedReason.{NotSupportedReason}
use Rattle.answers.specs.declared.error.NotSupportedReason.TheVariants as reason
use Rattle.answers.specs.declared.error.ExecutorError.TheVariants.{NotSupported}
use Rattle.answers.specs.declared.outcome.Outcome.{Outcome}
use Rattle.answers.specs.declared.outcome.Outcome.TheVariants.{Exited, Found, Failed}
use Rattle.answers.specs.declared.outcome.Progress.{Progress}
use Rattle.answers.specs.declared.outcome.Progress.TheVariants.{Running, Ended}
use Rattle.effects.specs.Effects.{following}
use Rattle.calls.specs.CallNumbers.{syscall_id}
use Rattle.calls.specs.declared.number.SyscallId.{SyscallId}
use Rattle.calls.specs.declared.number.SyscallId.TheVariants as call
use Rattle.values.specs.declared.Value.{Value}
use Rattle.values.specs.declared.Value.TheVariants.{Concrete, Uninitialized}
use Rattle.rows.specs.Rows.{Row, pc_of, break_of, memory_words, set_pc, set_break, slot_at, set_slot, memory_at}
use Rattle.calls.specs.declared.transfer.Buffer.{Buffer}
use Rattle.calls.specs.declared.transfer.Reasons.{Reasons}
use Rattle.calls.specs.declared.step.Step.{Step}
use Rattle.calls.specs.declared.step.Step.TheVariants as step
use Rattle.reading.specs.Reading.{Reached, running, ended, ◌then_on◌, bytes}

-- registers a0, a1, a2 and a7
abbrev pub a0 : ℕ
a0 = 10

abbrev pub a1 : ℕ
a1 = 11

abbrev pub a2 : ℕ
a2 = 12

abbrev pub a7 : ℕ
a7 = 17

abbrev pub unsupported : NotSupportedReason → Outcome
unsupported why = Failed (NotSupported why)

-- a call returns its value in a0
abbrev pub returned : ℕ → Row → Row
returned n r = set_slot a0 (Concrete n) r

-- brk in a memory of w words, by the wanted break in a0: one below the break, or outside memory, is refused by answering the break
unfoldable pub brk : ℕ → Value → Row → Row
brk w (Concrete wanted) r =
    cond (nat_lt wanted (break_of r)) (returned (break_of r) r)
    (cond (nat_lt (wanted / 8) w) (set_break wanted r) (returned (break_of r) r))
brk w Uninitialized r = r

unfoldable pub brk_progress : Value → Progress
brk_progress (Concrete wanted) = Running
brk_progress Uninitialized = Ended (unsupported reason.BrkUninitializedAddress)

-- buffer/8 is below w, and buffer + size is at most 8 × w, as whole numbers; else 44 (document 02, change 5)
unfoldable pub valid_range : ℕ → ℕ → ℕ → Result Buffer Outcome
valid_range buffer size w =
    cond (nat_lt (buffer / 8) w && nat_le (buffer + size) (8 * w)) (Ok (record { address = buffer; size = size }))
    (Err (Found AccessToOutOfRangeAddress))

-- the buffer and size that a1 and a2 name, with the call's reasons of error 20
unfoldable pub buffer_and_size : Reasons → Value → Value → ℕ → Result Buffer Outcome
buffer_and_size reasons (Concrete buffer) (Concrete size) w = valid_range buffer size w
buffer_and_size reasons (Concrete buffer) Uninitialized w = Err (unsupported reasons.size)
buffer_and_size reasons Uninitialized size w = Err (unsupported reasons.buffer)

abbrev pub is_file : ℕ → Value → Bool
is_file fd (Concrete n) = n == fd
is_file fd Uninitialized = false

-- a0 must be the call's file
unfoldable pub transfer_of : ℕ → Reasons → ℕ → Row → Result Buffer Outcome
transfer_of fd reasons w r =
    cond (is_file fd (slot_at r a0)) (buffer_and_size reasons (slot_at r a1) (slot_at r a2) w) (Err (unsupported reasons.file))

abbrev pub read_reasons : Reasons
read_reasons = record { file = reason.ReadOtherThanStdin; buffer = reason.ReadUninitializedBuffer; size = reason.ReadUninitializedSize }

abbrev pub write_reasons : Reasons
write_reasons = record { file = reason.WriteOtherThanStdout; buffer = reason.WriteUninitializedBuffer; size = reason.WriteUninitializedSize }

-- what a call answers: it is done, or the executor has ended
abbrev pub progress_of : Result (Unit {0}) Outcome → Progress
progress_of (Ok _) = Running
progress_of (Err o) = Ended o

abbrev pub reached : Row → ℕ → Result (Unit {0}) Outcome → Reached
reached r used result = record { row = r; moved = record { progress = progress_of result; used = used } }

-- read: the buffer's words from buffer/8 on, then a0 = size
unfoldable pub read_to : Result Buffer Outcome → List ℕ → ℕ → Row → Reached
read_to (Ok b) tape used r = bytes b.size tape (b.address / 8) used r then_on λ used r. running used (returned b.size r)
read_to (Err o) tape used r = ended o used r

unfoldable pub read : List ℕ → ℕ → Row → Reached
read tape used r = read_to (transfer_of 0 read_reasons (memory_words r) r) tape used r

abbrev pub is_concrete : Value → Bool
is_concrete (Concrete x) = true
is_concrete Uninitialized = false

-- whether n memory words from m on are concrete
unfoldable pub all_concrete : ℕ → ℕ → Row → Bool
all_concrete zero m r = true
all_concrete (suc n) m r = cond (is_concrete (memory_at r m)) (all_concrete n (m + 1) r) false

-- write: a checked buffer is handed out; whoever runs the step completes it by a0 = size
unfoldable pub write_from : Result Buffer Outcome → Row → Step
write_from (Ok b) r =
    cond (all_concrete ((b.size + b.address % 8 + 7) / 8) (b.address / 8) r) (step.Write b.address b.size)
    (step.Ended (Found (AccessToUninitializedMemory ReadUninitializedMemoryAddress)))
write_from (Err o) r = step.Ended o

unfoldable pub write : Row → Step
write r = write_from (transfer_of 1 write_reasons (memory_words r) r) r

-- exit, by the code in a0
unfoldable pub exit : Value → Outcome
exit (Concrete code) = cond (code == 0) Exited (Found (ExitCodeGreaterZero code))
exit Uninitialized = unsupported reason.ExitUninitializedCode

-- what an instruction came to, and the tape words used so far
pub record Stepped : Type 0 where
  pub step : Step
  pub used : ℕ

-- a row, with these
pub record Called : Type 0 where
  pub row : Row
  pub stepped : Stepped

abbrev pub step_to : Step → ℕ → Row → Called
step_to s used r = record { row = r; stepped = record { step = s; used = used } }

abbrev pub step_of : Progress → Step
step_of Running = step.Running
step_of (Ended o) = step.Ended o

unfoldable pub call_of : SyscallId → List ℕ → ℕ → Row → Called
call_of call.Brk tape used r = step_to (step_of (brk_progress (slot_at r a0))) used (brk (memory_words r) (slot_at r a0) r)
call_of call.Read tape used r = let x = read tape used r in step_to (step_of x.moved.progress) x.moved.used x.row
call_of call.Write tape used r = step_to (write r) used r
call_of call.Exit tape used r = step_to (step.Ended (exit (slot_at r a0))) used r
call_of call.Unknown tape used r = step_to (step.Ended (unsupported reason.UnknownSystemCall)) used r

-- the call that a7 names; an uninitialised a7 names none
unfoldable pub id_of : Value → SyscallId
id_of (Concrete n) = syscall_id n
id_of Uninitialized = call.Unknown

-- any call moves pc by 4, even on an error
unfoldable pub system : List ℕ → ℕ → Row → Called
system tape used r =
    let x = call_of (id_of (slot_at r a7)) tape used r in
    record { row = set_pc (following (pc_of x.row)) x.row; stepped = x.stepped }

-- a write that was handed out is done: a0 = size
abbrev pub completed : ℕ → Row → Row
completed size r = returned size r
