-- Document 01's number and value of every way in which an executor can end ("Where each number is given").
use Rattle.std.specs.Prelude.{ℕ}
use Rattle.answers.specs.declared.bug.UninitializedMemoryAccessReason.{UninitializedMemoryAccessReason}
use Rattle.answers.specs.declared.bug.UninitializedMemoryAccessReason.TheVariants.{InstructionWithUninitializedOperand, ReadUninitializedMemoryAddress}
use Rattle.answers.specs.declared.bug.Bug.{Bug}
use Rattle.answers.specs.declared.bug.Bug.TheVariants.{DivisionByZero, AccessToUninitializedMemory, AccessToUnalignedAddress, AccessToOutOfRangeAddress, ExitCodeGreaterZero}
use Rattle.answers.specs.declared.error.NotSupportedReason.{NotSupportedReason}
use Rattle.answers.specs.declared.error.NotSupportedReason.TheVariants as reason
use Rattle.answers.specs.declared.error.ExecutorError.{ExecutorError}
use Rattle.answers.specs.declared.error.ExecutorError.TheVariants.{NotSupported, InvalidInstructionEncoding, PcOutOfRange, TapeEmpty, LogFull, OutputFull}
use Rattle.answers.specs.declared.outcome.Outcome.{Outcome}
use Rattle.answers.specs.declared.outcome.Outcome.TheVariants.{Exited, Found, Failed}
use Rattle.answers.specs.declared.outcome.Progress.{Progress}
use Rattle.answers.specs.declared.outcome.Progress.TheVariants.{Running, Ended}

-- 41 zero divisor, 42 uninitialised use, 43 unaligned address, 44 out of range, 45 a0 above zero at call 93
abbrev pub bug_number : Bug → ℕ
bug_number DivisionByZero = 41
bug_number (AccessToUninitializedMemory why) = 42
bug_number (AccessToUnalignedAddress address) = 43
bug_number AccessToOutOfRangeAddress = 44
bug_number (ExitCodeGreaterZero code) = 45

-- 1 operand, 2 write call
abbrev pub access_value : UninitializedMemoryAccessReason → ℕ
access_value InstructionWithUninitializedOperand = 1
access_value ReadUninitializedMemoryAddress = 2

-- the address for 43, exit's a0 for 45, for 42 the reason, else 0
abbrev pub bug_value : Bug → ℕ
bug_value DivisionByZero = 0
bug_value (AccessToUninitializedMemory why) = access_value why
bug_value (AccessToUnalignedAddress address) = address
bug_value AccessToOutOfRangeAddress = 0
bug_value (ExitCodeGreaterZero code) = code

-- the reasons of error 20: of fetch (1), brk (2), read (3 to 5), write (6 to 8), exit (9), an unknown call (10), ld, sd and jalr
abbrev pub reason_value : NotSupportedReason → ℕ
reason_value reason.FetchUninitializedWord = 1
reason_value reason.BrkUninitializedAddress = 2
reason_value reason.ReadOtherThanStdin = 3
reason_value reason.ReadUninitializedBuffer = 4
reason_value reason.ReadUninitializedSize = 5
reason_value reason.WriteOtherThanStdout = 6
reason_value reason.WriteUninitializedBuffer = 7
reason_value reason.WriteUninitializedSize = 8
reason_value reason.ExitUninitializedCode = 9
reason_value reason.UnknownSystemCall = 10
reason_value reason.LdUninitializedBase = 11
reason_value reason.SdUninitializedBase = 12
reason_value reason.JalrUninitializedBase = 13

-- 23 pc/8 at or past W, 24 tape empty, 25 log full, 71 output full (document 02, change 1)
abbrev pub error_number : ExecutorError → ℕ
error_number (NotSupported why) = 20
error_number InvalidInstructionEncoding = 21
error_number PcOutOfRange = 23
error_number TapeEmpty = 24
error_number LogFull = 25
error_number OutputFull = 71

-- error 20's value is its reason
abbrev pub error_value : ExecutorError → ℕ
error_value (NotSupported why) = reason_value why
error_value InvalidInstructionEncoding = 0
error_value PcOutOfRange = 0
error_value TapeEmpty = 0
error_value LogFull = 0
error_value OutputFull = 0

-- 0 is a clean end
abbrev pub outcome_number : Outcome → ℕ
outcome_number Exited = 0
outcome_number (Found bug) = bug_number bug
outcome_number (Failed error) = error_number error

abbrev pub outcome_value : Outcome → ℕ
outcome_value Exited = 0
outcome_value (Found bug) = bug_value bug
outcome_value (Failed error) = error_value error

-- 22: depth at the limit
abbrev pub progress_number : Progress → ℕ
progress_number Running = 22
progress_number (Ended outcome) = outcome_number outcome

abbrev pub progress_value : Progress → ℕ
progress_value Running = 0
progress_value (Ended outcome) = outcome_value outcome
