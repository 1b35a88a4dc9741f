-- What each instruction does ("Executing" in document 01), from its pc, the values of its operands and the number W of memory words.
-- Arithmetic, addresses and targets are the manual's; where document 01 departs from it, a line says so.
use Rattle.std.specs.Prelude.{ℕ, ◌/◌, ◌%◌, Bool, false, cond, ◌&&◌, ◌==◌, nat_lt}
use Rattle.riscu.specs.declared.instruction.Instruction.{Instruction}
use Rattle.riscu.specs.declared.instruction.Instruction.TheVariants as instruction
use Rattle.answers.specs.declared.bug.Bug.{Bug}
use Rattle.answers.specs.declared.bug.Bug.TheVariants.{DivisionByZero, AccessToUninitializedMemory, AccessToUnalignedAddress, AccessToOutOfRangeAddress}
use Rattle.answers.specs.declared.bug.UninitializedMemoryAccessReason.TheVariants.{InstructionWithUninitializedOperand}
use Rattle.answers.specs.declared.error.NotSupportedReason.{NotSupportedReason}
use Rattle.answers.specs.declared.error.NotSupportedReason.TheVariants.{LdUninitializedBase, SdUninitializedBase, JalrUninitializedBase}
use Rattle.answers.specs.declared.error.ExecutorError.TheVariants.{NotSupported}
use Rattle.answers.specs.declared.outcome.Outcome.TheVariants.{Found, Failed}
use Rattle.effects.specs.declared.arithmetic.Op.{Op}
use Rattle.effects.specs.declared.arithmetic.Op.TheVariants.{Add, Sub, Mul, Sltu, Divu, Remu}
use Rattle.values.specs.declared.Value.{Value}
use Rattle.values.specs.declared.Value.TheVariants.{Concrete, Uninitialized}
use Rattle.effects.specs.declared.effect.Effect.{Effect}
use Rattle.effects.specs.declared.effect.Effect.TheVariants.{Assign, Load, Store, Jump, Call, End}
use Rattle.effects.specs.Arithmetic.{add, operated}

abbrev pub bug : Bug → Effect
bug b = End (Found b)

abbrev pub not_supported : NotSupportedReason → Effect
not_supported why = End (Failed (NotSupported why))

-- 42: a missing operand
abbrev pub missing_operand : Effect
missing_operand = bug (AccessToUninitializedMemory InstructionWithUninitializedOperand)

-- the pc of the instruction that follows the one at pc
abbrev pub following : ℕ → ℕ
following pc = add pc 4

-- rd takes a value, and the next pc is given; x0 is never written
unfoldable pub assign : ℕ → Value → ℕ → Effect
assign rd v next_pc = cond (rd == 0) (Jump next_pc) (Assign rd v next_pc)

-- an operation on two operands
unfoldable pub binary_op : Op → ℕ → ℕ → Value → Value → Effect
binary_op op rd pc (Concrete a) (Concrete b) = assign rd (Concrete (operated op a b)) (following pc)
binary_op op rd pc (Concrete a) Uninitialized = missing_operand
binary_op op rd pc Uninitialized b = missing_operand

abbrev pub is_zero : Value → Bool
is_zero (Concrete n) = n == 0
is_zero Uninitialized = false

-- a concrete zero divisor gives 41 first (departure: the manual divides by zero without a trap)
unfoldable pub divu_remu : Op → ℕ → ℕ → Value → Value → Effect
divu_remu op rd pc a b = cond (is_zero b) (bug DivisionByZero) (binary_op op rd pc a b)

unfoldable pub beq : ℕ → ℕ → Value → Value → Effect
beq imm pc (Concrete a) (Concrete b) = Jump (cond (a == b) (add pc imm) (following pc))
beq imm pc (Concrete a) Uninitialized = missing_operand
beq imm pc Uninitialized b = missing_operand

-- the immediate has been extended by zeros (departure: see imm_u in riscu's Formats)
abbrev pub lui : ℕ → ℕ → ℕ → Effect
lui rd imm pc = assign rd (Concrete imm) (following pc)

abbrev pub jal : ℕ → ℕ → ℕ → Effect
jal rd imm pc = assign rd (Concrete (following pc)) (add pc imm)

-- departure: the target keeps its lowest bit, which the manual clears
unfoldable pub jalr : ℕ → ℕ → ℕ → Value → Effect
jalr rd imm pc (Concrete base) = assign rd (Concrete (following pc)) (add base imm)
jalr rd imm pc Uninitialized = not_supported JalrUninitializedBase

-- an address that names one of the W memory words
unfoldable pub valid_address : ℕ → ℕ → Bool
valid_address address w = address % 8 == 0 && nat_lt (address / 8) w

-- what comes of another: 43 if it is unaligned, else 44
unfoldable pub invalid_address : ℕ → Effect
invalid_address address = bug (cond (address % 8 == 0) AccessToOutOfRangeAddress (AccessToUnalignedAddress address))

-- ld of the word at an address into rd; x0 is never written
unfoldable pub load_from : ℕ → ℕ → ℕ → ℕ → Effect
load_from address rd next_pc w = cond (valid_address address w) (cond (rd == 0) (Jump next_pc) (Load rd (address / 8) next_pc)) (invalid_address address)

unfoldable pub ld : ℕ → ℕ → ℕ → Value → ℕ → Effect
ld rd imm pc (Concrete base) w = load_from (add base imm) rd (following pc) w
ld rd imm pc Uninitialized w = not_supported LdUninitializedBase

-- sd of a value, which may be uninitialised, to the word at an address
unfoldable pub store_to : ℕ → Value → ℕ → ℕ → Effect
store_to address v next_pc w = cond (valid_address address w) (Store (address / 8) v next_pc) (invalid_address address)

unfoldable pub sd : ℕ → ℕ → Value → Value → ℕ → Effect
sd imm pc (Concrete base) v w = store_to (add base imm) v (following pc) w
sd imm pc Uninitialized v w = not_supported SdUninitializedBase

-- the effect of an instruction at pc, where register n holds x n, with W memory words
unfoldable pub effect_of : Instruction → ℕ → (ℕ → Value) → ℕ → Effect
effect_of (instruction.Lui t) pc x w = lui t.rd t.imm pc
effect_of (instruction.Jal t) pc x w = jal t.rd t.imm pc
effect_of (instruction.Jalr t) pc x w = jalr t.rd t.imm pc (x t.rs1)
effect_of (instruction.Beq t) pc x w = beq t.imm pc (x t.rs1) (x t.rs2)
effect_of (instruction.Ld t) pc x w = ld t.rd t.imm pc (x t.rs1) w
effect_of (instruction.Sd t) pc x w = sd t.imm pc (x t.rs1) (x t.rs2) w
effect_of (instruction.Addi t) pc x w = binary_op Add t.rd pc (x t.rs1) (Concrete t.imm)
effect_of (instruction.Add t) pc x w = binary_op Add t.rd pc (x t.rs1) (x t.rs2)
effect_of (instruction.Sub t) pc x w = binary_op Sub t.rd pc (x t.rs1) (x t.rs2)
effect_of (instruction.Mul t) pc x w = binary_op Mul t.rd pc (x t.rs1) (x t.rs2)
effect_of (instruction.Sltu t) pc x w = binary_op Sltu t.rd pc (x t.rs1) (x t.rs2)
effect_of (instruction.Divu t) pc x w = divu_remu Divu t.rd pc (x t.rs1) (x t.rs2)
effect_of (instruction.Remu t) pc x w = divu_remu Remu t.rd pc (x t.rs1) (x t.rs2)
effect_of instruction.Ecall pc x w = Call
