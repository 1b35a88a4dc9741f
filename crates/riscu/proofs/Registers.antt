-- What decodes names only registers that there are, since each register field has five bits.
use Rattle.std.specs.Prelude.{Bool, true, false, cond, ℕ, Option, Some, None, ◌%◌, ◌<◌, eqb}
use Rattle.std.proofs.Common.{arith}
use Rattle.riscu.specs.Formats.{opcode, funct3, funct7, r_type, i_type, s_type, b_type, u_type, j_type}
use Rattle.riscu.specs.Decoding.{decoded, decoded_op, only_if}
use Rattle.riscu.specs.Registers.{RRegisters, IRegisters, SRegisters, BRegisters, Registers, RegistersIn}
use Rattle.riscu.specs.declared.instruction.Instruction.{Instruction}
use Rattle.riscu.specs.declared.instruction.Instruction.TheVariants.{Lui, Jal, Jalr, Beq, Ld, Sd, Addi, Add, Sub, Mul, Sltu, Divu, Remu, Ecall}

field : (x : ℕ) → x % 32 < 32
field x = omega arith

r_registers : (x : ℕ) → RRegisters (r_type x)
r_registers x = record { rd = field _; rs1 = field _; rs2 = field _ }

i_registers : (x : ℕ) → IRegisters (i_type x)
i_registers x = record { rd = field _; rs1 = field _ }

s_registers : (x : ℕ) → SRegisters (s_type x)
s_registers x = record { rs1 = field _; rs2 = field _ }

b_registers : (x : ℕ) → BRegisters (b_type x)
b_registers x = record { rs1 = field _; rs2 = field _ }

-- the same claim as RegistersIn, in a form from which a proof can tell the word's decoding
data Named : Option Instruction → Type 0 where
  valid : {i : Instruction} → Registers i → Named (Some i)
  invalid : Named None

named : {d : Option Instruction} → Named d → RegistersIn d
named (valid r) = r
named invalid = tt

-- what holds of both holds of the one that a test chooses
either : (b : Bool) {d e : Option Instruction} → Named d → Named e → Named (cond b d e)
either true p q = p
either false p q = q

named_only_if : (field value : ℕ) {i : Instruction} → Named (Some i) → Named (only_if field value i)
named_only_if field value p = either (eqb field value) p invalid

op_registers : (x : ℕ) → Named (decoded_op x)
unfolding decoded_op
op_registers x =
    either (eqb (funct3 x) 0)
    (either (eqb (funct7 x) 0) (valid {i = Add (r_type x)} (r_registers x))
    (either (eqb (funct7 x) 0x20) (valid {i = Sub (r_type x)} (r_registers x))
    (named_only_if (funct7 x) 1 (valid {i = Mul (r_type x)} (r_registers x)))))
    (either (eqb (funct3 x) 3) (named_only_if (funct7 x) 0 (valid {i = Sltu (r_type x)} (r_registers x)))
    (either (eqb (funct3 x) 5) (named_only_if (funct7 x) 1 (valid {i = Divu (r_type x)} (r_registers x)))
    (either (eqb (funct3 x) 7) (named_only_if (funct7 x) 1 (valid {i = Remu (r_type x)} (r_registers x))) invalid)))

pub decoded_registers : (x : ℕ) → RegistersIn (decoded x)
unfolding decoded
decoded_registers x =
    named
    (either (eqb (opcode x) 0x37) (valid {i = Lui (u_type x)} (field _))
    (either (eqb (opcode x) 0x6F) (valid {i = Jal (j_type x)} (field _))
    (either (eqb (opcode x) 0x67) (named_only_if (funct3 x) 0 (valid {i = Jalr (i_type x)} (i_registers x)))
    (either (eqb (opcode x) 0x63) (named_only_if (funct3 x) 0 (valid {i = Beq (b_type x)} (b_registers x)))
    (either (eqb (opcode x) 0x13) (named_only_if (funct3 x) 0 (valid {i = Addi (i_type x)} (i_registers x)))
    (either (eqb (opcode x) 0x03) (named_only_if (funct3 x) 3 (valid {i = Ld (i_type x)} (i_registers x)))
    (either (eqb (opcode x) 0x23) (named_only_if (funct3 x) 3 (valid {i = Sd (s_type x)} (s_registers x)))
    (either (eqb (opcode x) 0x33) (op_registers x)
    (either (eqb (opcode x) 0x73) (named_only_if x 0x73 (valid {i = Ecall} tt)) invalid)))))))))
