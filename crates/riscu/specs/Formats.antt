-- The manual's base instruction formats (RISC-V unprivileged ISA, "Base Instruction Formats" and "Immediate Encoding Variants"):
-- which bits of a 32-bit word hold which field.
use Rattle.std.specs.Prelude.{cond, ℕ, ◌+◌, ◌-◌, ◌*◌, ◌/◌, ◌%◌, ◌^◌, ltb}
use Rattle.riscu.specs.declared.instruction.RType.{RType}
use Rattle.riscu.specs.declared.instruction.IType.{IType}
use Rattle.riscu.specs.declared.instruction.SType.{SType}
use Rattle.riscu.specs.declared.instruction.BType.{BType}
use Rattle.riscu.specs.declared.instruction.UType.{UType}
use Rattle.riscu.specs.declared.instruction.JType.{JType}

-- x[hi:lo]: bits hi down to lo of x
abbrev pub bits : ℕ → ℕ → ℕ → ℕ
bits x hi lo = x / 2 ^ lo % 2 ^ (hi + 1 - lo)

-- the fields that stand at the same place in every format that has them
abbrev pub opcode : ℕ → ℕ
opcode x = bits x 6 0

abbrev pub rd : ℕ → ℕ
rd x = bits x 11 7

abbrev pub funct3 : ℕ → ℕ
funct3 x = bits x 14 12

abbrev pub rs1 : ℕ → ℕ
rs1 x = bits x 19 15

abbrev pub rs2 : ℕ → ℕ
rs2 x = bits x 24 20

abbrev pub funct7 : ℕ → ℕ
funct7 x = bits x 31 25

-- a number whose highest bit, its sign, is worth s in it: the 64-bit number that stands for the same value
unfoldable pub signed : ℕ → ℕ → ℕ
signed s x = cond (ltb x s) x (x + (2 ^ 64 - s * 2))

-- the same of a number of n bits
abbrev pub sign_extend : ℕ → ℕ → ℕ
sign_extend n x = signed (2 ^ (n - 1)) x

-- the immediates: each part of the word, times the weight of the immediate's bit that its lowest bit becomes
abbrev pub imm_i : ℕ → ℕ
imm_i x = sign_extend 12 (bits x 31 20)

abbrev pub imm_s : ℕ → ℕ
imm_s x = sign_extend 12 (bits x 31 25 * 2 ^ 5 + bits x 11 7)

abbrev pub imm_b : ℕ → ℕ
imm_b x = sign_extend 13 (bits x 31 31 * 2 ^ 12 + bits x 7 7 * 2 ^ 11 + bits x 30 25 * 2 ^ 5 + bits x 11 8 * 2 ^ 1)

abbrev pub imm_j : ℕ → ℕ
imm_j x = sign_extend 21 (bits x 31 31 * 2 ^ 20 + bits x 19 12 * 2 ^ 12 + bits x 20 20 * 2 ^ 11 + bits x 30 21 * 2 ^ 1)

-- document 01's departure: lui's 20 bits are extended by zeros, not by their sign
abbrev pub imm_u : ℕ → ℕ
imm_u x = bits x 31 12 * 2 ^ 12

abbrev pub r_type : ℕ → RType
r_type x = record { rd = rd x; rs1 = rs1 x; rs2 = rs2 x }

abbrev pub i_type : ℕ → IType
i_type x = record { rd = rd x; rs1 = rs1 x; imm = imm_i x }

abbrev pub s_type : ℕ → SType
s_type x = record { rs1 = rs1 x; rs2 = rs2 x; imm = imm_s x }

abbrev pub b_type : ℕ → BType
b_type x = record { rs1 = rs1 x; rs2 = rs2 x; imm = imm_b x }

abbrev pub u_type : ℕ → UType
u_type x = record { rd = rd x; imm = imm_u x }

abbrev pub j_type : ℕ → JType
j_type x = record { rd = rd x; imm = imm_j x }
