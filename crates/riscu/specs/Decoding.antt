-- Document 01's table of forms: the manual's encodings of the fourteen instructions (RV64I and the M extension). No other word is valid.
use Rattle.std.specs.Prelude.{cond, ℕ, Option, Some, None, eqb}
use Rattle.riscu.specs.Formats.{opcode, funct3, funct7, r_type, i_type, s_type, b_type, u_type, j_type}
use Rattle.riscu.specs.declared.instruction.Instruction.{Instruction}
use Rattle.riscu.specs.declared.instruction.Instruction.TheVariants.{Lui, Jal, Jalr, Beq, Ld, Sd, Addi, Add, Sub, Mul, Sltu, Divu, Remu, Ecall}

-- an instruction whose encoding asks for this value of a field
abbrev pub only_if : ℕ → ℕ → Instruction → Option Instruction
only_if field value i = cond (eqb field value) (Some i) None

-- opcode 0x33, register with register: by funct3 and funct7
unfoldable pub decoded_op : ℕ → Option Instruction
decoded_op x =
    cond (eqb (funct3 x) 0)
    (cond (eqb (funct7 x) 0) (Some (Add (r_type x)))
    (cond (eqb (funct7 x) 0x20) (Some (Sub (r_type x)))
    (only_if (funct7 x) 1 (Mul (r_type x)))))
    (cond (eqb (funct3 x) 3) (only_if (funct7 x) 0 (Sltu (r_type x)))
    (cond (eqb (funct3 x) 5) (only_if (funct7 x) 1 (Divu (r_type x)))
    (cond (eqb (funct3 x) 7) (only_if (funct7 x) 1 (Remu (r_type x))) None)))

-- what a 32-bit word stands for; None is number 21 (docs/NUMBERS.md)
unfoldable pub decoded : ℕ → Option Instruction
decoded x =
    cond (eqb (opcode x) 0x37) (Some (Lui (u_type x)))
    (cond (eqb (opcode x) 0x6F) (Some (Jal (j_type x)))
    (cond (eqb (opcode x) 0x67) (only_if (funct3 x) 0 (Jalr (i_type x)))
    (cond (eqb (opcode x) 0x63) (only_if (funct3 x) 0 (Beq (b_type x)))
    (cond (eqb (opcode x) 0x13) (only_if (funct3 x) 0 (Addi (i_type x)))
    (cond (eqb (opcode x) 0x03) (only_if (funct3 x) 3 (Ld (i_type x)))
    (cond (eqb (opcode x) 0x23) (only_if (funct3 x) 3 (Sd (s_type x)))
    (cond (eqb (opcode x) 0x33) (decoded_op x)
    (cond (eqb (opcode x) 0x73) (only_if x 0x73 Ecall) None))))))))
