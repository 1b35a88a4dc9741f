-- A stepping stone between contracts: every register that an instruction names is one of the 32, as the layers above ask of an instruction.
use Rattle.std.specs.Prelude.{Option, Some, None, ◌<◌}
use Rattle.riscu.specs.declared.instruction.RType.{RType}
use Rattle.riscu.specs.declared.instruction.IType.{IType}
use Rattle.riscu.specs.declared.instruction.SType.{SType}
use Rattle.riscu.specs.declared.instruction.BType.{BType}
use Rattle.riscu.specs.declared.instruction.Instruction.{Instruction}
use Rattle.riscu.specs.declared.instruction.Instruction.TheVariants.{Lui, Jal, Jalr, Beq, Ld, Sd, Addi, Add, Sub, Mul, Sltu, Divu, Remu, Ecall}

pub record RRegisters (t : RType) : Type 0 where
  pub rd : t.rd < 32
  pub rs1 : t.rs1 < 32
  pub rs2 : t.rs2 < 32

pub record IRegisters (t : IType) : Type 0 where
  pub rd : t.rd < 32
  pub rs1 : t.rs1 < 32

pub record SRegisters (t : SType) : Type 0 where
  pub rs1 : t.rs1 < 32
  pub rs2 : t.rs2 < 32

pub record BRegisters (t : BType) : Type 0 where
  pub rs1 : t.rs1 < 32
  pub rs2 : t.rs2 < 32

abbrev pub Registers : Instruction → Type 0
Registers (Lui t) = t.rd < 32
Registers (Jal t) = t.rd < 32
Registers (Jalr t) = IRegisters t
Registers (Beq t) = BRegisters t
Registers (Ld t) = IRegisters t
Registers (Sd t) = SRegisters t
Registers (Addi t) = IRegisters t
Registers (Add t) = RRegisters t
Registers (Sub t) = RRegisters t
Registers (Mul t) = RRegisters t
Registers (Sltu t) = RRegisters t
Registers (Divu t) = RRegisters t
Registers (Remu t) = RRegisters t
Registers Ecall = Unit {0}

abbrev pub RegistersIn : Option Instruction → Type 0
RegistersIn (Some i) = Registers i
RegistersIn None = Unit {0}
