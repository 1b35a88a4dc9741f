-- The effect of an instruction names only registers 1 to 31 and memory words that there are.
use Rattle.std.proofs.Common.{◌≡◌, ℕ, ◌/◌, ◌%◌, ◌<◌, true, false, eqb, ltb, arith, ltb-true}
use Rattle.std.proofs.lemmas.Bool.{eqb-false}
use Rattle.laws.proofs.Choices.{chosen, parts}
use Rattle.riscu.specs.Registers.{Registers}
use Rattle.riscu.specs.declared.instruction.Instruction.{Instruction}
use Rattle.riscu.specs.declared.instruction.Instruction.TheVariants as instruction
use Rattle.answers.specs.declared.bug.Bug.TheVariants.{DivisionByZero}
use Rattle.effects.specs.declared.arithmetic.Op.{Op}
use Rattle.effects.specs.declared.arithmetic.Op.TheVariants.{Add, Sub, Mul, Sltu, Divu, Remu}
use Rattle.values.specs.declared.Value.{Value}
use Rattle.values.specs.declared.Value.TheVariants.{Concrete, Uninitialized}
use Rattle.effects.specs.declared.effect.Effect.TheVariants.{Assign, Load, Store, Jump}
use Rattle.effects.specs.Arithmetic.{add, operated}
use Rattle.effects.specs.Reach.{InReach}
use Rattle.effects.specs.Effects.{bug, following, assign, binary_op, is_zero, divu_remu, beq, jalr, valid_address, invalid_address, load_from, ld, store_to, sd, effect_of}

above_zero : (n : ℕ) → eqb n 0 ≡ false → 0 < n
above_zero n f = let h = eqb-false n 0 f in omega arith

assign_reach : (w rd : ℕ) (v : Value) (pc : ℕ) → rd < 32 → InReach w (assign rd v pc)
unfolding assign
assign_reach w rd v pc h = chosen (InReach w) (eqb rd 0) (Jump pc) (Assign rd v pc) (λ t. tt) (λ f. (above_zero rd f, h))

binary_reach : (w : ℕ) (op : Op) (rd pc : ℕ) (a b : Value) → rd < 32 → InReach w (binary_op op rd pc a b)
unfolding binary_op
binary_reach w op rd pc (Concrete a) (Concrete b) h = assign_reach w rd (Concrete (operated op a b)) (following pc) h
binary_reach w op rd pc (Concrete a) Uninitialized h = tt
binary_reach w op rd pc Uninitialized b h = tt

divu_remu_reach : (w : ℕ) (op : Op) (rd pc : ℕ) (a b : Value) → rd < 32 → InReach w (divu_remu op rd pc a b)
unfolding divu_remu
divu_remu_reach w op rd pc a b h =
    chosen (InReach w) (is_zero b) (bug DivisionByZero) (binary_op op rd pc a b) (λ t. tt) (λ f. binary_reach w op rd pc a b h)

beq_reach : (w imm pc : ℕ) (a b : Value) → InReach w (beq imm pc a b)
unfolding beq
beq_reach w imm pc (Concrete a) (Concrete b) = tt
beq_reach w imm pc (Concrete a) Uninitialized = tt
beq_reach w imm pc Uninitialized b = tt

jalr_reach : (w rd imm pc : ℕ) (base : Value) → rd < 32 → InReach w (jalr rd imm pc base)
unfolding jalr
jalr_reach w rd imm pc (Concrete base) h = assign_reach w rd (Concrete (following pc)) (add base imm) h
jalr_reach w rd imm pc Uninitialized h = tt

-- a valid address names a word below W
valid_below : (address w : ℕ) → valid_address address w ≡ true → address / 8 < w
unfolding valid_address
valid_below address w t = ltb-true (address / 8) w (parts (eqb (address % 8) 0) (ltb (address / 8) w) t).1

invalid_reach : (w address : ℕ) → InReach w (invalid_address address)
unfolding invalid_address
invalid_reach w address = tt

load_reach : (w address rd pc : ℕ) → rd < 32 → InReach w (load_from address rd pc w)
unfolding load_from
load_reach w address rd pc h =
    chosen (InReach w) (valid_address address w) _ (invalid_address address)
    (λ t. chosen (InReach w) (eqb rd 0) (Jump pc) (Load rd (address / 8) pc) (λ t. tt) (λ f. (above_zero rd f, h, valid_below address w t)))
    (λ f. invalid_reach w address)

ld_reach : (w rd imm pc : ℕ) (base : Value) → rd < 32 → InReach w (ld rd imm pc base w)
unfolding ld
ld_reach w rd imm pc (Concrete base) h = load_reach w (add base imm) rd (following pc) h
ld_reach w rd imm pc Uninitialized h = tt

store_reach : (w address : ℕ) (v : Value) (pc : ℕ) → InReach w (store_to address v pc w)
unfolding store_to
store_reach w address v pc =
    chosen (InReach w) (valid_address address w) (Store (address / 8) v pc) (invalid_address address) (valid_below address w) (λ f. invalid_reach w address)

sd_reach : (w imm pc : ℕ) (base v : Value) → InReach w (sd imm pc base v w)
unfolding sd
sd_reach w imm pc (Concrete base) v = store_reach w (add base imm) v (following pc)
sd_reach w imm pc Uninitialized v = tt

pub in_reach : (i : Instruction) (pc : ℕ) (x : ℕ → Value) (w : ℕ) → Registers i → InReach w (effect_of i pc x w)
unfolding effect_of
in_reach (instruction.Lui t) pc x w h = assign_reach w t.rd (Concrete t.imm) (following pc) h
in_reach (instruction.Jal t) pc x w h = assign_reach w t.rd (Concrete (following pc)) (add pc t.imm) h
in_reach (instruction.Jalr t) pc x w h = jalr_reach w t.rd t.imm pc (x t.rs1) h.rd
in_reach (instruction.Beq t) pc x w h = beq_reach w t.imm pc (x t.rs1) (x t.rs2)
in_reach (instruction.Ld t) pc x w h = ld_reach w t.rd t.imm pc (x t.rs1) h.rd
in_reach (instruction.Sd t) pc x w h = sd_reach w t.imm pc (x t.rs1) (x t.rs2)
in_reach (instruction.Addi t) pc x w h = binary_reach w Add t.rd pc (x t.rs1) (Concrete t.imm) h.rd
in_reach (instruction.Add t) pc x w h = binary_reach w Add t.rd pc (x t.rs1) (x t.rs2) h.rd
in_reach (instruction.Sub t) pc x w h = binary_reach w Sub t.rd pc (x t.rs1) (x t.rs2) h.rd
in_reach (instruction.Mul t) pc x w h = binary_reach w Mul t.rd pc (x t.rs1) (x t.rs2) h.rd
in_reach (instruction.Sltu t) pc x w h = binary_reach w Sltu t.rd pc (x t.rs1) (x t.rs2) h.rd
in_reach (instruction.Divu t) pc x w h = divu_remu_reach w Divu t.rd pc (x t.rs1) (x t.rs2) h.rd
in_reach (instruction.Remu t) pc x w h = divu_remu_reach w Remu t.rd pc (x t.rs1) (x t.rs2) h.rd
in_reach instruction.Ecall pc x w h = tt
