-- System call numbers, those of RISC-V Linux: 93 exit, 63 read, 64 write, 214 brk.
use Rattle.std.specs.Prelude.{ℕ, cond, ◌==◌}
use Rattle.calls.specs.declared.number.SyscallId.{SyscallId}
use Rattle.calls.specs.declared.number.SyscallId.TheVariants.{Exit, Read, Write, Brk, Unknown}

-- all 64 bits of a7 count
unfoldable pub syscall_id : ℕ → SyscallId
syscall_id a7 =
    cond (a7 == 93) Exit
    (cond (a7 == 63) Read
    (cond (a7 == 64) Write
    (cond (a7 == 214) Brk Unknown)))
