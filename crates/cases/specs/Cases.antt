-- Document 01's proved cases, P1 to P12, and its whole case: one table of what the definitions come to. Rows have W 128 and L 4.
-- P5 is as document 02's change 5 has it, and the whole case as its change 6 has it.
use Rattle.std.specs.Prelude.{List, Ok, [], ◌∷◌, ◌++◌, ◌≡◌, ℕ, zero, suc, ◌-◌, ◌/◌, ◌%◌, ◌^◌}
use Rattle.std.specs.Float.{binary64}
use Rattle.std.specs.Float.Ieee.{of_bits}
use Rattle.riscu.specs.Decoding.{decoded}
use Rattle.answers.specs.Numbers.{progress_number}
use Rattle.answers.specs.declared.bug.Bug.TheVariants.{DivisionByZero, AccessToOutOfRangeAddress}
use Rattle.answers.specs.declared.outcome.Outcome.TheVariants.{Found}
use Rattle.answers.specs.declared.outcome.Progress.TheVariants.{Running}
use Rattle.calls.specs.declared.number.SyscallId.TheVariants as call
use Rattle.values.specs.declared.Value.TheVariants.{Concrete}
use Rattle.rows.specs.Rows.{Row, blank, row_words, row_marks, log_start, set_word, set_pc, set_break, set_log_count, set_slot, set_memory}
use Rattle.calls.specs.Calls.{Called, step_to, call_of, a0, a1, a2}
use Rattle.calls.specs.declared.step.Step.TheVariants as step
use Rattle.loader.specs.Loading.{segment, program, new_executor}
use Rattle.machine.specs.Steps.{fetched, executed, settled_call}
use Rattle.machine.specs.Runs.{Finished, run_of, stops}
use Rattle.means.specs.Means.{Fraction, exact_mean}
use Rattle.means.specs.declared.MeanType.TheVariants.{Arithmetic, Harmonic}
use Rattle.counting.specs.Cells.{cell_of}
use Rattle.rounds.specs.Copies.{to_copy}
use Rattle.report.specs.Reports.{printed}

abbrev pub blank_row : Row
blank_row = blank (row_words 128 4) (row_marks 128)

-- a row with these values in a0, a1 and a2
abbrev pub registers_row : ℕ → ℕ → ℕ → Row
registers_row x y z = set_slot a2 (Concrete z) (set_slot a1 (Concrete y) (set_slot a0 (Concrete x) blank_row))

-- an instruction or a call after which the executor goes on
abbrev pub passed : ℕ → Row → Called
passed used r = step_to step.Running used r

-- document 01's number of what an instruction or a call came to
abbrev pub number_of : Called → ℕ
number_of x = progress_number (settled_call x).moved.progress

-- ---- single instructions, by their encodings
abbrev pub after : ℕ → Row → Called
after encoding r = executed (decoded encoding) [] 0 r

-- sub a0, a1, a2
abbrev pub after_sub : Row → Called
after_sub r = after 0x40C58533 r

-- lui a0, 0x80000
abbrev pub after_lui : Row → Called
after_lui r = after 0x80000537 r

-- divu a0, a1, a2
abbrev pub after_divu : Row → Called
after_divu r = after 0x02C5D533 r

-- jalr x0, 0(a1)
abbrev pub after_jalr : Row → Called
after_jalr r = after 0x00058067 r

-- sd a0, 0(a1)
abbrev pub after_sd : Row → Called
after_sd r = after 0x00A5B023 r

-- the dividend in a1 is uninitialised, the divisor in a2 is 0
abbrev pub divisor_row : Row
divisor_row = set_slot a2 (Concrete 0) blank_row

-- an address in a1
abbrev pub address_row : ℕ → Row
address_row address = set_slot a1 (Concrete address) blank_row

-- the address 13, and a word to fetch from
abbrev pub jump_row : Row
jump_row = set_memory 1 (Concrete 0x1111111122222222) (address_row 13)

-- ---- calls
-- a row that asks for so many bytes at a buffer, and the same with 0x1122334455667788 in memory word m
abbrev pub read_row : ℕ → ℕ → Row
read_row buffer size = registers_row 0 buffer size

abbrev pub onto : ℕ → Row → Row
onto m r = set_memory m (Concrete 0x1122334455667788) r

-- a row whose memory word m took the draw: the word, what is logged of it, and the size in a0
abbrev pub drawn_row : ℕ → ℕ → ℕ → ℕ → Row → Row
drawn_row m word logged size r = set_slot a0 (Concrete size) (set_log_count 1 (set_word (log_start r) logged (set_memory m (Concrete word) r)))

-- the read call, on a tape of one draw
abbrev pub after_read : Row → Called
after_read r = call_of call.Read (0xAABBCCDDEEFF0011 ∷ []) 0 r

abbrev pub after_tail : Called
after_tail = after_read (onto 0 (read_row 0 3))

-- a row that asks for a break, where the break is 512
abbrev pub brk_row : ℕ → Row
brk_row wanted = set_break 512 (set_slot a0 (Concrete wanted) blank_row)

abbrev pub after_brk : ℕ → Called
after_brk wanted = call_of call.Brk [] 0 (brk_row wanted)

-- ---- scores
abbrev pub fraction : ℕ → ℕ → Fraction
fraction p q = record { numerator = p; denominator = q }

-- ---- the whole case
-- n bytes of a number, and of each of some numbers, lowest first
unfoldable pub low_bytes : ℕ → ℕ → List ℕ
low_bytes zero x = []
low_bytes (suc n) x = x % 256 ∷ low_bytes n (x / 256)

unfoldable pub in_bytes : ℕ → List ℕ → List ℕ
in_bytes n [] = []
in_bytes n (x ∷ xs) = low_bytes n x ++ in_bytes n xs

-- states 1, step 10, selection 1, rounds 1, ratio 0, mean 1, memory 1024, L 4; code at address 0, offset 128, length 16; no data, no tape
abbrev pub whole_fields : List ℕ
whole_fields = 1 ∷ 10 ∷ 1 ∷ 1 ∷ 0 ∷ 1 ∷ 1024 ∷ 4 ∷ 0 ∷ 128 ∷ 16 ∷ 0 ∷ 0 ∷ 0 ∷ 0 ∷ 0 ∷ []

-- a7 = 93, a0 = 3, ecall, ecall
abbrev pub whole_code : List ℕ
whole_code = 0x05D00893 ∷ 0x00300513 ∷ 0x00000073 ∷ 0x00000073 ∷ []

abbrev pub whole_sheet : List ℕ
whole_sheet = in_bytes 8 whole_fields ++ in_bytes 4 whole_code

-- "answer 45 row 0 pc 8 value 3", "born 0", "used 0", each with its line feed
abbrev pub whole_text : List ℕ
whole_text =
    97 ∷ 110 ∷ 115 ∷ 119 ∷ 101 ∷ 114 ∷ 32 ∷ 52 ∷ 53 ∷ 32 ∷ 114 ∷ 111 ∷ 119 ∷ 32 ∷ 48
    ∷ 32 ∷ 112 ∷ 99 ∷ 32 ∷ 56 ∷ 32 ∷ 118 ∷ 97 ∷ 108 ∷ 117 ∷ 101 ∷ 32 ∷ 51 ∷ 10
    ∷ 98 ∷ 111 ∷ 114 ∷ 110 ∷ 32 ∷ 48 ∷ 10
    ∷ 117 ∷ 115 ∷ 101 ∷ 100 ∷ 32 ∷ 48 ∷ 10 ∷ []

-- a new executor of the whole case's code at address 8
abbrev pub new_row : Row
new_row = new_executor (program (segment 8 (in_bytes 4 whole_code)) (segment 0 [])) (row_words 128 4) (row_marks 128)

abbrev pub after_nothing : Finished
after_nothing = run_of 0 [] 0 new_row

pub record ProvedCases : Type 0 where
  -- sub 0 - 1
  pub p1 : after_sub (registers_row 7 0 1) ≡ passed 0 (set_pc 4 (registers_row (2 ^ 64 - 1) 0 1))
  -- lui 0x80000
  pub p2 : after_lui blank_row ≡ passed 0 (set_pc 4 (set_slot a0 (Concrete 2147483648) blank_row))
  -- a tail of 3 on 0x1122334455667788: one tape word is used, and nothing else of the row changes
  pub p3 : after_tail ≡ passed 1 (drawn_row 0 0x1122334455FF0011 0xFF0011 3 (read_row 0 3))
  -- divu, dividend uninitialised, divisor 0: the row stays
  pub p4 : after_divu divisor_row ≡ step_to (step.Ended (Found DivisionByZero)) 0 divisor_row
  pub p4_number : number_of (after_divu divisor_row) ≡ 41
  -- a read at 1016: of 8 bytes, which end with memory; of 9; of 7 onto an uninitialised word, of 7 onto a concrete one
  pub p5 : after_read (read_row 1016 8) ≡ passed 1 (drawn_row 127 0xAABBCCDDEEFF0011 0xAABBCCDDEEFF0011 8 (read_row 1016 8))
  pub p5_refused : after_read (read_row 1016 9) ≡ step_to (step.Ended (Found AccessToOutOfRangeAddress)) 0 (read_row 1016 9)
  pub p5_number : number_of (after_read (read_row 1016 9)) ≡ 44
  pub p5_passes : after_read (read_row 1016 7) ≡ passed 0 (set_slot a0 (Concrete 7) (read_row 1016 7))
  pub p5_draws : after_read (onto 127 (read_row 1016 7)) ≡ passed 1 (drawn_row 127 0x11BBCCDDEEFF0011 0xBBCCDDEEFF0011 7 (read_row 1016 7))
  -- brk with a break of 512: 1024 is refused by a0 = 512, 1023 becomes the break, and nothing else of the row changes
  pub p6_refused : after_brk 1024 ≡ passed 0 (set_slot a0 (Concrete 512) (brk_row 1024))
  pub p6_taken : after_brk 1023 ≡ passed 0 (set_break 1023 (brk_row 1023))
  -- 3 missing × 0.5
  pub p7 : to_copy 3 (of_bits binary64 0x3fe0_0000_0000_0000) ≡ 2
  -- register 8 (place 9) byte 0 and register 0 (place 1) byte 1
  pub p8 : (cell_of 9 0 ≡ 16) × (cell_of 1 1 ≡ 16)
  -- counters 1, 2
  pub p9 : (exact_mean Harmonic (1 ∷ 2 ∷ []) ≡ fraction 4 3) × (exact_mean Arithmetic (1 ∷ 2 ∷ []) ≡ fraction 3 2)
  -- jalr to 13, whose lowest bit is kept; the high half of word 1 is fetched there
  pub p10 : after_jalr jump_row ≡ passed 0 (set_pc 13 jump_row)
  pub p10_fetches : fetched (after_jalr jump_row).row ≡ Ok 0x11111111
  -- step 0 on a new executor: its row stays
  pub p11 : after_nothing ≡ stops Running 8 0 new_row
  pub p11_number : progress_number after_nothing.ran.progress ≡ 22
  -- sd of an uninitialised register to address 24: memory word 3 is as if it had never been written
  pub p12 : after_sd (set_memory 3 (Concrete 7) (address_row 24)) ≡ passed 0 (set_pc 4 (address_row 24))
  -- from the bytes of the sheet to the printed bytes
  pub whole_case : printed whole_sheet ≡ whole_text
