-- The tape of an accepted sheet, read to the front of an array of zeros.
use Rattle.std.proofs.Common.{◌≡◌, List, ℕ, ◌*◌, ◌-◌, ◌/◌, ◌≤◌, arith, length, take, drop, length-drop, Ok}
use Rattle.laws.proofs.Parts.{to_end}
use Rattle.sheet.specs.Sheets.{parsed, bench_limits}
use Rattle.sheet.specs.declared.parse.Sheet.{Sheet}
use Rattle.sheet.proofs.Accepting.{accepted_within, accepted_bytes}
use Rattle.report.proofs.Zeros.{lent, lent_length}

-- the words of the longest sheet
abbrev pub most_tape : ℕ
most_tape = bench_limits.bytes / 8

module _ (s : List ℕ) (h : Sheet) (accepted : parsed bench_limits s ≡ Ok h) where
  pub tape_few : h.tape_words ≤ most_tape
  tape_few = omega (arith, (accepted_within bench_limits s h accepted).in_tape, accepted_bytes bench_limits s h accepted)

  pub tape_start : h.tape_offset ≤ length s
  tape_start = omega (arith, (accepted_within bench_limits s h accepted).in_tape)

  -- the sheet has as many bytes as the lent tape wants
  pub tape_room : 8 * length (lent h.tape_words most_tape)
      ≤ length (take (length s - h.tape_offset) (drop h.tape_offset s))
  tape_room =
      rw (lent_length h.tape_words most_tape tape_few, to_end h.tape_offset s)
      (omega (arith, (accepted_within bench_limits s h accepted).in_tape, length-drop h.tape_offset s))
