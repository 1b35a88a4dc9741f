-- The table holds: every case is computed from the definitions.
use Rattle.std.proofs.Common.{refl}
use Rattle.std.specs.Float.Ieee.{mul, of_int, of_bits, le}
use Rattle.riscu.specs.Formats.{signed}
use Rattle.riscu.specs.Decoding.{decoded, decoded_op}
use Rattle.effects.specs.Arithmetic.{operated}
use Rattle.effects.specs.Effects.{effect_of, assign, binary_op, divu_remu, jalr, valid_address, invalid_address, store_to, sd}
use Rattle.calls.specs.CallNumbers.{syscall_id}
use Rattle.values.specs.Values.{value_at}
use Rattle.execution.specs.Execution.{applied, effect_in}
use Rattle.reading.specs.Reading.{bytes, full_word, full_words, rest, onwards, tail, tail_of, drawn, recorded}
use Rattle.calls.specs.Calls.{brk, brk_progress, read, read_to, transfer_of, buffer_and_size, valid_range, system, call_of, id_of, exit}
use Rattle.loader.specs.Loading.{new_executor, programmed, started, loaded, loaded_from}
use Rattle.machine.specs.Steps.{fetched, half_at, stepped, advanced, settled, interpreted, executed, followed}
use Rattle.machine.specs.Runs.{run_of, run_for, continued}
use Rattle.means.specs.Means.{sum, product, shares, exact_mean}
use Rattle.counting.specs.Cells.{base_of}
use Rattle.rounds.specs.Copies.{to_copy, nearest}
use Rattle.rounds.specs.Rounds.{tape_short, filled, run_all, first_bug, first_error, used_after, ran_on, round_of, round_made}
use Rattle.rounds.specs.Series.{search_from}
use Rattle.store.specs.Store.{cut, marks_of, words_of}
use Rattle.checks.specs.Tests.{checked_by}
use Rattle.search.specs.Entry.{search_checked, search_left}
use Rattle.sheet.specs.Sheets.{parsed, or_default, words_in}
use Rattle.lines.specs.Lines.{digits_up_to, answer_line, input_lines, told_lines, lines}
use Rattle.report.specs.Reports.{printed_by, search_printed, sheet_left}
use Rattle.cases.specs.Cases.{ProvedCases, low_bytes, in_bytes}

pub cases : ProvedCases
unfolding operated decoded decoded_op assign value_at divu_remu to_copy nearest mul of_int of_bits le base_of exact_mean product shares sum
    bytes full_word full_words rest onwards tail tail_of drawn recorded brk brk_progress read read_to transfer_of buffer_and_size valid_range
    fetched half_at jalr applied run_of run_for new_executor programmed started loaded loaded_from sd valid_address invalid_address store_to
    continued advanced settled stepped interpreted executed followed signed effect_in effect_of binary_op system call_of id_of syscall_id exit
    search_from round_made round_of ran_on tape_short filled run_all first_bug first_error used_after
    cut marks_of words_of checked_by search_checked search_left parsed or_default words_in
    digits_up_to answer_line input_lines told_lines lines printed_by search_printed sheet_left low_bytes in_bytes
cases =
    record {
      p1 = refl;
      p2 = refl;
      p3 = refl;
      p4 = refl;
      p4_number = refl;
      p5 = refl;
      p5_refused = refl;
      p5_number = refl;
      p5_passes = refl;
      p5_draws = refl;
      p6_refused = refl;
      p6_taken = refl;
      p7 = refl;
      p8 = (refl, refl);
      p9 = (refl, refl);
      p10 = refl;
      p10_fetches = refl;
      p11 = refl;
      p11_number = refl;
      p12 = refl;
      whole_case = refl;
    }
