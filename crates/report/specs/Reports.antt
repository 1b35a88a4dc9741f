-- From the bytes of a sheet to the printed bytes (docs/SHEETS.md): the sheet, the search and the lines joined.
use Rattle.std.specs.Prelude.{Result, Ok, Err, Option, Some, None, List, ℕ, ◌+◌, ◌*◌, ◌/◌, take, drop, replicate}
use Rattle.answers.specs.Answers.{refused_answer}
use Rattle.rows.specs.Rows.{Row, row_words, row_marks, log_count, born_of, log_start}
use Rattle.store.specs.Store.{rows_of, nth_row}
use Rattle.rounds.specs.Calls.{layout_of}
use Rattle.answers.specs.declared.finding.Finding.{Finding}
use Rattle.answers.specs.declared.finding.Finding.TheVariants as finding
use Rattle.search.specs.Entry.{Left, search_entry, search_answer}
use Rattle.rounds.specs.declared.call.Ended.{Ended}
use Rattle.checks.specs.declared.refusal.Refusal.{Refusal}
use Rattle.lines.specs.Lines.{Told, lines}
use Rattle.sheet.specs.Sheets.{parsed, bench_limits, sheet_number, image_of, tape_of}
use Rattle.sheet.specs.declared.parse.Sheet.{Sheet}
use Rattle.sheet.specs.declared.parse.SheetError.{SheetError}

-- a buffer for a sheet has one byte more than a sheet may have
abbrev pub sheet_buffer : ℕ
sheet_buffer = bench_limits.bytes + 1

-- the most bytes that are printed: an answer, a round, the inputs of a full log and the used count have 1,884
abbrev pub most_printed : ℕ
most_printed = 2048

-- the logged words of a row
abbrev pub log_of : Row → List ℕ
log_of r = take (log_count r) (drop (log_start r) r.words)

-- what a row tells of a find
abbrev pub told_in : Row → Told
told_in r = record { born = born_of r; inputs = log_of r }

-- a bug is told of, by the row that met it
abbrev pub told_of : Finding → List Row → Option Told
told_of finding.Nothing rows = None
told_of (finding.Found bug row pc) rows = Some (told_in (nth_row rows row))
told_of (finding.Failed error row pc) rows = None
told_of finding.TapeShort rows = None
told_of finding.ScoresUnordered rows = None

abbrev pub told_by : Result Ended Refusal → List Row → Option Told
told_by (Err f) rows = None
told_by (Ok e) rows = told_of e.finding rows

-- the search that a sheet asks for, on a store of zeros of just its lengths
unfoldable pub sheet_left : List ℕ → Sheet → Left
sheet_left s h =
    let w = h.options.memory_size / 8 in
    let n = h.options.amount_of_states in
    search_entry h.options h.log (image_of s h) (tape_of s h) (replicate (n * row_words w h.log) 0) (replicate (n * row_marks w) 0)

unfoldable pub search_printed : List ℕ → Sheet → List ℕ
search_printed s h =
    let x = sheet_left s h in
    lines (search_answer x.answer) (told_by x.answer (rows_of (layout_of h.options h.log) x.words x.marks))

-- a refused sheet prints zeros after its number
unfoldable pub printed_by : List ℕ → Result Sheet SheetError → List ℕ
printed_by s (Err e) = lines (refused_answer (sheet_number e)) None
printed_by s (Ok h) = search_printed s h

-- what the bench program prints
abbrev pub printed : List ℕ → List ℕ
printed s = printed_by s (parsed bench_limits s)
