-- What was printed, under another name of its text.
use Rattle.std.proofs.Common.{◌≡◌, sym, ap, ◌∙◌, List, ℕ, None, Result, Ok, Err}
use Rattle.answers.specs.Answers.{refused_answer}
use Rattle.lines.specs.Lines.{lines}
use Rattle.sheet.specs.Sheets.{parsed, bench_limits, sheet_number}
use Rattle.sheet.specs.declared.limits.Limits.{Limits}
use Rattle.sheet.specs.declared.parse.Sheet.{Sheet}
use Rattle.sheet.specs.declared.parse.SheetError.{SheetError}
use Rattle.report.specs.Reports.{search_printed, printed_by, printed}
use Rattle.report.specs.Printing.{Printed}

pub printed_as : {text text' out out' : List ℕ} {count : ℕ} → text ≡ text' → Printed text out out' count → Printed text' out out' count
printed_as e p = rw e at p

-- what a sheet is, by the code's limits and parse
module _ (s : List ℕ) {l : Limits} {p : Result Sheet SheetError} (bench : l ≡ bench_limits) (parse : p ≡ parsed l s) where
  pub sheet_is : {q : Result Sheet SheetError} → p ≡ q → parsed bench_limits s ≡ q
  sheet_is e = ap (λ (k : Limits). parsed k s) (sym bench) ∙ sym parse ∙ e

  pub refused_printed : {error : SheetError} → p ≡ Err error → lines (refused_answer (sheet_number error)) None ≡ printed s
  unfolding printed_by
  refused_printed e = rw (sheet_is e)

  pub accepted_printed : {h : Sheet} → p ≡ Ok h → search_printed s h ≡ printed s
  unfolding printed_by
  accepted_printed e = rw (sheet_is e)
