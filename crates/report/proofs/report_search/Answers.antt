use Rattle.std.proofs.Common.{arith}
use Rattle.laws.proofs.Fronts.{front_part}
use Rattle.report.proofs.Zeros.{zeros}
use Rattle.report.proofs.Stores.{most_words, most_marks, memory_few, log_few, words_few, marks_few, log_of_row, store_fit, printed_search}
use Rattle.report.proofs.Texts.{printed_as}
use Rattle.report.proofs.report_search.Goals as goal

pub new-layout-requires-clause-memory : goal.new-layout-requires-clause-memory
new-layout-requires-clause-memory c = omega (arith, memory_few c.args.sheet.now c.args.asked c.requires)

pub new-layout-requires-clause-log : goal.new-layout-requires-clause-log
new-layout-requires-clause-log c = omega (arith, log_few c.args.sheet.now c.args.asked c.requires)

pub overflow_mul-n : goal.overflow_mul-n
overflow_mul-n c = omega (arith, words_few c.args.sheet.now c.args.asked c.requires c.new-layout.ensures)

pub overflow_mul-m : goal.overflow_mul-m
overflow_mul-m c = omega (arith, marks_few c.args.sheet.now c.args.asked c.requires c.new-layout.ensures)

pub slice_bounds-words-end : goal.slice_bounds-words-end
slice_bounds-words-end c = omega (arith, words_few c.args.sheet.now c.args.asked c.requires c.new-layout.ensures)

pub slice_bounds-marks-end : goal.slice_bounds-marks-end
slice_bounds-marks-end c = omega (arith, marks_few c.args.sheet.now c.args.asked c.requires c.new-layout.ensures)

pub report_end-requires : goal.report_end-requires
report_end-requires c = log_of_row c.args.sheet.now c.args.asked c.requires c.new-layout.ensures

pub invariant_of-store : goal.invariant_of-store
invariant_of-store c =
    let s = c.args.sheet.now in
    let h = c.args.asked in
    let x = c.search_sheet in
    let is = c.new-layout.ensures in
    let words = front_part _ (zeros most_words) x.new.words (words_few s h c.requires is) x.auto.words in
    let marks = front_part _ (zeros most_marks) x.new.marks (marks_few s h c.requires is) x.auto.marks in
    rw (words, marks)
    (record { fit = store_fit s h c.requires is x.new.words x.new.marks x.result c.in-Ok.is x.ensures x.auto.words x.auto.marks })

pub returns-in-Ok : goal.returns-in-Ok
returns-in-Ok c =
    let s = c.args.sheet.now in
    let h = c.args.asked in
    let x = c.search_sheet in
    let is = c.new-layout.ensures in
    let words = front_part _ (zeros most_words) x.new.words (words_few s h c.requires is) x.auto.words in
    let marks = front_part _ (zeros most_marks) x.new.marks (marks_few s h c.requires is) x.auto.marks in
    printed_as (rw (words, marks) (printed_search s h c.requires is x.new.words x.new.marks x.result c.in-Ok.is x.ensures)) c.report_end.ensures

pub returns-in-Err : goal.returns-in-Err
returns-in-Err c =
    let x = c.search_sheet in
    let text = printed_search c.args.sheet.now c.args.asked c.requires c.new-layout.ensures x.new.words x.new.marks x.result c.in-Err.is x.ensures in
    printed_as (rw c.number.ensures text) c.report_refusal.ensures
