use Rattle.std.proofs.Common.{arith}
use Rattle.sheet.specs.Sheets.{bench_limits}
use Rattle.sheet.proofs.Accepting.{accepted_within}
use Rattle.report.proofs.Tapes.{tape_few, tape_start, tape_room}
use Rattle.report.proofs.searching.search_sheet.Goals as goal

pub slice_bounds-read_words-count : goal.slice_bounds-read_words-count
slice_bounds-read_words-count c = tape_start c.args.sheet.now c.args.asked c.requires

pub slice_bounds-read_words-start : goal.slice_bounds-read_words-start
slice_bounds-read_words-start c = omega (arith, tape_start c.args.sheet.now c.args.asked c.requires)

pub slice_bounds-tape-end : goal.slice_bounds-tape-end
slice_bounds-tape-end c = omega (arith, tape_few c.args.sheet.now c.args.asked c.requires)

pub read_words-requires : goal.read_words-requires
read_words-requires c = tape_room c.args.sheet.now c.args.asked c.requires

pub search_with-requires : goal.search_with-requires
search_with-requires c = accepted_within bench_limits c.args.sheet.now c.args.asked c.requires
