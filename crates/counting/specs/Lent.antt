-- The rows that are behind a view of those that take part.
use Rattle.std.specs.Prelude.{List}
use Rattle.rows.specs.Rows.{Row}
use Rattle.store.specs.Lent.{rows_seen}
use Rattle.counting.specs.Counters.{taking}
use Rattle.counting.specs.declared.taking.Taking.{Taking}

abbrev pub rows_taking : Taking → List Row
rows_taking t = taking t.flags.now (rows_seen t.store)
