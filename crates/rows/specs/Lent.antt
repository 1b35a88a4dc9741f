-- The row that is behind a view of it.
use Rattle.std.specs.Prelude.{◌≡◌, length}
use Rattle.rows.specs.Rows.{Row, row}
use Rattle.rows.specs.declared.row.RowRef.{RowRef}
use Rattle.rows.specs.declared.row.RowMut.{RowMut}

-- of one that is lent to be read
abbrev pub seen : RowRef → Row
seen r = row r.words.now r.marks.now

-- of one that is lent to be changed
abbrev pub lent : RowMut → Row
lent r = row r.words.now r.marks.now

-- the view is still of the same words and marks, so that the row's owner sees what was written
pub record SameSlices (before after : RowMut) : Type 0 where
  pub same_words : after.words.ghost_name ≡ before.words.ghost_name
  pub same_marks : after.marks.ghost_name ≡ before.marks.ghost_name
  pub words_length : length after.words.now ≡ length before.words.now
  pub marks_length : length after.marks.now ≡ length before.marks.now
