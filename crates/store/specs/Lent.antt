-- The rows that are behind a view of a store.
use Rattle.std.specs.Prelude.{◌≡◌, List}
use Rattle.rows.specs.Rows.{Row}
use Rattle.store.specs.Store.{rows_of}
use Rattle.store.specs.declared.view.StoreRef.{StoreRef}
use Rattle.store.specs.declared.view.StoreMut.{StoreMut}

-- of one that is lent to be read
abbrev pub rows_seen : StoreRef → List Row
rows_seen s = rows_of s.layout s.words.now s.marks.now

-- of one that is lent to be changed
abbrev pub rows_lent : StoreMut → List Row
rows_lent s = rows_of s.layout s.words.now s.marks.now

-- the view is still of the same words and marks, cut in the same way, so that the store's owner sees what was written
pub record SameStore (before after : StoreMut) : Type 0 where
  pub same_words : after.words.ghost_name ≡ before.words.ghost_name
  pub same_marks : after.marks.ghost_name ≡ before.marks.ghost_name
  pub same_layout : after.layout ≡ before.layout
