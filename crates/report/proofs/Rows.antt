-- What a row in a store tells.
use Rattle.std.proofs.Common.{◌≡◌, ap, List, [], ℕ, ◌+◌, ◌≤◌, ◌<◌, arith, length}
use Rattle.std.proofs.Math.ListN.{get_or-eq_default}
use Rattle.rows.specs.Rows.{Row, row, header, log_room}
use Rattle.store.specs.Store.{rows_of, nth_row, Fit}
use Rattle.store.specs.declared.layout.Layout.{Layout}
use Rattle.store.proofs.Rows.{row_get, part_length, length_rows}
use Rattle.report.specs.Reports.{told_in}

-- a row past the last one has no words
pub tells_nothing : (s : Layout) (words marks : List ℕ) (i : ℕ) → s.rows ≤ i
    → told_in (nth_row (rows_of s words marks) i) ≡ record { born = 0; inputs = [] }
tells_nothing s words marks i h =
    let past : length (rows_of s words marks) ≤ i = omega (arith, length_rows s.rows s.words s.marks words marks) in
    ap told_in (get_or-eq_default (rows_of s words marks) (row [] []) past)

-- the room of a row's log is what the layout says
pub room_in : (s : Layout) (words marks : List ℕ) {i : ℕ} {r : Row} → r ≡ nth_row (rows_of s words marks) i → Fit s words marks → i < s.rows
    → log_room r + header + s.marks ≡ s.words
room_in s words marks {i} e fit h =
    rw (e, row_get s.rows s.words s.marks i words marks h)
    (omega (arith, part_length s.rows s.words i words h fit.all_words, part_length s.rows s.marks i marks h fit.all_marks, fit.sized.slots))
