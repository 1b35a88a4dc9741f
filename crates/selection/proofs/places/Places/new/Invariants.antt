use Rattle.std.proofs.Common.{◌≡◌, length}
use Rattle.rows.specs.Limits.{most_rows}
use Rattle.selection.specs.Places.{Own}
use Rattle.selection.proofs.places.Places.new.Given as goal

-- the struct's fields, in the loop a tuple
abbrev pub invariant-loop-place : goal.invariant-loop-place
invariant-loop-place l =
    let place_of_row = l.places.1.0 in
    let row_at_place = l.places.1.1.0 in
    record {
      places : Own l.place place_of_row;
      rows : Own l.place row_at_place;
      room_places : length place_of_row ≡ most_rows;
      room_rows : length row_at_place ≡ most_rows;
      none : l.places.0 ≡ 0;
    }
