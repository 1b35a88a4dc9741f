-- Lists of the lengths that a store within its bounds has fit it.
use Rattle.std.proofs.Common.{◌≡◌, List, ℕ, ◌*◌, ◌<◌, ◌≤◌, arith, length}
use Rattle.rows.specs.Rows.{row_words, row_marks}
use Rattle.rows.specs.Limits.{most_rows, most_memory}
use Rattle.store.specs.Store.{layout, Fit}

pub lengths_fit : (rows w l : ℕ) {words marks : List ℕ} → rows ≤ most_rows → 0 < w → w ≤ most_memory
    → length words ≡ rows * row_words w l → length marks ≡ rows * row_marks w → Fit (layout rows w l) words marks
lengths_fit rows w l few some most all_words all_marks =
    record {
      sized = record { few = few; registers = omega arith; memory = omega arith; slots = omega arith };
      all_words = all_words;
      all_marks = all_marks;
    }
