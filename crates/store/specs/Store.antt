-- The lent store ("A row" in document 01): a list of rows, and the two flat lists that hold them one after the other.
use Rattle.std.specs.Prelude.{List, [], ◌∷◌, ◌++◌, ◌≡◌, ℕ, zero, suc, ◌+◌, ◌-◌, ◌*◌, ◌<◌, ◌≤◌, length, get_or, set, take, drop, replicate}
use Rattle.values.specs.Values.{register_count}
use Rattle.rows.specs.Limits.{most_rows, most_memory}
use Rattle.rows.specs.Rows.{Row, row, blank, header, row_words, row_marks}
use Rattle.store.specs.declared.layout.Layout.{Layout}

-- the most marks of a row
abbrev pub most_marks : ℕ
most_marks = row_marks most_memory

-- so many rows, of W memory words and L log words each
abbrev pub layout : ℕ → ℕ → ℕ → Layout
layout rows w l = record { rows = rows; words = row_words w l; marks = row_marks w }

-- W of a store's rows
abbrev pub memory_of : Layout → ℕ
memory_of s = s.marks - register_count

-- n rows of w words and m marks each, cut from the front
unfoldable pub cut : ℕ → ℕ → ℕ → List ℕ → List ℕ → List Row
cut zero w m words marks = []
cut (suc n) w m words marks = row (take w words) (take m marks) ∷ cut n w m (drop w words) (drop m marks)

-- the rows of a store
abbrev pub rows_of : Layout → List ℕ → List ℕ → List Row
rows_of s words marks = cut s.rows s.words s.marks words marks

-- the words of some rows, one row after the other
unfoldable pub words_of : List Row → List ℕ
words_of [] = []
words_of (r ∷ rs) = r.words ++ words_of rs

-- and their marks
unfoldable pub marks_of : List Row → List ℕ
marks_of [] = []
marks_of (r ∷ rs) = r.marks ++ marks_of rs

-- row i of a list of rows
abbrev pub nth_row : List Row → ℕ → Row
nth_row rows i = get_or rows i (row [] [])

-- a row of zeros
abbrev pub zero_row : Layout → Row
zero_row s = blank s.words s.marks

-- row `from` is copied over row `to`
abbrev pub row_copied : ℕ → ℕ → List Row → List Row
row_copied from to rows = set rows to (nth_row rows from)

-- rows a and b change places
abbrev pub rows_swapped : ℕ → ℕ → List Row → List Row
rows_swapped a b rows = set (set rows a (nth_row rows b)) b (nth_row rows a)

-- the rows from `from` on become zero
abbrev pub rows_zeroed : Layout → ℕ → List Row → List Row
rows_zeroed s from rows = take from rows ++ replicate (s.rows - from) (zero_row s)

-- what document 01 allows of a store: at most 4,096 rows, memory of some words and at most 1 MiB, a word for each mark
pub record Sized (s : Layout) : Type 0 where
  pub few : s.rows ≤ most_rows
  pub registers : register_count < s.marks
  pub memory : s.marks ≤ most_marks
  pub slots : s.marks + header ≤ s.words

-- two lists of just the lengths of a store
pub record Fit (s : Layout) (words marks : List ℕ) : Type 0 where
  pub sized : Sized s
  pub all_words : length words ≡ s.rows * s.words
  pub all_marks : length marks ≡ s.rows * s.marks
