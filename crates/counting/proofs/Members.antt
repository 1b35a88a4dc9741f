-- The rows that take part: at most all, each one of all, and each whose flag is set.
use Rattle.std.proofs.Common.{◌≡◌, refl, Bool, true, false, List, [], ◌∷◌, ℕ, zero, suc, ◌≤◌, ◌<◌, le_of_suc-le-suc, not-suc-le-zero, arith, lit≤, length, get_or}
use mathlib.Core.List.Memᴰ
use mathlib.Core.List.{Memᴰ}
use Rattle.rows.specs.Rows.{Row}
use Rattle.store.specs.Store.{nth_row}
use Rattle.counting.specs.Counters.{taking}

pub taking_among : (flags : List Bool) (rows : List Row) {r : Row} → Memᴰ r (taking flags rows) → Memᴰ r rows
unfolding taking
taking_among [] rows m = absurd (Memᴰ.not-nil m)
taking_among (f ∷ fs) [] m = absurd (Memᴰ.not-nil m)
taking_among (true ∷ fs) (q ∷ rows) (Memᴰ.head e) = Memᴰ.head e
taking_among (true ∷ fs) (q ∷ rows) (Memᴰ.tail m) = Memᴰ.tail (taking_among fs rows m)
taking_among (false ∷ fs) (q ∷ rows) m = Memᴰ.tail (taking_among fs rows m)

pub taking_length : (flags : List Bool) (rows : List Row) → length (taking flags rows) ≤ length rows
unfolding taking
taking_length [] rows = omega arith
taking_length (f ∷ fs) [] = lit≤ tt
taking_length (true ∷ fs) (r ∷ rows) = omega (arith, taking_length fs rows)
taking_length (false ∷ fs) (r ∷ rows) = omega (arith, taking_length fs rows)

-- a row whose flag is set is one of those that take part
pub flagged_among : (flags : List Bool) (rows : List Row) (r : ℕ) → r < length rows → get_or flags r false ≡ true → Memᴰ (nth_row rows r) (taking flags rows)
unfolding taking
flagged_among [] rows r h e = cc
flagged_among (f ∷ fs) [] r h e = absurd (not-suc-le-zero h)
flagged_among (true ∷ fs) (q ∷ rows) zero h e = Memᴰ.head refl
flagged_among (false ∷ fs) (q ∷ rows) zero h e = cc
flagged_among (true ∷ fs) (q ∷ rows) (suc r) h e = Memᴰ.tail (flagged_among fs rows r (le_of_suc-le-suc h) e)
flagged_among (false ∷ fs) (q ∷ rows) (suc r) h e = flagged_among fs rows r (le_of_suc-le-suc h) e
