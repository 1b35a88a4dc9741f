-- A table with the counters of the rows that take part gives each of them its score, and once their addresses are wiped it is zero again.
use Rattle.std.proofs.Common.{◌≡◌, refl, ap, ◌∙◌, true, false, List, replicate, Float, ℕ, ◌≤◌, ◌<◌, ◌⊎◌, inl, inr, arith, length, get_or}
use Rattle.std.proofs.Math.ListN.{get_or-eq_default}
use Rattle.std.proofs.lemmas.List.{length-replicate, get_or-replicate}
use Rattle.rows.specs.Rows.{Row}
use Rattle.store.specs.Store.{memory_of, nth_row}
use Rattle.store.specs.Lent.{rows_seen}
use Rattle.store.proofs.Rows.{length_rows}
use Rattle.means.specs.declared.MeanType.{MeanType}
use Rattle.means.specs.Means.{Counters}
use Rattle.counting.specs.Counters.{counters_of}
use Rattle.counting.specs.Lent.{rows_taking}
use Rattle.counting.specs.declared.taking.Taking.{Taking}
use Rattle.counting.proofs.Members.{flagged_among}
use Rattle.marked.specs.Gaps.{no_gap}
use Rattle.marked.proofs.Passing.{nothing_passed}
use Rattle.tables.specs.Tables.{table_length, zeros, addresses_in, counters_from, score_from, Counted}
use Rattle.tables.specs.Changes.{added, wiped}
use Rattle.tables.specs.Gaps.{GapEach}
use Rattle.tables.proofs.Changes.{lt_or_ge, added_length, wiped_counted}
use Rattle.tables.proofs.Stores.{taking_few, addresses_inside}
use Rattle.tables.proofs.Totals.{counters_same}
use Rattle.rarity.specs.Scores.{score}
use Rattle.rarity.specs.Own.{row_score}
use Rattle.rarity.proofs.Bounds.{own_counters}

-- row r, whose flag is set
module _ (t : Taking) {r : ℕ} (h : r < t.store.layout.rows) (flag : get_or t.flags.now r false ≡ true) {x : Row} (is : x ≡ nth_row (rows_seen t.store) r)
    (many : length x.marks ≡ t.store.layout.marks) {table : List ℕ} (long : length table ≡ table_length (memory_of t.store.layout))
    (c : Counted (rows_taking t) table) where
  own_same : counters_from table x ≡ counters_of (rows_taking t) x
  own_same =
      counters_same x c (rw long (addresses_inside (memory_of t.store.layout) x (omega (arith, t.store.fit.sized.registers))))

  pub counters_there : Counters (counters_from table x)
  counters_there =
      let s = t.store in
      let n = s.layout in
      rw (own_same, is)
      (own_counters (rows_taking t) (taking_few t)
      (flagged_among t.flags.now (rows_seen s) r (omega (arith, length_rows n.rows n.words n.marks s.words.now s.marks.now)) flag))

  pub score_there : (m : MeanType) {y : Float} → y ≡ score_from m table x → y ≡ row_score m t r
  unfolding score
  score_there m e = e ∙ rw (own_same, is) refl

-- no gaps at first
pub no_gaps : (rows : List Row) (n : ℕ) → GapEach rows (replicate n no_gap)
no_gaps rows n = record { each = λ r. rw (alike r) (nothing_passed (nth_row rows r).marks 0 (omega arith)) }
  where
    alike : (r : ℕ) → get_or (replicate n no_gap) r no_gap ≡ no_gap
    alike r = go (lt_or_ge r n)
      where
        go : (r < n) ⊎ (n ≤ r) → get_or (replicate n no_gap) r no_gap ≡ no_gap
        go (inl l) = get_or-replicate n r no_gap no_gap l
        go (inr l) = get_or-eq_default (replicate n no_gap) no_gap (rw length-replicate l)

-- a table that was zero, counted in and wiped
pub zero_again : (t : Taking) {table now end : List ℕ} → table ≡ zeros (table_length (memory_of t.store.layout)) → now ≡ added (addresses_in (rows_taking t)) table
    → end ≡ wiped (addresses_in (rows_taking t)) now → end ≡ table
zero_again t e d q = rw (q, d, e) (wiped_counted (table_length (memory_of t.store.layout)) (addresses_in (rows_taking t)))

pub long_there : (t : Taking) {table now : List ℕ} → table ≡ zeros (table_length (memory_of t.store.layout)) → now ≡ added (addresses_in (rows_taking t)) table
    → length now ≡ table_length (memory_of t.store.layout)
long_there t {table} e d = ap length d ∙ added_length (addresses_in (rows_taking t)) table ∙ ap length e ∙ length-replicate (table_length (memory_of t.store.layout)) 0
