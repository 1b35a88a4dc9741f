-- One turn of each loop of this crate.
use Rattle.std.proofs.Common.{◌≡◌, refl, sym, ap, ◌∙◌, subst, Bool, true, false, cond, List, [], ◌++◌, map, append-nil, ℕ, ◌+◌, ◌*◌, ◌≤◌, ◌<◌, add-one, arith, lit≤, length, get_or, set, take, length-set, take-suc, take-suc-set, take_all, Float}
use mathlib.Core.List.{map-append}
use lib.Ieee.{nan}
use Rattle.std.specs.Float.Ieee.{of_bits, binary64, of_int}
use Rattle.values.specs.declared.Value.{Value}
use Rattle.values.specs.declared.Value.TheVariants.{Concrete, Uninitialized}
use Rattle.rows.specs.Rows.{Row}
use Rattle.store.specs.declared.layout.Layout.{Layout}
use Rattle.store.specs.Store.{most_marks, Fit, rows_of, nth_row}
use Rattle.store.proofs.Rows.{lent_row, lent_marks}
use Rattle.means.specs.declared.MeanType.{MeanType}
use Rattle.means.specs.declared.Tally.{Tally}
use Rattle.means.specs.Means.{whole, sum}
use Rattle.means.specs.Tallies.{tally, Within, most_counters}
use Rattle.counting.specs.Cells.{place_at, byte_addresses, word_addresses, addresses_to}
use Rattle.counting.specs.Counters.{counter_in, counters_of, taking}
use Rattle.rarity.proofs.Among.{score_at, scores_length}
use Rattle.tables.specs.Taken.{Taken}
use Rattle.tables.proofs.Taking.{within_looser}
use Rattle.rarity.specs.Scores.{score, flagged_scores}

-- the places of a row: t is the tally of the counters of the first of them
pub record Upto (rows : List Row) (r : Row) (place : ℕ) (t : Tally) : Type 0 where
  pub counted : t ≡ tally (map (counter_in rows) (addresses_to place r))
  pub within : Within (8 * place) t

pub places_none : {rows : List Row} {r : Row} {t : Tally} → t ≡ tally [] → Upto rows r 0 t
unfolding addresses_to sum
places_none e = record { counted = e; within = subst (Within 0) (sym e) (record { few = lit≤ tt; small = lit≤ tt }) }

place_more : (rows : List Row) (r : Row) (place : ℕ)
    → map (counter_in rows) (addresses_to (place + 1) r)
    ≡ map (counter_in rows) (addresses_to place r) ++ map (counter_in rows) (word_addresses place (place_at r place))
unfolding addresses_to
place_more rows r place = rw (add-one, map-append)

module _ {rows : List Row} {r : Row} {place : ℕ} {v : Value} {t u : Tally} (d : v ≡ place_at r place) (h : Upto rows r place t) where
  pub place_turn : (x : ℕ) {s : Tally} → v ≡ Concrete x → Taken (counter_in rows) t (byte_addresses place x 8) s → Within (8 * (place + 1)) s → u ≡ s
      → Upto rows r (place + 1) u
  place_turn x e k w q =
      record {
        counted = q ∙ k.taken (map (counter_in rows) (addresses_to place r)) h.counted ∙ ap tally (sym (place_more rows r place ∙ rw (← d, e)));
        within = rw q w;
      }

  pub place_skip : v ≡ Uninitialized → u ≡ t → Upto rows r (place + 1) u
  place_skip e q =
      record {
        counted = q ∙ h.counted ∙ ap tally (sym (place_more rows r place ∙ rw (← d, e) (append-nil (map (counter_in rows) (addresses_to place r)))));
        within = rw q (within_looser h.within (omega arith));
      }

pub places_end : {rows : List Row} {r : Row} {place : ℕ} {t : Tally} → Upto rows r place t → place ≡ length r.marks + 1
    → length r.marks ≤ most_marks → (t ≡ tally (counters_of rows r)) × Within most_counters t
unfolding counters_of
places_end {rows} {r} h e short =
    (h.counted ∙ ap (λ (n : ℕ). tally (map (counter_in rows) (addresses_to n r))) (e ∙ add-one (length r.marks)), within_looser h.within (omega arith))

-- row i of a store has so many marks
pub marks_in_row : {s : Layout} {words marks : List ℕ} (f : Fit s words marks) (i : ℕ) → i < s.rows
    → length (nth_row (rows_of s words marks) i).marks ≡ s.marks
marks_in_row f i h = ap (λ (z : Row). length z.marks) (sym (lent_row f i h)) ∙ lent_marks f i h

-- the score of a row that does not take part
pub float_zero : of_bits binary64 0 ≡ whole 0
unfolding of_int of_bits
float_zero = refl

-- the first r of n scores are written
pub record Written (m : MeanType) (flags : List Bool) (rows : List Row) (n r : ℕ) (scores : List Float) : Type 0 where
  pub same : length scores ≡ n
  pub first : take r scores ≡ take r (flagged_scores m flags rows)

module _ {m : MeanType} {flags : List Bool} {rows : List Row} {n r : ℕ} {scores : List Float} (a : length flags ≡ n) (b : length rows ≡ n)
    (h : Written m flags rows n r scores) where
  score_turn : {s : Float} {next : List Float} → r < n → s ≡ cond (get_or flags r false) (score m (taking flags rows) (nth_row rows r)) (whole 0)
      → next ≡ set scores r s → Written m flags rows n (r + 1) next
  score_turn {s} l d q =
      let e = scores_length m (taking flags rows) flags rows a b in
      rw q (record {
        same = length-set scores r s ∙ h.same;
        first = rw (
          add-one,
          take-suc-set scores r s (omega (arith, h.same)),
          take-suc (flagged_scores m flags rows) r nan (omega arith),
          h.first,
          score_at m (taking flags rows) flags rows r (omega arith) (omega arith),
          d,
        );
      })

  pub score_taking : {s : Float} {next : List Float} → r < n → get_or flags r false ≡ true → s ≡ score m (taking flags rows) (nth_row rows r)
      → next ≡ set scores r s → Written m flags rows n (r + 1) next
  score_taking l t d q = score_turn l (rw t d) q

  pub score_zero : {s : Float} {next : List Float} → r < n → get_or flags r false ≡ false → s ≡ whole 0 → next ≡ set scores r s
      → Written m flags rows n (r + 1) next
  score_zero l t d q = score_turn l (rw t d) q

  pub scores_end : n ≤ r → scores ≡ flagged_scores m flags rows
  scores_end l =
      let e = scores_length m (taking flags rows) flags rows a b in
      sym (take_all r scores (omega (arith, h.same))) ∙ h.first ∙ take_all r (flagged_scores m flags rows) (omega arith)
