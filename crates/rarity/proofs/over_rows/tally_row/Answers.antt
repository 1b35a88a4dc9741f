use Rattle.std.proofs.Common.{ap, ◌∙◌, arith}
use Rattle.rows.specs.Rows.{Row}
use Rattle.counting.specs.Cells.{place_at}
use Rattle.rarity.proofs.Turns.{places_none, place_turn, place_skip, places_end, marks_in_row}
use Rattle.rarity.proofs.over_rows.tally_row.Goals as goal
use Rattle.rarity.proofs.over_rows.tally_row.Goals.{in-Concrete, in_default}

pub loop-place-init : goal.loop-place-init
loop-place-init c = record { counted = places_none c.new-t.ensures }

pub loop-place-preserved : goal.loop-place-preserved
loop-place-preserved c =
    let d = c.place_at.ensures ∙ ap (λ (z : Row). place_at z c.loop-place.place) c.row-row.ensures.value in
    let h = c.loop-place.invariant.counted in
    record {
      counted =
          elim c.match-place_at.branch [
            | in-Concrete w ↦ place_turn d h _ w.in-Concrete.is w.tally_word-t.ensures.taken w.tally_word-t.ensures.small w.t-is
            | in_default w ↦ place_skip d h w.in_default.is w.t-is
          ];
    }

-- the last place
pub returns-after-place_at-clause-value : goal.returns-after-place_at-clause-value
returns-after-place_at-clause-value c =
    let d = c.place_at.ensures ∙ ap (λ (z : Row). place_at z c.loop-place.place) c.row-row.ensures.value in
    let h = c.loop-place.invariant.counted in
    let n = marks_in_row c.args.rows.store.fit c.args.r c.requires.row in
    elim c.match-place_at.branch [
      | in-Concrete w ↦
          (places_end (place_turn d h _ w.in-Concrete.is w.tally_word-t.ensures.taken w.tally_word-t.ensures.small w.t-is) (omega (arith, n)) (omega (arith, n))).0
      | in_default w ↦ (places_end (place_skip d h w.in_default.is w.t-is) (omega (arith, n)) (omega (arith, n))).0
    ]
