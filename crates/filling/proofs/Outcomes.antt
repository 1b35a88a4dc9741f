-- The two outcomes of filling, from what the code has counted: too few tape words for the copies, or a full store.
use Rattle.std.proofs.Common.{◌≡◌, ℕ, ◌+◌, ◌-◌, ◌<◌, ◌≤◌, Bool, false, ltb, List, map, length, take, drop, replicate, sym, ap, ◌∙◌, subst, append_assoc, arith, length-drop, length-take-le, le-ltb, lt-ltb, Ok, Err}
use Rattle.answers.specs.declared.finding.Finding.TheVariants.{TapeShort}
use Rattle.rows.specs.Rows.{Row}
use Rattle.loader.specs.Lent.{program_seen}
use Rattle.store.specs.declared.layout.Layout.{Layout}
use Rattle.store.specs.declared.view.StoreMut.{StoreMut}
use Rattle.store.specs.Lent.{rows_lent, SameStore}
use Rattle.rounds.specs.declared.call.Call.{Call as LentCall}
use Rattle.rounds.specs.declared.call.Start.{Start as StartByValue}
use Rattle.rounds.specs.Calls.{Call}
use Rattle.rounds.specs.Copies.{copies_of}
use Rattle.rounds.specs.Rounds.{Start, stored, copies, tape_short, parent, new_row, filled}
use Rattle.rounds.specs.Handed.{call_of, start_of, Holding}
use Rattle.filling.specs.Filling.{filling, after_filling, filled_as, with_copies, with_new}
use Rattle.filling.proofs.Fronts.{Front, kept_length, with_copies_length, front_taken}

-- what the code knows before it changes a row: how many copies to make, that there is room for them, and the tape words left
pub record Planned (s : StoreMut) (c : LentCall) (x : StartByValue) (count left : ℕ) : Type 0 where
  pub holds : Holding s x.kept
  pub counted : count ≡ copies_of s.layout.rows x.kept c.options.copy_init_ratio
  pub room : x.kept + count ≤ s.layout.rows
  pub remaining : left ≡ length c.tape.now - x.used

module _ {s : StoreMut} {c : LentCall} {x : StartByValue} {count left : ℕ} (number : ℕ) (k : Planned s c x count left) where
  abbrev asked : Call
  asked = call_of s.layout c

  abbrev start : Start
  start = start_of s x

  copies_counted : copies asked start ≡ count
  copies_counted = rw (kept_length k.holds) (sym k.counted)

  short_is : {b : Bool} → ltb left count ≡ b → tape_short asked start ≡ b
  unfolding tape_short
  short_is e = rw (← k.remaining, copies_counted) e

  pub short_of_tape : left < count → filled_as (Err (record { finding = TapeShort; used = x.used })) (rows_lent s) asked number start
  unfolding filling after_filling
  short_of_tape few =
      let short = short_is (lt-ltb _ _ few) in
      (rw short, rw short k.holds.rest)

  module _ (enough : count ≤ left) where
    short_not : tape_short asked start ≡ false
    short_not = short_is (le-ltb _ _ enough)

    pub answered : Ok (x.used + count) ≡ filling asked start
    unfolding filling
    answered = rw (short_not, copies_counted)

    abbrev rows_kept : List Row
    rows_kept = start.kept

    abbrev draws : List ℕ
    draws = take count (drop x.used c.tape.now)

    copied_length : length (with_copies rows_kept draws) ≡ x.kept + count
    copied_length =
        with_copies_length rows_kept draws
        ∙ omega (arith, kept_length k.holds, length-take-le count (drop x.used c.tape.now) (omega (arith, length-drop x.used c.tape.now, k.remaining)))

    -- the store between the two halves
    module _ (t : StoreMut) (same : SameStore s t) (copied : rows_lent t ≡ stored s.layout (with_copies rows_kept draws)) where
      between : Front t.layout (with_copies rows_kept draws) (rows_lent t)
      between =
          subst (λ (l : Layout). Front l (with_copies rows_kept draws) (rows_lent t)) (sym same.same_layout)
          (record { few = omega (arith, copied_length, k.room); rows = copied })

      pub all_filled : {now : List Row}
          → now ≡ with_new t.layout number (program_seen c.program) (take (x.kept + count) (rows_lent t)) (t.layout.rows - (x.kept + count))
          → now ≡ after_filling asked number start
      unfolding after_filling filled
      all_filled e =
          let p = program_seen c.program in
          let n = s.layout.rows in
          let rest : n - (x.kept + count) ≡ n - x.kept - count = omega arith in
          e
          ∙ ap (λ (l : List Row). with_new t.layout number p l (t.layout.rows - (x.kept + count))) (front_taken (x.kept + count) copied_length between)
          ∙ ap (λ (l : Layout). with_new l number p (with_copies rows_kept draws) (l.rows - (x.kept + count))) same.same_layout
          ∙ ap (λ (i : ℕ). with_new s.layout number p (with_copies rows_kept draws) i) rest
          ∙ append_assoc rows_kept (map (parent rows_kept) draws) (replicate (n - x.kept - count) (new_row asked number))
          ∙ rw (short_not, copies_counted, kept_length k.holds)
