-- Filling makes all rows of the store, each a kept one, a copy of a kept one, or a new executor made in this round.
use Rattle.std.proofs.Common.{Bool, true, false, cond, Ok, Err, List, [], ◌∷◌, map, ◌≡◌, refl, ℕ, ◌-◌, ◌%◌, ◌≤◌, ◌<◌, mod-lt, arith, ltb-false, T, eqb, length, take, drop, length-append, length-take, length-drop, length-set, get_or-set_same, get_or-set_other, ◌∙◌}
use Rattle.std.proofs.lemmas.Bool.{eqb-false}
use Rattle.std.proofs.Math.ListN.{length-map, length-replicate}
use Rattle.checks.specs.Refusals.{is_copy_ratio}
use Rattle.loader.specs.Loading.{new_executor}
use Rattle.loader.proofs.Kept.{new_words, new_marks, new_depth, new_limit, new_zero_mark}
use Rattle.rows.specs.Rows.{Row, row, born_of, depth_of, limit_of}
use Rattle.store.specs.Store.{Sized}
use Rattle.rounds.specs.Calls.{Call}
use Rattle.rounds.specs.Copies.{to_copy}
use Rattle.rounds.specs.Demand.{All, nil, cons}
use Rattle.answers.specs.declared.finding.Finding.TheVariants.{TapeShort}
use Rattle.rounds.specs.Rounds.{Start, missing, copies, tape_short, parent, new_row, filled, Round, round_of, between, round_made}
use Rattle.rounds.proofs.Copies.{copy_most}
use Rattle.rounds.proofs.Lists.{all_append, all_at, all_replicate}
use Rattle.rounds.proofs.Proper.{Proper}

module _ (c : Call) (s : Start) (sized : Sized c.store) where
  -- no more copies than rows are missing
  pub copies_most : T (is_copy_ratio c.options.copy_init_ratio) → copies c s ≤ missing c s
  copies_most ratio = by (eqb (length s.kept) 0)
    where
      by : (b : Bool) → cond b 0 (to_copy (missing c s) c.options.copy_init_ratio) ≤ missing c s
      by true = omega arith
      by false = copy_most (missing c s) c.options.copy_init_ratio (omega (arith, sized.few)) ratio

  -- every row of the store is filled
  pub filled_length : (k : ℕ) → T (is_copy_ratio c.options.copy_init_ratio) → length s.kept ≤ c.store.rows → tape_short c s ≡ false
      → length (filled c k s) ≡ c.store.rows
  unfolding filled tape_short
  filled_length k ratio few tape =
      let most = copies_most ratio in
      let enough = ltb-false (length c.tape - s.used) (copies c s) tape in
      simp (length-append, length-map, length-take, length-drop, length-replicate) (omega arith)

-- a new executor of a round
module _ (c : Call) (k : ℕ) (sized : Sized c.store) where
  abbrev new : Row
  new = new_executor c.image c.store.words c.store.marks

  pub new_round_depth : depth_of (new_row c k) ≡ 0
  new_round_depth = get_or-set_other new.words 5 2 _ 0 (λ e. omega arith) ∙ new_depth c.image c.store.words c.store.marks sized.registers sized.slots

  pub new_round_limit : limit_of (new_row c k) ≡ 0
  new_round_limit = get_or-set_other new.words 5 3 _ 0 (λ e. omega arith) ∙ new_limit c.image c.store.words c.store.marks sized.registers sized.slots

  pub new_round_born : born_of (new_row c k) ≡ k
  new_round_born = get_or-set_same new.words 5 _ 0 (omega (arith, new_words c.image c.store.words c.store.marks, sized.slots))

  pub new_proper : Proper c.store (new_row c k)
  new_proper =
      record {
        words = simp length-set (new_words c.image c.store.words c.store.marks);
        marks = new_marks c.image c.store.words c.store.marks;
        zero_mark = new_zero_mark c.image c.store.words c.store.marks sized.registers sized.slots;
      }

-- a round that is made is one that filling does not stop
pub made_of : (c : Call) (k : ℕ) (s : Start) {r : Round} → round_made c k s ≡ Ok r → (tape_short c s ≡ false) × (r ≡ round_of c k s)
unfolding round_made
made_of c k s {r} = by (tape_short c s)
  where
    by : (b : Bool) → cond b (Err (between c TapeShort s)) (Ok (round_of c k s)) ≡ Ok r → (b ≡ false) × (r ≡ round_of c k s)
    by true e = cc
    by false e = (refl, cc)

-- what holds of the kept rows and of a new one holds of all rows filled
module _ {P : Row → Type 0} (c : Call) (k : ℕ) (s : Start) (kept : All P s.kept) where
  parents : (words : List ℕ) → 0 < length s.kept → All P (map (parent s.kept) words)
  parents [] some = nil
  parents (x ∷ words) some = cons (all_at s.kept (x % length s.kept) (row [] []) (mod-lt x some) kept) (parents words some)

  -- where none is kept none is copied
  copied : All P (map (parent s.kept) (take (copies c s) (drop s.used c.tape)))
  copied = by (eqb (length s.kept) 0) refl (to_copy (missing c s) c.options.copy_init_ratio)
    where
      some : (n : ℕ) → (n ≡ 0 → ⊥) → 0 < n
      some n h = omega arith

      by : (b : Bool) → eqb (length s.kept) 0 ≡ b → (n : ℕ) → All P (map (parent s.kept) (take (cond b 0 n) (drop s.used c.tape)))
      by true e n = nil
      by false e n = parents (take n (drop s.used c.tape)) (some (length s.kept) (eqb-false (length s.kept) 0 e))

  pub filled_all : P (new_row c k) → All P (filled c k s)
  unfolding filled
  filled_all new = all_append kept (all_append copied (all_replicate (missing c s - copies c s) (new_row c k) new))
