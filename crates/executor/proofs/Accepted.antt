-- What an entry's tests that passed, or did not, say.
use Rattle.std.proofs.Common.{Result, Ok, Err, ◌≡◌, refl, sym, ◌∙◌, Bool, true, [], ◌∷◌, ◌++◌, ℕ, ◌-◌, ◌/◌, ◌^◌, ◌<◌, ◌≤◌, arith, length, le-leb}
use Rattle.laws.proofs.Choices.{parts}
use Rattle.rows.specs.Rows.{Row, Shape, limit_of}
use Rattle.rows.specs.Valid.{sound_row, valid_row}
use Rattle.loader.specs.Loading.{Program}
use Rattle.loader.specs.Lent.{Loadable}
use Rattle.checks.specs.Segments.{segment_tests}
use Rattle.checks.specs.Tests.{test, checked_by}
use Rattle.checks.specs.declared.refusal.Refusal.{Refusal}
use Rattle.checks.specs.declared.refusal.Refusal.TheVariants.{InvalidRow}
use Rattle.checks.proofs.Fitting.{segments_fit}
use Rattle.checks.proofs.Passed.{memory_size_passed, lengths, valid_limit}
use Rattle.checks.proofs.Tests.{AllPass, all_pass, then_others, then_test, still_refused}
use Rattle.executor.specs.Entries.{size_tests, creation_checked, run_checked}

-- sizes that pass
pub record Sizes (memory : ℕ) (r : Row) : Type 0 where
  pub shape : Shape r.words r.marks
  pub some_memory : 32 < length r.marks
  pub memory_in_words : length r.marks - 32 ≡ memory / 8

sizes_of : (memory log : ℕ) (r : Row) → AllPass (size_tests memory log r) → Sizes memory r
sizes_of memory log r p =
    let m = memory_size_passed memory p.0 in
    let n = lengths 1 (memory / 8) log (length r.words) (length r.marks) p.1.1.0 in
    record {
      shape = record { registers = omega (arith, n.1); slots = omega (arith, n.0, n.1) };
      some_memory = omega (arith, m.1, n.1);
      memory_in_words = omega (arith, n.1);
    }

module _ (memory log : ℕ) (r : Row) {sizes : Result (Unit {0}) Refusal} (e : sizes ≡ checked_by (size_tests memory log r)) where
  pub sizes_accepted : sizes ≡ Ok tt → Sizes memory r
  sizes_accepted h = sizes_of memory log r (all_pass (size_tests memory log r) e h)

  -- a run
  pub run_refused : {f : Refusal} → sizes ≡ Err f → run_checked memory log r ≡ Err f
  unfolding run_checked
  run_refused h = still_refused (size_tests memory log r) e _ h

  module _ (h : sizes ≡ Ok tt) {valid : Bool} (v : valid ≡ valid_row r) {tested : Result (Unit {0}) Refusal} (d : tested ≡ checked_by (test valid InvalidRow ∷ [])) where
    pub run_tested : run_checked memory log r ≡ tested
    unfolding run_checked
    run_tested = then_test (size_tests memory log r) e InvalidRow h v d

  -- a new executor
  module _ (p : Program) where
    pub creation_refused : {f : Refusal} → sizes ≡ Err f → Err f ≡ creation_checked memory log p r
    unfolding creation_checked
    creation_refused h = sym (still_refused (size_tests memory log r) e (segment_tests (memory / 8) p) h)

    module _ (h : sizes ≡ Ok tt) {segments : Result (Unit {0}) Refusal} (g : segments ≡ checked_by (segment_tests (memory / 8) p)) where
      pub creation_tested : segments ≡ creation_checked memory log p r
      unfolding creation_checked
      creation_tested = g ∙ sym (then_others (size_tests memory log r) e (segment_tests (memory / 8) p) h)

      pub creation_fits : segments ≡ Ok tt → Loadable (length r.marks - 32) p
      creation_fits k =
          let f = segments_fit (memory / 8) p (all_pass (segment_tests (memory / 8) p) g k) in
          rw (sizes_accepted h).memory_in_words (record { code_fits = f.0; data_fits = f.1 })

-- a row whose run is accepted
pub record Runnable (memory log : ℕ) (r : Row) : Type 0 where
  pub tests : AllPass (size_tests memory log r)
  pub sizes : Sizes memory r
  pub sound : sound_row r ≡ true
  pub low : limit_of r ≤ 2 ^ 63

-- a row in which a new executor of a program is accepted
pub record Creatable (memory log : ℕ) (p : Program) (r : Row) : Type 0 where
  pub tests : AllPass (size_tests memory log r)
  pub sizes : Sizes memory r
  pub fits : Loadable (length r.marks - 32) p

module _ (memory log : ℕ) (r : Row) where
  pub runnable : run_checked memory log r ≡ Ok tt → Runnable memory log r
  unfolding run_checked valid_row
  runnable h =
      let p = all_pass (size_tests memory log r ++ (test (valid_row r) InvalidRow ∷ [])) refl h in
      let tests : AllPass (size_tests memory log r) = (p.0, (p.1.0, (p.1.1.0, tt))) in
      record {
        tests = tests;
        sizes = sizes_of memory log r tests;
        sound = (parts _ _ p.1.1.1.0).0;
        low = valid_limit r p.1.1.1.0;
      }

  pub creatable : (p : Program) → creation_checked memory log p r ≡ Ok tt → Creatable memory log p r
  unfolding creation_checked
  creatable p h =
      let t = all_pass (size_tests memory log r ++ segment_tests (memory / 8) p) refl h in
      let tests : AllPass (size_tests memory log r) = (t.0, (t.1.0, (t.1.1.0, tt))) in
      let sizes = sizes_of memory log r tests in
      let f = segments_fit (memory / 8) p t.1.1.1 in
      record { tests = tests; sizes = sizes; fits = rw sizes.memory_in_words (record { code_fits = f.0; data_fits = f.1 }) }

  -- a run of a sound row is accepted whose lengths are those of a row whose sizes pass
  pub run_accepted : (s : Row) → AllPass (size_tests memory log r) → length s.words ≡ length r.words → length s.marks ≡ length r.marks
      → sound_row s ≡ true → limit_of s ≤ 2 ^ 63 → run_checked memory log s ≡ Ok tt
  unfolding run_checked checked_by valid_row
  run_accepted s p words marks sound low = rw (words, marks, sound, le-leb _ _ low, p.0, p.1.0, p.1.1.0)
