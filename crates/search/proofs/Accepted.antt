-- What the tests that passed say of a call, whatever an entry tests between numbers 1 to 5 and numbers 6 and 7.
use Rattle.std.proofs.Common.{◌≡◌, refl, sym, subst, Bool, List, [], ◌∷◌, ◌++◌, ℕ, ◌/◌, ◌≤◌, T, length, Result, Ok}
use Rattle.std.proofs.Math.Nat.{add-sub_cancel_left}
use Rattle.rows.specs.Limits.{most_memory, most_log}
use Rattle.loader.specs.Loading.{Program, Segment, Fits}
use Rattle.loader.specs.Lent.{Loadable}
use Rattle.checks.specs.Refusals.{is_copy_ratio}
use Rattle.checks.specs.Segments.{segment_tests}
use Rattle.checks.specs.Tests.{Test, checked_by}
use Rattle.checks.specs.declared.refusal.Refusal.{Refusal}
use Rattle.checks.proofs.Fitting.{segments_fit}
use Rattle.checks.proofs.Passed.{store_lengths, log_size_passed}
use Rattle.checks.proofs.Tests.{AllPass, all_pass}
use Rattle.store.specs.Store.{Sized, Fit, memory_of}
use Rattle.store.proofs.Lent.{lengths_fit}
use Rattle.rounds.specs.Calls.{Call, layout_of, call}
use Rattle.options.specs.declared.RaritySimulationOptions.{RaritySimulationOptions}
use Rattle.rounds.proofs.Demand.{demand}
use Rattle.rounds.proofs.Ages.{ages}
use Rattle.search.specs.Entry.{option_tests, call_tests, search_checked, Demanded, AgesTold}

-- what an accepted call has
pub record Allowed (o : RaritySimulationOptions) (log : ℕ) (p : Program) (words marks : List ℕ) : Type 0 where
  pub fit : Fit (layout_of o log) words marks
  pub ratio : T (is_copy_ratio o.copy_init_ratio)
  pub memory : o.memory_size / 8 ≤ most_memory
  pub log_words : log ≤ most_log
  pub loadable : Loadable (memory_of (layout_of o log)) p

-- where all tests pass, so do those at the end
last_pass : (first last : List Test) → AllPass (first ++ last) → AllPass last
last_pass [] last h = h
last_pass (t ∷ first) last h = last_pass first last h.1

-- the memory of a row, by how the store is cut
pub row_memory : (o : RaritySimulationOptions) (log : ℕ) → memory_of (layout_of o log) ≡ o.memory_size / 8
row_memory o log = add-sub_cancel_left 32 (o.memory_size / 8)

module _ (o : RaritySimulationOptions) (log : ℕ) (p : Program) (words marks : List ℕ) where
  in_words : (s : Segment) → Fits (o.memory_size / 8) s → Fits (memory_of (layout_of o log)) s
  in_words s f = subst (λ (w : ℕ). Fits w s) (sym (row_memory o log)) f

  module _ (between : List Test) where
    abbrev tests : List Test
    tests = option_tests o log (length words) (length marks) ++ (between ++ segment_tests (o.memory_size / 8) p)

    pub allowed_by : {r : Result (Unit {0}) Refusal} → r ≡ checked_by tests → r ≡ Ok tt → Allowed o log p words marks
    allowed_by e k =
        let t = all_pass tests e k in
        let b = store_lengths o.memory_size o.amount_of_states log (length words) (length marks) t.0 t.1.0 t.1.1.1.1.0 in
        let f = segments_fit (o.memory_size / 8) p (last_pass between (segment_tests (o.memory_size / 8) p) t.1.1.1.1.1) in
        record {
          fit = lengths_fit o.amount_of_states (o.memory_size / 8) log b.0 b.1 b.2 b.3 b.4;
          ratio = subst (λ (b : Bool). T b) (sym t.1.1.0) tt;
          memory = b.2;
          log_words = log_size_passed log t.1.1.1.0;
          loadable = record { code_fits = in_words p.code_segment f.0; data_fits = in_words p.data_segment f.1 };
        }

    -- what holds of a call whose store and copy ratio are allowed holds of an accepted one
    pub promised : {P : Call → Type 0} → ((c : Call) → Sized c.store → T (is_copy_ratio c.options.copy_init_ratio) → P c)
        → (tape : List ℕ) → checked_by tests ≡ Ok tt → P (call o (layout_of o log) p tape)
    promised holds tape h = let a = allowed_by refl h in holds (call o (layout_of o log) p tape) a.fit.sized a.ratio

  -- of the entry that tests nothing between them
  pub allowed : {r : Result (Unit {0}) Refusal} → r ≡ checked_by (call_tests o log p (length words) (length marks)) → r ≡ Ok tt
      → Allowed o log p words marks
  allowed e k = allowed_by [] e k

  pub allowed_demand : (tape : List ℕ) → Demanded o log p tape words marks
  unfolding search_checked
  allowed_demand tape h = promised [] demand tape h

  pub allowed_ages : (tape : List ℕ) → AgesTold o log p tape words marks
  unfolding search_checked
  allowed_ages tape h = promised [] ages tape h
