-- The call that is lent a table: what its tests that passed say.
use Rattle.std.proofs.Common.{◌≡◌, sym, ap, ◌∙◌, eqb-true, List, [], ◌∷◌, ℕ, ◌/◌, length, Result, Ok}
use Rattle.loader.specs.Loading.{Program}
use Rattle.checks.specs.Tests.{checked_by}
use Rattle.checks.specs.declared.refusal.Refusal.{Refusal}
use Rattle.checks.proofs.Tests.{all_pass}
use Rattle.options.specs.declared.RaritySimulationOptions.{RaritySimulationOptions}
use Rattle.store.specs.Store.{memory_of}
use Rattle.store.specs.declared.layout.Layout.{Layout}
use Rattle.rounds.proofs.Ages.{ages}
use Rattle.rounds.proofs.Demand.{demand}
use Rattle.rounds.specs.Calls.{layout_of}
use Rattle.tables.specs.Tables.{table_length, zeros}
use Rattle.tables.specs.Lent.{table_test, ZeroTable}
use Rattle.tables.proofs.Lending.{cleared}
use Rattle.search.specs.ByTable.{table_call_tests, table_search_checked, TableDemanded, TableAgesTold}
use Rattle.search.proofs.Accepted.{Allowed, row_memory, allowed_by, promised}

module _ (o : RaritySimulationOptions) (log : ℕ) (p : Program) (words marks table : List ℕ) where
  module _ {r : Result (Unit {0}) Refusal} (e : r ≡ checked_by (table_call_tests o log p (length words) (length marks) (length table)))
      (passed : r ≡ Ok tt) where
    pub table_allowed : Allowed o log p words marks
    table_allowed = allowed_by o log p words marks (table_test (o.memory_size / 8) (length table) ∷ []) e passed

    exact : length table ≡ table_length (o.memory_size / 8)
    exact = eqb-true _ _ (all_pass (table_call_tests o log p (length words) (length marks) (length table)) e passed).1.1.1.1.1.0

    -- once cleared, the table can be counted in
    pub cleared_for : {s : Layout} {after : List ℕ} → s ≡ layout_of o log → after ≡ zeros (length table) → ZeroTable (memory_of s) after
    cleared_for is z = rw is (cleared table (exact ∙ ap table_length (sym (row_memory o log))) z)

  pub table_demand : (tape : List ℕ) → TableDemanded o log p tape words marks table
  unfolding table_search_checked
  table_demand tape h = promised o log p words marks (table_test (o.memory_size / 8) (length table) ∷ []) demand tape h

  pub table_ages : (tape : List ℕ) → TableAgesTold o log p tape words marks table
  unfolding table_search_checked
  table_ages tape h = promised o log p words marks (table_test (o.memory_size / 8) (length table) ∷ []) ages tape h
