-- A stepping stone between contracts: a call and a start as the code hands them on, and the lent store between two rounds.
use Rattle.std.specs.Prelude.{◌≡◌, ℕ, ◌≤◌, T, take}
use Rattle.checks.specs.Refusals.{is_copy_ratio}
use Rattle.loader.specs.Lent.{program_seen, Loadable}
use Rattle.store.specs.Store.{memory_of}
use Rattle.store.specs.Lent.{rows_lent}
use Rattle.store.specs.declared.layout.Layout.{Layout}
use Rattle.store.specs.declared.view.StoreMut.{StoreMut}
use Rattle.rounds.specs.declared.call.Call.{Call as LentCall}
use Rattle.rounds.specs.declared.call.Start.{Start as StartByValue}
use Rattle.rounds.specs.Calls.{Call, call}
use Rattle.rounds.specs.Rounds.{Start, stored}

-- the call, on a store that is cut in this way
abbrev pub call_of : Layout → LentCall → Call
call_of s c = call c.options s (program_seen c.program) c.tape.now

-- what the entry's tests have found of a call
pub record Callable (c : Call) : Type 0 where
  pub ratio : T (is_copy_ratio c.options.copy_init_ratio)
  pub loadable : Loadable (memory_of c.store) c.image

-- what a round starts from, in a lent store
abbrev pub start_of : StoreMut → StartByValue → Start
start_of s x = record { kept = take x.kept (rows_lent s); used = x.used }

-- the kept rows come first, zero rows after them
pub record Holding (s : StoreMut) (kept : ℕ) : Type 0 where
  pub few : kept ≤ s.layout.rows
  pub rest : rows_lent s ≡ stored s.layout (take kept (rows_lent s))
