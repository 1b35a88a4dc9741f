-- Every row of a filled store lets a step be added to its limit, if the kept rows do: a copy is one of them, and a new executor's limit is 0.
use Rattle.std.proofs.Common.{List, [], ◌∷◌, ℕ, suc, ◌+◌, ◌<◌, ◌^◌, arith}
use Rattle.rows.specs.Rows.{Row, row, limit_of}
use Rattle.store.specs.Store.{Sized}
use Rattle.rounds.specs.Calls.{Call}
use Rattle.rounds.specs.Demand.{All, nil, cons}
use Rattle.rounds.specs.Rounds.{Start, filled}
use Rattle.rounds.proofs.Filling.{new_round_limit, filled_all}
use Rattle.rounds.proofs.Lists.{all_at}
use Rattle.running.specs.Running.{LimitsAllow}

module _ (step : ℕ) where
  abbrev Allows : Row → Type 0
  Allows r = limit_of r + step < 2 ^ 64

  all_allow : (rows : List Row) → LimitsAllow step rows → All Allows rows
  all_allow [] h = nil
  all_allow (r ∷ rows) h = cons (h 0 (omega arith)) (all_allow rows (λ i l. h (suc i) (omega arith)))

  pub filled_allow : (c : Call) (k : ℕ) (s : Start) → Sized c.store → step < 2 ^ 32 → LimitsAllow step s.kept → LimitsAllow step (filled c k s)
  filled_allow c k s sized small h =
      let new = new_round_limit c k sized in
      let all = filled_all c k s (all_allow s.kept h) (omega (arith, new)) in
      λ r l. all_at (filled c k s) r (row [] []) l all
