-- Limits in a search: before round i none is above i steps, so that a step more does not overflow.
use Rattle.std.proofs.Common.{List, [], ℕ, ◌*◌, ◌^◌, ◌≤◌, ◌<◌, arith, mul-le-mul}
use Rattle.rows.specs.Rows.{Row, row}
use Rattle.rounds.specs.Ages.{Aged}
use Rattle.rounds.specs.Calls.{Call}
use Rattle.rounds.specs.Demand.{All}
use Rattle.rounds.proofs.Lists.{all_at}
use Rattle.running.specs.Running.{LimitsAllow}

pub limits_allow : (c : Call) (n i : ℕ) (rows : List Row) → i < n → n < 2 ^ 32 → c.options.step_size < 2 ^ 32 → All (Aged c i) rows
    → LimitsAllow c.options.step_size rows
limits_allow c n i rows before few small aged r h =
    let step = c.options.step_size in
    let rounds : i ≤ 4294967294 = omega arith in
    let steps : step ≤ 4294967295 = omega arith in
    let most : i * step ≤ 4294967294 * 4294967295 = mul-le-mul rounds steps in
    let row = all_at rows r (row [] []) h aged in
    omega (arith, row.limit, row.depth)
