-- The one loop is a run of either kind: told to complete its write calls it is `run_of`, told to hand them out it is `paused_of`.
use Rattle.std.proofs.Common.{true, false, ◌≡◌, refl, ap, ◌∙◌, List, ℕ, zero, suc, ◌+◌, ◌-◌, arith, get_or-set_other}
use Rattle.rows.specs.Rows.{Row, pc_of, depth_of, limit_of, set_limit}
use Rattle.calls.specs.Calls.{completed}
use Rattle.calls.specs.declared.step.Step.{Step}
use Rattle.calls.specs.declared.step.Step.TheVariants.{Running, Write, Ended}
use Rattle.machine.specs.Steps.{stepped, settled, advanced}
use Rattle.machine.specs.Runs.{Finished, stops, continued, run_for, run_of}
use Rattle.machine.specs.Pauses.{Halted, unless_running, paused_for, paused_of}
use Rattle.machine.specs.Handing.{handed, stepped_by, halted_for, progress_of}

-- a run starts with its limit grown, and its depth as it was
depth_as_it_was : (limit : ℕ) (r : Row) → depth_of (set_limit limit r) ≡ depth_of r
depth_as_it_was limit r = get_or-set_other r.words 3 2 limit 0 (λ e. omega arith)

-- ---- write calls completed
abbrev pub ran_of : Halted → Finished
ran_of x = stops (progress_of x.paused.step) x.paused.pc x.paused.used x.row

completing : (more : ℕ → Row → Halted) (more' : ℕ → Row → Finished) → ((used : ℕ) (r : Row) → ran_of (more used r) ≡ more' used r) → (pc : ℕ) (s : Step) (used : ℕ) (r : Row) →
    let x = handed false s used r in let y = settled s used r in
    ran_of (unless_running more pc x.stepped.step x.stepped.used x.row) ≡ continued more' pc y.moved.progress y.moved.used y.row
unfolding unless_running handed settled continued
completing more more' each pc Running used r = each used r
completing more more' each pc (Write buffer size) used r = each used (completed size r)
completing more more' each pc (Ended o) used r = refl

run_completes : (n : ℕ) (tape : List ℕ) (used : ℕ) (r : Row) → ran_of (halted_for false n tape used r) ≡ run_for n tape used r
unfolding halted_for run_for stepped_by advanced
run_completes zero tape used r = refl
run_completes (suc n) tape used r =
    let x = stepped tape used r in
    completing (halted_for false n tape) (run_for n tape) (λ u s. run_completes n tape u s) (pc_of r) x.stepped.step x.stepped.used x.row

pub completed_run : (step : ℕ) (tape : List ℕ) (used : ℕ) (r : Row) → let grown = set_limit (limit_of r + step) r in
    ran_of (halted_for false (limit_of r + step - depth_of grown) tape used grown) ≡ run_of step tape used r
unfolding run_of
completed_run step tape used r =
    let grown = set_limit (limit_of r + step) r in
    run_completes _ tape used grown ∙ ap (λ (d : ℕ). run_for (limit_of r + step - d) tape used grown) (depth_as_it_was _ r)

-- ---- write calls handed out
handing : (more more' : ℕ → Row → Halted) → ((used : ℕ) (r : Row) → more used r ≡ more' used r) → (pc : ℕ) (s : Step) (used : ℕ) (r : Row) →
    let x = handed true s used r in
    unless_running more pc x.stepped.step x.stepped.used x.row ≡ unless_running more' pc s used r
unfolding unless_running handed
handing more more' each pc Running used r = each used r
handing more more' each pc (Write buffer size) used r = refl
handing more more' each pc (Ended o) used r = refl

run_hands_out : (n : ℕ) (tape : List ℕ) (used : ℕ) (r : Row) → halted_for true n tape used r ≡ paused_for n tape used r
unfolding halted_for paused_for stepped_by
run_hands_out zero tape used r = refl
run_hands_out (suc n) tape used r =
    let x = stepped tape used r in
    handing (halted_for true n tape) (paused_for n tape) (λ u s. run_hands_out n tape u s) (pc_of r) x.stepped.step x.stepped.used x.row

pub paused_run : (step : ℕ) (tape : List ℕ) (used : ℕ) (r : Row) → let grown = set_limit (limit_of r + step) r in
    halted_for true (limit_of r + step - depth_of grown) tape used grown ≡ paused_of step tape used r
unfolding paused_of
paused_run step tape used r =
    let grown = set_limit (limit_of r + step) r in
    run_hands_out _ tape used grown ∙ ap (λ (d : ℕ). paused_for (limit_of r + step - d) tape used grown) (depth_as_it_was _ r)
