use Rattle.std.proofs.Common.{◌≡◌, ℕ, ◌+◌, ◌/◌, ◌≤◌, sym, ap, ◌∙◌, subst, arith}
use Rattle.rounds.specs.Copies.{to_copy}
use Rattle.rounds.proofs.Copies.{copy_most}
use Rattle.filling.proofs.Halves.{twice_product}
use Rattle.filling.proofs.to_copy.Goals as goal

pub truncating_f64_to_u64-twice-requires-clause-lower_bound : goal.truncating_f64_to_u64-twice-requires-clause-lower_bound
truncating_f64_to_u64-twice-requires-clause-lower_bound c =
    (twice_product c.args.missing c.args.ratio c.requires.few c.requires.copy_ratio).above

pub truncating_f64_to_u64-twice-requires-clause-upper_bound : goal.truncating_f64_to_u64-twice-requires-clause-upper_bound
truncating_f64_to_u64-twice-requires-clause-upper_bound c =
    (twice_product c.args.missing c.args.ratio c.requires.few c.requires.copy_ratio).below

pub overflow_add-result : goal.overflow_add-result
overflow_add-result c =
    let k = twice_product c.args.missing c.args.ratio c.requires.few c.requires.copy_ratio in
    omega (arith, k.small, c.truncating_f64_to_u64-twice.ensures)

pub returns-clause-value : goal.returns-clause-value
unfolding to_copy
returns-clause-value c =
    ap (λ (z : ℕ). (z + 1) / 2) c.truncating_f64_to_u64-twice.ensures ∙ (twice_product c.args.missing c.args.ratio c.requires.few c.requires.copy_ratio).half

pub returns-clause-upper_bound : goal.returns-clause-upper_bound
unfolding to_copy
returns-clause-upper_bound c =
    let n = c.args.missing in
    let r = c.args.ratio in
    let rounded : (c.truncating_f64_to_u64-twice.result + 1) / 2 ≡ to_copy n r =
    ap (λ (z : ℕ). (z + 1) / 2) c.truncating_f64_to_u64-twice.ensures ∙ (twice_product n r c.requires.few c.requires.copy_ratio).half in
    subst (λ (z : ℕ). z ≤ n) (sym rounded) (copy_most n r c.requires.few c.requires.copy_ratio)
