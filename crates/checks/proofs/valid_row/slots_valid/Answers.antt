use Rattle.std.proofs.Common.{◌∙◌, ℕ, rules}
use Rattle.std.proofs.lemmas.Iterator.{YieldsList-from_slice, YieldsList-from_zip}
use Rattle.rows.specs.Valid.{slot_valid}
use Rattle.checks.proofs.Scans.{joined, judged, slots}
use Rattle.checks.proofs.valid_row.slots_valid.Goals as goal

pub returns : goal.returns
returns c =
    let words = c.args.slots.now in
    let marks = c.args.marks.now in
    judged (λ (p : ℕ × ℕ). slot_valid p.0 p.1) _ c.fold.ensures.ran
    (YieldsList-from_zip (YieldsList-from_slice words cc) (YieldsList-from_slice marks cc))
    (λ a x b q k. search (rules, joined))
    ∙ slots words marks c.requires
