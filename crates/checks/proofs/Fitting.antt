-- A program that passes 6 and 7 fits.
use Rattle.std.proofs.Common.{◌≡◌, true, ℕ, length}
use Rattle.laws.proofs.Choices.{parts}
use Rattle.loader.specs.Loading.{Program, Segment, Fits}
use Rattle.checks.specs.Refusals.{is_whole, is_inside}
use Rattle.checks.specs.Segments.{segment_tests}
use Rattle.checks.proofs.Passed.{whole, inside}
use Rattle.checks.proofs.Tests.{AllPass}

segment_fits : (w : ℕ) (s : Segment) → is_whole (length s.content) ≡ true → is_inside w s.address (length s.content) ≡ true → Fits w s
segment_fits w s h k = record { whole = whole (length s.content) h; inside = inside w s.address (length s.content) k }

-- segments that pass fit
pub segments_fit : (w : ℕ) (p : Program) → AllPass (segment_tests w p) → Fits w p.code_segment × Fits w p.data_segment
segments_fit w p h =
    let code = p.code_segment in
    let constants = p.data_segment in
    let v = parts (is_whole (length code.content)) (is_whole (length constants.content)) h.0 in
    let i = parts (is_inside w code.address (length code.content)) (is_inside w constants.address (length constants.content)) h.1.0 in
    (segment_fits w code v.0 i.0, segment_fits w constants v.1 i.1)
