-- Numbers 6 and 7 of a program.
use Rattle.std.specs.Prelude.{◌&&◌, List, [], ◌∷◌, ℕ, length}
use Rattle.loader.specs.Loading.{Program}
use Rattle.checks.specs.Refusals.{is_whole, is_inside}
use Rattle.checks.specs.Tests.{Test, test}
use Rattle.checks.specs.declared.refusal.Refusal.TheVariants.{SegmentLength, SegmentEnd}

-- 6 for either segment, then 7 for either
abbrev pub segment_tests : ℕ → Program → List Test
segment_tests w p =
    let code = length p.code_segment.content in
    let constants = length p.data_segment.content in
    test (is_whole code && is_whole constants) SegmentLength
    ∷ test (is_inside w p.code_segment.address code && is_inside w p.data_segment.address constants) SegmentEnd
    ∷ []
