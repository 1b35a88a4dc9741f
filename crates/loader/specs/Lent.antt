-- The program that is behind what is lent to be loaded, and when it can be.
use Rattle.std.specs.Prelude.{ℕ}
use Rattle.loader.specs.Loading.{Segment, segment, Program, program, Fits}
use Rattle.loader.specs.declared.Segment.{Segment as LentSegment}
use Rattle.loader.specs.declared.Program.{Program as LentProgram}

abbrev pub segment_seen : LentSegment → Segment
segment_seen s = segment s.address s.bytes.now

abbrev pub program_seen : LentProgram → Program
program_seen p = program (segment_seen p.code) (segment_seen p.«data»)

-- a memory of some words has room for both segments
pub record Loadable (w : ℕ) (p : Program) : Type 0 where
  pub code_fits : Fits w p.code_segment
  pub data_fits : Fits w p.data_segment
