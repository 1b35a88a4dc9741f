-- Gaps: places whose marks are 0.
use Rattle.std.specs.Prelude.{List, ℕ, ◌-◌, cond, nat_lt}
use Rattle.marked.specs.Marks.{Unmarked}
use Rattle.marked.specs.declared.gap.Gap.{Gap}

-- no place
abbrev pub no_gap : Gap
no_gap = record { from = 0; to = 0 }

-- the marks of a gap are 0
abbrev pub GapIn : List ℕ → Gap → Type 0
GapIn marks g = Unmarked marks g.from g.to

-- the longer of two gaps, and of two as long the first
unfoldable pub longer : Gap → Gap → Gap
longer a b = cond (nat_lt (a.to - a.from) (b.to - b.from)) b a
