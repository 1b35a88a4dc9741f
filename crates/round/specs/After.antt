-- A stepping stone between contracts: a round as the code makes it, filling and its 8 included, and what the code's answer says of the store.
use Rattle.std.specs.Prelude.{Result, Ok, Err, ℕ}
use Rattle.store.specs.Lent.{rows_lent}
use Rattle.store.specs.declared.view.StoreMut.{StoreMut}
use Rattle.rounds.specs.Calls.{Call}
use Rattle.rounds.specs.Handed.{start_of, Holding}
use Rattle.rounds.specs.Rounds.{Start, After, ends, round_after, round_made}
use Rattle.rounds.specs.Series.{goes_on, with_filling}
use Rattle.rounds.specs.declared.call.Ended.{Ended}
use Rattle.rounds.specs.declared.call.Start.{Start as StartByValue}

-- round k; where the tape is too short it ends before its runs
abbrev pub round_with_filling : Call → ℕ → Start → After
round_with_filling c k s = with_filling round_after (round_made c k s)

-- what the code answers, with the rows that it leaves in a lent store
abbrev pub after_in : StoreMut → Result StartByValue Ended → After
after_in s (Ok start) = goes_on (start_of s start)
after_in s (Err e) = ends e.finding (rows_lent s) e.used

-- if the search goes on, the store holds what is kept and zero rows
abbrev pub Ready : StoreMut → Result StartByValue Ended → Type 0
Ready s (Ok start) = Holding s start.kept
Ready s (Err e) = Unit {0}
