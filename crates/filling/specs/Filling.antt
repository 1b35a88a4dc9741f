-- A stepping stone between contracts: what filling answers, and the rows that it leaves, from the definition of a round in rounds/specs and its 8.
use Rattle.std.specs.Prelude.{Result, Ok, Err, ◌≡◌, ℕ, ◌+◌, cond, List, ◌++◌, map, replicate, slice_set}
use Rattle.rows.specs.Rows.{Row, set_born}
use Rattle.loader.specs.Loading.{Program, programmed, new_executor}
use Rattle.store.specs.Store.{nth_row}
use Rattle.store.specs.declared.layout.Layout.{Layout}
use Rattle.rounds.specs.Calls.{Call}
use Rattle.rounds.specs.Rounds.{Start, stored, copies, tape_short, parent, filled}
use Rattle.rounds.specs.declared.call.Ended.{Ended}
use Rattle.answers.specs.declared.finding.Finding.TheVariants.{TapeShort}

-- the tape words that are used then; or 8, which ends the search
unfoldable pub filling : Call → Start → Result ℕ Ended
filling c s = cond (tape_short c s) (Err (record { finding = TapeShort; used = s.used })) (Ok (s.used + copies c s))

-- where the tape is too short the rows stay as before
unfoldable pub after_filling : Call → ℕ → Start → List Row
after_filling c k s = cond (tape_short c s) (stored c.store s.kept) (filled c k s)

-- an answer and the rows of a store say what filling comes to in round k
abbrev pub filled_as : Result ℕ Ended → List Row → Call → ℕ → Start → Type 0
filled_as r rows c k s = (r ≡ filling c s) × (rows ≡ after_filling c k s)

-- ---- the two halves of filling
-- the kept rows and their copies, one for each tape word
abbrev pub with_copies : List Row → List ℕ → List Row
with_copies kept draws = kept ++ map (parent kept) draws

-- a program loaded into a row in round k
abbrev pub created_anew : ℕ → Program → Row → Row
created_anew k p r = set_born k (programmed p r)

-- into row r
abbrev pub created_anew_at : ℕ → ℕ → Program → List Row → List Row
created_anew_at r k p rows = slice_set rows r (created_anew k p (nth_row rows r))

-- some rows, and so many new executors of a program
abbrev pub with_new : Layout → ℕ → Program → List Row → ℕ → List Row
with_new s k p rows n = rows ++ replicate n (set_born k (new_executor p s.words s.marks))
