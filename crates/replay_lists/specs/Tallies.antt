-- How many lines were judged, and what came of them. A count stops at the largest number, which no list reaches.
use Rattle.std.specs.Prelude.{ℕ, ◌+◌, ◌-◌, ◌^◌, Bool, cond, not, nat_le}
use Rattle.replay_lists.specs.declared.tally.Judged.{Judged}
use Rattle.replay_lists.specs.declared.tally.Tally.{Tally}

abbrev pub largest : ℕ
largest = 2 ^ 64 - 1

unfoldable pub plus : ℕ → ℕ → ℕ
plus a b = cond (nat_le (a + b) largest) (a + b) largest

unfoldable pub one_if : Bool → ℕ
one_if b = cond b 1 0

abbrev pub nothing : Tally
nothing = record { cases = 0; agree = 0; parts = 0; wrong = 0; disagree = 0 }

-- with a line that is a case
abbrev pub with_case : Tally → Judged → Tally
with_case t j =
    record {
      cases = plus t.cases 1;
      agree = plus t.agree (one_if j.agrees);
      parts = plus t.parts j.parts;
      wrong = t.wrong;
      disagree = t.disagree;
    }

-- with a line that is wrong on purpose
abbrev pub with_wrong : Tally → Judged → Tally
with_wrong t j =
    record {
      cases = t.cases;
      agree = t.agree;
      parts = t.parts;
      wrong = plus t.wrong 1;
      disagree = plus t.disagree (one_if (not j.agrees));
    }

unfoldable pub with_line : Tally → Judged → Bool → Tally
with_line t j wrong = cond wrong (with_wrong t j) (with_case t j)
