-- A table that is cleared block by block: a block that is written with zeros, or held none but zeros.
use Rattle.std.proofs.Common.{◌≡◌, ap, ◌∙◌, subst, List, ◌++◌, ℕ, ◌+◌, ◌-◌, ◌≤◌, arith, length, length-append, length-drop, length-take-le, take, drop}
use Rattle.std.proofs.lemmas.List.{length-replicate, replicate-append-replicate, take-append-drop}
use Rattle.std.proofs.lemmas.Slice.{take-put_mid}
use borrow.Rule.Slice.PartMut.{put_mid}
use Rattle.tables.specs.Tables.{zeros}

-- the first counters of n are 0
pub record Cleared (n from : ℕ) (table : List ℕ) : Type 0 where
  pub within : from ≤ length table
  pub same : length table ≡ n
  pub zero : take from table ≡ zeros from

-- a block, from `from` to `to`
module _ {n from : ℕ} {table : List ℕ} (c : Cleared n from table) (to : ℕ) (forward : from ≤ to) (within : to ≤ length table) where
  abbrev block : List ℕ
  block = take (to - from) (drop from table)

  block_long : length block ≡ to - from
  block_long = length-take-le (to - from) (drop from table) (omega (arith, length-drop from table))

  zeros_join : take from table ++ zeros (to - from) ≡ zeros to
  zeros_join = rw c.zero (replicate-append-replicate from (to - from) 0 ∙ ap zeros {x = from + (to - from)} {y = to} (omega arith))

  pub block_written : {x : List ℕ} → x ≡ zeros (length block) → Cleared n to (put_mid from (to - from) table x)
  block_written {x} e =
      let written : length x ≡ to - from = ap length e ∙ length-replicate (length block) 0 ∙ block_long in
      let many : length (put_mid from (to - from) table x) ≡ length table =
      simp length-append
      (omega (arith, written, length-take-le from table c.within, length-drop from table, length-drop (to - from) (drop from table))) in
      record {
        within = omega arith;
        same = many ∙ c.same;
        zero = take-put_mid from (to - from) table x to (omega arith) c.within ∙ rw (e, block_long) zeros_join;
      }

  unwritten : put_mid from (to - from) table block ≡ table
  unwritten = ap (λ l. take from table ++ l) (take-append-drop (to - from) (drop from table)) ∙ take-append-drop from table

  pub block_passed : block ≡ zeros (length block) → Cleared n to table
  block_passed e = subst (Cleared n to) unwritten (block_written e)
