-- Counters taken in, one address after the other.
use Rattle.std.proofs.Common.{◌≡◌, sym, ap, ◌∙◌, subst, List, [], ◌∷◌, ◌++◌, map, append_assoc, append-nil, ℕ, ◌+◌, ◌≤◌, ◌<◌, arith}
use mathlib.Core.List.{map-append}
use Rattle.means.specs.declared.Tally.{Tally}
use Rattle.means.specs.Tallies.{tally, with_counter, Within}
use Rattle.means.proofs.Taking.{tally_more}
use Rattle.counting.specs.Cells.{byte_addresses}
use Rattle.counting.specs.Counters.{highest_counter}
use Rattle.tables.specs.Taken.{Taken}
use Rattle.tables.proofs.Words.{bytes_none, bytes_more, byte_address}

-- one counter more keeps a tally small
pub within_more : {n m c : ℕ} {t u : Tally} → Within n t → c ≤ highest_counter → u ≡ with_counter t c → n < m → Within m u
within_more {n} {m} w h e l = subst (Within m) (sym e) (record { few = omega (arith, w.few); small = omega (arith, w.small) })

pub within_looser : {n m : ℕ} {t : Tally} → Within n t → n ≤ m → Within m t
within_looser w l = record { few = omega (arith, w.few); small = w.small }

module _ {counter : ℕ → ℕ} where
  pub taken_none : {s : Tally} → Taken counter s [] s
  taken_none = record { taken = λ cs e. e ∙ ap tally (sym (append-nil cs)) }

  pub taken_on : {s t u : Tally} {xs ys : List ℕ} → Taken counter s xs t → Taken counter t ys u → Taken counter s (xs ++ ys) u
  taken_on {s} {t} {u} {xs} {ys} p q =
      record {
        taken = λ cs e. q.taken (cs ++ map counter xs) (p.taken cs e) ∙ ap tally (append_assoc cs (map counter xs) (map counter ys) ∙ rw map-append);
      }

  taken_one : {t u : Tally} (a : ℕ) → u ≡ with_counter t (counter a) → Taken counter t (a ∷ []) u
  taken_one {t} a e = record { taken = λ cs d. e ∙ ap (λ z. with_counter z (counter a)) d ∙ tally_more cs (counter a) }

  -- the bytes of a word
  pub bytes_taken_none : {s : Tally} (place x : ℕ) → Taken counter s (byte_addresses place x 0) s
  bytes_taken_none place x = rw bytes_none taken_none

  pub bytes_taken : {s t u : Tally} {a c : ℕ} (place x b : ℕ) → Taken counter s (byte_addresses place x b) t → a ≡ byte_address place x b
      → c ≡ counter a → u ≡ with_counter t c → Taken counter s (byte_addresses place x (b + 1)) u
  bytes_taken place x b k p q e = rw (bytes_more place x b) (taken_on k (taken_one (byte_address place x b) (rw (q, p) at e)))
