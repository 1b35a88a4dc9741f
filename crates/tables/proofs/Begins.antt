-- Lists of addresses that begin others: what holds of all addresses holds of those.
use Rattle.std.proofs.Common.{◌≡◌, List, [], ◌∷◌, ◌++◌, map, ℕ}
use Rattle.means.specs.Means.{Counters}
use Rattle.tables.specs.Changes.{Inside, Room}
use Rattle.tables.proofs.Changes.{inside_left, room_left}

-- ys is xs and something more
pub record Begins (xs ys : List ℕ) : Type 0 where
  pub rest : List ℕ
  pub made : ys ≡ xs ++ rest

pub inside_begins : {xs ys : List ℕ} (n : ℕ) → Begins xs ys → Inside ys n → Inside xs n
inside_begins {xs} n b h = inside_left xs b.rest n (rw b.made at h)

pub room_begins : {t xs ys : List ℕ} → Begins xs ys → Room t ys → Room t xs
room_begins {t} {xs} b r = room_left xs b.rest (rw b.made at r)

counters_left : (f : ℕ → ℕ) (xs ys : List ℕ) → Counters (map f (xs ++ ys)) → Counters (map f xs)
counters_left f [] ys c = tt
counters_left f (x ∷ xs) ys c = (c.0, c.1, counters_left f xs ys c.2)

pub counters_right : (f : ℕ → ℕ) (xs ys : List ℕ) → Counters (map f (xs ++ ys)) → Counters (map f ys)
counters_right f [] ys c = c
counters_right f (x ∷ xs) ys c = counters_right f xs ys c.2

pub counters_begins : {xs ys : List ℕ} (f : ℕ → ℕ) → Begins xs ys → Counters (map f ys) → Counters (map f xs)
counters_begins {xs} {ys} f b c = counters_left f xs b.rest (rw b.made at c)
