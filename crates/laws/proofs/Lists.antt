-- Lists.
use Rattle.std.proofs.Common.{List, [], ◌∷◌, map, ◌≡◌, refl, ℕ, zero, suc, ◌<◌, not-suc-le-zero, le_of_suc-le-suc, length, get_or}

-- an element of a mapped list, whatever either list has past its end
pub map_get : {A : Type 0} {B : Type 0} (f : A → B) (l : List A) (j : ℕ) (d : A) (e : B) → j < length l → get_or (map f l) j e ≡ f (get_or l j d)
map_get f [] j d e h = absurd (not-suc-le-zero h)
map_get f (x ∷ l) zero d e h = refl
map_get f (x ∷ l) (suc j) d e h = map_get f l j d e (le_of_suc-le-suc h)
