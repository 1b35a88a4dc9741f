-- Laws of lists: of an element put in, of permutations, and of what holds of all elements.
use Rattle.std.proofs.Common.{List, [], ◌∷◌, ◌++◌, map, ◌≡◌, refl, sym, ap, ◌∙◌, ℕ, zero, suc, ◌<◌, not-suc-le-zero, le_of_suc-le-suc, length, get_or, replicate}
use mathlib.Core.List.{Memᴰ}
use Rattle.rounds.specs.Demand.{Inserted, here, there, Permutation, none, one, All, nil, cons}
use Rattle.rounds.specs.Selection.{remove_at}

module _ {A : Type 0} where
  pub permutation_refl : (l : List A) → Permutation l l
  permutation_refl [] = none
  permutation_refl (x ∷ xs) = one here (permutation_refl xs)

  pub inserted_length : {x : A} {l m : List A} → Inserted x l m → length m ≡ suc (length l)
  inserted_length here = refl
  inserted_length (there i) = ap suc (inserted_length i)

  pub permutation_length : {l m : List A} → Permutation l m → length l ≡ length m
  permutation_length none = refl
  permutation_length (one i p) = ap suc (permutation_length p) ∙ sym (inserted_length i)

  -- what is taken out at a place was put in there
  pub inserted_at : (i : ℕ) (l : List A) (d : A) → i < length l → Inserted (get_or l i d) (remove_at i l) l
  inserted_at i [] d h = absurd (not-suc-le-zero h)
  inserted_at zero (x ∷ l) d h = here
  inserted_at (suc i) (x ∷ l) d h = there (inserted_at i l d (le_of_suc-le-suc h))

module _ {A : Type 0} {P : A → Type 0} where
  pub all_inserted : {x : A} {l m : List A} → Inserted x l m → All P m → P x × All P l
  all_inserted here (cons p ps) = (p, ps)
  all_inserted (there i) (cons p ps) = let r = all_inserted i ps in (r.0, cons p r.1)

  pub all_permuted : {l m : List A} → Permutation l m → All P m → All P l
  all_permuted none ps = nil
  all_permuted (one i p) ps = let r = all_inserted i ps in cons r.0 (all_permuted p r.1)

  pub all_left : (l m : List A) → All P (l ++ m) → All P l
  all_left [] m ps = nil
  all_left (x ∷ l) m (cons p ps) = cons p (all_left l m ps)

  pub all_right : (l : List A) {m : List A} → All P (l ++ m) → All P m
  all_right [] ps = ps
  all_right (x ∷ l) (cons p ps) = all_right l ps

  pub all_append : {l m : List A} → All P l → All P m → All P (l ++ m)
  all_append nil qs = qs
  all_append (cons p ps) qs = cons p (all_append ps qs)

  pub all_at : (l : List A) (i : ℕ) (d : A) → i < length l → All P l → P (get_or l i d)
  all_at [] i d h ps = absurd (not-suc-le-zero h)
  all_at (x ∷ l) zero d h (cons p ps) = p
  all_at (x ∷ l) (suc i) d h (cons p ps) = all_at l i d (le_of_suc-le-suc h) ps

  pub all_mem : {x : A} {l : List A} → Memᴰ x l → All P l → P x
  all_mem (Memᴰ.head e) (cons p ps) = rw e p
  all_mem (Memᴰ.tail i) (cons p ps) = all_mem i ps

  pub all_replicate : (n : ℕ) (x : A) → P x → All P (replicate n x)
  all_replicate zero x p = nil
  all_replicate (suc n) x p = cons p (all_replicate n x p)

  pub all_with : {Q : A → Type 0} {l : List A} → ((x : A) → P x → Q x) → All P l → All Q l
  all_with f nil = nil
  all_with f (cons {x} p ps) = cons (f x p) (all_with f ps)

  pub all_both : {Q : A → Type 0} {l : List A} → All P l → All Q l → All (λ x. P x × Q x) l
  all_both nil nil = nil
  all_both (cons p ps) (cons q qs) = cons (p, q) (all_both ps qs)

-- every element is one of the list
pub all_among : {A : Type 0} (l : List A) → All (λ x. Memᴰ x l) l
all_among [] = nil
all_among (x ∷ l) = cons (Memᴰ.head refl) (all_with (λ y i. Memᴰ.tail i) (all_among l))

module _ {A B : Type 0} (f : A → B) where
  pub all_map : {P : B → Type 0} {l : List A} → All (λ x. P (f x)) l → All P (map f l)
  all_map nil = nil
  all_map (cons p ps) = cons p (all_map ps)

  inserted_map : {x : A} {l m : List A} → Inserted x l m → Inserted (f x) (map f l) (map f m)
  inserted_map here = here
  inserted_map (there i) = there (inserted_map i)

  pub permutation_map : {l m : List A} → Permutation l m → Permutation (map f l) (map f m)
  permutation_map none = none
  permutation_map (one i p) = one (inserted_map i) (permutation_map p)

  pub remove_map : (i : ℕ) (l : List A) → remove_at i (map f l) ≡ map f (remove_at i l)
  remove_map i [] = refl
  remove_map zero (x ∷ l) = refl
  remove_map (suc i) (x ∷ l) = ap (λ (m : List B). f x ∷ m) (remove_map i l)
