-- A table whose counters at some addresses were changed: how long it is, what each counter becomes, and the sum of all.
use Rattle.std.proofs.Common.{◌≡◌, refl, sym, ap, ◌∙◌, Bool, true, false, cond, List, [], ◌∷◌, ◌++◌, ℕ, zero, suc, ◌+◌, ◌≤◌, ◌<◌, ◌⊎◌, inl, inr, le_of_suc-le-suc, not-suc-le-zero, arith, eqb, ltb, eqb-true, ltb-true, ltb-false, eq-eqb, length, length-set, get_or, get_or-set_same, get_or-set_other, set}
use Rattle.std.proofs.Math.ListN.{get_or-eq_default}
use Rattle.std.proofs.lemmas.Bool.{eqb-false}
use Rattle.std.proofs.lemmas.List.{ext_get_or, length-replicate, get_or-replicate}
use Rattle.means.specs.Means.{sum}
use Rattle.counting.specs.Counters.{occurrences}
use Rattle.counting.proofs.Probes.{occurrences_append}
use Rattle.tables.specs.Tables.{zeros}
use Rattle.tables.specs.Changes.{changed, added, wiped, Inside, Room}

pub lt_or_ge : (a b : ℕ) → (a < b) ⊎ (b ≤ a)
lt_or_ge a b = go (ltb a b) refl
  where
    go : (t : Bool) → ltb a b ≡ t → (a < b) ⊎ (b ≤ a)
    go true e = inl (ltb-true a b e)
    go false e = inr (ltb-false a b e)

-- ---- any change
module _ (f : ℕ → ℕ) where
  pub changed_append : (xs ys t : List ℕ) → changed f (xs ++ ys) t ≡ changed f ys (changed f xs t)
  unfolding changed
  changed_append [] ys t = refl
  changed_append (x ∷ xs) ys t = changed_append xs ys (set t x (f (get_or t x 0)))

  pub changed_length : (xs t : List ℕ) → length (changed f xs t) ≡ length t
  unfolding changed
  changed_length [] t = refl
  changed_length (x ∷ xs) t = changed_length xs (set t x (f (get_or t x 0))) ∙ length-set t x (f (get_or t x 0))

  -- some addresses more
  pub changed_on : {now next : List ℕ} (xs ys t : List ℕ) → now ≡ changed f xs t → next ≡ changed f ys now → next ≡ changed f (xs ++ ys) t
  changed_on xs ys t e d = d ∙ ap (changed f ys) e ∙ sym (changed_append xs ys t)

  -- one address more
  pub changed_one : {now next : List ℕ} (xs : List ℕ) (a : ℕ) (t : List ℕ) → now ≡ changed f xs t → next ≡ set now a (f (get_or now a 0))
      → next ≡ changed f (xs ++ (a ∷ [])) t
  unfolding changed
  changed_one xs a t e d = changed_on xs (a ∷ []) t e d

-- ---- one more at each address
pub added_length : (xs t : List ℕ) → length (added xs t) ≡ length t
added_length xs t = changed_length (λ n. n + 1) xs t

set_at : (t : List ℕ) (x a : ℕ) (b : Bool) → eqb x a ≡ b → a < length t → get_or (set t x (get_or t x 0 + 1)) a 0 ≡ get_or t a 0 + cond b 1 0
set_at t x a true e h =
    let same : x ≡ a = eqb-true x a e in
    rw same (get_or-set_same t a (get_or t a 0 + 1) 0 h)
set_at t x a false e h = get_or-set_other t x a (get_or t x 0 + 1) 0 (λ d. eqb-false x a e (sym d)) ∙ omega arith

pub added_at : (xs t : List ℕ) (a : ℕ) → a < length t → get_or (added xs t) a 0 ≡ get_or t a 0 + occurrences a xs
unfolding changed occurrences
added_at [] t a h = omega arith
added_at (x ∷ xs) t a h =
    let now = set t x (get_or t x 0 + 1) in
    let rest : get_or (added xs now) a 0 ≡ get_or now a 0 + occurrences a xs = added_at xs now a (rw length-set h) in
    let here : get_or now a 0 ≡ get_or t a 0 + cond (eqb x a) 1 0 = set_at t x a (eqb x a) refl h in
    omega arith

sum_set : (t : List ℕ) (i v : ℕ) → i < length t → sum (set t i v) + get_or t i 0 ≡ sum t + v
unfolding sum
sum_set [] i v h = absurd (not-suc-le-zero h)
sum_set (x ∷ t) zero v h = omega arith
sum_set (x ∷ t) (suc i) v h = omega (arith, sum_set t i v (le_of_suc-le-suc h))

pub added_sum : (xs t : List ℕ) → Inside xs (length t) → sum (added xs t) ≡ sum t + length xs
unfolding changed
added_sum [] t h = omega arith
added_sum (x ∷ xs) t h =
    let now = set t x (get_or t x 0 + 1) in
    let rest : sum (added xs now) ≡ sum now + length xs = added_sum xs now (rw length-set h.1) in
    let here : sum now + get_or t x 0 ≡ sum t + (get_or t x 0 + 1) = sum_set t x (get_or t x 0 + 1) h.0 in
    omega arith

-- ---- 0 at each address
wiped_zero : (xs t : List ℕ) (a : ℕ) → get_or t a 0 ≡ 0 → get_or (wiped xs t) a 0 ≡ 0
unfolding changed
wiped_zero [] t a h = h
wiped_zero (x ∷ xs) t a h = wiped_zero xs (set t x 0) a (go (eqb x a) refl (lt_or_ge a (length t)))
  where
    go : (b : Bool) → eqb x a ≡ b → (a < length t) ⊎ (length t ≤ a) → get_or (set t x 0) a 0 ≡ 0
    go true e (inl l) = rw (eqb-true x a e) (get_or-set_same t a 0 0 l)
    go true e (inr l) = get_or-eq_default (set t x 0) 0 (rw length-set l)
    go false e l = get_or-set_other t x a 0 0 (λ d. eqb-false x a e (sym d)) ∙ h

wiped_hit : (xs t : List ℕ) (a : ℕ) → a < length t → 1 ≤ occurrences a xs → get_or (wiped xs t) a 0 ≡ 0
unfolding changed occurrences
wiped_hit [] t a l h = absurd (not-suc-le-zero h)
wiped_hit (x ∷ xs) t a l h = go (eqb x a) refl h (λ o. wiped_hit xs (set t x 0) a (rw length-set l) o)
  where
    go : (b : Bool) → eqb x a ≡ b → 1 ≤ cond b 1 0 + occurrences a xs → (1 ≤ occurrences a xs → get_or (wiped xs (set t x 0)) a 0 ≡ 0)
        → get_or (wiped xs (set t x 0)) a 0 ≡ 0
    go true e o rest = wiped_zero xs (set t x 0) a (rw (eqb-true x a e) (get_or-set_same t a 0 0 l))
    go false e o rest = rest (omega arith)

pub zeros_at : (n a : ℕ) → get_or (zeros n) a 0 ≡ 0
zeros_at n a = go (lt_or_ge a n)
  where
    go : (a < n) ⊎ (n ≤ a) → get_or (zeros n) a 0 ≡ 0
    go (inl l) = get_or-replicate n a 0 0 l
    go (inr l) = get_or-eq_default (zeros n) 0 (rw length-replicate l)

-- a list of zeros
pub all_zeros : {n : ℕ} (t : List ℕ) → length t ≡ n → ((a : ℕ) → a < n → get_or t a 0 ≡ 0) → t ≡ zeros n
all_zeros {n} t e h = ext_get_or 0 t (zeros n) (e ∙ sym (length-replicate n 0)) (λ i l. h i (omega arith) ∙ sym (zeros_at n i))

-- what was counted from zeros on is 0 again once each address is wiped
pub wiped_counted : (n : ℕ) (xs : List ℕ) → wiped xs (added xs (zeros n)) ≡ zeros n
wiped_counted n xs =
    all_zeros (wiped xs (added xs (zeros n))) (changed_length (λ n. 0) xs (added xs (zeros n)) ∙ long) (λ a l. go a l (lt_or_ge 0 (occurrences a xs)))
  where
    long : length (added xs (zeros n)) ≡ n
    long = added_length xs (zeros n) ∙ length-replicate n 0

    go : (a : ℕ) → a < n → (0 < occurrences a xs) ⊎ (occurrences a xs ≤ 0) → get_or (wiped xs (added xs (zeros n))) a 0 ≡ 0
    go a l (inl o) = wiped_hit xs (added xs (zeros n)) a (rw long l) o
    go a l (inr o) =
        wiped_zero xs (added xs (zeros n)) a
        (omega (arith, added_at xs (zeros n) a (rw length-replicate l), zeros_at n a))

-- ---- addresses that are inside, and room for them
pub inside_left : (xs ys : List ℕ) (n : ℕ) → Inside (xs ++ ys) n → Inside xs n
inside_left [] ys n h = tt
inside_left (x ∷ xs) ys n h = (h.0, inside_left xs ys n h.1)

pub inside_right : (xs ys : List ℕ) (n : ℕ) → Inside (xs ++ ys) n → Inside ys n
inside_right [] ys n h = h
inside_right (x ∷ xs) ys n h = inside_right xs ys n h.1

pub inside_both : (xs ys : List ℕ) (n : ℕ) → Inside xs n → Inside ys n → Inside (xs ++ ys) n
inside_both [] ys n h k = k
inside_both (x ∷ xs) ys n h k = (h.0, inside_both xs ys n h.1 k)

pub room_left : {t : List ℕ} (xs ys : List ℕ) → Room t (xs ++ ys) → Room t xs
room_left {t} xs ys r =
    record {
      inside = inside_left xs ys (length t) r.inside;
      small = λ a. omega (arith, r.small a, occurrences_append a xs ys);
    }

-- after the first of them are counted there is room for the others
pub room_right : {t now : List ℕ} (xs ys : List ℕ) → now ≡ added xs t → Room t (xs ++ ys) → Room now ys
room_right {t} {now} xs ys e r =
    record {
      inside = rw (e, added_length xs t) (inside_right xs ys (length t) r.inside);
      small = λ a. rw e (go a (lt_or_ge a (length t)));
    }
  where
    go : (a : ℕ) → (a < length t) ⊎ (length t ≤ a) → get_or (added xs t) a 0 + occurrences a ys ≤ 0xffff_ffff
    go a (inl l) = omega (arith, r.small a, occurrences_append a xs ys, added_at xs t a l)
    go a (inr l) =
        omega (arith, r.small a, occurrences_append a xs ys, get_or-eq_default (added xs t) 0 {n = a} (rw added_length l))

occurs_once : (a : ℕ) → occurrences a (a ∷ []) ≡ 1
unfolding occurrences
occurs_once a = rw (eq-eqb a a refl)

pub room_one : {t : List ℕ} (a : ℕ) → Room t (a ∷ []) → (a < length t) × (get_or t a 0 + 1 ≤ 0xffff_ffff)
room_one a r = (r.inside.0, omega (arith, r.small a, occurs_once a))
