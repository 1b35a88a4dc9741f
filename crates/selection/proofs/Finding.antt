-- The search for the lowest row, and taking it out, again and again.
use Rattle.std.proofs.Common.{Option, Some, None, Bool, true, false, cond, List, [], ◌∷◌, ◌++◌, map, append_assoc, append-nil, ◌≡◌, refl, sym, ap, ◌∙◌, subst, ℕ, zero, suc, ◌+◌, ◌-◌, ◌≤◌, ◌<◌, not-suc-le-zero, le_of_suc-le-suc, add-one, arith, Float, length-append, length, get_or, drop, set, length-set, drop_of_length-le, drop-cons}
use lib.Ieee.{nan}
use Rattle.laws.proofs.Absurd.{impossible}
use Rattle.rounds.specs.Selection.{Spot, remove_at, lowest_from, rarest}
use Rattle.rounds.proofs.Lists.{inserted_length}
use Rattle.rounds.proofs.Choosing.{lowest_placed, lowest_inserted}
use Rattle.selection.specs.declared.order.ScoredRow.{ScoredRow}
use Rattle.selection.specs.Selecting.{candidates, lower_score, number_of, kept_numbers}
use Rattle.selection.specs.Scanning.{lower_of, considered, lowest_in}

-- ---- the search

scan_if : (t : Bool) (b : Option ScoredRow) (x : ScoredRow) (xs : List ScoredRow) → lowest_in b (cond t (x ∷ xs) xs) ≡ lowest_in (considered t b x) xs
unfolding lowest_in
scan_if true b x xs = refl
scan_if false b x xs = refl

module _ (scores : List Float) (flags : List Bool) (i : ℕ) (b : Option ScoredRow) {found : Option ScoredRow} where
  pub scan_turn : (b' : Option ScoredRow) → i < length scores → i < length flags → found ≡ lowest_in b (candidates i (drop i scores) (drop i flags))
      → b' ≡ considered (get_or flags i false) b (record { row = i; score = get_or scores i nan })
      → found ≡ lowest_in b' (candidates (i + 1) (drop (i + 1) scores) (drop (i + 1) flags))
  unfolding candidates
  scan_turn b' h k e q =
      let x : ScoredRow = record { row = i; score = get_or scores i nan } in
      e
      ∙ ap (λ (z : List Float). lowest_in b (candidates i z (drop i flags))) (drop-cons scores i nan h)
      ∙ ap (λ (z : List Bool). lowest_in b (candidates i (get_or scores i nan ∷ drop (suc i) scores) z)) (drop-cons flags i false k)
      ∙ scan_if (get_or flags i false) b x (candidates (suc i) (drop (suc i) scores) (drop (suc i) flags))
      ∙ ap (λ (z : Option ScoredRow). lowest_in z (candidates (suc i) (drop (suc i) scores) (drop (suc i) flags))) (sym q)
      ∙ ap (λ (j : ℕ). lowest_in b' (candidates j (drop j scores) (drop j flags))) (sym (add-one i))

  pub scan_ends : length scores ≤ i → found ≡ lowest_in b (candidates i (drop i scores) (drop i flags)) → b ≡ found
  unfolding candidates lowest_in
  scan_ends h e = sym (e ∙ ap (λ (z : List Float). lowest_in b (candidates i z (drop i flags))) (drop_of_length-le scores {i = i} h))

-- it finds the definition's first of the lowest
scan_spot : (s : Spot ScoredRow) (i : ℕ) (xs : List ScoredRow) → lowest_in (Some s.what) xs ≡ Some (lowest_from lower_score s i xs).what
unfolding lowest_in lower_of lowest_from
scan_spot s i [] = refl
scan_spot s i (x ∷ xs) =
    ap (λ (b : ScoredRow). lowest_in (Some b) xs) (cases (lower_score x s.what))
    ∙ scan_spot (cond (lower_score x s.what) (record { at = i; what = x }) s) (suc i) xs
  where
    cases : (t : Bool) → cond t x s.what ≡ (cond t (record { at = i; what = x }) s).what
    cases true = refl
    cases false = refl

-- ---- a candidate's number is its place among the rows; with its flag cleared it is no candidate

record Candidate (i : ℕ) (scores : List Float) (flags : List Bool) (j : ℕ) (c : ScoredRow) : Type 0 where
  from : i ≤ c.row
  short : c.row - i < length scores
  without : candidates i scores (set flags (c.row - i) false) ≡ remove_at j (candidates i scores flags)

-- one row further on; f is the flag of the row before
module _ (i : ℕ) (s : Float) (scores : List Float) (flags : List Bool) (j : ℕ) (c : ScoredRow) (w : Candidate (suc i) scores flags j c) where
  further : c.row - i ≡ suc (c.row - suc i)
  further = omega (arith, w.from)

  stays : (f : Bool) → candidates i (s ∷ scores) (set (f ∷ flags) (c.row - i) false)
      ≡ cond f (record { row = i; score = s } ∷ remove_at j (candidates (suc i) scores flags)) (remove_at j (candidates (suc i) scores flags))
  unfolding candidates
  stays f =
      ap (λ (k : ℕ). candidates i (s ∷ scores) (set (f ∷ flags) k false)) further
      ∙ ap (λ (l : List ScoredRow). cond f (record { row = i; score = s } ∷ l) l) w.without

  later : (f : Bool) (k : ℕ) → candidates i (s ∷ scores) (set (f ∷ flags) (c.row - i) false) ≡ remove_at k (candidates i (s ∷ scores) (f ∷ flags))
      → Candidate i (s ∷ scores) (f ∷ flags) k c
  later f k e = record { from = omega (arith, w.from); short = omega (arith, w.from, w.short); without = e }

candidate : (i : ℕ) (scores : List Float) (flags : List Bool) (j : ℕ) (d : ScoredRow) → j < length (candidates i scores flags)
    → Candidate i scores flags j (get_or (candidates i scores flags) j d)
unfolding candidates
candidate i [] flags j d h = absurd (not-suc-le-zero h)
candidate i (s ∷ scores) [] j d h = absurd (not-suc-le-zero h)
candidate i (s ∷ scores) (false ∷ flags) j d h =
    let w = candidate (suc i) scores flags j d h in
    later i s scores flags j _ w false j (stays i s scores flags j _ w false)
candidate i (s ∷ scores) (true ∷ flags) zero d h =
    let z : i - i ≡ 0 = omega arith in
    record {
      from = omega arith;
      short = omega arith;
      without = ap (λ (k : ℕ). candidates i (s ∷ scores) (set (true ∷ flags) k false)) z;
    }
candidate i (s ∷ scores) (true ∷ flags) (suc j) d h =
    let w = candidate (suc i) scores flags j d (le_of_suc-le-suc h) in
    later i s scores flags j _ w true (suc j) (stays i s scores flags j _ w true)

pub candidates_few : (i : ℕ) (scores : List Float) (flags : List Bool) → length (candidates i scores flags) ≤ length scores
unfolding candidates
candidates_few i [] flags = omega arith
candidates_few i (s ∷ scores) [] = omega arith
candidates_few i (s ∷ scores) (true ∷ flags) = omega (arith, candidates_few (suc i) scores flags)
candidates_few i (s ∷ scores) (false ∷ flags) = omega (arith, candidates_few (suc i) scores flags)

-- ---- the loop that finds the order: what it has, and what is to come

pub record Ordering (k : ℕ) (scores : List Float) (flags live : List Bool) (order : List ℕ) : Type 0 where
  pub upto : length order ≤ k
  pub lives : length scores ≤ length live
  pub count : length order + length (candidates 0 scores live) ≤ length scores
  pub same : kept_numbers k scores flags ≡ order ++ map number_of (rarest lower_score (k - length order) (candidates 0 scores live)).kept

pub order_starts : (k : ℕ) (scores : List Float) (flags : List Bool) (order : List ℕ) → length scores ≤ length flags → order ≡ []
    → Ordering k scores flags flags order
unfolding kept_numbers
order_starts k scores flags order l e =
    rw e (record {
      upto = omega arith;
      lives = l;
      count = omega (arith, candidates_few 0 scores flags);
      same = ap (λ (j : ℕ). map number_of (rarest lower_score j (candidates 0 scores flags)).kept) (omega arith);
    })

-- what a turn that finds x may do, and leaves
pub record Turned (k : ℕ) (scores : List Float) (flags live : List Bool) (order : List ℕ) (x : ScoredRow) : Type 0 where
  pub row : x.row < length live
  pub room : length order < length scores
  pub next : Ordering k scores flags (set live x.row false) (order ++ x.row ∷ [])

some_is : (a b : ScoredRow) → Some a ≡ Some b → a ≡ b
some_is a b q = cc

module _ {k : ℕ} {scores : List Float} {flags live : List Bool} {order : List ℕ} (o : Ordering k scores flags live order) where
  turn : length order < k → (x : ScoredRow) (l : List ScoredRow) → candidates 0 scores live ≡ l → Some x ≡ lowest_in None l → Turned k scores flags live order x
  unfolding lowest_in rarest
  turn h x [] e b = impossible cc
  turn h x (y ∷ ys) e b =
      let s = lowest_from lower_score (record { at = 0; what = y }) 1 ys in
      let a = lowest_placed lower_score y ys in
      let x-is : s.what ≡ x = some_is s.what x (sym (scan_spot (record { at = 0; what = y }) 1 ys) ∙ sym b) in
      let at : s.at < length (candidates 0 scores live) = subst (λ (l : List ScoredRow). s.at < length l) (sym e) a.within in
      let is : get_or (candidates 0 scores live) s.at y ≡ x = ap (λ (l : List ScoredRow). get_or l s.at y) e ∙ a.there_it_is ∙ x-is in
      let w : Candidate 0 scores live s.at x = subst (λ (c : ScoredRow). Candidate 0 scores live s.at c) is (candidate 0 scores live s.at y at) in
      let r0 : x.row - 0 ≡ x.row = omega arith in
      let others = remove_at s.at (y ∷ ys) in
      let gone : candidates 0 scores (set live x.row false) ≡ others =
      ap (λ (j : ℕ). candidates 0 scores (set live j false)) (sym r0) ∙ w.without ∙ ap (λ (l : List ScoredRow). remove_at s.at l) e in
      let lc : length (candidates 0 scores live) ≡ suc (length ys) = ap (λ (l : List ScoredRow). length l) e in
      let lg : length (candidates 0 scores (set live x.row false)) ≡ length others = ap (λ (l : List ScoredRow). length l) gone in
      let more : length (order ++ x.row ∷ []) ≡ length order + 1 = length-append order (x.row ∷ []) in
      let less : k - length order ≡ suc (k - length (order ++ x.row ∷ [])) = omega arith in
      let m = map number_of (rarest lower_score (k - length (order ++ x.row ∷ [])) others).kept in
      record {
        row = omega (arith, w.short, o.lives);
        room = omega (arith, o.count, lc);
        next =
            record {
              upto = omega arith;
              lives = subst (λ (j : ℕ). length scores ≤ j) (sym (length-set live x.row false)) o.lives;
              count = omega (arith, o.count, lc, lg, inserted_length (lowest_inserted lower_score y ys));
              same =
                  o.same
                  ∙ ap (λ (l : List ScoredRow). order ++ map number_of (rarest lower_score (k - length order) l).kept) e
                  ∙ ap (λ (j : ℕ). order ++ map number_of (rarest lower_score j (y ∷ ys)).kept) less
                  ∙ ap (λ (z : ScoredRow). order ++ (z.row ∷ m)) x-is
                  ∙ sym (append_assoc order (x.row ∷ []) m)
                  ∙ ap (λ (l : List ScoredRow). (order ++ x.row ∷ []) ++ map number_of (rarest lower_score (k - length (order ++ x.row ∷ [])) l).kept) (sym gone);
            };
      }

  pub order_turn : length order < k → (x : ScoredRow) → Some x ≡ lowest_in None (candidates 0 scores live) → Turned k scores flags live order x
  order_turn h x b = turn h x (candidates 0 scores live) refl b

  ends : (rarest lower_score (k - length order) (candidates 0 scores live)).kept ≡ [] → order ≡ kept_numbers k scores flags
  ends e = sym (o.same ∙ ap (λ (l : List ScoredRow). order ++ map number_of l) e ∙ append-nil order)

  -- all that were asked for
  pub order_ends : k ≤ length order → order ≡ kept_numbers k scores flags
  unfolding rarest
  order_ends h =
      let z : k - length order ≡ 0 = omega arith in
      ends (ap (λ (j : ℕ). (rarest lower_score j (candidates 0 scores live)).kept) z)

  dry : (j : ℕ) (l : List ScoredRow) → None ≡ lowest_in None l → (rarest lower_score j l).kept ≡ []
  unfolding lowest_in rarest
  dry zero l b = refl
  dry (suc j) [] b = refl
  dry (suc j) (y ∷ ys) b =
      let q = b ∙ scan_spot (record { at = 0; what = y }) 1 ys in
      cc

  -- all that there are
  pub order_dry : None ≡ lowest_in None (candidates 0 scores live) → order ≡ kept_numbers k scores flags
  order_dry b = ends (dry (k - length order) (candidates 0 scores live) b)
