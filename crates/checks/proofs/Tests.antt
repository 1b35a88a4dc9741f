-- What tests that passed, or did not, say.
use Rattle.std.proofs.Common.{◌≡◌, refl, sym, ap, ◌∙◌, Bool, true, false, cond, List, [], ◌∷◌, ◌++◌, Result, Ok, Err}
use Rattle.checks.specs.Tests.{Test, test, checked_by}
use Rattle.checks.specs.declared.refusal.Refusal.{Refusal}

-- one test: where it passes what follows decides, where it fails its refusal stands, whatever follows
one_accepted : (b : Bool) (next : Result (Unit {0}) Refusal) (f : Refusal) → cond b next (Err f) ≡ Ok tt → (b ≡ true) × (next ≡ Ok tt)
one_accepted true next f h = (refl, h)
one_accepted false next f h = (cc, cc)

one_refused : (b : Bool) (next all : Result (Unit {0}) Refusal) (g : Refusal) {f : Refusal} → cond b next (Err g) ≡ Err f → (next ≡ Err f → all ≡ Err f)
    → cond b all (Err g) ≡ Err f
one_refused true next all g h k = k h
one_refused false next all g h k = h

-- every test passes
abbrev pub AllPass : List Test → Type 0
AllPass [] = Unit {0}
AllPass (t ∷ tests) = (t.passes ≡ true) × AllPass tests

accepted_pass : (tests : List Test) → checked_by tests ≡ Ok tt → AllPass tests
unfolding checked_by
accepted_pass [] h = tt
accepted_pass (t ∷ tests) h = let k = one_accepted t.passes _ t.refusal h in (k.0, accepted_pass tests k.1)

-- tests in front of others
accepted_before : (a b : List Test) → checked_by a ≡ Ok tt → checked_by (a ++ b) ≡ checked_by b
unfolding checked_by
accepted_before [] b h = refl
accepted_before (t ∷ a) b h = let k = one_accepted t.passes _ t.refusal h in rw k.0 (accepted_before a b k.1)

refused_before : (a b : List Test) {f : Refusal} → checked_by a ≡ Err f → checked_by (a ++ b) ≡ Err f
unfolding checked_by
refused_before [] b h = cc
refused_before (t ∷ a) b h = one_refused t.passes _ _ t.refusal h (refused_before a b)

module _ (tests : List Test) {r : Result (Unit {0}) Refusal} (e : r ≡ checked_by tests) where
  pub all_pass : r ≡ Ok tt → AllPass tests
  all_pass h = accepted_pass tests (sym e ∙ h)

  -- where all of them pass the others decide; a refusal stands whatever the others say
  pub then_others : (others : List Test) → r ≡ Ok tt → checked_by (tests ++ others) ≡ checked_by others
  then_others others h = accepted_before tests others (sym e ∙ h)

  pub still_refused : (others : List Test) {f : Refusal} → r ≡ Err f → checked_by (tests ++ others) ≡ Err f
  still_refused others h = refused_before tests others (sym e ∙ h)

  -- one test more, that of t, which the code makes of b
  pub then_test : (f : Refusal) {b t : Bool} {last : Result (Unit {0}) Refusal} → r ≡ Ok tt → b ≡ t → last ≡ checked_by (test b f ∷ [])
      → checked_by (tests ++ (test t f ∷ [])) ≡ last
  then_test f {b} {t} h v d = then_others (test t f ∷ []) h ∙ sym (d ∙ ap (λ x. checked_by (test x f ∷ [])) v)
