-- What a call leaves: all as found if it is refused, the rows of its search if it is accepted.
use Rattle.std.proofs.Common.{◌≡◌, refl, sym, ap, ◌∙◌, List, ℕ, Result, Ok, Err}
use Rattle.loader.specs.Loading.{Program}
use Rattle.checks.specs.declared.refusal.Refusal.{Refusal}
use Rattle.store.specs.Store.{Fit, words_of, marks_of}
use Rattle.store.specs.Lent.{rows_lent}
use Rattle.store.specs.declared.layout.Layout.{Layout}
use Rattle.store.specs.declared.view.StoreMut.{StoreMut}
use Rattle.store.proofs.Rows.{words_flat, marks_flat}
use Rattle.rounds.specs.declared.call.Ended.{Ended}
use Rattle.rounds.specs.Calls.{layout_of, call}
use Rattle.rounds.specs.Handed.{Callable}
use Rattle.rounds.specs.Rounds.{Searched, searched}
use Rattle.options.specs.declared.RaritySimulationOptions.{RaritySimulationOptions}
use Rattle.search.specs.Searching.{searched_as}
use Rattle.search.specs.Entry.{Left, left, left_by, search_left}
use Rattle.search.proofs.Accepted.{Allowed}

-- an accepted call, in the layout that its options say
module _ {o : RaritySimulationOptions} {log : ℕ} {p : Program} {words marks : List ℕ} (call_is : Allowed o log p words marks)
    {s : Layout} (is : s ≡ layout_of o log) where
  pub lent_fit : Fit s words marks
  lent_fit = rw is call_is.fit

  pub callable : (tape : List ℕ) → Callable (call o s p tape)
  callable tape = record { ratio = call_is.ratio; loadable = rw is call_is.loadable }

-- what an entry's tests decide
module _ (o : RaritySimulationOptions) (log : ℕ) (p : Program) (tape words marks : List ℕ) {r checked : Result (Unit {0}) Refusal} (e : r ≡ checked) where
  pub left_refused : (f : Refusal) → r ≡ Err f → left words marks (Err f) ≡ search_left checked o log p tape words marks
  unfolding search_left
  left_refused f h = rw (← e, h) refl

  pub left_accepted : {s : Layout} {l : Left} → r ≡ Ok tt → s ≡ layout_of o log → l ≡ left_by (searched (call o s p tape))
      → l ≡ search_left checked o log p tape words marks
  unfolding search_left
  left_accepted h is k = rw (← e, h, ← is) k

-- a store that holds the rows of a search is what the search leaves
pub left_in : (s : StoreMut) (x : Searched) (e : Ended) → searched_as e (rows_lent s) x → left s.words.now s.marks.now (Ok e) ≡ left_by x
left_in s x e h =
    let n = s.layout in
    let flat-words = sym (words_flat n.rows n.words n.marks s.words.now s.marks.now s.fit.all_words) ∙ ap words_of h.1 in
    let flat-marks = sym (marks_flat n.rows n.words n.marks s.words.now s.marks.now s.fit.all_marks) ∙ ap marks_of h.1 in
    rw (flat-words, flat-marks, h.0)
