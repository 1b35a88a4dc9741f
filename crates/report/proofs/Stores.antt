-- The store of an accepted sheet: its lengths, and its fronts of two arrays of zeros.
use Rattle.std.proofs.Common.{◌≡◌, refl, sym, ap, ◌∙◌, List, ℕ, ◌+◌, ◌*◌, ◌/◌, ◌≤◌, mul-le-mul, arith, length, Result, Ok, Err}
use Rattle.laws.proofs.Absurd.{impossible}
use Rattle.laws.proofs.Fronts.{front_alike}
use Rattle.rows.specs.Rows.{header, row_words, row_marks}
use Rattle.store.specs.Store.{Fit, rows_of}
use Rattle.store.specs.declared.layout.Layout.{Layout}
use Rattle.rounds.specs.Calls.{layout_of}
use Rattle.loader.specs.Loading.{Program}
use Rattle.options.specs.declared.RaritySimulationOptions.{RaritySimulationOptions}
use Rattle.search.specs.Entry.{Left, left, search_checked, search_left, search_entry}
use Rattle.search.proofs.Accepted.{allowed}
use Rattle.rounds.specs.declared.call.Ended.{Ended}
use Rattle.checks.specs.declared.refusal.Refusal.{Refusal}
use Rattle.sheet.specs.Sheets.{parsed, bench_limits, image_of, tape_of}
use Rattle.sheet.specs.declared.parse.Sheet.{Sheet}
use Rattle.sheet.proofs.Accepting.{accepted_fitting}
use Rattle.report.specs.Reports.{sheet_left, search_printed}
use Rattle.report.specs.Printing.{answer_lines}
use Rattle.report.proofs.Zeros.{zeros, lent, lent_length}

-- the most words and marks of the store of a sheet
abbrev pub most_words : ℕ
most_words = bench_limits.states * row_words (bench_limits.memory / 8) bench_limits.log

abbrev pub most_marks : ℕ
most_marks = bench_limits.states * row_marks (bench_limits.memory / 8)

-- a call whose search ended was not refused, and its store fits
module _ (o : RaritySimulationOptions) (log : ℕ) (p : Program) (tape words marks : List ℕ) {words' marks' : List ℕ} {e : Ended} where
  ended_checked : (a : Result (Unit {0}) Refusal) → left words' marks' (Ok e) ≡ search_left a o log p tape words marks → a ≡ Ok tt
  unfolding search_left
  ended_checked (Ok t) x = refl
  ended_checked (Err f) x = let other : Ok e ≡ Err f = ap (λ (l : Left). l.answer) x in impossible cc

  ended_fit : left words' marks' (Ok e) ≡ search_entry o log p tape words marks → Fit (layout_of o log) words marks
  unfolding search_checked
  ended_fit x = (allowed o log p words marks refl (ended_checked (search_checked o log p words marks) x)).fit

module _ (s : List ℕ) (h : Sheet) (accepted : parsed bench_limits s ≡ Ok h) where
  pub memory_few : h.options.memory_size / 8 ≤ bench_limits.memory / 8
  memory_few = omega (arith, (accepted_fitting bench_limits s h accepted).memory_fits)

  pub log_few : h.log ≤ bench_limits.log
  log_few = (accepted_fitting bench_limits s h accepted).log_fits

  -- in the layout that the sheet says
  module _ {store : Layout} (e : store ≡ layout_of h.options h.log) where
    states_few : store.rows ≤ bench_limits.states
    states_few = rw e (accepted_fitting bench_limits s h accepted).states_fit

    words_of_row : store.words ≤ row_words (bench_limits.memory / 8) bench_limits.log
    words_of_row = rw e (omega (arith, memory_few, log_few))

    marks_of_row : store.marks ≤ row_marks (bench_limits.memory / 8)
    marks_of_row = rw e (omega (arith, memory_few))

    pub words_few : store.rows * store.words ≤ most_words
    words_few = mul-le-mul states_few words_of_row

    pub marks_few : store.rows * store.marks ≤ most_marks
    marks_few = mul-le-mul states_few marks_of_row

    pub log_of_row : store.words ≤ store.marks + header + bench_limits.log
    log_of_row = rw e (omega (arith, log_few))

    -- what comes back for the lent words and marks is a store, where the search ended
    pub store_fit : (words marks : List ℕ) (a : Result Ended Refusal) {ended : Ended} → a ≡ Ok ended
        → left words marks a
        ≡ search_entry h.options h.log (image_of s h) (tape_of s h) (lent (store.rows * store.words) most_words)
        (lent (store.rows * store.marks) most_marks)
        → length words ≡ length (lent (store.rows * store.words) most_words)
        → length marks ≡ length (lent (store.rows * store.marks) most_marks) → Fit store words marks
    store_fit words marks a is x ew em =
        let f = ended_fit h.options h.log (image_of s h) (tape_of s h) _ _ (ap (λ (b : Result Ended Refusal). left words marks b) (sym is) ∙ x) in
        record {
          sized = rw e f.sized;
          all_words = ew ∙ lent_length (store.rows * store.words) most_words words_few;
          all_marks = em ∙ lent_length (store.rows * store.marks) most_marks marks_few;
        }

    -- an answer and a store that the search left are what is printed
    pub printed_search : (words marks : List ℕ) (a : Result Ended Refusal) {b : Result Ended Refusal} → a ≡ b
        → left words marks a
        ≡ search_entry h.options h.log (image_of s h) (tape_of s h) (lent (store.rows * store.words) most_words)
        (lent (store.rows * store.marks) most_marks)
        → answer_lines b (rows_of store words marks) ≡ search_printed s h
    unfolding sheet_left search_printed
    printed_search words marks a is x =
        let o = h.options in
        let k = layout_of o h.log in
        let ew = front_alike (store.rows * store.words) most_words 0 words_few ∙ ap (λ (z : Layout). zeros (z.rows * z.words)) e in
        let em = front_alike (store.rows * store.marks) most_marks 0 marks_few ∙ ap (λ (z : Layout). zeros (z.rows * z.marks)) e in
        ap (λ (z : Result Ended Refusal). answer_lines z (rows_of store words marks)) (sym is)
        ∙ ap (λ (z : Layout). answer_lines a (rows_of z words marks)) e
        ∙ ap (λ (l : Left). answer_lines l.answer (rows_of k l.words l.marks))
        (x
        ∙ ap (λ (l : List ℕ). search_entry o h.log (image_of s h) (tape_of s h) l (lent (store.rows * store.marks) most_marks)) ew
        ∙ ap (λ (l : List ℕ). search_entry o h.log (image_of s h) (tape_of s h) (zeros (k.rows * k.words)) l) em)
