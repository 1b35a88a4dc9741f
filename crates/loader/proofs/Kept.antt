-- What loading leaves alone: the lengths of a row's words and marks, and its depth, limit, log count and `born`; and what a new executor starts with.
use Rattle.std.proofs.Common.{List, ◌≡◌, refl, ◌∙◌, ℕ, zero, suc, ◌+◌, ◌-◌, ◌*◌, ◌/◌, ◌<◌, ◌≤◌, arith, length, get_or, length-set, get_or-set_same, get_or-set_other}
use Rattle.std.proofs.Math.ListN.{length-replicate, get_or-replicate}
use Rattle.values.specs.declared.Value.TheVariants.{Concrete}
use Rattle.rows.specs.Rows.{Row, blank, header, memory_words, depth_of, limit_of, born_of, set_word, set_slot, set_memory}
use Rattle.loader.specs.Loading.{Segment, Program, word_at, loaded_from, loaded, started, programmed, new_executor}

-- a row with its stack pointer and zero register, before anything is in its memory
abbrev pub pointed : Row → Row
pointed r = set_slot 0 (Concrete 0) (set_slot 2 (Concrete (8 * memory_words r - 8)) r)

-- f is what is kept: by loading, if by a store to memory, to the pc and to the break
module _ {A : Type 0} (f : Row → A) (store : (m x : ℕ) (r : Row) → f (set_memory m (Concrete x) r) ≡ f r) where
  loaded_from_kept : (n k m : ℕ) (bytes : List ℕ) (r : Row) → f (loaded_from n k m bytes r) ≡ f r
  unfolding loaded_from
  loaded_from_kept zero k m bytes r = refl
  loaded_from_kept (suc n) k m bytes r =
      loaded_from_kept n (k + 1) m bytes (set_memory (m + k) (Concrete (word_at bytes (8 * k))) r)
      ∙ store (m + k) (word_at bytes (8 * k)) r

  loaded_kept : (s : Segment) (r : Row) → f (loaded s r) ≡ f r
  unfolding loaded
  loaded_kept s r = loaded_from_kept (length s.content / 8) 0 (s.address / 8) s.content r

  started_kept : (r : Row) → f (started r) ≡ f (pointed r)
  unfolding started
  started_kept r = store (memory_words r - 1) 0 (pointed r)

  pub programmed_kept : ((i x : ℕ) → i < 2 → (r : Row) → f (set_word i x r) ≡ f r) → (p : Program) (r : Row) → f (programmed p r) ≡ f (pointed r)
  unfolding programmed
  programmed_kept set p r =
      set 1 _ (omega arith) _
      ∙ set 0 _ (omega arith) _
      ∙ loaded_kept _ _
      ∙ loaded_kept _ _
      ∙ started_kept r

pub programmed_words : (p : Program) (r : Row) → length (programmed p r).words ≡ length r.words
programmed_words p r =
    programmed_kept (λ (r : Row). length r.words) (λ m x r. simp length-set) (λ i x h r. simp length-set) p r
    ∙ simp length-set

pub programmed_marks : (p : Program) (r : Row) → length (programmed p r).marks ≡ length r.marks
programmed_marks p r =
    programmed_kept (λ (r : Row). length r.marks) (λ m x r. simp length-set) (λ i x h r. refl) p r
    ∙ simp length-set

-- of the words after the break and before memory a program sets only two registers
programmed_low : (i : ℕ) → 1 < i → i < header + 32 → (p : Program) (r : Row) → get_or (programmed p r).words i 0 ≡ get_or (pointed r).words i 0
programmed_low i low high =
    programmed_kept (λ (r : Row). get_or r.words i 0)
    (λ m x r. get_or-set_other r.words (header + (32 + m)) i x 0 (λ e. omega arith))
    (λ j x h r. get_or-set_other r.words j i x 0 (λ e. omega arith))

-- the depth, the limit, the log count and `born`
pub programmed_header : (i : ℕ) → 1 < i → i < header → (p : Program) (r : Row) → get_or (programmed p r).words i 0 ≡ get_or r.words i 0
programmed_header i low high p r =
    programmed_low i low (omega arith) p r
    ∙ get_or-set_other (set_slot 2 (Concrete (8 * memory_words r - 8)) r).words (header + 0) i 0 0 (λ e. omega arith)
    ∙ get_or-set_other r.words (header + 2) i (8 * memory_words r - 8) 0 (λ e. omega arith)

-- register 0 is marked
pub programmed_zero_mark : (p : Program) (r : Row) → 0 < length r.marks → get_or (programmed p r).marks 0 0 ≡ 1
programmed_zero_mark p r h =
    programmed_kept (λ (r : Row). get_or r.marks 0 0)
    (λ m x r. get_or-set_other r.marks (32 + m) 0 1 0 (λ e. omega arith))
    (λ i x h r. refl)
    p r
    ∙ get_or-set_same (set_slot 2 (Concrete (8 * memory_words r - 8)) r).marks 0 1 0 (simp length-set h)

-- a new executor
module _ (p : Program) (words marks : ℕ) where
  pub new_words : length (new_executor p words marks).words ≡ words
  unfolding new_executor
  new_words = programmed_words p (blank words marks) ∙ simp length-replicate

  pub new_marks : length (new_executor p words marks).marks ≡ marks
  unfolding new_executor
  new_marks = programmed_marks p (blank words marks) ∙ simp length-replicate

  module _ (registers : 32 < marks) (slots : marks + header ≤ words) where
    new_header : (i : ℕ) → 1 < i → i < header → get_or (new_executor p words marks).words i 0 ≡ 0
    unfolding new_executor
    new_header i low high = programmed_header i low high p (blank words marks) ∙ get_or-replicate words i 0 0 (omega arith)

    pub new_depth : depth_of (new_executor p words marks) ≡ 0
    new_depth = new_header 2 (omega arith) (omega arith)

    pub new_limit : limit_of (new_executor p words marks) ≡ 0
    new_limit = new_header 3 (omega arith) (omega arith)

    pub new_born : born_of (new_executor p words marks) ≡ 0
    new_born = new_header 5 (omega arith) (omega arith)

    pub new_zero_mark : get_or (new_executor p words marks).marks 0 0 ≡ 1
    unfolding new_executor
    new_zero_mark = programmed_zero_mark p (blank words marks) (simp length-replicate (omega arith))
