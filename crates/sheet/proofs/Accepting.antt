-- What is known of an accepted sheet: its parts lie within it, and its numbers within their limits.
use Rattle.std.proofs.Common.{Result, Ok, Err, ◌≡◌, refl, Bool, true, false, cond, ◌||◌, List, ℕ, ◌^◌, ◌<◌, ◌≤◌, arith, ltb, length, ltb-false}
use Rattle.laws.proofs.Choices.{neither}
use Rattle.sheet.specs.Sheets.{fields_of, with_defaults, sheet_of, above_limit, part_past, fields_parsed, parsed}
use Rattle.sheet.specs.Parts.{PartsWithin}
use Rattle.sheet.specs.declared.fields.Fields.{Fields}
use Rattle.sheet.specs.declared.limits.Limits.{Limits}
use Rattle.sheet.specs.declared.parse.Sheet.{Sheet}
use Rattle.sheet.specs.declared.parse.SheetError.{SheetError}
use Rattle.sheet.specs.declared.parse.SheetError.TheVariants.{PartPastEnd, UnknownMean, AboveLimit}

-- the numbers of a sheet are within their limits
pub record Fitting (l : Limits) (h : Sheet) : Type 0 where
  pub step_fits : h.options.step_size < 2 ^ 32
  pub selection_fits : h.options.selection < 2 ^ 32
  pub rounds_fits : h.options.iterations < 2 ^ 32
  pub states_fit : h.options.amount_of_states ≤ l.states
  pub memory_fits : h.options.memory_size ≤ l.memory
  pub log_fits : h.log ≤ l.log

word32 : (x : ℕ) → ltb 0xffff_ffff x ≡ false → x < 2 ^ 32
word32 x h = omega (arith, ltb-false 0xffff_ffff x h)

-- 54 does not refuse some fields
pub fitting : (l : Limits) (f : Fields) → above_limit l f ≡ false → Fitting l (sheet_of f)
fitting l f h =
    let a = neither _ _ h in
    let b = neither _ _ a.1 in
    let c = neither _ _ b.1 in
    let d = neither _ _ c.1 in
    let e = neither _ _ d.1 in
    record {
      step_fits = word32 _ a.0;
      selection_fits = word32 _ b.0;
      rounds_fits = word32 _ c.0;
      states_fit = ltb-false _ _ d.0;
      memory_fits = ltb-false _ _ e.0;
      log_fits = ltb-false _ _ e.1;
    }

-- 52 does not
in_bytes : (n : ℕ) (f : Fields) → part_past n f ≡ false → PartsWithin n (sheet_of f)
in_bytes n f h =
    let a = neither _ _ h in
    let b = neither _ _ a.1 in
    record { in_code = ltb-false _ _ a.0; in_data = ltb-false _ _ b.0; in_tape = ltb-false _ _ b.1 }

-- a test that refuses did not hold of what is accepted
passed : (b : Bool) (k : SheetError) (y : Result Sheet SheetError) (h : Sheet) → cond b (Err k) y ≡ Ok h → (b ≡ false) × (y ≡ Ok h)
passed true k y h e = (cc, cc)
passed false k y h e = (refl, e)

-- the tests that the fields of an accepted sheet of n bytes passed, and what it is
pub record Passed (l : Limits) (n : ℕ) (f : Fields) (h : Sheet) : Type 0 where
  pub parts : part_past n f ≡ false
  pub limits : above_limit l f ≡ false
  pub is : sheet_of f ≡ h

fields_passed : (l : Limits) (n : ℕ) (f : Fields) (h : Sheet) → fields_parsed l n f ≡ Ok h → Passed l n f h
fields_passed l n f h e =
    let a = passed (part_past n f) PartPastEnd _ h e in
    let b = passed (ltb 1 f.mean) UnknownMean _ h a.1 in
    let c = passed (above_limit l f) AboveLimit _ h b.1 in
    let same : Ok (sheet_of f) ≡ Ok h = c.1 in
    record { parts = a.0; limits = c.0; is = cc }

module _ (l : Limits) (s : List ℕ) (h : Sheet) (accepted : parsed l s ≡ Ok h) where
  length_passed : ((ltb (length s) 128 || ltb l.bytes (length s)) ≡ false) × (fields_parsed l (length s) (with_defaults (fields_of s)) ≡ Ok h)
  unfolding parsed
  length_passed = passed _ _ _ h accepted

  pub accepted_passed : Passed l (length s) (with_defaults (fields_of s)) h
  accepted_passed = fields_passed _ _ _ h length_passed.1

  pub accepted_within : PartsWithin (length s) h
  accepted_within = rw (← accepted_passed.is) (in_bytes (length s) (with_defaults (fields_of s)) accepted_passed.parts)

  pub accepted_fitting : Fitting l h
  accepted_fitting = rw (← accepted_passed.is) (fitting l (with_defaults (fields_of s)) accepted_passed.limits)

  pub accepted_bytes : length s ≤ l.bytes
  accepted_bytes = ltb-false _ _ (neither _ _ length_passed.0).1
