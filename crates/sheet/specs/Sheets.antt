-- The sheet (docs/SHEETS.md): sixteen little-endian fields, defaults, and what a sequence of bytes is as a sheet.
use Rattle.std.specs.Prelude.{Result, Ok, Err, Bool, cond, ◌||◌, List, [], ◌∷◌, ◌++◌, ℕ, zero, suc, ◌+◌, ◌-◌, ◌*◌, ◌^◌, eqb, ltb, length, take, drop}
use Rattle.std.specs.Float.{binary64}
use Rattle.std.specs.Float.Ieee.{of_bits}
use Rattle.loader.specs.Loading.{word_at, Program, program, segment}
use Rattle.options.specs.Defaults.{default_memory_size, default_amount_of_states, default_step_size, default_selection}
use Rattle.options.specs.Defaults.{default_iterations, default_copy_ratio_bits, default_mean}
use Rattle.options.specs.Means.{mean_number, mean_numbered}
use Rattle.sheet.specs.declared.fields.Fields.{Fields}
use Rattle.sheet.specs.declared.limits.Limits.{Limits}
use Rattle.sheet.specs.declared.parse.Part.{Part}
use Rattle.sheet.specs.declared.parse.Sheet.{Sheet}
use Rattle.sheet.specs.declared.parse.SheetError.{SheetError}
use Rattle.sheet.specs.declared.parse.SheetError.TheVariants.{SheetLength, PartPastEnd, UnknownMean, AboveLimit}

-- field i of a sheet
abbrev pub field : List ℕ → ℕ → ℕ
field s i = word_at s (8 * i)

abbrev pub fields_of : List ℕ → Fields
fields_of s =
    record {
      states = field s 0;
      step = field s 1;
      selection = field s 2;
      rounds = field s 3;
      ratio = field s 4;
      mean = field s 5;
      memory = field s 6;
      log = field s 7;
      code_address = field s 8;
      code_offset = field s 9;
      code_length = field s 10;
      data_address = field s 11;
      data_offset = field s 12;
      data_length = field s 13;
      tape_offset = field s 14;
      tape_words = field s 15;
    }

-- all ones mean the default
unfoldable pub or_default : ℕ → ℕ → ℕ
or_default x default = cond (eqb x (2 ^ 64 - 1)) default x

-- the defaults in fields 0 to 6, before any check of a value
abbrev pub with_defaults : Fields → Fields
with_defaults f =
    record {
      states = or_default f.states default_amount_of_states;
      step = or_default f.step default_step_size;
      selection = or_default f.selection default_selection;
      rounds = or_default f.rounds default_iterations;
      ratio = or_default f.ratio default_copy_ratio_bits;
      mean = or_default f.mean (mean_number default_mean);
      memory = or_default f.memory default_memory_size;
      log = f.log;
      code_address = f.code_address;
      code_offset = f.code_offset;
      code_length = f.code_length;
      data_address = f.data_address;
      data_offset = f.data_offset;
      data_length = f.data_length;
      tape_offset = f.tape_offset;
      tape_words = f.tape_words;
    }

-- what the fields of an accepted sheet say
abbrev pub sheet_of : Fields → Sheet
sheet_of f =
    record {
      options =
          record {
            memory_size = f.memory;
            amount_of_states = f.states;
            step_size = f.step;
            selection = f.selection;
            iterations = f.rounds;
            copy_init_ratio = of_bits binary64 f.ratio;
            mean = mean_numbered f.mean;
          };
      log = f.log;
      code = record { address = f.code_address; offset = f.code_offset; length = f.code_length };
      «data» = record { address = f.data_address; offset = f.data_offset; length = f.data_length };
      tape_offset = f.tape_offset;
      tape_words = f.tape_words;
    }

-- 54: what is not 32-bit, or above the program's limits
abbrev pub above_limit : Limits → Fields → Bool
above_limit l f =
    ltb 0xffff_ffff f.step
    || (ltb 0xffff_ffff f.selection
    || (ltb 0xffff_ffff f.rounds
    || (ltb l.states f.states || (ltb l.memory f.memory || ltb l.log f.log))))

-- 52: a part reaches past the n bytes of the sheet, by an unwrapped sum, even when it is empty
abbrev pub part_past : ℕ → Fields → Bool
part_past n f =
    ltb n (f.code_offset + f.code_length)
    || (ltb n (f.data_offset + f.data_length) || ltb n (f.tape_offset + 8 * f.tape_words))

-- 52, 53, 54 of a sheet of n bytes, its defaults put in
abbrev pub fields_parsed : Limits → ℕ → Fields → Result Sheet SheetError
fields_parsed l n f =
    cond (part_past n f) (Err PartPastEnd)
    (cond (ltb 1 f.mean) (Err UnknownMean)
    (cond (above_limit l f) (Err AboveLimit)
    (Ok (sheet_of f))))

-- 51 first
unfoldable pub parsed : Limits → List ℕ → Result Sheet SheetError
parsed l s =
    cond (ltb (length s) 128 || ltb l.bytes (length s)) (Err SheetLength)
    (fields_parsed l (length s) (with_defaults (fields_of s)))

abbrev pub sheet_number : SheetError → ℕ
sheet_number SheetLength = 51
sheet_number PartPastEnd = 52
sheet_number UnknownMean = 53
sheet_number AboveLimit = 54

-- the bench program's limits
abbrev pub bench_limits : Limits
bench_limits = record { bytes = 61440; states = 8; memory = 1024; log = 64 }

-- ---- the parts of a sheet

abbrev pub part_of : List ℕ → Part → List ℕ
part_of s p = take p.length (drop p.offset s)

-- the first n words of some bytes, little-endian
unfoldable pub words_in : ℕ → List ℕ → List ℕ
words_in zero bytes = []
words_in (suc n) bytes = words_in n bytes ++ (word_at bytes (8 * n) ∷ [])

abbrev pub image_of : List ℕ → Sheet → Program
image_of s h = program (segment h.code.address (part_of s h.code)) (segment h.«data».address (part_of s h.«data»))

abbrev pub tape_of : List ℕ → Sheet → List ℕ
tape_of s h = words_in h.tape_words (drop h.tape_offset s)
