-- What is told, as it is lent to be printed.
use Rattle.std.specs.Prelude.{Option, Some, None}
use Rattle.lines.specs.Lines.{Told}
use Rattle.lines.specs.declared.Told.{Told as LentTold}

-- of a find
abbrev pub told_now : LentTold → Told
told_now t = record { born = t.born; inputs = t.inputs.now }

-- of any answer
abbrev pub told_seen : Option LentTold → Option Told
told_seen None = None
told_seen (Some t) = Some (told_now t)
