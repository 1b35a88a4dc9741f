use Rattle.std.proofs.Common.{◌≡◌, take}
use Rattle.sheet.specs.Sheets.{words_in}
use Rattle.sheet.proofs.tape.read_words.Given as goal

-- the words so far are read
abbrev pub invariant-loop-i : goal.invariant-loop-i
invariant-loop-i l = take l.i l.tape ≡ words_in l.i l.bytes
