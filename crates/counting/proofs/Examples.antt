-- A small row: bytes of different registers in one cell are counted together, and an uninitialised word is not.
use Rattle.std.proofs.Common.{◌≡◌, refl, ◌∷◌, ◌++◌, replicate}
use Rattle.values.specs.Values.{value_at}
use Rattle.rows.specs.Rows.{Row, row, header}
use Rattle.counting.specs.Cells.{place_at, base_of, address_of, byte_addresses, addresses_to, addresses_of}
use Rattle.counting.specs.Counters.{occurrences}

-- a header of zeros; register 0 is 0x700, register 8 is 7, register 1 is 7 but uninitialised, and the others are uninitialised too
abbrev sample : Row
sample =
    row (replicate header 0 ++ (0x700 ∷ 7 ∷ 0 ∷ 0 ∷ 0 ∷ 0 ∷ 0 ∷ 0 ∷ 7 ∷ replicate 23 0))
    (1 ∷ 0 ∷ 0 ∷ 0 ∷ 0 ∷ 0 ∷ 0 ∷ 0 ∷ 1 ∷ replicate 23 0)

pub both_counted : occurrences (address_of 16 7) (addresses_of sample) ≡ 2
unfolding occurrences addresses_to byte_addresses base_of place_at value_at
both_counted = refl

pub unmarked_not_counted : occurrences (address_of 9 7) (addresses_of sample) ≡ 0
unfolding occurrences addresses_to byte_addresses base_of place_at value_at
unmarked_not_counted = refl
