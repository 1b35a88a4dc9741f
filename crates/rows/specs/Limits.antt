-- What document 01 allows of rows and of a store of rows.
use Rattle.std.specs.Prelude.{ℕ}

-- the rows of a store
abbrev pub most_rows : ℕ
most_rows = 4096

-- memory comes in units of 1 KiB
abbrev pub memory_unit : ℕ
memory_unit = 1024

-- and is at most 1 MiB
abbrev pub most_memory_bytes : ℕ
most_memory_bytes = 1048576

-- the same in words
abbrev pub most_memory : ℕ
most_memory = 131072

-- the log words of a row
abbrev pub most_log : ℕ
most_log = 65536
