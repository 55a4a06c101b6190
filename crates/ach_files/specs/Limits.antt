-- The limits of a file and of the fields of its controls.
use Rattle.std.specs.Prelude.{ℕ}

-- 4 MiB
abbrev pub most_bytes : ℕ
most_bytes = 4_194_304

-- the records of a batch, the batches and the blocks
abbrev pub six_digits : ℕ
six_digits = 999_999

-- the records 6 and 7 of a file
abbrev pub eight_digits : ℕ
eight_digits = 99_999_999
