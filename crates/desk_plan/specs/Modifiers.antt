-- Modifiers of a day's files.
use Rattle.std.specs.Prelude.{ℕ, List, codes, Option, slice_get, slice_index}

-- the modifiers, in the order in which a day's files get them
unfoldable pub modifiers : List ℕ
modifiers = codes "ABCDEFGHIJKLMNOPQRSTUVWXYZ0123456789"

-- how many files a day may have
abbrev pub most_files : ℕ
most_files = 36

-- the modifier of the file that has this many files of its day before it
abbrev pub modifier_of : ℕ → Option ℕ
modifier_of before = slice_get modifiers before

-- the same as a number, 0 where the day has no more modifiers
abbrev pub modifier_at : ℕ → ℕ
modifier_at before = slice_index modifiers before
