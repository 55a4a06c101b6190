-- When the entries at some places settle.
use Rattle.std.specs.Prelude.{◌≡◌, ℕ, List, map, Option, option_and_then, IfSome, Vec}
use Rattle.std.specs.declared.alloc.Global.{Global}
use Rattle.sql_tables.specs.Composed.{settled_at}
use Rattle.sql_tables.specs.TableReads.{facts_in}
use Rattle.sql_tables.specs.Tables.{Tables}
use Rattle.sql_tables.specs.declared.row.entries.EntryPlace.{EntryPlace}

-- the day on which the submission with a number in its company settles
abbrev pub settled_in : (company : List ℕ) → (order : ℕ) → Tables → Option ℕ
settled_in company order t = option_and_then (λ f. f.settled) (facts_in company order t)

-- the day on which the submission of an entry settles
abbrev pub settled_with : Tables → EntryPlace → Option ℕ
settled_with t e = settled_in e.company e.order t

-- the days on which the submissions of these entries settle
abbrev pub settlements_of : List EntryPlace → Tables → List (Option ℕ)
settlements_of sent t = map (settled_with t) sent

-- the days on which the entries at these places settle
abbrev pub settlements_at : (places : List ℕ) → Tables → List (Option ℕ)
settlements_at places t = map (λ place. settled_at place t) places

-- the entries that were found, if any were, settle when those at these places do
abbrev pub SettleAs : (places : List ℕ) → Option (Vec EntryPlace Global) → Tables → Type 0
SettleAs places found t = IfSome found (λ sent. settlements_at places t ≡ settlements_of sent.items t)
