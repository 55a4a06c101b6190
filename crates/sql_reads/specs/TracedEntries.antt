-- What traces name.
use Rattle.std.specs.Prelude.{◌≡◌, ◌≤◌, ℕ, List, map, Option, option_map}
use Rattle.ach_fields.specs.Routing.{dfi_of, most_dfi}
use Rattle.desk_book.specs.declared.named_entry.NamedEntry.{NamedEntry}
use Rattle.desk_history.specs.declared.sent_entry.SentEntry.{SentEntry}
use Rattle.sql_tables.specs.Composed.{sent_in, sent_with, traced_in, with_return_in}
use Rattle.sql_tables.specs.TableReads.{facts_in}
use Rattle.sql_tables.specs.Tables.{Tables}
use Rattle.sql_tables.specs.declared.row.entries.PlacedEntry.{PlacedEntry}

-- an entry with what its submission says of it, once that is sent
abbrev pub sent_of : (sequence : ℕ) → PlacedEntry → Tables → Option SentEntry
sent_of sequence placed t = sent_with sequence placed (facts_in placed.company placed.order t)

-- the youngest entry that has a sequence, and whether it came back
abbrev pub named_in : (sequence : ℕ) → Tables → Option NamedEntry
named_in sequence t = option_map (with_return_in t) (sent_in sequence t)

-- what each trace names where the bank's number has these eight digits
abbrev pub each_traced_in : (dfi : ℕ) → List (Option (List ℕ)) → Tables → List (Option NamedEntry)
each_traced_in dfi traces t = map (traced_in dfi t) traces

-- each names what it does at this bank, whose number has eight digits
pub record AreTraced (traces : List (Option (List ℕ))) (found : List (Option NamedEntry)) (t : Tables) : Type 0 where
  pub within : dfi_of t.desk.identity.odfi ≤ most_dfi
  pub are : found ≡ each_traced_in (dfi_of t.desk.identity.odfi) traces t
