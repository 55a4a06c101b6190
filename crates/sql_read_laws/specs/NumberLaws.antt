-- What is found of sent entries and of their sequences.
use Rattle.std.specs.Prelude.{◌≡◌, ◌≤◌, ℕ, List, map, Option, option_map, unwrap_or}
use Rattle.ach_fields.specs.Routing.{most_dfi, dfi_of}
use Rattle.sql_statements.specs.Books.{Agrees}
use Rattle.desk_book.specs.OnIntake.{traced_entries}
use Rattle.desk_book.specs.Reads.{last_sequence, sent_count, latest_settled}
use Rattle.desk_book.specs.declared.named_entry.NamedEntry.{NamedEntry}
use Rattle.sql_tables.specs.Layout.{desk_layout, IsBookIn}
use Rattle.sql_tables.specs.TableReads.{IsLastNumber}
use Rattle.sql_tables.specs.declared.records.NumberRecord.{NumberRecord}
use Rattle.sql_tables.specs.Composed.{traced_in, latest_in}
use Rattle.sql_read_laws.specs.ReadsAs.{ReadsAs}

pub record NumberLaws : Type 0 where
  pub sent_count : (last : Option NumberRecord) → Agrees desk_layout IsBookIn (IsLastNumber last) (λ b. unwrap_or (option_map (λ n. n.place) last) 0 ≡ sent_count b)
  pub last_sequence : (last : Option NumberRecord) → Agrees desk_layout IsBookIn (IsLastNumber last) (λ b. unwrap_or (option_map (λ n. n.sequence) last) 0 ≡ last_sequence b)
  -- a routing number begins with eight digits
  pub traced_entries : (traces : List (Option (List ℕ))) (found : List (Option NamedEntry)) → Agrees desk_layout IsBookIn
      (λ t. (dfi_of t.desk.identity.odfi ≤ most_dfi) × (found ≡ map (traced_in (dfi_of t.desk.identity.odfi) t) traces))
      (λ b. found ≡ traced_entries traces b)
  pub latest_settled : (from to : ℕ) → ReadsAs (latest_in from to) (latest_settled from to)
