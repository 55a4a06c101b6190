-- The facts that are taken from a file.
use Rattle.std.specs.Prelude.{ℕ, List, map}
use Rattle.std.specs.List.{flat_map}
use Rattle.ach_records.specs.Layout.{field}
use Rattle.ach_records.specs.Record.{kind_of, entry_transaction_code, entry_cents, batch_sec, header_key}
use Rattle.ach_records.specs.declared.Kind.{Kind}
use Rattle.ach_records.specs.declared.Kind.TheVariants as kinds
use Rattle.ach_files.specs.declared.facts.ItemFacts.{ItemFacts}
use Rattle.ach_files.specs.declared.facts.ReturnOrChange.{ReturnOrChange}
use Rattle.ach_files.specs.declared.facts.ReturnOrChange.TheVariants as returns_or_changes
use Rattle.ach_files.specs.Structure.{Item, Batch, File, digest_message}
use Rattle.sha2.specs.Sha256.{sha256}

-- the corrected data of a 98, the information of a 99
abbrev pub return_or_change_of : Kind → List ℕ → ReturnOrChange
return_or_change_of kinds.Change98 addenda = returns_or_changes.Change (field kinds.Change98 "corrected data" addenda)
return_or_change_of _ addenda = returns_or_changes.Return (field kinds.Return99 "information" addenda)

-- the code, the trace and the DFI have the same positions in a 98 and in a 99
unfoldable pub facts_from : List ℕ → ℕ → ℕ → Kind → List ℕ → ItemFacts
facts_from sec transaction cents kind addenda = record {
  sec_code = sec;
  transaction_code = transaction;
  cents = cents;
  code = field kinds.Return99 "return code" addenda;
  original_trace = field kinds.Return99 "original trace" addenda;
  original_dfi = field kinds.Return99 "original receiving DFI" addenda;
  return_or_change = return_or_change_of kind addenda;
}

-- what an item says, in a batch with this header
abbrev pub facts_of : List ℕ → Item → ItemFacts
facts_of header i = facts_from (batch_sec header) (entry_transaction_code i.entry) (entry_cents i.entry) (kind_of i.addenda) i.addenda

unfoldable pub batch_facts : Batch → List ItemFacts
batch_facts b = map (facts_of b.header) b.items

-- what the items of a file say, in their order
abbrev pub file_facts : File → List ItemFacts
file_facts f = flat_map batch_facts f.batches

-- what is taken from a file: its key, the digest of its records, and what its items say
pub record FileFacts : Type 0 where
  pub key : List ℕ
  pub digest : List ℕ
  pub items : List ItemFacts

-- the key is origin, date, time and modifier; the digest is the SHA-256 of the records through the 9
abbrev pub facts_in : File → FileFacts
facts_in f = record { key = header_key f.header; digest = sha256 (digest_message f); items = file_facts f }

-- a file that was read: its bytes, and what is taken from it
pub record Content : Type 0 where
  pub bytes : List ℕ
  pub facts : FileFacts
