-- The bytes that are a file, and its records.
use Rattle.std.specs.Prelude.{◌≡◌, ℕ, ◌≤◌, ◌⊎◌, List, [], ◌∷◌, ◌++◌, map, length}
use Rattle.std.specs.List.{flat_map, All}
use Rattle.ach_records.specs.Record.{IsRecord, entry_cents, entry_direction}
use Rattle.ach_records.specs.declared.Kind.TheVariants as kinds
use Rattle.ach_files.specs.Structure.{Item, Batch, File, main_records, records_of}
use Rattle.ach_files.specs.Limits.{most_bytes}
use Rattle.ach_files.specs.Facts.{FileFacts, Content, facts_in}
use Rattle.ach_files.specs.Totals.{sums_of_items, sums_of_batches, batch_control_sums, file_control_sums, control_batches, control_blocks, blocks, Agrees}

-- a return or a change: the second digit of the code is 1 or 6, followed by one 99 or, if the amount is zero, one 98
pub record IsItem (i : Item) : Type 0 where
  pub entry : IsRecord kinds.Entry i.entry
  pub direction : (entry_direction i.entry ≡ 49) ⊎ (entry_direction i.entry ≡ 54)
  pub addenda : IsRecord kinds.Return99 i.addenda ⊎ (IsRecord kinds.Change98 i.addenda × (entry_cents i.entry ≡ 0))

pub record IsBatch (b : Batch) : Type 0 where
  pub header : IsRecord kinds.BatchHeader b.header
  pub items : All IsItem b.items
  pub control : IsRecord kinds.BatchControl b.control
  pub sums : Agrees (batch_control_sums b.control) (sums_of_items b.items)

-- each record is of its kind, and the controls say the counts and sums of the records
pub record AreRecords (f : File) : Type 0 where
  pub header : IsRecord kinds.FileHeader f.header
  pub batches : All IsBatch f.batches
  pub control : IsRecord kinds.FileControl f.control
  pub count : control_batches f.control ≡ length f.batches
  pub sums : Agrees (file_control_sums f.control) (sums_of_batches f.batches)
  pub blocks : control_blocks f.control ≡ blocks (length (main_records f))

-- a record and what follows it
pub record Line : Type 0 where
  pub text : List ℕ
  pub end : List ℕ

-- nothing, LF or CR LF
abbrev pub IsLineEnd : List ℕ → Type 0
IsLineEnd end = (end ≡ []) ⊎ ((end ≡ 10 ∷ []) ⊎ (end ≡ 13 ∷ 10 ∷ []))

abbrev pub IsCrLf : ℕ → Type 0
IsCrLf b = (b ≡ 10) ⊎ (b ≡ 13)

-- the records in order, each followed by nothing, LF or CR LF, the last by any run of CR and LF
pub record IsTextOf (records : List (List ℕ)) (bytes : List ℕ) : Type 0 where
  pub lines : List Line
  pub tail : List ℕ
  pub texts : map (λ l. l.text) lines ≡ records
  pub ends : All (λ l. IsLineEnd l.end) lines
  pub run : All IsCrLf tail
  pub whole : bytes ≡ flat_map (λ l. l.text ++ l.end) lines ++ tail

-- at most 4 MiB, and the text of good records
pub record IsFile (bytes : List ℕ) (f : File) : Type 0 where
  pub size : length bytes ≤ most_bytes
  pub records : AreRecords f
  pub text : IsTextOf (records_of f) bytes

-- the bytes are a file, and this is taken from it
abbrev pub IsReadAs : List ℕ → FileFacts → Type 0
IsReadAs bytes facts = (f : File) × IsFile bytes f × (facts ≡ facts_in f)

-- these bytes were read, and are this file
abbrev pub IsContentOf : List ℕ → Content → Type 0
IsContentOf bytes content = (content.bytes ≡ bytes) × IsReadAs bytes content.facts

-- the facts of this file were taken
abbrev pub HasFactsOf : File → Content → Type 0
HasFactsOf f content = content.facts ≡ facts_in f
