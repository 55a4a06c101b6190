-- The records so far, as the beginning of a file.
use Rattle.std.specs.Prelude.{ℕ, suc, List, [], ◌∷◌, ◌++◌}
use Rattle.std.specs.List.{flat_map, fold}
use Rattle.ach_records.specs.Record.{kind_of}
use Rattle.ach_records.specs.declared.Kind.{Kind}
use Rattle.ach_records.specs.declared.Kind.TheVariants as kinds
use Rattle.ach_files.specs.declared.facts.ItemFacts.{ItemFacts}
use Rattle.ach_files.specs.Structure.{Item, Batch, File, item_records, batch_records, main_records}
use Rattle.ach_files.specs.Facts.{batch_facts, file_facts}

-- the file so far: nothing; a header and whole batches; these and an open batch; these and an entry that waits for its
-- addenda; all
pub data FileSoFar : Type 0 where
  BeforeHeader : FileSoFar
  BetweenBatches : (header : List ℕ) (batches : List Batch) → FileSoFar
  InBatch : (header : List ℕ) (batches : List Batch) (batch : List ℕ) (items : List Item) → FileSoFar
  AwaitingAddenda : (header : List ℕ) (batches : List Batch) (batch : List ℕ) (items : List Item) (entry : List ℕ) → FileSoFar
  Closed : (file : File) → FileSoFar

-- one more record of this kind, if it may come here
abbrev pub with_record_of : FileSoFar → Kind → List ℕ → FileSoFar
with_record_of BeforeHeader kinds.FileHeader text = BetweenBatches text []
with_record_of (BetweenBatches h bs) kinds.BatchHeader text = InBatch h bs text []
with_record_of (BetweenBatches h bs) kinds.FileControl text = Closed (record { header = h; batches = bs; control = text; fillers = 0 })
with_record_of (InBatch h bs b is) kinds.Entry text = AwaitingAddenda h bs b is text
with_record_of (InBatch h bs b is) kinds.BatchControl text = BetweenBatches h (bs ++ record { header = b; items = is; control = text } ∷ [])
with_record_of (AwaitingAddenda h bs b is e) kinds.Return99 text = InBatch h bs b (is ++ record { entry = e; addenda = text } ∷ [])
with_record_of (AwaitingAddenda h bs b is e) kinds.Change98 text = InBatch h bs b (is ++ record { entry = e; addenda = text } ∷ [])
with_record_of (Closed f) kinds.Filler text = Closed (record { header = f.header; batches = f.batches; control = f.control; fillers = suc f.fillers })
with_record_of s _ _ = s

-- one record more
unfoldable pub with_record : FileSoFar → List ℕ → FileSoFar
with_record s text = with_record_of s (kind_of text) text

-- what these records are of a file
unfoldable pub file_so_far : List (List ℕ) → FileSoFar
file_so_far records = fold with_record BeforeHeader records

-- what is taken from the records so far
abbrev pub facts_so_far : FileSoFar → List ItemFacts
facts_so_far BeforeHeader = []
facts_so_far (BetweenBatches h bs) = flat_map batch_facts bs
facts_so_far (InBatch h bs b is) = flat_map batch_facts bs ++ batch_facts (record { header = b; items = is; control = [] })
facts_so_far (AwaitingAddenda h bs b is e) = flat_map batch_facts bs ++ batch_facts (record { header = b; items = is; control = [] })
facts_so_far (Closed f) = file_facts f

-- the records so far, without fillers
abbrev pub records_so_far : FileSoFar → List (List ℕ)
records_so_far BeforeHeader = []
records_so_far (BetweenBatches h bs) = h ∷ flat_map batch_records bs
records_so_far (InBatch h bs b is) = h ∷ flat_map batch_records bs ++ b ∷ flat_map item_records is
records_so_far (AwaitingAddenda h bs b is e) = h ∷ flat_map batch_records bs ++ b ∷ flat_map item_records is ++ e ∷ []
records_so_far (Closed f) = main_records f

abbrev pub digest_message_so_far : FileSoFar → List ℕ
digest_message_so_far s = flat_map (λ r. r) (records_so_far s)
