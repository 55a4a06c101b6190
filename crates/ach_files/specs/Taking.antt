-- The promises of a recogniser and a reader about what they take: a record, a byte, a piece, and the end. In place of a
-- fault, except at the end, lack of memory may be returned.
use Rattle.std.specs.Prelude.{◌≡◌, ℕ, ◌+◌, List, [], ◌∷◌, ◌++◌, take, Some, None, Result, MatchResult}
use Rattle.ach_files.specs.declared.fault.Fault.{Fault}
use Rattle.ach_files.specs.declared.fault.FileFault.{FileFault}
use Rattle.ach_files.specs.declared.place.Position.TheVariants as positions
use Rattle.ach_files.specs.declared.reader.Reader.{Reader}
use Rattle.ach_files.specs.declared.recogniser.Recogniser.{Recogniser}
use Rattle.ach_files.specs.Structure.{File}
use Rattle.ach_files.specs.Facts.{FileFacts, facts_in}
use Rattle.ach_files.specs.File.{IsReadAs}
use Rattle.ach_files.specs.SoFar.{Closed, file_so_far}
use Rattle.ach_files.specs.RecordFault.{record_fault}
use Rattle.ach_files.specs.Layout.{Layout, Put, layout_after_move, next_layout, layout, MayBeginAfter}
use Rattle.ach_files.specs.FirstFault.{byte_fault, place_fault, early_fault, end_fault, fault, Tells, HoldsOrTells, HoldsOrTellsKind}
use Rattle.ach_files.specs.Has.{HasRecords, HasLayout, Has, HasBytes, HasRead, HasFailed, item_room}
use Rattle.ach_files.specs.Memory.{GivesUpAfter, GivesUpKindAfter}

-- the partial record comes after the earlier ones, or its fault is returned
abbrev pub TakesRecord : (old new : Recogniser) → Result (Unit {0}) FileFault → Type 0
TakesRecord old new result =
    (records : List (List ℕ)) → HasRecords old records →
    HoldsOrTellsKind result (record_fault records old.part) (HasRecords new (records ++ old.part ∷ []))

-- it is right after that record, and has counted the bytes that it counted
abbrev pub EndsRecord : (old new : Recogniser) → Type 0
EndsRecord old new = (new.position ≡ positions.AfterRecord) × (new.taken ≡ old.taken)

-- memory runs out only for a good record that makes more items than there was room for
abbrev pub RecordNeedsRoom : Recogniser → Result (Unit {0}) FileFault → Type 0
RecordNeedsRoom old result =
    (records : List (List ℕ)) → HasRecords old records →
    GivesUpKindAfter result (record_fault records old.part) (item_room old) (records ++ old.part ∷ [])

-- the byte is in a record, after this many of its bytes, or its fault is returned
abbrev pub TakesInRecord : (old new : Recogniser) → (count byte : ℕ) → Result (Unit {0}) FileFault → Type 0
TakesInRecord old new count byte result =
    (l : Layout) → HasRecords old l.records →
    HoldsOrTellsKind result (byte_fault l.records (take count old.part) byte)
    (HasLayout new (layout_after_move l byte (Put (take count old.part))))

-- memory runs out only for a good byte in a record that makes more items than there was room for
abbrev pub InRecordNeedsRoom : Recogniser → (count byte : ℕ) → Result (Unit {0}) FileFault → Type 0
InRecordNeedsRoom old count byte result =
    (l : Layout) → HasRecords old l.records →
    GivesUpKindAfter result (byte_fault l.records (take count old.part) byte) (item_room old)
    (layout_after_move l byte (Put (take count old.part))).records

-- the byte is at its place, or its fault is returned
abbrev pub TakesByte : (old new : Recogniser) → (byte : ℕ) → Result (Unit {0}) Fault → Type 0
TakesByte old new byte result =
    (l : Layout) (n : ℕ) → Has old l n →
    HoldsOrTells result (place_fault n l byte) (Has new (next_layout l byte) (n + 1))

-- memory runs out only for a good byte that makes more items than there was room for
abbrev pub ByteNeedsRoom : Recogniser → (byte : ℕ) → Result (Unit {0}) Fault → Type 0
ByteNeedsRoom old byte result =
    (l : Layout) (n : ℕ) → Has old l n →
    GivesUpAfter result (place_fault n l byte) (item_room old) (next_layout l byte).records

-- the piece is taken after those bytes, or the fault among them all is returned
abbrev pub TakesAfter : Recogniser → (seen piece : List ℕ) → Result (Unit {0}) Fault → Type 0
TakesAfter new seen piece result =
    MatchResult result (λ _. HasBytes new (seen ++ piece)) (λ f. Tells f (early_fault (seen ++ piece)))

-- the piece is taken after all earlier bytes, or the fault among them all is returned
abbrev pub TakesPiece : (old new : Recogniser) → (piece : List ℕ) → Result (Unit {0}) Fault → Type 0
TakesPiece old new piece result = (seen : List ℕ) → HasBytes old seen → TakesAfter new seen piece result

-- the returned number of bytes is taken, after all earlier ones, or the fault among them all is returned
abbrev pub TakesSome : (old new : Recogniser) → (bytes : List ℕ) → Result ℕ Fault → Type 0
TakesSome old new bytes result =
    (seen : List ℕ) → HasBytes old seen →
    MatchResult result (λ count. HasBytes new (seen ++ take count bytes))
    (λ f. Tells f (early_fault (seen ++ bytes)))

-- the text is taken, if a record may begin after all earlier bytes, or the fault among them all is returned
abbrev pub TakesWhole : (old new : Recogniser) → (text : List ℕ) → Result (Unit {0}) Fault → Type 0
TakesWhole old new text result =
    (seen : List ℕ) → MayBeginAfter seen → HasBytes old seen → TakesAfter new seen text result

-- memory runs out only for a good text there that makes more items than there was room for
abbrev pub WholeNeedsRoom : Recogniser → (text : List ℕ) → Result (Unit {0}) Fault → Type 0
WholeNeedsRoom old text result =
    (seen : List ℕ) → MayBeginAfter seen → HasBytes old seen →
    GivesUpAfter result (early_fault (seen ++ text)) (item_room old) (layout (seen ++ text)).records

-- the records are those of a file and these are its facts, or the fault at the end is returned
abbrev pub EndsAs : Layout → Result FileFacts Fault → Type 0
EndsAs l result =
    MatchResult result
    (λ facts. (end_fault l ≡ None) × (f : File) × (file_so_far l.records ≡ Closed f) × (facts ≡ facts_in f))
    (λ f. end_fault l ≡ Some f)

-- ---- a reader

-- the piece is read after those bytes without a fault, or the fault is returned and the reader has failed
abbrev pub ReadsPiece : Reader → (seen piece : List ℕ) → Result (Unit {0}) Fault → Type 0
ReadsPiece new seen piece result =
    MatchResult result (λ _. (early_fault (seen ++ piece) ≡ None) × HasRead new (seen ++ piece))
    (λ f. Tells f (early_fault (seen ++ piece)) × HasFailed new)

-- the bytes are a file and these are its facts, or their fault is returned
abbrev pub GivesFacts : (bytes : List ℕ) → Result FileFacts Fault → Type 0
GivesFacts bytes result = MatchResult result (λ facts. IsReadAs bytes facts) (λ f. fault bytes ≡ Some f)
