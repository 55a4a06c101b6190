-- The bytes that a reader has read.
use Rattle.std.specs.Prelude.{◌≡◌, ℕ, List, length, Option, Some, None, vec_capacity}
use Rattle.sha2.specs.Hashers.{Holds256}
use Rattle.ach_files.specs.declared.recogniser.Recogniser.{Recogniser}
use Rattle.ach_files.specs.declared.reader.Reader.{Reader}
use Rattle.ach_files.specs.SoFar.{file_so_far, facts_so_far, digest_message_so_far}
use Rattle.ach_files.specs.RecordFault.{stage_of}
use Rattle.ach_files.specs.Layout.{Layout, layout}
use Rattle.ach_files.specs.FirstFault.{early_fault}
use Rattle.ach_files.specs.ReaderState.{place_of}

-- it has taken these records
pub record HasRecords (r : Recogniser) (records : List (List ℕ)) : Type 0 where
  pub count : r.records ≡ length records
  pub stage : r.stage ≡ stage_of (file_so_far records)
  pub facts : r.facts.items ≡ facts_so_far (file_so_far records)
  pub digest : Holds256 r.hasher (digest_message_so_far (file_so_far records))

-- the records and the place of a layout
pub record HasLayout (r : Recogniser) (l : Layout) : Type 0 where
  pub place : place_of r.part r.position ≡ l.place
  pub records : HasRecords r l.records

-- it has taken n bytes, which are laid out so
pub record Has (r : Recogniser) (l : Layout) (n : ℕ) : Type 0 where
  pub taken : r.taken ≡ n
  pub layout : HasLayout r l

-- it has taken these bytes, and nothing is wrong with them so far
pub record HasBytes (r : Recogniser) (bytes : List ℕ) : Type 0 where
  pub has : Has r (layout bytes) (length bytes)
  pub fine : early_fault bytes ≡ None

-- the reader has taken these bytes and returned no fault
pub record HasRead (r : Reader) (bytes : List ℕ) : Type 0 where
  pub recogniser : Recogniser
  pub state : r.state ≡ Some recogniser
  pub has : HasBytes recogniser bytes

-- it has returned a fault, or has finished: each call returns Failed
abbrev pub HasFailed : Reader → Type 0
HasFailed r = r.state ≡ None

-- for how many items there is room without more memory
abbrev pub item_room : Recogniser → ℕ
item_room r = vec_capacity r.facts

abbrev pub state_room : Option Recogniser → ℕ
state_room (Some r) = item_room r
state_room None = 0

abbrev pub reader_room : Reader → ℕ
reader_room r = state_room r.state
