-- The records of a file: a header, batches of items, a control, and fillers.
use Rattle.std.specs.Prelude.{ℕ, List, [], ◌∷◌, ◌++◌, replicate}
use Rattle.std.specs.List.{flat_map}

-- a 6 and its 7
pub record Item : Type 0 where
  pub entry : List ℕ
  pub addenda : List ℕ

pub record Batch : Type 0 where
  pub header : List ℕ
  pub items : List Item
  pub control : List ℕ

pub record File : Type 0 where
  pub header : List ℕ
  pub batches : List Batch
  pub control : List ℕ
  pub fillers : ℕ

unfoldable pub nines : List ℕ
nines = replicate 94 57

abbrev pub item_records : Item → List (List ℕ)
item_records i = i.entry ∷ i.addenda ∷ []

abbrev pub batch_records : Batch → List (List ℕ)
batch_records b = b.header ∷ flat_map item_records b.items ++ b.control ∷ []

-- the records through the 9
abbrev pub main_records : File → List (List ℕ)
main_records f = f.header ∷ flat_map batch_records f.batches ++ f.control ∷ []

abbrev pub records_of : File → List (List ℕ)
records_of f = main_records f ++ replicate f.fillers nines

-- the message of the digest: the records through the 9, without line ends
abbrev pub digest_message : File → List ℕ
digest_message f = flat_map (λ r. r) (main_records f)

-- the records with LF after each
abbrev pub file_text : File → List ℕ
file_text f = flat_map (λ r. r ++ 10 ∷ []) (records_of f)
