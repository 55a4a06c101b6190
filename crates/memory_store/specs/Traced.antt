-- The entries that traces name, among the lists in memory.
use Rattle.std.specs.Prelude.{◌≡◌, ℕ, Bool, List, map, find, reverse, Option, option_map, option_and_then, Vec}
use Rattle.std.specs.declared.alloc.Global.{Global}
use Rattle.desk_book.specs.OnIntake.{is_returned_in}
use Rattle.desk_book.specs.Standing.{row_under}
use Rattle.desk_book.specs.declared.named_entry.NamedEntry.{NamedEntry}
use Rattle.desk_history.specs.Resolve.{has_trace}
use Rattle.desk_history.specs.declared.sent_entry.SentEntry.{SentEntry}
use Rattle.memory_store.specs.Covers.{HasReferences}
use Rattle.memory_store.specs.Finds.{rows_for}
use Rattle.memory_store.specs.Indexed.{OfIndexed}
use Rattle.memory_store.specs.declared.list_store.KeptSubmission.{KeptSubmission}
use Rattle.memory_store.specs.declared.traced.Traced.{Traced}

-- whether the entry is returned
abbrev pub is_returned_among : List KeptSubmission → SentEntry → Bool
is_returned_among kept e = is_returned_in (row_under (rows_for kept e.company) e.reference) e.index

abbrev pub with_return_among : List KeptSubmission → SentEntry → NamedEntry
with_return_among kept e = record { entry = e; returned = is_returned_among kept e }

-- the youngest sent entry that has a trace, and whether it is returned; the oldest entry comes first
abbrev pub traced_among : (odfi : List ℕ) → (sent : List SentEntry) → List KeptSubmission → Option (List ℕ) → Option NamedEntry
traced_among odfi sent kept trace = option_map (with_return_among kept) (option_and_then (λ t. find (has_trace odfi t) (reverse sent)) trace)

-- ---- where the indexes of what is `Traced` find all sent entries, and each reference

-- this holds of the sent entries
abbrev pub OfTraced : Traced → (List SentEntry → Type 0) → Type 0
OfTraced t Holds = OfIndexed t.traces.now (λ sent. HasReferences t.kept.now t.references.now → Holds sent)

-- a trace names this
abbrev pub Names : Traced → (trace : Option (List ℕ)) → Option NamedEntry → Type 0
Names t trace named = OfTraced t (λ sent. named ≡ traced_among t.odfi sent t.kept.now trace)

-- each trace names one of these, in their order
abbrev pub NameEach : Traced → (traces : List (Option (List ℕ))) → Vec (Option NamedEntry) Global → Type 0
NameEach t traces named = OfTraced t (λ sent. named.items ≡ map (traced_among t.odfi sent t.kept.now) traces)
