-- The entry that an item of an incoming file names, and the event that it gives.
use Rattle.std.specs.Prelude.{ℕ, ◌+◌, ◌*◌, ◌-◌, Bool, true, false, not, ◌&&◌, ◌==◌, nat_le, if◌then◌else◌, List, [], ◌∷◌, ◌++◌, take, find, Option, Some, None, option_map, Result, Ok, Err, bytes_eq, codes}
use Rattle.ach_fields.specs.Characters.{is_digit}
use Rattle.ach_fields.specs.Routing.{dfi_of}
use Rattle.ach_fields.specs.Trace.{trace_text}
use Rattle.ach_files.specs.declared.facts.ItemFacts.{ItemFacts}
use Rattle.ach_files.specs.declared.facts.ReturnOrChange.{ReturnOrChange}
use Rattle.ach_files.specs.declared.facts.ReturnOrChange.TheVariants as kinds
use Rattle.desk_rules.specs.declared.bodies.submission.AccountKind.{AccountKind}
use Rattle.desk_rules.specs.declared.bodies.submission.AccountKind.TheVariants.{Checking, Savings}
use Rattle.desk_rules.specs.ReturnCodes.{code_of}
use Rattle.desk_rules.specs.Fields.{sec_text}
use Rattle.desk_history.specs.declared.operations.SuspenseReason.{SuspenseReason}
use Rattle.desk_history.specs.declared.operations.SuspenseReason.TheVariants.{NoTrace, Differs, CodeOutside, AlreadyReturned}
use Rattle.desk_history.specs.Words.{some_or, holds_or}
use Rattle.desk_history.specs.Part.{Event, Returned, Changed}
use Rattle.desk_history.specs.State.{is_returned}
use Rattle.desk_history.specs.declared.sent_entry.SentEntry.{SentEntry}

infixl 10 ◌>>=◌
-- the first reason against an item, or the outcome of the value
abbrev pub ◌>>=◌ : {A B : Type 0} → Result A SuspenseReason → (A → Result B SuspenseReason) → Result B SuspenseReason
Ok x >>= f = f x
Err why >>= f = Err why

-- the trace of an entry: the eight digits of the originating bank, and its sequence in seven
abbrev pub has_trace : (odfi : List ℕ) → (trace : List ℕ) → SentEntry → Bool
has_trace odfi trace e = bytes_eq (trace_text (dfi_of odfi) e.sequence) trace

-- the youngest entry that has the item's original trace; sent entries are listed with the newest first
abbrev pub named_entry : List ℕ → List SentEntry → ItemFacts → Option SentEntry
named_entry odfi sent item = find (has_trace odfi item.original_trace) sent

abbrev pub is_return : ItemFacts → Bool
is_return item = is_a_return item.return_or_change where
  is_a_return : ReturnOrChange → Bool
  is_a_return (kinds.Return information) = true
  is_a_return (kinds.Change corrected) = false

abbrev pub is_savings : AccountKind → Bool
is_savings Checking = false
is_savings Savings = true

-- the transaction code of a return or change: 21 or 26 for checking, 31 or 36 for savings
abbrev pub returned_transaction : SentEntry → ℕ
returned_transaction e = (if is_savings e.entry.kind then 31 else 21) + (if e.debit then 5 else 0)

-- the receiving bank: the first eight digits of the entry's routing number
abbrev pub receiving_dfi : SentEntry → List ℕ
receiving_dfi e = take 8 e.entry.routing

-- a return has the entry's SEC code and amount, a change `COR`; both have its transaction code and receiving bank
abbrev pub agrees : SentEntry → ItemFacts → Bool
agrees e item =
    bytes_eq item.sec_code (if is_return item then sec_text e.sec else codes "COR")
    && item.transaction_code == returned_transaction e
    && bytes_eq item.original_dfi (receiving_dfi e)
    && (if is_return item then item.cents == e.entry.cents else true)

-- C01 to C14
abbrev pub is_change_code : List ℕ → Bool
is_change_code (c ∷ tens ∷ ones ∷ []) =
    c == 67 && is_digit tens && is_digit ones && nat_le 1 (10 * (tens - 48) + (ones - 48)) && nat_le (10 * (tens - 48) + (ones - 48)) 14
is_change_code _ = false

-- the event for the entry's company, if the code is one of R01 to R29, or of C01 to C14
abbrev pub event_of : SentEntry → ItemFacts → Option Event
event_of e item = event_from item.return_or_change where
  event_from : ReturnOrChange → Option Event
  event_from (kinds.Return information) = option_map (λ code. Returned e.reference e.index code information) (code_of item.code)
  event_from (kinds.Change corrected) = if is_change_code item.code then Some (Changed e.reference e.index item.code corrected) else None

-- an item that meets its entry
pub record ResolvedItem : Type 0 where
  pub entry : SentEntry
  pub event : Event

-- the entry that an item names and its event, or the first reason against them
abbrev pub resolve_entry : Option SentEntry → ItemFacts → Result ResolvedItem SuspenseReason
resolve_entry named item = do
  e ← some_or NoTrace named
  _ ← holds_or Differs (agrees e item)
  event ← some_or CodeOutside (event_of e item)
  Ok (record { entry = e; event = event })

abbrev pub resolve : List ℕ → List SentEntry → ItemFacts → Result ResolvedItem SuspenseReason
resolve odfi sent item = resolve_entry (named_entry odfi sent item) item

-- the return of an entry that an earlier return names already
abbrev pub is_repeated_return : List Event → Event → Bool
is_repeated_return P (Returned reference index code information) = is_returned P reference index
is_repeated_return P _ = false

-- the event that an item gives to a company with this part
abbrev pub item_event : List ℕ → List Event → Result ResolvedItem SuspenseReason → List Event
item_event c P (Err why) = []
item_event c P (Ok x) = if bytes_eq x.entry.company c && not (is_repeated_return P x.event) then x.event ∷ [] else []

-- and those that items give, in order, the newest first
abbrev pub item_events : (odfi : List ℕ) → List SentEntry → (company : List ℕ) → List ItemFacts → List Event → List Event
item_events odfi sent c [] P = []
item_events odfi sent c (item ∷ items) P =
    let event = item_event c P (resolve odfi sent item) in
    item_events odfi sent c items (event ++ P) ++ event

-- the resolution of an item where these are the parts: its event, or why it gives none
abbrev pub resolution : (List ℕ → List Event) → Result ResolvedItem SuspenseReason → Result ResolvedItem SuspenseReason
resolution parts (Err why) = Err why
resolution parts (Ok x) = if is_repeated_return (parts x.entry.company) x.event then Err AlreadyReturned else Ok x

-- the resolution of each item, in order
abbrev pub resolutions : List ℕ → List SentEntry → (List ℕ → List Event) → List ItemFacts → List (Result ResolvedItem SuspenseReason)
resolutions odfi sent parts [] = []
resolutions odfi sent parts (item ∷ items) =
    resolution parts (resolve odfi sent item) ∷ resolutions odfi sent (λ c. item_event c (parts c) (resolve odfi sent item) ++ parts c) items
