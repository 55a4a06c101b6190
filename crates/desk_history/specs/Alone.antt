-- The history of a desk that serves one company alone.
use Rattle.std.specs.Prelude.{◌≡◌, ◌<◌, ◌≤◌, ◌^◌, ◌⊎◌, All, ℕ, ◌+◌, Bool, true, false, ◌&&◌, ◌==◌, List, [], ◌∷◌, length, replicate, find, count_by, Option, None, option_map, option_to_list, Ok, bytes_eq, codes}
use Rattle.ach_fields.specs.Digits.{digits}
use Rattle.ach_fields.specs.Routing.{dfi_of}
use Rattle.ach_fields.specs.Trace.{trace_text}
use Rattle.ach_files.specs.declared.facts.ItemFacts.{ItemFacts}
use Rattle.ach_files.specs.declared.facts.ReturnOrChange.TheVariants as kinds
use Rattle.ach_files.specs.Facts.{FileFacts}
use Rattle.desk_rules.specs.ReturnCodes.{code_text}
use Rattle.desk_history.specs.declared.identity.Identity.{Identity}
use Rattle.desk_history.specs.Request.{Request}
use Rattle.desk_history.specs.Part.{Event, Returned, Changed}
use Rattle.desk_history.specs.Message.{Message, Of, TakeFile, Pair, is_accepted}
use Rattle.desk_history.specs.declared.sent_entry.SentEntry.{SentEntry}
use Rattle.desk_history.specs.Resolve.{returned_transaction, receiving_dfi}
use Rattle.desk_rules.specs.Fields.{sec_text}
use Rattle.desk_history.specs.History.{events_for, is_new, part, sent_entries}
use Rattle.desk_history.specs.Operator.{next_pair, answer_to, IsHistory}

-- a return or a change
abbrev pub is_answer : Event → Bool
is_answer (Returned reference index code information) = true
is_answer (Changed reference index code text) = true
is_answer _ = false

abbrev pub is_entry : (company : List ℕ) → (reference : List ℕ) → (index : ℕ) → SentEntry → Bool
is_entry c reference index e = bytes_eq e.company c && bytes_eq e.reference reference && e.index == index

-- an item that names the entry by the trace that it has there, and agrees with it
abbrev pub return_item : (odfi : List ℕ) → (code : ℕ) → (information : List ℕ) → SentEntry → ItemFacts
return_item odfi code information e = record {
  sec_code = sec_text e.sec;
  transaction_code = returned_transaction e;
  cents = e.entry.cents;
  code = code_text code;
  original_trace = trace_text (dfi_of odfi) e.sequence;
  original_dfi = receiving_dfi e;
  return_or_change = kinds.Return information;
}

abbrev pub change_item : (odfi : List ℕ) → (code : List ℕ) → (text : List ℕ) → SentEntry → ItemFacts
change_item odfi code text e = record {
  sec_code = codes "COR";
  transaction_code = returned_transaction e;
  cents = 0;
  code = code;
  original_trace = trace_text (dfi_of odfi) e.sequence;
  original_dfi = receiving_dfi e;
  return_or_change = kinds.Change text;
}

abbrev pub item_for : (odfi : List ℕ) → (company : List ℕ) → List SentEntry → Event → Option ItemFacts
item_for odfi c sent_entries (Returned reference index code information) = option_map (return_item odfi code information) (find (is_entry c reference index) sent_entries)
item_for odfi c sent_entries (Changed reference index code text) = option_map (change_item odfi code text) (find (is_entry c reference index) sent_entries)
item_for odfi c sent_entries _ = None

-- the file of one item; its key is the event's number among returns and changes, and no bytes are made
abbrev pub file_for : Identity → List ℕ → List Pair → Event → FileFacts
file_for identity c G e = record {
  key = digits 21 (count_by is_answer (part identity.odfi G c) + 1);
  digest = replicate 32 0;
  items = option_to_list (item_for identity.odfi c (sent_entries identity.odfi G) e);
}

-- the desk is given a file for each of these events, the newest first
abbrev pub with_files : Identity → List ℕ → List Event → List Pair → List Pair
with_files identity c [] G = G
with_files identity c (e ∷ es) G =
    let before = with_files identity c es G in
    next_pair identity before (TakeFile (Ok (file_for identity c before e))) ∷ before

-- the desk is given a message that gave events, or files in the place of a file
abbrev pub with_message : Identity → List ℕ → Message → List Event → List Pair → List Pair
with_message identity c m [] G = G
with_message identity c (TakeFile file) es G = with_files identity c es G
with_message identity c m (e ∷ es) G = next_pair identity G m ∷ G

-- A new desk is given the messages that gave the company's events, in their order, and nothing else.
abbrev pub alone : Identity → List ℕ → List Pair → List Pair
alone identity c [] = []
alone identity c (x ∷ H) =
    with_message identity c x.message
    (events_for identity.odfi (sent_entries identity.odfi H) (is_new H x.message) c (is_accepted x.answer) x.message (part identity.odfi H c))
    (alone identity c H)

abbrev pub IsOf : List ℕ → Message → Type 0
IsOf c (Of k r) = k ≡ c
IsOf c _ = ⊥

abbrev pub IsAcceptedOrOf : List ℕ → Pair → Type 0
IsAcceptedOrOf c x = (is_accepted x.answer ≡ true) ⊎ IsOf c x.message

-- The company is answered as by a desk that serves no one else.
pub record IsServedAlone (identity : Identity) (H : List Pair) (c : List ℕ) : Type 0 where
  pub history : IsHistory identity (alone identity c H)
  pub accepted : All (λ x. IsAcceptedOrOf c x) (alone identity c H)
  pub same_part : part identity.odfi (alone identity c H) c ≡ part identity.odfi H c
  pub same_answers : (r : Request) → answer_to identity (alone identity c H) (Of c r) ≡ answer_to identity H (Of c r)

-- so it is where the desk sent at most 9,999,999 entries and the company had fewer than 10^21 returns and changes
abbrev pub ServedAlone : Type 0
ServedAlone = (identity : Identity) (H : List Pair) (c : List ℕ) → IsHistory identity H
    → length (sent_entries identity.odfi H) ≤ 9_999_999 → count_by is_answer (part identity.odfi H c) < 10 ^ 21
    → IsServedAlone identity H c
