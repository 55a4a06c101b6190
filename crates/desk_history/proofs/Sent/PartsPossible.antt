-- A company's part returns and changes only entries that were sent, and each is returned once.
use Rattle.std.proofs.Common.{◌≡◌, ℕ, List, [], ◌∷◌, ◌++◌, Bool, true, false, sym, subst, append_assoc, All, Ok, Err, slice_index_or}
use Rattle.std.proofs.lemmas.Slice.Eq.{bytes_eq-Decides}
use Rattle.ach_files.specs.declared.facts.ItemFacts.{ItemFacts}
use Rattle.desk_history.specs.declared.sent_entry.SentEntry.{SentEntry}
use Rattle.desk_history.specs.Part.{Event, CutMade, Returned, Changed}
use Rattle.desk_history.specs.Message.{Message, Cut, TakeFile, Pair, is_accepted}
use Rattle.desk_history.specs.Resolve.{ResolvedItem, has_trace, resolve, is_repeated_return, item_event, item_events}
use Rattle.desk_history.specs.History.{events_for, is_new, part, sent_entries}
use Rattle.desk_history.specs.Possible.{IsSentEntry, IsPossibleNext, IsPossible, PossibleParts}
use Rattle.desk_history.specs.SentLaws.{IsEntryOf}
use Rattle.desk_history.proofs.Sent.Given.{IsQuiet, other_gives}
use Rattle.desk_history.proofs.Acceptance.Growing.{found_holds}
use Rattle.desk_history.proofs.Sent.Resolving.{Gives, event_holds, given_holds}
use Rattle.desk_history.proofs.Sent.SentEntries.{entry_kept, entries_of}

-- each of these that is the company's is an entry of an accepted submission in its part
abbrev pub AreEntriesOf : List ℕ → List Event → List SentEntry → Type 0
AreEntriesOf c P es = All (λ e. e.company ≡ c → IsEntryOf P e) es

pub entries_kept : (more : List Event) (c : List ℕ) (P : List Event) (es : List SentEntry) → AreEntriesOf c P es → AreEntriesOf c (more ++ P) es
entries_kept more c P es all = λ i d h own. entry_kept more P (slice_index_or es i d) (all i d h own)

pub sent_in_part : (odfi : List ℕ) (H : List Pair) (c : List ℕ) → AreEntriesOf c (part odfi H c) (sent_entries odfi H)
sent_in_part odfi H c = λ i d h own. subst (λ k. IsEntryOf (part odfi H k) (slice_index_or (sent_entries odfi H) i d)) own (entries_of odfi H i d h)

-- an item that gives the company an event names an entry in its part
pub names_entry : (c : List ℕ) (P : List Event) (odfi : List ℕ) (es : List SentEntry) (item : ItemFacts) (x : ResolvedItem) → Gives c P odfi es item x → AreEntriesOf c P es → IsEntryOf P x.entry
names_entry c P odfi es item x gives all =
    found_holds (λ e. e.company ≡ c → IsEntryOf P e) (has_trace odfi item.original_trace) es x.entry all gives.meeting.names ((bytes_eq-Decides x.entry.company c).0 gives.own)

is_sent : (P : List Event) (e : SentEntry) → IsEntryOf P e → IsSentEntry P e.reference e.index
is_sent P e h = record { accepted = h.accepted; entry = e.entry; on = e.settled; called = h.called; sent = h.settles; from = h.from; at = h.at }

possible_item : (odfi : List ℕ) (es : List SentEntry) (c : List ℕ) (item : ItemFacts) (P : List Event) → AreEntriesOf c P es → IsPossible P
    → IsPossible (item_event c P (resolve odfi es item) ++ P)
possible_item odfi es c item P all possible =
    given_holds (λ more. IsPossible (more ++ P)) c P odfi es item possible
    (λ x gives.
    let entry = is_sent P x.entry (names_entry c P odfi es item x gives all) in (
      event_holds (λ e. is_repeated_return P e ≡ false → IsPossibleNext P e) x.entry item x.event gives.meeting.gives
          (λ code information within first. record { of = entry; first = first; code_is = within })
          (λ code text first. entry)
          gives.first,
      possible,
    ))

possible_items : (odfi : List ℕ) (es : List SentEntry) (c : List ℕ) (items : List ItemFacts) (P : List Event) → AreEntriesOf c P es → IsPossible P
    → IsPossible (item_events odfi es c items P ++ P)
possible_items odfi es c [] P all possible = possible
possible_items odfi es c (item ∷ items) P all possible =
    let event = item_event c P (resolve odfi es item) in
    subst IsPossible (sym (append_assoc (item_events odfi es c items (event ++ P)) event P))
    (possible_items odfi es c items (event ++ P) (entries_kept event c P es all) (possible_item odfi es c item P all possible))

quiet_possible : (P : List Event) (e : Event) → IsQuiet e → IsPossibleNext P e
quiet_possible P CutMade quiet = absurd quiet
quiet_possible P (Returned reference index code information) quiet = absurd quiet
quiet_possible P (Changed reference index code text) quiet = absurd quiet
quiet_possible P e quiet = tt

possible_after : (odfi : List ℕ) (es : List SentEntry) (new : Bool) (c : List ℕ) (ok : Bool) (m : Message) (P : List Event) → AreEntriesOf c P es → IsPossible P
    → IsPossible (events_for odfi es new c ok m P ++ P)
possible_after odfi es new c true Cut P all possible = (tt, possible)
possible_after odfi es true c true (TakeFile (Ok f)) P all possible = possible_items odfi es c f.items P all possible
possible_after odfi es false c true (TakeFile (Ok f)) P all possible = possible
possible_after odfi es true c true (TakeFile (Err fault)) P all possible = possible
possible_after odfi es false c true (TakeFile (Err fault)) P all possible = possible
possible_after odfi es new c ok m P all possible =
    other_gives (λ more. IsPossible (more ++ P)) possible (λ e quiet. (quiet_possible P e quiet, possible)) odfi es new c ok m P tt

possible_part : (odfi : List ℕ) (H : List Pair) (c : List ℕ) → IsPossible (part odfi H c)
possible_part odfi [] c = tt
possible_part odfi (x ∷ H) c =
    possible_after odfi (sent_entries odfi H) (is_new H x.message) c (is_accepted x.answer) x.message (part odfi H c)
    (sent_in_part odfi H c) (possible_part odfi H c)

pub possible_parts : PossibleParts
possible_parts odfi H c = possible_part odfi H c
