-- Entries that a file returns or changes were sent.
use Rattle.std.proofs.Common.{◌≡◌, ℕ, Bool, true, false, cond, List, [], ◌∷◌, ◌++◌, map, refl, sym, subst}
use Rattle.std.specs.Prelude.{⊤, All, Contains, filter_map, Option, Some, None, Result, Ok, Err}
use Rattle.std.specs.List.{cons_option}
use Rattle.std.proofs.lemmas.List.Elements.{All-nil, All-cons, All-head, All-tail, All-contains_itself}
use Rattle.ach_files.specs.declared.facts.ItemFacts.{ItemFacts}
use Rattle.ach_files.specs.Facts.{FileFacts}
use Rattle.desk_history.specs.declared.operations.SuspenseReason.{SuspenseReason}
use Rattle.desk_history.specs.declared.operations.SuspenseReason.TheVariants.{AlreadyReturned}
use Rattle.desk_history.specs.declared.sent_entry.SentEntry.{SentEntry}
use Rattle.desk_history.specs.Resolve.{ResolvedItem, has_trace, named_entry, event_of, resolve, resolve_entry}
use Rattle.desk_history.proofs.Acceptance.Growing.{found_holds}
use Rattle.desk_history.proofs.Sent.Resolving.{meets, event_holds}
use Rattle.desk_book.specs.Book.{Book}
use Rattle.desk_book.specs.OnIntake.{is_repeated_return, unless_repeated, was_returned, named_entry_on, is_returned_on, entries_returned_by, resolution_after, resolutions_after, resolutions, returned_row_of, returned_row, changed_row_of, changed_row, intake_facts, intake_write}
use Rattle.desk_book.specs.Steps.{WasSent, commit_intake}
use Rattle.desk_book.specs.declared.flat_rows.ChangedRow.{ChangedRow}
use Rattle.desk_book.specs.declared.flat_rows.ReturnedRow.{ReturnedRow}
use Rattle.desk_book.proofs.IntakeOutcomes.{entry_named}

abbrev IfAny : {Y : Type 0} → (Y → Type 0) → Option Y → Type 0
IfAny Q None = ⊤
IfAny Q (Some y) = Q y

-- if each element has P, each result has Q
all_given : {X Y : Type 0} (P : X → Type 0) (Q : Y → Type 0) (f : X → Option Y) → ((x : X) → P x → IfAny Q (f x)) → (xs : List X) → All P xs → All Q (filter_map f xs)
all_given P Q f gives [] all = All-nil Q
all_given {Y = Y} P Q f gives (x ∷ xs) all = go (f x) (gives x (All-head P x xs all)) (all_given P Q f gives xs (All-tail P x xs all))
  where
    go : (o : Option Y) → IfAny Q o → All Q (filter_map f xs) → All Q (cons_option o (filter_map f xs))
    go None one more = more
    go (Some y) one more = All-cons Q y (filter_map f xs) one more

module _ (b : Book) where
  -- an item that meets an entry that was sent
  record MeetsSent (x : ResolvedItem) : Type 0 where
    item : ItemFacts
    sent : Contains b.sent x.entry
    gives : event_of x.entry item ≡ Some x.event

  abbrev MeetsIfAny : Result ResolvedItem SuspenseReason → Type 0
  MeetsIfAny (Err why) = ⊤
  MeetsIfAny (Ok x) = MeetsSent x

  resolved : (item : ItemFacts) → MeetsIfAny (resolve b.identity.odfi b.sent item)
  resolved item = go (resolve b.identity.odfi b.sent item) refl
    where
      go : (r : Result ResolvedItem SuspenseReason) → resolve b.identity.odfi b.sent item ≡ r → MeetsIfAny r
      go (Err why) is = tt
      go (Ok x) is =
          let met = meets b.identity.odfi b.sent item x is in
          record { item = item; sent = found_holds (Contains b.sent) (has_trace b.identity.odfi item.original_trace) b.sent x.entry (All-contains_itself b.sent) met.names; gives = met.gives }

  unrepeated : (earlier : List SentEntry) (before : Bool) (r : Result ResolvedItem SuspenseReason) → MeetsIfAny r → MeetsIfAny (unless_repeated earlier before r)
  unrepeated earlier before (Err why) h = tt
  unrepeated earlier before (Ok x) h = elim (is_repeated_return earlier before x) as (λ t. MeetsIfAny (cond t (Err AlreadyReturned) (Ok x))) [ true ↦ tt | false ↦ h ]

  resolved_after : (earlier : List SentEntry) (item : ItemFacts) → MeetsIfAny (resolution_after earlier item (named_entry_on b item))
  resolved_after earlier item =
      subst (λ found. MeetsIfAny (unless_repeated earlier (was_returned (named_entry_on b item)) (resolve_entry found item))) (sym (entry_named (is_returned_on b) (named_entry b.identity.odfi b.sent item)))
      (unrepeated earlier (was_returned (named_entry_on b item)) (resolve b.identity.odfi b.sent item) (resolved item))

  all_resolved : (earlier : List SentEntry) (items : List ItemFacts) → All MeetsIfAny (resolutions_after earlier (map (λ item. (item, named_entry_on b item)) items))
  all_resolved earlier [] = All-nil MeetsIfAny
  all_resolved earlier (item ∷ items) =
      let r = resolution_after earlier item (named_entry_on b item) in
      let later = entries_returned_by r ++ earlier in
      All-cons MeetsIfAny r (resolutions_after later (map (λ item. (item, named_entry_on b item)) items)) (resolved_after earlier item) (all_resolved later items)

  abbrev ReturnsSent : ReturnedRow → Type 0
  ReturnsSent r = WasSent b.sent r.company r.order r.row.reference

  return_sent : (holidays : List ℕ) (d : ℕ) (r : Result ResolvedItem SuspenseReason) → MeetsIfAny r → IfAny ReturnsSent (returned_row holidays d r)
  return_sent holidays d (Err why) h = tt
  return_sent holidays d (Ok x) h =
      event_holds (λ event. IfAny ReturnsSent (returned_row_of holidays d x.entry event)) x.entry h.item x.event h.gives
      (λ code information within. record { entry = x.entry; among = h.sent; names = (refl, refl, refl) })
      (λ code text. tt)

  abbrev ChangesSent : ChangedRow → Type 0
  ChangesSent c = WasSent b.sent c.company c.order c.row.reference

  change_sent : (d : ℕ) (r : Result ResolvedItem SuspenseReason) → MeetsIfAny r → IfAny ChangesSent (changed_row d r)
  change_sent d (Err why) h = tt
  change_sent d (Ok x) h =
      event_holds (λ event. IfAny ChangesSent (changed_row_of d x.entry event)) x.entry h.item x.event h.gives
      (λ code information within. tt)
      (λ code text. record { entry = x.entry; among = h.sent; names = (refl, refl, refl) })

pub intake_admits : (b : Book) (d : ℕ) (f : FileFacts) → (commit_intake (intake_write (intake_facts b d f))).Admits b
intake_admits b d f =
    let rs = resolutions (map (λ item. (item, named_entry_on b item)) f.items) in
    let all = all_resolved b [] f.items in
    record {
      returned = all_given (MeetsIfAny b) (ReturnsSent b) (returned_row b.holidays d) (return_sent b b.holidays d) rs all;
      changed = all_given (MeetsIfAny b) (ChangesSent b) (changed_row d) (change_sent b d) rs all;
    }
