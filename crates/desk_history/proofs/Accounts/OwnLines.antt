-- Whose lines are posted: those of registered companies and of suspense.
use Rattle.std.proofs.Common.{◌≡◌, ℕ, ◌≤◌, List, [], ◌∷◌, ◌++◌, Bool, true, false, Option, Some, None, Result, Ok, Err, refl, nat_lt, unwrap_or, zip, if◌then◌else◌}
use Rattle.std.specs.List.{flat_map, AllByRecursion}
use Rattle.std.proofs.lemmas.List.Elements.{All-from_recursion}
use Rattle.ach_files.specs.declared.facts.ItemFacts.{ItemFacts}
use Rattle.ach_files.specs.Facts.{FileFacts}
use Rattle.desk_accounts.specs.declared.account.Account.{Account}
use Rattle.desk_accounts.specs.declared.account.Account.TheVariants as accounts
use Rattle.desk_accounts.specs.declared.posting.Posting.{Posting}
use Rattle.desk_accounts.specs.Posting.{suspense_line}
use Rattle.desk_rules.specs.Size.{total_of}
use Rattle.desk_history.specs.declared.operations.SuspenseReason.{SuspenseReason}
use Rattle.desk_history.specs.declared.operations.SuspenseReason.TheVariants.{NoTrace, Differs, CodeOutside, AlreadyReturned}
use Rattle.desk_history.specs.declared.sent_entry.SentEntry.{SentEntry}
use Rattle.desk_history.specs.Words.{some_or, holds_or}
use Rattle.desk_history.specs.Part.{Event, DaySet, HolidaysSet, Registered, Limited, Asked, CutMade, Returned, Changed}
use Rattle.desk_history.specs.Message.{Message, Cut, Pair, is_accepted}
use Rattle.desk_history.specs.Sendings.{NumberedBatch, entries_in, batches}
use Rattle.desk_history.specs.Resolve.{◌>>=◌, has_trace, named_entry, agrees, event_of, is_return, ResolvedItem, resolve, is_repeated_return, item_event, resolution, resolutions}
use Rattle.desk_history.specs.History.{companies, part, sent_entries, day}
use Rattle.desk_history.specs.Files.{cut_sendings}
use Rattle.desk_history.specs.Intake.{new_file, resolutions_of}
use Rattle.desk_history.specs.Postings.{if_any, sending_line, event_line, is_debit_code, suspense_lines, item_line, intake_lines, cut_lines, own_lines}
use Rattle.desk_history.proofs.Acceptance.Growing.{found_holds}
use Rattle.desk_history.proofs.Basics.Each.{each-all, each-append, each-flat_map, each-weaker}
use Rattle.desk_history.proofs.Accounts.CompaniesOnce.{count_of, among_themselves, stays_registered}
use Rattle.desk_history.proofs.Traces.SentWith.{each-sending, each-sent_with, each-batches, each-of_company, sent_after-keeps}

-- ---- what is sent is of registered companies

abbrev pub IsRegistered : List Pair → List ℕ → Type 0
IsRegistered H c = 1 ≤ count_of c (companies H)

pub sends_registered : (odfi : List ℕ) (H : List Pair) → AllByRecursion (λ s. IsRegistered H s.company.id) (cut_sendings odfi H)
sends_registered odfi H =
    each-sending (λ s. IsRegistered H s.company.id) (part odfi H) (companies H)
    (each-weaker (λ k. IsRegistered H k.id) _ (λ k is. each-all _ (λ a _. is) _) (companies H) (among_themselves (companies H)))

pub sent_registered : (odfi : List ℕ) (H : List Pair) → AllByRecursion (λ e. IsRegistered H e.company) (sent_entries odfi H)
sent_registered odfi [] = tt
sent_registered odfi (x ∷ H) =
    each-weaker (λ e. IsRegistered H e.company) (λ e. IsRegistered (x ∷ H) e.company) (λ e is. stays_registered x H e.company is) (sent_entries odfi (x ∷ H))
    (sent_after-keeps (AllByRecursion (λ e. IsRegistered H e.company)) (is_accepted x.answer) x.message (sent_entries odfi H) (part odfi H) (companies H) (sent_registered odfi H)
    (λ _ _. each-sent_with (λ e. IsRegistered H e.company) (sent_entries odfi H) (cut_sendings odfi H) (sent_registered odfi H)
    (each-weaker (λ (b : NumberedBatch). IsRegistered H b.sending.company.id) _ (λ b is. each-of_company (IsRegistered H) b is) (batches (sent_entries odfi H) (cut_sendings odfi H))
    (each-batches (λ s. IsRegistered H s.company.id) (sent_entries odfi H) (cut_sendings odfi H) (sends_registered odfi H)))))

-- ---- what comes back is of an entry that was sent

-- a fact about an item's entry, if it has one
abbrev OfEntry : (SentEntry → Type 0) → Result ResolvedItem SuspenseReason → Type 0
OfEntry P (Ok x) = P x.entry
OfEntry P (Err why) = Unit {0}

of_named : (P : SentEntry → Type 0) (item : ItemFacts) (o : Option SentEntry) → ((e : SentEntry) → o ≡ Some e → P e)
    → OfEntry P (some_or NoTrace o >>= (λ e. holds_or Differs (agrees e item) >>= (λ _. some_or CodeOutside (event_of e item) >>= (λ event. Ok (record { entry = e; event = event })))))
of_named P item None h = tt
of_named P item (Some e) h = at (agrees e item) (event_of e item) where
  at : (t : Bool) (event : Option Event) → OfEntry P (holds_or Differs t >>= (λ _. some_or CodeOutside event >>= (λ event. Ok (record { entry = e; event = event }))))
  at true (Some event) = h e refl
  at true None = tt
  at false event = tt

of_resolved : (P : SentEntry → Type 0) (odfi : List ℕ) (sent_entries : List SentEntry) (item : ItemFacts) → AllByRecursion P sent_entries → OfEntry P (resolve odfi sent_entries item)
of_resolved P odfi sent_entries item h = of_named P item (named_entry odfi sent_entries item) (λ e. found_holds P (has_trace odfi item.original_trace) sent_entries e (All-from_recursion P sent_entries h))

of_outcome : (P : SentEntry → Type 0) (parts : List ℕ → List Event) (r : Result ResolvedItem SuspenseReason) → OfEntry P r → OfEntry P (resolution parts r)
of_outcome P parts (Err why) h = tt
of_outcome P parts (Ok x) h = elim (is_repeated_return (parts x.entry.company) x.event) as (λ b. OfEntry P (if b then Err AlreadyReturned else Ok x)) [ true ↦ tt | false ↦ h ]

of_outcomes : (P : SentEntry → Type 0) (odfi : List ℕ) (sent_entries : List SentEntry) (parts : List ℕ → List Event) (items : List ItemFacts)
    → AllByRecursion P sent_entries → AllByRecursion (OfEntry P) (resolutions odfi sent_entries parts items)
of_outcomes P odfi sent_entries parts [] h = tt
of_outcomes P odfi sent_entries parts (item ∷ items) h = (
  of_outcome P parts (resolve odfi sent_entries item) (of_resolved P odfi sent_entries item h),
  of_outcomes P odfi sent_entries (λ c. item_event c (parts c) (resolve odfi sent_entries item) ++ parts c) items h,
)

-- ---- the accounts of lines

module _ (P : Account → Type 0) where
  abbrev OfAccount : Posting → Type 0
  OfAccount line = P line.account

  any_line : (cents : ℕ) (line : Posting) → OfAccount line → AllByRecursion OfAccount (if_any cents line)
  any_line cents line h = elim (nat_lt 0 cents) as (λ b. AllByRecursion OfAccount (if b then line ∷ [] else [])) [ true ↦ (h, tt) | false ↦ tt ]

  came_line : (d : ℕ) (e : SentEntry) (event : Event) → P (accounts.Company e.company) → AllByRecursion OfAccount (event_line d e event)
  came_line d e (Returned reference index code information) h = any_line e.entry.cents _ h
  came_line d e (DaySet on) h = tt
  came_line d e (HolidaysSet days) h = tt
  came_line d e (Registered name digest limits) h = tt
  came_line d e (Limited limits) h = tt
  came_line d e (Asked r) h = tt
  came_line d e CutMade h = tt
  came_line d e (Changed reference index code text) h = tt

  open_line : P accounts.Suspense → (d : ℕ) (item : ItemFacts) → AllByRecursion OfAccount (suspense_lines d item)
  open_line h d item =
      let line = suspense_line (is_debit_code item.transaction_code) item.cents d in
      elim (is_return item) as (λ b. AllByRecursion OfAccount (if b then if_any item.cents line else [])) [ true ↦ any_line item.cents line h | false ↦ tt ]

  came_lines : P accounts.Suspense → (d : ℕ) (items : List ItemFacts) (os : List (Result ResolvedItem SuspenseReason)) → AllByRecursion (OfEntry (λ e. P (accounts.Company e.company))) os
      → AllByRecursion OfAccount (flat_map (λ x. item_line d x.0 x.1) (zip items os))
  came_lines s d [] [] h = tt
  came_lines s d [] (o ∷ os) h = tt
  came_lines s d (item ∷ items) [] h = tt
  came_lines s d (item ∷ items) (Ok x ∷ os) h =
      each-append OfAccount (event_line d x.entry x.event) _ (came_line d x.entry x.event h.0) (came_lines s d items os h.1)
  came_lines s d (item ∷ items) (Err why ∷ os) h =
      each-append OfAccount (suspense_lines d item) _ (open_line s d item) (came_lines s d items os h.1)

  intake_of_accounts : P accounts.Suspense → (odfi : List ℕ) (H : List Pair) (f : Option FileFacts) → AllByRecursion (λ e. P (accounts.Company e.company)) (sent_entries odfi H)
      → AllByRecursion OfAccount (intake_lines odfi H f)
  intake_of_accounts s odfi H None h = tt
  intake_of_accounts s odfi H (Some f) h =
      came_lines s (unwrap_or (day H) 0) f.items (resolutions_of odfi H f.items) (of_outcomes (λ e. P (accounts.Company e.company)) odfi (sent_entries odfi H) (part odfi H) f.items h)

  cut_of_accounts : (odfi : List ℕ) (H : List Pair) (ok : Bool) (m : Message) → AllByRecursion (λ s. P (accounts.Company s.company.id)) (cut_sendings odfi H)
      → AllByRecursion OfAccount (cut_lines odfi H ok m)
  cut_of_accounts odfi H true Cut h =
      each-flat_map OfAccount sending_line (cut_sendings odfi H) (each-weaker (λ s. P (accounts.Company s.company.id)) _ (λ s is. any_line (total_of (entries_in s)) _ is) (cut_sendings odfi H) h)
  cut_of_accounts odfi H false m h = tt
  cut_of_accounts odfi H true m h = tt

-- each own line is of suspense or of a registered company
module _ (P : List Pair → Account → Type 0) (stays : (x : Pair) (H : List Pair) (a : Account) → P H a → P (x ∷ H) a)
    (suspense : (H : List Pair) → P H accounts.Suspense) (company : (H : List Pair) (c : List ℕ) → IsRegistered H c → P H (accounts.Company c)) where
  pub own_accounts : (odfi : List ℕ) (H : List Pair) → AllByRecursion (λ line. P H line.account) (own_lines odfi H)
  own_accounts odfi [] = tt
  own_accounts odfi (x ∷ H) =
      let now : AllByRecursion (λ (line : Posting). P H line.account) (own_lines odfi (x ∷ H)) =
      each-append (OfAccount (P H)) (own_lines odfi H) _ (own_accounts odfi H)
      (each-append (OfAccount (P H)) (cut_lines odfi H (is_accepted x.answer) x.message) _
      (cut_of_accounts (P H) odfi H (is_accepted x.answer) x.message (each-weaker (λ s. IsRegistered H s.company.id) _ (λ s is. company H s.company.id is) (cut_sendings odfi H) (sends_registered odfi H)))
      (intake_of_accounts (P H) (suspense H) odfi H (new_file H x) (each-weaker (λ e. IsRegistered H e.company) _ (λ e is. company H e.company is) (sent_entries odfi H) (sent_registered odfi H)))) in
      each-weaker (λ line. P H line.account) (λ line. P (x ∷ H) line.account) (λ line is. stays x H line.account is) (own_lines odfi (x ∷ H)) now
