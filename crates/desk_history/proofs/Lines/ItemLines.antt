-- The postings of a file's items to a company's account.
use Rattle.std.proofs.Common.{◌≡◌, ℕ, List, [], ◌∷◌, ◌++◌, map, Bool, true, false, not, cond, ◌&&◌, refl, sym, ap, ◌∙◌, append_assoc, inl, inr, if◌then◌else◌, nat_lt, Option, Some, bytes_eq, zip, Result, Ok, Err}
use Rattle.std.specs.List.{flat_map}
use Rattle.std.proofs.lemmas.Bool.{cases_Bool}
use Rattle.std.proofs.lemmas.List.{append-nil, map-append}
use Rattle.std.proofs.lemmas.List.Elements.{filter-append}
use Rattle.std.proofs.lemmas.Slice.Eq.{bytes_eq-Decides}
use Rattle.ach_files.specs.declared.facts.ItemFacts.{ItemFacts}
use Rattle.desk_accounts.specs.declared.account.Account.TheVariants as accounts
use Rattle.desk_accounts.specs.declared.posting.Cause.TheVariants as causes
use Rattle.desk_accounts.specs.declared.posting.Posting.{Posting}
use Rattle.desk_accounts.specs.Balance.{lines_of}
use Rattle.desk_accounts.specs.Posting as posting
use Rattle.desk_accounts.specs.Posting.{same_account, return_cents}
use Rattle.desk_rules.specs.declared.bodies.submission.Entry.{Entry}
use Rattle.desk_history.specs.declared.operations.SuspenseReason.{SuspenseReason}
use Rattle.desk_history.specs.declared.operations.SuspenseReason.TheVariants.{AlreadyReturned}
use Rattle.desk_history.specs.declared.sent_entry.SentEntry.{SentEntry}
use Rattle.desk_history.specs.Part.{Event, today}
use Rattle.desk_history.specs.Accepted.{AcceptedSubmission}
use Rattle.desk_history.specs.Acceptance.{submissions}
use Rattle.desk_history.specs.Reports.{return_line, entry_line, submission_line, submission_under, lines}
use Rattle.desk_history.specs.Resolve.{ResolvedItem, event_of, is_return, resolve, is_repeated_return, item_event, item_events, resolution, resolutions}
use Rattle.desk_history.specs.Postings.{if_any, event_line, suspense_lines, is_debit_code, item_line}
use Rattle.desk_history.specs.PostingLaws.{posting_of}
use Rattle.desk_history.specs.SentLaws.{IsEntryOf}
use Rattle.desk_history.proofs.Acceptance.Growing.{found_reference}
use Rattle.desk_history.proofs.Sent.Resolving.{meets, event_holds, items_keep}
use Rattle.desk_history.proofs.Sent.PartsPossible.{AreEntriesOf, entries_kept, names_entry}

-- the lines of a company's account
abbrev own : List ℕ → List Posting → List Posting
own c ls = lines_of (accounts.Company c) ls

-- an item in suspense belongs to no company
none_suspended : (c : List ℕ) (d : ℕ) (item : ItemFacts) → own c (suspense_lines d item) ≡ []
none_suspended c d item =
    elim (is_return item) as (λ b. own c (if b then if_any item.cents (posting.suspense_line (is_debit_code item.transaction_code) item.cents d) else []) ≡ []) [
      | true ↦ elim (nat_lt 0 item.cents) as (λ b. own c (if b then posting.suspense_line (is_debit_code item.transaction_code) item.cents d ∷ [] else []) ≡ []) [ true ↦ refl | false ↦ refl ]
      | false ↦ refl
    ]

-- what is another company's is not this one's
none_of_others : (c : List ℕ) (d : ℕ) (e : SentEntry) (item : ItemFacts) (event : Event) → event_of e item ≡ Some event → bytes_eq e.company c ≡ false → own c (event_line d e event) ≡ []
none_of_others c d e item event gives differ =
    event_holds (λ x. own c (event_line d e x) ≡ []) e item event gives
    (λ code information within. by (nat_lt 0 e.entry.cents))
    (λ code text. refl)
  where
    by : (b : Bool) → own c (if b then posting.return_line e.company e.debit e.entry.cents d e.reference e.index ∷ [] else []) ≡ []
    by true = ap (λ (b : Bool). cond b (posting.return_line e.company e.debit e.entry.cents d e.reference e.index ∷ []) []) differ
    by false = refl

-- the line of a returned entry is that of the statement
returned_line : (c : List ℕ) (P : List Event) (d : ℕ) (e : SentEntry) → bytes_eq e.company c ≡ true → today P ≡ d → IsEntryOf P e
    → own c (if_any e.entry.cents (posting.return_line e.company e.debit e.entry.cents d e.reference e.index))
    ≡ map (posting_of c) (submission_line P e.index (submission_under P e.reference))
returned_line c P d e same days is =
    by (nat_lt 0 e.entry.cents)
    ∙ ap (λ (o : Option Entry). map (posting_of c) (entry_line P e.index is.accepted o)) (sym is.at)
    ∙ ap (λ (o : Option AcceptedSubmission). map (posting_of c) (submission_line P e.index o)) (sym is.called)
  where
    company : e.company ≡ c
    company = (bytes_eq-Decides e.company c).0 same

    reference : is.accepted.content.reference ≡ e.reference
    reference = found_reference (submissions P) e.reference is.accepted is.called

    one : posting.return_line e.company e.debit e.entry.cents d e.reference e.index ≡ posting_of c (return_line P e.index is.accepted e.entry)
    one = λ i. record {
      account = accounts.Company (company i);
      value_day = sym days i;
      cents = return_cents (is.debit i) e.entry.cents;
      cause = causes.Return;
      reference = Some (sym reference i);
      idx = e.index;
    }

    by : (b : Bool) → own c (if b then posting.return_line e.company e.debit e.entry.cents d e.reference e.index ∷ [] else []) ≡ map (posting_of c) (if b then return_line P e.index is.accepted e.entry ∷ [] else [])
    by true = ap (λ (b : Bool). cond b (posting.return_line e.company e.debit e.entry.cents d e.reference e.index ∷ []) []) same ∙ ap (λ (p : Posting). p ∷ []) one
    by false = refl

own_event : (c : List ℕ) (P : List Event) (d : ℕ) (e : SentEntry) (item : ItemFacts) (event : Event) → event_of e item ≡ Some event → bytes_eq e.company c ≡ true → today P ≡ d → IsEntryOf P e
    → map (posting_of c) (lines P) ++ own c (event_line d e event) ≡ map (posting_of c) (lines (event ∷ P))
own_event c P d e item event gives same days is =
    event_holds (λ x. map (posting_of c) (lines P) ++ own c (event_line d e x) ≡ map (posting_of c) (lines (x ∷ P))) e item event gives
    (λ code information within.
    ap (λ (r : List Posting). map (posting_of c) (lines P) ++ r) (returned_line c P d e same days is)
    ∙ sym (map-append (posting_of c) (lines P) (submission_line P e.index (submission_under P e.reference))))
    (λ code text. append-nil (map (posting_of c) (lines P)))

-- ---- an item

-- the line of an item is one of the company's where the item gives it the event
own_item : (c : List ℕ) (parts : List ℕ → List Event) (d : ℕ) (odfi : List ℕ) (es : List SentEntry) (item : ItemFacts)
    → today (parts c) ≡ d → AreEntriesOf c (parts c) es
    → map (posting_of c) (lines (parts c)) ++ own c (item_line d item (resolution parts (resolve odfi es item)))
    ≡ map (posting_of c) (lines (item_event c (parts c) (resolve odfi es item) ++ parts c))
own_item c parts d odfi es item days all = by (resolve odfi es item) refl where
  none : (ls : List Posting) → own c ls ≡ [] → map (posting_of c) (lines (parts c)) ++ own c ls ≡ map (posting_of c) (lines (parts c))
  none ls h = ap (λ (r : List Posting). map (posting_of c) (lines (parts c)) ++ r) h ∙ append-nil (map (posting_of c) (lines (parts c)))

  own_first : (x : ResolvedItem) → resolve odfi es item ≡ Ok x → bytes_eq x.entry.company c ≡ true → (b : Bool) → is_repeated_return (parts c) x.event ≡ b
      → map (posting_of c) (lines (parts c)) ++ own c (item_line d item (if b then Err AlreadyReturned else Ok x))
      ≡ map (posting_of c) (lines ((if true && not b then x.event ∷ [] else []) ++ parts c))
  own_first x is same true again = none (suspense_lines d item) (none_suspended c d item)
  own_first x is same false first =
      let meeting = meets odfi es item x is in
      own_event c (parts c) d x.entry item x.event meeting.gives same days
      (names_entry c (parts c) odfi es item x (record { meeting = meeting; own = same; first = first }) all)

  other : (x : ResolvedItem) → resolve odfi es item ≡ Ok x → bytes_eq x.entry.company c ≡ false → (b : Bool) → own c (item_line d item (if b then Err AlreadyReturned else Ok x)) ≡ []
  other x is differ true = none_suspended c d item
  other x is differ false = none_of_others c d x.entry item x.event (meets odfi es item x is).gives differ

  by : (r : Result ResolvedItem SuspenseReason) → resolve odfi es item ≡ r
      → map (posting_of c) (lines (parts c)) ++ own c (item_line d item (resolution parts r)) ≡ map (posting_of c) (lines (item_event c (parts c) r ++ parts c))
  by (Err why) is = none (suspense_lines d item) (none_suspended c d item)
  by (Ok x) is = elim (cases_Bool (bytes_eq x.entry.company c)) [
    | inl same ↦
        let company : x.entry.company ≡ c = (bytes_eq-Decides x.entry.company c).0 same in
        ap (λ (k : List ℕ). map (posting_of c) (lines (parts c)) ++ own c (item_line d item (if is_repeated_return (parts k) x.event then Err AlreadyReturned else Ok x))) company
        ∙ own_first x is same (is_repeated_return (parts c) x.event) refl
        ∙ ap (λ (b : Bool). map (posting_of c) (lines ((if b && not (is_repeated_return (parts c) x.event) then x.event ∷ [] else []) ++ parts c))) (sym same)
    | inr differ ↦
        none (item_line d item (resolution parts (Ok x))) (other x is differ (is_repeated_return (parts x.entry.company) x.event))
        ∙ ap (λ (b : Bool). map (posting_of c) (lines ((if b && not (is_repeated_return (parts c) x.event) then x.event ∷ [] else []) ++ parts c))) (sym differ)
  ]

-- ---- all items of a file

pub own_items : (c : List ℕ) (d : ℕ) (odfi : List ℕ) (es : List SentEntry) (items : List ItemFacts) (parts : List ℕ → List Event)
    → today (parts c) ≡ d → AreEntriesOf c (parts c) es
    → map (posting_of c) (lines (parts c)) ++ own c (flat_map (λ x. item_line d x.0 x.1) (zip items (resolutions odfi es parts items)))
    ≡ map (posting_of c) (lines (item_events odfi es c items (parts c) ++ parts c))
own_items c d odfi es [] parts days all = append-nil (map (posting_of c) (lines (parts c)))
own_items c d odfi es (item ∷ items) parts days all =
    let r = resolve odfi es item in
    let next : List ℕ → List Event = λ k. item_event k (parts k) r ++ parts k in
    let first = item_line d item (resolution parts r) in
    let rest = flat_map (λ x. item_line d x.0 x.1) (zip items (resolutions odfi es next items)) in
    ap (λ (ls : List Posting). map (posting_of c) (lines (parts c)) ++ ls) (filter-append (λ line. same_account line.account (accounts.Company c)) first rest)
    ∙ sym (append_assoc (map (posting_of c) (lines (parts c))) (own c first) (own c rest))
    ∙ ap (λ (ls : List Posting). ls ++ own c rest) (own_item c parts d odfi es item days all)
    ∙ own_items c d odfi es items next
    (items_keep today (λ _ _ _ _ _. refl) (λ _ _ _ _ _. refl) odfi es c (item ∷ []) (parts c) ∙ days)
    (entries_kept (item_event c (parts c) r) c (parts c) es all)
    ∙ ap (λ (Q : List Event). map (posting_of c) (lines Q)) (sym (append_assoc (item_events odfi es c items (next c)) (item_event c (parts c) r) (parts c)))
