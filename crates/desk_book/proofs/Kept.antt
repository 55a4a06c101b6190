-- The effect on the book of a message that is neither a cut nor a file.
use Rattle.std.proofs.Common.{◌≡◌, ℕ, List, [], ◌∷◌, ◌++◌, Bool, true, false, refl, ap}
use Rattle.std.specs.Prelude.{if◌then◌else◌, Option, None, find, option_map}
use Rattle.std.specs.List.{flat_map}
use Rattle.std.proofs.lemmas.List.{append-nil}
use Rattle.desk_accounts.specs.Laws.{pairs}
use Rattle.desk_rules.specs.declared.bodies.company.Company.{Company}
use Rattle.desk_history.specs.declared.answer.Answer.{Answer}
use Rattle.desk_history.specs.declared.identity.Identity.{Identity}
use Rattle.desk_book.specs.declared.row.Row.{Row}
use Rattle.desk_history.specs.declared.sent_entry.SentEntry.{SentEntry}
use Rattle.desk_history.specs.Part.{Event, CutMade, Returned, Changed}
use Rattle.desk_book.specs.Book.{Book, rows, book_of}
use Rattle.desk_history.specs.Files.{File, files, file_count, is_file, places_in_file, text_of, files_after}
use Rattle.desk_history.specs.History as history
use Rattle.desk_history.specs.History.{companies, events_for, is_new, part, sent_entries, sent_entries_after}
use Rattle.desk_history.specs.Intake.{file_in, has_key, with_taken_file, taken_files, suspense}
use Rattle.desk_history.specs.Message.{Message, Cut, TakeFile, Pair, is_accepted}
use Rattle.desk_history.specs.Postings.{cut_lines, own_lines}
use Rattle.desk_history.specs.Reports.{returns, changes}
use Rattle.desk_history.specs.Sendings.{NumberedBatch}
use Rattle.desk_history.proofs.Sent.Given.{IsQuiet, IsOther, other_gives}

-- a message and an answer
abbrev pub with_answer : Message → Answer → Pair
with_answer m a = record { message = m; answer = a }

-- ---- what other messages leave

sent_kept : (ok : Bool) (m : Message) (es : List SentEntry) (parts : List ℕ → List Event) (ks : List Company) → IsOther ok m → sent_entries_after ok m es parts ks ≡ es
sent_kept true Cut es parts ks other = absurd other
sent_kept ok m es parts ks other = refl

files_kept : (ok : Bool) (m : Message) (d : ℕ) (bs : List NumberedBatch) (before : List File) → IsOther ok m → files_after ok m d bs before ≡ before
files_kept true Cut d bs before other = absurd other
files_kept ok m d bs before other = refl

no_file : (ok : Bool) (m : Message) (H : List Pair) → IsOther ok m → (if ok then file_in H m else None) ≡ None
no_file true (TakeFile file) H other = absurd other
no_file true m H other = refl
no_file false m H other = refl

no_cut_lines : (odfi : List ℕ) (H : List Pair) (ok : Bool) (m : Message) → IsOther ok m → cut_lines odfi H ok m ≡ []
no_cut_lines odfi H true Cut other = absurd other
no_cut_lines odfi H ok m other = refl

own_kept : (odfi : List ℕ) (H : List Pair) (m : Message) (a : Answer) → IsOther (is_accepted a) m → own_lines odfi (with_answer m a ∷ H) ≡ own_lines odfi H
own_kept odfi H m a other =
    rw (no_cut_lines odfi H (is_accepted a) m other, no_file (is_accepted a) m H other) (append-nil (own_lines odfi H))

suspense_kept : (odfi : List ℕ) (H : List Pair) (m : Message) (a : Answer) → IsOther (is_accepted a) m → suspense odfi (with_answer m a ∷ H) ≡ suspense odfi H
suspense_kept odfi H m a other = rw (no_file (is_accepted a) m H other) (append-nil (suspense odfi H))

taken_kept : (odfi : List ℕ) (H : List Pair) (m : Message) (a : Answer) → IsOther (is_accepted a) m → taken_files odfi (with_answer m a ∷ H) ≡ taken_files odfi H
taken_kept odfi H m a other = ap (λ (f : Option _). with_taken_file odfi H f (taken_files odfi H)) (no_file (is_accepted a) m H other)

-- ---- what they leave to a company

quiet_returns : (P : List Event) (e : Event) → IsQuiet e → returns (e ∷ P) ≡ returns P
quiet_returns P CutMade quiet = absurd quiet
quiet_returns P (Returned reference index code information) quiet = absurd quiet
quiet_returns P (Changed reference index code text) quiet = absurd quiet
quiet_returns P e quiet = refl

quiet_changes : (P : List Event) (e : Event) → IsQuiet e → changes (e ∷ P) ≡ changes P
quiet_changes P CutMade quiet = absurd quiet
quiet_changes P (Returned reference index code information) quiet = absurd quiet
quiet_changes P (Changed reference index code text) quiet = absurd quiet
quiet_changes P e quiet = refl

returns_kept : (odfi : List ℕ) (H : List Pair) (m : Message) (a : Answer) → IsOther (is_accepted a) m → (c : List ℕ) → returns (part odfi (with_answer m a ∷ H) c) ≡ returns (part odfi H c)
returns_kept odfi H m a other c =
    other_gives (λ more. returns (more ++ part odfi H c) ≡ returns (part odfi H c)) refl (quiet_returns (part odfi H c))
    odfi (sent_entries odfi H) (is_new H m) c (is_accepted a) m (part odfi H c) other

changes_kept : (odfi : List ℕ) (H : List Pair) (m : Message) (a : Answer) → IsOther (is_accepted a) m → (c : List ℕ) → changes (part odfi (with_answer m a ∷ H) c) ≡ changes (part odfi H c)
changes_kept odfi H m a other c =
    other_gives (λ more. changes (more ++ part odfi H c) ≡ changes (part odfi H c)) refl (quiet_changes (part odfi H c))
    odfi (sent_entries odfi H) (is_new H m) c (is_accepted a) m (part odfi H c) other

-- ---- the book

-- with another desk day, other holidays and companies, and other submissions of the companies
abbrev pub renewed : Book → Option ℕ → List ℕ → List Company → (List ℕ → List Row) → Book
renewed b day holidays ks rows = record b { day = day; holidays = holidays; companies = ks; rows = rows }

pub kept : (identity : Identity) (key : List ℕ) (H : List Pair) (m : Message) (a : Answer) → IsOther (is_accepted a) m
    → book_of identity key (with_answer m a ∷ H) ≡ renewed (book_of identity key H)
    (history.day (with_answer m a ∷ H)) (history.holidays (with_answer m a ∷ H)) (companies (with_answer m a ∷ H))
    (λ c. rows (part identity.odfi (with_answer m a ∷ H) c))
kept identity key H m a other =
    let odfi = identity.odfi in
    let x : Pair = with_answer m a in
    let same_files = files_kept (is_accepted a) m _ _ (files odfi H) other in
    (λ i. record {
      identity = identity;
      operator_key = key;
      day = history.day (x ∷ H);
      holidays = history.holidays (x ∷ H);
      companies = companies (x ∷ H);
      rows = λ c. rows (part odfi (x ∷ H) c);
      returns = λ c. returns_kept odfi H m a other c i;
      changes = λ c. changes_kept odfi H m a other c i;
      postings = pairs (own_kept odfi H m a other i);
      sent = sent_kept (is_accepted a) m (sent_entries odfi H) (λ c. part odfi H c) (companies H) other i;
      suspense = suspense_kept odfi H m a other i;
      file = λ d modifier. option_map (text_of identity) (find (is_file d modifier) (same_files i));
      files_on = λ d. file_count d (same_files i);
      taken = λ k. find (has_key k) (taken_kept odfi H m a other i);
      printed = λ c order. flat_map (places_in_file c order) (same_files i);
    })
