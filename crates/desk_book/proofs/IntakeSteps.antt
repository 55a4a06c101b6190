-- The effect of an incoming file on the book.
use Rattle.std.proofs.Common.{◌≡◌, ℕ, List, [], ◌∷◌, ◌++◌, map, Bool, true, false, ◌&&◌, refl, sym, ap, ◌∙◌, subst}
use Rattle.std.specs.Prelude.{if◌then◌else◌, fold, filter_map, zip, Option, Some, None, is_none, unwrap_or, find, Result, Ok, Err, bytes_eq}
use Rattle.std.specs.List.{enumerate_from, flat_map}
use Rattle.std.proofs.lemmas.List.{append-nil}
use Rattle.std.proofs.lemmas.List.Concat.{flat_map-append}
use Rattle.ach_files.specs.declared.fault.Fault.{Fault}
use Rattle.ach_files.specs.Facts.{FileFacts}
use Rattle.desk_accounts.specs.Laws.{pairs}
use Rattle.desk_accounts.specs.Posting.{with_opposite}
use Rattle.desk_rules.specs.declared.refusals.refusal.Refusal.TheVariants.{NoDay, FileKeyReused}
use Rattle.desk_history.specs.declared.answer.Answer.{Answer}
use Rattle.desk_history.specs.declared.answer.Answer.TheVariants as answers
use Rattle.desk_history.specs.declared.answer.CallRefusal.TheVariants.{Rule, BadFile}
use Rattle.desk_history.specs.declared.answer.Outcome.{Outcome}
use Rattle.desk_history.specs.declared.answer.Outcome.TheVariants as done
use Rattle.desk_history.specs.declared.identity.Identity.{Identity}
use Rattle.desk_history.specs.declared.operations.TakenFile.{TakenFile}
use Rattle.desk_history.specs.declared.operations.SuspenseReason.{SuspenseReason}
use Rattle.desk_book.specs.Book.{Book, rows, book_of}
use Rattle.desk_history.specs.History.{day, holidays, is_new_file, events_for, part, sent_entries}
use Rattle.desk_history.specs.Intake.{intake_of, suspense_row, suspense, suspense_of, taken_files, with_taken_file, taken_file, has_key}
use Rattle.desk_history.specs.Message.{TakeFile, Pair, is_accepted}
use Rattle.desk_history.specs.Operator.{next_pair}
use Rattle.desk_history.specs.Part.{Event}
use Rattle.desk_history.specs.Possible.{IsPossible, PossibleParts}
use Rattle.desk_history.specs.Postings.{own_lines, intake_lines, item_line}
use Rattle.desk_history.specs.Reports.{returns, changes}
use Rattle.desk_history.specs.Resolve.{ResolvedItem, item_events}
use Rattle.desk_book.specs.RowLaws.{RowSteps, VerdictsOnRows}
use Rattle.desk_history.specs.SentLaws.{SentAreAccepted}
use Rattle.desk_history.proofs.Lines.PartLimits.{same_day, same_holidays}
use Rattle.desk_history.proofs.Sent.PartsPossible.{sent_in_part}
use Rattle.desk_book.specs.declared.flat_rows.ChangedRow.{ChangedRow}
use Rattle.desk_book.specs.declared.flat_rows.ReturnedRow.{ReturnedRow}
use Rattle.desk_book.specs.Steps.{IntakeWrite, put_return, put_change, put_suspense, put_postings, put_taken_file, commit_intake}
use Rattle.desk_book.specs.BookLaws.{StepsOfMessages}
use Rattle.desk_book.specs.IntakeLaws.{TellsIntake}
use Rattle.desk_book.specs.OnIntake.{named_entry_on, resolutions, returned_row, changed_row, intake_facts, counts, intake_write, Taking, Again, Refused, taking_file, taking_on, taking_answer, with_taking, file_answer_on, file_after}
use Rattle.desk_book.proofs.IntakeAnswers.{outcomes_on_book, file_answered}
use Rattle.desk_book.proofs.IntakeItems.{IsBefore, StepsWith, items_step}
use Rattle.desk_book.proofs.IntakeRowsOnBook.{rows_back, with_return, with_change, rows_steps, returns_steps, changes_steps}
use Rattle.desk_book.proofs.Kept.{with_answer}
use Rattle.desk_history.proofs.Repeated.TakenFiles.{found_with, new_where_none_taken}

-- ---- the write, look-up by look-up

returns_put : (xs : List ReturnedRow) (b : Book)
    → fold put_return b xs ≡ record b { rows = λ c. fold (rows_back c) (b.rows c) xs; returns = λ c. fold (with_return c) (b.returns c) xs }
returns_put [] b = refl
returns_put (x ∷ xs) b = returns_put xs (put_return b x)

changes_put : (xs : List ChangedRow) (b : Book) → fold put_change b xs ≡ record b { changes = λ c. fold (with_change c) (b.changes c) xs }
changes_put [] b = refl
changes_put (x ∷ xs) b = changes_put xs (put_change b x)

written : (x : IntakeWrite) (b : Book) → (commit_intake x).after b ≡ record b {
  rows = λ c. fold (rows_back c) (b.rows c) x.returned;
  returns = λ c. fold (with_return c) (b.returns c) x.returned;
  changes = λ c. fold (with_change c) (b.changes c) x.changed;
  postings = b.postings ++ x.postings;
  suspense = b.suspense ++ x.suspense;
  taken = λ key. if bytes_eq x.file.key key && is_none (b.taken key) then Some x.file else b.taken key;
}
written x b =
    let behind : Book → Book = λ b. put_taken_file x.file (put_postings x.postings (put_suspense x.suspense b)) in
    ap (λ (b : Book). behind (fold put_change b x.changed)) (returns_put x.returned b)
    ∙ ap behind (changes_put x.changed (record b { rows = λ c. fold (rows_back c) (b.rows c) x.returned; returns = λ c. fold (with_return c) (b.returns c) x.returned }))

-- ---- a file that is taken, as a new one or again

-- the book after a file with an accepted answer, by whether the file is new
abbrev behind_file : Identity → List ℕ → List Pair → FileFacts → Bool → Book
behind_file identity key H f new =
    let odfi = identity.odfi in
    let P : List ℕ → List Event = λ c. events_for odfi (sent_entries odfi H) new c true (TakeFile (Ok f)) (part odfi H c) ++ part odfi H c in
    let file = if new then Some f else None in
    record (book_of identity key H) {
      rows = λ c. rows (P c);
      returns = λ c. returns (P c);
      changes = λ c. changes (P c);
      postings = pairs (own_lines odfi H ++ intake_lines odfi H file);
      suspense = suspense odfi H ++ suspense_of odfi H file;
      taken = λ k. find (has_key k) (with_taken_file odfi H file (taken_files odfi H));
    }

-- a file that was taken before leaves the book
known_leaves : (identity : Identity) (key : List ℕ) (H : List Pair) (f : FileFacts) → behind_file identity key H f false ≡ book_of identity key H
known_leaves identity key H f =
    let odfi = identity.odfi in
    (λ i. record (book_of identity key H) {
      postings = pairs (append-nil (own_lines odfi H) i);
      suspense = append-nil (suspense odfi H) i;
    })

-- the items, of the items with what they name
firsts : {X Y : Type 0} (f : X → Y) (xs : List X) → map (λ (y : X × Y). y.0) (map (λ x. (x, f x)) xs) ≡ xs
firsts f [] = refl
firsts f (x ∷ xs) = ap (λ (more : List _). x ∷ more) (firsts f xs)

module _ (verdicts : VerdictsOnRows) (steps : RowSteps) (entries : SentAreAccepted) (parts : PossibleParts) (told : StepsOfMessages) where
  -- what a new file makes of a company
  of_company : {A R : Type 0} (identity : Identity) (key : List ℕ) (H : List Pair) (f : FileFacts) (d : ℕ) (c : List ℕ)
      (g : List Event → A) (row : Result ResolvedItem SuspenseReason → Option R) (step : A → R → A) → StepsWith c g row step d (holidays H)
      → day H ≡ Some d → is_new_file H f.key ≡ true
      → g (item_events identity.odfi (sent_entries identity.odfi H) c f.items (part identity.odfi H c) ++ part identity.odfi H c)
      ≡ fold step (g (part identity.odfi H c)) (filter_map row (resolutions (intake_facts (book_of identity key H) d f).items))
  of_company identity key H f d c g row step each on new =
      let odfi = identity.odfi in
      let before : IsBefore c (sent_entries odfi H) d (holidays H) (part odfi H c) = record {
        entries = sent_in_part odfi H c;
        day = ap (λ o. unwrap_or o 0) (same_day odfi H c ∙ on);
        holidays = same_holidays odfi H c;
      } in
      let with_file = parts odfi (with_answer (TakeFile (Ok f)) (answers.Done (done.Day d)) ∷ H) c in
      items_step c g row step d (holidays H) each odfi (sent_entries odfi H) f.items (part odfi H) before
      (subst (λ (t : Bool). IsPossible (events_for odfi (sent_entries odfi H) t c true (TakeFile (Ok f)) (part odfi H c) ++ part odfi H c)) new with_file)
      ∙ ap (λ (os : List (Result ResolvedItem SuspenseReason)). fold step (g (part odfi H c)) (filter_map row os)) (outcomes_on_book verdicts entries identity key H f.items)

  -- a new file is written as the book says
  new_writes : (identity : Identity) (key : List ℕ) (H : List Pair) (f : FileFacts) (d : ℕ) → day H ≡ Some d → is_new_file H f.key ≡ true
      → behind_file identity key H f true ≡ (commit_intake (intake_write (intake_facts (book_of identity key H) d f))).after (book_of identity key H)
  new_writes identity key H f d on new =
      let odfi = identity.odfi in
      let b = book_of identity key H in
      let x = intake_facts b d f in
      let os = outcomes_on_book verdicts entries identity key H f.items in
      let items = sym (firsts (named_entry_on b) f.items) in
      (λ i. record b {
        rows = λ c. of_company identity key H f d c rows (returned_row (holidays H) d) (rows_back c) (rows_steps c d (holidays H) steps) on new i;
        returns = λ c. of_company identity key H f d c returns (returned_row (holidays H) d) (with_return c) (returns_steps c d (holidays H)) on new i;
        changes = λ c. of_company identity key H f d c changes (changed_row d) (with_change c) (changes_steps c d (holidays H)) on new i;
        postings = flat_map-append with_opposite (own_lines odfi H) (intake_lines odfi H (Some f)) i;
        suspense = suspense odfi H ++ suspense_of odfi H (Some f);
        taken = λ k. found_with k (taken_files odfi H) (taken_file odfi H (unwrap_or (day H) 0) f) i;
      })
      ∙ (λ i.
      let file : TakenFile = record { key = f.key; digest = f.digest; answer = intake_of (holidays H) (unwrap_or (on i) 0) (os i) } in
      record b {
        rows = λ c. fold (rows_back c) (b.rows c) (intake_write x).returned;
        returns = λ c. fold (with_return c) (b.returns c) (intake_write x).returned;
        changes = λ c. fold (with_change c) (b.changes c) (intake_write x).changed;
        postings = b.postings ++ pairs (flat_map (λ y. item_line (unwrap_or (on i) 0) y.0 y.1) (zip (items i) (os i)));
        suspense = b.suspense ++ filter_map (λ y. suspense_row f.key (unwrap_or (on i) 0) y.0 y.1.0 y.1.1) (enumerate_from 1 (zip (items i) (os i)));
        taken = λ k. if bytes_eq file.key k && is_none (b.taken k) then Some file else b.taken k;
      })
      ∙ sym (written (intake_write x) b)

  -- a file that is refused leaves the book
  refused : (identity : Identity) (key : List ℕ) (H : List Pair) (file : Result FileFacts Fault) (taking : Taking) → file_answer_on file (book_of identity key H) ≡ taking_answer taking
      → is_accepted (taking_answer taking) ≡ false → book_of identity key (next_pair identity H (TakeFile file) ∷ H) ≡ book_of identity key H
  refused identity key H file taking is not =
      told.refused identity key H (TakeFile file) (ap is_accepted (file_answered verdicts entries identity key H file ∙ is) ∙ not) (λ c r same. cc)

  -- the book after an accepted answer depends on whether a file with this key was taken
  accepted : (identity : Identity) (key : List ℕ) (H : List Pair) (f : FileFacts) (value : Outcome) → file_answer_on (Ok f) (book_of identity key H) ≡ answers.Done value
      → book_of identity key (next_pair identity H (TakeFile (Ok f)) ∷ H) ≡ behind_file identity key H f (is_none ((book_of identity key H).taken f.key))
  accepted identity key H f value is =
      ap (λ (a : Answer). book_of identity key (with_answer (TakeFile (Ok f)) a ∷ H)) (file_answered verdicts entries identity key H (Ok f) ∙ is)
      ∙ ap (behind_file identity key H f) (new_where_none_taken identity.odfi H f.key)

  file_step : (identity : Identity) (key : List ℕ) (H : List Pair) (file : Result FileFacts Fault)
      → book_of identity key (next_pair identity H (TakeFile file) ∷ H) ≡ file_after file (book_of identity key H)
  file_step identity key H file = by (day H) refl file where
    known : (f : FileFacts) (t : TakenFile) → (book_of identity key H).taken f.key ≡ Some t → (own : Bool)
        → file_answer_on (Ok f) (book_of identity key H) ≡ taking_answer (if own then Again t.answer else Refused (Rule FileKeyReused))
        → book_of identity key (next_pair identity H (TakeFile (Ok f)) ∷ H) ≡ with_taking (if own then Again t.answer else Refused (Rule FileKeyReused)) (book_of identity key H)
    known f t is true answer =
        accepted identity key H f (done.Taken t.answer) answer
        ∙ ap (λ (o : Option TakenFile). behind_file identity key H f (is_none o)) is
        ∙ known_leaves identity key H f
    known f t is false answer = refused identity key H (Ok f) (Refused (Rule FileKeyReused)) answer refl

    answered_by : (d : ℕ) (f : FileFacts) → day H ≡ Some d → (o : Option TakenFile) → (book_of identity key H).taken f.key ≡ o
        → file_answer_on (Ok f) (book_of identity key H) ≡ taking_answer (taking_file (book_of identity key H) d f o)
    answered_by d f on o is =
        ap (λ (day : Option ℕ). taking_answer (taking_on (book_of identity key H) day (Ok f))) on
        ∙ ap (λ (o : Option TakenFile). taking_answer (taking_file (book_of identity key H) d f o)) is

    taken_by : (d : ℕ) (f : FileFacts) → day H ≡ Some d → (o : Option TakenFile) → (book_of identity key H).taken f.key ≡ o
        → book_of identity key (next_pair identity H (TakeFile (Ok f)) ∷ H) ≡ with_taking (taking_file (book_of identity key H) d f o) (book_of identity key H)
    taken_by d f on None none =
        accepted identity key H f (done.Taken (counts (intake_facts (book_of identity key H) d f))) (answered_by d f on None none)
        ∙ ap (λ (o : Option TakenFile). behind_file identity key H f (is_none o)) none
        ∙ new_writes identity key H f d on (new_where_none_taken identity.odfi H f.key ∙ ap is_none none)
    taken_by d f on (Some t) is = known f t is (bytes_eq t.digest f.digest) (answered_by d f on (Some t) is)

    by : (o : Option ℕ) → day H ≡ o → (file : Result FileFacts Fault)
        → book_of identity key (next_pair identity H (TakeFile file) ∷ H) ≡ with_taking (taking_on (book_of identity key H) o file) (book_of identity key H)
    by None on file = refused identity key H file (Refused (Rule NoDay)) (λ i. taking_answer (taking_on (book_of identity key H) (on i) file)) refl
    by (Some d) on (Err fault) = refused identity key H (Err fault) (Refused (BadFile fault)) (λ i. taking_answer (taking_on (book_of identity key H) (on i) (Err fault))) refl
    by (Some d) on (Ok f) = taken_by d f on ((book_of identity key H).taken f.key) refl

  pub tells_intake : TellsIntake
  tells_intake = record {
    answer = λ identity key H file history. file_answered verdicts entries identity key H file;
    step = λ identity key H file history. file_step identity key H file;
  }
