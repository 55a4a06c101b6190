-- The book after a cut is that of the history with the cut.
use Rattle.std.proofs.Common.{◌≡◌, ℕ, ◌+◌, List, [], ◌∷◌, ◌++◌, map, true, ◌&&◌, refl, sym, ap, ◌∙◌, append_assoc}
use Rattle.std.specs.Prelude.{◌==◌, if◌then◌else◌, fold, find, reverse, Some, None, is_none, option_map, unwrap_or, Result, Ok, Err}
use Rattle.std.specs.List.{flat_map, range_with_len}
use Rattle.std.proofs.lemmas.List.{append-nil, length-map}
use Rattle.std.proofs.lemmas.List.Concat.{flat_map-append}
use Rattle.std.proofs.lemmas.List.Folds.{fold-map}
use Rattle.std.proofs.lemmas.List.Sums.{fold-append}
use Rattle.std.proofs.lemmas.Simd.{map-map}
use Rattle.desk_accounts.specs.declared.posting.Posting.{Posting}
use Rattle.desk_accounts.specs.Laws.{pairs}
use Rattle.desk_accounts.specs.Posting.{with_opposite}
use Rattle.desk_plan.specs.Laws.{OneDivision}
use Rattle.desk_rules.specs.declared.bodies.company.Company.{Company}
use Rattle.desk_rules.specs.declared.refusals.refusal.Refusal.{Refusal}
use Rattle.desk_history.specs.declared.answer.Answer.{Answer}
use Rattle.desk_history.specs.declared.answer.Answer.TheVariants.{Done, Refused}
use Rattle.desk_history.specs.declared.identity.Identity.{Identity}
use Rattle.desk_history.specs.declared.sent_entry.FilePlace.{FilePlace}
use Rattle.desk_history.specs.Part.{Event, CutMade}
use Rattle.desk_history.specs.AcceptedLaws.{AcceptedInOrder}
use Rattle.desk_history.specs.Acceptance.{submissions}
use Rattle.desk_book.specs.Book.{rows, row_of, book_of}
use Rattle.desk_history.specs.Files.{File, file_count, is_file, places_in_file, runs_of, files_from, text_of}
use Rattle.desk_history.specs.Files as history_files
use Rattle.desk_history.specs.History.{day, holidays, companies, part, sent_entries}
use Rattle.desk_history.specs.Intake.{has_key, suspense, taken_files}
use Rattle.desk_history.specs.Message.{Cut, Pair, is_accepted}
use Rattle.desk_history.specs.Operator.{has_id, cut_answer, answer_to, next_pair, IsHistory}
use Rattle.desk_history.specs.Possible.{PossibleParts}
use Rattle.desk_history.specs.Postings.{own_lines, sending_line}
use Rattle.desk_history.specs.Reports.{returns, changes}
use Rattle.desk_book.specs.RowLaws.{RowSteps}
use Rattle.desk_history.specs.Sendings.{Sending, batch_entries}
use Rattle.desk_history.specs.Sendings as history_sending
use Rattle.desk_history.proofs.Accounts.Companies.{companies_apart}
use Rattle.desk_history.proofs.Lines.PartLimits.{same_limits, none_accepted}
use Rattle.desk_book.specs.Steps.{is_file as row_of_file}
use Rattle.desk_book.specs.Steps.{commit_cut}
use Rattle.desk_book.specs.BookLaws.{StepsOfMessages}
use Rattle.desk_book.specs.CutLaws.{TellsCut}
use Rattle.desk_book.specs.OnCut.{sent_rows, file_row, CutFacts, cut_sendings, lapsed_rows, files, cut_write, cut_facts, cut_on, summary_of, with_cut}
use Rattle.desk_book.proofs.CutAnswers.{facts_of_cut, same_answer}
use Rattle.desk_book.proofs.CutFiles.{files_hold_sends, printed_by, places_in_files, found_in_turn}
use Rattle.desk_book.proofs.CutRowsOnBook.{lapsed_turn, rows_turned}
use Rattle.desk_book.proofs.CutSends.{cut_by_book, same_sends}
use Rattle.desk_book.proofs.CutWrites.{cut_made, made_by_cut}
use Rattle.desk_book.proofs.Kept.{with_answer}
use Rattle.desk_book.proofs.Turns.{AreApart, turned_at, numbered_apart}

-- ---- what a cut adds to a list

-- what each adds, one after another
added_each : {X Y : Type 0} (g : X → List Y) (before : List Y) (xs : List X) → fold (λ ys x. ys ++ g x) before xs ≡ before ++ flat_map g xs
added_each g before [] = sym (append-nil before)
added_each g before (x ∷ xs) = added_each g (before ++ g x) xs ∙ append_assoc before (g x) (flat_map g xs)

-- the postings
postings_added : (before more : List Posting) → pairs (before ++ (more ++ [])) ≡ pairs before ++ pairs more
postings_added before more = ap (λ (ls : List Posting). pairs (before ++ ls)) (append-nil more) ∙ flat_map-append with_opposite before more

-- the places where a submission is printed
printed_added : (c : List ℕ) (order : ℕ) (before more : List File)
    → flat_map (places_in_file c order) (before ++ more) ≡ fold (λ ps s. ps ++ printed_by c order s) (flat_map (places_in_file c order) before) (flat_map sent_rows more)
printed_added c order before more =
    flat_map-append (places_in_file c order) before more
    ∙ ap (λ (ps : List FilePlace). flat_map (places_in_file c order) before ++ ps) (sym (places_in_files c order more))
    ∙ sym (added_each (printed_by c order) (flat_map (places_in_file c order) before) (flat_map sent_rows more))

-- the text of a file
file_added : (identity : Identity) (d modifier : ℕ) (before more : List File)
    → option_map (text_of identity) (find (is_file d modifier) (before ++ more))
    ≡ fold (λ o f. if row_of_file d modifier f && is_none o then Some f.text else o) (option_map (text_of identity) (find (is_file d modifier) before)) (map (file_row identity) more)
file_added identity d modifier before more = sym (fold-map _ (file_row identity) _ more ∙ found_in_turn (text_of identity) (is_file d modifier) before more)

-- how many files a day has
count_added : (identity : Identity) (d : ℕ) (before more : List File) → file_count d (before ++ more) ≡ fold (λ n f. n + (if f.day == d then 1 else 0)) (file_count d before) (map (file_row identity) more)
count_added identity d before more = fold-append _ 0 before more ∙ sym (fold-map _ (file_row identity) (file_count d before) more)

-- ---- the rows of a company

-- no two have one order
numbered : AcceptedInOrder → (P : List Event) → AreApart (rows P)
numbered law P =
    numbered_apart 1 (rows P)
    (map-map (λ row. row.order) (row_of P) (submissions P) ∙ law.orders P ∙ ap (range_with_len 1) (sym (length-map (submissions P) (row_of P))))

-- who is not registered has no submissions
none_unknown : (identity : Identity) (H : List Pair) (c : List ℕ) → IsHistory identity H → find (has_id c) (companies H) ≡ None → rows (part identity.odfi H c) ≡ []
none_unknown identity H c is none =
    let P = part identity.odfi H c in
    ap (map (row_of P)) (none_accepted P (sym (same_limits identity H c is) ∙ ap (option_map (λ (k : Company). k.limits)) none))

module _ (steps : RowSteps) (possible : PossibleParts) (order : AcceptedInOrder) (division : OneDivision) where
  -- they are those of its part with the cut
  rows_behind : (identity : Identity) (key : List ℕ) (H : List Pair) (d : ℕ) → IsHistory identity H → day H ≡ Some d
      → (c : List ℕ) → rows (CutMade ∷ part identity.odfi H c) ≡ (cut_made (cut_write (cut_facts (book_of identity key H) d)) (book_of identity key H)).rows c
  rows_behind identity key H d is on c =
      let b = book_of identity key H in
      let x = cut_facts b d in
      cut_by_book steps possible identity H d is on c
      ∙ sym (rows_turned b d (companies_apart identity H is) c (numbered order (part identity.odfi H c)) (none_unknown identity H c is))
      ∙ ap (λ ts. fold (turned_at c) (fold (turned_at c) (b.rows c) ts) (map lapsed_turn (lapsed_rows x))) (sym (files_hold_sends division x))

  -- ---- the book

  -- an accepted cut makes its write
  made : (identity : Identity) (key : List ℕ) (H : List Pair) (d : ℕ) → IsHistory identity H → day H ≡ Some d → (a : Answer) → is_accepted a ≡ true
      → book_of identity key (with_answer Cut a ∷ H) ≡ cut_made (cut_write (cut_facts (book_of identity key H) d)) (book_of identity key H)
  made identity key H d is on (Refused why) ok = cc
  made identity key H d is on (Done value) ok =
      let odfi = identity.odfi in
      let b = book_of identity key H in
      let x = cut_facts b d in
      let ss : cut_sendings x ≡ history_files.cut_sendings odfi H = same_sends steps possible identity key H d is on in
      let before : List File = history_files.files odfi H in
      let made_at : ℕ → List Sending → List File = λ d ss. files_from d (file_count d before) (runs_of (history_sending.batches (sent_entries odfi H) ss)) in
      let same_files : before ++ made_at (unwrap_or (day H) 0) (history_files.cut_sendings odfi H) ≡ before ++ files x =
      (λ i. before ++ made_at (unwrap_or (on i) 0) (sym ss i)) in
      (λ i. record {
        identity = identity;
        operator_key = key;
        day = day H;
        holidays = holidays H;
        companies = companies H;
        rows = λ c. rows_behind identity key H d is on c i;
        returns = λ c. returns (part odfi H c);
        changes = λ c. changes (part odfi H c);
        postings =
            (postings_added (own_lines odfi H) (flat_map sending_line (history_files.cut_sendings odfi H))
            ∙ ap (λ ss. b.postings ++ pairs (flat_map sending_line ss)) (sym ss)) i;
        sent = reverse (flat_map batch_entries (history_sending.batches (sent_entries odfi H) (sym ss i))) ++ sent_entries odfi H;
        suspense = append-nil (suspense odfi H) i;
        file = λ d modifier. (ap (λ fs. option_map (text_of identity) (find (is_file d modifier) fs)) same_files ∙ file_added identity d modifier before (files x)) i;
        files_on = λ d. (ap (file_count d) same_files ∙ count_added identity d before (files x)) i;
        taken = λ k. find (has_key k) (taken_files odfi H);
        printed = λ c order. (ap (flat_map (places_in_file c order)) same_files ∙ printed_added c order before (files x)) i;
      })

  -- ---- the law

  -- the cut is accepted if the book says so
  accepted_as : (identity : Identity) (key : List ℕ) (H : List Pair) → IsHistory identity H → (r : Result CutFacts Refusal) → cut_on (book_of identity key H) ≡ r
      → is_accepted (answer_to identity H Cut) ≡ is_accepted (cut_answer (summary_of r))
  accepted_as identity key H is r told = ap is_accepted (same_answer steps possible identity key H is ∙ ap (λ r. cut_answer (summary_of r)) told)

  step_by : StepsOfMessages → (identity : Identity) (key : List ℕ) (H : List Pair) → IsHistory identity H
      → (r : Result CutFacts Refusal) → cut_on (book_of identity key H) ≡ r
      → book_of identity key (next_pair identity H Cut ∷ H) ≡ with_cut r (book_of identity key H)
  step_by messages identity key H is (Ok x) told =
      let b = book_of identity key H in
      let facts = facts_of_cut b x told in
      made identity key H facts.0 is facts.1 (answer_to identity H Cut) (accepted_as identity key H is (Ok x) told)
      ∙ sym (made_by_cut (cut_write (cut_facts b facts.0)) b)
      ∙ ap (λ x. (commit_cut (cut_write x)).after b) facts.2
  step_by messages identity key H is (Err why) told =
      messages.refused identity key H Cut (accepted_as identity key H is (Err why) told) (λ c r same. cc)

  pub tells_cut : StepsOfMessages → TellsCut
  tells_cut messages = record {
    answer = same_answer steps possible;
    step = λ identity key H is. step_by messages identity key H is (cut_on (book_of identity key H)) refl;
  }
