-- A company's answers follow from the book.
use Rattle.std.proofs.Common.{◌≡◌, ℕ, ◌+◌, List, [], ◌∷◌, length, map, Bool, true, false, refl, sym, ap, ◌∙◌}
use Rattle.std.specs.Prelude.{if◌then◌else◌, nat_le, ℤ, ◌+ℤ◌, pos, zip, Option, Some, None, option_map, Result, Ok, Err}
use Rattle.std.specs.List.{fold, filter, range_with_len, enumerate_from}
use Rattle.desk_accounts.specs.declared.account.Account.TheVariants as accounts
use Rattle.desk_accounts.specs.declared.posting.Posting.{Posting}
use Rattle.desk_accounts.specs.Balance.{lines_of, lines_until, total}
use Rattle.desk_rules.specs.declared.refusals.refusal.Refusal as rules
use Rattle.desk_rules.specs.declared.refusals.refusal.Refusal.TheVariants.{NoCompany, NoDay}
use Rattle.desk_rules.specs.declared.bodies.submission.Entry.{Entry}
use Rattle.desk_rules.specs.Chain.{◌>>=◌}
use Rattle.desk_history.specs.declared.answer.Outcome.TheVariants as done
use Rattle.desk_history.specs.declared.identity.Identity.{Identity}
use Rattle.desk_history.specs.declared.reports.ReportedEntry.{ReportedEntry}
use Rattle.desk_history.specs.declared.reports.StatementLine.{StatementLine}
use Rattle.desk_history.specs.declared.reports.Statement.{Statement}
use Rattle.desk_history.specs.Part.{Event}
use Rattle.desk_history.specs.Accepted.{AcceptedSubmission, state_of}
use Rattle.desk_history.specs.Acceptance.{submissions, accepted_submission, accepted_retry}
use Rattle.desk_book.specs.Book.{rows, row_of, book_of}
use Rattle.desk_history.specs.History.{part}
use Rattle.desk_history.specs.Message.{Pair}
use Rattle.desk_history.specs.Operator.{IsHistory}
use Rattle.desk_history.specs.PostingLaws.{posting_of, CompanyLines}
use Rattle.desk_history.specs.Reply as replies
use Rattle.desk_history.specs.Reply.{answer_of, request_outcome}
use Rattle.desk_history.specs.Reports as reports
use Rattle.desk_history.specs.Reports.{report, reported_entry, report_of, submission_under, submission_report, lines, statement}
use Rattle.desk_history.specs.Request as request
use Rattle.desk_history.specs.Request.{Request}
use Rattle.desk_book.specs.RowLaws.{row_of_result, VerdictsOnRows}
use Rattle.desk_book.specs.Standing.{Standing, standing, row_under, submission_row, retry_row}
use Rattle.desk_history.specs.Words.{some_or}
use Rattle.desk_book.specs.OnBook as on_book
use Rattle.desk_book.specs.OnBook.{standing_in, row_report, line_of, statement_on, outcome_on}
use Rattle.desk_book.specs.BookLaws.{TellsReplies}
use Rattle.desk_book.proofs.Standings.{SameStanding}

-- ---- a submission that is looked up

entries_found : (P : List Event) (a : AcceptedSubmission) (n : ℕ) (es : List Entry) → map (λ x. reported_entry (x.0, (x.1, state_of P a x.0))) (enumerate_from n es)
    ≡ map reported_entry (enumerate_from n (zip es (map (state_of P a) (range_with_len n (length es)))))
entries_found P a n [] = refl
entries_found P a n (e ∷ es) = ap (λ (more : List ReportedEntry). reported_entry (n, (e, state_of P a n)) ∷ more) (entries_found P a (n + 1) es)

found_on_row : (P : List Event) (a : AcceptedSubmission) → report_of P a ≡ row_report (row_of P a)
found_on_row P a = ap (report a.content a.order a.retry) (entries_found P a 1 a.content.entries)

found_in_rows : (P : List Event) (o : Option AcceptedSubmission) → option_map (report_of P) o ≡ option_map row_report (option_map (row_of P) o)
found_in_rows P None = refl
found_in_rows P (Some a) = ap Some (found_on_row P a)

-- ---- a statement

lines_back : (c : List ℕ) (ls : List StatementLine) → map line_of (map (posting_of c) ls) ≡ ls
lines_back c [] = refl
lines_back c (l ∷ ls) = ap (λ (more : List StatementLine). l ∷ more) (lines_back c ls)

-- the lines until a day sum to what their postings do
sum_back : (c : List ℕ) (day : ℕ) (sum : ℤ) (ls : List StatementLine)
    → fold (λ s p. s +ℤ p.cents) sum (lines_until day (map (posting_of c) ls))
    ≡ fold (λ s l. s +ℤ l.cents) sum (filter (λ l. nat_le l.day day) ls)
sum_back c day sum [] = refl
sum_back c day sum (l ∷ ls) =
    let rest = lines_until day (map (posting_of c) ls) in
    elim (nat_le l.day day) as (λ (t : Bool).
    fold (λ s (p : Posting). s +ℤ p.cents) sum (if t then posting_of c l ∷ rest else rest)
    ≡ fold (λ s (l : StatementLine). s +ℤ l.cents) sum (if t then l ∷ filter (λ l. nat_le l.day day) ls else filter (λ l. nat_le l.day day) ls)) [
      | true ↦ sum_back c day (sum +ℤ l.cents) ls
      | false ↦ sum_back c day sum ls
    ]

-- the statement of lines, and that of what was posted to the account
abbrev statement_of : List StatementLine → ℕ → Statement
statement_of ls d = record { balance = reports.balance d ls; day = d; lines = ls }

abbrev posted_statement : List Posting → ℕ → Statement
posted_statement own d = record { balance = total (lines_until d own); day = d; lines = map line_of own }

stated_on : (c : List ℕ) (ls : List StatementLine) (own : List Posting) → own ≡ map (posting_of c) ls → (d : ℕ) → statement_of ls d ≡ posted_statement own d
stated_on c ls own same d =
    sym (λ i. record { balance = sum_back c d (pos 0) ls i; day = d; lines = lines_back c ls i }) ∙ ap (λ (own : List Posting). posted_statement own d) (sym same)

-- ---- each request

receipts : (P : List Event) (x : Result AcceptedSubmission rules.Refusal) → replies.receipt_of x ≡ on_book.receipt_of (row_of_result P x)
receipts P (Ok a) = refl
receipts P (Err why) = refl

module _ (same_standing : SameStanding) (verdicts : VerdictsOnRows) (company_lines : CompanyLines) where
  same_outcome : (identity : Identity) (key : List ℕ) (H : List Pair) (c : List ℕ) → IsHistory identity H
      → (r : Request) → request_outcome (part identity.odfi H c) r ≡ outcome_on (book_of identity key H) c r
  same_outcome identity key H c is = by where
    P : List Event
    P = part identity.odfi H c

    same : standing P ≡ standing_in (book_of identity key H) c
    same = same_standing identity key H c is

    by : (r : Request) → request_outcome P r ≡ outcome_on (book_of identity key H) c r
    by (request.Submit d) = receipts P (accepted_submission P (submissions P) d) ∙ ap on_book.receipt_of (verdicts.submitted P d ∙ ap (λ (st : Standing). submission_row st d) same)
    by (request.Retry d) = receipts P (accepted_retry P (submissions P) d) ∙ ap on_book.receipt_of (verdicts.retried P d ∙ ap (λ (st : Standing). retry_row st d) same)
    by (request.LookUp reference) =
        let seen : submission_report P reference ≡ option_map row_report (row_under (rows P) reference) =
        found_in_rows P (submission_under P reference) ∙ ap (option_map row_report) (verdicts.under P reference) in
        (λ i. some_or NoCompany (same i).limits >>= (λ _. Ok (done.Found (seen i))))
    by request.Returns = ap (λ (st : Standing). some_or NoCompany st.limits >>= (λ _. Ok (done.Returns (reports.returns P)))) same
    by request.Changes = ap (λ (st : Standing). some_or NoCompany st.limits >>= (λ _. Ok (done.Changes (reports.changes P)))) same
    by request.Statement =
        (λ i. some_or NoCompany (same i).limits >>= (λ _. some_or NoDay (same i).day >>= (λ d.
        Ok (done.Statement (stated_on c (lines P) (lines_of (accounts.Company c) (book_of identity key H).postings) (company_lines identity H c is) d i)))))
    by request.Rates =
        (λ i. some_or NoCompany (same i).limits >>= (λ _. some_or NoDay (same i).day >>= (λ d.
        Ok (done.Rates (reports.day_rates (verdicts.facts P i) d)))))
    by request.Exposure =
        (λ i. some_or NoCompany (same i).limits >>= (λ limits. some_or NoDay (same i).day >>= (λ d.
        Ok (done.Exposure (reports.exposure (verdicts.facts P i) (same i).holidays limits d)))))

  pub tells_replies : TellsReplies
  tells_replies = record {
    standings = same_standing;
    replies = λ identity key H c r is. ap answer_of (same_outcome identity key H c is r);
  }
