-- Every answer has a body that fits into its room: no cut makes more than 36 files.
use Rattle.std.proofs.Common.{◌≡◌, ℕ, ◌+◌, ◌≤◌, List, length, map, Bool, true, false, refl, arith}
use Rattle.std.specs.Prelude.{nat_le, Result, Ok, Err}
use Rattle.std.proofs.lemmas.Bool.{leb-true}
use Rattle.std.proofs.lemmas.List.{length-map}
use Rattle.bank_days.specs.declared.calendar_fault.CalendarFault.{CalendarFault}
use Rattle.desk_plan.specs.Modifiers.{most_files}
use Rattle.desk_plan.specs.Reuse.{may_send}
use Rattle.desk_rules.specs.Chain.{◌>>=◌}
use Rattle.desk_rules.specs.declared.refusals.refusal.Refusal as rules
use Rattle.desk_rules.specs.declared.refusals.refusal.Refusal.TheVariants.{NoCompany, NoDay, TracesSpent, ModifiersSpent}
use Rattle.desk_history.specs.declared.answer.Outcome.{Outcome}
use Rattle.desk_history.specs.declared.answer.Outcome.TheVariants as done
use Rattle.desk_history.specs.Message.{Message, Of, SetDay, SetHolidays, PutCompany, PutLimits, Cut, TakeFile, FileText, Settlement, Suspense, Status, Companies}
use Rattle.desk_history.specs.Operator.{set_holidays, cut_answer}
use Rattle.desk_history.specs.Reply.{answer_of}
use Rattle.desk_history.specs.Request as request
use Rattle.desk_history.specs.Sendings.{plan_of, sent_sequence}
use Rattle.desk_history.specs.Words.{some_or, holds_or}
use Rattle.desk_book.specs.declared.row.Row.{Row}
use Rattle.desk_book.specs.Book.{Book}
use Rattle.desk_book.specs.OnBook.{standing_in, receipt_of}
use Rattle.desk_book.specs.OnCut.{CutFacts, cut_sendings, files, cut_facts, cut_on, summary_of}
use Rattle.desk_book.specs.OnIntake.{Taking, New, Again, Refused, taking, taking_answer}
use Rattle.desk_book.specs.OnMessages.{answer_on}
use Rattle.desk_book.specs.OnOperator.{new_day, new_company, new_limits, done_as}
use Rattle.desk_book.specs.Standing.{submission_row, retry_row}
use Rattle.http_answers.specs.Answers.{IsShort, FitsRoom}

bind_short : {A : Type 0} (r : Result A rules.Refusal) (f : A → Result Outcome rules.Refusal) → ((x : A) → FitsRoom (answer_of (f x))) → FitsRoom (answer_of (r >>= f))
bind_short (Ok x) f short = short x
bind_short (Err why) f short = tt

done_short : {A : Type 0} (value : A → Outcome) → ((x : A) → IsShort (value x)) → (r : Result A rules.Refusal) → FitsRoom (done_as value r)
done_short value short (Ok x) = short x
done_short value short (Err why) = tt

receipt_short : (r : Result Row rules.Refusal) → FitsRoom (answer_of (receipt_of r))
receipt_short (Ok row) = tt
receipt_short (Err why) = tt

holidays_short : (r : Result (List ℕ) CalendarFault) → FitsRoom (set_holidays r)
holidays_short (Ok days) = tt
holidays_short (Err fault) = tt

taking_short : (t : Taking) → FitsRoom (taking_answer t)
taking_short (New x) = tt
taking_short (Again counts) = tt
taking_short (Refused why) = tt

-- ---- a cut

bind_cut : {A : Type 0} (r : Result A rules.Refusal) (f : A → Result CutFacts rules.Refusal) → ((x : A) → FitsRoom (cut_answer (summary_of (f x)))) → FitsRoom (cut_answer (summary_of (r >>= f)))
bind_cut (Ok x) f short = short x
bind_cut (Err why) f short = tt

few_files : (b : Book) (d : ℕ) → nat_le (b.files_on d + length (files (cut_facts b d))) most_files ≡ true → length (map (λ f. f.modifier) (files (cut_facts b d))) ≤ 36
few_files b d fits =
    let same = length-map (files (cut_facts b d)) (λ f. f.modifier) in
    let low = leb-true (b.files_on d + length (files (cut_facts b d))) most_files fits in omega (arith, low, same)

checked_short : (b : Book) (d : ℕ) (may fits : Bool) → nat_le (b.files_on d + length (files (cut_facts b d))) most_files ≡ fits
    → FitsRoom (cut_answer (summary_of ((holds_or TracesSpent may >>= (λ _. holds_or ModifiersSpent fits)) >>= (λ _. Ok (cut_facts b d)))))
checked_short b d true true is = few_files b d is
checked_short b d true false is = tt
checked_short b d false fits is = tt

cut_short : (b : Book) → FitsRoom (cut_answer (summary_of (cut_on b)))
cut_short b =
    bind_cut (some_or NoDay b.day) _ (λ d.
    checked_short b d (may_send d (map sent_sequence b.sent) (map plan_of (cut_sendings (cut_facts b d))))
    (nat_le (b.files_on d + length (files (cut_facts b d))) most_files) refl)

-- ---- every message

pub short_on : (b : Book) (m : Message) → FitsRoom (answer_on b m)
short_on b (Of c (request.Submit d)) = receipt_short (submission_row (standing_in b c) d)
short_on b (Of c (request.Retry d)) = receipt_short (retry_row (standing_in b c) d)
short_on b (Of c (request.LookUp reference)) = bind_short (some_or NoCompany (standing_in b c).limits) _ (λ _. tt)
short_on b (Of c request.Returns) = bind_short (some_or NoCompany (standing_in b c).limits) _ (λ _. tt)
short_on b (Of c request.Changes) = bind_short (some_or NoCompany (standing_in b c).limits) _ (λ _. tt)
short_on b (Of c request.Statement) = bind_short (some_or NoCompany (standing_in b c).limits) _ (λ _. bind_short (some_or NoDay b.day) _ (λ d. tt))
short_on b (Of c request.Rates) = bind_short (some_or NoCompany (standing_in b c).limits) _ (λ _. bind_short (some_or NoDay b.day) _ (λ d. tt))
short_on b (Of c request.Exposure) = bind_short (some_or NoCompany (standing_in b c).limits) _ (λ _. bind_short (some_or NoDay b.day) _ (λ d. tt))
short_on b (SetDay text) = done_short done.Day (λ d. tt) (new_day b.day b.holidays text)
short_on b (SetHolidays days) = holidays_short days
short_on b (PutCompany d) = done_short (λ k. done.Company k.id) (λ k. tt) (new_company b.companies d)
short_on b (PutLimits d) = done_short (λ x. done.Company x.0) (λ x. tt) (new_limits b.companies d)
short_on b Cut = cut_short b
short_on b (TakeFile file) = taking_short (taking b file)
short_on b (FileText d modifier) = tt
short_on b Settlement = bind_short (some_or NoDay b.day) _ (λ d. tt)
short_on b Suspense = tt
short_on b Status = tt
short_on b Companies = bind_short (some_or NoDay b.day) _ (λ d. tt)
