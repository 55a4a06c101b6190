use Rattle.std.proofs.Common.{◌≡◌, ◌∙◌, ap, length}
use Rattle.desk_history.specs.declared.answer.Answer.TheVariants.{Done}
use Rattle.desk_history.specs.declared.answer.Outcome.TheVariants as done
use Rattle.desk_history.specs.Status.{modifiers_on}
use Rattle.desk_calls.specs.Status.{all_waiting}
use Rattle.desk_calls.proofs.operator.status.status.Goals as goal

pub returns : goal.returns
returns g c =
    record {
      before = λ clean.
          let after_companies = c.all_waiting.ensures.before (c.files_of.ensures.before (c.sent_count.ensures.before (c.suspense_count.ensures.before clean))) in
          c.day.ensures.before (c.calendar.ensures.before (c.companies.ensures.before after_companies));
      answers = λ clean b held.
          let after_sent = c.suspense_count.ensures.before clean in
          let after_files = c.sent_count.ensures.before after_sent in
          let after_waiting = c.files_of.ensures.before after_files in
          let after_companies = c.all_waiting.ensures.before after_waiting in
          let after_holidays = c.companies.ensures.before after_companies in
          let day_read = c.in_ok-day.ensures.read (c.calendar.ensures.before after_holidays) b held in
          let holidays_read = c.in_ok-holidays.ensures.read after_holidays b day_read.1 in
          let companies_read = c.in_ok-companies.ensures.read after_companies b holidays_read.1 in
          let waiting_read = c.in_ok-waiting.ensures.read after_waiting b companies_read.1 in
          let files_read = c.in_ok-files.ensures.read after_files b waiting_read.1 in
          let sent_read = c.in_ok-sent.ensures.read after_sent b files_read.1 in
          let suspense_read = c.in_ok-suspense.ensures.read clean b sent_read.1 in
          let waiting : c.in_ok-waiting.waiting ≡ all_waiting b.day b.holidays b.companies b =
          waiting_read.0 ∙ (λ i. all_waiting (day_read.0 i) (holidays_read.0 i) ((c.deref.ensures.value ∙ companies_read.0) i) b) in (
            (λ i. Done (done.Status (record {
              companies = (waiting i).companies;
              day = (c.day_of.ensures ∙ day_read.0) i;
              due_files = (waiting i).due_files;
              due_records = (waiting i).due_records;
              files = (c.new.ensures ∙ files_read.0 ∙ (λ j. modifiers_on (day_read.0 j) b.files_on)) i;
              held_records = (waiting i).held_records;
              holidays = length ((c.holidays-2.ensures.value ∙ holidays_read.0) i);
              sent = sent_read.0 i;
              suspense = suspense_read.0 i;
            }))),
            suspense_read.1,
          );
      left = λ clean kept may.
          let after_sent = c.suspense_count.ensures.before clean in
          let after_files = c.sent_count.ensures.before after_sent in
          let after_waiting = c.files_of.ensures.before after_files in
          let after_companies = c.all_waiting.ensures.before after_waiting in
          let after_holidays = c.companies.ensures.before after_companies in
          c.day.ensures.left (c.calendar.ensures.before after_holidays) kept
          (c.calendar.ensures.left after_holidays kept
          (c.companies.ensures.left after_companies kept
          (c.all_waiting.ensures.left after_waiting kept
          (c.files_of.ensures.left after_files kept (c.sent_count.ensures.left after_sent kept (c.suspense_count.ensures.left clean kept may))))));
    }
