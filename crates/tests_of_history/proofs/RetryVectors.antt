-- Retries of returned debits and return rates, computed over one company's part of a history.
use Rattle.std.specs.Prelude.{◌≡◌, ℕ, List, [], ◌∷◌, Some, true, false, codes, refl}
use Rattle.desk_rules.specs.declared.bodies.draft.Optional.{Optional}
use Rattle.desk_rules.specs.declared.bodies.draft.Optional.TheVariants.{Absent, Wrong, Given}
use Rattle.desk_rules.specs.declared.bodies.draft.RetryDraft.{RetryDraft}
use Rattle.desk_rules.specs.declared.rules.entry_fact.EntryState.TheVariants as states
use Rattle.desk_rules.specs.declared.rules.rate.Level.TheVariants.{Unauthorized}
use Rattle.desk_rules.specs.declared.refusals.refusal.Field.TheVariants as fields
use Rattle.desk_rules.specs.declared.refusals.refusal.Refusal.TheVariants as rules
use Rattle.desk_rules.specs.declared.bodies.submission.Direction.TheVariants as directions
use Rattle.desk_rules.specs.declared.bodies.submission.SecCode.TheVariants as secs
use Rattle.desk_rules.specs.ReturnRates.{exceeds}
use Rattle.desk_history.specs.declared.answer.Answer.{Answer}
use Rattle.desk_history.specs.declared.answer.Answer.TheVariants.{Done}
use Rattle.desk_history.specs.declared.answer.Outcome.TheVariants as done
use Rattle.desk_history.specs.Part.{Event, DaySet, Asked, CutMade, Returned}
use Rattle.desk_history.specs.Reply.{reply}
use Rattle.desk_history.specs.Request.{Submit, Retry, LookUp, Rates}
use Rattle.tests_of_history.proofs.OnLiterals.{desk_on_literals}
use Rattle.tests_of_history.proofs.Samples.{pay_1, pay_2, debit, retry, retry_with, no_information, accepted_as, refused, opened, states_under}

-- ---- a debit that came back

-- a debit of 25.00 settled on Friday 2025-01-10 and was returned with this code on 01-14
abbrev returned_with : ℕ → List Event
returned_with code =
    Returned (codes "PAY-2") 1 code no_information ∷ DaySet 20102 ∷ CutMade ∷ DaySet 20097 ∷ Asked (Submit pay_2) ∷ opened 20096

a_returned_debit : states_under (returned_with 1) (codes "PAY-2") ≡ Some (states.Returned 20098 1 20102 false ∷ [])
unfolding desk_on_literals
a_returned_debit = refl

a_retry_is_accepted : reply (returned_with 1) (Retry (retry (codes "RT-1") (codes "PAY-2") (codes "2025-01-16")))
    ≡ accepted_as 2 (codes "RT-1") 2500
unfolding desk_on_literals
a_retry_is_accepted = refl

-- ---- a retry that waits

abbrev asked_again : List Event
asked_again = Asked (Retry (retry (codes "RT-1") (codes "PAY-2") (codes "2025-01-16"))) ∷ returned_with 1

a_retry_is_held : reply asked_again (LookUp (codes "RT-1")) ≡ Done (done.Found (Some (record {
  cents = 2500;
  day = 20104;
  direction = directions.Debit;
  entries = record { cents = 2500; index = 1; state = states.Held } ∷ [];
  retried = Some (record { of = codes "PAY-2"; index = 1 });
  order = 2;
  reference = codes "RT-1";
  sec = secs.Ppd;
})))
unfolding desk_on_literals
a_retry_is_held = refl

another_retry_while_one_waits : reply asked_again (Retry (retry (codes "RT-2") (codes "PAY-2") (codes "2025-01-16")))
    ≡ refused rules.NotReturned
unfolding desk_on_literals
another_retry_while_one_waits = refl

a_retry_of_a_retry : reply asked_again (Retry (retry (codes "RT-2") (codes "RT-1") (codes "2025-01-16"))) ≡ refused rules.NoEntry
unfolding desk_on_literals
a_retry_of_a_retry = refl

the_same_retry_again : reply asked_again (Retry (retry (codes "RT-1") (codes "PAY-2") (codes "2025-01-16")))
    ≡ accepted_as 2 (codes "RT-1") 2500
unfolding desk_on_literals
the_same_retry_again = refl

the_same_retry_for_another_day : reply asked_again (Retry (retry (codes "RT-1") (codes "PAY-2") (codes "2025-01-17")))
    ≡ refused rules.RefReused
unfolding desk_on_literals
the_same_retry_for_another_day = refl

-- a submission and a retry never have the same content
a_retry_under_the_reference_of_a_submission : reply asked_again (Retry (retry (codes "PAY-2") (codes "PAY-2") (codes "2025-01-16")))
    ≡ refused rules.RefReused
unfolding desk_on_literals
a_retry_under_the_reference_of_a_submission = refl

a_submission_under_the_reference_of_a_retry : reply asked_again (Submit (debit (codes "RT-1") 2500 (codes "2025-01-16")))
    ≡ refused rules.RefReused
unfolding desk_on_literals
a_submission_under_the_reference_of_a_retry = refl

-- ---- what is no debit that came back

abbrev debit_sent : List Event
debit_sent = DaySet 20102 ∷ CutMade ∷ DaySet 20097 ∷ Asked (Submit pay_2) ∷ opened 20096

an_entry_that_did_not_come_back : reply debit_sent (Retry (retry (codes "RT-1") (codes "PAY-2") (codes "2025-01-16")))
    ≡ refused rules.NotReturned
unfolding desk_on_literals
an_entry_that_did_not_come_back = refl

an_entry_of_no_submission : reply (returned_with 1) (Retry (retry (codes "RT-1") (codes "PAY-9") (codes "2025-01-16")))
    ≡ refused rules.NoEntry
unfolding desk_on_literals
an_entry_of_no_submission = refl

abbrev credit_returned : List Event
credit_returned = Returned (codes "PAY-1") 1 1 no_information ∷ DaySet 20102 ∷ CutMade ∷ Asked (Submit pay_1) ∷ opened 20096

a_credit_is_not_tried_again : reply credit_returned (Retry (retry (codes "RT-1") (codes "PAY-1") (codes "2025-01-16")))
    ≡ refused rules.NoEntry
unfolding desk_on_literals
a_credit_is_not_tried_again = refl

-- ---- 180 days

-- the original settled on 2025-01-10: its 180th day is 07-09
a_retry_for_the_day_behind_the_180_days : reply (DaySet 20270 ∷ returned_with 1) (Retry (retry (codes "RT-1") (codes "PAY-2") (codes "2025-07-10")))
    ≡ refused rules.RetryTooLate
unfolding desk_on_literals
a_retry_for_the_day_behind_the_180_days = refl

a_retry_for_the_last_of_the_180_days : reply (DaySet 20270 ∷ returned_with 1) (Retry (retry (codes "RT-1") (codes "PAY-2") (codes "2025-07-09")))
    ≡ accepted_as 2 (codes "RT-1") 2500
unfolding desk_on_literals
a_retry_for_the_last_of_the_180_days = refl

-- but cut on that day it would settle on the day after it
abbrev cut_in_july : List Event
cut_in_july =
    CutMade ∷ DaySet 20278 ∷ Asked (Retry (retry (codes "RT-1") (codes "PAY-2") (codes "2025-07-09"))) ∷ DaySet 20270 ∷ returned_with 1

it_lapses_where_it_would_settle_later : states_under cut_in_july (codes "RT-1") ≡ Some (states.Lapsed ∷ [])
unfolding desk_on_literals
it_lapses_where_it_would_settle_later = refl

-- ---- two retries

-- the first settled on 01-16 and was returned as R09 on 01-17, the second settled on 01-22 and was returned as R01 on
-- 01-23
abbrev tried_once : List Event
tried_once =
    Returned (codes "RT-1") 1 9 no_information ∷ DaySet 20105 ∷ CutMade ∷ DaySet 20103
    ∷ Asked (Retry (retry (codes "RT-1") (codes "PAY-2") (codes "2025-01-16"))) ∷ returned_with 1

abbrev tried_twice : List Event
tried_twice =
    Returned (codes "RT-2") 1 1 no_information ∷ DaySet 20111 ∷ CutMade ∷ DaySet 20109
    ∷ Asked (Retry (retry (codes "RT-2") (codes "PAY-2") (codes "2025-01-22"))) ∷ tried_once

the_first_retry_came_back : states_under tried_once (codes "RT-1") ≡ Some (states.Returned 20104 9 20105 false ∷ [])
unfolding desk_on_literals
the_first_retry_came_back = refl

a_second_retry_is_accepted : reply tried_once (Retry (retry (codes "RT-2") (codes "PAY-2") (codes "2025-01-22")))
    ≡ accepted_as 3 (codes "RT-2") 2500
unfolding desk_on_literals
a_second_retry_is_accepted = refl

the_second_retry_came_back : states_under tried_twice (codes "RT-2") ≡ Some (states.Returned 20110 1 20111 false ∷ [])
unfolding desk_on_literals
the_second_retry_came_back = refl

a_third_retry_is_refused : reply tried_twice (Retry (retry (codes "RT-3") (codes "PAY-2") (codes "2025-01-29")))
    ≡ refused rules.RetriesSpent
unfolding desk_on_literals
a_third_retry_is_refused = refl

-- ---- a stopped payment

abbrev authorized_by : Optional (List ℕ) → RetryDraft
authorized_by authorized = retry_with (codes "RT-1") (codes "PAY-2") (codes "2025-01-22") authorized

-- the answer on 01-15 to a retry for 2025-01-22, if the debit was returned on 01-14 with this code
abbrev answer_to : ℕ → Optional (List ℕ) → Answer
answer_to code authorized = reply (DaySet 20103 ∷ returned_with code) (Retry (authorized_by authorized))

a_stopped_payment_without_authorization : answer_to 8 Absent ≡ refused (rules.NotRetryable 8)
unfolding desk_on_literals
a_stopped_payment_without_authorization = refl

authorized_before_the_return : answer_to 8 (Given (codes "2025-01-13")) ≡ refused (rules.NotRetryable 8)
unfolding desk_on_literals
authorized_before_the_return = refl

authorized_after_the_desk_day : answer_to 8 (Given (codes "2025-01-16")) ≡ refused (rules.NotRetryable 8)
unfolding desk_on_literals
authorized_after_the_desk_day = refl

authorized_on_the_day_of_the_return : answer_to 8 (Given (codes "2025-01-14")) ≡ accepted_as 2 (codes "RT-1") 2500
unfolding desk_on_literals
authorized_on_the_day_of_the_return = refl

the_same_retry_with_another_authorization : reply (Asked (Retry (authorized_by (Given (codes "2025-01-14")))) ∷ DaySet 20103 ∷ returned_with 8) (Retry (authorized_by (Given (codes "2025-01-15"))))
    ≡ refused rules.RefReused
unfolding desk_on_literals
the_same_retry_with_another_authorization = refl

-- an authorization helps no other code
a_closed_account_is_not_tried_again : answer_to 2 (Given (codes "2025-01-14")) ≡ refused (rules.NotRetryable 2)
unfolding desk_on_literals
a_closed_account_is_not_tried_again = refl

an_authorization_that_is_no_text : answer_to 2 Wrong ≡ refused (rules.BadField fields.Authorized 0)
unfolding desk_on_literals
an_authorization_that_is_no_text = refl

-- ---- return rates

-- more than 5 of 1,000
one_of_200_is_not_over : exceeds Unauthorized 1 200 ≡ false
one_of_200_is_not_over = refl

two_of_399_is_over : exceeds Unauthorized 2 399 ≡ true
two_of_399_is_over = refl

none_of_none_is_not_over : exceeds Unauthorized 0 0 ≡ false
none_of_none_is_not_over = refl

one_of_none_is_over : exceeds Unauthorized 1 0 ≡ true
one_of_none_is_over = refl

-- the one debit was returned for lack of funds: that counts overall alone
rates_of_one_returned_debit : reply (returned_with 1) Rates ≡ Done (done.Rates (record {
  day = 20102;
  rates = record {
    unauthorized = record { n = 0; d = 1; over = false };
    administrative = record { n = 0; d = 1; over = false };
    overall = record { n = 1; d = 1; over = true };
  };
}))
unfolding desk_on_literals
rates_of_one_returned_debit = refl
