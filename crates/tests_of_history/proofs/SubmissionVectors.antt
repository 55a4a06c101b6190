-- Submissions, computed over one company's part of a history.
use Rattle.std.specs.Prelude.{◌≡◌, ◌++◌, ℕ, List, [], ◌∷◌, replicate, Some, None, codes, refl}
use Rattle.desk_rules.specs.declared.bodies.draft.Draft.{Draft}
use Rattle.desk_rules.specs.declared.rules.entry_fact.EntryState.TheVariants as states
use Rattle.desk_rules.specs.declared.refusals.refusal.Field.TheVariants as fields
use Rattle.desk_rules.specs.declared.refusals.refusal.Refusal.TheVariants as rules
use Rattle.desk_rules.specs.declared.bodies.submission.Direction.TheVariants as directions
use Rattle.desk_rules.specs.declared.bodies.submission.SecCode.TheVariants as secs
use Rattle.desk_history.specs.declared.answer.Answer.TheVariants.{Done}
use Rattle.desk_history.specs.declared.answer.Outcome.TheVariants as done
use Rattle.desk_history.specs.Part.{Event, DaySet, Registered, Limited, Asked, CutMade}
use Rattle.desk_history.specs.Reply.{reply}
use Rattle.desk_history.specs.Request.{Submit, LookUp, Returns, Exposure}
use Rattle.tests_of_history.proofs.OnLiterals.{desk_on_literals}
use Rattle.tests_of_history.proofs.Samples.{wide_limits, digest, credit_entry, credits, credit, debit, pay_1, pay_2, bad_routing, accepted_as, refused, opened}

-- ---- accepted, and asked again

abbrev asked_once : List Event
asked_once = Asked (Submit pay_1) ∷ opened 20096

a_submission_is_accepted : reply (opened 20096) (Submit pay_1) ≡ accepted_as 1 (codes "PAY-1") 150000
unfolding desk_on_literals
a_submission_is_accepted = refl

it_is_held : reply asked_once (LookUp (codes "PAY-1")) ≡ Done (done.Found (Some (record {
  cents = 150000;
  day = 20098;
  direction = directions.Credit;
  entries = record { cents = 150000; index = 1; state = states.Held } ∷ [];
  retried = None;
  order = 1;
  reference = codes "PAY-1";
  sec = secs.Ppd;
})))
unfolding desk_on_literals
it_is_held = refl

an_unknown_reference : reply asked_once (LookUp (codes "PAY-2")) ≡ Done (done.Found None)
unfolding desk_on_literals
an_unknown_reference = refl

asked_again_it_answers_as_the_first_time : reply asked_once (Submit pay_1) ≡ accepted_as 1 (codes "PAY-1") 150000
unfolding desk_on_literals
asked_again_it_answers_as_the_first_time = refl

the_same_reference_with_other_cents : reply asked_once (Submit (credit (codes "PAY-1") 150001 (codes "2025-01-10")))
    ≡ refused rules.RefReused
unfolding desk_on_literals
the_same_reference_with_other_cents = refl

asked_again_it_is_no_second_submission : reply (Asked (Submit pay_1) ∷ asked_once) (Submit pay_2) ≡ accepted_as 2 (codes "PAY-2") 2500
unfolding desk_on_literals
asked_again_it_is_no_second_submission = refl

-- it was asked for the desk day, which is too early
a_refused_submission_leaves_its_reference_free : reply (Asked (Submit (credit (codes "PAY-1") 150000 (codes "2025-01-08"))) ∷ opened 20096) (Submit pay_1)
    ≡ accepted_as 1 (codes "PAY-1") 150000
unfolding desk_on_literals
a_refused_submission_leaves_its_reference_free = refl

-- ---- refusals

-- the check digit is 9, not 8
a_wrong_check_digit : reply (opened 20096) (Submit bad_routing) ≡ refused (rules.BadField fields.Routing 1)
unfolding desk_on_literals
a_wrong_check_digit = refl

-- no day comes before a bad field
before_any_day : reply (Registered (codes "MILL STREET") digest wide_limits ∷ []) (Submit pay_1) ≡ refused rules.NoDay
unfolding desk_on_literals
before_any_day = refl

a_bad_field_before_any_day : reply (Registered (codes "MILL STREET") digest wide_limits ∷ []) (Submit bad_routing) ≡ refused rules.NoDay
unfolding desk_on_literals
a_bad_field_before_any_day = refl

a_company_that_is_not_registered : reply (DaySet 20096 ∷ []) Returns ≡ refused rules.NoCompany
unfolding desk_on_literals
a_company_that_is_not_registered = refl

-- the asked day is 1 to 60 days after 2025-01-08: from 01-09 to 03-09
asked_for_the_desk_day : reply (opened 20096) (Submit (credit (codes "A") 1 (codes "2025-01-08"))) ≡ refused rules.DateRange
unfolding desk_on_literals
asked_for_the_desk_day = refl

asked_for_the_next_day : reply (opened 20096) (Submit (credit (codes "A") 1 (codes "2025-01-09"))) ≡ accepted_as 1 (codes "A") 1
unfolding desk_on_literals
asked_for_the_next_day = refl

asked_for_the_sixtieth_day : reply (opened 20096) (Submit (credit (codes "A") 1 (codes "2025-03-09"))) ≡ accepted_as 1 (codes "A") 1
unfolding desk_on_literals
asked_for_the_sixtieth_day = refl

asked_for_the_day_behind_it : reply (opened 20096) (Submit (credit (codes "A") 1 (codes "2025-03-10"))) ≡ refused rules.DateRange
unfolding desk_on_literals
asked_for_the_day_behind_it = refl

-- ten digits of cents at most
the_largest_entry : reply (opened 20096) (Submit (credit (codes "A") 9999999999 (codes "2025-01-10")))
    ≡ accepted_as 1 (codes "A") 9999999999
unfolding desk_on_literals
the_largest_entry = refl

an_entry_of_eleven_digits : reply (opened 20096) (Submit (credit (codes "A") 10000000000 (codes "2025-01-10")))
    ≡ refused (rules.BadField fields.Cents 1)
unfolding desk_on_literals
an_entry_of_eleven_digits = refl

no_entry_at_all : reply (opened 20096) (Submit (credits (codes "A") (codes "2025-01-10") [])) ≡ refused (rules.BadField fields.Entries 0)
unfolding desk_on_literals
no_entry_at_all = refl

-- ---- sizes

-- 100 entries of ten nines and one of 99: a total of twelve nines
abbrev of_cents : ℕ → Draft
of_cents last = credits (codes "A") (codes "2025-01-10") (replicate 100 (Some (credit_entry 9999999999)) ++ Some (credit_entry last) ∷ [])

the_largest_total : reply (opened 20096) (Submit (of_cents 99))
    ≡ Done (done.Submitted (record { cents = 999999999999; entries = 101; order = 1; reference = codes "A" }))
unfolding desk_on_literals
the_largest_total = refl

a_cent_above_the_largest_total : reply (opened 20096) (Submit (of_cents 100)) ≡ refused rules.TotalTooLarge
unfolding desk_on_literals
a_cent_above_the_largest_total = refl

more_than_1000_entries : reply (opened 20096) (Submit (credits (codes "A") (codes "2025-01-10") (replicate 1001 (Some (credit_entry 1)))))
    ≡ refused rules.TooManyEntries
unfolding desk_on_literals
more_than_1000_entries = refl

-- ---- exposure

-- a credit of 1,500.00 and a debit of 25.00, sent on 2025-01-09, settle on Friday 01-10
abbrev both_sent : List Event
both_sent = CutMade ∷ DaySet 20097 ∷ Asked (Submit pay_2) ∷ Asked (Submit pay_1) ∷ opened 20096

-- the debit counts through its second banking day, 01-14
a_debit_is_exposed_through_the_second_banking_day : reply (DaySet 20102 ∷ both_sent) Exposure
    ≡ Done (done.Exposure (record { credit = 0; debit = 2500; day = 20102; limits = wide_limits }))
unfolding desk_on_literals
a_debit_is_exposed_through_the_second_banking_day = refl

a_debit_is_not_exposed_behind_it : reply (DaySet 20103 ∷ both_sent) Exposure
    ≡ Done (done.Exposure (record { credit = 0; debit = 0; day = 20103; limits = wide_limits }))
unfolding desk_on_literals
a_debit_is_not_exposed_behind_it = refl

-- the credit counts through its settlement, 01-10
a_credit_is_exposed_until_it_settles : reply (DaySet 20098 ∷ both_sent) Exposure
    ≡ Done (done.Exposure (record { credit = 150000; debit = 2500; day = 20098; limits = wide_limits }))
unfolding desk_on_literals
a_credit_is_exposed_until_it_settles = refl

a_credit_is_not_exposed_behind_it : reply (DaySet 20101 ∷ both_sent) Exposure
    ≡ Done (done.Exposure (record { credit = 0; debit = 2500; day = 20101; limits = wide_limits }))
unfolding desk_on_literals
a_credit_is_not_exposed_behind_it = refl

-- a credit limit of 2,000.00, with 1,500.00 held
abbrev narrow : List Event
narrow = Asked (Submit pay_1) ∷ Limited (record { entry = 9999999999; credit = 200000; debit = 0 }) ∷ opened 20096

up_to_the_credit_limit : reply narrow (Submit (credit (codes "PAY-3") 50000 (codes "2025-01-10"))) ≡ accepted_as 2 (codes "PAY-3") 50000
unfolding desk_on_literals
up_to_the_credit_limit = refl

a_cent_above_the_credit_limit : reply narrow (Submit (credit (codes "PAY-3") 50001 (codes "2025-01-10"))) ≡ refused rules.CreditLimit
unfolding desk_on_literals
a_cent_above_the_credit_limit = refl

-- this company may debit nothing
above_the_debit_limit : reply narrow (Submit (debit (codes "PAY-3") 1 (codes "2025-01-10"))) ≡ refused rules.DebitLimit
unfolding desk_on_literals
above_the_debit_limit = refl

-- entries of at most 1.00
abbrev small_entries : List Event
small_entries = Limited (record { entry = 100; credit = 200000; debit = 200000 }) ∷ opened 20096

up_to_the_entry_limit : reply small_entries (Submit (debit (codes "A") 100 (codes "2025-01-10"))) ≡ accepted_as 1 (codes "A") 100
unfolding desk_on_literals
up_to_the_entry_limit = refl

a_cent_above_the_entry_limit : reply small_entries (Submit (debit (codes "A") 101 (codes "2025-01-10"))) ≡ refused rules.EntryLimit
unfolding desk_on_literals
a_cent_above_the_entry_limit = refl
