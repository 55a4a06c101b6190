-- Whole histories, computed: several companies, a company's part, the settlement, and a desk that serves one company
-- alone.
use Rattle.std.specs.Prelude.{◌≡◌, ℕ, List, [], ◌∷◌, map, replicate, Some, None, false, pos, negsuc, codes, refl}
use Rattle.std.proofs.Common.{sym, ◌∙◌}
use Rattle.desk_accounts.specs.declared.posting.Cause.TheVariants as causes
use Rattle.desk_rules.specs.declared.bodies.draft.Draft.{Draft}
use Rattle.desk_rules.specs.declared.rules.entry_fact.EntryState.TheVariants as states
use Rattle.desk_rules.specs.declared.refusals.refusal.Refusal.TheVariants as rules
use Rattle.desk_rules.specs.declared.bodies.submission.Direction.TheVariants as directions
use Rattle.desk_rules.specs.declared.bodies.submission.SecCode.TheVariants as secs
use Rattle.desk_history.specs.declared.answer.Answer.{Answer}
use Rattle.desk_history.specs.declared.answer.Answer.TheVariants.{Done}
use Rattle.desk_history.specs.declared.answer.Outcome.TheVariants as done
use Rattle.desk_history.specs.declared.identity.Identity.{Identity}
use Rattle.desk_history.specs.Part.{Event, DaySet, HolidaysSet, Registered, Asked, CutMade, Returned}
use Rattle.desk_history.specs.History.{part, sent_entries}
use Rattle.desk_history.specs.Message.{Message, Of, PutLimits, Cut, Settlement, Pair}
use Rattle.desk_history.specs.Operator.{IsHistory, answer_to, next_pair, history_after}
use Rattle.desk_history.specs.Alone.{alone}
use Rattle.desk_history.specs.Request as request
use Rattle.desk_history.specs.Request.{Request}
use Rattle.desk_history.proofs.Equal.{two_worlds}
use Rattle.tests_of_history.proofs.OnLiterals.{desk_on_literals}
use Rattle.tests_of_history.proofs.Samples.{identity, mill, bakery, wide_limits, digest, entry_with, debits, credit, pay_1, pay_2, accepted_as, refused, listed, registers, on, submits, no_information, sample_return, first_messages, new_desk, answer_after}

-- ---- what is told makes a history

told_is_history : (us : Identity) (H : List Pair) (ms : List Message) → IsHistory us H → IsHistory us (history_after us H ms)
told_is_history us H [] before = before
told_is_history us H (m ∷ ms) before = told_is_history us (next_pair us H m ∷ H) ms (λ yes. refl, before)

the_sample_desk_is_a_history : IsHistory identity new_desk
the_sample_desk_is_a_history = told_is_history identity [] first_messages tt

-- ---- two companies

abbrev both_pay : List Pair
both_pay = history_after identity new_desk (submits mill pay_1 ∷ submits bakery (credit (codes "PAY-1") 150001 (codes "2025-01-10")) ∷ [])

-- a credit of these cents that is held under the same reference
abbrev held_with : ℕ → Answer
held_with cents = Done (done.Found (Some (record {
  cents = cents;
  day = 20098;
  direction = directions.Credit;
  entries = record { cents = cents; index = 1; state = states.Held } ∷ [];
  retried = None;
  order = 1;
  reference = codes "PAY-1";
  sec = secs.Ppd;
})))

the_same_reference_of_two_companies : answer_after new_desk (submits mill pay_1 ∷ []) (submits bakery (credit (codes "PAY-1") 150001 (codes "2025-01-10")))
    ≡ accepted_as 1 (codes "PAY-1") 150001
unfolding desk_on_literals
the_same_reference_of_two_companies = refl

each_sees_its_own : answer_to identity both_pay (Of mill (request.LookUp (codes "PAY-1"))) ≡ held_with 150000
unfolding desk_on_literals
each_sees_its_own = refl

and_the_other_its_own : answer_to identity both_pay (Of bakery (request.LookUp (codes "PAY-1"))) ≡ held_with 150001
unfolding desk_on_literals
and_the_other_its_own = refl

-- ---- registration

a_company_that_is_not_registered : answer_to identity new_desk (Of (codes "NOBODY") request.Returns) ≡ refused rules.NoCompany
unfolding desk_on_literals
a_company_that_is_not_registered = refl

a_company_is_registered_once : answer_to identity new_desk (registers mill (codes "MILL STREET") (codes "mill-street-key"))
    ≡ refused rules.CompanyExists
unfolding desk_on_literals
a_company_is_registered_once = refl

limits_of_no_company : answer_to identity new_desk (PutLimits (record { id = Some (codes "NOBODY"); limits = record { entry = Some 0; credit = Some 0; debit = Some 0 } }))
    ≡ refused rules.NoCompany
unfolding desk_on_literals
limits_of_no_company = refl

-- ---- statement and settlement

-- a credit cut on 2025-01-08, a debit on 01-09, and the debit's return on 01-14
abbrev debit_returned : List Pair
debit_returned = history_after identity new_desk (
    submits mill pay_1
    ∷ Cut
    ∷ on (codes "2025-01-09")
    ∷ submits mill pay_2
    ∷ Cut
    ∷ on (codes "2025-01-14")
    ∷ sample_return 2
    ∷ [])

the_operator_settles : answer_to identity debit_returned Settlement
    ≡ Done (done.Settlement (record { balance = pos 150000; day = 20102; days = record { cents = pos 147500; day = 20098 } ∷ record { cents = pos 2500; day = 20102 } ∷ [] }))
unfolding desk_on_literals
the_operator_settles = refl

the_company_reads_its_statement : answer_to identity debit_returned (Of mill request.Statement) ≡ Done (done.Statement (record {
  balance = negsuc 149999;
  day = 20102;
  lines =
      record { cause = causes.Cut; cents = negsuc 149999; day = 20098; index = 0; reference = codes "PAY-1" }
      ∷ record { cause = causes.Cut; cents = pos 2500; day = 20098; index = 0; reference = codes "PAY-2" }
      ∷ record { cause = causes.Return; cents = negsuc 2499; day = 20102; index = 1; reference = codes "PAY-2" }
      ∷ [];
}))
unfolding desk_on_literals
the_company_reads_its_statement = refl

-- ---- what others do is no part of a company

-- 40 debits of the other company, under the same reference
abbrev forty_debits : Draft
forty_debits = debits (codes "PAY-2") (codes "2025-01-10") (replicate 40 (Some (entry_with (codes "091000019") 100 (codes "E9") (codes "SUE ROE"))))

-- the debit is returned: if the company was alone in the cut it was sent with sequence 1, and after the other's 40
-- debits with sequence 41
abbrev quiet : List Pair
quiet = history_after identity new_desk (submits mill pay_2 ∷ on (codes "2025-01-09") ∷ Cut ∷ on (codes "2025-01-14") ∷ sample_return 1 ∷ [])

abbrev busy : List Pair
busy = history_after identity new_desk (submits mill pay_2 ∷ submits bakery forty_debits ∷ on (codes "2025-01-09") ∷ Cut ∷ on (codes "2025-01-14") ∷ sample_return 41 ∷ [])

abbrev events : List Event
events =
    Returned (codes "PAY-2") 1 1 no_information ∷ DaySet 20102 ∷ CutMade ∷ DaySet 20097 ∷ Asked (request.Submit pay_2)
    ∷ DaySet 20096 ∷ HolidaysSet listed ∷ Registered (codes "MILL STREET") digest wide_limits ∷ []

abbrev the_returns : Answer
the_returns = Done (done.Returns (record { code = 1; day = 20102; index = 1; info = no_information; late = false; reference = codes "PAY-2" } ∷ []))

the_part_in_a_quiet_history : part identity.odfi quiet mill ≡ events
unfolding desk_on_literals
the_part_in_a_quiet_history = refl

the_same_part_in_a_busy_history : part identity.odfi busy mill ≡ events
unfolding desk_on_literals
the_same_part_in_a_busy_history = refl

returns_in_a_quiet_history : answer_to identity quiet (Of mill request.Returns) ≡ the_returns
unfolding desk_on_literals
returns_in_a_quiet_history = refl

the_same_returns_in_a_busy_history : answer_to identity busy (Of mill request.Returns) ≡ the_returns
unfolding desk_on_literals
the_same_returns_in_a_busy_history = refl

-- and so for whatever it asks
every_answer_is_the_same : (r : Request) → answer_to identity quiet (Of mill r) ≡ answer_to identity busy (Of mill r)
every_answer_is_the_same r =
    two_worlds identity identity quiet busy mill r (the_part_in_a_quiet_history ∙ sym the_same_part_in_a_busy_history)

-- ---- a desk that serves the company alone

abbrev by_itself : List Pair
by_itself = alone identity mill busy

the_answers_of_that_desk : map (λ x. x.answer) by_itself
    ≡ Done (done.Taken (record { changes = 0; day = 20102; late = 0; returns = 1; suspense = 0 }))
    ∷ Done (done.Day 20102)
    ∷ Done (done.Cut (record { day = 20097; entries = 1; files = codes "A"; lapsed = 0 }))
    ∷ Done (done.Day 20097)
    ∷ accepted_as 1 (codes "PAY-2") 2500
    ∷ Done (done.Day 20096)
    ∷ Done (done.Holidays 1)
    ∷ Done (done.Company mill)
    ∷ []
unfolding desk_on_literals
the_answers_of_that_desk = refl

the_same_part_there : part identity.odfi by_itself mill ≡ events
unfolding desk_on_literals
the_same_part_there = refl

the_same_returns_there : answer_to identity by_itself (Of mill request.Returns) ≡ the_returns
unfolding desk_on_literals
the_same_returns_there = refl

every_answer_is_the_same_there : (r : Request) → answer_to identity by_itself (Of mill r) ≡ answer_to identity busy (Of mill r)
every_answer_is_the_same_there r =
    two_worlds identity identity by_itself busy mill r (the_same_part_there ∙ sym the_same_part_in_a_busy_history)

one_entry_was_sent_there : map (λ e. e.sequence) (sent_entries identity.odfi by_itself) ≡ 1 ∷ []
unfolding desk_on_literals
one_entry_was_sent_there = refl
