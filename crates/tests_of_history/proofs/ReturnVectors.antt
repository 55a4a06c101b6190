-- Files of returns and changes, computed over whole histories.
use Rattle.std.specs.Prelude.{◌≡◌, ◌++◌, ℕ, List, [], ◌∷◌, map, replicate, Some, Bool, true, false, pos, negsuc, Ok, Err, codes, refl}
use Rattle.ach_files.specs.declared.facts.ReturnOrChange.TheVariants as kinds
use Rattle.ach_files.specs.declared.fault.Fault.{Fault}
use Rattle.ach_files.specs.declared.fault.FileFault.TheVariants.{BadOrder}
use Rattle.desk_accounts.specs.declared.account.Account.TheVariants as accounts
use Rattle.desk_accounts.specs.Balance.{balance, total}
use Rattle.desk_rules.specs.declared.rules.entry_fact.EntryState.TheVariants as states
use Rattle.desk_rules.specs.declared.refusals.refusal.Refusal.TheVariants as rules
use Rattle.desk_history.specs.declared.answer.Answer.{Answer}
use Rattle.desk_history.specs.declared.answer.Answer.TheVariants.{Done, Refused}
use Rattle.desk_history.specs.declared.answer.Outcome.TheVariants as done
use Rattle.desk_history.specs.declared.answer.CallRefusal.TheVariants.{BadFile}
use Rattle.desk_history.specs.declared.operations.SuspenseRow.{SuspenseRow}
use Rattle.desk_history.specs.declared.operations.SuspenseReason.{SuspenseReason}
use Rattle.desk_history.specs.declared.operations.SuspenseReason.TheVariants.{NoTrace, Differs, CodeOutside, AlreadyReturned}
use Rattle.desk_history.specs.declared.reports.ReturnRow.{ReturnRow}
use Rattle.desk_history.specs.History.{part}
use Rattle.desk_history.specs.Intake.{suspense}
use Rattle.desk_history.specs.Message.{Message, Of, SetHolidays, Cut, TakeFile, Suspense, Pair}
use Rattle.desk_history.specs.Operator.{answer_to, history_after}
use Rattle.desk_history.specs.Postings.{postings}
use Rattle.desk_history.specs.Request as request
use Rattle.tests_of_history.proofs.OnLiterals.{desk_on_literals}
use Rattle.tests_of_history.proofs.Samples.{identity, mill, pay_2, debit, no_information, refused, states_under, on, submits, returning, file_as, sample_return, new_desk, answer_after}

-- the answer to a file that was first taken on a day: its changes, late returns, returns and items in suspense
abbrev taken_on : ℕ → ℕ → ℕ → ℕ → ℕ → Answer
taken_on day changes late returns suspense =
    Done (done.Taken (record { changes = changes; day = day; late = late; returns = returns; suspense = suspense }))

-- ---- the sample return

-- a debit of 25.00 was sent on 2025-01-09 with the first sequence; it is 01-14
abbrev debit_sent : List Pair
debit_sent = history_after identity new_desk (submits mill pay_2 ∷ on (codes "2025-01-09") ∷ Cut ∷ on (codes "2025-01-14") ∷ [])

abbrev returned_row : ℕ → Bool → ReturnRow
returned_row day late = record { code = 1; day = day; index = 1; info = no_information; late = late; reference = codes "PAY-2" }

a_return_is_taken : answer_to identity debit_sent (sample_return 1) ≡ taken_on 20102 0 0 1 0
unfolding desk_on_literals
a_return_is_taken = refl

the_same_file_again : answer_after debit_sent (sample_return 1 ∷ []) (sample_return 1) ≡ taken_on 20102 0 0 1 0
unfolding desk_on_literals
the_same_file_again = refl

the_same_file_on_another_day : answer_after debit_sent (sample_return 1 ∷ on (codes "2025-01-15") ∷ []) (sample_return 1)
    ≡ taken_on 20102 0 0 1 0
unfolding desk_on_literals
the_same_file_on_another_day = refl

the_same_file_returns_nothing_more : answer_after debit_sent (sample_return 1 ∷ sample_return 1 ∷ []) (Of mill request.Returns)
    ≡ Done (done.Returns (returned_row 20102 false ∷ []))
unfolding desk_on_literals
the_same_file_returns_nothing_more = refl

its_key_with_another_digest : answer_after debit_sent (sample_return 1 ∷ []) (file_as (codes "A") 2 (returning (codes "R01") 1 2500 ∷ []))
    ≡ refused rules.FileKeyReused
unfolding desk_on_literals
its_key_with_another_digest = refl

-- ---- late returns

-- the second banking day after 2025-01-10 is 01-14
a_return_on_the_day_behind_the_deadline : answer_after debit_sent (on (codes "2025-01-15") ∷ []) (sample_return 1) ≡ taken_on 20103 0 1 1 0
unfolding desk_on_literals
a_return_on_the_day_behind_the_deadline = refl

-- with holidays on 01-13 and 01-14 it would have been in time
it_stays_late_under_another_holiday_list : answer_after debit_sent (on (codes "2025-01-15") ∷ sample_return 1 ∷ SetHolidays (Ok (20101 ∷ 20102 ∷ [])) ∷ []) (Of mill request.Returns)
    ≡ Done (done.Returns (returned_row 20103 true ∷ []))
unfolding desk_on_literals
it_stays_late_under_another_holiday_list = refl

-- ---- suspense

-- two debits of 25.00 were sent, and the first is returned
abbrev two_debits : List Pair
two_debits = history_after identity new_desk (
    submits mill pay_2
    ∷ submits mill (debit (codes "PAY-3") 2500 (codes "2025-01-10"))
    ∷ on (codes "2025-01-09")
    ∷ Cut
    ∷ on (codes "2025-01-14")
    ∷ sample_return 1
    ∷ [])

-- an unknown trace, another amount, a code above R29, and the returned debit
abbrev four_returns : Message
four_returns = file_as (codes "B") 2 (
    returning (codes "R01") 9 2500
    ∷ returning (codes "R01") 2 2600
    ∷ returning (codes "R31") 2 2500
    ∷ returning (codes "R01") 1 2500
    ∷ [])

abbrev with_suspense : List Pair
with_suspense = history_after identity two_debits (four_returns ∷ [])

-- an item of that file in suspense
abbrev suspended : ℕ → ℕ → List ℕ → List ℕ → SuspenseReason → SuspenseRow
suspended number cents code trace why =
    record { cents = cents; code = code; day = 20102; file = codes " 0610001462501140930B"; item = number; trace = trace; why = why }

four_returns_in_suspense : answer_to identity two_debits four_returns ≡ taken_on 20102 0 0 0 4
unfolding desk_on_literals
four_returns_in_suspense = refl

why_they_are_in_suspense : answer_to identity with_suspense Suspense ≡ Done (done.Suspense (
    suspended 1 2500 (codes "R01") (codes "121042880000009") NoTrace
    ∷ suspended 2 2600 (codes "R01") (codes "121042880000002") Differs
    ∷ suspended 3 2500 (codes "R31") (codes "121042880000002") CodeOutside
    ∷ suspended 4 2500 (codes "R01") (codes "121042880000001") AlreadyReturned
    ∷ []))
unfolding desk_on_literals
why_they_are_in_suspense = refl

their_money_stands_on_the_account_of_suspense : balance accounts.Suspense 20102 (postings identity.odfi with_suspense) ≡ negsuc 10099
unfolding desk_on_literals
their_money_stands_on_the_account_of_suspense = refl

all_accounts_sum_to_zero : total (postings identity.odfi with_suspense) ≡ pos 0
unfolding desk_on_literals
all_accounts_sum_to_zero = refl

-- a code of credits, another bank, and another SEC code
abbrev three_that_differ : Message
three_that_differ = file_as (codes "B") 5 (
    record (returning (codes "R01") 1 2500) { transaction_code = 21 }
    ∷ record (returning (codes "R01") 1 2500) { original_dfi = codes "02100002" }
    ∷ record (returning (codes "R01") 1 2500) { sec_code = codes "CCD" }
    ∷ [])

returns_of_another_entry : map (λ x. x.why) (suspense identity.odfi (history_after identity debit_sent (three_that_differ ∷ [])))
    ≡ Differs ∷ Differs ∷ Differs ∷ []
unfolding desk_on_literals
returns_of_another_entry = refl

one_file_returns_an_entry_twice : answer_to identity debit_sent (file_as (codes "B") 3 (returning (codes "R01") 1 2500 ∷ returning (codes "R01") 1 2500 ∷ []))
    ≡ taken_on 20102 0 0 1 1
unfolding desk_on_literals
one_file_returns_an_entry_twice = refl

-- ---- changes

abbrev corrected : List ℕ
corrected = codes "987654321" ++ replicate 20 32

-- a change of the debit, in a batch of this SEC code
abbrev change_file : List ℕ → List ℕ → Message
change_file sec code = file_as (codes "C") 4 (record {
  sec_code = sec;
  transaction_code = 26;
  cents = 0;
  code = code;
  original_trace = codes "121042880000001";
  original_dfi = codes "09100001";
  return_or_change = kinds.Change corrected;
} ∷ [])

a_change_is_taken : answer_to identity debit_sent (change_file (codes "COR") (codes "C01")) ≡ taken_on 20102 1 0 0 0
unfolding desk_on_literals
a_change_is_taken = refl

it_is_listed : answer_after debit_sent (change_file (codes "COR") (codes "C01") ∷ []) (Of mill request.Changes)
    ≡ Done (done.Changes (record { code = codes "C01"; day = 20102; index = 1; reference = codes "PAY-2"; text = corrected } ∷ []))
unfolding desk_on_literals
it_is_listed = refl

its_entry_is_still_sent : states_under (part identity.odfi (history_after identity debit_sent (change_file (codes "COR") (codes "C01") ∷ [])) mill) (codes "PAY-2")
    ≡ Some (states.Sent 20098 ∷ [])
unfolding desk_on_literals
its_entry_is_still_sent = refl

-- a change in suspense has no money
abbrev suspended_change : List ℕ → SuspenseReason → SuspenseRow
suspended_change code why =
    record { cents = 0; code = code; day = 20102; file = codes " 0610001462501140930C"; item = 1; trace = codes "121042880000001"; why = why }

a_change_code_above_c14 : answer_after debit_sent (change_file (codes "COR") (codes "C15") ∷ []) Suspense
    ≡ Done (done.Suspense (suspended_change (codes "C15") CodeOutside ∷ []))
unfolding desk_on_literals
a_change_code_above_c14 = refl

a_change_in_a_ppd_batch : answer_after debit_sent (change_file (codes "PPD") (codes "C01") ∷ []) Suspense
    ≡ Done (done.Suspense (suspended_change (codes "C01") Differs ∷ []))
unfolding desk_on_literals
a_change_in_a_ppd_batch = refl

-- ---- files with a fault

abbrev empty_file : Fault
empty_file = record { kind = BadOrder; at = 1 }

a_bad_file : answer_to identity new_desk (TakeFile (Err empty_file)) ≡ Refused (BadFile empty_file)
unfolding desk_on_literals
a_bad_file = refl

a_bad_file_before_any_day : answer_to identity [] (TakeFile (Err empty_file)) ≡ refused rules.NoDay
unfolding desk_on_literals
a_bad_file_before_any_day = refl
