-- The effect of cuts on one company's submissions, and its statement, computed over its part of a history.
use Rattle.std.specs.Prelude.{◌≡◌, List, [], ◌∷◌, Some, pos, negsuc, codes, refl}
use Rattle.desk_accounts.specs.declared.posting.Cause.TheVariants as causes
use Rattle.desk_rules.specs.declared.rules.entry_fact.EntryState.TheVariants as states
use Rattle.desk_history.specs.declared.answer.Answer.TheVariants.{Done}
use Rattle.desk_history.specs.declared.answer.Outcome.TheVariants as done
use Rattle.desk_history.specs.declared.reports.StatementLine.{StatementLine}
use Rattle.desk_history.specs.Part.{Event, DaySet, Asked, CutMade, Returned}
use Rattle.desk_history.specs.Reply.{reply}
use Rattle.desk_history.specs.Reports.{lines}
use Rattle.desk_history.specs.Request.{Submit, Statement}
use Rattle.tests_of_history.proofs.OnLiterals.{desk_on_literals}
use Rattle.tests_of_history.proofs.Samples.{pay_1, pay_2, prenote, credit, debit, no_information, opened, states_under}

-- ---- when a cut sends

-- a credit and a debit for Saturday 2025-01-18, cut on Thursday 01-16: they would settle after the
-- weekend and the holiday, on 01-21
abbrev weekend : List Event
weekend =
    CutMade ∷ Asked (Submit (debit (codes "D") 100 (codes "2025-01-18")))
    ∷ Asked (Submit (credit (codes "C") 100 (codes "2025-01-18"))) ∷ opened 20104

a_credit_is_sent_two_banking_days_ahead : states_under weekend (codes "C") ≡ Some (states.Sent 20109 ∷ [])
unfolding desk_on_literals
a_credit_is_sent_two_banking_days_ahead = refl

a_debit_is_held_until_the_day_before : states_under weekend (codes "D") ≡ Some (states.Held ∷ [])
unfolding desk_on_literals
a_debit_is_held_until_the_day_before = refl

it_is_sent_on_friday : states_under (CutMade ∷ DaySet 20105 ∷ weekend) (codes "D") ≡ Some (states.Sent 20109 ∷ [])
unfolding desk_on_literals
it_is_sent_on_friday = refl

-- ---- the statement

-- a credit of 1,500.00 was cut on 2025-01-08 and a debit of 25.00 on 01-09; both settle on 01-10
abbrev both_sent : List Event
both_sent = CutMade ∷ Asked (Submit pay_2) ∷ DaySet 20097 ∷ CutMade ∷ Asked (Submit pay_1) ∷ opened 20096

-- the debit is returned on 01-14
abbrev debit_returned : List Event
debit_returned = Returned (codes "PAY-2") 1 1 no_information ∷ DaySet 20102 ∷ both_sent

abbrev credit_line : StatementLine
credit_line = record { cause = causes.Cut; cents = negsuc 149999; day = 20098; index = 0; reference = codes "PAY-1" }

abbrev debit_line : StatementLine
debit_line = record { cause = causes.Cut; cents = pos 2500; day = 20098; index = 0; reference = codes "PAY-2" }

abbrev returned_line : StatementLine
returned_line = record { cause = causes.Return; cents = negsuc 2499; day = 20102; index = 1; reference = codes "PAY-2" }

a_statement : reply debit_returned Statement
    ≡ Done (done.Statement (record { balance = negsuc 149999; day = 20102; lines = credit_line ∷ debit_line ∷ returned_line ∷ [] }))
unfolding desk_on_literals
a_statement = refl

-- a line counts from its value day on: on 2025-01-09 none does
a_statement_before_settlement : reply both_sent Statement
    ≡ Done (done.Statement (record { balance = pos 0; day = 20097; lines = credit_line ∷ debit_line ∷ [] }))
unfolding desk_on_literals
a_statement_before_settlement = refl

-- ---- a prenote

abbrev prenote_sent : List Event
prenote_sent = CutMade ∷ Asked (Submit prenote) ∷ opened 20096

a_prenote_is_sent : states_under prenote_sent (codes "PRE") ≡ Some (states.Sent 20098 ∷ [])
unfolding desk_on_literals
a_prenote_is_sent = refl

a_prenote_has_no_line : lines prenote_sent ≡ []
unfolding desk_on_literals
a_prenote_has_no_line = refl

a_statement_without_lines : reply prenote_sent Statement ≡ Done (done.Statement (record { balance = pos 0; day = 20096; lines = [] }))
unfolding desk_on_literals
a_statement_without_lines = refl
