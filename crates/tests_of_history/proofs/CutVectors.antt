-- Cuts, computed over whole histories.
use Rattle.std.specs.Prelude.{◌≡◌, ◌++◌, ℕ, List, [], ◌∷◌, map, codes, refl}
use Rattle.desk_rules.specs.declared.refusals.refusal.Refusal.TheVariants as rules
use Rattle.desk_history.specs.declared.answer.Answer.{Answer}
use Rattle.desk_history.specs.declared.answer.Answer.TheVariants.{Done}
use Rattle.desk_history.specs.declared.answer.Outcome.TheVariants as done
use Rattle.desk_history.specs.History.{sent_entries}
use Rattle.desk_history.specs.Message.{Message, Cut, Pair}
use Rattle.desk_history.specs.Operator.{answer_to, history_after}
use Rattle.tests_of_history.proofs.OnLiterals.{desk_on_literals}
use Rattle.tests_of_history.proofs.Samples.{identity, mill, pay_1, pay_2, retry, refused, on, submits, retries, sample_return, new_desk, answer_after}

-- a cut on a day that sent this many entries in these files
abbrev cut_on : ℕ → ℕ → List ℕ → ℕ → Answer
cut_on day entries files lapsed = Done (done.Cut (record { day = day; entries = entries; files = files; lapsed = lapsed }))

a_cut_before_any_day : answer_to identity [] Cut ≡ refused rules.NoDay
unfolding desk_on_literals
a_cut_before_any_day = refl

-- ---- a credit and a debit for Friday 2025-01-10

abbrev both : List Pair
both = history_after identity new_desk (submits mill pay_1 ∷ submits mill pay_2 ∷ [])

-- on 2025-01-08 the credit is due, and the debit on 01-09
the_credit_is_sent_first : answer_to identity both Cut ≡ cut_on 20096 1 (codes "A") 0
unfolding desk_on_literals
the_credit_is_sent_first = refl

a_second_cut_sends_nothing : answer_after both (Cut ∷ []) Cut ≡ cut_on 20096 0 [] 0
unfolding desk_on_literals
a_second_cut_sends_nothing = refl

the_debit_is_sent_on_the_next_day : answer_after both (Cut ∷ Cut ∷ on (codes "2025-01-09") ∷ []) Cut ≡ cut_on 20097 1 (codes "A") 0
unfolding desk_on_literals
the_debit_is_sent_on_the_next_day = refl

-- sent entries are listed with the newest first
it_has_the_second_sequence : map (λ e. e.sequence) (sent_entries identity.odfi (history_after identity both (Cut ∷ Cut ∷ on (codes "2025-01-09") ∷ Cut ∷ [])))
    ≡ 2 ∷ 1 ∷ []
unfolding desk_on_literals
it_has_the_second_sequence = refl

both_in_one_file : answer_after both (on (codes "2025-01-09") ∷ []) Cut ≡ cut_on 20097 2 (codes "A") 0
unfolding desk_on_literals
both_in_one_file = refl

-- ---- a retry that lapses

-- a debit is returned, and on 2025-07-01 a retry asks for 07-09, the last of the 180 days
abbrev until_july : List Message
until_july =
    submits mill pay_2
    ∷ on (codes "2025-01-09")
    ∷ Cut
    ∷ on (codes "2025-01-14")
    ∷ sample_return 1
    ∷ on (codes "2025-07-01")
    ∷ retries mill (retry (codes "RT-1") (codes "PAY-2") (codes "2025-07-09"))
    ∷ []

-- cut on 07-09 it would settle on the next day
a_retry_that_lapses_is_not_sent : answer_after new_desk (until_july ++ on (codes "2025-07-09") ∷ []) Cut ≡ cut_on 20278 0 [] 1
unfolding desk_on_literals
a_retry_that_lapses_is_not_sent = refl

-- cut on 07-08 it is sent, and settles on 07-09
a_retry_cut_a_day_before_is_sent : answer_after new_desk (until_july ++ on (codes "2025-07-08") ∷ []) Cut ≡ cut_on 20277 1 (codes "A") 0
unfolding desk_on_literals
a_retry_cut_a_day_before_is_sent = refl
