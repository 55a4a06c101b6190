-- A cut that would make a 37th file of its day, computed. Whether its sequences are free is proved and not
-- computed: that would take too many steps.
use Rattle.std.specs.Prelude.{◌≡◌, ◌++◌, ◌+◌, ℕ, nat_le, List, [], ◌∷◌, map, replicate, length, sum_by, Some, Err, true, false, codes, refl}
use Rattle.std.specs.List.{flat_map, range_with_len}
use Rattle.std.proofs.Common.{arith, ap, ◌∙◌}
use Rattle.ach_fields.specs.Digits.{digits}
use Rattle.desk_plan.proofs.NewSequences.{may_send-new}
use Rattle.desk_plan.specs.Modifiers.{most_files}
use Rattle.desk_plan.specs.Reuse.{may_send}
use Rattle.desk_plan.specs.Sequences.{SentSequence}
use Rattle.desk_rules.specs.declared.bodies.draft.Draft.{Draft}
use Rattle.desk_rules.specs.declared.refusals.refusal.Refusal.TheVariants as rules
use Rattle.desk_history.specs.Message.{Message, Cut, Pair}
use Rattle.desk_history.specs.Sendings.{plan_of, sent_sequence}
use Rattle.desk_history.specs.Files.{cut_sendings, files, file_count, new_files}
use Rattle.desk_history.specs.History.{day, sent_entries}
use Rattle.desk_history.specs.Cutting.{cut}
use Rattle.desk_history.specs.Operator.{history_after, answer_to, cut_answer}
use Rattle.desk_history.specs.Status.{status}
use Rattle.tests_of_history.proofs.OnLiterals.{desk_on_literals}
use Rattle.tests_of_history.proofs.Samples.{identity, on, registers, submits, credits, credit_entry, refused}

-- a cut is refused where its files and those of the day before it are more than 36
more_files_than_modifiers : (odfi : List ℕ) (H : List Pair) (d : ℕ) → day H ≡ Some d
    → may_send d (map sent_sequence (sent_entries odfi H)) (map plan_of (cut_sendings odfi H)) ≡ true
    → nat_le (file_count d (files odfi H) + length (new_files odfi H d)) most_files ≡ false
    → cut odfi H ≡ Err rules.ModifiersSpent
more_files_than_modifiers odfi H d today free many = rw (today, free, many) refl

-- a company that submits 51 credits of ten nines: with those of another they are too many cents for one file
abbrev large : Draft
large = credits (codes "A") (codes "2025-01-10") (replicate 51 (Some (credit_entry 9999999999)))

abbrev company : ℕ → List ℕ
company n = codes "C" ++ digits 2 n

abbrev messages : ℕ → List Message
messages n = registers (company n) (codes "COMPANY") (codes "company-key") ∷ submits (company n) large ∷ []

-- 37 of them
many_companies : List Pair
many_companies = history_after identity [] (on (codes "2025-01-08") ∷ flat_map messages (range_with_len 1 37))

their_day : day many_companies ≡ Some 20096
unfolding desk_on_literals many_companies
their_day = refl

nothing_was_sent : sent_entries identity.odfi many_companies ≡ []
unfolding desk_on_literals many_companies
nothing_was_sent = refl

the_entries_of_all : sum_by (λ b. b.entries) (map plan_of (cut_sendings identity.odfi many_companies)) ≡ 1887
unfolding desk_on_literals many_companies
the_entries_of_all = refl

thirty_seven_files : nat_le (file_count 20096 (files identity.odfi many_companies) + length (new_files identity.odfi many_companies 20096)) most_files
    ≡ false
unfolding desk_on_literals many_companies
thirty_seven_files = refl

-- no sequence was used before
they_may_be_sent : may_send 20096 (map sent_sequence (sent_entries identity.odfi many_companies)) (map plan_of (cut_sendings identity.odfi many_companies))
    ≡ true
they_may_be_sent =
    let none : map sent_sequence (sent_entries identity.odfi many_companies) ≡ [] = ap (map sent_sequence) nothing_was_sent in
    ap (λ (l : List SentSequence). may_send 20096 l (map plan_of (cut_sendings identity.odfi many_companies))) none
    ∙ may_send-new 20096 [] (map plan_of (cut_sendings identity.odfi many_companies)) (record { in_order = refl }) (omega (arith, the_entries_of_all))

no_modifier_is_left : answer_to identity many_companies Cut ≡ refused rules.ModifiersSpent
no_modifier_is_left = ap cut_answer (more_files_than_modifiers identity.odfi many_companies 20096 their_day they_may_be_sent thirty_seven_files)

-- the status has all 37 that the cut would need
the_status_has_them : (status identity.odfi many_companies).due_files ≡ 37
unfolding desk_on_literals many_companies
the_status_has_them = refl
