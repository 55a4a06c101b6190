-- Sequences of sent entries that are used again, computed.
use Rattle.std.specs.Prelude.{◌≡◌, ℕ, List, [], ◌∷◌, replicate, map, option_map, Some, Result, Ok, Err, true, false, codes, refl}
use Rattle.desk_plan.specs.Reuse.{may_use, may_send, latest_settled}
use Rattle.desk_plan.specs.Sequences.{ranges, are_apart}
use Rattle.desk_rules.specs.declared.refusals.refusal.Refusal.{Refusal}
use Rattle.desk_rules.specs.declared.refusals.refusal.Refusal.TheVariants.{TracesSpent}
use Rattle.desk_rules.specs.declared.bodies.submission.Direction.TheVariants.{Debit}
use Rattle.desk_rules.specs.declared.bodies.submission.SecCode.TheVariants.{Ppd}
use Rattle.desk_history.specs.declared.operations.SuspenseReason.TheVariants.{Differs}
use Rattle.desk_history.specs.declared.sent_entry.SentEntry.{SentEntry}
use Rattle.desk_history.specs.Words.{holds_or}
use Rattle.desk_history.specs.Sendings.{Sending, plan_of, sent_sequence, batches, with_sendings}
use Rattle.desk_history.specs.Resolve.{named_entry, resolve}
use Rattle.tests_of_history.proofs.OnLiterals.{desk_on_literals}
use Rattle.tests_of_history.proofs.Samples.{identity, mill, entry_of, sending_of, returning}

-- this many debits of 25.00
abbrev sending : ℕ → Sending
sending n = sending_of Debit (replicate n (entry_of 2500))

-- a debit of 7.77 that was sent with a sequence, and settled on a day
abbrev old_entry : ℕ → ℕ → SentEntry
old_entry sequence settled = record {
  sequence = sequence;
  company = mill;
  reference = codes "OLD";
  order = 1;
  index = 1;
  settled = settled;
  sec = Ppd;
  debit = true;
  entry = entry_of 777;
}

-- the last sequence is 9,999,998; 1 and 2 were sent with what settled on 2025-03-03
abbrev before : List SentEntry
before = old_entry 9999998 20400 ∷ old_entry 2 20150 ∷ old_entry 1 20150 ∷ []

-- whether a cut on a day may send these after the sent entries, as cuts ask it
abbrev verdict : ℕ → List SentEntry → List Sending → Result (Unit {0}) Refusal
verdict day sent sendings = holds_or TracesSpent (may_send day (map sent_sequence sent) (map plan_of sendings))

-- the sequences of what was sent, the newest first
abbrev sequences : List SentEntry → List ℕ
sequences sent = map (λ e. e.sequence) sent

-- ---- a batch that begins at 1 again

-- two entries would pass 9,999,999
they_begin_at_1 : map (λ b. b.first) (batches before (sending 2 ∷ [])) ≡ 1 ∷ []
unfolding desk_on_literals
they_begin_at_1 = refl

they_take_1_and_2 : sequences (with_sendings before (sending 2 ∷ [])) ≡ 2 ∷ 1 ∷ 9999998 ∷ 2 ∷ 1 ∷ []
unfolding desk_on_literals
they_take_1_and_2 = refl

-- 365 days after the settlement, on 2026-03-03, and a day later
not_before_366_days : verdict 20515 before (sending 2 ∷ []) ≡ Err TracesSpent
unfolding desk_on_literals
not_before_366_days = refl

after_366_days : verdict 20516 before (sending 2 ∷ []) ≡ Ok tt
unfolding desk_on_literals
after_366_days = refl

-- ---- two batches in one cut

one_takes_the_last_sequence_and_two_begin_at_1 : sequences (with_sendings before (sending 1 ∷ sending 2 ∷ []))
    ≡ 2 ∷ 1 ∷ 9999999 ∷ 9999998 ∷ 2 ∷ 1 ∷ []
unfolding desk_on_literals
one_takes_the_last_sequence_and_two_begin_at_1 = refl

both_may_be_sent : verdict 20516 before (sending 1 ∷ sending 2 ∷ []) ≡ Ok tt
unfolding desk_on_literals
both_may_be_sent = refl

-- after 9,999,998 one entry alone is sent on any day
one_may_be_sent_before : verdict 20515 before (sending 1 ∷ []) ≡ Ok tt
unfolding desk_on_literals
one_may_be_sent_before = refl

-- after 9,999,999 two batches take 1 and 2
two_batches_behind_the_largest_sequence : verdict 20516 (old_entry 9999999 20000 ∷ []) (sending 1 ∷ sending 1 ∷ []) ≡ Ok tt
unfolding desk_on_literals
two_batches_behind_the_largest_sequence = refl

they_take_the_first_two : sequences (with_sendings (old_entry 9999999 20000 ∷ []) (sending 1 ∷ sending 1 ∷ [])) ≡ 2 ∷ 1 ∷ 9999999 ∷ []
unfolding desk_on_literals
they_take_the_first_two = refl

-- ---- ranges

the_ranges_of_two_batches : ranges 9999998 (1 ∷ 2 ∷ []) ≡ (9999999, 9999999) ∷ (1, 2) ∷ []
unfolding desk_on_literals
the_ranges_of_two_batches = refl

they_are_apart : are_apart (ranges 9999998 (1 ∷ 2 ∷ [])) ≡ true
unfolding desk_on_literals
they_are_apart = refl

-- a cut does not use a sequence twice: what a batch before took may not be used, whatever the day
a_sequence_of_a_batch_before : may_use 20516 (map sent_sequence (with_sendings [] (sending 1 ∷ []))) 1 ≡ false
unfolding desk_on_literals
a_sequence_of_a_batch_before = refl

more_entries_than_sequences : are_apart (ranges 0 (9999999 ∷ 1 ∷ [])) ≡ false
unfolding desk_on_literals
more_entries_than_sequences = refl

the_latest_settlement_of_a_range : latest_settled (map sent_sequence before) (1, 2) ≡ Some 20150
unfolding desk_on_literals
the_latest_settlement_of_a_range = refl

-- ---- a return that names a sequence that was used again

abbrev sent_again : List SentEntry
sent_again = with_sendings before (sending 2 ∷ [])

it_meets_the_new_entry : option_map (λ e. e.reference) (named_entry identity.odfi sent_again (returning (codes "R01") 1 2500))
    ≡ Some (codes "NEW")
unfolding desk_on_literals
it_meets_the_new_entry = refl

the_amount_of_the_old_entry_differs : resolve identity.odfi sent_again (returning (codes "R01") 1 777) ≡ Err Differs
unfolding desk_on_literals
the_amount_of_the_old_entry_differs = refl

-- before, it met the old entry
it_met_the_old_entry : option_map (λ e. e.reference) (named_entry identity.odfi before (returning (codes "R01") 1 777)) ≡ Some (codes "OLD")
unfolding desk_on_literals
it_met_the_old_entry = refl
