-- The files of cuts, computed.
use Rattle.std.specs.Prelude.{◌≡◌, ◌++◌, ℕ, List, [], ◌∷◌, length, map, replicate, Some, None, Bool, true, false, codes, refl}
use Rattle.ach_files.specs.declared.outgoing.Addenda.TheVariants as addendas
use Rattle.ach_files.specs.declared.outgoing.Outgoing.{Outgoing}
use Rattle.ach_files.specs.declared.outgoing.OutgoingBatch.{OutgoingBatch}
use Rattle.ach_files.specs.declared.outgoing.OutgoingEntry.{OutgoingEntry}
use Rattle.ach_files.specs.Outgoing.{entry_rows, entry_sums, batch_sums, file_sums, main_count, batch_control, file_control, filler_count}
use Rattle.ach_fields.specs.Ymd.{date_text as short_text}
use Rattle.bank_days.specs.Date.{date_of_number}
use Rattle.bank_days.specs.Day.{day_ymd}
use Rattle.desk_plan.specs.Modifiers.{modifier_of, modifier_at}
use Rattle.desk_rules.specs.declared.bodies.draft.Draft.{Draft}
use Rattle.desk_rules.specs.declared.bodies.submission.AccountKind.{AccountKind}
use Rattle.desk_rules.specs.declared.bodies.submission.AccountKind.TheVariants.{Checking, Savings}
use Rattle.desk_rules.specs.declared.bodies.submission.Direction.TheVariants.{Credit, Debit}
use Rattle.desk_history.specs.declared.answer.Answer.TheVariants.{Done}
use Rattle.desk_history.specs.declared.answer.Outcome.TheVariants as done
use Rattle.desk_history.specs.Message.{Cut, FileText, Pair}
use Rattle.desk_history.specs.Sendings.{Sending, batches}
use Rattle.desk_history.specs.Files.{runs_of, files_from, new_files, file_places, borrow_of, transaction_of, outgoing}
use Rattle.desk_history.specs.Operator.{answer_to, history_after}
use Rattle.tests_of_history.proofs.OnLiterals.{desk_on_literals}
use Rattle.tests_of_history.proofs.Samples.{identity, mill, bakery, credit, credit_entry, credits, pay_1, pay_2, entry_of, sending_of, on, submits, new_desk, answer_after}

-- ---- the division into files

-- as many cents of credits as a file may have
abbrev full : Sending
full = sending_of Credit (replicate 100 (entry_of 9999999999) ++ entry_of 99 ∷ [])

a_cent_more_begins_a_new_file : map length (runs_of (batches [] (full ∷ sending_of Credit (entry_of 1 ∷ []) ∷ []))) ≡ 1 ∷ 1 ∷ []
unfolding desk_on_literals
a_cent_more_begins_a_new_file = refl

the_two_files_are_a_and_b : map (λ f. f.modifier) (files_from 20096 0 (runs_of (batches [] (full ∷ sending_of Credit (entry_of 1 ∷ []) ∷ []))))
    ≡ codes "AB"
unfolding desk_on_literals
the_two_files_are_a_and_b = refl

-- debits and credits count apart
a_debit_fits_beside_full_credits : map length (runs_of (batches [] (full ∷ sending_of Debit (entry_of 1 ∷ []) ∷ []))) ≡ 2 ∷ []
unfolding desk_on_literals
a_debit_fits_beside_full_credits = refl

-- the same in a cut
abbrev full_draft : Draft
full_draft = credits (codes "FULL") (codes "2025-01-10") (replicate 100 (Some (credit_entry 9999999999)) ++ Some (credit_entry 99) ∷ [])

two_files_of_one_cut : answer_after new_desk (submits mill full_draft ∷ submits mill (credit (codes "CENT") 1 (codes "2025-01-10")) ∷ []) Cut
    ≡ Done (done.Cut (record { day = 20096; entries = 102; files = codes "AB"; lapsed = 0 }))
unfolding desk_on_literals
two_files_of_one_cut = refl

-- the modifiers of a day are A to Z, then 0 to 9, and no more
modifiers_of_the_26th_the_27th_and_the_36th_file : modifier_at 25 ∷ modifier_at 26 ∷ modifier_at 35 ∷ [] ≡ codes "Z09"
unfolding desk_on_literals
modifiers_of_the_26th_the_27th_and_the_36th_file = refl

modifiers_of_36_files : map (λ f. f.modifier) (files_from 20096 0 (replicate 36 [])) ≡ codes "ABCDEFGHIJKLMNOPQRSTUVWXYZ0123456789"
unfolding desk_on_literals
modifiers_of_36_files = refl

no_modifier_for_a_37th_file : modifier_of 36 ≡ None
unfolding desk_on_literals
no_modifier_for_a_37th_file = refl

-- ---- transaction codes

-- of a debit or credit to an account of this kind, a prenote or not
abbrev code_for : Bool → AccountKind → Bool → ℕ
code_for debit kind prenote = transaction_of debit (record (entry_of 0) { kind = kind; prenote = prenote })

codes_of_checking : code_for false Checking false ∷ code_for false Checking true ∷ code_for true Checking false ∷ code_for true Checking true ∷ []
    ≡ 22 ∷ 23 ∷ 27 ∷ 28 ∷ []
codes_of_checking = refl

codes_of_savings : code_for false Savings false ∷ code_for false Savings true ∷ code_for true Savings false ∷ code_for true Savings true ∷ []
    ≡ 32 ∷ 33 ∷ 37 ∷ 38 ∷ []
codes_of_savings = refl

-- ---- what is printed

-- a credit of 1,500.00 for Friday, cut on Wednesday 2025-01-08
abbrev held : List Pair
held = history_after identity new_desk (submits mill pay_1 ∷ [])

abbrev sample_entry : OutgoingEntry
sample_entry = record {
  transaction = 22;
  dfi = 9100001;
  check_digit = 9;
  account = borrow_of (codes "123456789");
  cents = 150000;
  identification = borrow_of (codes "E1");
  name = borrow_of (codes "ANN LEE");
  trace = codes "121042880000001";
  addenda = addendas.Absent;
}

abbrev sample_batch : OutgoingBatch
sample_batch = record {
  header = record {
    service_class = 220;
    company_name = borrow_of (codes "MILL STREET");
    company = borrow_of (codes "MILL01");
    sec = borrow_of (codes "PPD");
    description = borrow_of (codes "PAYROLL");
    effective = codes "250110";
    settlement = None;
    odfi = 12104288;
    number = 1;
  };
  entries = borrow_of (sample_entry ∷ []);
}

abbrev sample_file : Outgoing
sample_file = record {
  header = record {
    destination = codes "061000146";
    origin = codes "121042882";
    date = codes "250108";
    time = None;
    modifier = borrow_of (codes "A");
    destination_name = borrow_of (codes "ACH OPERATOR");
    origin_name = borrow_of (codes "OUR BANK");
  };
  batches = borrow_of (sample_batch ∷ []);
}

one_credit_in_one_file : map (outgoing identity) (new_files identity.odfi held 20096) ≡ sample_file ∷ []
unfolding desk_on_literals day_ymd date_of_number short_text
one_credit_in_one_file = refl

its_batch_control : batch_control sample_batch ≡ record {
  service_class = 220;
  count = 1;
  hash = 9100001;
  debits = 0;
  credits = 150000;
  company = borrow_of (codes "MILL01");
  odfi = 12104288;
  number = 1;
}
unfolding entry_rows entry_sums batch_sums
its_batch_control = refl

its_file_control : file_control sample_file ≡ record { batches = 1; blocks = 1; count = 1; hash = 9100001; debits = 0; credits = 150000 }
unfolding entry_rows entry_sums batch_sums file_sums main_count
its_file_control = refl

-- five records, then five of nines
five_records_of_nines : filler_count (main_count sample_file) ≡ 5
unfolding entry_rows entry_sums batch_sums file_sums main_count
five_records_of_nines = refl

-- ---- where a submission was printed

-- the other company's identification is before it
abbrev both_sent : List Pair
both_sent = history_after identity new_desk (submits mill pay_2 ∷ submits bakery pay_2 ∷ on (codes "2025-01-09") ∷ Cut ∷ [])

the_batch_of_the_first_company : file_places identity.odfi both_sent bakery 1 ≡ record { day = 20097; modifier = 65; batch = 1 } ∷ []
unfolding desk_on_literals
the_batch_of_the_first_company = refl

the_batch_of_the_second : file_places identity.odfi both_sent mill 1 ≡ record { day = 20097; modifier = 65; batch = 2 } ∷ []
unfolding desk_on_literals
the_batch_of_the_second = refl

nothing_is_printed_before_a_cut : file_places identity.odfi held mill 1 ≡ []
unfolding desk_on_literals
nothing_is_printed_before_a_cut = refl

no_such_file : answer_to identity both_sent (FileText 20097 66) ≡ Done (done.File None)
unfolding desk_on_literals
no_such_file = refl
