-- The text of a file that a cut made, computed.
use Rattle.std.specs.Prelude.{◌≡◌, ◌++◌, ℕ, List, [], ◌∷◌, replicate, Some, codes, refl}
use Rattle.std.specs.List.{flat_map}
use Rattle.ach_fields.specs.Ymd.{date_text as short_text}
use Rattle.ach_fields.specs.Text.{with_blanks_after}
use Rattle.ach_records.specs.Print.{row_text}
use Rattle.ach_files.specs.Outgoing.{entry_rows, entry_sums, batch_sums, file_sums, main_count, batch_rows, outgoing_rows}
use Rattle.ach_files.specs.Structure.{nines}
use Rattle.bank_days.specs.Date.{date_of_number}
use Rattle.bank_days.specs.Day.{day_ymd}
use Rattle.desk_history.specs.declared.answer.Answer.TheVariants.{Done}
use Rattle.desk_history.specs.declared.answer.Outcome.TheVariants as done
use Rattle.desk_history.specs.Message.{Cut, FileText}
use Rattle.tests_of_history.proofs.OnLiterals.{desk_on_literals}
use Rattle.tests_of_history.proofs.Samples.{mill, pay_1, pay_2, on, submits, new_desk, answer_after}

-- the first records, then as many of nines
abbrev with_nines : List ℕ → ℕ → List ℕ
with_nines records n = records ++ flat_map (λ (l : List ℕ). l ++ 10 ∷ []) (replicate n (replicate 94 57))

abbrev credit_text : List ℕ
credit_text =
    codes "101 061000146 121042882250108    A094101ACH OPERATOR           OUR BANK                       \n"
    ++ codes "5220MILL STREET                         MILL01    PPDPAYROLL         250110   1121042880000001\n"
    ++ codes "622091000019123456789        0000150000E1             ANN LEE                 0121042880000001\n"
    ++ codes "82200000010009100001000000000000000000150000MILL01                             121042880000001\n"
    ++ codes "9000001000001000000010009100001000000000000000000150000                                       \n"

abbrev debit_text : List ℕ
debit_text =
    codes "101 061000146 121042882250109    A094101ACH OPERATOR           OUR BANK                       \n"
    ++ codes "5225MILL STREET                         MILL01    PPDDUES            250110   1121042880000001\n"
    ++ codes "627091000019123456789        0000002500E2             BOB RAY                 0121042880000001\n"
    ++ codes "82250000010009100001000000002500000000000000MILL01                             121042880000001\n"
    ++ codes "9000001000001000000010009100001000000002500000000000000                                       \n"

-- a credit of 1,500.00 for Friday 2025-01-10, cut on Wednesday; 65 is the modifier A
the_text_of_a_credit : answer_after new_desk (submits mill pay_1 ∷ Cut ∷ []) (FileText 20096 65) ≡ Done (done.File (Some (with_nines credit_text 5)))
unfolding desk_on_literals with_blanks_after row_text entry_rows entry_sums batch_sums file_sums main_count batch_rows outgoing_rows nines day_ymd date_of_number short_text
the_text_of_a_credit = refl

-- a debit of 25.00 for Friday 2025-01-10, cut on Thursday
the_text_of_a_debit : answer_after new_desk (submits mill pay_2 ∷ on (codes "2025-01-09") ∷ Cut ∷ []) (FileText 20097 65)
    ≡ Done (done.File (Some (with_nines debit_text 5)))
unfolding desk_on_literals with_blanks_after row_text entry_rows entry_sums batch_sums file_sums main_count batch_rows outgoing_rows nines day_ymd date_of_number short_text
the_text_of_a_debit = refl
