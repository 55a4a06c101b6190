-- The numbers of the status about the next cut, computed over whole histories.
use Rattle.std.specs.Prelude.{◌≡◌, ℕ, List, [], ◌∷◌, Some, codes, refl}
use Rattle.desk_rules.specs.declared.bodies.draft.Draft.{Draft}
use Rattle.desk_rules.specs.declared.bodies.draft.Optional.TheVariants.{Given}
use Rattle.desk_history.specs.Message.{Cut, Pair}
use Rattle.desk_history.specs.Operator.{history_after}
use Rattle.desk_history.specs.Status.{status}
use Rattle.tests_of_history.proofs.OnLiterals.{desk_on_literals}
use Rattle.tests_of_history.proofs.Samples.{identity, mill, bakery, pay_1, pay_2, credits, credit_entry, on, submits, new_desk}

-- the files and the records that a cut would make and send, and the records that are held
abbrev numbers : List Pair → List ℕ
numbers H = (status identity.odfi H).due_files ∷ (status identity.odfi H).due_records ∷ (status identity.odfi H).held_records ∷ []

-- two entries, one with an addenda, for Monday 2025-01-13
abbrev invoices : Draft
invoices = credits (codes "PAY-3") (codes "2025-01-13") (Some (record (credit_entry 100) { info = Given (codes "INVOICE 17") }) ∷ Some (credit_entry 200) ∷ [])

before_any_day : numbers [] ≡ 0 ∷ 0 ∷ 0 ∷ []
unfolding desk_on_literals
before_any_day = refl

-- of two companies, a credit that is due on 2025-01-08, and a debit and credits that are not
abbrev three : List Pair
three = history_after identity new_desk (submits mill pay_1 ∷ submits mill pay_2 ∷ submits bakery invoices ∷ [])

one_is_due : numbers three ≡ 1 ∷ 1 ∷ 5 ∷ []
unfolding desk_on_literals
one_is_due = refl

the_cut_leaves_two : numbers (history_after identity three (Cut ∷ [])) ≡ 0 ∷ 0 ∷ 4 ∷ []
unfolding desk_on_literals
the_cut_leaves_two = refl

-- an addenda is a record, and a batch of debits and one of credits are in one file
all_are_due : numbers (history_after identity three (Cut ∷ on (codes "2025-01-09") ∷ [])) ≡ 1 ∷ 4 ∷ 4 ∷ []
unfolding desk_on_literals
all_are_due = refl
