-- A cut sends batches: each fits into a file of its own.
use Rattle.std.proofs.Common.{ℕ, ◌*◌, ◌≤◌, List, [], ◌∷◌, length, Bool, true, false, Some, None, Option, arith, sum_by, if◌then◌else◌}
use Rattle.std.specs.List.{AllByRecursion}
use Rattle.std.proofs.lemmas.List.Elements.{recursion_from_All}
use Rattle.std.proofs.lemmas.List.Sums.{sum_by-cons}
use Rattle.ach_fields.specs.Cents.{most_cents}
use Rattle.desk_plan.specs.Batch.{IsBatch, IsEntryCount}
use Rattle.desk_rules.specs.declared.bodies.submission.Entry.{Entry}
use Rattle.desk_rules.specs.Size.{total_of}
use Rattle.desk_history.specs.Acceptance.{submissions}
use Rattle.desk_history.specs.AcceptedLaws.{IsSized}
use Rattle.desk_history.specs.Message.{Pair}
use Rattle.desk_history.specs.Sendings.{Sending, entries_in, is_debit_sending, records_of, plan_of}
use Rattle.desk_history.specs.History.{companies, part}
use Rattle.desk_history.specs.Files.{cut_sendings}
use Rattle.desk_history.proofs.Acceptance.Ordered.{sizes}
use Rattle.desk_history.proofs.Basics.Each.{each-all, each-weaker}
use Rattle.desk_history.proofs.Traces.SentWith.{each-sending}

-- it has as many entries and cents as a submission may
abbrev IsSizedAs : Sending → Type 0
IsSizedAs s = IsEntryCount (length (entries_in s)) × (total_of (entries_in s) ≤ most_cents)

sends_sized : (odfi : List ℕ) (H : List Pair) → AllByRecursion IsSizedAs (cut_sendings odfi H)
sends_sized odfi H =
    each-sending IsSizedAs (part odfi H) (companies H)
    (each-all _ (λ k. each-weaker IsSized _ (λ a sized _. ((sized.some, sized.few), sized.total)) (submissions (part odfi H k.id)) (recursion_from_All IsSized (submissions (part odfi H k.id)) (sizes (part odfi H k.id)))) (companies H))

-- an entry has one record, or two
few_records : (info : Option (List ℕ)) → records_of info ≤ 2
few_records None = omega arith
few_records (Some information) = omega arith

records_within : (es : List Entry) → sum_by (λ e. records_of e.info) es ≤ 2 * length es
records_within [] = omega arith
records_within (e ∷ es) =
    let sum = sum_by-cons (λ (e : Entry). records_of e.info) e es in
    let rest = records_within es in
    let one = few_records e.info in
    omega arith

either_within : (b : Bool) (cents most : ℕ) → cents ≤ most → (if b then cents else 0) ≤ most
either_within true cents most le = le
either_within false cents most le = omega arith

other_within : (b : Bool) (cents most : ℕ) → cents ≤ most → (if b then 0 else cents) ≤ most
other_within true cents most le = omega arith
other_within false cents most le = le

is_batch : (s : Sending) → IsSizedAs s → IsBatch (plan_of s)
is_batch s h = record {
  entries = h.0;
  debits = either_within (is_debit_sending s) (total_of (entries_in s)) most_cents h.1;
  credits = other_within (is_debit_sending s) (total_of (entries_in s)) most_cents h.1;
  records = let records = records_within (entries_in s) in let few : length (entries_in s) ≤ 1000 = h.0.1 in omega arith;
}

pub sends_are_batches : (odfi : List ℕ) (H : List Pair) → AllByRecursion (λ s. IsBatch (plan_of s)) (cut_sendings odfi H)
sends_are_batches odfi H = each-weaker IsSizedAs (λ s. IsBatch (plan_of s)) is_batch (cut_sendings odfi H) (sends_sized odfi H)
