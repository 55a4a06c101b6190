-- The desk's reads for a cut, and its outcome.
use Rattle.std.specs.Prelude.{◌≡◌, ℕ, List, map, Option, Result, Ok, Err}
use Rattle.desk_rules.specs.declared.refusals.refusal.Refusal.{Refusal}
use Rattle.desk_rules.specs.declared.refusals.refusal.Refusal.TheVariants.{TracesSpent, ModifiersSpent}
use Rattle.desk_book.specs.Book.{Book}
use Rattle.desk_store.specs.declared.store.StoreFault.{StoreFault}
use Rattle.desk_store.specs.declared.store.StoreFault.TheVariants.{Unavailable}
use Rattle.desk_book.specs.Reads.{latest_settled, sent_count}
use Rattle.desk_book.specs.OnCut.{CutFacts, cut_facts, cut_on_day, due}
use Rattle.desk_cut.specs.declared.fault.CutFault.{CutFault}
use Rattle.desk_cut.specs.declared.fault.CutFault.TheVariants as faults
use Rattle.desk_cut.specs.declared.plan.CutPlan.{CutPlan}
use Rattle.desk_cut.specs.Plan.{IsPlan, plan_write}
use Rattle.desk_store.specs.Written.{commit_cut_after}
use Rattle.desk_admission.specs.Answering.{HoldsFor}
use Rattle.desk_calls.specs.declared.operator.cut.CutReads.{CutReads}

abbrev pub facts_in : CutReads → CutFacts
facts_in x = record { identity = x.identity; day = x.day; holidays = x.holidays; last = x.last.sequence; made = x.made; waiting = x.due.items }

-- the same, with how many entries were sent before
abbrev pub read_in : CutReads → CutFacts × ℕ
read_in x = (facts_in x, x.last.place)

-- the facts of a cut, with only what is due of what waits: they decide the same
abbrev pub due_facts : Book → ℕ → CutFacts
due_facts b d = record (cut_facts b d) { waiting = due b.holidays d b }

abbrev pub read_on : ℕ → Book → CutFacts × ℕ
read_on d b = (due_facts b d, sent_count b)

-- for each range of sequences, the latest day on which a youngest entry with one of them settled
abbrev pub latest_of : List (ℕ × ℕ) → Book → List (Option ℕ)
latest_of ranges b = map (λ r. latest_settled r.0 r.1 b) ranges

-- the plan of the cut that is made, or its refusal
abbrev pub IsPlanned : Result CutPlan Refusal → Result CutFacts Refusal → Type 0
IsPlanned (Ok p) (Ok x) = IsPlan x p
IsPlanned (Err why) (Err first) = why ≡ first
IsPlanned _ _ = ⊥

abbrev pub HoldsPlanned : (holds : Book → Type 0) → (before : ℕ) → Result CutPlan Refusal → Book → Type 0
HoldsPlanned holds before (Ok p) b = HoldsFor holds (commit_cut_after before (plan_write p)) b
HoldsPlanned holds before (Err why) b = holds b

-- The plan made from these reads is the cut of each book that has them, and may be written; or the store failed.
abbrev pub Plans : (Book → Type 0) → CutReads → Result (Result CutPlan Refusal) StoreFault → (Book → Type 0) → Type 0
Plans old x (Ok planned) new = (b : Book) → old b → read_in x ≡ read_on x.day b → IsPlanned planned (cut_on_day b x.day) × HoldsPlanned new x.last.place planned b
Plans old x (Err fault) new = (b : Book) → old b → new b

-- why a cut is refused; a settlement after the last day from which rules count refuses nothing, nor does
-- being out of memory
abbrev pub refusal_of : CutFault → Result Refusal StoreFault
refusal_of faults.TracesSpent = Ok TracesSpent
refusal_of faults.ModifiersSpent = Ok ModifiersSpent
refusal_of faults.DaysSpent = Err Unavailable
refusal_of faults.NoMemory = Err Unavailable

-- If the fault refuses a cut, the cut of the book is refused with it. If the fault is that a submission would settle
-- too late, the cut of the book is not refused. So a refused cut has that fault, except for lack of memory.
abbrev pub RefusesOn : Book → CutFacts → CutFault → Type 0
RefusesOn b x fault =
    ((why : Refusal) → refusal_of fault ≡ Ok why → IsPlanned (Err why) (cut_on_day b x.day))
    × (fault ≡ faults.DaysSpent → cut_on_day b x.day ≡ Ok (cut_facts b x.day))

-- The same with the fault of the plan in place of the refusal.
abbrev pub PlansOrTells : (Book → Type 0) → CutReads → Result (Result CutPlan CutFault) StoreFault → (Book → Type 0) → Type 0
PlansOrTells old x (Ok (Ok p)) new = (b : Book) → old b → read_in x ≡ read_on x.day b → IsPlanned (Ok p) (cut_on_day b x.day) × HoldsFor new (commit_cut_after x.last.place (plan_write p)) b
PlansOrTells old x (Ok (Err fault)) new = (b : Book) → old b → new b × (read_in x ≡ read_on x.day b → RefusesOn b (facts_in x) fault)
PlansOrTells old x (Err fault) new = (b : Book) → old b → new b
