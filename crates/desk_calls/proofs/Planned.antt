-- The plan of a cut, as it was asked for.
use Rattle.std.proofs.Common.{◌≡◌, ◌∙◌, ap, sym, subst, refl, ℕ, ◌+◌, List, map, length, Bool, true, false}
use Rattle.std.specs.Prelude.{nat_le, Option, Result, Ok, Err}
use Rattle.desk_plan.specs.Modifiers.{most_files}
use Rattle.desk_plan.specs.Reuse.{may_send}
use Rattle.desk_plan.specs.Sequences.{ranges}
use Rattle.desk_rules.specs.declared.refusals.refusal.Refusal.{Refusal}
use Rattle.desk_rules.specs.declared.refusals.refusal.Refusal.TheVariants.{TracesSpent, ModifiersSpent}
use Rattle.desk_rules.specs.Chain.{◌>>=◌}
use Rattle.desk_book.specs.Book.{Book}
use Rattle.desk_history.specs.Sendings.{Sending, plan_of, sent_sequence}
use Rattle.desk_history.specs.Words.{holds_or}
use Rattle.desk_book.specs.CutLaws.{EntriesOfCuts}
use Rattle.desk_book.specs.OnCut.{CutFacts, cut_sendings, files, cut_facts, cut_on_day}
use Rattle.desk_book.specs.Steps.{CutWrite, commit_cut}
use Rattle.desk_cut.specs.declared.plan.CutPlan.{CutPlan}
use Rattle.desk_cut.specs.declared.fault.CutFault.{CutFault}
use Rattle.desk_cut.specs.declared.fault.CutFault.TheVariants as faults
use Rattle.desk_cut.specs.Numbers.{HasNoRanges}
use Rattle.desk_cut.specs.Plan.{IsPlan, MayTake, Plans, has_modifiers, plan_write}
use Rattle.desk_calls.proofs.DueAlone.{DecidesAs, decides_by_due, same_modifiers, same_summary, same_write}
use Rattle.desk_calls.specs.Cutting.{facts_in, latest_of, IsPlanned, PlansOrTells, RefusesOn, refusal_of}
use Rattle.desk_calls.specs.declared.operator.cut.CutReads.{CutReads}

-- ---- a cut on a day

abbrev after_traces : Book → ℕ → Bool → Result CutFacts Refusal
after_traces b d may = (holds_or TracesSpent may >>= (λ _. holds_or ModifiersSpent (nat_le (b.files_on d + length (files (cut_facts b d))) most_files))) >>= (λ _. Ok (cut_facts b d))

abbrev after_modifiers : Book → ℕ → Bool → Result CutFacts Refusal
after_modifiers b d has = holds_or ModifiersSpent has >>= (λ _. Ok (cut_facts b d))

traces_spent : (b : Book) (d : ℕ) → may_send d (map sent_sequence b.sent) (map plan_of (cut_sendings (cut_facts b d))) ≡ false → cut_on_day b d ≡ Err TracesSpent
traces_spent b d may = ap (after_traces b d) may

modifiers_spent : (b : Book) (d : ℕ) → may_send d (map sent_sequence b.sent) (map plan_of (cut_sendings (cut_facts b d))) ≡ true → has_modifiers (cut_facts b d) ≡ false → cut_on_day b d ≡ Err ModifiersSpent
modifiers_spent b d may has = ap (after_traces b d) may ∙ ap (after_modifiers b d) has

made : (b : Book) (d : ℕ) → may_send d (map sent_sequence b.sent) (map plan_of (cut_sendings (cut_facts b d))) ≡ true → has_modifiers (cut_facts b d) ≡ true → cut_on_day b d ≡ Ok (cut_facts b d)
made b d may has = ap (after_traces b d) may ∙ ap (after_modifiers b d) has

-- ---- what was planned for facts that decide as the book's

abbrev IsTakenAs : CutFacts → List (ℕ × ℕ) → Type 0
IsTakenAs x rs = rs ≡ ranges x.last (map (λ y. y.entries) (map plan_of (cut_sendings x)))

may_take : (b : Book) (x : CutFacts) (rs : List (ℕ × ℕ)) (latest : List (Option ℕ)) (may : Bool) → DecidesAs x (cut_facts b x.day) → IsTakenAs x rs → latest ≡ latest_of rs b
    → MayTake x latest may → may_send x.day (map sent_sequence b.sent) (map plan_of (cut_sendings (cut_facts b x.day))) ≡ may
may_take b x rs latest may is taken settled takes =
    ap (λ (ss : List Sending). may_send x.day (map sent_sequence b.sent) (map plan_of ss)) (sym is.sends)
    ∙ takes.take (map sent_sequence b.sent) (record {
      last = sym is.last;
      settled = settled ∙ ap (λ (rs : List (ℕ × ℕ)). latest_of rs b)
          (taken ∙ ap (λ last. ranges last (map (λ y. y.entries) (map plan_of (cut_sendings x)))) is.last);
    })

pub planned_cut : (b : Book) (x : CutFacts) (rs : List (ℕ × ℕ)) (latest : List (Option ℕ)) (p : CutPlan) → DecidesAs x (cut_facts b x.day) → IsTakenAs x rs → latest ≡ latest_of rs b
    → MayTake x latest true × (has_modifiers x ≡ true) × IsPlan x p → IsPlanned (Ok p) (cut_on_day b x.day)
planned_cut b x rs latest p is taken settled plans =
    subst (IsPlanned (Ok p)) (sym (made b x.day (may_take b x rs latest true is taken settled plans.0) (sym (same_modifiers x (cut_facts b x.day) is) ∙ plans.1)))
    (record { write = plans.2.write ∙ same_write x (cut_facts b x.day) is; done = plans.2.done ∙ same_summary x (cut_facts b x.day) is })

-- and may be written to the book
pub planned_admitted : EntriesOfCuts → (b : Book) (x : CutFacts) (p : CutPlan) → DecidesAs x (cut_facts b x.day) → IsPlan x p → (commit_cut (plan_write p)).Admits b
planned_admitted law b x p is plan = subst (λ (w : CutWrite). (commit_cut w).Admits b) (sym (plan.write ∙ same_write x (cut_facts b x.day) is)) (law b x.day)

planned_without_traces : (b : Book) (x : CutFacts) (rs : List (ℕ × ℕ)) (latest : List (Option ℕ)) → DecidesAs x (cut_facts b x.day) → IsTakenAs x rs → latest ≡ latest_of rs b
    → MayTake x latest false → IsPlanned (Err TracesSpent) (cut_on_day b x.day)
planned_without_traces b x rs latest is taken settled takes =
    subst (IsPlanned (Err TracesSpent)) (sym (traces_spent b x.day (may_take b x rs latest false is taken settled takes))) refl

planned_without_modifiers : (b : Book) (x : CutFacts) (rs : List (ℕ × ℕ)) (latest : List (Option ℕ)) → DecidesAs x (cut_facts b x.day) → IsTakenAs x rs → latest ≡ latest_of rs b
    → MayTake x latest true × (has_modifiers x ≡ false) → IsPlanned (Err ModifiersSpent) (cut_on_day b x.day)
planned_without_modifiers b x rs latest is taken settled plans =
    subst (IsPlanned (Err ModifiersSpent)) (sym (modifiers_spent b x.day (may_take b x rs latest true is taken settled plans.0) (sym (same_modifiers x (cut_facts b x.day) is) ∙ plans.1))) refl

pub planned_refused : (b : Book) (x : CutFacts) (rs : List (ℕ × ℕ)) (latest : List (Option ℕ)) (fault : CutFault) (why : Refusal) → DecidesAs x (cut_facts b x.day) → IsTakenAs x rs → latest ≡ latest_of rs b
    → Plans x latest (Err fault) → refusal_of fault ≡ Ok why → IsPlanned (Err why) (cut_on_day b x.day)
planned_refused b x rs latest faults.TracesSpent why is taken settled plans refuses =
    let same : TracesSpent ≡ why = cc in
    subst (λ why. IsPlanned (Err why) (cut_on_day b x.day)) same (planned_without_traces b x rs latest is taken settled plans)
planned_refused b x rs latest faults.ModifiersSpent why is taken settled plans refuses =
    let same : ModifiersSpent ≡ why = cc in
    subst (λ why. IsPlanned (Err why) (cut_on_day b x.day)) same (planned_without_modifiers b x rs latest is taken settled plans)
planned_refused b x rs latest faults.DaysSpent why is taken settled plans refuses = cc
planned_refused b x rs latest faults.NoMemory why is taken settled plans refuses = cc

-- where one would settle too far ahead, the cut is not refused
pub planned_too_far : (b : Book) (x : CutFacts) (rs : List (ℕ × ℕ)) (latest : List (Option ℕ)) (fault : CutFault) → DecidesAs x (cut_facts b x.day) → IsTakenAs x rs → latest ≡ latest_of rs b
    → Plans x latest (Err fault) → fault ≡ faults.DaysSpent → cut_on_day b x.day ≡ Ok (cut_facts b x.day)
planned_too_far b x rs latest faults.DaysSpent is taken settled plans far =
    made b x.day (may_take b x rs latest true is taken settled plans.0) (sym (same_modifiers x (cut_facts b x.day) is) ∙ plans.1)
planned_too_far b x rs latest faults.TracesSpent is taken settled plans far = cc
planned_too_far b x rs latest faults.ModifiersSpent is taken settled plans far = cc
planned_too_far b x rs latest faults.NoMemory is taken settled plans far = cc

-- two batches would have a sequence in common
unnumbered_refused : (b : Book) (x : CutFacts) (fault : CutFault) → DecidesAs x (cut_facts b x.day) → HasNoRanges x.day x.last (cut_sendings x) fault → RefusesOn b x fault
unnumbered_refused b x faults.TracesSpent is none =
    let may = ap (λ (ss : List Sending). may_send x.day (map sent_sequence b.sent) (map plan_of ss)) (sym is.sends) ∙ none.1 (map sent_sequence b.sent) (sym is.last) in
    let refused : IsPlanned (Err TracesSpent) (cut_on_day b x.day) = subst (IsPlanned (Err TracesSpent)) (sym (traces_spent b x.day may)) refl in (
      λ why refuses. let same : TracesSpent ≡ why = cc in subst (λ why. IsPlanned (Err why) (cut_on_day b x.day)) same refused,
      λ far. cc,
    )
unnumbered_refused b x faults.NoMemory is none = (λ why refuses. cc, λ far. cc)
unnumbered_refused b x faults.ModifiersSpent is none = cc
unnumbered_refused b x faults.DaysSpent is none = cc

-- ---- a plan, or the fault of one

pub unnumbered : (held : Book → Type 0) (x : CutReads) (fault : CutFault) → HasNoRanges x.day x.last.sequence (cut_sendings (facts_in x)) fault → PlansOrTells held x (Ok (Err fault)) held
unnumbered held x fault none = λ b holds. (holds, λ is. unnumbered_refused b (facts_in x) fault (decides_by_due b x.day (facts_in x) (ap (λ (r : CutFacts × ℕ). r.0) is)) none)

pub plans_or_tells : EntriesOfCuts → (old new : Book → Type 0) (x : CutReads) (rs : List (ℕ × ℕ)) (latest : List (Option ℕ)) (planned : Result CutPlan CutFault) → IsTakenAs (facts_in x) rs
    → ((b : Book) → old b → (latest ≡ latest_of rs b) × new b) → Plans (facts_in x) latest planned → PlansOrTells old x (Ok planned) new
plans_or_tells law old new x rs latest (Ok p) taken read plans = λ b held is.
    let seen = read b held in
    let facts : DecidesAs (facts_in x) (cut_facts b x.day) = decides_by_due b x.day (facts_in x) (ap (λ (r : CutFacts × ℕ). r.0) is) in
    (planned_cut b (facts_in x) rs latest p facts taken seen.0 plans, (seen.1, (planned_admitted law b (facts_in x) p facts plans.2, ap (λ (r : CutFacts × ℕ). r.1) is)))
plans_or_tells law old new x rs latest (Err fault) taken read plans = λ b held.
    let seen = read b held in (
      seen.1,
      λ is.
          let facts : DecidesAs (facts_in x) (cut_facts b x.day) = decides_by_due b x.day (facts_in x) (ap (λ (r : CutFacts × ℕ). r.0) is) in
          (λ why refuses. planned_refused b (facts_in x) rs latest fault why facts taken seen.0 plans refuses, planned_too_far b (facts_in x) rs latest fault facts taken seen.0 plans),
    )
