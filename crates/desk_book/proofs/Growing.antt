-- A new held submission adds its cents to the exposures of its company, and changes no rates.
use Rattle.std.proofs.Common.{◌≡◌, ◌∙◌, refl, ap, sym, ℕ, ◌+◌, Bool, true, false, List, [], ◌∷◌, ◌++◌, map, zip, length, replicate, Option, arith, cond}
use Rattle.std.specs.Prelude.{filter, sum_by, not, ◌&&◌, if◌then◌else◌, bytes_eq, count_by}
use Rattle.std.proofs.lemmas.List.{append-nil}
use Rattle.std.proofs.lemmas.List.Sums.{sum_by-cons, sum_by-append}
use Rattle.std.proofs.lemmas.List.Elements.{filter-append}
use Rattle.std.proofs.lemmas.List.Concat.{flat_map-append}
use Rattle.desk_rules.specs.declared.bodies.submission.Entry.{Entry}
use Rattle.desk_rules.specs.declared.bodies.submission.Retry.{Retry}
use Rattle.desk_rules.specs.declared.bodies.submission.Submission.{Submission}
use Rattle.desk_rules.specs.declared.rules.entry_fact.EntryFact.{EntryFact}
use Rattle.desk_rules.specs.declared.rules.entry_fact.EntryState.TheVariants.{Held}
use Rattle.desk_rules.specs.Exposure.{is_open_credit, is_open_debit, credit_exposure, debit_exposure}
use Rattle.desk_rules.specs.ReturnRates.{is_live_debit, was_returned, has_settled, exceeds, returned_count, settled_count, rate_of, rates}
use Rattle.desk_rules.specs.declared.rules.rate.Level.{Level}
use Rattle.desk_rules.specs.declared.rules.rate.Level.TheVariants.{Unauthorized, Administrative, Overall}
use Rattle.desk_rules.specs.declared.rules.rate.Rate.{Rate}
use Rattle.desk_rules.specs.declared.rules.rate.Rates.{Rates}
use Rattle.desk_rules.specs.LimitChecks.{is_debit}
use Rattle.desk_rules.specs.Size.{total_of}
use Rattle.desk_history.specs.Facts.{entry_fact}
use Rattle.desk_book.specs.declared.row.Row.{Row}
use Rattle.desk_book.specs.Standing.{row_facts, facts_in, next_row}
use Rattle.desk_book.specs.Sums.{exposures_on}
use Rattle.desk_book.specs.SumLaws.{more_exposed, ExposuresGrow, RatesStay}

-- the cents of those that pass
abbrev cents_passing : (EntryFact → Bool) → List EntryFact → ℕ
cents_passing p facts = sum_by (λ f. f.cents) (filter p facts)

all_pass : (p : EntryFact → Bool) (debit : Bool) → ((e : Entry) → p (entry_fact debit (e, Held)) ≡ true) → (es : List Entry)
    → cents_passing p (map (entry_fact debit) (zip es (replicate (length es) Held))) ≡ total_of es
all_pass p debit passes [] = refl
all_pass p debit passes (e ∷ es) =
    let rest = map (entry_fact debit) (zip es (replicate (length es) Held)) in
    ap (λ (t : Bool). sum_by (λ (f : EntryFact). f.cents) (if t then entry_fact debit (e, Held) ∷ filter p rest else filter p rest)) (passes e)
    ∙ sum_by-cons (λ (f : EntryFact). f.cents) (entry_fact debit (e, Held)) (filter p rest)
    ∙ ap (λ (n : ℕ). e.cents + n) (all_pass p debit passes es)
    ∙ sym (sum_by-cons (λ (x : Entry). x.cents) e es)

none_pass : (p : EntryFact → Bool) (debit : Bool) → ((e : Entry) → p (entry_fact debit (e, Held)) ≡ false) → (es : List Entry)
    → cents_passing p (map (entry_fact debit) (zip es (replicate (length es) Held))) ≡ 0
none_pass p debit fails [] = refl
none_pass p debit fails (e ∷ es) =
    let rest = map (entry_fact debit) (zip es (replicate (length es) Held)) in
    ap (λ (t : Bool). sum_by (λ (f : EntryFact). f.cents) (if t then entry_fact debit (e, Held) ∷ filter p rest else filter p rest)) (fails e)
    ∙ none_pass p debit fails es

facts_more : (rs : List Row) (row : Row) → facts_in (rs ++ row ∷ []) ≡ facts_in rs ++ row_facts row
facts_more rs row = flat_map-append row_facts rs (row ∷ []) ∙ ap (λ (fs : List EntryFact). facts_in rs ++ fs) (append-nil (row_facts row))

cents_more : (p : EntryFact → Bool) (rs : List Row) (row : Row) → cents_passing p (facts_in (rs ++ row ∷ [])) ≡ cents_passing p (facts_in rs) + cents_passing p (row_facts row)
cents_more p rs row =
    ap (cents_passing p) (facts_more rs row)
    ∙ ap (λ (fs : List EntryFact). sum_by (λ (f : EntryFact). f.cents) fs) (filter-append p (facts_in rs) (row_facts row))
    ∙ sum_by-append (λ (f : EntryFact). f.cents) (filter p (facts_in rs)) (filter p (row_facts row))

abbrev credits : ℕ → EntryFact → Bool
credits day f = not f.debit && is_open_credit f.state day

abbrev debits : ℕ → List ℕ → EntryFact → Bool
debits day holidays f = f.debit && is_open_debit f.state day holidays

with_none : (n k : ℕ) → k ≡ 0 → n + k ≡ n
with_none n k none = omega (arith, none)

-- one more held submission in each direction
sums_grow : (rs : List Row) (s : Submission) (retry : Option Retry) (day : ℕ) (holidays : List ℕ) (debit : Bool) → debit ≡ is_debit s.direction
    → exposures_on (rs ++ next_row rs s retry ∷ []) day holidays ≡ more_exposed debit (total_of s.entries) (exposures_on rs day holidays)
sums_grow rs s retry day holidays true is =
    let row = next_row rs s retry in
    let credit = cents_more (credits day) rs row ∙ with_none _ _ (none_pass (credits day) (is_debit s.direction) (λ e. ap (λ (d : Bool). not d && true) (sym is)) s.entries) in
    let debit = cents_more (debits day holidays) rs row ∙ ap (λ (n : ℕ). debit_exposure (facts_in rs) day holidays + n) (all_pass (debits day holidays) (is_debit s.direction) (λ e. ap (λ (d : Bool). d && true) (sym is)) s.entries) in
    ap (λ (x : ℕ). (x, debit_exposure (facts_in (rs ++ row ∷ [])) day holidays)) credit ∙ ap (λ (x : ℕ). (credit_exposure (facts_in rs) day, x)) debit
sums_grow rs s retry day holidays false is =
    let row = next_row rs s retry in
    let credit = cents_more (credits day) rs row ∙ ap (λ (n : ℕ). credit_exposure (facts_in rs) day + n) (all_pass (credits day) (is_debit s.direction) (λ e. ap (λ (d : Bool). not d && true) (sym is)) s.entries) in
    let debit = cents_more (debits day holidays) rs row ∙ with_none _ _ (none_pass (debits day holidays) (is_debit s.direction) (λ e. ap (λ (d : Bool). d && true) (sym is)) s.entries) in
    ap (λ (x : ℕ). (x, debit_exposure (facts_in (rs ++ row ∷ [])) day holidays)) credit ∙ ap (λ (x : ℕ). (credit_exposure (facts_in rs) day + total_of s.entries, x)) debit

abbrev rate_with : Level → (n : ℕ) → (d : ℕ) → (day : ℕ) → Rate
rate_with level n d day = record { n = n; d = d; over = exceeds level n d }

abbrev rates_with : Rate → Rate → Rate → Rates
rates_with u a o = record { unauthorized = u; administrative = a; overall = o }

at_company : (rs : List Row) (s : Submission) (retry : Option Retry) (holidays : List ℕ) (day : ℕ) (t : Bool)
    → exposures_on (if t then rs ++ next_row rs s retry ∷ [] else rs) day holidays ≡ (if t then more_exposed (is_debit s.direction) (total_of s.entries) (exposures_on rs day holidays) else exposures_on rs day holidays)
at_company rs s retry holidays day true = sums_grow rs s retry day holidays (is_debit s.direction) refl
at_company rs s retry holidays day false = refl

pub exposures_grow : ExposuresGrow
exposures_grow c order s retry b of day = at_company (b.rows of) s retry b.holidays day (bytes_eq c of)

-- ---- rates

counts_more : (p : EntryFact → Bool) (rs : List Row) (row : Row) → count_by p (facts_in (rs ++ row ∷ [])) ≡ count_by p (facts_in rs) + count_by p (row_facts row)
counts_more p rs row = ap (count_by p) (facts_more rs row) ∙ sum_by-append (λ (f : EntryFact). if p f then 1 else 0) (facts_in rs) (row_facts row)

no_more : (k : ℕ) → k ≡ 0 → 0 + k ≡ 0
no_more k none = omega (arith, none)

none_counted : (p : EntryFact → Bool) (debit : Bool) → ((e : Entry) → p (entry_fact debit (e, Held)) ≡ false) → (es : List Entry)
    → count_by p (map (entry_fact debit) (zip es (replicate (length es) Held))) ≡ 0
none_counted p debit fails [] = refl
none_counted p debit fails (e ∷ es) =
    sum_by-cons (λ (f : EntryFact). if p f then 1 else 0) (entry_fact debit (e, Held)) (map (entry_fact debit) (zip es (replicate (length es) Held)))
    ∙ ap (λ (t : Bool). (cond t 1 0) + count_by p (map (entry_fact debit) (zip es (replicate (length es) Held)))) (fails e)
    ∙ no_more _ (none_counted p debit fails es)

and_false : (x : Bool) → (x && false) ≡ false
and_false true = refl
and_false false = refl

counts_stay : (p : EntryFact → Bool) (rs : List Row) (s : Submission) (retry : Option Retry) → ((e : Entry) → p (entry_fact (is_debit s.direction) (e, Held)) ≡ false)
    → count_by p (facts_in (rs ++ next_row rs s retry ∷ [])) ≡ count_by p (facts_in rs)
counts_stay p rs s retry fails = counts_more p rs (next_row rs s retry) ∙ with_none _ _ (none_counted p (is_debit s.direction) fails s.entries)

rate_stays : (level : Level) (rs : List Row) (s : Submission) (retry : Option Retry) (day : ℕ) → rate_of level (facts_in (rs ++ next_row rs s retry ∷ [])) day ≡ rate_of level (facts_in rs) day
rate_stays level rs s retry day =
    let n = counts_stay (λ f. is_live_debit f && was_returned level f.state day) rs s retry (λ e. and_false _) in
    let d = counts_stay (λ f. is_live_debit f && has_settled f.state day) rs s retry (λ e. and_false _) in
    ap (λ (x : ℕ). rate_with level x (settled_count (facts_in (rs ++ next_row rs s retry ∷ [])) day) day) n ∙ ap (λ (x : ℕ). rate_with level (returned_count level (facts_in rs) day) x day) d

rates_at : (rs : List Row) (s : Submission) (retry : Option Retry) (day : ℕ) (t : Bool) → rates (facts_in (if t then rs ++ next_row rs s retry ∷ [] else rs)) day ≡ rates (facts_in rs) day
rates_at rs s retry day true =
    ap (λ (r : Rate). rates_with r (rate_of Administrative (facts_in (rs ++ next_row rs s retry ∷ [])) day) (rate_of Overall (facts_in (rs ++ next_row rs s retry ∷ [])) day)) (rate_stays Unauthorized rs s retry day)
    ∙ ap (λ (r : Rate). rates_with (rate_of Unauthorized (facts_in rs) day) r (rate_of Overall (facts_in (rs ++ next_row rs s retry ∷ [])) day)) (rate_stays Administrative rs s retry day)
    ∙ ap (λ (r : Rate). rates_with (rate_of Unauthorized (facts_in rs) day) (rate_of Administrative (facts_in rs) day) r) (rate_stays Overall rs s retry day)
rates_at rs s retry day false = refl

pub rates_stay : RatesStay
rates_stay c order s retry b of day = rates_at (b.rows of) s retry day (bytes_eq c of)
