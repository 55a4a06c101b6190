-- The facts that return rates are made of are those of what settled in the window and of what came back in it.
use Rattle.std.proofs.Common.{◌≡◌, ◌⊎◌, inl, inr, ℕ, suc, ◌+◌, ◌-◌, ◌==◌, Bool, true, false, not, ◌&&◌, nat_le, cond, List, [], ◌∷◌, ◌++◌, map, filter, find, sum_by, Option, None, Some, refl, sym, ap, ◌∙◌, arith, true≢false, bytes_eq, subst}
use Rattle.std.proofs.lemmas.Bool.{and_parts}
use Rattle.std.proofs.lemmas.List.Sums.{sum_by-cons, sum_by-append}
use Rattle.std.proofs.lemmas.Slice.Eq.{bytes_eq-Decides}
use Rattle.sqlite_keyed.proofs.ListLemmas.{filter-map}
use Rattle.std.specs.List.{flat_map, AllByRecursion}
use Rattle.std.specs.List.Sorted.{IsStrictlySortedBy}
use Rattle.std.specs.Ordering.{nat_cmp}
use Rattle.std.specs.Prelude.{Contains, count_by}
use borrow.Author.Tests.{eqb-true}
use Rattle.desk_rules.specs.LimitChecks.{is_debit}
use Rattle.desk_rules.specs.ReturnRates.{is_live_debit, has_settled, was_returned, exceeds, rates}
use Rattle.desk_rules.specs.declared.rules.entry_fact.EntryFact.{EntryFact}
use Rattle.desk_rules.specs.declared.rules.entry_fact.EntryState.{EntryState}
use Rattle.desk_rules.specs.declared.rules.rate.Level.{Level}
use Rattle.desk_rules.specs.declared.rules.rate.Level.TheVariants.{Unauthorized, Administrative, Overall}
use Rattle.desk_book.specs.Standing.{row_facts, facts_in}
use Rattle.sql_tables.specs.CutTables.{is_row}
use Rattle.sql_tables.specs.Encodes.{unless_lapsed}
use Rattle.sql_tables.specs.RowParts.{state_with, state_among}
use Rattle.sql_tables.specs.Selected.{head_of, return_of}
use Rattle.sql_tables.specs.TableReads.{is_of, is_since, is_return_in, is_return_since, orders_returned, amounts_in, returns_in, heads_in, rows_in, whole_row}
use Rattle.sql_tables.specs.Tables.{Tables}
use Rattle.sql_tables.specs.declared.records.ReturnRecord.{ReturnRecord}
use Rattle.sql_tables.specs.declared.records.SubmissionRecord.{SubmissionRecord}
use Rattle.sql_tables.specs.declared.row.entries.EntryAmount.{EntryAmount}
use Rattle.sql_tables.specs.declared.row.items.EntryReturn.{EntryReturn}
use Rattle.sql_tables.specs.declared.row.submissions.SubmissionHead.{SubmissionHead}
use Rattle.sql_queries.specs.Waiting.{is_settled_of}
use Rattle.sql_tables.specs.Composed.{fact_among, rates_in}
use Rattle.sql_tables.proofs.Lists.{filter-both}
use Rattle.sql_measures.proofs.Measures.{Adds, over_each, summed_map, summed_same, apart, others, by_key, passing_all}
use Rattle.sql_measures.proofs.RowFacts.{facts_are}
use Rattle.sql_measures.specs.Counted.{AreReturned, debit_facts, earlier_facts}

counts_add : {X : Type 0} (p : X → Bool) → Adds (count_by p)
counts_add p = record { none = refl; both = λ xs ys. sum_by-append (λ x. cond (p x) 1 0) xs ys }

-- ---- a return that is found was taken for a submission

one_more : (x z : ℕ) (xs : List ℕ) → Contains xs z → Contains (x ∷ xs) z
one_more x z xs has = (suc has.0, omega (arith, has.1), has.2)

front : (x z : ℕ) (xs : List ℕ) → x ≡ z → Contains (x ∷ xs) z
front x z xs same = (0, omega arith, same)

module _ (c : List ℕ) (order since : ℕ) where
  taken_since : (p : EntryReturn → Bool) (rs : List ReturnRecord) (b : EntryReturn) → find p (map return_of (filter (is_return_in c order) rs)) ≡ Some b → nat_le since b.day ≡ true
      → Contains (map (λ r. r.order) (filter (is_return_since c since) rs)) order
  taken_since p [] b is late = cc
  taken_since p (r ∷ rs) b is late = go (bytes_eq r.company c) (r.order == order) (nat_le since r.day) refl refl refl is (λ e. taken_since p rs b e late)
    where
      rest : List ℕ
      rest = map (λ r. r.order) (filter (is_return_since c since) rs)

      more : (b : Bool) → Contains rest order → Contains (map (λ r. r.order) (cond b (r ∷ filter (is_return_since c since) rs) (filter (is_return_since c since) rs))) order
      more true has = one_more r.order order rest has
      more false has = has

      found : (b3 : Bool) → nat_le since r.day ≡ b3 → (r.order == order) ≡ true → (h : Bool) → p (return_of r) ≡ h
          → cond h (Some (return_of r)) (find p (map return_of (filter (is_return_in c order) rs))) ≡ Some b
          → (find p (map return_of (filter (is_return_in c order) rs)) ≡ Some b → Contains rest order)
          → Contains (map (λ r. r.order) (cond b3 (r ∷ filter (is_return_since c since) rs) (filter (is_return_since c since) rs))) order
      found true old same true hit e next = front r.order order rest (eqb-true r.order order same)
      found false old same true hit e next = let day : r.day ≡ b.day = (let h = e in cc) in absurd (true≢false (sym late ∙ ap (nat_le since) (sym day) ∙ old))
      found b3 old same false miss e next = more b3 (next e)

      go : (b1 b2 b3 : Bool) → bytes_eq r.company c ≡ b1 → (r.order == order) ≡ b2 → nat_le since r.day ≡ b3
          → find p (map return_of (cond (b1 && b2) (r ∷ filter (is_return_in c order) rs) (filter (is_return_in c order) rs))) ≡ Some b
          → (find p (map return_of (filter (is_return_in c order) rs)) ≡ Some b → Contains rest order)
          → Contains (map (λ r. r.order) (cond (b1 && b3) (r ∷ filter (is_return_since c since) rs) (filter (is_return_since c since) rs))) order
      go true true b3 own same old e next = found b3 old same (p (return_of r)) refl e next
      go true false b3 own same old e next = more b3 (next e)
      go false b2 b3 own same old e next = next e

-- ---- which states count

module _ (q : EntryState → Bool) (since : ℕ) where
  -- what counts settled since then, or came back since then
  abbrev pub IsWithin : Type 0
  IsWithin = (lapsed : Bool) (settled : Option ℕ) (back : Option EntryReturn) → q (unless_lapsed lapsed (state_with settled back)) ≡ true
      → (is_since since settled ≡ true) ⊎ ((b : EntryReturn) × (back ≡ Some b) × (nat_le since b.day ≡ true))

  module _ (t : Tables) (c : List ℕ) (within : IsWithin) (os : List ℕ) (rise : IsStrictlySortedBy nat_cmp os) (all : (o : ℕ) → Contains (orders_returned c since t) o → Contains os o) where
    abbrev counts : EntryFact → Bool
    counts f = is_live_debit f && q f.state

    abbrev count_of : SubmissionRecord → ℕ
    count_of s = count_by counts (row_facts (whole_row t (head_of s)))

    abbrev debits_of : SubmissionHead → ℕ
    debits_of head = count_by counts (debit_facts (whole_row t head))

    -- of credits none counts
    no_debit : (debit : Bool) (facts : List EntryFact) → AllByRecursion (λ f. f.debit ≡ debit) facts → count_by counts (cond debit facts []) ≡ count_by counts facts
    no_debit true facts same = refl
    no_debit false [] same = refl
    no_debit false (f ∷ fs) same =
        let whole : count_by counts (f ∷ fs) ≡ cond (counts f) 1 0 + count_by counts fs = sum_by-cons (λ (x : EntryFact). cond (counts x) 1 0) f fs in
        let first : ◌≡◌ {A = ℕ} (cond (counts f) 1 0) 0 = ap (λ (b : Bool). cond ((b && not f.prenote) && q f.state) 1 0) same.0 in
        let rest : 0 ≡ count_by counts fs = no_debit false fs same.1 in
        omega arith

    own_debit : (head : SubmissionHead) (ns : List EntryAmount) → AllByRecursion (λ (f : EntryFact). f.debit ≡ is_debit head.direction) (map (fact_among head (returns_in head.company head.order t)) ns)
    own_debit head [] = tt
    own_debit head (a ∷ ns) = (refl, own_debit head ns)

    debits_are : (s : SubmissionRecord) → debits_of (head_of s) ≡ count_of s
    debits_are s =
        no_debit (is_debit s.head.direction) (row_facts (whole_row t (head_of s)))
        (subst (AllByRecursion (λ (f : EntryFact). f.debit ≡ is_debit s.head.direction)) (facts_are t (head_of s)) (own_debit (head_of s) (amounts_in s.head.company s.head.order t)))

    -- a submission that did not settle since then counts only where it came back since then
    came_back : (s : SubmissionRecord) → is_of c s ≡ true → is_since since s.head.settled ≡ false → (ns : List EntryAmount)
        → Contains os s.head.order ⊎ (count_by counts (map (fact_among (head_of s) (returns_in s.head.company s.head.order t)) ns) ≡ 0)
    came_back s own old [] = inr refl
    came_back s own old (a ∷ ns) = go (q (state_among (head_of s) (returns_in s.head.company s.head.order t) a.index)) refl (came_back s own old ns)
      where
        fact : EntryFact
        fact = fact_among (head_of s) (returns_in s.head.company s.head.order t) a

        rest : List EntryFact
        rest = map (fact_among (head_of s) (returns_in s.head.company s.head.order t)) ns

        counted : q fact.state ≡ true → Contains os s.head.order
        counted is = elim (within s.head.lapsed s.head.settled (find (λ r. r.index == a.index) (returns_in s.head.company s.head.order t)) is) [
          | inl since_then ↦ absurd (true≢false (sym since_then ∙ old))
          | inr back ↦ all s.head.order (subst (λ (d : List ℕ). Contains (map (λ r. r.order) (filter (is_return_since d since) t.returns)) s.head.order) ((bytes_eq-Decides s.head.company c).0 own)
              (taken_since s.head.company s.head.order since (λ r. r.index == a.index) t.returns back.0 back.1 back.2))
        ]

        and_no : (b : Bool) → ◌≡◌ {A = ℕ} (cond (b && false) 1 0) 0
        and_no true = refl
        and_no false = refl

        none : q fact.state ≡ false → count_by counts rest ≡ 0 → count_by counts (fact ∷ rest) ≡ 0
        none is more =
            let whole : count_by counts (fact ∷ rest) ≡ cond (counts fact) 1 0 + count_by counts rest = sum_by-cons (λ (x : EntryFact). cond (counts x) 1 0) fact rest in
            let first : ◌≡◌ {A = ℕ} (cond (counts fact) 1 0) 0 = ap (λ (x : Bool). cond (is_live_debit fact && x) 1 0) is ∙ and_no (is_live_debit fact) in
            omega arith

        go : (b : Bool) → q fact.state ≡ b → Contains os s.head.order ⊎ (count_by counts rest ≡ 0) → Contains os s.head.order ⊎ (count_by counts (fact ∷ rest) ≡ 0)
        go true is more = inl (counted is)
        go false is (inl has) = inl has
        go false is (inr more) = inr (none is more)

    abbrev late_of : SubmissionRecord → ℕ
    late_of s = cond (is_since since s.head.settled) 0 (debits_of (head_of s))

    key_or_none : (s : SubmissionRecord) → is_of c s ≡ true → Contains os s.head.order ⊎ (late_of s ≡ 0)
    key_or_none s own = go (is_since since s.head.settled) refl
      where
        none : Contains os s.head.order ⊎ (count_by counts (map (fact_among (head_of s) (returns_in s.head.company s.head.order t)) (amounts_in s.head.company s.head.order t)) ≡ 0) → Contains os s.head.order ⊎ (debits_of (head_of s) ≡ 0)
        none (inl has) = inl has
        none (inr none_counts) = inr (debits_are s ∙ ap (count_by counts) (sym (facts_are t (head_of s))) ∙ none_counts)

        go : (b : Bool) → is_since since s.head.settled ≡ b → Contains os s.head.order ⊎ (cond b 0 (debits_of (head_of s)) ≡ 0)
        go true is = inr refl
        go false is = none (came_back s own is (amounts_in s.head.company s.head.order t))

    abbrev own : List SubmissionRecord
    own = filter (is_of c) t.submissions

    settled_sum : count_by counts (flat_map (λ head. debit_facts (whole_row t head)) (heads_in (is_settled_of c since) t)) ≡ sum_by (λ s. debits_of (head_of s)) (filter (λ s. is_since since s.head.settled) own)
    settled_sum =
        over_each (count_by counts) (counts_add counts) (λ head. debit_facts (whole_row t head)) (heads_in (is_settled_of c since) t)
        ∙ summed_map debits_of head_of (filter (is_settled_of c since) t.submissions)
        ∙ ap (sum_by (λ s. debits_of (head_of s))) (sym (filter-both (λ (s : SubmissionRecord). is_since since s.head.settled) (is_of c) t.submissions))

    one_order : (o : ℕ) → count_by counts (earlier_facts c since t o) ≡ sum_by late_of (filter (λ s. s.head.order == o) own)
    one_order o =
        over_each (count_by counts) (counts_add counts) (λ head. debit_facts (whole_row t head)) (filter (λ (head : SubmissionHead). not (is_since since head.settled)) (heads_in (is_row c o) t))
        ∙ ap (sum_by debits_of) (filter-map (λ (head : SubmissionHead). not (is_since since head.settled)) head_of (filter (is_row c o) t.submissions))
        ∙ summed_map debits_of head_of (filter (λ (s : SubmissionRecord). not (is_since since s.head.settled)) (filter (is_row c o) t.submissions))
        ∙ others (λ s. debits_of (head_of s)) (λ s. is_since since s.head.settled) (filter (is_row c o) t.submissions)
        ∙ ap (sum_by late_of) (sym (filter-both (λ (s : SubmissionRecord). s.head.order == o) (is_of c) t.submissions))

    returned_sum : count_by counts (flat_map (earlier_facts c since t) os) ≡ sum_by late_of own
    returned_sum =
        over_each (count_by counts) (counts_add counts) (earlier_facts c since t) os
        ∙ summed_same (λ o. count_by counts (earlier_facts c since t o)) (λ o. sum_by late_of (filter (λ s. s.head.order == o) own)) one_order os
        ∙ by_key (λ (s : SubmissionRecord). s.head.order) late_of os rise own (passing_all (is_of c) (λ s. Contains os s.head.order ⊎ (late_of s ≡ 0)) key_or_none t.submissions)

    all_sum : count_by counts (facts_in (rows_in (is_of c) t)) ≡ sum_by count_of own
    all_sum =
        over_each (count_by counts) (counts_add counts) row_facts (rows_in (is_of c) t)
        ∙ summed_map (λ row. count_by counts (row_facts row)) (whole_row t) (heads_in (is_of c) t)
        ∙ summed_map (λ head. count_by counts (row_facts (whole_row t head))) head_of own

    -- they count what all facts count
    pub counted : (settled returned : List EntryFact) → settled ≡ flat_map (λ head. debit_facts (whole_row t head)) (heads_in (is_settled_of c since) t) → returned ≡ flat_map (earlier_facts c since t) os
        → count_by counts (settled ++ returned) ≡ count_by counts (facts_in (rows_in (is_of c) t))
    counted settled returned a b =
        (counts_add counts).both settled returned
        ∙ (let first = ap (count_by counts) a ∙ settled_sum in let second = ap (count_by counts) b ∙ returned_sum in λ i. first i + second i)
        ∙ apart (λ s. debits_of (head_of s)) (λ s. is_since since s.head.settled) own
        ∙ summed_same (λ s. debits_of (head_of s)) count_of debits_are own
        ∙ sym all_sum

settled_within : (day : ℕ) → IsWithin (λ s. has_settled s day) (day - 59)
settled_within day true settled back holds = absurd (true≢false (sym holds))
settled_within day false None back holds = absurd (true≢false (sym holds))
settled_within day false (Some on) None holds = inl (and_parts _ _ holds).0
settled_within day false (Some on) (Some b) holds = inl (and_parts _ _ holds).0

returned_within : (level : Level) (day : ℕ) → IsWithin (λ s. was_returned level s day) (day - 59)
returned_within level day true settled back holds = absurd (true≢false (sym holds))
returned_within level day false None back holds = absurd (true≢false (sym holds))
returned_within level day false (Some on) None holds = absurd (true≢false (sym holds))
returned_within level day false (Some on) (Some b) holds = inr (b, refl, (and_parts _ _ (and_parts _ _ holds).0).0)

rates_within : (t : Tables) (c : List ℕ) (day : ℕ) (settled returned : List EntryFact) → settled ≡ flat_map (λ head. debit_facts (whole_row t head)) (heads_in (is_settled_of c (day - 59)) t) → AreReturned c (day - 59) t returned
    → rates (settled ++ returned) day ≡ rates_in c day t
rates_within t c day settled returned a b =
    let of : (q : EntryState → Bool) → IsWithin q (day - 59) → count_by (λ f. is_live_debit f && q f.state) (settled ++ returned) ≡ count_by (λ f. is_live_debit f && q f.state) (facts_in (rows_in (is_of c) t)) =
    λ q within. counted q (day - 59) t c within b.orders b.rise b.all settled returned a b.are in
    let d = of (λ s. has_settled s day) (settled_within day) in
    let u = of (λ s. was_returned Unauthorized s day) (returned_within Unauthorized day) in
    let v = of (λ s. was_returned Administrative s day) (returned_within Administrative day) in
    let w = of (λ s. was_returned Overall s day) (returned_within Overall day) in
    λ i. record {
      unauthorized = record { n = u i; d = d i; over = exceeds Unauthorized (u i) (d i) };
      administrative = record { n = v i; d = d i; over = exceeds Administrative (v i) (d i) };
      overall = record { n = w i; d = d i; over = exceeds Overall (w i) (d i) };
    }

-- the rates of these facts are those of all
pub rates_are : (t : Tables) (c : List ℕ) (day since : ℕ) → since ≡ day - 59 → (settled returned : List EntryFact) → settled ≡ flat_map (λ head. debit_facts (whole_row t head)) (heads_in (is_settled_of c since) t) → AreReturned c since t returned
    → rates (settled ++ returned) day ≡ rates_in c day t
rates_are t c day since is settled returned a b =
    rates_within t c day settled returned (subst (λ (n : ℕ). settled ≡ flat_map (λ head. debit_facts (whole_row t head)) (heads_in (is_settled_of c n) t)) is a) (subst (λ (n : ℕ). AreReturned c n t returned) is b)
