-- The balances of an account are the sums of its lines by value day.
use Rattle.std.proofs.Common.{◌≡◌, ℕ, ◌<◌, Bool, true, false, ◌==◌, cond, List, [], ◌∷◌, map, filter, find, ℤ, Option, Some, None, option_map, refl, sym, subst, ap, ◌∙◌, arith, inl, inr}
use Rattle.std.specs.Prelude.{if◌then◌else◌, nat_lt}
use Rattle.std.specs.Cmp.{nat_cmp_is}
use Rattle.std.specs.Ordering.{nat_cmp, ordering_then}
use Rattle.std.specs.declared.cmp.Ordering.TheVariants.{Less, Equal, Greater}
use Rattle.std.specs.List.{AllByRecursion}
use Rattle.std.proofs.lemmas.Bool.{cases_Bool, cases_order, eq-eqb, ne_eqb, eqb-true}
use Rattle.std.proofs.lemmas.List.Kept.{AllPairs-from_increasing}
use Rattle.std.proofs.lemmas.Slice.Eq.{bytes_eq-Decides}
use Rattle.sqlite_trees.specs.Tree.{IsAscending}
use Rattle.sqlite_keyed.proofs.ListLemmas.{map-map, all_weaker, ascending-map, ascending_from_map}
use Rattle.desk_accounts.specs.declared.account.Account.{Account}
use Rattle.desk_accounts.specs.declared.account.Account.TheVariants as accounts
use Rattle.desk_accounts.specs.declared.posting.Posting.{Posting}
use Rattle.desk_accounts.specs.Balance.{lines_of, lines_on, total, with_day, value_days, day_sums}
use Rattle.desk_accounts.specs.Laws.{BalancesByDay}
use Rattle.desk_accounts.specs.Posting.{same_account}
use Rattle.sql_tables.specs.Beside.{AreSums, sum_if_any, balance_of}
use Rattle.sql_tables.specs.Columns.{account_text}
use Rattle.sql_tables.specs.Description.{key_cmp}
use Rattle.sql_tables.specs.DeskTables as the
use Rattle.sql_tables.specs.KeyOrders.{IsInOrder, text_cmp}
use Rattle.sql_tables.specs.Selected.{day_sum_of}
use Rattle.sql_tables.specs.declared.records.BalanceRecord.{BalanceRecord}
use Rattle.desk_history.specs.declared.operations.DaySum.{DaySum}
use Rattle.sql_tables.proofs.Lists.{find-map, find-both, option_map-map, ascending_from_pairs}
use Rattle.sql_read_laws.proofs.WholeRows.{text_ties}

-- ---- sums by ascending days are told by their look-ups

abbrev IsBelow : ℕ × ℤ → ℕ × ℤ → Type 0
IsBelow a b = a.0 < b.0

abbrev sum_at : ℕ → List (ℕ × ℤ) → Option ℤ
sum_at day sums = option_map (λ s. s.1) (find (λ s. s.0 == day) sums)

none_at : (day : ℕ) (sums : List (ℕ × ℤ)) → AllByRecursion (λ s. day < s.0) sums → sum_at day sums ≡ None
none_at day [] above = refl
none_at day (s ∷ sums) above = ap (λ t. option_map (λ (s : ℕ × ℤ). s.1) (cond t (Some s) (find (λ s. s.0 == day) sums))) (ne_eqb s.0 day (λ same. absurd (let up = above.0 in omega arith))) ∙ none_at day sums above.1

here_at : (day : ℕ) (s : ℕ × ℤ) (sums : List (ℕ × ℤ)) → s.0 ≡ day → sum_at day (s ∷ sums) ≡ Some s.1
here_at day s sums same = ap (λ t. option_map (λ (s : ℕ × ℤ). s.1) (cond t (Some s) (find (λ s. s.0 == day) sums))) (eq-eqb s.0 day same)

later_at : (day : ℕ) (s : ℕ × ℤ) (sums : List (ℕ × ℤ)) → (s.0 ≡ day → ⊥) → sum_at day (s ∷ sums) ≡ sum_at day sums
later_at day s sums apart = ap (λ t. option_map (λ (s : ℕ × ℤ). s.1) (cond t (Some s) (find (λ s. s.0 == day) sums))) (ne_eqb s.0 day (λ same. absurd (apart same)))

same_sums : (xs ys : List (ℕ × ℤ)) → IsAscending IsBelow xs → IsAscending IsBelow ys → ((day : ℕ) → sum_at day xs ≡ sum_at day ys) → xs ≡ ys
same_sums [] [] up down same = refl
same_sums [] (y ∷ ys) up down same = absurd (let e = same y.0 ∙ here_at y.0 y ys refl in cc)
same_sums (x ∷ xs) [] up down same = absurd (let e = sym (here_at x.0 x xs refl) ∙ same x.0 in cc)
same_sums (x ∷ xs) (y ∷ ys) up down same = elim (cases_order x.0 y.0) [
  | inl equal ↦
      (let value : Some x.1 ≡ Some y.1 = sym (here_at x.0 x xs refl) ∙ same x.0 ∙ here_at x.0 y ys (sym equal) in
      let sum : x.1 ≡ y.1 = (let e = value in cc) in
      let rest : xs ≡ ys = same_sums xs ys up.1 down.1 (tails equal) in
      λ i. (equal i, sum i) ∷ rest i)
  | inr apart ↦ elim apart [
    | inl lower ↦ absurd (let e = sym (here_at x.0 x xs refl) ∙ same x.0 ∙ none_at x.0 (y ∷ ys) (lower, all_weaker (IsBelow y) (λ s. x.0 < s.0) (λ s above. omega arith) ys down.0) in cc)
    | inr higher ↦ absurd (let e = sym (none_at y.0 (x ∷ xs) (higher, all_weaker (IsBelow x) (λ s. y.0 < s.0) (λ s above. omega arith) xs up.0)) ∙ same y.0 ∙ here_at y.0 y ys refl in cc)
  ]
] where
  tails : x.0 ≡ y.0 → (day : ℕ) → sum_at day xs ≡ sum_at day ys
  tails equal day = elim (cases_Bool (x.0 == day)) [
    | inl is ↦
        (let at : x.0 ≡ day = eqb-true x.0 day is in
        none_at day xs (all_weaker (IsBelow x) (λ s. day < s.0) (λ s above. omega arith) xs up.0)
        ∙ sym (none_at day ys (all_weaker (IsBelow y) (λ s. day < s.0) (λ s above. omega arith) ys down.0)))
    | inr out ↦
        (let apart : x.0 ≡ day → ⊥ = (λ at. let e = sym (eq-eqb x.0 day at) ∙ out in cc) in
        let away : y.0 ≡ day → ⊥ = (λ at. apart (equal ∙ at)) in
        sym (later_at day x xs apart) ∙ same day ∙ later_at day y ys away)
  ]

-- ---- those of lines

abbrev if_any : {X : Type 0} → List X → ℤ → Option ℤ
if_any [] sum = None
if_any (x ∷ xs) sum = Some sum

sum_of_any : (lines : List Posting) → if_any lines (total lines) ≡ sum_if_any lines
sum_of_any [] = refl
sum_of_any (line ∷ lines) = refl

-- a day is found among days with one more where it is that one, or was among them
module _ (day : ℕ) (sum : ℤ) where
  abbrev among : List ℕ → Option ℤ
  among days = option_map (λ _. sum) (find (λ d. d == day) days)

  with_more : (new : ℕ) (days : List ℕ) → among (with_day new days) ≡ cond (new == day) (Some sum) (among days)
  with_more new [] = elim (new == day) as (λ t. option_map (λ _. sum) (cond t (Some new) None) ≡ cond t (Some sum) None) [ true ↦ refl | false ↦ refl ]
  with_more new (d ∷ days) = go (new == d) (nat_lt new d) (new == day) (d == day) refl refl refl (with_more new days)
    where
      go : (a b n o : Bool) → (new == d) ≡ a → (new == day) ≡ n → (d == day) ≡ o → among (with_day new days) ≡ cond (new == day) (Some sum) (among days)
          → among (if a then d ∷ days else (if b then new ∷ d ∷ days else d ∷ with_day new days)) ≡ cond n (Some sum) (option_map (λ _. sum) (cond o (Some d) (find (λ d. d == day) days)))
      go true b true true p q s more = rw s refl
      go true b true false p q s more = absurd (let e = sym (subst (λ (m : ℕ). (m == day) ≡ true) (eqb-true new d p) q) ∙ s in cc)
      go true b false true p q s more = rw s refl
      go true b false false p q s more = rw s refl
      go false true true o p q s more = rw q refl
      go false true false true p q s more = rw (q, s) refl
      go false true false false p q s more = rw (q, s) refl
      go false false true true p q s more = rw s refl
      go false false true false p q s more = rw s (more ∙ rw q refl)
      go false false false true p q s more = rw s refl
      go false false false false p q s more = rw s (more ∙ rw q refl)

  of_days : (lines : List Posting) → among (value_days lines) ≡ if_any (lines_on day lines) sum
  of_days [] = refl
  of_days (line ∷ lines) =
      with_more line.value_day (value_days lines)
      ∙ elim (line.value_day == day) as (λ t. cond t (Some sum) (among (value_days lines)) ≡ if_any (cond t (line ∷ lines_on day lines) (lines_on day lines)) sum) [ true ↦ refl | false ↦ of_days lines ]

  -- a list of sums has that of a day where the day is one of them
  of_sums : (f : ℕ → ℤ) → f day ≡ sum → (days : List ℕ) → sum_at day (map (λ d. (d, f d)) days) ≡ among days
  of_sums f is [] = refl
  of_sums f is (d ∷ days) = go (d == day) refl (of_sums f is days)
    where
      go : (t : Bool) → (d == day) ≡ t → sum_at day (map (λ d. (d, f d)) days) ≡ among days
          → option_map (λ (s : ℕ × ℤ). s.1) (cond t (Some (d, f d)) (find (λ s. s.0 == day) (map (λ d. (d, f d)) days))) ≡ option_map (λ _. sum) (cond t (Some d) (find (λ d. d == day) days))
      go true at more = ap Some (ap f (eqb-true d day at) ∙ is)
      go false at more = more

-- ---- those of an account

one_account : (a b : Account) → same_account a b ≡ true → a ≡ b
one_account (accounts.Company a) (accounts.Company b) is = ap accounts.Company ((bytes_eq-Decides a b).0 is)
one_account accounts.Operator accounts.Operator is = refl
one_account accounts.Suspense accounts.Suspense is = refl
one_account (accounts.Company a) accounts.Operator is = absurd (let e = is in cc)
one_account (accounts.Company a) accounts.Suspense is = absurd (let e = is in cc)
one_account accounts.Operator (accounts.Company b) is = absurd (let e = is in cc)
one_account accounts.Operator accounts.Suspense is = absurd (let e = is in cc)
one_account accounts.Suspense (accounts.Company b) is = absurd (let e = is in cc)
one_account accounts.Suspense accounts.Operator is = absurd (let e = is in cc)

pub less_number : (m n : ℕ) → nat_cmp m n ≡ Less → m < n
less_number m n less = elim (cases_order m n) [
  | inl same ↦ absurd (let e = sym less ∙ sym (nat_cmp_is m n Equal same) in cc)
  | inr apart ↦ elim apart [
    | inl lower ↦ lower
    | inr higher ↦ absurd (let e = sym less ∙ sym (nat_cmp_is m n Greater higher) in cc)
  ]
]

abbrev pub sum_pair : DaySum → ℕ × ℤ
sum_pair s = (s.day, s.cents)

below_passing : {X : Type 0} (p : X → Bool) (P Q : X → Type 0) → ((x : X) → p x ≡ true → P x → Q x) → (xs : List X) → AllByRecursion P xs → AllByRecursion Q (filter p xs)
below_passing p P Q each [] all = tt
below_passing {X = X} p P Q each (x ∷ xs) all = go (p x) refl (below_passing p P Q each xs all.1)
  where
    go : (t : Bool) → p x ≡ t → AllByRecursion Q (filter p xs) → AllByRecursion Q (cond t (x ∷ filter p xs) (filter p xs))
    go true is more = (each x is all.0, more)
    go false is more = more

module _ (account : Account) where
  abbrev is_its : BalanceRecord → Bool
  is_its b = same_account b.account account

  -- what passes in a key's order stands in the order of what is left of the key
  days_rise : (balances : List BalanceRecord) → IsInOrder (key_cmp the.balances) balances → IsAscending (λ a b. a.value_day < b.value_day) (filter is_its balances)
  days_rise [] up = tt
  days_rise (b ∷ balances) up = go (is_its b) refl (days_rise balances up.1)
    where
      below : is_its b ≡ true → (c : BalanceRecord) → is_its c ≡ true → key_cmp the.balances b c ≡ Less → b.value_day < c.value_day
      below own c its less =
          let same : b.account ≡ c.account = one_account b.account account own ∙ sym (one_account c.account account its) in
          let ties : (key_cmp the.balances) b c ≡ nat_cmp b.value_day c.value_day = (λ i. ordering_then (text_cmp (account_text (same i)) (account_text c.account)) (nat_cmp b.value_day c.value_day)) ∙ ap (λ o. ordering_then o (nat_cmp b.value_day c.value_day)) (text_ties (account_text c.account)) in
          less_number b.value_day c.value_day (sym ties ∙ less)

      all_below : is_its b ≡ true → (more : List BalanceRecord) → AllByRecursion (λ c. key_cmp the.balances b c ≡ Less) more → AllByRecursion (λ c. b.value_day < c.value_day) (filter is_its more)
      all_below own more less = below_passing is_its (λ c. key_cmp the.balances b c ≡ Less) (λ c. b.value_day < c.value_day) (below own) more less

      go : (t : Bool) → is_its b ≡ t → IsAscending (λ a b. a.value_day < b.value_day) (filter is_its balances) → IsAscending (λ a b. a.value_day < b.value_day) (cond t (b ∷ filter is_its balances) (filter is_its balances))
      go true own more = (all_below own balances up.0, more)
      go false own more = more

  found_sum : (balances : List BalanceRecord) (day : ℕ) → sum_at day (map (λ b. sum_pair (day_sum_of b)) (filter is_its balances)) ≡ balance_of balances account day
  found_sum balances day =
      ap (option_map (λ (s : ℕ × ℤ). s.1)) (find-map (λ (s : ℕ × ℤ). s.0 == day) (λ b. sum_pair (day_sum_of b)) (filter is_its balances))
      ∙ option_map-map (λ (s : ℕ × ℤ). s.1) (λ b. sum_pair (day_sum_of b)) (find (λ b. b.value_day == day) (filter is_its balances))
      ∙ ap (option_map (λ b. b.cents)) (find-both (λ b. b.value_day == day) is_its balances)

  pub sums_found : BalancesByDay → (balances : List BalanceRecord) (postings : List Posting) → IsInOrder (key_cmp the.balances) balances → AreSums balances postings → map sum_pair (map day_sum_of (filter is_its balances)) ≡ day_sums account postings
  sums_found law balances postings rise sums =
      map-map sum_pair day_sum_of (filter is_its balances)
      ∙ same_sums (map (λ b. sum_pair (day_sum_of b)) (filter is_its balances)) (day_sums account postings)
      (ascending-map IsBelow (λ b. sum_pair (day_sum_of b)) (filter is_its balances) (days_rise balances rise))
      (ascending_from_map (λ (m n : ℕ). m < n) (λ (s : ℕ × ℤ). s.0) (day_sums account postings) (ascending_from_pairs (λ (m n : ℕ). m < n) (map (λ (s : ℕ × ℤ). s.0) (day_sums account postings)) (AllPairs-from_increasing (map (λ (s : ℕ × ℤ). s.0) (day_sums account postings)) (law.ascending account postings))))
      (λ day.
      let ours : List Posting = lines_of account postings in
      let sum : ℤ = total (lines_on day ours) in
      found_sum balances day
      ∙ sums account day
      ∙ sym (of_sums day sum (λ d. total (lines_on d ours)) refl (value_days ours) ∙ of_days day sum ours ∙ sum_of_any (lines_on day ours)))
