-- The state of an entry that comes back, and of the others, by the rows of returns.
use Rattle.std.proofs.Common.{◌≡◌, ℕ, ◌+◌, ◌&&◌, ◌==◌, true, false, cond, List, [], ◌∷◌, ◌++◌, map, find, Some, None, refl, sym, ap, ◌∙◌, inl, inr, true≢false}
use Rattle.std.specs.Prelude.{if◌then◌else◌, bytes_eq}
use Rattle.std.specs.List.{enumerate_from}
use Rattle.std.specs.Option.{option_or}
use Rattle.std.proofs.lemmas.Bool.{cases_Bool, and_from, eqb-true, eq-eqb, false_from_ne_true}
use Rattle.std.proofs.lemmas.List.Folds.{find-append}
use Rattle.sqlite_keyed.proofs.ListLemmas.{map_same}
use Rattle.desk_rules.specs.declared.bodies.submission.Entry.{Entry}
use Rattle.desk_rules.specs.declared.rules.entry_fact.EntryState.{EntryState}
use Rattle.desk_rules.specs.declared.rules.entry_fact.EntryState.TheVariants as states
use Rattle.desk_book.specs.declared.flat_rows.ReturnedRow.{ReturnedRow}
use Rattle.desk_book.specs.Standing.{is_row_under}
use Rattle.desk_book.specs.Steps.{returned_row_by, returned_state_by}
use Rattle.desk_store.specs.Changes.{return_in}
use Rattle.desk_store.specs.Rows.{CompanyRow}
use Rattle.sql_tables.specs.Encodes.{HasStates, entry_state, is_return_of, is_submission_under, settled_state, unless_lapsed}
use Rattle.sql_tables.specs.declared.records.ReturnRecord.{ReturnRecord}
use Rattle.sql_tables.proofs.KeptRows.{restated}
use Rattle.sql_write_laws.proofs.Found.{or_none}

-- ---- the change of a row

pub return_both : (x : ReturnedRow) (y : CompanyRow) → return_in x y ≡ (if is_submission_under x.company x.row.reference y then record y { row = restated x y.row } else y)
return_both x y = elim (bytes_eq y.company x.company) as (λ b. (if b then record y { row = returned_row_by x y.row } else y) ≡ (if b && is_row_under x.row.reference y.row then record y { row = restated x y.row } else y)) [
  | true ↦ elim (is_row_under x.row.reference y.row) as (λ b. record y { row = if b then restated x y.row else y.row } ≡ (if b then record y { row = restated x y.row } else y)) [ true ↦ refl | false ↦ refl ]
  | false ↦ refl
]

pub return_settles : (x : ReturnedRow) (y : CompanyRow) → (return_in x y).row.settled ≡ y.row.settled
return_settles x y =
    ap (λ (z : CompanyRow). z.row.settled) (return_both x y)
    ∙ elim (is_submission_under x.company x.row.reference y) as (λ b. (if b then record y { row = restated x y.row } else y).row.settled ≡ y.row.settled) [ true ↦ refl | false ↦ refl ]

pub return_lapses : (x : ReturnedRow) (y : CompanyRow) → (return_in x y).row.lapsed ≡ y.row.lapsed
return_lapses x y =
    ap (λ (z : CompanyRow). z.row.lapsed) (return_both x y)
    ∙ elim (is_submission_under x.company x.row.reference y) as (λ b. (if b then record y { row = restated x y.row } else y).row.lapsed ≡ y.row.lapsed) [ true ↦ refl | false ↦ refl ]

-- ---- states

-- states of what is numbered, changed by their numbers
renumbered : {A : Type 0} (change : ℕ → EntryState → EntryState) (state : ℕ → EntryState) (n : ℕ) (xs : List A)
    → map (λ (p : ℕ × EntryState). change p.0 p.1) (enumerate_from n (map (λ (q : ℕ × A). state q.0) (enumerate_from n xs))) ≡ map (λ (q : ℕ × A). change q.0 (state q.0)) (enumerate_from n xs)
renumbered change state n [] = refl
renumbered change state n (x ∷ xs) = ap (λ l. change n (state n) ∷ l) (renumbered change state (n + 1) xs)

module _ (returns : List ReturnRecord) (new : ReturnRecord) where
  abbrev more : List ReturnRecord
  more = returns ++ new ∷ []

  -- a return of another entry is not found
  found_before : (c : List ℕ) (o i : ℕ) → is_return_of c o i new ≡ false → find (is_return_of c o i) more ≡ find (is_return_of c o i) returns
  found_before c o i out = find-append (is_return_of c o i) returns (new ∷ []) ∙ ap (λ b. option_or (find (is_return_of c o i) returns) (cond b (Some new) None)) out ∙ or_none (find (is_return_of c o i) returns)

  found_new : (c : List ℕ) (o i : ℕ) → is_return_of c o i new ≡ true → find (is_return_of c o i) returns ≡ None → find (is_return_of c o i) more ≡ Some new
  found_new c o i is none = find-append (is_return_of c o i) returns (new ∷ []) ∙ (λ k. option_or (none k) (cond (is k) (Some new) None))

  -- of a submission of which nothing came back the states are as they were
  pub other_states : (y : CompanyRow) → (bytes_eq new.company y.company && new.order == y.row.order) ≡ false → HasStates returns y → HasStates more y
  other_states y out are =
      are ∙ map_same (λ (p : ℕ × Entry). entry_state returns y p.0) (λ p. entry_state more y p.0)
      (λ p i. unless_lapsed y.row.lapsed (settled_state y.row.settled (sym (found_before y.company y.row.order p.0 (ap (λ b. b && new.index == p.0) out)) i))) (enumerate_from 1 y.row.content.entries)

  -- of the one of which an entry did, that entry is returned
  module _ (x : ReturnedRow) (y : CompanyRow) (on : ℕ) (settled : y.row.settled ≡ Some on) (lasts : y.row.lapsed ≡ false) (own : (bytes_eq new.company y.company && new.order == y.row.order) ≡ true)
      (same : (new.index ≡ x.row.index) × (new.code ≡ x.row.code) × (new.day ≡ x.row.day) × (new.late ≡ x.row.late)) (none : find (is_return_of y.company y.row.order x.row.index) returns ≡ None) where
    abbrev state_by : List ReturnRecord → ℕ → EntryState
    state_by rs i = unless_lapsed y.row.lapsed (settled_state y.row.settled (find (is_return_of y.company y.row.order i) rs))

    changed : (i : ℕ) → (if i == x.row.index then returned_state_by x (state_by returns i) else state_by returns i) ≡ state_by more i
    changed i = elim (cases_Bool (i == x.row.index)) [
      | inl is ↦
          (let at : i ≡ x.row.index = eqb-true i x.row.index is in
          let gone : find (is_return_of y.company y.row.order i) returns ≡ None = ap (λ n. find (is_return_of y.company y.row.order n) returns) at ∙ none in
          let named : is_return_of y.company y.row.order i new ≡ true = and_from _ _ own (eq-eqb new.index i (same.0 ∙ sym at)) in
          ap (λ b. if b then returned_state_by x (state_by returns i) else state_by returns i) is
          ∙ (λ k. returned_state_by x (unless_lapsed (lasts k) (settled_state (settled k) (gone k))))
          ∙ (λ k. states.Returned on (sym same.1 k) (sym same.2 k) (sym same.3 k))
          ∙ (λ k. unless_lapsed (sym lasts k) (settled_state (sym settled k) (sym (found_new y.company y.row.order i named gone) k))))
      | inr out ↦
          (let unnamed : is_return_of y.company y.row.order i new ≡ false =
          (λ k. own k && new.index == i) ∙ (λ k. same.0 k == i) ∙ eq_turned x.row.index i out in
          ap (λ b. if b then returned_state_by x (state_by returns i) else state_by returns i) out
          ∙ (λ k. unless_lapsed y.row.lapsed (settled_state y.row.settled (sym (found_before y.company y.row.order i unnamed) k))))
    ]
      where
        eq_turned : (a b : ℕ) → (b == a) ≡ false → (a == b) ≡ false
        eq_turned a b out = false_from_ne_true _ (λ is. true≢false (sym (eq-eqb b a (sym (eqb-true a b is))) ∙ out))

    pub own_states : HasStates returns y → HasStates more (record y { row = restated x y.row })
    own_states are =
        ap (λ (l : List EntryState). map (λ (p : ℕ × EntryState). if p.0 == x.row.index then returned_state_by x p.1 else p.1) (enumerate_from 1 l)) are
        ∙ renumbered (λ i s. if i == x.row.index then returned_state_by x s else s) (state_by returns) 1 y.row.content.entries
        ∙ map_same (λ (p : ℕ × Entry). if p.0 == x.row.index then returned_state_by x (state_by returns p.0) else state_by returns p.0) (λ p. state_by more p.0) (λ p. changed p.0) (enumerate_from 1 y.row.content.entries)
