-- Which submissions of a company the next cut sends, and which it lets lapse, by its rows.
use Rattle.std.proofs.Common.{◌≡◌, ℕ, List, [], ◌∷◌, map, length, Bool, true, false, not, ◌&&◌, refl, sym, ap, ◌∙◌, inl, inr}
use Rattle.std.specs.Prelude.{if◌then◌else◌, filter, count_by, Option, Some, None, is_some, is_none, unwrap_or}
use Rattle.std.specs.List.{AllByRecursion}
use Rattle.std.proofs.lemmas.Bool.{cases_Bool}
use Rattle.std.proofs.lemmas.List.{length-map, map-id}
use Rattle.std.proofs.lemmas.List.Sums.{length-filter}
use Rattle.desk_rules.specs.declared.bodies.company.Company.{Company}
use Rattle.desk_book.specs.declared.row.Row.{Row}
use Rattle.desk_history.specs.Part.{Event, CutMade}
use Rattle.desk_history.specs.State.{decision, is_too_late, original_settlement}
use Rattle.desk_history.specs.Accepted.{AcceptedSubmission, settlement_day, is_sent_next, lapses_next}
use Rattle.desk_history.specs.Acceptance.{submissions}
use Rattle.desk_history.specs.Sendings.{Sending}
use Rattle.desk_book.specs.Book.{rows, row_of}
use Rattle.desk_book.specs.Standing.{is_held, is_due_row, settlement_of, original_of_row, sent_row, lapsed_row, cut_row}
use Rattle.desk_history.proofs.Basics.Each.{each-weaker}
use Rattle.desk_book.proofs.Passing.{same_chosen}

-- ---- the tests

-- would it settle too long after its original?
abbrev pub is_late_row : List ℕ → ℕ → List Row → Row → Bool
is_late_row holidays today rs row = is_too_late (Some (settlement_of holidays today row)) (original_of_row rs row.retry)

-- the next cut sends it
abbrev pub is_sent_row : List ℕ → ℕ → List Row → Row → Bool
is_sent_row holidays today rs row = (is_held row && is_due_row holidays today row) && not (is_late_row holidays today rs row)

-- the next cut lets it lapse
abbrev pub is_lapsed_row : List ℕ → ℕ → List Row → Row → Bool
is_lapsed_row holidays today rs row = (is_held row && is_due_row holidays today row) && is_late_row holidays today rs row

-- what the next cut sends of a company, from its row
abbrev pub sent_by_row : List ℕ → ℕ → Company → Row → Sending
sent_by_row holidays today k row = record { company = k; order = row.order; content = row.content; settled = settlement_of holidays today row }

-- the rows after the next cut are those that it makes of these
abbrev pub IsCutOf : List ℕ → ℕ → List Event → Type 0
IsCutOf holidays today P = rows (CutMade ∷ P) ≡ map (cut_row holidays today (rows P)) (rows P)

-- ---- one row

-- it is held while no cut has decided it
held_undecided : (P : List Event) (a : AcceptedSubmission) → is_held (row_of P a) ≡ is_none (decision P a.place)
held_undecided P a = at (decision P a.place) (original_settlement P a.original) where
  at : (o original : Option ℕ) → (is_none (if is_too_late o original then None else o) && not (is_too_late o original)) ≡ is_none o
  at None original = refl
  at (Some d) original = elim (is_too_late (Some d) original) as (λ (t : Bool). (is_none (if t then None else Some d) && not t) ≡ false) [ true ↦ refl | false ↦ refl ]

-- what is held has not settled and has not lapsed
held_parts : (row : Row) → is_held row ≡ true → (row.settled ≡ None) × (row.lapsed ≡ false)
held_parts row held = at row.settled row.lapsed held where
  at : (o : Option ℕ) (t : Bool) → (is_none o && not t) ≡ true → (o ≡ None) × (t ≡ false)
  at None true h = cc
  at None false h = (refl, refl)
  at (Some d) t h = cc

-- the row after a cut
abbrev cut_as : Row → Bool → Bool → ℕ → Row
cut_as row decides late on = if decides then (if late then lapsed_row row else sent_row on row) else row

-- of what is held the cut sends what is due and not late
sent_as : (row : Row) (due late : Bool) (on : ℕ) → (is_held row && is_some ((cut_as row (is_held row && due) late on).settled)) ≡ ((is_held row && due) && not late)
sent_as row due late on = elim (cases_Bool (is_held row)) [
  | inl held ↦
      ap (λ (t : Bool). t && is_some ((cut_as row (t && due) late on).settled)) held
      ∙ at due late (ap is_some (held_parts row held).0)
      ∙ ap (λ (t : Bool). (t && due) && not late) (sym held)
  | inr decision ↦
      ap (λ (t : Bool). t && is_some ((cut_as row (t && due) late on).settled)) decision
      ∙ ap (λ (t : Bool). (t && due) && not late) (sym decision)
] where
  at : (due late : Bool) → is_some row.settled ≡ false → is_some ((cut_as row due late on).settled) ≡ (due && not late)
  at true true none = none
  at true false none = refl
  at false late none = none

-- what is late lapses
lapsed_as : (row : Row) (due late : Bool) (on : ℕ) → (is_held row && (cut_as row (is_held row && due) late on).lapsed) ≡ ((is_held row && due) && late)
lapsed_as row due late on = elim (cases_Bool (is_held row)) [
  | inl held ↦
      ap (λ (t : Bool). t && (cut_as row (t && due) late on).lapsed) held
      ∙ at due late (held_parts row held).1
      ∙ ap (λ (t : Bool). (t && due) && late) (sym held)
  | inr decision ↦
      ap (λ (t : Bool). t && (cut_as row (t && due) late on).lapsed) decision
      ∙ ap (λ (t : Bool). (t && due) && late) (sym decision)
] where
  at : (due late : Bool) → row.lapsed ≡ false → (cut_as row due late on).lapsed ≡ (due && late)
  at true true none = refl
  at true false none = none
  at false late none = none

-- what is sent settles on its day
settles_as : (row : Row) (due late : Bool) (on : ℕ) → (due && not late) ≡ true → unwrap_or ((cut_as row due late on).settled) 0 ≡ on
settles_as row true false on h = refl
settles_as row true true on h = cc
settles_as row false late on h = cc

-- ---- the rows of a company

-- the row of each after the cut
cut_each : (holidays : List ℕ) (today : ℕ) (rs : List Row) (P : List Event) (A : List AcceptedSubmission)
    → map (row_of (CutMade ∷ P)) A ≡ map (cut_row holidays today rs) (map (row_of P) A)
    → AllByRecursion (λ a. row_of (CutMade ∷ P) a ≡ cut_row holidays today rs (row_of P a)) A
cut_each holidays today rs P [] cut = tt
cut_each holidays today rs P (a ∷ A) cut = (cc, cut_each holidays today rs P A (cc))

module _ (holidays : List ℕ) (today : ℕ) (P : List Event) (cut : IsCutOf holidays today P) where
  -- what the cut sends of a company, from what was accepted
  abbrev sent_by_part : Company → AcceptedSubmission → Sending
  sent_by_part k a = record { company = k; order = a.order; content = a.content; settled = unwrap_or (settlement_day (CutMade ∷ P) a) 0 }

  -- the row of one after the cut
  abbrev IsCutRow : AcceptedSubmission → Type 0
  IsCutRow a = row_of (CutMade ∷ P) a ≡ cut_row holidays today (rows P) (row_of P a)

  -- each submission has such a row
  cut_rows : AllByRecursion IsCutRow (submissions P)
  cut_rows = cut_each holidays today (rows P) P (submissions P) cut

  -- the tests of a row are those of what was accepted
  same_sent : (a : AcceptedSubmission) → IsCutRow a → is_sent_row holidays today (rows P) (row_of P a) ≡ is_sent_next P a
  same_sent a is =
      let row = row_of P a in
      sym (sent_as row (is_due_row holidays today row) (is_late_row holidays today (rows P) row) (settlement_of holidays today row))
      ∙ (λ i. held_undecided P a i && is_some ((sym is i).settled))

  same_lapsed : (a : AcceptedSubmission) → IsCutRow a → is_lapsed_row holidays today (rows P) (row_of P a) ≡ lapses_next P a
  same_lapsed a is =
      let row = row_of P a in
      sym (lapsed_as row (is_due_row holidays today row) (is_late_row holidays today (rows P) row) (settlement_of holidays today row))
      ∙ (λ i. held_undecided P a i && (sym is i).lapsed)

  same_settlement : (a : AcceptedSubmission) → IsCutRow a → is_sent_next P a ≡ true → settlement_of holidays today (row_of P a) ≡ unwrap_or (settlement_day (CutMade ∷ P) a) 0
  same_settlement a is next =
      let row = row_of P a in
      sym (settles_as row (is_held row && is_due_row holidays today row) (is_late_row holidays today (rows P) row) (settlement_of holidays today row) (same_sent a is ∙ next))
      ∙ ap (λ (row : Row). unwrap_or row.settled 0) (sym is)

  -- what the cut sends of the company follows from its rows
  pub sent_on_rows : (k : Company)
      → map (sent_by_row holidays today k) (filter (is_sent_row holidays today (rows P)) (rows P)) ≡ map (sent_by_part k) (filter (is_sent_next P) (submissions P))
  sent_on_rows k =
      same_chosen (sent_by_part k) (sent_by_row holidays today k) (row_of P) (is_sent_next P) (is_sent_row holidays today (rows P)) (submissions P)
      (each-weaker IsCutRow _ (λ a is. (same_sent a is, λ next i. record { company = k; order = a.order; content = a.content; settled = same_settlement a is next i })) (submissions P) cut_rows)

  -- and how many it lets lapse
  pub lapsed_on_rows : count_by (is_lapsed_row holidays today (rows P)) (rows P) ≡ count_by (lapses_next P) (submissions P)
  lapsed_on_rows =
      let test = is_lapsed_row holidays today (rows P) in
      sym (length-filter test (rows P))
      ∙ sym (ap length (map-id (filter test (rows P))))
      ∙ ap length (same_chosen (row_of P) (λ row. row) (row_of P) (lapses_next P) test (submissions P)
      (each-weaker IsCutRow _ (λ a is. (same_lapsed a is, λ next. refl)) (submissions P) cut_rows))
      ∙ length-map (filter (lapses_next P) (submissions P)) (row_of P)
      ∙ length-filter (lapses_next P) (submissions P)
