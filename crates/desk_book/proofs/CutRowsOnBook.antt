-- The submissions of each company after what a cut of the book writes.
use Rattle.std.proofs.Common.{◌≡◌, ℕ, List, [], map, Bool, true, false, not, ◌&&◌, refl, sym, ap, ◌∙◌}
use Rattle.std.specs.Prelude.{if◌then◌else◌, fold, filter, find, Option, Some, None, is_some}
use Rattle.std.specs.List.{flat_map}
use Rattle.std.proofs.lemmas.List.{map-id}
use Rattle.std.proofs.lemmas.Simd.{map-map}
use Rattle.desk_rules.specs.declared.bodies.company.Company.{Company}
use Rattle.desk_book.specs.declared.row.Row.{Row}
use Rattle.desk_book.specs.Book.{Book}
use Rattle.desk_history.specs.Operator.{has_id}
use Rattle.desk_history.specs.Sendings.{Sending}
use Rattle.desk_book.specs.Standing.{is_held, is_due_row, settlement_of, sent_row, lapsed_row, cut_row}
use Rattle.desk_history.proofs.Accounts.Companies.{Apart}
use Rattle.desk_book.specs.declared.flat_rows.LapsedRow.{LapsedRow}
use Rattle.desk_book.specs.OnCut.{cut_sendings, lapsed_rows, cut_facts}
use Rattle.desk_book.proofs.CutOnRows.{is_late_row, is_sent_row, is_lapsed_row, sent_by_row}
use Rattle.desk_book.proofs.CutSends.{sends_by_rows, lapsed_by_rows}
use Rattle.desk_book.proofs.Passing.{map-flat_map}
use Rattle.desk_book.proofs.Turns.{AreApart, Turn, turned_all, turns, turned_at, turns_of, turned_by_own, turned_in}

-- what becomes of a row that is sent, and of one that lapses
abbrev pub sending_turn : Sending → List ℕ × Turn
sending_turn s = (s.company.id, record { order = s.order; change = sent_row s.settled })

abbrev pub lapsed_turn : LapsedRow → List ℕ × Turn
lapsed_turn l = (l.company, record { order = l.order; change = lapsed_row })

module _ (b : Book) (d : ℕ) where
  -- ---- one company

  -- the turns of those that are sent, and of those that lapse
  abbrev sent_turns : List ℕ → List Turn
  sent_turns c = turns (λ row. sent_row (settlement_of b.holidays d row)) (is_sent_row b.holidays d (b.rows c)) (b.rows c)

  abbrev lapsed_turns : List ℕ → List Turn
  lapsed_turns c = turns (λ row. lapsed_row) (is_lapsed_row b.holidays d (b.rows c)) (b.rows c)

  -- what the cut makes of each
  abbrev cut_at : List ℕ → Row → Row
  cut_at c = cut_row b.holidays d (b.rows c)

  -- the row that is sent, or stays
  abbrev once_sent : List ℕ → Row → Row
  once_sent c row = if is_sent_row b.holidays d (b.rows c) row then sent_row (settlement_of b.holidays d row) row else row

  -- under the same order
  same_order : (c : List ℕ) (row : Row) → (once_sent c row).order ≡ row.order
  same_order c row = elim (is_sent_row b.holidays d (b.rows c) row) as (λ (t : Bool). (if t then sent_row (settlement_of b.holidays d row) row else row).order ≡ row.order) [ true ↦ refl | false ↦ refl ]

  -- what a cut decides is sent or lapses
  decided_once : (c : List ℕ) (row : Row) → (if is_lapsed_row b.holidays d (b.rows c) row then lapsed_row (once_sent c row) else once_sent c row) ≡ cut_at c row
  decided_once c row = at (is_held row && is_due_row b.holidays d row) (is_late_row b.holidays d (b.rows c) row) where
    sent : Row
    sent = sent_row (settlement_of b.holidays d row) row

    at : (decides late : Bool)
        → (if decides && late then lapsed_row (if decides && not late then sent else row) else (if decides && not late then sent else row))
        ≡ (if decides then (if late then lapsed_row row else sent) else row)
    at true true = refl
    at true false = refl
    at false late = refl

  -- both in turn are the cut
  company_turned : (c : List ℕ) → AreApart (b.rows c) → fold turned_all (fold turned_all (b.rows c) (sent_turns c)) (lapsed_turns c) ≡ map (cut_at c) (b.rows c)
  company_turned c apart =
      let rs = b.rows c in
      ap (λ (xs : List Row). fold turned_all (fold turned_all xs (sent_turns c)) (lapsed_turns c)) (sym (map-id rs))
      ∙ ap (λ (xs : List Row). fold turned_all xs (lapsed_turns c))
      (turned_by_own (λ row. sent_row (settlement_of b.holidays d row)) (λ row x. refl) (is_sent_row b.holidays d rs) (λ row. row) (λ row. refl) rs apart)
      ∙ turned_by_own (λ row. lapsed_row) (λ row x. refl) (is_lapsed_row b.holidays d rs) (once_sent c) (same_order c) rs apart
      ∙ (λ i. map (λ row. decided_once c row i) rs)

  -- ---- all companies

  -- what is sent, and what lapses, turns these rows
  sends_turn : map sending_turn (cut_sendings (cut_facts b d)) ≡ flat_map (λ k. turns_of k.id (sent_turns k.id)) b.companies
  sends_turn =
      let chosen : Company → List Row = λ k. filter (is_sent_row b.holidays d (b.rows k.id)) (b.rows k.id) in
      ap (map sending_turn) (sends_by_rows b d)
      ∙ map-flat_map sending_turn (λ k. map (sent_by_row b.holidays d k) (chosen k)) b.companies
      ∙ (λ i. flat_map (λ k.
      (map-map sending_turn (sent_by_row b.holidays d k) (chosen k)
      ∙ sym (map-map (λ (t : Turn). (k.id, t)) (λ (row : Row). record { order = row.order; change = sent_row (settlement_of b.holidays d row) }) (chosen k))) i) b.companies)

  lapses_turn : map lapsed_turn (lapsed_rows (cut_facts b d)) ≡ flat_map (λ k. turns_of k.id (lapsed_turns k.id)) b.companies
  lapses_turn =
      let chosen : Company → List Row = λ k. filter (is_lapsed_row b.holidays d (b.rows k.id)) (b.rows k.id) in
      let lapsing : Company → Row → LapsedRow = λ k row. record { company = k.id; order = row.order } in
      ap (map lapsed_turn) (lapsed_by_rows b d)
      ∙ map-flat_map lapsed_turn (λ k. map (lapsing k) (chosen k)) b.companies
      ∙ (λ i. flat_map (λ k.
      (map-map lapsed_turn (lapsing k) (chosen k)
      ∙ sym (map-map (λ (t : Turn). (k.id, t)) (λ (row : Row). record { order = row.order; change = lapsed_row }) (chosen k))) i) b.companies)

  -- If companies are distinct, and orders too, and an unregistered company has no submissions, then each company's rows
  -- are cut.
  pub rows_turned : Apart b.companies → (c : List ℕ) → AreApart (b.rows c) → (find (has_id c) b.companies ≡ None → b.rows c ≡ [])
      → fold (turned_at c) (fold (turned_at c) (b.rows c) (map sending_turn (cut_sendings (cut_facts b d)))) (map lapsed_turn (lapsed_rows (cut_facts b d)))
      ≡ map (cut_row b.holidays d (b.rows c)) (b.rows c)
  rows_turned companies c apart unknown =
      let all_sent = flat_map (λ (k : Company). turns_of k.id (sent_turns k.id)) b.companies in
      let all_lapsed = flat_map (λ (k : Company). turns_of k.id (lapsed_turns k.id)) b.companies in
      (λ i. fold (turned_at c) (fold (turned_at c) (b.rows c) (sends_turn i)) (lapses_turn i))
      ∙ ap (λ (rs : List Row). fold (turned_at c) rs all_lapsed) (turned_in c sent_turns b.companies companies (b.rows c))
      ∙ turned_in c lapsed_turns b.companies companies _
      ∙ by_find (find (has_id c) b.companies) unknown
    where
      by_find : (o : Option Company) → (o ≡ None → b.rows c ≡ [])
          → (if is_some o then fold turned_all (if is_some o then fold turned_all (b.rows c) (sent_turns c) else b.rows c) (lapsed_turns c) else (if is_some o then fold turned_all (b.rows c) (sent_turns c) else b.rows c))
          ≡ map (cut_at c) (b.rows c)
      by_find (Some k) none = company_turned c apart
      by_find None none = none refl ∙ sym (ap (map (cut_at c)) (none refl))
