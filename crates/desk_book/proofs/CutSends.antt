-- The held and due submissions of the book are those that a cut sends or lets lapse.
use Rattle.std.proofs.Common.{◌≡◌, ℕ, List, [], map, length, Bool, not, ◌&&◌, ap, ◌∙◌}
use Rattle.std.specs.Prelude.{filter, sum_by, Some, Option, unwrap_or}
use Rattle.std.specs.List.{flat_map}
use Rattle.std.proofs.lemmas.Simd.{map-map}
use Rattle.desk_rules.specs.declared.bodies.company.Company.{Company}
use Rattle.desk_history.specs.declared.identity.Identity.{Identity}
use Rattle.desk_book.specs.declared.row.Row.{Row}
use Rattle.desk_history.specs.Part.{Event}
use Rattle.desk_book.specs.Book.{Book, rows, book_of}
use Rattle.desk_history.specs.Cutting as cutting
use Rattle.desk_history.specs.Files as history_files
use Rattle.desk_history.specs.History.{day, holidays, companies, part}
use Rattle.desk_history.specs.Message.{Pair}
use Rattle.desk_history.specs.Operator.{IsHistory}
use Rattle.desk_history.specs.Possible.{PossibleParts}
use Rattle.desk_book.specs.RowLaws.{RowSteps}
use Rattle.desk_book.specs.Standing.{is_held, rows_after_cut, cut_row}
use Rattle.desk_book.specs.declared.held_submission.HeldSubmission.{HeldSubmission}
use Rattle.desk_book.specs.Reads.{held_submission, waiting}
use Rattle.desk_book.specs.OnCut.{is_due, lapses, sending_of, lapsed_row, cut_sendings, lapsed_rows, cut_facts}
use Rattle.desk_book.proofs.CutOnRows.{is_sent_row, is_lapsed_row, sent_by_row, IsCutOf, sent_on_rows, lapsed_on_rows}
use Rattle.desk_book.proofs.Passing.{passing_all, map-flat_map, length_chosen}
use Rattle.desk_book.proofs.Standings.{same_standing}

-- ---- by the rows of the companies

module _ (b : Book) (d : ℕ) where
  -- those that wait and pass two tests
  chosen : {Z : Type 0} (f : HeldSubmission → Z) (due test : HeldSubmission → Bool)
      → map f (filter test (filter due (waiting b)))
      ≡ flat_map (λ k. map (λ row. f (held_submission k (b.rows k.id) row)) (filter (λ row. (is_held row && due (held_submission k (b.rows k.id) row)) && test (held_submission k (b.rows k.id) row)) (b.rows k.id))) b.companies
  chosen f due test =
      let g : Company → Row → HeldSubmission = λ k. held_submission k (b.rows k.id) in
      let passes : Company → Row → Bool = λ k row. (is_held row && due (g k row)) && test (g k row) in
      ap (map f) (passing_all is_held g due test (λ k. b.rows k.id) b.companies)
      ∙ map-flat_map f (λ k. map (g k) (filter (passes k) (b.rows k.id))) b.companies
      ∙ (λ i. flat_map (λ k. map-map f (g k) (filter (passes k) (b.rows k.id)) i) b.companies)

  pub sends_by_rows : cut_sendings (cut_facts b d) ≡ flat_map (λ k. map (sent_by_row b.holidays d k) (filter (is_sent_row b.holidays d (b.rows k.id)) (b.rows k.id))) b.companies
  sends_by_rows = chosen (sending_of b.holidays d) (is_due b.holidays d) (λ w. not (lapses b.holidays d w))

  pub lapsed_by_rows : lapsed_rows (cut_facts b d)
      ≡ flat_map (λ k. map (λ row. record { company = k.id; order = row.order }) (filter (is_lapsed_row b.holidays d (b.rows k.id)) (b.rows k.id))) b.companies
  lapsed_by_rows = chosen lapsed_row (is_due b.holidays d) (lapses b.holidays d)

-- ---- after a history

module _ (steps : RowSteps) (possible : PossibleParts) where
  -- what the cut of a day makes of a company's rows
  pub cut_by_book : (identity : Identity) (H : List Pair) (d : ℕ) → IsHistory identity H → day H ≡ Some d → (c : List ℕ) → IsCutOf (holidays H) d (part identity.odfi H c)
  cut_by_book identity H d is on c =
      let P = part identity.odfi H c in
      steps.cut P (possible identity.odfi H c)
      ∙ ap rows_after_cut (same_standing identity [] H c is)
      ∙ ap (λ (o : Option ℕ). map (cut_row (holidays H) (unwrap_or o 0) (rows P)) (rows P)) on

  pub same_sends : (identity : Identity) (key : List ℕ) (H : List Pair) (d : ℕ) → IsHistory identity H → day H ≡ Some d
      → cut_sendings (cut_facts (book_of identity key H) d) ≡ history_files.cut_sendings identity.odfi H
  same_sends identity key H d is on =
      sends_by_rows (book_of identity key H) d
      ∙ (λ i. flat_map (λ k. sent_on_rows (holidays H) d (part identity.odfi H k.id) (cut_by_book identity H d is on k.id) k i) (companies H))

  pub same_lapses : (identity : Identity) (key : List ℕ) (H : List Pair) (d : ℕ) → IsHistory identity H → day H ≡ Some d
      → length (lapsed_rows (cut_facts (book_of identity key H) d)) ≡ cutting.lapse_count identity.odfi H
  same_lapses identity key H d is on =
      let parts : List ℕ → List Event = part identity.odfi H in
      ap length (lapsed_by_rows (book_of identity key H) d)
      ∙ length_chosen (λ k row. record { company = k.id; order = row.order }) (λ k. is_lapsed_row (holidays H) d (rows (parts k.id))) (λ k. rows (parts k.id)) (companies H)
      ∙ (λ i. sum_by (λ k. lapsed_on_rows (holidays H) d (parts k.id) (cut_by_book identity H d is on k.id) i) (companies H))
