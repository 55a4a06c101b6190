-- The desk's status follows from the book.
use Rattle.std.proofs.Common.{◌≡◌, ℕ, ◌+◌, List, [], ◌∷◌, map, length, true, not, refl, sym, ap, ◌∙◌}
use Rattle.std.specs.Prelude.{filter, count_by, sum_by, Option, Some, None}
use Rattle.std.specs.List.{AllByRecursion, flat_map}
use Rattle.std.proofs.lemmas.List.{length-map}
use Rattle.std.proofs.lemmas.List.Sums.{length-filter, sum_by-cons}
use Rattle.std.proofs.lemmas.Simd.{map-map}
use Rattle.desk_plan.specs.declared.batch.Batch as plan
use Rattle.desk_plan.specs.Files.{division}
use Rattle.desk_rules.specs.declared.bodies.company.Company.{Company}
use Rattle.desk_rules.specs.declared.bodies.submission.Submission.{Submission}
use Rattle.desk_history.specs.declared.answer.Answer.TheVariants.{Done}
use Rattle.desk_history.specs.declared.answer.Outcome.TheVariants as done
use Rattle.desk_history.specs.declared.identity.Identity.{Identity}
use Rattle.desk_history.specs.declared.status.CompanyStatus.{CompanyStatus}
use Rattle.desk_history.specs.Accepted.{AcceptedSubmission, lapses_next}
use Rattle.desk_history.specs.Acceptance.{submissions}
use Rattle.desk_history.specs.Files.{files, file_count}
use Rattle.desk_history.specs.History.{day, holidays, companies, sendings_of, part, sent_entries}
use Rattle.desk_history.specs.Intake.{suspense}
use Rattle.desk_history.specs.Message.{Pair}
use Rattle.desk_history.specs.Operator.{IsHistory}
use Rattle.desk_history.specs.Part.{Event}
use Rattle.desk_history.specs.Possible.{PossibleParts}
use Rattle.desk_history.specs.Sendings.{Sending, plan_of, record_count}
use Rattle.desk_history.specs.Status as history
use Rattle.desk_history.specs.Status.{tallies, due_days, modifiers_on}
use Rattle.desk_history.proofs.Traces.NextCut.{files_divided}
use Rattle.desk_book.specs.declared.held_submission.HeldSubmission.{HeldSubmission}
use Rattle.desk_book.specs.declared.row.Row.{Row}
use Rattle.desk_book.specs.Book.{rows, row_of}
use Rattle.desk_book.specs.OnCut.{is_due, lapses, sending_of, lapsed_row, sendings, lapses_among}
use Rattle.desk_book.specs.OnStatus.{company_status, due_loads, held_records}
use Rattle.desk_book.specs.Reads.{held_submission}
use Rattle.desk_book.specs.RowLaws.{RowSteps}
use Rattle.desk_book.specs.Standing.{is_held}
use Rattle.desk_book.specs.StatusLaws.{TellsStatus}
use Rattle.desk_book.proofs.CutOnRows.{is_sent_row, is_lapsed_row, IsCutOf, sent_on_rows, lapsed_on_rows}
use Rattle.desk_book.proofs.CutSends.{cut_by_book}
use Rattle.desk_book.proofs.Passing.{map-flat_map, passing, same_chosen}

-- ---- a company with this part

module _ (k : Company) (P : List Event) where
  abbrev held : Row → HeldSubmission
  held = held_submission k (rows P)

  -- what waits of it
  abbrev waits : List HeldSubmission
  waits = map held (filter is_held (rows P))

  each_held : (A : List AcceptedSubmission) → AllByRecursion (λ a. (is_held (row_of P a) ≡ history.is_held P a) × (history.is_held P a ≡ true → (row_of P a).content ≡ a.content)) A
  each_held [] = tt
  each_held (a ∷ A) = ((refl, λ is. refl), each_held A)

  held_contents : map (λ w. w.row.content) waits ≡ map (λ a. a.content) (filter (history.is_held P) (submissions P))
  held_contents =
      map-map (λ (w : HeldSubmission). w.row.content) held (filter is_held (rows P))
      ∙ same_chosen (λ a. a.content) (λ row. row.content) (row_of P) (history.is_held P) is_held (submissions P) (each_held (submissions P))

  module _ (days : List ℕ) (d : ℕ) (cut : IsCutOf days d P) where
    due_of_company : sendings days d waits ≡ sendings_of (λ c. P) k
    due_of_company =
        ap (map (sending_of days d)) (passing is_held held (is_due days d) (λ w. not (lapses days d w)) (rows P))
        ∙ map-map (sending_of days d) held (filter (is_sent_row days d (rows P)) (rows P))
        ∙ sent_on_rows days d P cut k

    lapses_of_company : length (lapses_among days d waits) ≡ count_by (lapses_next P) (submissions P)
    lapses_of_company =
        let chosen = filter (is_lapsed_row days d (rows P)) (rows P) in
        ap (λ (ws : List HeldSubmission). length (map lapsed_row ws)) (passing is_held held (is_due days d) (lapses days d) (rows P))
        ∙ length-map (map held chosen) lapsed_row
        ∙ length-map chosen held
        ∙ length-filter (is_lapsed_row days d (rows P)) (rows P)
        ∙ lapsed_on_rows days d P cut

-- ---- after a history

module _ (steps : RowSteps) (possible : PossibleParts) (identity : Identity) (H : List Pair) (is : IsHistory identity H) where
  abbrev parts : List ℕ → List Event
  parts = part identity.odfi H

  same_company : (k : Company) → history.company_status (day H) parts k ≡ company_status (day H) (holidays H) k (waits k (parts k.id))
  same_company k = at (day H) refl where
    of_parts : List Sending → List Submission → ℕ → CompanyStatus
    of_parts ss contents lapsing = record { due = due_days ss; held = tallies contents; id = k.id; lapsing = lapsing; name = k.name }

    at : (o : Option ℕ) → day H ≡ o → history.company_status o parts k ≡ company_status o (holidays H) k (waits k (parts k.id))
    at None on = ap (λ (contents : List Submission). of_parts [] contents 0) (sym (held_contents k (parts k.id)))
    at (Some d) on =
        let cut : IsCutOf (holidays H) d (parts k.id) = cut_by_book steps possible identity H d is on k.id in
        sym (λ i. of_parts (due_of_company k (parts k.id) (holidays H) d cut i) (held_contents k (parts k.id) i) (lapses_of_company k (parts k.id) (holidays H) d cut i))

  -- ---- records and files

  record_sum : (ws : List HeldSubmission) → held_records ws ≡ history.records_in (map (λ w. w.row.content) ws)
  record_sum [] = refl
  record_sum (w ∷ ws) =
      sum_by-cons (λ (w : HeldSubmission). record_count w.row.content) w ws
      ∙ ap (λ (more : ℕ). record_count w.row.content + more) (record_sum ws)
      ∙ sym (sum_by-cons record_count w.row.content (map (λ w. w.row.content) ws))

  same_held : (k : Company) → history.records_in (history.held_of (parts k.id)) ≡ held_records (waits k (parts k.id))
  same_held k = sym (record_sum (waits k (parts k.id)) ∙ ap history.records_in (held_contents k (parts k.id)))

  no_loads : (ks : List Company) → flat_map (λ k. due_loads None (holidays H) (waits k (parts k.id))) ks ≡ []
  no_loads [] = refl
  no_loads (k ∷ ks) = no_loads ks

  same_loads : flat_map (λ k. due_loads (day H) (holidays H) (waits k (parts k.id))) (companies H) ≡ map plan_of (history.due_sendings (day H) identity.odfi H)
  same_loads = at (day H) refl where
    at : (o : Option ℕ) → day H ≡ o → flat_map (λ k. due_loads o (holidays H) (waits k (parts k.id))) (companies H) ≡ map plan_of (history.due_sendings o identity.odfi H)
    at None on = no_loads (companies H)
    at (Some d) on =
        (λ i. flat_map (λ k. map plan_of (due_of_company k (parts k.id) (holidays H) d (cut_by_book steps possible identity H d is on k.id) i)) (companies H))
        ∙ sym (map-flat_map plan_of (sendings_of parts) (companies H))

  same_files : length (history.due_files (day H) identity.odfi H) ≡ length (division (map plan_of (history.due_sendings (day H) identity.odfi H)))
  same_files = at (day H) where
    at : (o : Option ℕ) → length (history.due_files o identity.odfi H) ≡ length (division (map plan_of (history.due_sendings o identity.odfi H)))
    at None = refl
    at (Some d) = files_divided identity.odfi H d

  load_records : (ss : List Sending) → history.records_in (map (λ s. s.content) ss) ≡ sum_by (λ l. l.records) (map plan_of ss)
  load_records [] = refl
  load_records (s ∷ ss) =
      sum_by-cons record_count s.content (map (λ s. s.content) ss)
      ∙ ap (λ (more : ℕ). record_count s.content + more) (load_records ss)
      ∙ sym (sum_by-cons (λ (l : plan.Batch). l.records) (plan_of s) (map plan_of ss))

pub tells_status : RowSteps → PossibleParts → TellsStatus
tells_status steps possible identity key H is =
    let odfi : List ℕ = identity.odfi in
    (λ i. Done (done.Status (record {
      companies = map (λ k. same_company steps possible identity H is k i) (companies H);
      day = day H;
      due_files = (same_files steps possible identity H is ∙ ap (λ (ls : List plan.Batch). length (division ls)) (sym (same_loads steps possible identity H is))) i;
      due_records = (load_records steps possible identity H is (history.due_sendings (day H) odfi H) ∙ ap (sum_by (λ l. l.records)) (sym (same_loads steps possible identity H is))) i;
      files = modifiers_on (day H) (λ d. file_count d (files odfi H));
      held_records = sum_by (λ k. same_held steps possible identity H is k i) (companies H);
      holidays = length (holidays H);
      sent = length (sent_entries odfi H);
      suspense = length (suspense odfi H);
    })))
