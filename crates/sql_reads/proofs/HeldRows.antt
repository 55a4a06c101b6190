-- The held submissions of a company are made of their rows, and their heads say which are due.
use Rattle.std.proofs.Common.{◌≡◌, ◌∙◌, ◌++◌, ap, sym, refl, Bool, List, [], ◌∷◌, map, ℕ}
use Rattle.std.specs.Prelude.{filter}
use Rattle.std.specs.List.{flat_map}
use Rattle.std.proofs.lemmas.List.Elements.{filter-append}
use Rattle.sqlite_keyed.proofs.ListLemmas.{filter-map, map-map}
use Rattle.desk_book.specs.OnCut.{due_submissions, is_due}
use Rattle.desk_book.specs.declared.held_submission.HeldSubmission.{HeldSubmission}
use Rattle.desk_rules.specs.declared.bodies.company.Company.{Company}
use Rattle.sql_query_laws.proofs.Selects.{each_itself}
use Rattle.sql_tables.specs.Composed.{held_in, waiting_of_in}
use Rattle.sql_tables.specs.TableReads.{heads_in, is_waiting_of, rows_in, whole_row}
use Rattle.sql_tables.specs.Tables.{Tables}
use Rattle.sql_tables.specs.declared.row.submissions.SubmissionHead.{SubmissionHead}

pub held_of_heads : (k : Company) (t : Tables) (found : List HeldSubmission) (heads : List SubmissionHead)
    → heads ≡ heads_in (is_waiting_of k.id) t → map (λ held. held) found ≡ map (λ head. held_in k t (whole_row t head)) heads
    → found ≡ map (held_in k t) (rows_in (is_waiting_of k.id) t)
held_of_heads k t found heads are these = sym (each_itself found) ∙ these ∙ sym (map-map (held_in k t) (whole_row t) heads) ∙ ap (λ hs. map (held_in k t) (map (whole_row t) hs)) are

pub due_of_heads : (k : Company) (t : Tables) (holidays : List ℕ) (day : ℕ) (found : List HeldSubmission) (due heads : List SubmissionHead)
    → heads ≡ heads_in (is_waiting_of k.id) t → due ≡ filter (λ head. is_due holidays day (held_in k t (whole_row t head))) heads
    → map (λ held. held) found ≡ map (λ head. held_in k t (whole_row t head)) due
    → found ≡ due_submissions holidays day (waiting_of_in k t)
due_of_heads k t holidays day found due heads are kept these =
    let held : SubmissionHead → HeldSubmission = λ head. held_in k t (whole_row t head) in
    sym (each_itself found) ∙ these ∙ ap (map held) kept
    ∙ sym (filter-map (is_due holidays day) held heads)
    ∙ ap (due_submissions holidays day) (sym (map-map (held_in k t) (whole_row t) heads) ∙ ap (λ hs. map (held_in k t) (map (whole_row t) hs)) are)

-- those of one company after another
pub filter-flat_map : {X Y : Type 0} (p : Y → Bool) (f : X → List Y) (xs : List X) → filter p (flat_map f xs) ≡ flat_map (λ x. filter p (f x)) xs
filter-flat_map p f [] = refl
filter-flat_map {Y = Y} p f (x ∷ xs) = filter-append p (f x) (flat_map f xs) ∙ ap (λ (more : List Y). filter p (f x) ++ more) (filter-flat_map p f xs)
