-- A cut decides the same by what is due alone as by all that waits.
use Rattle.std.proofs.Common.{◌≡◌, ℕ, List, [], ◌∷◌, Bool, true, false, map, length, not, refl, ap, ◌∙◌}
use Rattle.std.specs.Prelude.{◌+◌, filter, if◌then◌else◌, nat_le, sum_by}
use Rattle.std.specs.List.{flat_map}
use Rattle.desk_accounts.specs.Laws.{pairs}
use Rattle.desk_plan.specs.Modifiers.{most_files}
use Rattle.desk_history.specs.Files.{files_from, runs_of}
use Rattle.desk_history.specs.Postings.{sending_line}
use Rattle.desk_history.specs.Sendings.{batch_entries, entries_in}
use Rattle.desk_book.specs.Book.{Book}
use Rattle.desk_book.specs.Reads.{waiting}
use Rattle.desk_book.specs.OnCut.{CutFacts, batches_after, cut_facts, cut_sendings, cut_write, cut_summary, due_submissions, file_row, files, is_due, lapsed_row, lapsed_rows, lapses, lapses_among, sending_of, sendings, sent_rows}
use Rattle.desk_book.specs.declared.held_submission.HeldSubmission.{HeldSubmission}
use Rattle.desk_cut.specs.Plan.{has_modifiers}
use Rattle.desk_calls.specs.Cutting.{due_facts}

filter_again : {X : Type 0} (p : X → Bool) (xs : List X) → filter p (filter p xs) ≡ filter p xs
filter_again p [] = refl
filter_again {X} p (x ∷ xs) =
    let rest : List X = filter p xs in
    let again = filter_again p xs in
    elim (p x) as (λ (t : Bool). p x ≡ t → filter p (if t then x ∷ rest else rest) ≡ (if t then x ∷ rest else rest)) [
      | true ↦ λ here. ap (λ (t : Bool). if t then x ∷ filter p rest else filter p rest) here ∙ ap (λ (l : List X). x ∷ l) again
      | false ↦ λ here. again
    ] refl

module _ (holidays : List ℕ) (day : ℕ) (ws : List HeldSubmission) where
  sent_of_due : sendings holidays day (due_submissions holidays day ws) ≡ sendings holidays day ws
  sent_of_due = ap (λ (l : List HeldSubmission). map (sending_of holidays day) (filter (λ w. not (lapses holidays day w)) l)) (filter_again (is_due holidays day) ws)

  lapsed_of_due : lapses_among holidays day (due_submissions holidays day ws) ≡ lapses_among holidays day ws
  lapsed_of_due = ap (λ (l : List HeldSubmission). map lapsed_row (filter (lapses holidays day) l)) (filter_again (is_due holidays day) ws)

-- ---- the facts of a cut

-- facts by which a cut decides the same
pub record DecidesAs (x y : CutFacts) : Type 0 where
  pub last : x.last ≡ y.last
  pub made : x.made ≡ y.made
  pub sends : cut_sendings x ≡ cut_sendings y
  pub lapses : lapsed_rows x ≡ lapsed_rows y
  pub identity : x.identity ≡ y.identity
  pub day : x.day ≡ y.day

pub same_files : (x y : CutFacts) → DecidesAs x y → files x ≡ files y
same_files x y same = λ i. files_from (same.day i) (same.made i) (runs_of (batches_after (same.last i) (same.sends i)))

pub same_modifiers : (x y : CutFacts) → DecidesAs x y → has_modifiers x ≡ has_modifiers y
same_modifiers x y same = λ i. nat_le (same.made i + length (same_files x y same i)) most_files

pub same_write : (x y : CutFacts) → DecidesAs x y → cut_write x ≡ cut_write y
same_write x y same = λ i. record {
  sent = flat_map sent_rows (same_files x y same i);
  lapsed = same.lapses i;
  entries = flat_map batch_entries (batches_after (same.last i) (same.sends i));
  postings = pairs (flat_map sending_line (same.sends i));
  files = map (file_row (same.identity i)) (same_files x y same i);
}

pub same_summary : (x y : CutFacts) → DecidesAs x y → cut_summary x ≡ cut_summary y
same_summary x y same = λ i. record {
  day = same.day i;
  entries = sum_by (λ s. length (entries_in s)) (same.sends i);
  files = map (λ f. f.modifier) (same_files x y same i);
  lapsed = length (same.lapses i);
}

pub decides_by_due : (b : Book) (d : ℕ) (x : CutFacts) → x ≡ due_facts b d → DecidesAs x (cut_facts b d)
decides_by_due b d x is = record {
  last = ap (λ (y : CutFacts). y.last) is;
  made = ap (λ (y : CutFacts). y.made) is;
  sends = ap cut_sendings is ∙ sent_of_due b.holidays d (waiting b);
  lapses = ap lapsed_rows is ∙ lapsed_of_due b.holidays d (waiting b);
  identity = ap (λ (y : CutFacts). y.identity) is;
  day = ap (λ (y : CutFacts). y.day) is;
}
