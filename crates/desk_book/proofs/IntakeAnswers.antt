-- The answer to an incoming file.
use Rattle.std.proofs.Common.{◌≡◌, ℕ, List, [], map, Bool, true, false, ◌||◌, refl, sym, ap, ◌∙◌}
use Rattle.std.specs.Prelude.{if◌then◌else◌, Option, Some, None, option_map, find, Result, Ok, Err, bytes_eq}
use Rattle.ach_files.specs.declared.facts.ItemFacts.{ItemFacts}
use Rattle.ach_files.specs.declared.fault.Fault.{Fault}
use Rattle.ach_files.specs.Facts.{FileFacts}
use Rattle.desk_rules.specs.declared.refusals.refusal.Refusal.TheVariants.{FileKeyReused}
use Rattle.desk_history.specs.declared.answer.CallRefusal.TheVariants.{Rule}
use Rattle.desk_history.specs.declared.identity.Identity.{Identity}
use Rattle.desk_history.specs.declared.operations.TakenFile.{TakenFile}
use Rattle.desk_history.specs.declared.operations.SuspenseReason.{SuspenseReason}
use Rattle.desk_history.specs.declared.sent_entry.SentEntry.{SentEntry}
use Rattle.desk_book.specs.Book.{book_of}
use Rattle.desk_history.specs.History.{day, holidays, part, sent_entries}
use Rattle.desk_history.specs.Intake.{resolutions_of, intake_of, intake_unless_known, intake_on_day, has_key, taken_files}
use Rattle.desk_history.specs.Message.{TakeFile, Pair}
use Rattle.desk_history.specs.Operator.{intake_answer, answer_to}
use Rattle.desk_history.specs.Resolve.{ResolvedItem, has_trace, named_entry}
use Rattle.desk_book.specs.RowLaws.{VerdictsOnRows}
use Rattle.desk_history.specs.SentLaws.{IsEntryOf, SentAreAccepted}
use Rattle.desk_history.proofs.Acceptance.Growing.{found_holds}
use Rattle.desk_book.specs.OnIntake.{is_returned_on, Again, Refused, named_entry_on, resolutions, taking_file, taking_on, taking_answer, file_answer_on}
use Rattle.desk_book.proofs.BackOnBook.{back_on_rows}
use Rattle.desk_book.proofs.IntakeOutcomes.{came_back, named_by, outcomes_same}

module _ (verdicts : VerdictsOnRows) (entries : SentAreAccepted) where
  -- the entry that an item names, and whether it is returned, follow from the book
  named_same : (identity : Identity) (key : List ℕ) (H : List Pair) (item : ItemFacts)
      → named_by (came_back (part identity.odfi H)) (named_entry identity.odfi (sent_entries identity.odfi H) item) ≡ named_entry_on (book_of identity key H) item
  named_same identity key H item = by (named_entry identity.odfi (sent_entries identity.odfi H) item) refl where
    by : (found : Option SentEntry) → named_entry identity.odfi (sent_entries identity.odfi H) item ≡ found
        → named_by (came_back (part identity.odfi H)) found ≡ option_map (λ e. record { entry = e; returned = is_returned_on (book_of identity key H) e }) found
    by None is = refl
    by (Some e) is =
        let entry = found_holds (λ e. IsEntryOf (part identity.odfi H e.company) e) (has_trace identity.odfi item.original_trace) (sent_entries identity.odfi H) e (entries identity.odfi H) is in
        ap (λ (t : Bool). Some (record { entry = e; returned = t })) (sym (back_on_rows verdicts (part identity.odfi H e.company) e entry))

  none_earlier : (t : Bool) → t ≡ (t || false)
  none_earlier true = refl
  none_earlier false = refl

  pub outcomes_on_book : (identity : Identity) (key : List ℕ) (H : List Pair) (items : List ItemFacts)
      → resolutions_of identity.odfi H items ≡ resolutions (map (λ item. (item, named_entry_on (book_of identity key H) item)) items)
  outcomes_on_book identity key H items =
      outcomes_same identity.odfi (sent_entries identity.odfi H) (came_back (part identity.odfi H)) items (part identity.odfi H) [] (λ e. none_earlier (came_back (part identity.odfi H) e))
      ∙ (λ i. resolutions (map (λ item. (item, named_same identity key H item i)) items))

  pub file_answered : (identity : Identity) (key : List ℕ) (H : List Pair) (file : Result FileFacts Fault)
      → answer_to identity H (TakeFile file) ≡ file_answer_on file (book_of identity key H)
  file_answered identity key H file = by (day H) file where
    known : (d : ℕ) (f : FileFacts) (o : Option TakenFile)
        → intake_answer (intake_unless_known identity.odfi H d f o) ≡ taking_answer (taking_file (book_of identity key H) d f o)
    known d f None = ap (λ (os : List (Result ResolvedItem SuspenseReason)). intake_answer (Ok (intake_of (holidays H) d os))) (outcomes_on_book identity key H f.items)
    known d f (Some t) = same (bytes_eq t.digest f.digest) where
      same : (own : Bool) → intake_answer (if own then Ok t.answer else Err (Rule FileKeyReused)) ≡ taking_answer (if own then Again t.answer else Refused (Rule FileKeyReused))
      same true = refl
      same false = refl

    by : (o : Option ℕ) (file : Result FileFacts Fault) → intake_answer (intake_on_day identity.odfi H o file) ≡ taking_answer (taking_on (book_of identity key H) o file)
    by None file = refl
    by (Some d) (Err fault) = refl
    by (Some d) (Ok f) = known d f (find (has_key f.key) (taken_files identity.odfi H))
