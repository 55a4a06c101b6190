-- A file that was taken is known ever after, and a known one has its first counts.
use Rattle.std.proofs.Common.{◌≡◌, ℕ, List, [], ◌∷◌, ◌++◌, Bool, true, false, refl, ap, ◌∙◌, if◌then◌else◌, Option, Some, None, find, is_some, is_none, Ok, Err, bytes_eq}
use Rattle.std.proofs.lemmas.List.Folds.{find-append}
use Rattle.ach_files.specs.Facts.{FileFacts}
use Rattle.desk_rules.specs.declared.refusals.refusal.Refusal.TheVariants.{FileKeyReused}
use Rattle.desk_history.specs.declared.answer.CallRefusal.TheVariants.{Rule}
use Rattle.desk_history.specs.declared.operations.Intake.{Intake}
use Rattle.desk_history.specs.declared.operations.TakenFile.{TakenFile}
use Rattle.desk_history.specs.History.{day, message_day, if_accepted}
use Rattle.desk_history.specs.Intake.{has_key, taken_file, new_file, file_in, with_taken_file, taken_files, intake_unless_known, intake_on_day, take_file}
use Rattle.desk_history.specs.Message.{TakeFile, Pair, is_accepted}
use Rattle.desk_history.specs.Words.{or_else}
use Rattle.desk_history.proofs.Acceptance.Growing.{found_stays}
use Rattle.desk_history.proofs.Basics.Elements.{same_text}
use Rattle.desk_history.proofs.Repeated.TakenFiles.{new_where_none_taken}

-- a taken file has its key and its digest, and these counts
pub record IsKnownFile (odfi : List ℕ) (f : FileFacts) (counts : Intake) (H : List Pair) : Type 0 where
  pub on : is_some (day H) ≡ true
  pub taken : TakenFile
  pub found : find (has_key f.key) (taken_files odfi H) ≡ Some taken
  pub digest : bytes_eq taken.digest f.digest ≡ true
  pub answer : taken.answer ≡ counts

-- ---- what is known stays known

day_stays : (set before : Option ℕ) → is_some before ≡ true → is_some (or_else set before) ≡ true
day_stays None before on = on
day_stays (Some d) before on = refl

found_more : (odfi : List ℕ) (H : List Pair) (key : List ℕ) (t : TakenFile) (new : Option FileFacts) (before : List TakenFile) → find (has_key key) before ≡ Some t
    → find (has_key key) (with_taken_file odfi H new before) ≡ Some t
found_more odfi H key t None before found = found
found_more odfi H key t (Some f) before found = found_stays (has_key key) before _ t found

known_stays : (odfi : List ℕ) (f : FileFacts) (counts : Intake) (x : Pair) (H : List Pair) → IsKnownFile odfi f counts H → IsKnownFile odfi f counts (x ∷ H)
known_stays odfi f counts x H known = record {
  on = day_stays (if_accepted x (message_day x.message)) (day H) known.on;
  taken = known.taken;
  found = found_more odfi H f.key known.taken (new_file H x) (taken_files odfi H) known.found;
  digest = known.digest;
  answer = known.answer;
}

known_ever_after : (odfi : List ℕ) (f : FileFacts) (counts : Intake) (later H : List Pair) → IsKnownFile odfi f counts H → IsKnownFile odfi f counts (later ++ H)
known_ever_after odfi f counts [] H known = known
known_ever_after odfi f counts (x ∷ later) H known = known_stays odfi f counts x (later ++ H) (known_ever_after odfi f counts later H known)

-- ---- a known one has its first counts

pub known_counts : (odfi : List ℕ) (f : FileFacts) (counts : Intake) (H : List Pair) → IsKnownFile odfi f counts H → take_file odfi H (Ok f) ≡ Ok counts
known_counts odfi f counts H known = by (day H) known.on where
  by : (o : Option ℕ) → is_some o ≡ true → intake_on_day odfi H o (Ok f) ≡ Ok counts
  by None on = cc
  by (Some d) on = rw (known.found, known.digest) (ap Ok known.answer)

-- ---- what is taken is known

-- the first file with its key is appended
taken_new : (odfi : List ℕ) (x : Pair) (H : List Pair) (f : FileFacts) → x.message ≡ TakeFile (Ok f) → is_accepted x.answer ≡ true → find (has_key f.key) (taken_files odfi H) ≡ None
    → new_file H x ≡ Some f
taken_new odfi x H f message accepted none =
    (λ i. if accepted i then file_in H (message i) else None)
    ∙ ap (λ (t : Bool). if t then Some f else None) (new_where_none_taken odfi H f.key ∙ ap is_none none)

file_known : (odfi : List ℕ) (x : Pair) (H : List Pair) (f : FileFacts) (counts : Intake) → x.message ≡ TakeFile (Ok f) → is_accepted x.answer ≡ true → take_file odfi H (Ok f) ≡ Ok counts
    → IsKnownFile odfi f counts (x ∷ H)
file_known odfi x H f counts message accepted taken = on (day H) refl taken where
  by_digest : (t : TakenFile) (same : Bool) → bytes_eq t.digest f.digest ≡ same → is_some (day H) ≡ true → find (has_key f.key) (taken_files odfi H) ≡ Some t
      → (if same then Ok t.answer else Err (Rule FileKeyReused)) ≡ Ok counts → IsKnownFile odfi f counts (x ∷ H)
  by_digest t true digest on found is = known_stays odfi f counts x H (record { on = on; taken = t; found = found; digest = digest; answer = cc })
  by_digest t false digest on found is = cc

  by_key : (d : ℕ) → day H ≡ Some d → (o : Option TakenFile) → find (has_key f.key) (taken_files odfi H) ≡ o → intake_unless_known odfi H d f o ≡ Ok counts → IsKnownFile odfi f counts (x ∷ H)
  by_key d on (Some t) found is = by_digest t (bytes_eq t.digest f.digest) refl (ap is_some on) found is
  by_key d on None found is = record {
    on = day_stays (if_accepted x (message_day x.message)) (day H) (ap is_some on);
    taken = taken_file odfi H d f;
    found =
        (λ i. find (has_key f.key) (with_taken_file odfi H (taken_new odfi x H f message accepted found i) (taken_files odfi H)))
        ∙ find-append (has_key f.key) (taken_files odfi H) _
        ∙ rw (found, on, same_text f.key) refl;
    digest = same_text f.digest;
    answer = cc;
  }

  on : (o : Option ℕ) → day H ≡ o → intake_on_day odfi H o (Ok f) ≡ Ok counts → IsKnownFile odfi f counts (x ∷ H)
  on None is taken = cc
  on (Some d) is taken = by_key d is (find (has_key f.key) (taken_files odfi H)) refl taken

pub taken_again : (odfi : List ℕ) (later : List Pair) (x : Pair) (H : List Pair) (f : FileFacts) (counts : Intake) → x.message ≡ TakeFile (Ok f) → is_accepted x.answer ≡ true → take_file odfi H (Ok f) ≡ Ok counts
    → IsKnownFile odfi f counts (later ++ x ∷ H)
taken_again odfi later x H f counts message accepted taken = known_ever_after odfi f counts later (x ∷ H) (file_known odfi x H f counts message accepted taken)
