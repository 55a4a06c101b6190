-- A file is new where no file that was taken has its key.
use Rattle.std.proofs.Common.{◌≡◌, ℕ, List, [], ◌∷◌, ◌++◌, Bool, true, false, ◌&&◌, refl, sym, ap, ◌∙◌, if◌then◌else◌, Option, Some, None, is_none, find, Ok, bytes_eq}
use Rattle.std.specs.Option.{option_or}
use Rattle.std.proofs.lemmas.List.Folds.{find-append}
use Rattle.std.proofs.lemmas.Slice.Eq.{bytes_eq-Decides}
use Rattle.ach_files.specs.Facts.{FileFacts}
use Rattle.desk_history.specs.declared.operations.TakenFile.{TakenFile}
use Rattle.desk_history.specs.History.{has_file_key, takes_key, is_new_file}
use Rattle.desk_history.specs.Intake.{taken_file, file_in, with_taken_file, taken_files, has_key}
use Rattle.desk_history.specs.Message.{Message, TakeFile, Pair, is_accepted}

-- what is found of the files that were taken, and one more
abbrev or_taken : Option TakenFile → TakenFile → Bool → Option TakenFile
or_taken o t own = option_or o (if own then Some t else None)

pub found_with : (key : List ℕ) (before : List TakenFile) (t : TakenFile)
    → find (has_key key) (before ++ t ∷ []) ≡ (if bytes_eq t.key key && is_none (find (has_key key) before) then Some t else find (has_key key) before)
found_with key before t = find-append (has_key key) before (t ∷ []) ∙ by (find (has_key key) before) (bytes_eq t.key key) where
  by : (o : Option TakenFile) (own : Bool) → or_taken o t own ≡ (if own && is_none o then Some t else o)
  by None true = refl
  by None false = refl
  by (Some first) true = refl
  by (Some first) false = refl

none_with : (o : Option TakenFile) (t : TakenFile) (own : Bool) → is_none (or_taken o t own) ≡ (if own then false else is_none o)
none_with None t true = refl
none_with None t false = refl
none_with (Some first) t true = refl
none_with (Some first) t false = refl

no_pair : (o : Option Pair) (x : Pair) (own : Bool) → is_none (if own then Some x else o) ≡ (if own then false else is_none o)
no_pair o x true = refl
no_pair o x false = refl

new_with : (odfi : List ℕ) (x : Pair) (H : List Pair) (key : List ℕ) → is_new_file H key ≡ is_none (find (has_key key) (taken_files odfi H))
    → is_new_file (x ∷ H) key ≡ is_none (find (has_key key) (taken_files odfi (x ∷ H)))
new_with odfi x H key before = by (is_accepted x.answer) x.message where
  another : (f : FileFacts) → is_new_file H f.key ≡ false → (t : Bool) → bytes_eq f.key key ≡ t → (if t then false else is_new_file H key) ≡ is_new_file H key
  another f known true same = sym known ∙ ap (is_new_file H) ((bytes_eq-Decides f.key key).0 same)
  another f known false other = refl

  by_new : (f : FileFacts) (t : Bool) → is_new_file H f.key ≡ t
      → is_none (if bytes_eq f.key key then Some x else find (takes_key key) H) ≡ is_none (find (has_key key) (with_taken_file odfi H (if t then Some f else None) (taken_files odfi H)))
  by_new f true new =
      no_pair (find (takes_key key) H) x (bytes_eq f.key key)
      ∙ ap (λ (t : Bool). if bytes_eq f.key key then false else t) before
      ∙ sym (none_with (find (has_key key) (taken_files odfi H)) _ (bytes_eq f.key key))
      ∙ ap is_none (sym (find-append (has_key key) (taken_files odfi H) (taken_file odfi H _ f ∷ [])))
  by_new f false known =
      no_pair (find (takes_key key) H) x (bytes_eq f.key key)
      ∙ another f known (bytes_eq f.key key) refl
      ∙ before

  by : (ok : Bool) (m : Message)
      → is_none (if ok && has_file_key key m then Some x else find (takes_key key) H) ≡ is_none (find (has_key key) (with_taken_file odfi H (if ok then file_in H m else None) (taken_files odfi H)))
  by false m = before
  by true (TakeFile (Ok f)) = by_new f (is_new_file H f.key) refl
  by true m = before

pub new_where_none_taken : (odfi : List ℕ) (H : List Pair) (key : List ℕ) → is_new_file H key ≡ is_none (find (has_key key) (taken_files odfi H))
new_where_none_taken odfi [] key = refl
new_where_none_taken odfi (x ∷ H) key = new_with odfi x H key (new_where_none_taken odfi H key)
