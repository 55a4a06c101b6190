-- A printed file is read again.
use Rattle.std.proofs.Common.{◌≡◌, ℕ, ◌≤◌, List, [], ◌∷◌, ◌++◌, map, length, refl, sym, ap, ◌∙◌, inl, inr}
use Rattle.std.specs.List.{flat_map, All}
use Rattle.std.proofs.lemmas.List.{append-nil}
use Rattle.std.proofs.lemmas.List.Elements.{All-nil, All-cons}
use Rattle.ach_files.specs.Structure.{File, records_of, file_text}
use Rattle.ach_files.specs.File.{Line, IsLineEnd, IsCrLf, IsFile, AreRecords}

with_lf : List ℕ → Line
with_lf r = record { text = r; end = 10 ∷ [] }

lf_texts : (rs : List (List ℕ)) → map (λ (l : Line). l.text) (map with_lf rs) ≡ rs
unfolding with_lf
lf_texts [] = refl
lf_texts (r ∷ rs) = ap (λ ts. r ∷ ts) (lf_texts rs)

lf_ends : (rs : List (List ℕ)) → All (λ (l : Line). IsLineEnd l.end) (map with_lf rs)
unfolding with_lf
lf_ends [] = All-nil (λ (l : Line). IsLineEnd l.end)
lf_ends (r ∷ rs) = All-cons (λ (l : Line). IsLineEnd l.end) (with_lf r) (map with_lf rs) (inr (inl refl)) (lf_ends rs)

lf_bytes : (rs : List (List ℕ)) → flat_map (λ r. r ++ 10 ∷ []) rs ≡ flat_map (λ (l : Line). l.text ++ l.end) (map with_lf rs)
unfolding with_lf
lf_bytes [] = refl
lf_bytes (r ∷ rs) = ap (λ t. (r ++ 10 ∷ []) ++ t) (lf_bytes rs)

pub printed_file : (f : File) → AreRecords f → length (file_text f) ≤ 4194304 → IsFile (file_text f) f
printed_file f r size = record {
  size = size;
  records = r;
  text = record { lines = map with_lf (records_of f); tail = []; texts = lf_texts (records_of f); ends = lf_ends (records_of f); run = All-nil IsCrLf; whole = lf_bytes (records_of f) ∙ sym (append-nil _) };
}
