-- Bytes that pass without a fault.
use Rattle.std.proofs.Common.{◌≡◌, ℕ, ◌+◌, ◌<◌, ◌≤◌, false, List, [], ◌∷◌, ◌++◌, map, None, length, refl, sym, ap, ◌∙◌, arith, inl, inr, append_assoc, length-append, subst}
use Rattle.std.specs.List.{flat_map, All}
use Rattle.std.proofs.lemmas.List.{append-nil}
use Rattle.std.proofs.lemmas.List.Elements.{All-head, All-tail}
use Rattle.ach_files.specs.Structure.{File, records_of}
use Rattle.ach_files.specs.File.{Line, IsLineEnd, IsCrLf, IsFile, AreRecords}
use Rattle.ach_files.specs.SoFar.{FileSoFar, BeforeHeader, Closed, file_so_far}
use Rattle.ach_files.specs.RecordFault.{record_fault}
use Rattle.ach_files.specs.Layout.{Place, InRecord, AfterRecord, AfterReturn, AfterLine, InTail, Go, Layout, move_at, layout, start}
use Rattle.ach_files.specs.FirstFault.{is_inside, end_fault, early_fault, fault}
use Rattle.ach_files.proofs.Inside.{first_faults, Passes, pass_on, one_passes, Begins, begins_is, record_passes}
use Rattle.ach_files.proofs.Runs.{Whole, Runs, file_runs}
use Rattle.ach_files.proofs.Records.{sofar_more}

-- ---- line ends

-- not in a record
pub data Outside : Place → Type 0 where
  after : Outside AfterRecord
  returned : Outside AfterReturn
  line : Outside AfterLine
  tail : Outside InTail

abbrev pub To : ℕ → List (List ℕ) → Place → List ℕ → (Place → Type 0) → Type 0
To n rs place xs P = (place2 : Place) × P place2 × Passes n (record { records = rs; place = place }) xs (record { records = rs; place = place2 })

go_passes : (n : ℕ) (rs : List (List ℕ)) (place place2 : Place) (b : ℕ) → Go place2 ≡ move_at place b → n < 4194304 → Passes n (record { records = rs; place = place }) (b ∷ []) (record { records = rs; place = place2 })
go_passes n rs place place2 b e lt = one_passes n (record { records = rs; place = place }) b (Go place2) e lt refl

tail_byte : (n : ℕ) (rs : List (List ℕ)) (place : Place) (b : ℕ) → Outside place → IsCrLf b → n < 4194304 → To n rs place (b ∷ []) Outside
unfolding move_at
tail_byte n rs _ b after (inl e) lt = (AfterLine, line, go_passes n rs AfterRecord AfterLine b (rw e refl) lt)
tail_byte n rs _ b after (inr e) lt = (AfterReturn, returned, go_passes n rs AfterRecord AfterReturn b (rw e refl) lt)
tail_byte n rs _ b returned (inl e) lt = (AfterLine, line, go_passes n rs AfterReturn AfterLine b (rw e refl) lt)
tail_byte n rs _ b returned (inr e) lt = (InTail, tail, go_passes n rs AfterReturn InTail b (rw e refl) lt)
tail_byte n rs _ b line (inl e) lt = (InTail, tail, go_passes n rs AfterLine InTail b (rw e refl) lt)
tail_byte n rs _ b line (inr e) lt = (InTail, tail, go_passes n rs AfterLine InTail b (rw e refl) lt)
tail_byte n rs _ b tail (inl e) lt = (InTail, tail, go_passes n rs InTail InTail b (rw e refl) lt)
tail_byte n rs _ b tail (inr e) lt = (InTail, tail, go_passes n rs InTail InTail b (rw e refl) lt)

pub tail_passes : (xs : List ℕ) (n : ℕ) (rs : List (List ℕ)) (place : Place) → Outside place → All IsCrLf xs → n + length xs ≤ 4194304 → To n rs place xs Outside
tail_passes [] n rs place o run room = (place, o, record { none = refl; comes = refl })
tail_passes (b ∷ xs) n rs place o run room =
    let first = tail_byte n rs place b o (All-head IsCrLf b xs run) (omega arith) in
    let rest = tail_passes xs (n + 1) rs first.0 first.1 (All-tail IsCrLf b xs run) (omega arith) in
    (rest.0, rest.1, pass_on n _ (b ∷ []) xs _ _ first.2 rest.2)

-- ---- lines

abbrev pub AreReady : Place → Type 0
AreReady place = Begins place × Outside place

end_passes : (n : ℕ) (rs : List (List ℕ)) (end : List ℕ) → IsLineEnd end → n + length end ≤ 4194304 → To n rs AfterRecord end AreReady
unfolding move_at
end_passes n rs end (inl e) room = (AfterRecord, (begins_is AfterRecord refl, after), rw e (record { none = refl; comes = refl }))
end_passes n rs end (inr (inl e)) room =
    let l : length end ≡ 1 = rw e refl in
    (AfterLine, (begins_is AfterLine refl, line), rw e (go_passes n rs AfterRecord AfterLine 10 refl (omega arith)))
end_passes n rs end (inr (inr e)) room =
    let l : length end ≡ 2 = rw e refl in
    (AfterLine, (begins_is AfterLine refl, line), rw e (pass_on n _ (13 ∷ []) (10 ∷ []) _ _ (go_passes n rs AfterRecord AfterReturn 13 refl (omega arith)) (go_passes (n + 1) rs AfterReturn AfterLine 10 refl (omega arith))))

abbrev pub line_bytes : Line → List ℕ
line_bytes l = l.text ++ l.end

-- one line
line_passes : (n : ℕ) (rs : List (List ℕ)) (place : Place) (l : Line) → Begins place → Whole l.text → record_fault rs l.text ≡ None → IsLineEnd l.end → n + length (line_bytes l) ≤ 4194304
    → (place2 : Place) × AreReady place2 × Passes n (record { records = rs; place = place }) (line_bytes l) (record { records = rs ++ l.text ∷ []; place = place2 })
line_passes n rs place l may_begin w none end room =
    let len = length-append l.text l.end in
    let first = record_passes n rs place l.text may_begin w none (omega (arith, len)) in
    let rest = end_passes (n + length l.text) (rs ++ l.text ∷ []) l.end end (omega (arith, len)) in
    (rest.0, rest.1, pass_on n _ l.text l.end _ _ first rest.2)

pass_nil : (n : ℕ) (l : Layout) (xs : List ℕ) (m : Layout) → Passes n l xs m → Passes n l (xs ++ []) m
pass_nil n l xs m h = rw (append-nil xs) h

pub record LinesPass (n : ℕ) (rs : List (List ℕ)) (place : Place) (lines : List Line) (s : FileSoFar) : Type 0 where
  pub place2 : Place
  pub ready : AreReady place2
  pub passes : Passes n (record { records = rs; place = place }) (flat_map line_bytes lines) (record { records = rs ++ map (λ l. l.text) lines; place = place2 })
  pub comes : file_so_far (rs ++ map (λ l. l.text) lines) ≡ s

pub lines_pass : (lines : List Line) (n : ℕ) (rs : List (List ℕ)) (place : Place) (l : Line) (s : FileSoFar) → Begins place → Runs (file_so_far rs) (length rs) (map (λ l. l.text) (l ∷ lines)) s
    → All (λ l. IsLineEnd l.end) (l ∷ lines) → n + length (flat_map line_bytes (l ∷ lines)) ≤ 4194304 → LinesPass n rs place (l ∷ lines) s
lines_pass [] n rs place l s may_begin runs ends room =
    let len = length-append (line_bytes l) [] in
    let h = line_passes n rs place l may_begin runs.0 runs.1 (All-head (λ (l : Line). IsLineEnd l.end) l [] ends) (omega (arith, len)) in
    record { place2 = h.0; ready = h.1; passes = pass_nil n _ (line_bytes l) _ h.2; comes = sofar_more rs l.text ∙ runs.2 }
lines_pass (k ∷ lines) n rs place l s may_begin runs ends room =
    let len = length-append (line_bytes l) (flat_map line_bytes (k ∷ lines)) in
    let h = line_passes n rs place l may_begin runs.0 runs.1 (All-head (λ (l : Line). IsLineEnd l.end) l (k ∷ lines) ends) (omega (arith, len)) in
    let count : length (rs ++ l.text ∷ []) ≡ length rs + 1 = omega (arith, length-append rs (l.text ∷ [])) in
    let on : Runs (file_so_far (rs ++ l.text ∷ [])) (length (rs ++ l.text ∷ [])) (map (λ (l : Line). l.text) (k ∷ lines)) s = rw (sofar_more rs l.text, count) runs.2 in
    let rest = lines_pass lines (n + length (line_bytes l)) (rs ++ l.text ∷ []) h.0 k s h.1.0 on (All-tail (λ (l : Line). IsLineEnd l.end) l (k ∷ lines) ends) (omega (arith, len)) in
    let regroup : (rs ++ l.text ∷ []) ++ map (λ (l : Line). l.text) (k ∷ lines) ≡ rs ++ l.text ∷ map (λ (l : Line). l.text) (k ∷ lines) = append_assoc rs (l.text ∷ []) (map (λ (l : Line). l.text) (k ∷ lines)) in
    record {
      place2 = rest.place2;
      ready = rest.ready;
      passes = pass_on n _ (line_bytes l) (flat_map line_bytes (k ∷ lines)) _ _ h.2 (rw regroup at rest.passes);
      comes = rw (← regroup) rest.comes;
    }

-- ---- the whole

outside_is : (place : Place) → Outside place → is_inside place ≡ false
outside_is _ after = refl
outside_is _ returned = refl
outside_is _ line = refl
outside_is _ tail = refl

end_fine : (records : List (List ℕ)) (place : Place) (f : File) → Outside place → file_so_far records ≡ Closed f → end_fault (record { records = records; place = place }) ≡ None
unfolding end_fault
end_fine records place f o e = rw (outside_is place o, e) refl

pass_same : (n : ℕ) (l : Layout) (xs ys : List ℕ) (m : Layout) → xs ≡ ys → Passes n l ys m → Passes n l xs m
pass_same n l xs ys m e h = rw e h

from_passes : (bytes : List ℕ) (f : File) (records : List (List ℕ)) (place : Place) → Outside place → Passes 0 start bytes (record { records = records; place = place }) → file_so_far records ≡ Closed f → (fault bytes ≡ None) × (file_so_far (layout bytes).records ≡ Closed f)
unfolding layout
from_passes bytes f records place o all comes =
    let early : early_fault bytes ≡ None = first_faults [] bytes ∙ all.none in
    let laid : layout bytes ≡ record { records = records; place = place } = all.comes in
    let done : end_fault (layout bytes) ≡ None = ap end_fault laid ∙ end_fine records place f o comes in
    (rw (early, done) refl, ap (λ (l : Layout). file_so_far l.records) laid ∙ comes)

from_lines : (bytes : List ℕ) (f : File) (lines : List Line) (trailer : List ℕ) → length bytes ≤ 4194304 → AreRecords f → map (λ l. l.text) lines ≡ records_of f → All (λ l. IsLineEnd l.end) lines → All IsCrLf trailer
    → bytes ≡ flat_map line_bytes lines ++ trailer → (fault bytes ≡ None) × (file_so_far (layout bytes).records ≡ Closed f)
unfolding layout file_so_far
from_lines bytes f [] trailer size r texts ends run whole = absurd cc
from_lines bytes f (l ∷ lines) trailer size r texts ends run whole =
    let len : length bytes ≡ length (flat_map line_bytes (l ∷ lines)) + length trailer = ap length whole ∙ length-append (flat_map line_bytes (l ∷ lines)) trailer in
    let runs : Runs (file_so_far []) (length {A = List ℕ} []) (map (λ (l : Line). l.text) (l ∷ lines)) (Closed f) = subst (λ (ts : List (List ℕ)). Runs BeforeHeader 0 ts (Closed f)) (sym texts) (file_runs f r) in
    let h = lines_pass lines 0 [] (InRecord []) l (Closed f) (begins_is (InRecord []) refl) runs ends (omega arith) in
    let t = tail_passes trailer (0 + length (flat_map line_bytes (l ∷ lines))) (map (λ (l : Line). l.text) (l ∷ lines)) h.place2 h.ready.1 run (omega arith) in
    from_passes bytes f (map (λ (l : Line). l.text) (l ∷ lines)) t.0 t.1 (pass_same 0 start bytes (flat_map line_bytes (l ∷ lines) ++ trailer) _ whole (pass_on 0 start (flat_map line_bytes (l ∷ lines)) trailer _ _ h.passes t.2)) h.comes

pub file_passes : (bytes : List ℕ) (f : File) → IsFile bytes f → (fault bytes ≡ None) × (file_so_far (layout bytes).records ≡ Closed f)
file_passes bytes f h = from_lines bytes f h.text.lines h.text.tail h.size h.records h.text.texts h.text.ends h.text.run h.text.whole

pub same_closed : (f g : File) (s : FileSoFar) → s ≡ Closed f → s ≡ Closed g → f ≡ g
same_closed f g s e h = cc

pub same_file : (bytes : List ℕ) (f g : File) → IsFile bytes f → IsFile bytes g → f ≡ g
same_file bytes f g p q = same_closed f g (file_so_far (layout bytes).records) (file_passes bytes f p).1 (file_passes bytes g q).1
