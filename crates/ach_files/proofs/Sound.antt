-- Bytes without a fault are laid out as lines of good records.
use Rattle.ach_fields.specs.Characters.{is_printable}
use Rattle.ach_files.proofs.Printable.{IsPrintable, printable_is, all_tested}
use Rattle.std.proofs.Common.{◌≡◌, ℕ, ◌+◌, ◌<◌, ◌≤◌, Bool, true, false, cond, List, [], ◌∷◌, ◌++◌, map, Option, Some, None, length, refl, sym, ap, ◌∙◌, arith, inl, inr, ◌⊎◌, append_assoc, length-append, not}
use Rattle.std.specs.Prelude.{◌==◌, nat_le}
use Rattle.std.specs.List.{flat_map, All}
use Rattle.std.proofs.lemmas.List.{append-nil, map_push}
use Rattle.std.proofs.lemmas.List.Elements.{All-push, All-nil, All-cons}
use Rattle.std.proofs.lemmas.Bool.{or_cases, eqb-true, ne_eqb, eq-eqb, cases_lt, cases_Bool, leb-false}
use Rattle.ach_records.specs.Record.{kind_of}
use Rattle.ach_files.specs.declared.fault.FileFault.{FileFault}
use Rattle.ach_files.specs.declared.fault.FileFault.TheVariants as faults
use Rattle.ach_files.specs.declared.fault.Fault.{Fault}
use Rattle.ach_files.specs.Structure.{File, records_of}
use Rattle.ach_files.specs.File.{Line, IsLineEnd, IsCrLf, IsTextOf, IsFile}
use Rattle.ach_records.specs.Record.{IsRecord}
use Rattle.ach_files.specs.SoFar.{Closed, file_so_far, with_record_of}
use Rattle.ach_files.specs.RecordFault.{stage_of, record_fault}
use Rattle.ach_files.specs.Layout.{Place, InRecord, AfterRecord, AfterReturn, AfterLine, InTail, Move, Put, Layout, move_at, layout_after_move, next_layout, is_end, layout}
use Rattle.ach_files.specs.FirstFault.{byte_fault, whole_fault, move_fault, map_fault, place_fault, fault_at, or_else, first_fault, early_fault, end_fault, fault, is_inside}
use Rattle.ach_files.proofs.Firsts.{layout_more}
use Rattle.ach_files.proofs.Fine.{guard, is_fine, not_false, known_is}
use Rattle.ach_files.proofs.Good.{Good, all_records, good_step, records_step}
use Rattle.ach_files.proofs.Records.{sofar_more, flat_map_push}

abbrev pub line_bytes : Line → List ℕ
line_bytes l = l.text ++ l.end

-- lines of these records, and then the rest
pub record Lines (seen : List ℕ) (records : List (List ℕ)) (rest : List ℕ) : Type 0 where
  pub lines : List Line
  pub texts : map (λ l. l.text) lines ≡ records
  pub ends : All (λ l. IsLineEnd l.end) lines
  pub whole : seen ≡ flat_map line_bytes lines ++ rest

abbrev pub IsEnding : Place → List ℕ → Type 0
IsEnding (InRecord _) e = ⊥
IsEnding AfterRecord e = e ≡ []
IsEnding AfterReturn e = e ≡ 13 ∷ []
IsEnding AfterLine e = (e ≡ 10 ∷ []) ⊎ (e ≡ 13 ∷ 10 ∷ [])
IsEnding InTail e = All IsCrLf e

-- the last record, and what follows it so far
pub record Last (seen : List ℕ) (records : List (List ℕ)) (place : Place) : Type 0 where
  pub before : List (List ℕ)
  pub text : List ℕ
  pub end : List ℕ
  pub records_are : records ≡ before ++ text ∷ []
  pub lines : Lines seen before (text ++ end)
  pub ending : IsEnding place end

abbrev pub Laid : List ℕ → List (List ℕ) → Place → Type 0
Laid seen records (InRecord bytes) = Lines seen records bytes × (length bytes < 94) × All IsPrintable bytes
Laid seen records place = Last seen records place

pub record Sound (seen : List ℕ) (l : Layout) : Type 0 where
  pub size : length seen ≤ 4194304
  pub good : Good (file_so_far l.records)
  pub all : l.records ≡ all_records (file_so_far l.records)
  pub laid : Laid seen l.records l.place

-- one line more
pub line_more : (seen : List ℕ) (before : List (List ℕ)) (text end : List ℕ) → Lines seen before (text ++ end) → IsLineEnd end → Lines seen (before ++ text ∷ []) []
line_more seen before text end h e =
    let line : Line = record { text = text; end = end } in
    record {
      lines = h.lines ++ line ∷ [];
      texts = map_push (λ (l : Line). l.text) h.lines line ∙ ap (λ ts. ts ++ text ∷ []) h.texts;
      ends = All-push (λ (l : Line). IsLineEnd l.end) h.lines line h.ends e;
      whole = h.whole ∙ sym (flat_map_push line_bytes h.lines line) ∙ sym (append-nil _);
    }

rest_more : (seen : List ℕ) (records : List (List ℕ)) (rest : List ℕ) (b : ℕ) → Lines seen records rest → Lines (seen ++ b ∷ []) records (rest ++ b ∷ [])
rest_more seen records rest b h = record { lines = h.lines; texts = h.texts; ends = h.ends; whole = ap (λ s. s ++ b ∷ []) h.whole ∙ append_assoc (flat_map line_bytes h.lines) rest (b ∷ []) }

mapped_none : (n : ℕ) (o : Option FileFault) → map_fault n o ≡ None → o ≡ None
mapped_none n None e = refl
mapped_none n (Some f) e = absurd cc

pub no_fault : (n : ℕ) (l : Layout) (b : ℕ) (m : Move) → m ≡ move_at l.place b → place_fault n l b ≡ None → (n < 4194304) × (move_fault l.records b m ≡ None)
unfolding place_fault
no_fault n l b m e h =
    let g = guard (nat_le 4194304 n) faults.TooLarge (move_fault l.records b (move_at l.place b)) (mapped_none _ _ h) in
    (leb-false _ _ g.0, ap (move_fault l.records b) e ∙ g.1)

whole_none : (records : List (List ℕ)) (text : List ℕ) → length text ≡ 94 → whole_fault records text ≡ None → record_fault records text ≡ None
whole_none records text len e = rw (eq-eqb _ _ len) at e

pub put_sound : (seen : List ℕ) (records : List (List ℕ)) (place : Place) (bytes : List ℕ) (b : ℕ) → length seen < 4194304 → Good (file_so_far records) → records ≡ all_records (file_so_far records)
    → Lines seen records bytes → length bytes < 94 → All IsPrintable bytes → byte_fault records bytes b ≡ None → Sound (seen ++ b ∷ []) (layout_after_move (record { records = records; place = place }) b (Put bytes))
put_sound seen records place bytes b size good all lines short printable e =
    let g = guard (is_end b) faults.BadLength _ e in
    let p = guard (not (is_printable b)) faults.BadByte _ g.1 in
    let pr = All-push IsPrintable bytes b printable (printable_is b (not_false _ p.0)) in
    let len : length (bytes ++ b ∷ []) ≡ length bytes + 1 = omega (arith, length-append bytes (b ∷ [])) in
    let sz : length (seen ++ b ∷ []) ≤ 4194304 = omega (arith, length-append seen (b ∷ [])) in
    elim (cases_lt (length bytes) 93) [
      | inl lt ↦ rw (ne_eqb (length bytes) 93 (λ (q : length bytes ≡ 93). omega arith)) (record { size = sz; good = good; all = all; laid = (rest_more seen records bytes b lines, omega arith, pr) })
      | inr le ↦
          let is : length bytes ≡ 93 = omega arith in
          let t = bytes ++ b ∷ [] in
          let whole : length t ≡ 94 = omega arith in
          let none = whole_none records t whole p.1 in
          let fine = is_fine (stage_of (file_so_far records)) (length records + 1) (kind_of t) t none in
          let r : IsRecord (kind_of t) t = record { known = known_is (stage_of (file_so_far records)) (kind_of t) fine.follows; len = whole; printable = all_tested t pr; kind_is = refl; digits = fine.digits } in
          let n : length records + 1 ≡ length (all_records (file_so_far records)) + 1 = ap (λ rs. length rs + 1) all in
          let step : all_records (with_record_of (file_so_far records) (kind_of t) t) ≡ all_records (file_so_far records) ++ t ∷ [] = records_step (file_so_far records) (length records + 1) (kind_of t) t r fine in
          rw (eq-eqb _ _ is) (record {
            size = sz;
            good = rw (sofar_more records t) (good_step (file_so_far records) (length records + 1) (kind_of t) t good n r fine);
            all = rw (sofar_more records t) (ap (λ rs. rs ++ t ∷ []) all ∙ sym step);
            laid = record { before = records; text = t; end = []; records_are = refl; lines = rw (append-nil t) (rest_more seen records bytes b lines); ending = refl };
          })
    ]

last_more : (seen : List ℕ) (records : List (List ℕ)) (place place2 : Place) (b : ℕ) → Last seen records place → ((e : List ℕ) → IsEnding place e → IsEnding place2 (e ++ b ∷ [])) → Last (seen ++ b ∷ []) records place2
last_more seen records place place2 b h on =
    let lines : Lines (seen ++ b ∷ []) h.before (h.text ++ (h.end ++ b ∷ [])) = rw (← append_assoc h.text h.end (b ∷ [])) (rest_more seen h.before (h.text ++ h.end) b h.lines) in
    record { before = h.before; text = h.text; end = h.end ++ b ∷ []; records_are = h.records_are; lines = lines; ending = on h.end h.ending }

-- another record begins
begun : (seen : List ℕ) (records : List (List ℕ)) (place : Place) → Last seen records place → ((e : List ℕ) → IsEnding place e → IsLineEnd e) → Lines seen records []
begun seen records place h ends = rw h.records_are (line_more seen h.before h.text h.end h.lines (ends h.end h.ending))

grown : (seen : List ℕ) (b : ℕ) → length seen < 4194304 → length (seen ++ b ∷ []) ≤ 4194304
grown seen b lt = omega (arith, length-append seen (b ∷ []))

from_lf : (b : ℕ) (place2 : Place) (e f : List ℕ) → b ≡ 10 → e ≡ f → e ++ b ∷ [] ≡ f ++ 10 ∷ []
from_lf b place2 e f h g = cc

crlf_is : (b : ℕ) → is_end b ≡ true → IsCrLf b
crlf_is b e = elim (or_cases (b == 10) (b == 13) e) [ inl h ↦ inl (eqb-true _ _ h) | inr h ↦ inr (eqb-true _ _ h) ]

line_run : (e : List ℕ) → IsEnding AfterLine e → All IsCrLf e
line_run e (inl h) = rw h (All-cons IsCrLf 10 [] (inl refl) (All-nil IsCrLf))
line_run e (inr h) = rw h (All-cons IsCrLf 13 (10 ∷ []) (inr refl) (All-cons IsCrLf 10 [] (inl refl) (All-nil IsCrLf)))

return_run : (e : List ℕ) → IsEnding AfterReturn e → All IsCrLf e
return_run e h = rw h (All-cons IsCrLf 13 [] (inr refl) (All-nil IsCrLf))

module _ (seen : List ℕ) (records : List (List ℕ)) (b : ℕ) (size : length seen < 4194304) (good : Good (file_so_far records)) (all : records ≡ all_records (file_so_far records)) where
  after_record : Last seen records AfterRecord → move_fault records b (move_at AfterRecord b) ≡ None → Sound (seen ++ b ∷ []) (next_layout (record { records = records; place = AfterRecord }) b)
  unfolding move_at next_layout
  after_record h f =
      elim (cases_Bool (b == 10)) [
        | inl lf ↦ rw lf (record { size = grown seen b size; good = good; all = all; laid = last_more seen records AfterRecord AfterLine b h (λ e i. inl (cc (i, eqb-true _ _ lf))) })
        | inr not_lf ↦ elim (cases_Bool (b == 13)) [
          | inl cr ↦ rw (not_lf, cr) (record { size = grown seen b size; good = good; all = all; laid = last_more seen records AfterRecord AfterReturn b h (λ e i. cc (i, eqb-true _ _ cr)) })
          | inr not_cr ↦ rw (not_lf, not_cr) (put_sound seen records AfterRecord [] b size good all (begun seen records AfterRecord h (λ e i. inl i)) (omega arith) (All-nil IsPrintable) (rw (not_lf, not_cr) at f))
        ]
      ]

  after_return : Last seen records AfterReturn → move_fault records b (move_at AfterReturn b) ≡ None → Sound (seen ++ b ∷ []) (next_layout (record { records = records; place = AfterReturn }) b)
  unfolding move_at next_layout
  after_return h f =
      elim (cases_Bool (b == 10)) [
        | inl lf ↦ rw lf (record { size = grown seen b size; good = good; all = all; laid = last_more seen records AfterReturn AfterLine b h (λ e i. inr (cc (i, eqb-true _ _ lf))) })
        | inr not_lf ↦ elim (cases_Bool (b == 13)) [
          | inl cr ↦ rw (not_lf, cr) (record { size = grown seen b size; good = good; all = all; laid = last_more seen records AfterReturn InTail b h (λ e i. All-push IsCrLf e b (return_run e i) (inr (eqb-true _ _ cr))) })
          | inr not_cr ↦ let g : ◌≡◌ {A = Option FileFault} (Some faults.BadLength) None = rw (not_lf, not_cr) at f in absurd cc
        ]
      ]

  after_line : Last seen records AfterLine → move_fault records b (move_at AfterLine b) ≡ None → Sound (seen ++ b ∷ []) (next_layout (record { records = records; place = AfterLine }) b)
  unfolding move_at next_layout
  after_line h f =
      elim (cases_Bool (is_end b)) [
        | inl e ↦ rw e (record { size = grown seen b size; good = good; all = all; laid = last_more seen records AfterLine InTail b h (λ x i. All-push IsCrLf x b (line_run x i) (crlf_is b e)) })
        | inr not_lf ↦ rw not_lf (put_sound seen records AfterLine [] b size good all (begun seen records AfterLine h (λ e i. inr i)) (omega arith) (All-nil IsPrintable) (rw not_lf at f))
      ]

  in_tail : Last seen records InTail → move_fault records b (move_at InTail b) ≡ None → Sound (seen ++ b ∷ []) (next_layout (record { records = records; place = InTail }) b)
  unfolding move_at next_layout
  in_tail h f =
      elim (cases_Bool (is_end b)) [
        | inl e ↦ rw e (record { size = grown seen b size; good = good; all = all; laid = last_more seen records InTail InTail b h (λ x i. All-push IsCrLf x b i (crlf_is b e)) })
        | inr not_lf ↦ let g : ◌≡◌ {A = Option FileFault} (Some faults.BadLength) None = rw not_lf at f in absurd cc
      ]

  in_record : (bytes : List ℕ) → Laid seen records (InRecord bytes) → move_fault records b (move_at (InRecord bytes) b) ≡ None → Sound (seen ++ b ∷ []) (next_layout (record { records = records; place = InRecord bytes }) b)
  unfolding move_at next_layout
  in_record bytes h f = put_sound seen records (InRecord bytes) bytes b size good all h.0 h.1 h.2 f

  at_place : (place : Place) → Laid seen records place → move_fault records b (move_at place b) ≡ None → Sound (seen ++ b ∷ []) (next_layout (record { records = records; place = place }) b)
  at_place (InRecord bytes) h f = in_record bytes h f
  at_place AfterRecord h f = after_record h f
  at_place AfterReturn h f = after_return h f
  at_place AfterLine h f = after_line h f
  at_place InTail h f = in_tail h f

pub sound_step : (seen : List ℕ) (l : Layout) (b : ℕ) → Sound seen l → place_fault (length seen) l b ≡ None → Sound (seen ++ b ∷ []) (next_layout l b)
sound_step seen l b s e =
    let n = no_fault (length seen) l b (move_at l.place b) refl e in
    at_place seen l.records b n.0 s.good s.all l.place s.laid n.1

-- ---- over all bytes

pub or_none : (x y : Option Fault) → or_else x y ≡ None → (x ≡ None) × (y ≡ None)
or_none None y e = (refl, e)
or_none (Some f) y e = absurd cc

pub sound_on : (seen rest : List ℕ) → Sound seen (layout seen) → first_fault seen rest ≡ None → Sound (seen ++ rest) (layout (seen ++ rest))
unfolding first_fault
sound_on seen [] s e = rw (append-nil seen) s
sound_on seen (b ∷ rest) s e =
    let p = or_none (place_fault (length seen) (layout seen) b) (first_fault (seen ++ b ∷ []) rest) e in
    let one : Sound (seen ++ b ∷ []) (layout (seen ++ b ∷ [])) = rw (layout_more seen b) (sound_step seen (layout seen) b s p.0) in
    rw (← append_assoc seen (b ∷ []) rest) (sound_on (seen ++ b ∷ []) rest one p.1)

sound_start : Sound [] (layout [])
unfolding layout file_so_far
sound_start = record {
  size = omega arith;
  good = tt;
  all = refl;
  laid = (record { lines = []; texts = refl; ends = All-nil (λ (l : Line). IsLineEnd l.end); whole = refl }, omega arith, All-nil IsPrintable);
}

-- ---- the end

end_guard : (b : Bool) (f : Fault) (o : Option Fault) → cond b (Some f) o ≡ None → b ≡ false
end_guard true f o e = absurd cc
end_guard false f o e = refl

inside_is : (b : ℕ) (bytes : List ℕ) → not (length (b ∷ bytes) == 0) ≡ false → ⊥
inside_is b bytes e = let h : length (b ∷ bytes) ≡ 0 = eqb-true _ _ (not_false _ e) in absurd (omega arith)

end_none : (l : Layout) → end_fault l ≡ None → is_inside l.place ≡ false
unfolding end_fault
end_none l e = end_guard (is_inside l.place) (fault_at (length l.records + 1) faults.BadLength) _ e

last_is : (seen : List ℕ) (records : List (List ℕ)) (place : Place) → Last seen records place → ((e : List ℕ) → IsEnding place e → All IsCrLf e) → IsTextOf records seen
last_is seen records place h run =
    let line : Line = record { text = h.text; end = [] } in
    record {
      lines = h.lines.lines ++ line ∷ [];
      tail = h.end;
      texts = map_push (λ (l : Line). l.text) h.lines.lines line ∙ ap (λ ts. ts ++ h.text ∷ []) h.lines.texts ∙ sym h.records_are;
      ends = All-push (λ (l : Line). IsLineEnd l.end) h.lines.lines line h.lines.ends (inl refl);
      run = run h.end h.ending;
      whole = h.lines.whole ∙ rw (flat_map_push line_bytes h.lines.lines line, append-nil h.text, append_assoc) refl;
    }

text_is : (seen : List ℕ) (records : List (List ℕ)) (place : Place) → Laid seen records place → is_inside place ≡ false → IsTextOf records seen
text_is seen records (InRecord []) h e = record { lines = h.0.lines; tail = []; texts = h.0.texts; ends = h.0.ends; run = All-nil IsCrLf; whole = h.0.whole }
text_is seen records (InRecord (b ∷ bytes)) h e = absurd (inside_is b bytes e)
text_is seen records AfterRecord h e = last_is seen records AfterRecord h (λ x i. rw i (All-nil IsCrLf))
text_is seen records AfterReturn h e = last_is seen records AfterReturn h return_run
text_is seen records AfterLine h e = last_is seen records AfterLine h line_run
text_is seen records InTail h e = last_is seen records InTail h (λ x i. i)

pub file_is : (bytes : List ℕ) (f : File) → fault bytes ≡ None → file_so_far (layout bytes).records ≡ Closed f → IsFile bytes f
file_is bytes f e closed =
    let p = or_none (early_fault bytes) (end_fault (layout bytes)) e in
    let s : Sound bytes (layout bytes) = sound_on [] bytes sound_start p.0 in
    let records : (layout bytes).records ≡ records_of f = s.all ∙ ap all_records closed in
    record {
      size = s.size;
      records = rw closed at s.good;
      text = rw (← records) (text_is bytes (layout bytes).records (layout bytes).place s.laid (end_none (layout bytes) p.1));
    }
