-- A trace is that of an entry exactly where its two numbers are.
use Rattle.std.proofs.Common.{◌≡◌, ℕ, ◌+◌, ◌*◌, ◌/◌, ◌%◌, ◌≤◌, ◌==◌, Bool, true, false, List, [], ◌∷◌, ◌++◌, length, take, drop, None, refl, sym, ap, ◌∙◌, arith, inl, inr}
use Rattle.std.specs.Prelude.{bytes_eq, find}
use Rattle.std.proofs.Math.Seq.{take-append_seam, drop-append_seam}
use Rattle.std.proofs.lemmas.Bool.{cases_Bool, and_parts, eq-eqb, ne_eqb, eqb-true, false_from_ne_true}
use Rattle.std.proofs.lemmas.List.{take-append-drop, length-take-le, length-drop}
use Rattle.std.proofs.lemmas.Slice.Eq.{bytes_eq-Decides}
use Rattle.ach_fields.specs.Digits.{digits, number, AreDigits}
use Rattle.ach_fields.specs.Laws.{NumbersAndDigits}
use Rattle.ach_fields.specs.Trace.{is_trace, trace_text, dfi_in, sequence_in}
use Rattle.desk_history.specs.declared.sent_entry.SentEntry.{SentEntry}
use Rattle.ach_fields.proofs.Digits.{digits-split, AreDigits-take, AreDigits-drop}

-- only the last seven digits count
seven : (n : ℕ) → digits 7 n ≡ digits 7 (n % 10_000_000)
unfolding digits
seven n =
    let whole : n ≡ n / 10_000_000 * 10_000_000 + n % 10_000_000 = omega arith in
    ap (digits 7) whole ∙ digits-split 0 7 (n / 10_000_000) (n % 10_000_000) (omega arith)

dfi_of_text : NumbersAndDigits → (d s : ℕ) → d ≤ 99_999_999 → dfi_in (trace_text d s) ≡ d
unfolding trace_text
dfi_of_text law d s few =
    ap (λ n. number (take n (digits 8 d ++ digits 7 s))) (sym (law.long 8 d))
    ∙ ap number (take-append_seam (digits 8 d) (digits 7 s))
    ∙ law.read 8 d (omega arith)

sequence_of_text : NumbersAndDigits → (d s : ℕ) → sequence_in (trace_text d s) ≡ s % 10_000_000
unfolding trace_text
sequence_of_text law d s =
    ap (λ n. number (drop n (digits 8 d ++ digits 7 s))) (sym (law.long 8 d))
    ∙ ap number (drop-append_seam (digits 8 d) (digits 7 s) ∙ seven s)
    ∙ law.read 7 (s % 10_000_000) (omega arith)

-- a trace is written from its numbers
text_of_trace : NumbersAndDigits → (t : List ℕ) → is_trace t ≡ true → trace_text (dfi_in t) (sequence_in t) ≡ t
unfolding trace_text
text_of_trace law t is =
    let long : length t ≡ 15 = eqb-true (length t) 15 (and_parts _ _ is).0 in
    let eight : length (take 8 t) ≡ 8 = length-take-le 8 t (omega arith) in
    let rest : length (drop 8 t) ≡ 7 = omega (arith, length-drop 8 t) in
    let all : AreDigits t = (and_parts _ _ is).1 in
    (λ i. (ap (λ n. digits n (number (take 8 t))) (sym eight) ∙ law.written (take 8 t) (AreDigits-take 8 t all)) i ++ (ap (λ n. digits n (number (drop 8 t))) (sym rest) ∙ law.written (drop 8 t) (AreDigits-drop 8 t all)) i)
    ∙ take-append-drop 8 t

same_text : (d s r : ℕ) → s % 10_000_000 ≡ r → trace_text d s ≡ trace_text d r
unfolding trace_text
same_text d s r e = ap (λ back. digits 8 d ++ back) (seven s ∙ ap (digits 7) e)

-- the text is the trace where both numbers are
pub traced : NumbersAndDigits → (d s : ℕ) (t : List ℕ) → d ≤ 99_999_999 → is_trace t ≡ true → d ≡ dfi_in t → (s % 10_000_000 == sequence_in t) ≡ bytes_eq (trace_text d s) t
traced law d s t few is bank = elim (cases_Bool (bytes_eq (trace_text d s) t)) [
  | inl same ↦ eq-eqb (s % 10_000_000) (sequence_in t) (sym (sequence_of_text law d s) ∙ ap sequence_in ((bytes_eq-Decides (trace_text d s) t).0 same)) ∙ sym same
  | inr other ↦ ne_eqb (s % 10_000_000) (sequence_in t) (λ e. absurd (differ ((bytes_eq-Decides (trace_text d s) t).1 (same_text d s (sequence_in t) e ∙ ap (λ n. trace_text n (sequence_in t)) bank ∙ text_of_trace law t is)) other)) ∙ sym other
] where
  differ : {b : Bool} → b ≡ true → b ≡ false → ⊥
  differ is not = cc

pub other_bank : NumbersAndDigits → (d s : ℕ) (t : List ℕ) → d ≤ 99_999_999 → (d ≡ dfi_in t → ⊥) → bytes_eq (trace_text d s) t ≡ false
other_bank law d s t few apart = false_from_ne_true _ (λ same. apart (sym (dfi_of_text law d s few) ∙ ap dfi_in ((bytes_eq-Decides (trace_text d s) t).0 same)))

-- nothing is found by a test that none passes
pub none_found : (es : List SentEntry) → find (λ _. false) es ≡ None
none_found [] = refl
none_found (e ∷ es) = none_found es
