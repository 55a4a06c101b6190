-- Texts of traces.
use Rattle.std.proofs.Common.{◌≡◌, ℕ, ◌++◌, true, length, ◌∙◌, arith, length-append}
use Rattle.std.proofs.lemmas.List.Folds.{list_all-append}
use Rattle.std.proofs.lemmas.Bool.{and_from, eq-eqb}
use Rattle.ach_fields.specs.Characters.{is_digit}
use Rattle.ach_fields.specs.Digits.{digits}
use Rattle.ach_fields.specs.Trace.{is_trace, trace_text}
use Rattle.ach_fields.proofs.Digits.{length-digits, AreDigits-digits}

pub trace_text-is_trace : (dfi sequence : ℕ) → is_trace (trace_text dfi sequence) ≡ true
unfolding trace_text
trace_text-is_trace dfi sequence =
    let long : length (digits 8 dfi ++ digits 7 sequence) ≡ 15 = omega (arith, length-append (digits 8 dfi) (digits 7 sequence), length-digits 8 dfi, length-digits 7 sequence) in
    and_from _ _ (eq-eqb _ _ long)
    (list_all-append is_digit (digits 8 dfi) (digits 7 sequence) ∙ and_from _ _ (AreDigits-digits 8 dfi) (AreDigits-digits 7 sequence))
