-- A text that is not a trace is the trace of no entry.
use Rattle.std.proofs.Common.{◌≡◌, ◌∙◌, sym, ap, refl, ℕ, List, [], ◌∷◌, length, Bool, true, inl, inr, subst}
use Rattle.std.specs.Prelude.{if◌then◌else◌, nat_lt, find, Some, None, Ok, Err}
use Rattle.std.specs.List.{list_all}
use Rattle.std.proofs.lemmas.Bool.{cases_Bool, and_parts, eqb-true}
use Rattle.std.proofs.lemmas.Slice.Eq.{bytes_eq-Decides}
use Rattle.ach_fields.specs.declared.fault.FieldFault.{FieldFault}
use Rattle.ach_fields.specs.declared.fault.FieldFault.TheVariants.{TooLong, NotDigit}
use Rattle.ach_fields.specs.Characters.{is_digit}
use Rattle.ach_fields.specs.Routing.{dfi_of}
use Rattle.ach_fields.specs.Trace.{is_trace, trace_in, trace_text}
use Rattle.ach_fields.proofs.Traces.{trace_text-is_trace}
use Rattle.desk_history.specs.declared.sent_entry.SentEntry.{SentEntry}
use Rattle.desk_history.specs.Resolve.{has_trace}

trace_again : (s : List ℕ) → is_trace s ≡ true → trace_in s ≡ Ok s
trace_again s is =
    let parts = and_parts _ _ is in
    let long : length s ≡ 15 = eqb-true (length s) 15 parts.0 in
    ap (λ (n : ℕ). if nat_lt 15 n then Err TooLong else (if nat_lt n 15 then Err NotDigit else (if list_all is_digit s then Ok s else Err NotDigit))) long
    ∙ ap (λ (t : Bool). if t then Ok s else Err NotDigit) parts.1

pub traceless : (odfi text : List ℕ) (fault : FieldFault) (sent : List SentEntry) → trace_in text ≡ Err fault → find (has_trace odfi text) sent ≡ None
traceless odfi text fault [] is = refl
traceless odfi text fault (e ∷ es) is = elim (cases_Bool (has_trace odfi text e)) [
  | inl same ↦
      let written : trace_text (dfi_of odfi) e.sequence ≡ text = (bytes_eq-Decides (trace_text (dfi_of odfi) e.sequence) text).0 same in
      let read : trace_in text ≡ Ok text = trace_again text (subst (λ (t : List ℕ). is_trace t ≡ true) written (trace_text-is_trace (dfi_of odfi) e.sequence)) in
      let clash : Ok text ≡ Err fault = sym read ∙ is in
      cc
  | inr other ↦ ap (λ (t : Bool). if t then Some e else find (has_trace odfi text) es) other ∙ traceless odfi text fault es is
]
