-- Messages, by what was judged so far.
use Rattle.std.proofs.Common.{◌≡◌, ◌++◌, ◌≤◌, ℕ, Bool, true, false, not, List, length, nat_le, nat_lt, cond, Some, None, Ok, Err, Vec, Global, inl, inr, refl, sym, ap, ◌∙◌, arith}
use Rattle.std.specs.Result.{is_err}
use Rattle.std.specs.Str.{is_utf8}
use Rattle.std.proofs.lemmas.Bool.{cases_Bool, and_right}
use Rattle.std.proofs.lemmas.Bool.Decides.{nat_tests}
use Rattle.serde_json.specs.Read.{read}
use Rattle.serde_json.specs.View.{items_view}
use Rattle.serde_json.specs.declared.value.Value.{Value}
use Rattle.ach_fields.specs.Names.{id_of, is_id}
use Rattle.ach_fields.specs.declared.fault.FieldFault.TheVariants.{NotText}
use Rattle.desk_rules.specs.Fields.{is_key}
use Rattle.cli_submit.specs.Bodies.{body_data, entry_items}
use Rattle.cli_submit.specs.Lists.{entries_of_list, IsUnlessNoMemory}
use Rattle.cli_submit.specs.Messages.{body_text, entries_or_fault, entries_unless, head_text, input_fault, message_of, message_or_fault, most_bytes, text_of, Gives, ReadsAs}
use Rattle.cli_submit.specs.Options.{OptionTexts}
use Rattle.cli_submit.specs.Rows.{EntryTexts}
use Rattle.cli_submit.specs.declared.fault.InputFault.{InputFault}
use Rattle.cli_submit.specs.declared.fault.SubmitFault.{SubmitFault}
use Rattle.cli_submit.specs.declared.fault.SubmitFault.TheVariants.{Input, NoMemory}

id_or : (is : Bool) (s : List ℕ) (b : Bool) → b ≡ is_err (cond is (Ok s) (Err NotText)) → is ≡ not b
id_or true s b e = sym (ap not e)
id_or false s b e = sym (ap not e)

-- an identification is refused exactly if the text is not one
pub refused_id : (s : List ℕ) (b : Bool) → b ≡ is_err (id_of s) → is_id s ≡ not b
refused_id s b is = elim (cases_Bool (nat_lt 10 (length s))) [
  | inl long ↦
      let over : nat_le (length s) 10 ≡ false = grind (arith, nat_tests) in
      let refused : is_err (id_of s) ≡ true = rw long refl in
      let none : is_id s ≡ false = rw over (and_right (nat_le 1 (length s)) _ refl) in
      none ∙ sym (ap not (is ∙ refused))
  | inr short ↦
      let judged : is_err (id_of s) ≡ is_err (cond (is_id s) (Ok s) (Err NotText)) = rw short refl in
      id_or (is_id s) s b (is ∙ judged)
]

pub nothing_at_fault : (o : OptionTexts) (size : ℕ) → is_id o.company ≡ true → is_key o.key ≡ true → size ≤ most_bytes → None ≡ input_fault o size
nothing_at_fault o size company key short = let is : nat_lt most_bytes size ≡ false = grind (arith, nat_tests) in rw (company, key, is) refl

pub fault_first : (o : OptionTexts) (list : List ℕ) (f : InputFault) → Some f ≡ input_fault o (length list) → message_of o list ≡ Err f
unfolding message_of entries_or_fault
fault_first o list f is = ap (λ x. message_or_fault o (entries_unless x list)) (sym is)

-- the list alone decides
pub judged : (o : OptionTexts) (list : List ℕ) → None ≡ input_fault o (length list) → entries_or_fault o list ≡ entries_of_list list
unfolding entries_or_fault
judged o list is = ap (λ x. entries_unless x list) (sym is)

pub list_fault : (o : OptionTexts) (list : List ℕ) (f : InputFault) → None ≡ input_fault o (length list) → entries_of_list list ≡ Err f → message_of o list ≡ Err f
unfolding message_of
list_fault o list f is e = ap (message_or_fault o) (judged o list is ∙ e)

-- the fault that a list's refusal is reported as
pub fault_given : (o : OptionTexts) (list : List ℕ) (f : SubmitFault) → None ≡ input_fault o (length list)
    → IsUnlessNoMemory {A = Vec Value Global} (λ values entries. items_view values.items ≡ entry_items entries) (entries_of_list list) (Err f) → Gives (message_of o list) (Err f)
fault_given o list (Input f) is given = list_fault o list f is given
fault_given o list NoMemory is given = tt

pub message_is : (o : OptionTexts) (list : List ℕ) (es : List EntryTexts) → None ≡ input_fault o (length list) → entries_of_list list ≡ Ok es → message_of o list ≡ Ok (text_of o es)
unfolding message_of
message_is o list es is e = ap (message_or_fault o) (judged o list is ∙ e)

-- a head and the body after it
pub text_is : (o : OptionTexts) (head body message : List ℕ) (es : List EntryTexts) → head ≡ head_text o (length body) → message ≡ head ++ body → body ≡ body_text o es → message ≡ text_of o es
text_is o head body message es first text is =
    text ∙ ap (λ (h : List ℕ). h ++ body) first ∙ ap (λ (b : List ℕ). head_text o (length b) ++ b) is

pub reads_as : (o : OptionTexts) (head body message : List ℕ) (es : List EntryTexts) → head ≡ head_text o (length body) → message ≡ head ++ body
    → (is_utf8 body ≡ true) × (read body ≡ Some (body_data o es)) → ReadsAs o es message
reads_as o head body message es first text reads = (body, text ∙ ap (λ (h : List ℕ). h ++ body) first, rw (reads.0, reads.1) refl)
