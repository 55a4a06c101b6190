-- An input that is cut after one byte more than it may have.
use Rattle.std.proofs.Common.{◌≡◌, ◌≤◌, ◌+◌, ℕ, List, Bool, true, false, not, length, take, take_all, Option, Some, None, IfSome, option_map, Err, refl, sym, ap, ◌∙◌, cond, nat_lt, codes, Vec, Global, subst, arith}
use Rattle.std.proofs.lemmas.List.{length-take-le}
use Rattle.std.proofs.lemmas.Bool.Decides.{nat_tests}
use Rattle.serde_json.specs.Written.{compact_text}
use Rattle.ach_fields.specs.Names.{is_id}
use Rattle.desk_rules.specs.Fields.{is_key}
use Rattle.http_json.specs.Refusals.{fault_body}
use Rattle.cli_submit.specs.Messages.{entries_or_fault, input_fault, message_of, most_bytes}
use Rattle.cli_submit.specs.Options.{OptionTexts}
use Rattle.cli_submit.specs.declared.fault.InputFault.{InputFault}
use Rattle.cli_submit.specs.declared.fault.InputFault.TheVariants.{BadCompany, BadKey, TooLarge}
use Rattle.cli_commands.specs.BodyAnswers.{submission_answer, IsAnswer}
use Rattle.cli_commands.specs.InputRuns.{Answering, IsInputAnswer}
use Rattle.cli_commands.specs.Inputs.{most_input, most_read, MayHave}
use Rattle.cli_commands.specs.ListRuns.{list_answer, outcome_text}
use Rattle.cli_commands.specs.Printing.{with_line_feed}
use Rattle.cli_commands.specs.SubmissionRuns.{first_run_answer, first_run_line}

-- one byte more than an input may have decides as all would
abbrev pub IsDecided : Answering → Type 0
IsDecided answer = (bytes : List ℕ) → answer (take most_read bytes) ≡ answer bytes

answer_whole : (answer : Answering) (known : Option (List ℕ)) (bytes : List ℕ) (given : Bool × Vec ℕ Global) → IsDecided answer
    → MayHave (option_map (take most_read) known) bytes → IsAnswer (answer bytes) given → IsInputAnswer answer known given
answer_whole answer None bytes given decided read is = (bytes, tt, is)
answer_whole answer (Some all) bytes given decided read is =
    (all, refl, subst (λ r. IsAnswer r given) (ap answer (sym read) ∙ decided all) is)

-- the answer to what was read answers the whole input
pub answers_whole : (answer : Answering) (known : Option (List ℕ)) (bytes : List ℕ) (given : Option (Bool × Vec ℕ Global)) → IsDecided answer
    → MayHave (option_map (take most_read) known) bytes → IfSome given (IsAnswer (answer bytes)) → IfSome given (IsInputAnswer answer known)
answers_whole answer known bytes None decided read is = tt
answers_whole answer known bytes (Some g) decided read is = answer_whole answer known bytes g decided read is

cut_cases : {X : Type 0} (n : ℕ) (xs : List ℕ) (large : X) (f : List ℕ → X) (b : Bool) → nat_lt n (length xs) ≡ b
    → cond (nat_lt n (length (take (n + 1) xs))) large (f (take (n + 1) xs)) ≡ cond b large (f xs)
cut_cases n xs large f true e =
    let long : n + 1 ≤ length xs = grind (arith, nat_tests) in
    let taken : length (take (n + 1) xs) ≡ n + 1 = length-take-le (n + 1) xs long in
    let is : nat_lt n (n + 1) ≡ true = grind (arith, nat_tests) in
    rw (taken, is) refl
cut_cases n xs large f false e =
    let short : length xs ≤ n + 1 = grind (arith, nat_tests) in
    rw (take_all (n + 1) xs short, e) refl

first_run_answer-take : (body : List ℕ) → first_run_answer (take most_read body) ≡ first_run_answer body
first_run_answer-take body = cut_cases most_input body (false, compact_text (fault_body (codes "TooLarge"))) submission_answer (nat_lt most_input (length body)) refl

pub first_run_decided : IsDecided first_run_line
first_run_decided body = ap with_line_feed (first_run_answer-take body)

-- a list that is too large has a fault, whatever else it has
first_of : (bad_company bad_key : Bool) → (f : InputFault) × (cond bad_company (Some BadCompany) (cond bad_key (Some BadKey) (Some TooLarge)) ≡ Some f)
first_of true bad_key = (BadCompany, refl)
first_of false true = (BadKey, refl)
first_of false false = (TooLarge, refl)

-- the fault of the options, or that the list is too large
large_fault : (o : OptionTexts) → (f : InputFault) × ((size : ℕ) → nat_lt most_bytes size ≡ true → input_fault o size ≡ Some f)
large_fault o =
    let first = first_of (not (is_id o.company)) (not (is_key o.key)) in
    (first.0, λ size large. rw large first.1)

entries_or_fault-faulty : (o : OptionTexts) (list : List ℕ) (f : InputFault) → input_fault o (length list) ≡ Some f → entries_or_fault o list ≡ Err f
unfolding entries_or_fault
entries_or_fault-faulty o list f e = rw e refl

message_of-faulty : (o : OptionTexts) (list : List ℕ) (f : InputFault) → input_fault o (length list) ≡ Some f → message_of o list ≡ Err f
unfolding message_of
message_of-faulty o list f e = rw (entries_or_fault-faulty o list f e) refl

message_of-take : (o : OptionTexts) (list : List ℕ) (b : Bool) → nat_lt most_bytes (length list) ≡ b → message_of o (take most_read list) ≡ message_of o list
message_of-take o list true e =
    let fault = large_fault o in
    let long : most_read ≤ length list = grind (arith, nat_tests) in
    let taken : length (take most_read list) ≡ most_read = length-take-le most_read list long in
    message_of-faulty o (take most_read list) fault.0 (fault.1 (length (take most_read list)) (rw taken refl))
    ∙ sym (message_of-faulty o list fault.0 (fault.1 (length list) e))
message_of-take o list false e =
    let short : length list ≤ most_read = grind (arith, nat_tests) in
    rw (take_all most_read list short) refl

pub list_decided : (o : OptionTexts) → IsDecided (list_answer o)
list_decided o list = ap outcome_text (message_of-take o list (nat_lt most_bytes (length list)) refl)
