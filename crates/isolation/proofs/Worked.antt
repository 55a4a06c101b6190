-- Worked values: what the definitions of isolation give on a small desk, computed by the checker.
use Rattle.std.proofs.Common.{◌≡◌, ℕ, List, [], ◌∷◌, length, Bool, true, false, ◌&&◌, inl, inr, refl, sym, ap, ◌∙◌, arith}
use Rattle.std.specs.Prelude.{⊤, if◌then◌else◌, Option, Some, None, codes, bytes_eq}
use Rattle.std.proofs.lemmas.Slice.Eq.{bytes_eq-Decides}
use Rattle.sha2.specs.Sha256.{sha256}
use Rattle.ach_fields.specs.Digits.{number, digits}
use Rattle.ach_fields.specs.Trace.{trace_text}
use Rattle.ach_files.specs.declared.facts.ItemFacts.{ItemFacts}
use Rattle.ach_files.specs.declared.facts.ReturnOrChange.TheVariants as kinds
use Rattle.desk_rules.specs.declared.bodies.company.Company.{Company}
use Rattle.desk_rules.specs.declared.bodies.company.Limits.{Limits}
use Rattle.desk_rules.specs.declared.bodies.submission.AccountKind.TheVariants.{Checking}
use Rattle.desk_rules.specs.declared.bodies.submission.Direction.TheVariants.{Debit}
use Rattle.desk_rules.specs.declared.bodies.submission.Entry.{Entry}
use Rattle.desk_rules.specs.declared.bodies.submission.SecCode.TheVariants.{Ppd}
use Rattle.desk_history.specs.declared.sent_entry.SentEntry.{SentEntry}
use Rattle.desk_history.specs.Part.{Event, DaySet, HolidaysSet, Registered, Limited, Asked, CutMade, Returned, Changed}
use Rattle.desk_history.specs.Request.{Request, Submit, Returns}
use Rattle.http_message.specs.declared.message.Version.TheVariants.{Http11}
use Rattle.http_message.specs.Message.{MessageValue, bad_head, asked, RequestValue}
use Rattle.isolation.specs.World.{SetDay, SetHolidays, Register, SetLimits, Cut, TakeFile, Step, Asks, Does, Due, World, nothing, batches}
use Rattle.isolation.specs.Heard.{Reading, company_of, message_heard, LookAlike}
use Rattle.isolation.specs.Alone.{IsFor, told_all, IsAlone, IsFew}

unfoldable world_on_literals : ⊤
unfolding number digits trace_text
world_on_literals = tt

-- ---- a desk with two companies

abbrev odfi : List ℕ
odfi = codes "121042882"

abbrev mill : List ℕ
mill = codes "MILL01"

abbrev bakery : List ℕ
bakery = codes "BAKE01"

abbrev wide : Limits
wide = record { entry = 9999999999; credit = 999999999999999; debit = 999999999999999 }

abbrev company : (id : List ℕ) → Company
company id = record { id = id; name = codes "A NAME"; digest = []; limits = wide }

abbrev entry : Entry
entry = record {
  routing = codes "091000019";
  account = codes "123456789";
  kind = Checking;
  prenote = false;
  cents = 2500;
  id = codes "E2";
  name = codes "BOB RAY";
  info = None;
}

-- a debit of 25.00
abbrev dues : Due
dues = record {
  order = 1;
  content = record { reference = codes "PAY-2"; sec = Ppd; direction = Debit; description = codes "DUES"; day = 20098; entries = entry ∷ [] };
  settled = 20098;
}

-- as the files have it
abbrev sent : (sequence : ℕ) → (company : List ℕ) → SentEntry
sent sequence c = record {
  sequence = sequence;
  company = c;
  reference = codes "PAY-2";
  order = 1;
  index = 1;
  settled = 20098;
  sec = Ppd;
  debit = true;
  entry = entry;
}

-- a cut sends it if the company submitted something last
abbrev due : (part : List Event) → List Due
due (Asked r ∷ P) = dues ∷ []
due P = []

abbrev after : List (Option Step) → World
after steps = told_all odfi due steps

abbrev submits : Request
submits = Submit (record { reference = None; sec = None; direction = None; description = None; day = None; entries = None })

-- ---- steps

abbrev opened : List (Option Step)
opened = Some (Does (SetDay 20096)) ∷ Some (Does (SetHolidays (20108 ∷ []))) ∷ Some (Does (Register (company mill))) ∷ Some (Does (Register (company bakery))) ∷ []

abbrev opened_part : List Event
opened_part = DaySet 20096 ∷ HolidaysSet (20108 ∷ []) ∷ Registered (codes "A NAME") [] wide ∷ []

companies_are_in_order : (after opened).companies ≡ bakery ∷ mill ∷ []
companies_are_in_order = refl

an_own_registration_alone : (after opened).parts mill ≡ opened_part
an_own_registration_alone = refl

own_limits : (after (Some (Does (SetLimits mill wide)) ∷ opened)).parts mill ≡ Limited wide ∷ opened_part
own_limits = refl

others_limits : (after (Some (Does (SetLimits bakery wide)) ∷ opened)).parts mill ≡ opened_part
others_limits = refl

a_submission : (after (Some (Asks mill submits) ∷ opened)).parts mill ≡ Asked submits ∷ opened_part
a_submission = refl

a_submission_of_another : (after (Some (Asks bakery submits) ∷ opened)).parts mill ≡ opened_part
a_submission_of_another = refl

a_read : (after (Some (Asks mill Returns) ∷ opened)).parts mill ≡ opened_part
a_read = refl

no_step : (after (None ∷ opened)).parts mill ≡ opened_part
no_step = refl

a_company_that_is_not_registered : (after (Some (Asks (codes "NONE01") submits) ∷ opened)).parts (codes "NONE01") ≡ DaySet 20096 ∷ HolidaysSet (20108 ∷ []) ∷ []
a_company_that_is_not_registered = refl

-- ---- cuts

abbrev submitted : List (Option Step)
submitted = Some (Asks mill submits) ∷ Some (Asks bakery submits) ∷ opened

abbrev cut : List (Option Step)
cut = Some (Does Cut) ∷ submitted

abbrev cut_part : List Event
cut_part = CutMade ∷ Asked submits ∷ opened_part

in_the_order_of_companies : (after cut).sent ≡ sent 2 mill ∷ sent 1 bakery ∷ []
in_the_order_of_companies = refl

a_cut_is_in_each_part : (after cut).parts mill ≡ cut_part
a_cut_is_in_each_part = refl

nothing_is_sent_twice : (after (Some (Does Cut) ∷ cut)).sent ≡ sent 2 mill ∷ sent 1 bakery ∷ []
nothing_is_sent_twice = refl

sequences_begin_again : batches 9_999_999 ((mill, dues) ∷ []) ≡ sent 1 mill ∷ []
sequences_begin_again = refl

-- ---- files

abbrev item : (code : List ℕ) → (trace : List ℕ) → (cents : ℕ) → ItemFacts
item code trace cents = record {
  sec_code = codes "PPD";
  transaction_code = 26;
  cents = cents;
  code = code;
  original_trace = trace;
  original_dfi = codes "09100001";
  return_or_change = kinds.Return (codes "INFO");
}

abbrev change : (code : List ℕ) → ItemFacts
change code = record {
  sec_code = codes "COR";
  transaction_code = 26;
  cents = 0;
  code = code;
  original_trace = codes "121042880000002";
  original_dfi = codes "09100001";
  return_or_change = kinds.Change (codes "TEXT");
}

-- a file with this key
abbrev takes : (key : List ℕ) → List ItemFacts → Option Step
takes key items = Some (Does (TakeFile (record { key = key; digest = []; items = items })))

abbrev returned : ItemFacts
returned = item (codes "R01") (codes "121042880000002") 2500

abbrev return_event : Event
return_event = Returned (codes "PAY-2") 1 1 (codes "INFO")

a_return : (after (takes (codes "K") (returned ∷ []) ∷ cut)).parts mill ≡ return_event ∷ cut_part
unfolding world_on_literals
a_return = refl

a_return_of_another : (after (takes (codes "K") (returned ∷ []) ∷ cut)).parts bakery ≡ cut_part
unfolding world_on_literals
a_return_of_another = refl

an_entry_is_returned_once : (after (takes (codes "K") (returned ∷ returned ∷ []) ∷ cut)).parts mill ≡ return_event ∷ cut_part
unfolding world_on_literals
an_entry_is_returned_once = refl

a_file_is_taken_once : (after (takes (codes "K") (change (codes "C01") ∷ []) ∷ takes (codes "K") (returned ∷ []) ∷ cut)).parts mill ≡ return_event ∷ cut_part
unfolding world_on_literals
a_file_is_taken_once = refl

files_by_their_keys : (after (takes (codes "L") [] ∷ takes (codes "K") (returned ∷ []) ∷ cut)).files ≡ codes "L" ∷ codes "K" ∷ []
unfolding world_on_literals
files_by_their_keys = refl

a_change : (after (takes (codes "K") (change (codes "C01") ∷ []) ∷ cut)).parts mill ≡ Changed (codes "PAY-2") 1 (codes "C01") (codes "TEXT") ∷ cut_part
unfolding world_on_literals
a_change = refl

items_without_an_event :
    (after (takes (codes "K") (item (codes "R01") (codes "121042880000007") 2500 ∷ item (codes "R01") (codes "121042880000002") 1 ∷ item (codes "R30") (codes "121042880000002") 2500 ∷ change (codes "C15") ∷ []) ∷ cut)).parts mill
    ≡ cut_part
unfolding world_on_literals
items_without_an_event = refl

-- ---- messages

abbrev request : (target : List ℕ) → List (List ℕ × List ℕ) → RequestValue
request target fields = record { method = codes "GET"; target = target; version = Http11; fields = fields; body = []; is_last = false }

-- any request reads the returns, any command cuts
abbrev reading : Reading
reading = record { request = λ r. Some Returns; command = λ r. Some Cut; due = due }

abbrev world : (digest : List ℕ) → World
world digest = record nothing { parts = λ c. Registered (codes "A NAME") digest wide ∷ [] }

on_a_path : company_of (asked (request (codes "/c/MILL01/returns?all") [])) ≡ Some mill
on_a_path = refl

on_the_operators_path : company_of (asked (request (codes "/ops/cut") [])) ≡ None
on_the_operators_path = refl

on_no_path : company_of bad_head ≡ None
on_no_path = refl

abbrev with_key : (target key : List ℕ) → MessageValue
with_key target key = asked (request target ((codes "x-desk-key", key) ∷ []))

same : (bs : List ℕ) → bytes_eq bs bs ≡ true
same bs = (bytes_eq-Decides bs bs).1 refl

-- under its key a company is heard, whether or not its request was accepted
heard_with_its_key : (key : List ℕ) → message_heard reading [] (world (sha256 key)) false (with_key (codes "/c/MILL01/returns") key) ≡ Some (Asks mill Returns)
heard_with_its_key key = ap (λ (b : Bool). let step : Option Step = if b then Some (Asks mill Returns) else None in step) (same (sha256 key))

not_heard_without_a_key : message_heard reading [] (world []) true (asked (request (codes "/c/MILL01/returns") [])) ≡ None
not_heard_without_a_key = refl

-- no identification of a company has these letters
not_heard_on_a_bad_path : (key : List ℕ) → message_heard reading [] (world (sha256 key)) true (with_key (codes "/c/mill/returns") key) ≡ None
not_heard_on_a_bad_path key = refl

the_operator_is_heard : (key : List ℕ) → message_heard reading (sha256 key) nothing true (with_key (codes "/ops/cut") key) ≡ Some (Does Cut)
the_operator_is_heard key = ap (λ (b : Bool). let step : Option Step = if b && true then Some (Does Cut) else None in step) (same (sha256 key))

the_operator_is_refused : (key : List ℕ) → message_heard reading (sha256 key) nothing false (with_key (codes "/ops/cut") key) ≡ None
the_operator_is_refused key = ap (λ (b : Bool). let step : Option Step = if b && false then Some (Does Cut) else None in step) (same (sha256 key))

-- ---- relations

parts_look_alike_without_the_key : LookAlike mill (asked (request (codes "/c/MILL01/returns") [])) [] opened_part
parts_look_alike_without_the_key = inr (refl, refl)

parts_differ_to_the_company : (key : List ℕ) → LookAlike mill (with_key (codes "/c/MILL01/returns") key) [] (Registered (codes "A NAME") (sha256 key) wide ∷ []) → ⊥
parts_differ_to_the_company key (inl is) = cc
parts_differ_to_the_company key (inr none) = let no : true ≡ false = sym (same (sha256 key)) ∙ none.1 in cc

a_step_of_the_company : IsFor mill (Some (Asks mill Returns))
a_step_of_the_company = refl

no_step_of_another : IsFor mill (Some (Asks bakery Returns)) → ⊥
no_step_of_another is = let no : true ≡ false = ap (bytes_eq bakery) is in cc

no_limits_of_another : IsFor mill (Some (Does (SetLimits bakery wide))) → ⊥
no_limits_of_another is = let no : true ≡ false = ap (bytes_eq bakery) is in cc

few : IsFew nothing mill
few = record { sent = omega arith; answers = omega arith }

too_many : (w : World) → length w.sent ≡ 10_000_000 → IsFew w mill → ⊥
too_many w many is = let most = is.sent in omega arith

a_part_alone : IsAlone odfi due mill (return_event ∷ cut_part)
unfolding world_on_literals
a_part_alone = record {
  steps =
      takes (codes "K") (item (codes "R01") (codes "121042880000001") 2500 ∷ []) ∷ Some (Does Cut) ∷ Some (Asks mill submits)
      ∷ Some (Does (SetDay 20096)) ∷ Some (Does (SetHolidays (20108 ∷ []))) ∷ Some (Does (Register (company mill))) ∷ [];
  own = (tt, (tt, (refl, (tt, (tt, (refl, tt))))));
  same = refl;
}
