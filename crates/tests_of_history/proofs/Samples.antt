-- The sample desk, its companies and their submissions: what the computed histories are made of.
use Rattle.std.specs.Prelude.{ℕ, true, false, List, [], ◌∷◌, ◌++◌, map, replicate, Option, Some, None, Ok, option_map, codes}
use Rattle.ach_fields.specs.Digits.{digits}
use Rattle.ach_files.specs.declared.facts.ItemFacts.{ItemFacts}
use Rattle.ach_files.specs.declared.facts.ReturnOrChange.TheVariants as kinds
use Rattle.desk_rules.specs.declared.bodies.company.Limits.{Limits}
use Rattle.desk_rules.specs.declared.bodies.draft.Draft.{Draft}
use Rattle.desk_rules.specs.declared.bodies.draft.EntryDraft.{EntryDraft}
use Rattle.desk_rules.specs.declared.bodies.draft.Optional.{Optional}
use Rattle.desk_rules.specs.declared.bodies.draft.Optional.TheVariants.{Absent, Given}
use Rattle.desk_rules.specs.declared.bodies.draft.RetryDraft.{RetryDraft}
use Rattle.desk_rules.specs.declared.rules.entry_fact.EntryState.{EntryState}
use Rattle.desk_rules.specs.declared.refusals.refusal.Refusal as rules
use Rattle.desk_rules.specs.declared.bodies.submission.AccountKind.TheVariants.{Checking}
use Rattle.desk_rules.specs.declared.bodies.submission.Direction.{Direction}
use Rattle.desk_rules.specs.declared.bodies.submission.Entry.{Entry}
use Rattle.desk_rules.specs.declared.bodies.submission.SecCode.TheVariants.{Ppd}
use Rattle.desk_history.specs.declared.answer.Answer.{Answer}
use Rattle.desk_history.specs.declared.answer.Answer.TheVariants as answers
use Rattle.desk_history.specs.declared.answer.Outcome.TheVariants as done
use Rattle.desk_history.specs.declared.answer.CallRefusal.TheVariants.{Rule}
use Rattle.desk_history.specs.declared.identity.Identity.{Identity}
use Rattle.desk_history.specs.Request as request
use Rattle.desk_history.specs.Part.{Event, DaySet, HolidaysSet, Registered}
use Rattle.desk_history.specs.Reports.{submission_report}
use Rattle.desk_history.specs.Message.{Message, Of, SetDay, SetHolidays, PutCompany, TakeFile, Pair}
use Rattle.desk_history.specs.Operator.{answer_to, history_after}
use Rattle.desk_history.specs.Sendings.{Sending}

-- ---- the desk and its companies

abbrev pub identity : Identity
identity = record {
  odfi = codes "121042882";
  odfi_name = codes "OUR BANK";
  destination = codes "061000146";
  destination_name = codes "ACH OPERATOR";
}

abbrev pub mill : List ℕ
mill = codes "MILL01"

abbrev pub bakery : List ℕ
bakery = codes "BAKE01"

abbrev pub wide_limits : Limits
wide_limits = record { entry = 9999999999; credit = 999999999999999; debit = 999999999999999 }

-- the digest of a key: which one does not matter
abbrev pub digest : List ℕ
digest = replicate 32 7

-- ---- submissions

abbrev pub entry_with : List ℕ → ℕ → List ℕ → List ℕ → EntryDraft
entry_with routing cents id name = record {
  routing = Some routing;
  account = Some (codes "123456789");
  kind = Some (codes "checking");
  prenote = Absent;
  cents = Some cents;
  id = Some id;
  name = Some name;
  info = Absent;
}

abbrev pub credit_entry : ℕ → EntryDraft
credit_entry cents = entry_with (codes "091000019") cents (codes "E1") (codes "ANN LEE")

abbrev pub debit_entry : ℕ → EntryDraft
debit_entry cents = entry_with (codes "091000019") cents (codes "E2") (codes "BOB RAY")

abbrev pub draft_of : List ℕ → List ℕ → List ℕ → List ℕ → List (Option EntryDraft) → Draft
draft_of reference direction description day entries = record {
  reference = Some reference;
  sec = Some (codes "PPD");
  direction = Some direction;
  description = Some description;
  day = Some day;
  entries = Some entries;
}

-- credits and debits under a reference, for a day
abbrev pub credits : List ℕ → List ℕ → List (Option EntryDraft) → Draft
credits reference day entries = draft_of reference (codes "credit") (codes "PAYROLL") day entries

abbrev pub debits : List ℕ → List ℕ → List (Option EntryDraft) → Draft
debits reference day entries = draft_of reference (codes "debit") (codes "DUES") day entries

-- one of these cents
abbrev pub credit : List ℕ → ℕ → List ℕ → Draft
credit reference cents day = credits reference day (Some (credit_entry cents) ∷ [])

abbrev pub debit : List ℕ → ℕ → List ℕ → Draft
debit reference cents day = debits reference day (Some (debit_entry cents) ∷ [])

-- one credit of 1,500.00 and one debit of 25.00, both for Friday 2025-01-10
abbrev pub pay_1 : Draft
pay_1 = credit (codes "PAY-1") 150000 (codes "2025-01-10")

abbrev pub pay_2 : Draft
pay_2 = debit (codes "PAY-2") 2500 (codes "2025-01-10")

-- the first with a routing number that has a wrong check digit
abbrev pub bad_routing : Draft
bad_routing = credits (codes "PAY-1") (codes "2025-01-10") (Some (entry_with (codes "091000018") 150000 (codes "E1") (codes "ANN LEE")) ∷ [])

-- one prenote
abbrev pub prenote : Draft
prenote = credits (codes "PRE") (codes "2025-01-10") (Some (record (credit_entry 0) { prenote = Given true }) ∷ [])

-- a retry of the first entry of a submission
abbrev pub retry_with : List ℕ → List ℕ → List ℕ → Optional (List ℕ) → RetryDraft
retry_with reference of day authorized =
    record { reference = Some reference; of = Some of; index = Some 1; day = Some day; authorized = authorized }

abbrev pub retry : List ℕ → List ℕ → List ℕ → RetryDraft
retry reference of day = retry_with reference of day Absent

-- ---- answers

abbrev pub accepted_as : ℕ → List ℕ → ℕ → Answer
accepted_as order reference cents =
    answers.Done (done.Submitted (record { cents = cents; entries = 1; order = order; reference = reference }))

abbrev pub refused : rules.Refusal → Answer
refused why = answers.Refused (Rule why)

-- ---- parts

-- 2025-01-20 is the one holiday
abbrev pub listed : List ℕ
listed = 20108 ∷ []

-- the part of a company that was registered before the desk day was set
abbrev pub opened : ℕ → List Event
opened day = DaySet day ∷ Registered (codes "MILL STREET") digest wide_limits ∷ HolidaysSet listed ∷ []

-- the states of the entries of a submission
abbrev pub states_under : List Event → List ℕ → Option (List EntryState)
states_under P reference = option_map (λ f. map (λ e. e.state) f.entries) (submission_report P reference)

-- ---- what a cut sends

abbrev pub entry_of : ℕ → Entry
entry_of cents = record {
  routing = codes "091000019";
  account = codes "123456789";
  kind = Checking;
  prenote = false;
  cents = cents;
  id = codes "E2";
  name = codes "BOB RAY";
  info = None;
}

-- these entries, which settle on Monday 2026-03-09
abbrev pub sending_of : Direction → List Entry → Sending
sending_of direction entries = record {
  company = record { id = mill; name = codes "MILL STREET"; digest = digest; limits = wide_limits };
  order = 1;
  content = record { reference = codes "NEW"; sec = Ppd; direction = direction; description = codes "DUES"; day = 20521; entries = entries };
  settled = 20521;
}

-- ---- messages

abbrev pub registers : List ℕ → List ℕ → List ℕ → Message
registers id name key = PutCompany (record {
  id = Some id;
  name = Some name;
  key = Some key;
  limits = record { entry = Some 9999999999; credit = Some 999999999999999; debit = Some 999999999999999 };
  digest = digest;
})

abbrev pub on : List ℕ → Message
on day = SetDay (Some day)

abbrev pub submits : List ℕ → Draft → Message
submits company draft = Of company (request.Submit draft)

abbrev pub retries : List ℕ → RetryDraft → Message
retries company draft = Of company (request.Retry draft)

-- 44 blanks: a return without information
abbrev pub no_information : List ℕ
no_information = replicate 44 32

-- a return in a PPD batch that names a trace of the desk by its sequence
abbrev pub returning : List ℕ → ℕ → ℕ → ItemFacts
returning code sequence cents = record {
  sec_code = codes "PPD";
  transaction_code = 26;
  cents = cents;
  code = code;
  original_trace = codes "12104288" ++ digits 7 sequence;
  original_dfi = codes "09100001";
  return_or_change = kinds.Return no_information;
}

-- a file with this modifier in its key; files with other items have another digest
abbrev pub file_as : List ℕ → ℕ → List ItemFacts → Message
file_as modifier n items =
    TakeFile (Ok (record { key = codes " 0610001462501140930" ++ modifier; digest = replicate 32 n; items = items }))

-- the file that returns the sample debit, which has this sequence
abbrev pub sample_return : ℕ → Message
sample_return sequence = file_as (codes "A") 1 (returning (codes "R01") sequence 2500 ∷ [])

-- ---- histories

-- two companies are registered, and it is Wednesday 2025-01-08
abbrev pub first_messages : List Message
first_messages =
    registers bakery (codes "BAKERY") (codes "bakery-key")
    ∷ registers mill (codes "MILL STREET") (codes "mill-street-key")
    ∷ SetHolidays (Ok listed)
    ∷ on (codes "2025-01-08")
    ∷ []

abbrev pub new_desk : List Pair
new_desk = history_after identity [] first_messages

-- the answer to a message after more messages, the oldest first
abbrev pub answer_after : List Pair → List Message → Message → Answer
answer_after H ms m = answer_to identity (history_after identity H ms) m
