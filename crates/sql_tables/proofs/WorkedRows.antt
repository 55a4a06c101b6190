-- Tables of a small desk, worked out by hand: two companies, of which one has a submission that was sent and came
-- back in part, a retry of it that lapsed, one that waits, and a later submission whose entry has the first
-- sequence again.
use Rattle.std.proofs.Common.{◌≡◌, ℕ, pos, negsuc, ◌==◌, Bool, true, false, List, [], ◌∷◌, map, find, replicate, Option, Some, None, option_map, cond, refl, rules}
use Rattle.std.specs.Fmt.{signed_decimal}
use Rattle.std.specs.Prelude.{codes}
use Rattle.std.proofs.lemmas.List.Elements.{All-from_recursion}
use Rattle.std.proofs.lemmas.List.Sorted.{IsPermutation-refl}
use Rattle.sqlite_value.specs.declared.value.Value.TheVariants.{Null, Int, Text, Blob}
use Rattle.desk_accounts.specs.declared.account.Account.TheVariants as accounts
use Rattle.desk_accounts.specs.declared.posting.Cause.TheVariants as causes
use Rattle.desk_accounts.specs.declared.posting.Posting.{Posting}
use Rattle.desk_accounts.specs.Posting.{opposite}
use Rattle.desk_history.specs.declared.operations.SuspenseReason.TheVariants.{NoTrace}
use Rattle.desk_history.specs.declared.reports.RetriedEntry.{RetriedEntry}
use Rattle.desk_history.specs.declared.sent_entry.FilePlace.{FilePlace}
use Rattle.desk_history.specs.declared.sent_entry.SentEntry.{SentEntry}
use Rattle.desk_rules.specs.declared.bodies.company.Company.{Company}
use Rattle.desk_rules.specs.declared.bodies.submission.AccountKind.TheVariants.{Checking, Savings}
use Rattle.desk_rules.specs.declared.bodies.submission.Direction.TheVariants.{Credit, Debit}
use Rattle.desk_rules.specs.declared.bodies.submission.Entry.{Entry}
use Rattle.desk_rules.specs.declared.bodies.submission.Retry.{Retry}
use Rattle.desk_rules.specs.declared.bodies.submission.SecCode.TheVariants.{Ppd, Ccd}
use Rattle.desk_rules.specs.declared.bodies.submission.Submission.{Submission}
use Rattle.desk_rules.specs.declared.rules.entry_fact.EntryState.{EntryState}
use Rattle.desk_rules.specs.declared.rules.entry_fact.EntryState.TheVariants as states
use Rattle.desk_store.specs.Rows.{CompanyRow, Rows}
use Rattle.sql_tables.specs.Description.{as_row, key_cmp}
use Rattle.sql_tables.specs.DeskTables as the
use Rattle.sql_tables.specs.Encodes.{Encodes, AreYoungest, HasStates, RetryFits}
use Rattle.sql_tables.specs.KeyOrders.{IsInOrder}
use Rattle.sql_tables.specs.Tables.{Tables}
use Rattle.sql_tables.specs.declared.records.EntryRecord.{EntryRecord}
use Rattle.sql_tables.specs.declared.records.SubmissionRecord.{SubmissionRecord}
use Rattle.sql_tables.specs.declared.records.NumberRecord.{NumberRecord}

-- ---- the flat rows

abbrev bake : List ℕ
bake = codes "BAKE01"

abbrev mill : List ℕ
mill = codes "MILL01"

abbrev pay : List ℕ
pay = codes "PAY-1"

abbrev digest : List ℕ
digest = replicate 32 7

abbrev mill_company : Company
mill_company = record { id = mill; name = codes "MILL STREET"; digest = digest; limits = record { entry = 1; credit = 2; debit = 3 } }

abbrev dues : Entry
dues = record { routing = codes "091000019"; account = codes "123"; kind = Checking; prenote = false; cents = 2500; id = codes "E2"; name = codes "BOB RAY"; info = None }

abbrev more_dues : Entry
more_dues = record { routing = codes "061000146"; account = codes "45"; kind = Savings; prenote = true; cents = 0; id = codes ""; name = codes "ANN LEE"; info = Some (codes "MAY") }

abbrev content : List ℕ → (day : ℕ) → List Entry → Submission
content reference day entries = record { reference = reference; sec = Ccd; direction = Debit; description = codes "DUES"; day = day; entries = entries }

abbrev retry : List ℕ → (day : ℕ) → Option ℕ → Retry
retry reference day authorized = record { reference = reference; of = pay; index = 1; day = day; authorized = authorized }

abbrev row : List ℕ → ℕ → Submission → Option Retry → Option ℕ → (lapsed : Bool) → List EntryState → CompanyRow
row c order s asks settled lapsed standing = record { company = c; row = record { order = order; content = s; retry = asks; settled = settled; lapsed = lapsed; states = standing } }

abbrev sent_one : (sequence : ℕ) → (reference : List ℕ) → ℕ → ℕ → ℕ → Entry → SentEntry
sent_one sequence reference order index settled e = record { sequence = sequence; company = mill; reference = reference; order = order; index = index; settled = settled; sec = Ccd; debit = true; entry = e }

abbrev line : Posting
line = record { account = accounts.Company mill; value_day = 20102; cents = negsuc 2499; cause = causes.Return; reference = Some pay; idx = 1 }

abbrev rows : Rows
rows = record {
  identity = record { odfi = codes "121042882"; odfi_name = codes "OUR BANK"; destination = codes "061000146"; destination_name = codes "ACH OPERATOR" };
  operator_key = digest;
  day = Some 20110;
  holidays = 20108 ∷ [];
  companies = mill_company ∷ [];
  submissions =
      row bake 1 (content (codes "B") 20120 (dues ∷ [])) None None false (states.Held ∷ [])
      ∷ row mill 1 (content pay 20098 (dues ∷ more_dues ∷ [])) None (Some 20098) false (states.Returned 20098 1 20102 true ∷ states.Sent 20098 ∷ [])
      ∷ row mill 2 (content (codes "TRY-1") 20103 (dues ∷ [])) (Some (retry (codes "TRY-1") 20103 None)) None true (states.Lapsed ∷ [])
      ∷ row mill 3 (content (codes "TRY-2") 20115 (dues ∷ [])) (Some (retry (codes "TRY-2") 20115 (Some 20104))) None false (states.Held ∷ [])
      ∷ row mill 4 (content (codes "PAY-4") 20109 (dues ∷ [])) None (Some 20109) false (states.Sent 20109 ∷ []) ∷ [];
  returned = record { company = mill; order = 1; row = record { code = 1; day = 20102; index = 1; info = codes "GONE "; late = true; reference = pay } } ∷ [];
  changed = record { company = mill; order = 1; row = record { code = codes "C01"; day = 20103; index = 2; reference = pay; text = codes "46  " } } ∷ [];
  postings = line ∷ opposite line ∷ [];
  sent = sent_one 1 pay 1 1 20098 dues ∷ sent_one 2 pay 1 2 20098 more_dues ∷ sent_one 1 (codes "PAY-4") 4 1 20109 dues ∷ [];
  printed =
      record { company = mill; order = 1; settled = 20098; printed = record { day = 20096; modifier = 65; batch = 3 } }
      ∷ record { company = mill; order = 4; settled = 20109; printed = record { day = 20107; modifier = 66; batch = 1 } } ∷ [];
  suspense = record { cents = 5; code = codes "R02"; day = 20103; file = codes "F"; item = 2; trace = codes "T"; why = NoTrace } ∷ [];
  files = record { day = 20096; modifier = 65; text = 1 ∷ 2 ∷ [] } ∷ [];
  taken = record { key = codes "F"; digest = digest; answer = record { changes = 1; day = 20102; late = 4; returns = 2; suspense = 3 } } ∷ [];
}

-- ---- its tables

abbrev record_of : List ℕ → ℕ → List ℕ → (asked : ℕ) → Option RetriedEntry → (lapsed : Bool) → Option ℕ → Option FilePlace → SubmissionRecord
record_of c order reference asked retried lapsed settled printed =
    record {
      head = record { company = c; order = order; reference = reference; sec = Ccd; direction = Debit; description = codes "DUES"; asked = asked; retried = retried; lapsed = lapsed; settled = settled };
      printed = printed;
    }

abbrev first_of_pay : RetriedEntry
first_of_pay = record { of = pay; index = 1 }

abbrev entry_of : List ℕ → ℕ → ℕ → Entry → Option ℕ → EntryRecord
entry_of c order index e place = record { company = c; order = order; index = index; entry = e; place = place }

abbrev tables : Tables
tables = record {
  desk = record { identity = rows.identity; operator_key = digest; day = Some 20110 };
  holidays = 20108 ∷ [];
  companies = mill_company ∷ [];
  submissions =
      record_of bake 1 (codes "B") 20120 None false None None
      ∷ record_of mill 1 pay 20098 None false (Some 20098) (Some (record { day = 20096; modifier = 65; batch = 3 }))
      ∷ record_of mill 2 (codes "TRY-1") 20103 (Some first_of_pay) true None None
      ∷ record_of mill 3 (codes "TRY-2") 20115 (Some first_of_pay) false None None
      ∷ record_of mill 4 (codes "PAY-4") 20109 None false (Some 20109) (Some (record { day = 20107; modifier = 66; batch = 1 })) ∷ [];
  entries =
      entry_of bake 1 1 dues None
      ∷ entry_of mill 1 1 dues (Some 1)
      ∷ entry_of mill 1 2 more_dues (Some 2)
      ∷ entry_of mill 2 1 dues None
      ∷ entry_of mill 3 1 dues None
      ∷ entry_of mill 4 1 dues (Some 3) ∷ [];
  returns = record { number = 1; company = mill; order = 1; index = 1; code = 1; day = 20102; late = true; info = codes "GONE " } ∷ [];
  changes = record { number = 1; company = mill; order = 1; index = 2; code = codes "C01"; day = 20103; text = codes "46  " } ∷ [];
  postings = record { number = 1; posting = line } ∷ record { number = 2; posting = opposite line } ∷ [];
  suspense = record { number = 1; row = record { cents = 5; code = codes "R02"; day = 20103; file = codes "F"; item = 2; trace = codes "T"; why = NoTrace } } ∷ [];
  files = rows.files;
  taken = rows.taken;
  balances = record { account = accounts.Company mill; value_day = 20102; cents = negsuc 2499 } ∷ record { account = accounts.Operator; value_day = 20102; cents = pos 2500 } ∷ [];
  numbers = record { sequence = 1; place = 3 } ∷ record { sequence = 2; place = 2 } ∷ [];
  authorizations = record { company = mill; order = 3; day = 20104 } ∷ [];
}

-- the younger entry is the one that has the sequence
youngest : AreYoungest tables.numbers rows.sent
youngest s = elim (1 == s) as (λ b. option_map (λ (n : NumberRecord). n.place) (cond b (Some (record { sequence = 1; place = 3 })) (find (λ n. n.sequence == s) (record { sequence = 2; place = 2 } ∷ [])))
    ≡ option_map (λ (p : ℕ × SentEntry). p.0) (cond b (Some (3, sent_one 1 (codes "PAY-4") 4 1 20109 dues)) (cond (2 == s) (Some (2, sent_one 2 pay 1 2 20098 more_dues)) (cond b (Some (1, sent_one 1 pay 1 1 20098 dues)) None)))) [
      | true ↦ refl
      | false ↦ elim (2 == s) as (λ c. option_map (λ (n : NumberRecord). n.place) (cond c (Some (record { sequence = 2; place = 2 })) None)
          ≡ option_map (λ (p : ℕ × SentEntry). p.0) (cond c (Some (2, sent_one 2 pay 1 2 20098 more_dues)) None)) [ true ↦ refl | false ↦ refl ]
    ]

encodes : Encodes tables rows
encodes = record {
  desk = refl;
  holidays = refl;
  companies = refl;
  submissions = refl;
  entries = refl;
  returns = refl;
  changes = refl;
  postings = refl;
  suspense = refl;
  files = IsPermutation-refl rows.files;
  taken = IsPermutation-refl rows.taken;
  numbers = youngest;
  authorizations = refl;
  states = All-from_recursion (HasStates tables.returns) rows.submissions (refl, (refl, (refl, (refl, (refl, tt)))));
  retries = All-from_recursion RetryFits rows.submissions (tt, (tt, ((refl, refl), ((refl, refl), (tt, tt)))));
}

-- ---- their rows of SQL values

desk : (as_row the.desk) tables.desk ≡ Int (pos 1) ∷ Int (pos 2) ∷ Text (codes "121042882") ∷ Text (codes "OUR BANK") ∷ Text (codes "061000146") ∷ Text (codes "ACH OPERATOR") ∷ Blob digest ∷ Int (pos 20110) ∷ []
desk = refl

company : (as_row the.companies) mill_company ≡ Text mill ∷ Text (codes "MILL STREET") ∷ Blob digest ∷ Int (pos 1) ∷ Int (pos 2) ∷ Int (pos 3) ∷ []
company = refl

submissions : map (as_row the.submissions) tables.submissions ≡
    (Text bake ∷ Int (pos 1) ∷ Text (codes "B") ∷ Text (codes "CCD") ∷ Text (codes "debit") ∷ Text (codes "DUES") ∷ Int (pos 20120) ∷ Null ∷ Null ∷ Int (pos 0) ∷ Null ∷ Null ∷ Null ∷ Null ∷ [])
    ∷ (Text mill ∷ Int (pos 1) ∷ Text pay ∷ Text (codes "CCD") ∷ Text (codes "debit") ∷ Text (codes "DUES") ∷ Int (pos 20098) ∷ Null ∷ Null ∷ Int (pos 0) ∷ Int (pos 20098) ∷ Int (pos 20096) ∷ Text (codes "A") ∷ Int (pos 3) ∷ [])
    ∷ (Text mill ∷ Int (pos 2) ∷ Text (codes "TRY-1") ∷ Text (codes "CCD") ∷ Text (codes "debit") ∷ Text (codes "DUES") ∷ Int (pos 20103) ∷ Text pay ∷ Int (pos 1) ∷ Int (pos 1) ∷ Null ∷ Null ∷ Null ∷ Null ∷ [])
    ∷ (Text mill ∷ Int (pos 3) ∷ Text (codes "TRY-2") ∷ Text (codes "CCD") ∷ Text (codes "debit") ∷ Text (codes "DUES") ∷ Int (pos 20115) ∷ Text pay ∷ Int (pos 1) ∷ Int (pos 0) ∷ Null ∷ Null ∷ Null ∷ Null ∷ [])
    ∷ (Text mill ∷ Int (pos 4) ∷ Text (codes "PAY-4") ∷ Text (codes "CCD") ∷ Text (codes "debit") ∷ Text (codes "DUES") ∷ Int (pos 20109) ∷ Null ∷ Null ∷ Int (pos 0) ∷ Int (pos 20109) ∷ Int (pos 20107) ∷ Text (codes "B") ∷ Int (pos 1) ∷ []) ∷ []
submissions = refl

abbrev fifth : SubmissionRecord
fifth = record_of mill 5 pay 20098 None false None None

credit : (as_row the.submissions) (record fifth { head = record fifth.head { sec = Ppd; direction = Credit } })
    ≡ Text mill ∷ Int (pos 5) ∷ Text pay ∷ Text (codes "PPD") ∷ Text (codes "credit") ∷ Text (codes "DUES") ∷ Int (pos 20098) ∷ Null ∷ Null ∷ Int (pos 0) ∷ Null ∷ Null ∷ Null ∷ Null ∷ []
credit = refl

entries : map (as_row the.entries) (entry_of mill 1 1 dues (Some 1) ∷ entry_of mill 1 2 more_dues (Some 2) ∷ entry_of mill 3 1 dues None ∷ []) ≡
    (Text mill ∷ Int (pos 1) ∷ Int (pos 1) ∷ Text (codes "091000019") ∷ Text (codes "123") ∷ Int (pos 0) ∷ Int (pos 0) ∷ Int (pos 2500) ∷ Text (codes "E2") ∷ Text (codes "BOB RAY") ∷ Null ∷ Int (pos 1) ∷ [])
    ∷ (Text mill ∷ Int (pos 1) ∷ Int (pos 2) ∷ Text (codes "061000146") ∷ Text (codes "45") ∷ Int (pos 1) ∷ Int (pos 1) ∷ Int (pos 0) ∷ Text (codes "") ∷ Text (codes "ANN LEE") ∷ Text (codes "MAY") ∷ Int (pos 2) ∷ [])
    ∷ (Text mill ∷ Int (pos 3) ∷ Int (pos 1) ∷ Text (codes "091000019") ∷ Text (codes "123") ∷ Int (pos 0) ∷ Int (pos 0) ∷ Int (pos 2500) ∷ Text (codes "E2") ∷ Text (codes "BOB RAY") ∷ Null ∷ Null ∷ []) ∷ []
entries = refl

returns : map (as_row the.returns) tables.returns ≡ (Int (pos 1) ∷ Text mill ∷ Int (pos 1) ∷ Int (pos 1) ∷ Text (codes "R01") ∷ Int (pos 20102) ∷ Int (pos 1) ∷ Text (codes "GONE ") ∷ []) ∷ []
returns = refl

changes : map (as_row the.changes) tables.changes ≡ (Int (pos 1) ∷ Text mill ∷ Int (pos 1) ∷ Int (pos 2) ∷ Text (codes "C01") ∷ Int (pos 20103) ∷ Text (codes "46  ") ∷ []) ∷ []
changes = refl

postings : map (as_row the.postings) tables.postings ≡
    (Int (pos 1) ∷ Text (codes "C:MILL01") ∷ Int (pos 20102) ∷ Int (negsuc 2499) ∷ Text (codes "return") ∷ Text pay ∷ Int (pos 1) ∷ [])
    ∷ (Int (pos 2) ∷ Text (codes "O") ∷ Int (pos 20102) ∷ Int (pos 2500) ∷ Text (codes "return") ∷ Text pay ∷ Int (pos 1) ∷ []) ∷ []
postings = refl

suspended : (as_row the.postings) (record { number = 3; posting = record { account = accounts.Suspense; value_day = 20102; cents = pos 5; cause = causes.Cut; reference = None; idx = 0 } })
    ≡ Int (pos 3) ∷ Text (codes "S") ∷ Int (pos 20102) ∷ Int (pos 5) ∷ Text (codes "cut") ∷ Text [] ∷ Int (pos 0) ∷ []
suspended = refl

suspense : map (as_row the.suspense) tables.suspense ≡ (Int (pos 1) ∷ Text (codes "F") ∷ Int (pos 2) ∷ Text (codes "NoTrace") ∷ Text (codes "R02") ∷ Text (codes "T") ∷ Int (pos 5) ∷ Int (pos 20103) ∷ []) ∷ []
suspense = refl

others : (map (as_row the.files) tables.files ≡ (Int (pos 20096) ∷ Text (codes "A") ∷ Blob (1 ∷ 2 ∷ []) ∷ []) ∷ [])
    × (map (as_row the.taken) tables.taken ≡ (Text (codes "F") ∷ Blob digest ∷ Int (pos 20102) ∷ Int (pos 2) ∷ Int (pos 1) ∷ Int (pos 4) ∷ Int (pos 3) ∷ []) ∷ [])
    × (map (as_row the.balances) tables.balances ≡ (Text (codes "C:MILL01") ∷ Int (pos 20102) ∷ Text (signed_decimal (negsuc 2499)) ∷ []) ∷ (Text (codes "O") ∷ Int (pos 20102) ∷ Text (signed_decimal (pos 2500)) ∷ []) ∷ [])
    × (map (as_row the.sequences) tables.numbers ≡ (Int (pos 1) ∷ Int (pos 3) ∷ []) ∷ (Int (pos 2) ∷ Int (pos 2) ∷ []) ∷ [])
    × (map (as_row the.authorizations) tables.authorizations ≡ (Text mill ∷ Int (pos 3) ∷ Int (pos 20104) ∷ []) ∷ [])
    × (map (as_row the.holidays) tables.holidays ≡ (Int (pos 20108) ∷ []) ∷ [])
others = (refl, refl, refl, refl, refl, refl)

-- ---- in the order of their keys

rising : IsInOrder (key_cmp the.submissions) tables.submissions × IsInOrder (key_cmp the.entries) tables.entries × IsInOrder (key_cmp the.balances) tables.balances × IsInOrder (key_cmp the.sequences) tables.numbers
rising = (search rules, search rules, search rules, search rules)
