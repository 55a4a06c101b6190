-- No two values have one row: each is read back from its row.
use Rattle.std.specs.Prelude.{codes, if◌then◌else◌}
use Rattle.std.proofs.Common.{bytes_eq, ◌≡◌, ◌+◌, ◌-◌, ◌*◌, ℕ, suc, ℤ, pos, Bool, true, false, List, [], ◌∷◌, Option, Some, None, option_map, refl, sym, ap, ◌∙◌, arith}
use Rattle.sqlite.specs.Values.{or_null}
use Rattle.sqlite_value.specs.declared.value.Value.{Value}
use Rattle.sqlite_value.specs.declared.value.Value.TheVariants.{Null, Int, Text, Blob}
use Rattle.sqlite_value.specs.Order.{Row, column}
use Rattle.desk_accounts.specs.declared.posting.Cause.{Cause}
use Rattle.desk_accounts.specs.declared.posting.Cause.TheVariants as causes
use Rattle.desk_history.specs.declared.operations.SuspenseReason.{SuspenseReason}
use Rattle.desk_history.specs.declared.operations.SuspenseReason.TheVariants as reasons
use Rattle.desk_history.specs.declared.operations.SuspenseRow.{SuspenseRow}
use Rattle.desk_history.specs.declared.operations.TakenFile.{TakenFile}
use Rattle.desk_history.specs.declared.reports.RetriedEntry.{RetriedEntry}
use Rattle.desk_history.specs.Resolve.{is_savings}
use Rattle.desk_rules.specs.Fields.{sec_text}
use Rattle.desk_rules.specs.ReturnCodes.{code_text}
use Rattle.desk_rules.specs.declared.bodies.submission.AccountKind.{AccountKind}
use Rattle.desk_rules.specs.declared.bodies.submission.AccountKind.TheVariants as kinds
use Rattle.desk_rules.specs.declared.bodies.submission.Direction.{Direction}
use Rattle.desk_rules.specs.declared.bodies.submission.Direction.TheVariants as directions
use Rattle.desk_rules.specs.declared.bodies.submission.Entry.{Entry}
use Rattle.desk_rules.specs.declared.bodies.submission.SecCode.{SecCode}
use Rattle.desk_rules.specs.declared.bodies.submission.SecCode.TheVariants as secs
use Rattle.sql_tables.specs.Columns.{number, flag, letter, line_reference, direction_text, cause_text, reason_text, entry_columns}
use Rattle.sql_tables.specs.Description.{as_row}
use Rattle.sql_tables.specs.DeskTables as the
use Rattle.sql_tables.specs.QueryRows.{keyed_identity_row, submission_head_row, submission_facts_row, order_and_settlement_row, entry_amount_row, numbered_entry_row, placed_entry_row, entry_place_row, entry_return_row, return_line_row, change_line_row, posting_line_row, suspense_line_row}
use Rattle.sql_tables.specs.declared.row.items.EntryReturn.{EntryReturn}
use Rattle.sql_tables.specs.declared.row.items.ReturnLine.{ReturnLine}
use Rattle.sql_tables.specs.declared.row.lines.PostingLine.{PostingLine}
use Rattle.sql_tables.specs.declared.row.submissions.SubmissionFacts.{SubmissionFacts}
use Rattle.sql_tables.specs.declared.row.submissions.SubmissionHead.{SubmissionHead}
use Rattle.sql_query_laws.specs.Shows.{IsInjective}

read_back : {X : Type 0} (show : X → Row) (read : Row → X) → ((x : X) → read (show x) ≡ x) → IsInjective show
read_back show read back x y e = sym (back x) ∙ ap read e ∙ back y

-- ---- columns

abbrev pub text_in : Value → List ℕ
text_in (Text t) = t
text_in (Blob t) = t
text_in _ = []

abbrev int_in : Value → ℤ
int_in (Int z) = z
int_in _ = pos 0

abbrev pub number_in : Value → ℕ
number_in (Int (pos n)) = n
number_in _ = 0

abbrev if_any_in : {X : Type 0} → (Value → X) → Value → Option X
if_any_in f Null = None
if_any_in f (Int n) = Some (f (Int n))
if_any_in f (Text t) = Some (f (Text t))
if_any_in f _ = None

number_if_any : (o : Option ℕ) → if_any_in number_in (or_null number o) ≡ o
number_if_any None = refl
number_if_any (Some n) = refl

abbrev letter_in : Value → ℕ
letter_in (Text (c ∷ s)) = c
letter_in _ = 0

abbrev line_reference_in : Value → Option (List ℕ)
line_reference_in Null = Some []
line_reference_in (Text (c ∷ s)) = Some (c ∷ s)
line_reference_in _ = None

line_reference_back : (o : Option (List ℕ)) → line_reference_in (line_reference o) ≡ o
line_reference_back None = refl
line_reference_back (Some []) = refl
line_reference_back (Some (c ∷ s)) = refl

text_if_any : (o : Option (List ℕ)) → if_any_in text_in (or_null Text o) ≡ o
text_if_any None = refl
text_if_any (Some t) = refl

abbrev is_above_zero : ℕ → Bool
is_above_zero (suc n) = true
is_above_zero _ = false

abbrev flag_in : Value → Bool
flag_in v = is_above_zero (number_in v)

flag_back : (b : Bool) → flag_in (flag b) ≡ b
flag_back true = refl
flag_back false = refl

abbrev sec_with : List ℕ → SecCode
sec_with s = if bytes_eq s (codes "PPD") then secs.Ppd else secs.Ccd

sec_back : (s : SecCode) → sec_with (sec_text s) ≡ s
sec_back secs.Ppd = refl
sec_back secs.Ccd = refl

abbrev direction_with : List ℕ → Direction
direction_with s = if bytes_eq s (codes "credit") then directions.Credit else directions.Debit

direction_back : (d : Direction) → direction_with (direction_text d) ≡ d
direction_back directions.Credit = refl
direction_back directions.Debit = refl

abbrev cause_with : List ℕ → Cause
cause_with s = if bytes_eq s (codes "cut") then causes.Cut else causes.Return

cause_back : (c : Cause) → cause_with (cause_text c) ≡ c
cause_back causes.Cut = refl
cause_back causes.Return = refl

abbrev reason_with : List ℕ → SuspenseReason
reason_with s =
    if bytes_eq s (codes "NoTrace") then reasons.NoTrace else (if bytes_eq s (codes "Differs") then reasons.Differs else (if bytes_eq s (codes "CodeOutside") then reasons.CodeOutside else reasons.AlreadyReturned))

reason_back : (r : SuspenseReason) → reason_with (reason_text r) ≡ r
reason_back reasons.NoTrace = refl
reason_back reasons.Differs = refl
reason_back reasons.CodeOutside = refl
reason_back reasons.AlreadyReturned = refl

-- R and two digits
abbrev code_with : List ℕ → ℕ
code_with (r ∷ tens ∷ ones ∷ s) = 10 * (tens - 48) + (ones - 48)
code_with _ = 0

code_back : (n : ℕ) → code_with (code_text n) ≡ n
code_back n = omega arith

abbrev kind_with : Bool → AccountKind
kind_with true = kinds.Savings
kind_with false = kinds.Checking

kind_back : (k : AccountKind) → kind_with (flag_in (flag (is_savings k))) ≡ k
kind_back kinds.Checking = refl
kind_back kinds.Savings = refl

abbrev retried_with : Value → Value → Option RetriedEntry
retried_with (Text of) (Int (pos n)) = Some (record { of = of; index = n })
retried_with _ _ = None

retried_back : (r : Option RetriedEntry) → retried_with (or_null Text (option_map (λ t. t.of) r)) (or_null number (option_map (λ t. t.index) r)) ≡ r
retried_back None = refl
retried_back (Some r) = refl

-- ---- columns of one value

pub number_columns : IsInjective (λ n. number n ∷ [])
number_columns = read_back (λ n. number n ∷ []) (λ r. number_in (column r 0)) (λ n. refl)

pub letter_columns : IsInjective (λ c. letter c ∷ [])
letter_columns = read_back (λ c. letter c ∷ []) (λ r. letter_in (column r 0)) (λ c. refl)

pub text_if_any_columns : IsInjective (λ o. or_null Text o ∷ [])
text_if_any_columns = read_back (λ o. or_null Text o ∷ []) (λ r. if_any_in text_in (column r 0)) text_if_any

pub number_if_any_columns : IsInjective (λ o. or_null number o ∷ [])
number_if_any_columns = read_back (λ o. or_null number o ∷ []) (λ r. if_any_in number_in (column r 0)) number_if_any

pub blob_columns : IsInjective (λ b. Blob b ∷ [])
blob_columns = read_back (λ b. Blob b ∷ []) (λ r. text_in (column r 0)) (λ b. refl)

-- ---- rows

pub keyed_identity_rows : IsInjective keyed_identity_row
keyed_identity_rows =
    read_back keyed_identity_row
    (λ r. record {
      identity = record { odfi = text_in (column r 0); odfi_name = text_in (column r 1); destination = text_in (column r 2); destination_name = text_in (column r 3) };
      operator_key = text_in (column r 4);
    })
    (λ d. refl)

pub company_rows : IsInjective (as_row the.companies)
company_rows =
    read_back (as_row the.companies)
    (λ r. record {
      id = text_in (column r 0);
      name = text_in (column r 1);
      digest = text_in (column r 2);
      limits = record { entry = number_in (column r 3); credit = number_in (column r 4); debit = number_in (column r 5) };
    })
    (λ k. refl)

abbrev head_in : Row → SubmissionHead
head_in r = record {
  company = text_in (column r 0);
  order = number_in (column r 1);
  reference = text_in (column r 2);
  sec = sec_with (text_in (column r 3));
  direction = direction_with (text_in (column r 4));
  description = text_in (column r 5);
  asked = number_in (column r 6);
  retried = retried_with (column r 7) (column r 8);
  lapsed = flag_in (column r 9);
  settled = if_any_in number_in (column r 10);
}

pub submission_head_rows : IsInjective submission_head_row
submission_head_rows =
    read_back submission_head_row head_in
    (λ s i. record s { sec = sec_back s.sec i; direction = direction_back s.direction i; retried = retried_back s.retried i; lapsed = flag_back s.lapsed i; settled = number_if_any s.settled i })

abbrev facts_in : Row → SubmissionFacts
facts_in r = record {
  reference = text_in (column r 0);
  sec = sec_with (text_in (column r 1));
  direction = direction_with (text_in (column r 2));
  settled = if_any_in number_in (column r 3);
}

pub submission_facts_rows : IsInjective submission_facts_row
submission_facts_rows = read_back submission_facts_row facts_in (λ s i. record s { sec = sec_back s.sec i; direction = direction_back s.direction i; settled = number_if_any s.settled i })

pub order_and_settlement_rows : IsInjective order_and_settlement_row
order_and_settlement_rows =
    read_back order_and_settlement_row (λ r. record { order = number_in (column r 0); settled = if_any_in number_in (column r 1) }) (λ s i. record s { settled = number_if_any s.settled i })

-- in the eight columns from this one on
abbrev entry_in : Row → ℕ → Entry
entry_in r at = record {
  routing = text_in (column r at);
  account = text_in (column r (1 + at));
  kind = kind_with (flag_in (column r (2 + at)));
  prenote = flag_in (column r (3 + at));
  cents = number_in (column r (4 + at));
  id = text_in (column r (5 + at));
  name = text_in (column r (6 + at));
  info = if_any_in text_in (column r (7 + at));
}

entry_back : (e : Entry) → entry_in (entry_columns e) 0 ≡ e
entry_back e i = record e { kind = kind_back e.kind i; prenote = flag_back e.prenote i; info = text_if_any e.info i }

pub numbered_entry_rows : IsInjective numbered_entry_row
numbered_entry_rows = read_back numbered_entry_row (λ r. record { index = number_in (column r 0); entry = entry_in r 1 }) (λ e i. record e { entry = entry_back e.entry i })

pub entry_amount_rows : IsInjective entry_amount_row
entry_amount_rows = read_back entry_amount_row (λ r. record { index = number_in (column r 0); prenote = flag_in (column r 1); cents = number_in (column r 2) }) (λ a i. record a { prenote = flag_back a.prenote i })

pub placed_entry_rows : IsInjective placed_entry_row
placed_entry_rows =
    read_back placed_entry_row (λ r. record { company = text_in (column r 0); order = number_in (column r 1); index = number_in (column r 2); entry = entry_in r 3 }) (λ e i. record e { entry = entry_back e.entry i })

pub entry_place_rows : IsInjective entry_place_row
entry_place_rows =
    read_back entry_place_row (λ r. record { company = text_in (column r 0); order = number_in (column r 1); place = if_any_in number_in (column r 2) }) (λ e i. record e { place = number_if_any e.place i })

-- in the four columns from this one on
abbrev return_in : Row → ℕ → EntryReturn
return_in r at = record {
  index = number_in (column r at);
  code = code_with (text_in (column r (1 + at)));
  day = number_in (column r (2 + at));
  late = flag_in (column r (3 + at));
}

return_back : (b : EntryReturn) → return_in (entry_return_row b) 0 ≡ b
return_back b i = record b { code = code_back b.code i; late = flag_back b.late i }

pub entry_return_rows : IsInjective entry_return_row
entry_return_rows = read_back entry_return_row (λ r. return_in r 0) return_back

abbrev pub return_line_in : Row → ReturnLine
return_line_in r = record { number = number_in (column r 0); order = number_in (column r 1); back = return_in r 2; info = text_in (column r 6) }

pub return_line_back : (l : ReturnLine) → return_line_in (return_line_row l) ≡ l
return_line_back l i = record l { back = return_back l.back i }

pub change_line_rows : IsInjective change_line_row
change_line_rows =
    read_back change_line_row (λ r. record { order = number_in (column r 0); index = number_in (column r 1); code = text_in (column r 2); day = number_in (column r 3); text = text_in (column r 4) }) (λ c. refl)

abbrev posting_line_in : Row → PostingLine
posting_line_in r = record {
  value_day = number_in (column r 0);
  cents = int_in (column r 1);
  cause = cause_with (text_in (column r 2));
  reference = line_reference_in (column r 3);
  idx = number_in (column r 4);
}

pub posting_line_rows : IsInjective posting_line_row
posting_line_rows = read_back posting_line_row posting_line_in (λ p i. record p { cause = cause_back p.cause i; reference = line_reference_back p.reference i })

abbrev suspense_in : Row → SuspenseRow
suspense_in r = record {
  file = text_in (column r 0);
  item = number_in (column r 1);
  why = reason_with (text_in (column r 2));
  code = text_in (column r 3);
  trace = text_in (column r 4);
  cents = number_in (column r 5);
  day = number_in (column r 6);
}

pub suspense_line_rows : IsInjective suspense_line_row
suspense_line_rows = read_back suspense_line_row suspense_in (λ s i. record s { why = reason_back s.why i })

abbrev taken_in : Row → TakenFile
taken_in r = record {
  key = text_in (column r 0);
  digest = text_in (column r 1);
  answer = record { day = number_in (column r 2); returns = number_in (column r 3); changes = number_in (column r 4); late = number_in (column r 5); suspense = number_in (column r 6) };
}

pub taken_rows : IsInjective (as_row the.taken)
taken_rows = read_back (as_row the.taken) taken_in (λ t. refl)

pub number_rows : IsInjective (as_row the.sequences)
number_rows = read_back (as_row the.sequences) (λ r. record { sequence = number_in (column r 0); place = number_in (column r 1) }) (λ n. refl)
