-- What is asked of a desk's tables.
use Rattle.std.specs.Prelude.{List, [], ◌∷◌}
use Prim.Native.String.{String}
use Rattle.sql_tables.specs.DeskTables as the
use Rattle.sql_tables.specs.Question.{Question, ask, ask_first, ask_sum, last_row, is, from, up_to, is_one, rises, falls}

-- what is shown of a submission
abbrev pub head_columns : List String
head_columns = "company" ∷ "ord" ∷ "ref" ∷ "sec" ∷ "direction" ∷ "description" ∷ "asked" ∷ "of_ref" ∷ "of_index" ∷ "lapsed" ∷ "settled" ∷ []

-- the number of an entry, and its own columns
abbrev pub numbered_columns : List String
numbered_columns = "idx" ∷ "routing" ∷ "account" ∷ "savings" ∷ "prenote" ∷ "cents" ∷ "ident" ∷ "name" ∷ "info" ∷ []

-- what is shown of a company
abbrev pub company_columns : List String
company_columns = "id" ∷ "name" ∷ "key_digest" ∷ "entry_limit" ∷ "credit_limit" ∷ "debit_limit" ∷ []

-- ---- the desk, its calendar and its companies

abbrev pub keyed_identity : Question
keyed_identity = ask the.desk ("odfi" ∷ "odfi_name" ∷ "destination" ∷ "destination_name" ∷ "operator_key" ∷ []) (is_one "id" ∷ []) (rises "id" ∷ [])

abbrev pub day : Question
day = ask the.desk ("day" ∷ []) (is_one "id" ∷ []) (rises "id" ∷ [])

abbrev pub company : Question
company = ask the.companies company_columns (is "id" ∷ []) (rises "id" ∷ [])

abbrev pub companies : Question
companies = ask the.companies company_columns [] (rises "id" ∷ [])

abbrev pub holidays : Question
holidays = ask the.holidays ("day" ∷ []) [] (rises "day" ∷ [])

-- ---- submissions

abbrev pub submissions_of : Question
submissions_of = ask the.submissions head_columns (is "company" ∷ []) (rises "company" ∷ rises "ord" ∷ [])

abbrev pub settled_submissions : Question
settled_submissions = ask the.submissions head_columns (is "company" ∷ from "settled" ∷ []) (rises "company" ∷ rises "ord" ∷ [])

abbrev pub waiting_submissions : Question
waiting_submissions = ask the.submissions head_columns (is "company" ∷ []) (rises "company" ∷ rises "settled" ∷ rises "lapsed" ∷ rises "ord" ∷ [])

abbrev pub retries : Question
retries = ask the.submissions head_columns (is "company" ∷ is "of_ref" ∷ is "of_index" ∷ []) (rises "company" ∷ rises "ord" ∷ [])

abbrev pub numbered_submission : Question
numbered_submission = ask the.submissions head_columns (is "company" ∷ is "ord" ∷ []) (rises "company" ∷ rises "ord" ∷ [])

abbrev pub submission : Question
submission = ask the.submissions head_columns (is "company" ∷ is "ref" ∷ []) (rises "company" ∷ rises "ord" ∷ [])

abbrev pub order : Question
order = ask the.submissions ("ord" ∷ "settled" ∷ []) (is "company" ∷ is "ref" ∷ []) (rises "company" ∷ rises "ord" ∷ [])

abbrev pub facts : Question
facts = ask the.submissions ("ref" ∷ "sec" ∷ "direction" ∷ "settled" ∷ []) (is "company" ∷ is "ord" ∷ []) (rises "company" ∷ rises "ord" ∷ [])

abbrev pub last_order : Question
last_order = ask_first the.submissions ("ord" ∷ []) (is "company" ∷ []) (falls "company" ∷ falls "ord" ∷ [])

abbrev pub authorization : Question
authorization = ask the.authorizations ("day" ∷ []) (is "company" ∷ is "ord" ∷ []) (rises "company" ∷ rises "ord" ∷ [])

-- ---- entries, and the places of those that were sent

abbrev pub entries : Question
entries = ask the.entries numbered_columns (is "company" ∷ is "ord" ∷ []) (rises "company" ∷ rises "ord" ∷ rises "idx" ∷ [])

abbrev pub amounts : Question
amounts = ask the.entries ("idx" ∷ "prenote" ∷ "cents" ∷ []) (is "company" ∷ is "ord" ∷ []) (rises "company" ∷ rises "ord" ∷ rises "idx" ∷ [])

abbrev pub infos : Question
infos = ask the.entries ("info" ∷ []) (is "company" ∷ is "ord" ∷ []) (rises "company" ∷ rises "ord" ∷ rises "idx" ∷ [])

abbrev pub cents : Question
cents = ask_sum the.entries "cents" (is "company" ∷ is "ord" ∷ [])

abbrev pub sent_entry : Question
sent_entry = ask the.entries ("company" ∷ "ord" ∷ "idx" ∷ "routing" ∷ "account" ∷ "savings" ∷ "prenote" ∷ "cents" ∷ "ident" ∷ "name" ∷ "info" ∷ []) (is "seq" ∷ []) (rises "company" ∷ rises "ord" ∷ rises "idx" ∷ [])

abbrev pub entry_places : Question
entry_places = ask the.entries ("company" ∷ "ord" ∷ "seq" ∷ []) (from "seq" ∷ up_to "seq" ∷ []) (rises "company" ∷ rises "ord" ∷ rises "idx" ∷ [])

abbrev pub places : Question
places = ask the.sequences ("nth" ∷ []) (from "sequence" ∷ up_to "sequence" ∷ []) (rises "sequence" ∷ [])

abbrev pub last_number : Question
last_number = ask_first the.sequences ("sequence" ∷ "nth" ∷ []) [] (falls "nth" ∷ [])

-- ---- what came back of entries

abbrev pub returns : Question
returns = ask the.returns ("idx" ∷ "code" ∷ "day" ∷ "late" ∷ []) (is "company" ∷ is "ord" ∷ []) (rises "no" ∷ [])

abbrev pub return : Question
return = ask the.returns ("idx" ∷ "code" ∷ "day" ∷ "late" ∷ []) (is "company" ∷ is "ord" ∷ is "idx" ∷ []) (rises "no" ∷ [])

abbrev pub returned_orders : Question
returned_orders = ask the.returns ("ord" ∷ []) (is "company" ∷ from "day" ∷ []) (rises "no" ∷ [])

abbrev pub return_lines : Question
return_lines = ask the.returns ("no" ∷ "ord" ∷ "idx" ∷ "code" ∷ "day" ∷ "late" ∷ "info" ∷ []) (is "company" ∷ []) (rises "day" ∷ [])

abbrev pub change_lines : Question
change_lines = ask the.changes ("ord" ∷ "idx" ∷ "code" ∷ "day" ∷ "text" ∷ []) (is "company" ∷ []) (rises "no" ∷ [])

abbrev pub suspense : Question
suspense = ask the.suspense ("file_key" ∷ "item" ∷ "why" ∷ "code" ∷ "trace" ∷ "cents" ∷ "day" ∷ []) [] (rises "no" ∷ [])

abbrev pub last_suspense : Question
last_suspense = last_row the.suspense

-- ---- lines of accounts, and files

abbrev pub postings : Question
postings = ask the.postings ("value_day" ∷ "cents" ∷ "cause" ∷ "ref" ∷ "idx" ∷ []) (is "account" ∷ []) (rises "no" ∷ [])

abbrev pub sums : Question
sums = ask the.balances ("value_day" ∷ "cents" ∷ []) (is "account" ∷ []) (rises "account" ∷ rises "value_day" ∷ [])

abbrev pub sum : Question
sum = ask the.balances ("cents" ∷ []) (is "account" ∷ is "value_day" ∷ []) (rises "account" ∷ rises "value_day" ∷ [])

abbrev pub modifiers : Question
modifiers = ask the.files ("modifier" ∷ []) (is "day" ∷ []) (rises "day" ∷ rises "modifier" ∷ [])

abbrev pub file : Question
file = ask the.files ("text" ∷ []) (is "day" ∷ is "modifier" ∷ []) (rises "day" ∷ rises "modifier" ∷ [])

abbrev pub taken : Question
taken = ask the.taken ("file_key" ∷ "digest" ∷ "day" ∷ "returns" ∷ "changes" ∷ "late" ∷ "suspense" ∷ []) (is "file_key" ∷ []) (rises "file_key" ∷ [])
