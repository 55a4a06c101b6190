-- The questions only read, whatever the schema is, and in a desk's they ask what they say.
use Rattle.std.proofs.Common.{ℕ, List, map, refl}
use Rattle.sqlite.specs.Listing.{understood}
use Rattle.sqlite_resolve.specs.Compile.{first}
use Rattle.sqlite_sql.specs.Term.{Term, col}
use Rattle.sqlite_tied.specs.Compute.{everything}
use Rattle.sql_tables.specs.Question.{IsQuestion}
use Rattle.sql_query_laws.specs.Questions as questions

-- the columns at these places, from 1
abbrev pub places : List ℕ → List Term
places = map (λ at. col 1 at)

pub keyed_identity_is : IsQuestion questions.keyed_identity
unfolding understood first everything
keyed_identity_is = record { selects = refl; asks = record { selects = refl; body = refl; alone = refl; unlisted = refl; plain = (refl, refl) } }

pub day_is : IsQuestion questions.day
unfolding understood first everything
day_is = record { selects = refl; asks = record { selects = refl; body = refl; alone = refl; unlisted = refl; plain = (refl, refl) } }

pub company_is : IsQuestion questions.company
unfolding understood first everything
company_is = record { selects = refl; asks = record { selects = refl; body = refl; alone = refl; unlisted = refl; plain = (refl, refl) } }

pub companies_is : IsQuestion questions.companies
unfolding understood first everything
companies_is = record { selects = refl; asks = record { selects = refl; body = refl; alone = refl; unlisted = refl; plain = (refl, refl) } }

pub holidays_is : IsQuestion questions.holidays
unfolding understood first everything
holidays_is = record { selects = refl; asks = record { selects = refl; body = refl; alone = refl; unlisted = refl; plain = (refl, refl) } }

pub submissions_of_is : IsQuestion questions.submissions_of
unfolding understood first everything
submissions_of_is = record { selects = refl; asks = record { selects = refl; body = refl; alone = refl; unlisted = refl; plain = (refl, refl) } }

pub settled_submissions_is : IsQuestion questions.settled_submissions
unfolding understood first everything
settled_submissions_is = record { selects = refl; asks = record { selects = refl; body = refl; alone = refl; unlisted = refl; plain = (refl, refl) } }

pub waiting_submissions_is : IsQuestion questions.waiting_submissions
unfolding understood first everything
waiting_submissions_is = record { selects = refl; asks = record { selects = refl; body = refl; alone = refl; unlisted = refl; plain = (refl, refl) } }

pub retries_is : IsQuestion questions.retries
unfolding understood first everything
retries_is = record { selects = refl; asks = record { selects = refl; body = refl; alone = refl; unlisted = refl; plain = (refl, refl) } }

pub numbered_submission_is : IsQuestion questions.numbered_submission
unfolding understood first everything
numbered_submission_is = record { selects = refl; asks = record { selects = refl; body = refl; alone = refl; unlisted = refl; plain = (refl, refl) } }

pub submission_is : IsQuestion questions.submission
unfolding understood first everything
submission_is = record { selects = refl; asks = record { selects = refl; body = refl; alone = refl; unlisted = refl; plain = (refl, refl) } }

pub order_is : IsQuestion questions.order
unfolding understood first everything
order_is = record { selects = refl; asks = record { selects = refl; body = refl; alone = refl; unlisted = refl; plain = (refl, refl) } }

pub facts_is : IsQuestion questions.facts
unfolding understood first everything
facts_is = record { selects = refl; asks = record { selects = refl; body = refl; alone = refl; unlisted = refl; plain = (refl, refl) } }

pub last_order_is : IsQuestion questions.last_order
unfolding understood first everything
last_order_is = record { selects = refl; asks = record { selects = refl; body = refl; alone = refl; unlisted = refl; plain = (refl, refl) } }

pub authorization_is : IsQuestion questions.authorization
unfolding understood first everything
authorization_is = record { selects = refl; asks = record { selects = refl; body = refl; alone = refl; unlisted = refl; plain = (refl, refl) } }

pub entries_is : IsQuestion questions.entries
unfolding understood first everything
entries_is = record { selects = refl; asks = record { selects = refl; body = refl; alone = refl; unlisted = refl; plain = (refl, refl) } }

pub amounts_is : IsQuestion questions.amounts
unfolding understood first everything
amounts_is = record { selects = refl; asks = record { selects = refl; body = refl; alone = refl; unlisted = refl; plain = (refl, refl) } }

pub infos_is : IsQuestion questions.infos
unfolding understood first everything
infos_is = record { selects = refl; asks = record { selects = refl; body = refl; alone = refl; unlisted = refl; plain = (refl, refl) } }

pub cents_is : IsQuestion questions.cents
unfolding understood first everything
cents_is = record { selects = refl; asks = record { selects = refl; body = refl; alone = refl; unlisted = refl; plain = (refl, refl) } }

pub sent_entry_is : IsQuestion questions.sent_entry
unfolding understood first everything
sent_entry_is = record { selects = refl; asks = record { selects = refl; body = refl; alone = refl; unlisted = refl; plain = (refl, refl) } }

pub entry_places_is : IsQuestion questions.entry_places
unfolding understood first everything
entry_places_is = record { selects = refl; asks = record { selects = refl; body = refl; alone = refl; unlisted = refl; plain = (refl, refl) } }

pub places_is : IsQuestion questions.places
unfolding understood first everything
places_is = record { selects = refl; asks = record { selects = refl; body = refl; alone = refl; unlisted = refl; plain = (refl, refl) } }

pub last_number_is : IsQuestion questions.last_number
unfolding understood first everything
last_number_is = record { selects = refl; asks = record { selects = refl; body = refl; alone = refl; unlisted = refl; plain = (refl, refl) } }

pub returns_is : IsQuestion questions.returns
unfolding understood first everything
returns_is = record { selects = refl; asks = record { selects = refl; body = refl; alone = refl; unlisted = refl; plain = (refl, refl) } }

pub return_is : IsQuestion questions.return
unfolding understood first everything
return_is = record { selects = refl; asks = record { selects = refl; body = refl; alone = refl; unlisted = refl; plain = (refl, refl) } }

pub returned_orders_is : IsQuestion questions.returned_orders
unfolding understood first everything
returned_orders_is = record { selects = refl; asks = record { selects = refl; body = refl; alone = refl; unlisted = refl; plain = (refl, refl) } }

pub return_lines_is : IsQuestion questions.return_lines
unfolding understood first everything
return_lines_is = record { selects = refl; asks = record { selects = refl; body = refl; alone = refl; unlisted = refl; plain = (refl, refl) } }

pub change_lines_is : IsQuestion questions.change_lines
unfolding understood first everything
change_lines_is = record { selects = refl; asks = record { selects = refl; body = refl; alone = refl; unlisted = refl; plain = (refl, refl) } }

pub suspense_is : IsQuestion questions.suspense
unfolding understood first everything
suspense_is = record { selects = refl; asks = record { selects = refl; body = refl; alone = refl; unlisted = refl; plain = (refl, refl) } }

pub last_suspense_is : IsQuestion questions.last_suspense
unfolding understood first everything
last_suspense_is = record { selects = refl; asks = record { selects = refl; body = refl; alone = refl; unlisted = refl; plain = (refl, refl) } }

pub postings_is : IsQuestion questions.postings
unfolding understood first everything
postings_is = record { selects = refl; asks = record { selects = refl; body = refl; alone = refl; unlisted = refl; plain = (refl, refl) } }

pub sums_is : IsQuestion questions.sums
unfolding understood first everything
sums_is = record { selects = refl; asks = record { selects = refl; body = refl; alone = refl; unlisted = refl; plain = (refl, refl) } }

pub sum_is : IsQuestion questions.sum
unfolding understood first everything
sum_is = record { selects = refl; asks = record { selects = refl; body = refl; alone = refl; unlisted = refl; plain = (refl, refl) } }

pub modifiers_is : IsQuestion questions.modifiers
unfolding understood first everything
modifiers_is = record { selects = refl; asks = record { selects = refl; body = refl; alone = refl; unlisted = refl; plain = (refl, refl) } }

pub file_is : IsQuestion questions.file
unfolding understood first everything
file_is = record { selects = refl; asks = record { selects = refl; body = refl; alone = refl; unlisted = refl; plain = (refl, refl) } }

pub taken_is : IsQuestion questions.taken
unfolding understood first everything
taken_is = record { selects = refl; asks = record { selects = refl; body = refl; alone = refl; unlisted = refl; plain = (refl, refl) } }
