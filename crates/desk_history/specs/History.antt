-- The history of a desk, the newest pair first: its companies, what it sent, and the part of each company.
use Rattle.std.specs.Prelude.{ℕ, Bool, true, false, ◌&&◌, if◌then◌else◌, List, [], ◌∷◌, ◌++◌, map, filter, find, Option, Some, None, option_map, option_to_list, option_and_then, is_none, unwrap_or, Ok, bytes_eq}
use Rattle.std.specs.List.{flat_map}
use Rattle.std.specs.Result.{result_ok}
use Rattle.desk_rules.specs.declared.bodies.company.Company.{Company}
use Rattle.desk_rules.specs.declared.bodies.company.Limits.{Limits}
use Rattle.desk_rules.specs.Operator.{company_of, new_limits_of, desk_day_of}
use Rattle.desk_history.specs.Request as request
use Rattle.desk_history.specs.Request.{Request}
use Rattle.desk_history.specs.Words.{or_else, is_before}
use Rattle.desk_history.specs.Part.{Event, DaySet, HolidaysSet, Registered, Limited, Asked, CutMade, is_registered}
use Rattle.desk_history.specs.Accepted.{settlement_day, is_sent_next}
use Rattle.desk_history.specs.Acceptance.{submissions}
use Rattle.desk_history.specs.Message.{Message, Of, SetDay, SetHolidays, PutCompany, PutLimits, Cut, TakeFile, Pair, is_accepted}
use Rattle.desk_history.specs.declared.sent_entry.SentEntry.{SentEntry}
use Rattle.desk_history.specs.Sendings.{Sending, with_sendings}
use Rattle.desk_history.specs.Resolve.{item_events}

-- ---- what an accepted message sets

abbrev pub message_day : Message → Option ℕ
message_day (SetDay text) = option_and_then desk_day_of text
message_day _ = None

abbrev pub message_holidays : Message → Option (List ℕ)
message_holidays (SetHolidays days) = result_ok days
message_holidays _ = None

abbrev pub message_company : Message → Option Company
message_company (PutCompany d) = result_ok (company_of d)
message_company _ = None

-- the company and its limits
abbrev pub message_limits : Message → Option (List ℕ × Limits)
message_limits (PutLimits d) = result_ok (new_limits_of d)
message_limits _ = None

abbrev pub if_accepted : {A : Type 0} → Pair → Option A → Option A
if_accepted x a = if is_accepted x.answer then a else None

-- ---- the desk day, the holidays and the companies

-- the desk day: the last that was set
abbrev pub day : List Pair → Option ℕ
day [] = None
day (x ∷ H) = or_else (if_accepted x (message_day x.message)) (day H)

-- the holidays: the list that was set last, and none before the first
abbrev pub holidays : List Pair → List ℕ
holidays [] = []
holidays (x ∷ H) = unwrap_or (if_accepted x (message_holidays x.message)) (holidays H)

-- the company in its place, in the byte order of identifications
abbrev pub with_company : Company → List Company → List Company
with_company k [] = k ∷ []
with_company k (other ∷ ks) = if is_before k.id other.id then k ∷ other ∷ ks else other ∷ with_company k ks

abbrev pub with_limits : List ℕ → Limits → Company → Company
with_limits id limits k = if bytes_eq k.id id then record k { limits = limits } else k

abbrev pub with_registration : Option Company → List Company → List Company
with_registration None ks = ks
with_registration (Some k) ks = with_company k ks

abbrev pub with_new_limits : Option (List ℕ × Limits) → List Company → List Company
with_new_limits None ks = ks
with_new_limits (Some x) ks = map (with_limits x.0 x.1) ks

-- the registered companies with their present limits, in the byte order of identifications
abbrev pub companies : List Pair → List Company
companies [] = []
companies (x ∷ H) = with_new_limits (if_accepted x (message_limits x.message)) (with_registration (if_accepted x (message_company x.message)) (companies H))

-- ---- what is new

abbrev pub has_file_key : List ℕ → Message → Bool
has_file_key key (TakeFile (Ok f)) = bytes_eq f.key key
has_file_key key _ = false

-- was a file of the key taken?
abbrev pub takes_key : List ℕ → Pair → Bool
takes_key key x = is_accepted x.answer && has_file_key key x.message

abbrev pub is_new_file : List Pair → List ℕ → Bool
is_new_file H key = is_none (find (takes_key key) H)

-- a file is new where none with its key was taken; other messages always are
abbrev pub is_new : List Pair → Message → Bool
is_new H (TakeFile (Ok f)) = is_new_file H f.key
is_new H _ = true

-- ---- what a cut sends

-- the submissions of a company that the next cut sends, by order number
abbrev pub sendings_of : (List ℕ → List Event) → Company → List Sending
sendings_of parts k =
    map (λ a. record { company = k; order = a.order; content = a.content; settled = unwrap_or (settlement_day (CutMade ∷ parts k.id) a) 0 })
    (filter (is_sent_next (parts k.id)) (submissions (parts k.id)))

-- those of all companies, in the byte order of identifications
abbrev pub sendings : (List ℕ → List Event) → List Company → List Sending
sendings parts ks = flat_map (sendings_of parts) ks

-- ---- the events that a message gives to a company

abbrev pub company_event : List ℕ → Option Company → List Event
company_event c None = []
company_event c (Some k) = if bytes_eq k.id c then Registered k.name k.digest k.limits ∷ [] else []

abbrev pub limits_event : List ℕ → Option (List ℕ × Limits) → List Event
limits_event c None = []
limits_event c (Some x) = if bytes_eq x.0 c then Limited x.1 ∷ [] else []

-- a submission or retry of a registered company, accepted or refused
abbrev pub request_event : Bool → Request → List Event
request_event true (request.Submit d) = Asked (request.Submit d) ∷ []
request_event true (request.Retry d) = Asked (request.Retry d) ∷ []
request_event _ _ = []

-- A company's own requests count whatever was answered, commands of the operator where they were
-- accepted, and a file where it is new.
abbrev pub events_for : (odfi : List ℕ) → (sent : List SentEntry) → (new : Bool) → (company : List ℕ) → (accepted : Bool) → Message → (before : List Event) → List Event
events_for odfi sent_entries new c ok (Of k r) P = request_event (bytes_eq k c && is_registered P) r
events_for odfi sent_entries new c true (SetDay text) P = option_to_list (option_map DaySet (message_day (SetDay text)))
events_for odfi sent_entries new c true (SetHolidays days) P = option_to_list (option_map HolidaysSet (result_ok days))
events_for odfi sent_entries new c true (PutCompany d) P = company_event c (message_company (PutCompany d))
events_for odfi sent_entries new c true (PutLimits d) P = limits_event c (message_limits (PutLimits d))
events_for odfi sent_entries new c true Cut P = CutMade ∷ []
events_for odfi sent_entries true c true (TakeFile (Ok f)) P = item_events odfi sent_entries c f.items P
events_for odfi sent_entries new c _ _ P = []

-- ---- the part of each company, and what was sent

abbrev pub sent_entries_after : (accepted : Bool) → Message → (sent : List SentEntry) → (parts : List ℕ → List Event) → (companies : List Company) → List SentEntry
sent_entries_after true Cut sent_entries parts ks = with_sendings sent_entries (sendings parts ks)
sent_entries_after _ _ sent_entries parts ks = sent_entries

abbrev mutual
  -- a company's part of the history, by the originating bank's routing number and the company's identification
  pub part : (odfi : List ℕ) → List Pair → (company : List ℕ) → List Event
  part odfi [] c = []
  part odfi (x ∷ H) c = events_for odfi (sent_entries odfi H) (is_new H x.message) c (is_accepted x.answer) x.message (part odfi H c) ++ part odfi H c

  -- the sent entries, the newest first
  pub sent_entries : (odfi : List ℕ) → List Pair → List SentEntry
  sent_entries odfi [] = []
  sent_entries odfi (x ∷ H) = sent_entries_after (is_accepted x.answer) x.message (sent_entries odfi H) (λ c. part odfi H c) (companies H)
