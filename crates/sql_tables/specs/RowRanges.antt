-- The ranges of the values that rows store.
use Rattle.std.specs.Prelude.{◌≡◌, ◌≤◌, ℕ, true, length, IsTrue, Some}
use Rattle.std.specs.Int.{IsInRange}
use Rattle.ach_fields.specs.Cents.{most_cents}
use Rattle.ach_fields.specs.Names.{is_id, is_reference}
use Rattle.ach_fields.specs.Routing.{is_routing}
use Rattle.ach_fields.specs.Text.{is_short_text}
use Rattle.ach_fields.specs.Trace.{most_sequence}
use Rattle.desk_accounts.specs.Balance.{fits_i128}
use Rattle.desk_history.specs.declared.identity.Identity.{Identity}
use Rattle.desk_history.specs.declared.operations.DaySum.{DaySum}
use Rattle.desk_history.specs.declared.operations.SuspenseRow.{SuspenseRow}
use Rattle.desk_history.specs.declared.operations.TakenFile.{TakenFile}
use Rattle.desk_history.specs.declared.reports.RetriedEntry.{RetriedEntry}
use Rattle.desk_rules.specs.declared.bodies.company.Company.{Company}
use Rattle.desk_rules.specs.declared.bodies.submission.Entry.{Entry}
use Rattle.desk_rules.specs.Fields.{entry_cents_of, most_entry_cents}
use Rattle.desk_rules.specs.ReturnCodes.{IsCode}
use Rattle.sql_tables.specs.Ranges.{FitsIfAny, IsStoredDay, IsText, IsRecordText}
use Rattle.sql_tables.specs.declared.records.NumberRecord.{NumberRecord}
use Rattle.sql_tables.specs.declared.row.entries.EntryAmount.{EntryAmount}
use Rattle.sql_tables.specs.declared.row.entries.EntryPlace.{EntryPlace}
use Rattle.sql_tables.specs.declared.row.entries.NumberedEntry.{NumberedEntry}
use Rattle.sql_tables.specs.declared.row.entries.PlacedEntry.{PlacedEntry}
use Rattle.sql_tables.specs.declared.row.items.ChangeLine.{ChangeLine}
use Rattle.sql_tables.specs.declared.row.items.EntryReturn.{EntryReturn}
use Rattle.sql_tables.specs.declared.row.items.ReturnLine.{ReturnLine}
use Rattle.sql_tables.specs.declared.row.lines.PostingLine.{PostingLine}
use Rattle.sql_tables.specs.declared.row.registry.KeyedIdentity.{KeyedIdentity}
use Rattle.sql_tables.specs.declared.row.submissions.OrderAndSettlement.{OrderAndSettlement}
use Rattle.sql_tables.specs.declared.row.submissions.SubmissionFacts.{SubmissionFacts}
use Rattle.sql_tables.specs.declared.row.submissions.SubmissionHead.{SubmissionHead}

abbrev pub IdentityFits : Identity → Type 0
IdentityFits i = IsTrue (is_routing i.odfi) × IsText 23 i.odfi_name × IsTrue (is_routing i.destination) × IsText 23 i.destination_name

abbrev pub KeyedIdentityFits : KeyedIdentity → Type 0
KeyedIdentityFits d = IdentityFits d.identity × (length d.operator_key ≡ 32)

-- ten digits of cents
abbrev pub most_entry_limit : ℕ
most_entry_limit = 9_999_999_999

-- fifteen digits of cents
abbrev pub most_exposure_limit : ℕ
most_exposure_limit = 999_999_999_999_999

abbrev pub CompanyFits : Company → Type 0
CompanyFits k =
    IsTrue (is_id k.id) × IsText 16 k.name × (length k.digest ≡ 32)
    × IsInRange 0 most_entry_limit k.limits.entry × IsInRange 0 most_exposure_limit k.limits.credit × IsInRange 0 most_exposure_limit k.limits.debit

-- the number of an entry in its submission
abbrev pub IsEntryNumber : ℕ → Type 0
IsEntryNumber n = IsInRange 1 1000 n

abbrev pub RetriedFits : RetriedEntry → Type 0
RetriedFits r = IsTrue (is_reference r.of) × IsEntryNumber r.index

abbrev pub SubmissionHeadFits : SubmissionHead → Type 0
SubmissionHeadFits s =
    IsTrue (is_id s.company) × (1 ≤ s.order) × IsTrue (is_reference s.reference) × IsText 10 s.description
    × IsStoredDay s.asked × FitsIfAny RetriedFits s.retried × FitsIfAny IsStoredDay s.settled

abbrev pub SubmissionFactsFits : SubmissionFacts → Type 0
SubmissionFactsFits s = IsTrue (is_reference s.reference) × FitsIfAny IsStoredDay s.settled

abbrev pub OrderAndSettlementFits : OrderAndSettlement → Type 0
OrderAndSettlementFits s = (1 ≤ s.order) × FitsIfAny IsStoredDay s.settled

-- a prenote has no cents, and any other entry has some
abbrev pub EntryFits : Entry → Type 0
EntryFits e =
    IsTrue (is_routing e.routing) × IsText 17 e.account × IsInRange 0 most_entry_cents e.cents × (entry_cents_of e.prenote e.cents ≡ Some e.cents)
    × IsTrue (is_short_text 15 e.id) × IsText 22 e.name × FitsIfAny (IsText 80) e.info

abbrev pub NumberedEntryFits : NumberedEntry → Type 0
NumberedEntryFits e = IsEntryNumber e.index × EntryFits e.entry

abbrev pub EntryAmountFits : EntryAmount → Type 0
EntryAmountFits a = IsEntryNumber a.index × IsInRange 0 most_entry_cents a.cents

abbrev pub PlacedEntryFits : PlacedEntry → Type 0
PlacedEntryFits e = IsTrue (is_id e.company) × (1 ≤ e.order) × IsEntryNumber e.index × EntryFits e.entry

abbrev pub EntryPlaceFits : EntryPlace → Type 0
EntryPlaceFits e = IsTrue (is_id e.company) × (1 ≤ e.order)

abbrev pub EntryReturnFits : EntryReturn → Type 0
EntryReturnFits r = IsEntryNumber r.index × IsCode r.code × IsStoredDay r.day

abbrev pub ReturnLineFits : ReturnLine → Type 0
ReturnLineFits r = (1 ≤ r.order) × EntryReturnFits r.back × IsRecordText 44 r.info

abbrev pub ChangeLineFits : ChangeLine → Type 0
ChangeLineFits c = (1 ≤ c.order) × IsEntryNumber c.index × IsRecordText 3 c.code × IsStoredDay c.day × IsRecordText 29 c.text

abbrev pub PostingLineFits : PostingLine → Type 0
PostingLineFits p = IsStoredDay p.value_day × FitsIfAny (λ s. IsTrue (is_reference s)) p.reference × IsInRange 0 1000 p.idx

abbrev pub SuspenseFits : SuspenseRow → Type 0
SuspenseFits s = IsRecordText 21 s.file × (1 ≤ s.item) × IsRecordText 3 s.code × IsRecordText 15 s.trace × IsInRange 0 most_cents s.cents × IsStoredDay s.day

abbrev pub TakenFits : TakenFile → Type 0
TakenFits t = IsRecordText 21 t.key × (length t.digest ≡ 32) × IsStoredDay t.answer.day

abbrev pub NumberFits : NumberRecord → Type 0
NumberFits n = IsInRange 1 most_sequence n.sequence × (1 ≤ n.place)

abbrev pub DaySumFits : DaySum → Type 0
DaySumFits s = IsStoredDay s.day × (fits_i128 s.cents ≡ true)
