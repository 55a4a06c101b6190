-- The lemmas, by what is written:
--   submissions               EntryInserts, SubmissionRows
--   many rows at once         ArrayLoops, ManyEdits, ManyFree, ManyKeys, Puts
--   days, companies, limits   Companies, Days, Holidays
--   lines and balances        BalanceLists, BalanceUpserts, JoinedLines, LineSums, PendingSums, PostingInserts
--   cuts                      EntryRuns, FileInserts, KeyTests, NumberRanges, PlacedEntries, RangePuts, RunUpdates,
--                             RunsMade, SubmissionUpdates, Sums
--   incoming files            ChangeInserts, ReturnInserts, SuspenseInserts, TakenInserts
-- of these stand.
mod ArrayLoops
mod BalanceLists
mod BalanceUpserts
mod ChangeInserts
mod Companies
pub mod Conditions
mod Days
mod EntryInserts
mod EntryRuns
mod FileInserts
mod Holidays
mod JoinedLines
mod KeyTests
mod Keys
mod LastNumbers
mod LineSums
mod ManyEdits
mod ManyFree
mod ManyKeys
mod NumberRanges
mod Numbered
pub mod NumberedRows
mod PendingSums
mod PlacedEntries
mod PostingInserts
pub mod Puts
mod RangePuts
mod ReturnInserts
mod RunLists
mod RunUpdates
mod RunsMade
mod SubmissionRows
mod SubmissionUpdates
mod Sums
mod SuspenseInserts
mod TakenInserts
