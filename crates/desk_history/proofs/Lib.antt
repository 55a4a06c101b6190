-- The lemmas, by the law that needs them:
--
-- - `one_message`: OneMessage
-- - `two_worlds`: Equal
-- - `accepted_in_order`: Acceptance
-- - `sent_are_accepted`: Sent, SentEntries
-- - `possible_parts`: Sent, PartsPossible
-- - `accepted_cuts`: Traces, AcceptedCuts
-- - `traces_name`: Traces, NamedTraces
-- - `traces_of_cuts`: Traces, TracesOfCuts
-- - `files_of_status`: Traces, FilesOfDays
-- - `due_of_status`: Traces, NextCut
-- - `accounts_cancel`: Accounts
-- - `company_lines`: Lines
-- - `digest_of_part`: Lines, PartCompany
-- - `company_of_part`: Lines, PartCompany
-- - `companies_rows`: CompanyRows
-- - `served_alone`: Alone
-- - `first_answer_stands`: Repeated
-- - `authorizations_left_out`: Unauthorized
--
-- Basics has lemmas on lists and checks that several laws use.
pub mod Basics
mod OneMessage
pub mod CompanyRows
pub mod Equal
pub mod Acceptance
pub mod Sent
pub mod Traces
pub mod Accounts
pub mod Lines
pub mod Alone
pub mod Repeated
pub mod Unauthorized
