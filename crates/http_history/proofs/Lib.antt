-- The lemmas, by the law that they serve:
--   one_meaning                 Meanings
--   none_unavailable            Success, Answered
--   calls_are_history           Calls
--   same_part                   Success, Asking, Parts
--   own_text, two_worlds        Replies, Worlds
--   calls_alone, served_alone   PartAlone, Alone
--   first_calls                 Firsts
--   companies_rows              Replies, CompanyRows
pub mod Meanings
pub mod Calls
pub mod Success
pub mod Answered
pub mod Asking
pub mod Parts
pub mod Replies
pub mod Worlds
pub mod PartAlone
pub mod Alone
pub mod Firsts
pub mod CompanyRows
