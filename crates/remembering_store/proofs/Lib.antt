-- The lemmas, by what they are of:
--
-- - the store: Deciding, Unchanged
-- - companies and counts: Registering
-- - sums and rates, as the rules define them: ReadOff, Rates, Changed, Weights
-- - the sums of a company, as they are read and follow each write: FirstRead, Loading, Widening, Reading, Adding, Following, Returning
-- - the sums of all companies: Companies
-- - the sizes of held submissions: HeldSizes
-- - the numbers of submissions: Numbered, Books
pub mod ReadOff
pub mod Changed
pub mod Weights
pub mod Following
pub mod Reading
pub mod Returning
pub mod Companies
pub mod Adding
pub mod Numbered
pub mod Deciding
pub mod FirstRead
pub mod Loading
pub mod Widening
pub mod Books
pub mod Rates
pub mod Unchanged
pub mod Registering
pub mod HeldSizes
