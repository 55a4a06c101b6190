pub mod NumberLemmas
pub mod FramingLemmas
pub mod StreamLemmas
pub mod LawLemmas
pub mod BlankLemmas
pub mod StartLemmas
pub mod UnreadLemmas
