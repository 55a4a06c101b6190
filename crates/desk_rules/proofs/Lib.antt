pub mod EntriesLemmas
pub mod RefusalLemmas
pub mod SameLemmas
pub mod RatedFacts
