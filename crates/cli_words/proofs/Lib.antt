pub mod CommandLineLemmas
pub mod CommandLineVectors
pub mod HelpLemmas
pub mod NumberLemmas
pub mod ServeLemmas
