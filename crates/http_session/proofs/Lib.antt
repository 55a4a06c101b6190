pub mod FaultLemmas
pub mod Following
pub mod ServedOn
pub mod TurnLemmas
