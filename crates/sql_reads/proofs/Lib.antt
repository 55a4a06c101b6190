pub mod HeldRows
pub mod SettledRuns
pub mod WholeRows
pub mod HeldSizes
