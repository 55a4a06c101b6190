pub mod Answering
pub mod OverStores
pub mod Taking
pub mod Verdicts
