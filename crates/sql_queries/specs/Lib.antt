pub mod Asking
pub mod ByNumber
pub mod RowsRead
pub mod Suspense
pub mod Waiting
