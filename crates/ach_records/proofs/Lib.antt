pub mod Cuts
pub mod Digits
pub mod Printed
pub mod Records
pub mod Rows
pub mod Said
pub mod Texts
