pub mod Counting
pub mod FileReading
pub mod Judging
pub mod Keys
pub mod Plans
pub mod Repeats
pub mod Taken
pub mod Traceless
