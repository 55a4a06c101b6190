pub mod Calendar
pub mod Date
pub mod Day
pub mod FaultNumbers
pub mod HolidayList
pub mod Laws
pub mod OnLiterals
