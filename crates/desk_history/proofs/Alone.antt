-- The law `served_alone`: a company is answered as by a desk that serves no one else.
pub mod LoneCompany
pub mod LoneCuts
pub mod Lone
pub mod LoneMessages
pub mod CutAlone
pub mod LoneItems
pub mod FilesAlone
pub mod ServedAlone
