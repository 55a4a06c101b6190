mod BodyShape
mod DraftsOfBodies
mod ListEntries
mod ListRows
mod MessageLemmas
mod RowTexts
