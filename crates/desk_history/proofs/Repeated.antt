-- The law `first_answer_stands`: what was accepted once is known ever after.
pub mod TakenFiles
pub mod KnownRequests
pub mod KnownFiles
pub mod FirstAnswers
