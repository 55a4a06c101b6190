-- The answers of the definitions on worked cases, computed by the checker. Each file has the cases of one
-- concern, over what Samples has and with what OnLiterals unfolds.
mod Samples
mod OnLiterals
mod DayVectors
mod SubmissionVectors
mod RetryVectors
mod StatementVectors
mod CutVectors
mod ReturnVectors
mod HistoryVectors
mod NumberVectors
mod FileVectors
mod ManyFilesVectors
mod StatusVectors
mod TextVectors
