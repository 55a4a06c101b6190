-- The laws `company_lines`, `digest_of_part` and `company_of_part`: the postings of a company are the lines of its
-- statement, and its registration is in its part.
pub mod PartLimits
pub mod CutLines
pub mod ItemLines
pub mod CompanyLines
pub mod PartCompany
