-- Equal parts.
use Rattle.std.proofs.Common.{ap, sym, ◌∙◌, map}
use Rattle.desk_history.specs.PartCompany.{company, DigestOfPart, CompanyOfPart}
use Rattle.desk_history.specs.PostingLaws.{posting_of, CompanyLines}
use Rattle.desk_history.specs.Reports.{returns, changes, lines}
use Rattle.desk_book.specs.Book.{rows}
use Rattle.desk_book.specs.RowLaws.{RowsOfPart}

pub rows_of_part : CompanyOfPart → DigestOfPart → CompanyLines → RowsOfPart
rows_of_part companies digests posted = record {
  rows = λ here there key other_key H G c same. record { rows = ap rows same; returns = ap returns same; changes = ap changes same };
  account = λ here there key other_key H G c is other_is same. record {
    company = companies here H c is ∙ ap (company c) same ∙ sym (companies there G c other_is);
    lines = posted here H c is ∙ ap (λ P. map (posting_of c) (lines P)) same ∙ sym (posted there G c other_is);
  };
  key = λ identity key H c is. digests identity H c is;
}
