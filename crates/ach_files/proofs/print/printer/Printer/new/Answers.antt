use Rattle.std.proofs.Common.{◌∙◌, ap, refl, sym, true, ℕ, List, [], ◌∷◌, ◌++◌}
use Rattle.std.proofs.lemmas.Bool.{and_from}
use Rattle.std.proofs.lemmas.List.{append-nil}
use Rattle.ach_records.specs.Print.{row_fits, row_text, file_header_row}
use Rattle.ach_files.specs.Outgoing.{file_sums, capped_sums}
use Rattle.ach_files.proofs.Printing.{header_text, record_fits}
use Rattle.ach_files.proofs.print.printer.Printer.new.Goals as goal

pub returns-clause-ok : goal.returns-clause-ok
unfolding file_sums capped_sums
returns-clause-ok c =
    let text = header_text c.file_header_record.result c.in-Some.record (file_header_row c.args.header.now) c.in-Some.is c.file_header_record.ensures in
    let fields = record_fits c.file_header_record.result c.in-Some.record (file_header_row c.args.header.now) c.in-Some.is c.file_header_record.ensures in
    record {
      fits = and_from (row_fits (file_header_row c.args.header.now)) true fields refl;
      text = c.in_ok-put.ensures.ok ∙ ap (λ (l : List ℕ). l ++ (c.in-Some.record ++ 10 ∷ [])) c.new-text.ensures.items
          ∙ ap (λ (l : List ℕ). l ++ 10 ∷ []) text ∙ sym (append-nil (row_text (file_header_row c.args.header.now) ++ 10 ∷ []));
      count = refl;
      sums = refl;
    }
