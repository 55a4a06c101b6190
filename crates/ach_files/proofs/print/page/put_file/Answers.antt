use Rattle.std.proofs.Common.{◌≡◌, ◌∙◌, ◌+◌, ◌*◌, ◌++◌, ap, sym, List, ℕ, map, replicate, append_assoc}
use Rattle.ach_records.specs.declared.print.FileControlText.{FileControlText}
use Rattle.ach_records.specs.Print.{row_text}
use Rattle.ach_files.specs.Structure.{nines}
use Rattle.ach_files.specs.Outgoing.{page, outgoing_rows, filler_count, main_count}
use Rattle.ach_files.proofs.Pages.{page_append}
use Rattle.ach_files.proofs.Printing.{main_count_by_control}
use Rattle.ach_files.proofs.print.page.put_file.Goals as goal

pub returns : goal.returns
returns c =
    let o = c.args.outgoing.now in
    let start = c.args.out.now.items in
    let texts = map row_text (outgoing_rows o) in
    let n = c.fillers_of.result in
    let count : n ≡ filler_count (main_count o) =
    c.fillers_of.ensures ∙ ap (λ (t : FileControlText). filler_count (2 + 2 * t.batches + t.count)) c.requires.control ∙ ap filler_count (main_count_by_control o) in
    c.in_ok-put_fillers.ensures ∙ ap (λ (l : List ℕ). l ++ page (replicate n nines)) c.in_ok-put_rows.ensures
    ∙ append_assoc start (page texts) (page (replicate n nines))
    ∙ ap (λ (l : List ℕ). start ++ l) (sym (page_append texts (replicate n nines)) ∙ ap (λ k. page (texts ++ replicate k nines)) count)
