use Rattle.std.proofs.Common.{◌≡◌, ◌∙◌, ◌+◌, ◌*◌, ◌++◌, ◌∷◌, [], ap, sym, refl, inl, inr}
use Rattle.std.proofs.lemmas.Result.{err_from_is_err_and}
use Rattle.ach_records.specs.declared.print.FileControlText.{FileControlText}
use Rattle.ach_records.specs.Print.{row_text, file_control_row}
use Rattle.ach_files.specs.Outgoing.{file_control, filler_count}
use Rattle.ach_files.proofs.Printing.{finished, fit_by, fault_of_totals, main_count_by_control}
use Rattle.ach_files.proofs.print.printer.Printer.finish.Goals as goal

pub returns-clause-ok : goal.returns-clause-ok
returns-clause-ok c = λ o h.
    let fit = fit_by o.header o.batches.now h.fits in
    let control = c.in_ok-control.ensures.ok o h.count (sym fit.short) h.sums in
    let is : c.in_ok-control.control ≡ file_control o = control.1 in (
      fault_of_totals o fit ∙ control.0,
      finished o _ _ _ c.fillers_of.result h.text
          (c.in_ok-put_control.ensures ∙ ap (λ (t : FileControlText). c.args.self.text.items ++ (row_text (file_control_row t) ++ 10 ∷ [])) is)
          c.in_ok-put_fillers.ensures
          (c.fillers_of.ensures ∙ ap (λ (t : FileControlText). filler_count (2 + 2 * t.batches + t.count)) is ∙ ap filler_count (main_count_by_control o)),
    )

pub returns-in_err-control-clause-err : goal.returns-in_err-control-clause-err
returns-in_err-control-clause-err c = λ o h.
    let fit = fit_by o.header o.batches.now h.fits in
    let p = err_from_is_err_and c.from_residual.result c.from_residual.ensures.1 in
    rw (p.1, p.2) (inr (fault_of_totals o fit ∙ c.in_err-control.ensures.err o h.count (sym fit.short) h.sums))

pub returns-in_err-put_control-clause-err : goal.returns-in_err-put_control-clause-err
returns-in_err-put_control-clause-err c = λ o h.
    let fit = fit_by o.header o.batches.now h.fits in
    let p = err_from_is_err_and c.from_residual-in_err-put_control.result c.from_residual-in_err-put_control.ensures.1 in
    rw (p.1, p.2) (inl (refl, fault_of_totals o fit ∙ (c.in_ok-control.ensures.ok o h.count (sym fit.short) h.sums).0))

pub returns-in_err-put_fillers-clause-err : goal.returns-in_err-put_fillers-clause-err
returns-in_err-put_fillers-clause-err c = λ o h.
    let fit = fit_by o.header o.batches.now h.fits in
    let p = err_from_is_err_and c.from_residual-in_err-put_fillers.result c.from_residual-in_err-put_fillers.ensures.1 in
    rw (p.1, p.2) (inl (refl, fault_of_totals o fit ∙ (c.in_ok-control.ensures.ok o h.count (sym fit.short) h.sums).0))
