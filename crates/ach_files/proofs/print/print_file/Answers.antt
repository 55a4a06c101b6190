use Rattle.std.proofs.Common.{◌≡◌, ◌∙◌, true, sym, ap, inl, inr, refl, List, ℕ, ◌++◌}
use Rattle.std.proofs.lemmas.Result.{err_from_is_err_and}
use Rattle.ach_files.specs.Outgoing.{fields_fit, outgoing_text}
use Rattle.ach_files.proofs.Fits.{fault_field}
use Rattle.ach_files.proofs.Printing.{fault_of_fields}
use Rattle.ach_files.proofs.Trip.{all_fit}
use Rattle.ach_files.proofs.print.print_file.Goals as goal

pub returns-then-not-fits : goal.returns-then-not-fits
returns-then-not-fits c = inr (fault_field c.args.outgoing.now (sym c.fits.ensures ∙ c.if-not-fits.true))

pub returns-in_err-control : goal.returns-in_err-control
returns-in_err-control c =
    let o = c.args.outgoing.now in
    let fields : fields_fit o ≡ true = sym c.fits.ensures ∙ c.if-not-fits.false in
    let p = err_from_is_err_and c.from_residual.result c.from_residual.ensures.1 in
    rw (p.1, p.2) (inr (fault_of_fields o fields ∙ c.in_err-control.ensures.err o c.min-batches.ensures c.measure-measures.ensures.long c.measure-measures.ensures.sums))

pub put_file-requires-clause-control : goal.put_file-requires-clause-control
put_file-requires-clause-control c = (c.in_ok-control.ensures.ok c.args.outgoing.now c.min-batches.ensures c.measure-measures.ensures.long c.measure-measures.ensures.sums).1

pub put_file-requires-clause-fit : goal.put_file-requires-clause-fit
put_file-requires-clause-fit c =
    let o = c.args.outgoing.now in
    let fields : fields_fit o ≡ true = sym c.fits.ensures ∙ c.if-not-fits.false in
    let control = c.in_ok-control.ensures.ok o c.min-batches.ensures c.measure-measures.ensures.long c.measure-measures.ensures.sums in
    all_fit o (fault_of_fields o fields ∙ control.0)

pub returns-in_default : goal.returns-in_default
returns-in_default c =
    let o = c.args.outgoing.now in
    let fields : fields_fit o ≡ true = sym c.fits.ensures ∙ c.if-not-fits.false in
    let control = c.in_ok-control.ensures.ok o c.min-batches.ensures c.measure-measures.ensures.long c.measure-measures.ensures.sums in
    inl (refl, fault_of_fields o fields ∙ control.0)

pub returns-in-Err : goal.returns-in-Err
returns-in-Err c =
    let o = c.args.outgoing.now in
    let fields : fields_fit o ≡ true = sym c.fits.ensures ∙ c.if-not-fits.false in
    let control = c.in_ok-control.ensures.ok o c.min-batches.ensures c.measure-measures.ensures.long c.measure-measures.ensures.sums in
    inl (refl, fault_of_fields o fields ∙ control.0)

pub returns-in-Ok-put_file : goal.returns-in-Ok-put_file
returns-in-Ok-put_file c =
    let o = c.args.outgoing.now in
    let fields : fields_fit o ≡ true = sym c.fits.ensures ∙ c.if-not-fits.false in
    let control = c.in_ok-control.ensures.ok o c.min-batches.ensures c.measure-measures.ensures.long c.measure-measures.ensures.sums in
    (fault_of_fields o fields ∙ control.0, c.in-Ok-put_file.ensures ∙ ap (λ (l : List ℕ). l ++ outgoing_text o) c.in-Ok.ensures.items)
