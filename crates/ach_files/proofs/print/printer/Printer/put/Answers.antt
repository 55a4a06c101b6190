use Rattle.std.proofs.Common.{◌≡◌, ◌∙◌, ◌+◌, ◌++◌, ◌∷◌, [], ℕ, take, None, ap, sym, refl, length, arith, inl, inr, length-append}
use Rattle.ach_records.specs.Print.{file_header_row}
use Rattle.ach_files.specs.Outgoing.{batch_fault, capped_sums, sums_in}
use Rattle.ach_files.proofs.Outgoings.{kept_lowered}
use Rattle.ach_files.proofs.Pages.{take_begins, when_ok, when_err}
use Rattle.ach_files.proofs.Printing.{fault_is, rows_of_batch_fit, fits_more, text_more, sums_more}
use Rattle.ach_files.proofs.print.printer.Printer.put.Goals as goal

pub returns-in-Some-clause-err : goal.returns-in-Some-clause-err
returns-in-Some-clause-err c =
    let m = c.measures_of-own in
    inr (sym (fault_is c.args.batch.now m.result m.ensures.fit m.ensures.long m.ensures.sums) ∙ sym c.fault_of.ensures ∙ c.in-Some.is)

pub put_batch-requires : goal.put_batch-requires
put_batch-requires c =
    let m = c.measures_of-own in
    rows_of_batch_fit c.args.batch.now (sym (fault_is c.args.batch.now m.result m.ensures.fit m.ensures.long m.ensures.sums) ∙ sym c.fault_of.ensures ∙ c.in_default.is)

pub returns-then-is_err-clause-err : goal.returns-then-is_err-clause-err
returns-then-is_err-clause-err c =
    let m = c.measures_of-own in
    inl (refl, sym (fault_is c.args.batch.now m.result m.ensures.fit m.ensures.long m.ensures.sums) ∙ sym c.fault_of.ensures ∙ c.in_default.is)

pub returns-then-is_err-clause-unchanged : goal.returns-then-is_err-clause-unchanged
returns-then-is_err-clause-unchanged c = λ header before h.
    let begins = when_err c.put_batch.result _ (sym c.is_err.ensures.value ∙ c.if-is_err.true) c.put_batch.ensures.err in
    let long : c.len-length.result ≡ length c.args.self.now.text.items = omega (arith, c.len-length.ensures, c.args.self.now.text.ok.0) in
    let items : c.truncate.new.self.items ≡ c.args.self.now.text.items =
    c.truncate.ensures.items ∙ ap (λ (n : ℕ). take n c.put_batch.new.out.items) long ∙ take_begins _ _ begins in
    record { fits = h.fits; text = items ∙ h.text; count = h.count; sums = h.sums }

pub returns-clause-fits : goal.returns-clause-fits
returns-clause-fits c =
    let m = c.measures_of-own in
    sym (fault_is c.args.batch.now m.result m.ensures.fit m.ensures.long m.ensures.sums) ∙ sym c.fault_of.ensures ∙ c.in_default.is

pub returns-clause-ok : goal.returns-clause-ok
returns-clause-ok c =
    let b = c.args.batch.now in
    let m = c.measures_of-own in
    let none : batch_fault b ≡ None = sym (fault_is b m.result m.ensures.fit m.ensures.long m.ensures.sums) ∙ sym c.fault_of.ensures ∙ c.in_default.is in
    λ header before h. record {
      fits = fits_more (file_header_row header) before b h.fits (rows_of_batch_fit b none);
      text = text_more (file_header_row header) before b _ _ h.text (when_ok c.put_batch.result _ (sym c.is_err.ensures.value ∙ c.if-is_err.false) c.put_batch.ensures.ok);
      count =
          let counted : length (before ++ b ∷ []) ≡ length before + 1 = length-append before (b ∷ []) in
          omega (arith, counted, h.count, c.saturating_add.ensures, c.min-self.ensures);
      sums = c.add_sums-self.ensures _ _ h.sums (c.measures_of-own.ensures.sums ∙ kept_lowered (sums_in b)) ∙ ap capped_sums (sym (sums_more before b));
    }
