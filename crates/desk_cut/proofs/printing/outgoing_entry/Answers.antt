use Rattle.std.proofs.Common.{◌≤◌, ap, ◌∙◌, arith}
use Rattle.ach_fields.specs.Text.{is_short_text}
use Rattle.ach_files.specs.declared.outgoing.OutgoingEntry.{OutgoingEntry}
use Rattle.desk_rules.specs.Fields.{most_entry_cents}
use Rattle.desk_cut.proofs.Prints.{entry_prints}
use Rattle.desk_cut.proofs.printing.outgoing_entry.Goals as goal

pub returns-clause-fits : goal.returns-clause-fits
returns-clause-fits c =
    let value = c.as_cents.ensures.value in
    let within = c.as_cents.ensures.within in
    let cents : c.as_cents.result ≤ most_entry_cents = omega (arith, value, within) in
    let entry : OutgoingEntry = record {
      transaction = c.transaction_of.result;
      dfi = c.dfi.result;
      check_digit = c.check_digit.result;
      account = c.bytes.result;
      cents = c.as_cents.result;
      identification = c.bytes-2.result;
      name = c.bytes-3.result;
      trace = c.args.trace;
      addenda = c.payment.result;
    } in
    entry_prints entry (record {
      transaction = c.transaction_of.ensures.within;
      dfi = c.dfi.ensures.within;
      check_digit = c.check_digit.ensures.within;
      account = ap (is_short_text 17) c.bytes.ensures.value ∙ c.bytes.ensures.valid;
      cents = cents;
      identification = ap (is_short_text 15) c.bytes-2.ensures.value ∙ c.bytes-2.ensures.valid;
      name = ap (is_short_text 22) c.bytes-3.ensures.value ∙ c.bytes-3.ensures.valid;
      trace = c.text-digits.ensures.valid;
      addenda = c.payment.ensures.fits c.args.trace c.requires;
    })
