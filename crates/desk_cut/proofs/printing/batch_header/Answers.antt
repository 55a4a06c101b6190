use Rattle.std.proofs.Common.{◌≡◌, ◌<◌, ap, ◌∙◌, refl, true, arith}
use Rattle.std.specs.Prelude.{None}
use Rattle.ach_fields.specs.Names.{is_id}
use Rattle.ach_fields.specs.Text.{is_short_text}
use Rattle.ach_records.specs.declared.print.BatchHeaderText.{BatchHeaderText}
use Rattle.ach_records.specs.Print.{Words, value_fits}
use Rattle.desk_rules.specs.Fields.{sec_text}
use Rattle.desk_rules.specs.declared.bodies.submission.SecCode.{SecCode}
use Rattle.desk_rules.specs.declared.bodies.submission.SecCode.TheVariants as secs
use Rattle.desk_cut.proofs.Prints.{batch_header_prints}
use Rattle.desk_cut.proofs.printing.batch_header.Goals as goal
use Rattle.desk_cut.proofs.printing.batch_header.Goals.{then-is_debit, else-is_debit}

sec_fits : (sec : SecCode) → value_fits (Words 3 (sec_text sec)) ≡ true
sec_fits secs.Ppd = refl
sec_fits secs.Ccd = refl

pub returns-clause-fits : goal.returns-clause-fits
returns-clause-fits c =
    let class : c.if-is_debit.result < 1000 = elim c.if-is_debit.branch [ then-is_debit w ↦ let is = w.result-is in omega (arith, is) | else-is_debit w ↦ let is = w.result-is in omega (arith, is) ] in
    let header : BatchHeaderText = record {
      service_class = c.if-is_debit.result;
      company_name = c.bytes.result;
      company = c.bytes-2.result;
      sec = record { ref_ptr = c.text.result.ref_ptr; now = c.text.result.now };
      description = c.bytes-3.result;
      effective = c.date_of.result;
      settlement = None;
      odfi = c.dfi.result;
      number = c.args.number;
    } in
    batch_header_prints header (record {
      service_class = class;
      company_name = ap (is_short_text 16) c.bytes.ensures.value ∙ c.bytes.ensures.valid;
      company = ap is_id c.bytes-2.ensures.value ∙ c.bytes-2.ensures.valid;
      sec = ap (λ text. value_fits (Words 3 text)) c.text.ensures ∙ sec_fits c.submission-content.result.now.sec;
      description = ap (is_short_text 10) c.bytes-3.ensures.value ∙ c.bytes-3.ensures.valid;
      effective = c.date_of.ensures.valid;
      odfi = c.dfi.ensures.within;
      number = c.requires;
    }) refl
