use Rattle.std.proofs.Common.{◌≡◌, Bor, List, ℕ, ◌∙◌, ◌++◌, ◌∷◌, [], length, sym, ap, refl, inl, inr, true, Some, rules}
use Rattle.std.proofs.lemmas.List.{nil_from_length}
use Rattle.csv.specs.Reading.{Reached, default_config, strip_bom, with_flexible}
use Rattle.csv.specs.Records.{fields_of}
use Rattle.csv.specs.declared.parser.State.TheVariants as st
use Rattle.csv.proofs.ReadFacts.{rows-end, rows-more}
use Rattle.bank_days.proofs.HolidayRows.{taken_none}
use Rattle.bank_days.proofs.TextRows.{no_rows, record_more, record_fault, records_taken}
use Rattle.bank_days.proofs.calendar.Calendar.read.Goals as goal
use Rattle.bank_days.proofs.calendar.Calendar.read.Goals.{In-Ok}

pub loop-row-init : goal.loop-row-init
unfolding Reached
loop-row-init c =
    let fr = c.from_reader-reader.ensures in
    let headers = c.has_headers.ensures in
    let flexible = c.flexible.ensures ∙ ap (λ b. with_flexible b true) headers in
    let start = c.into_iter-row-iterator.ensures.into_iter_gives in
    let rdr = c.into_byte_records-row-items.ensures.rdr in
    let left = c.into_byte_records-row-items.ensures.left in
    rw (start, rdr, c.new-days.ensures.items) (record {
      untrimmed = rw flexible at fr.trim ∙ c.new.ensures.trim;
      ready = inr (inr (rw flexible at fr.has_headers, fr.headers));
      left = left;
      config = rw flexible at fr.config ∙ c.new.ensures.config;
      rest = strip_bom c.args.text.now;
      source = fr.source;
      done = [];
      reached = (sym fr.state, refl);
      taken = taken_none;
      valid = search rules;
      within = search rules;
    })

pub returns-in-Err-clause-value : goal.returns-in-Err-clause-value
returns-in-Err-clause-value c =
    let inv = c.loop-row.invariant in
    let s = rw (c.in-Some.is, c.in-Ok.is) at ((c.next.ensures.steps inv.left inv.untrimmed).0 inv.ready) in
    let m = rows-more (λ (s : Bor (List ℕ)). Some s.now) c.loop-row.row-iterator.rdr c.next.new.self.rdr (fields_of c.in-Ok.row) default_config st.StartRecord (strip_bom c.args.text.now) inv.rest inv.done inv.config inv.source inv.reached s.0 in
    elim c.in-Err.ensures.err [
      | inl memory ↦ inl memory
      | inr fault ↦ inr (record_fault c.args.text.now inv.done (fields_of c.in-Ok.row) c.next.new.self.rdr.state m.0 c.loop-row.days.items c.in-Err.fault m.2 inv.taken (rw c.day_of_row.ensures.value at fault))
    ]

pub loop-row-preserved : goal.loop-row-preserved
loop-row-preserved c =
    let inv = c.loop-row.invariant in
    let s = rw (c.in-Some.is, c.in-Ok.is) at ((c.next.ensures.steps inv.left inv.untrimmed).0 inv.ready) in
    let m = rows-more (λ (s : Bor (List ℕ)). Some s.now) c.loop-row.row-iterator.rdr c.next.new.self.rdr (fields_of c.in-Ok.row) default_config st.StartRecord (strip_bom c.args.text.now) inv.rest inv.done inv.config inv.source inv.reached s.0 in
    let one = record_more inv.done (fields_of c.in-Ok.row) c.loop-row.days.items c.push_row.new.days.items inv.taken inv.within
    (rw c.day_of_row.ensures.value at c.day_of_row.ensures.within) (rw c.day_of_row.ensures.value at c.in-Ok-push_row.ensures.ok) (rw c.day_of_row.ensures.value at c.in-Ok-push_row.ensures.fits) in
    record {
      untrimmed = s.0.3 ∙ inv.untrimmed;
      ready = inl s.1;
      left = s.2;
      config = s.0.2 ∙ inv.config;
      rest = m.0;
      source = m.1;
      done = inv.done ++ fields_of c.in-Ok.row ∷ [];
      reached = m.2;
      taken = one.0;
      valid = c.in-Ok-push_row.ensures.valid;
      within = one.1;
    }

pub returns-clause-value : goal.returns-clause-value
returns-clause-value c =
    let inv = c.loop-row.invariant in
    let s = rw c.in-None.is at ((c.next.ensures.steps inv.left inv.untrimmed).0 inv.ready) in
    let end = rows-end (λ (s : Bor (List ℕ)). Some s.now) c.loop-row.row-iterator.rdr c.next.new.self.rdr [] default_config inv.rest inv.config inv.source s in
    records_taken c.args.text.now inv.done c.loop-row.row-iterator.rdr.state inv.rest c.loop-row.days.items inv.reached end inv.taken

pub returns-then-is_empty-clause-value : goal.returns-then-is_empty-clause-value
returns-then-is_empty-clause-value c =
    let long : length c.args.text.now ≡ 0 = search rules in
    let none : c.args.text.now ≡ [] = nil_from_length c.args.text.now long in
    rw (none, c.empty.ensures) no_rows
