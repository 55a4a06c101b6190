use Rattle.std.proofs.Common.{Bor, List, ℕ, ◌∙◌, ◌∷◌, [], sym, ap, refl, inl, inr, true, Some, map}
use Rattle.std.proofs.lemmas.List.{map-append}
use Rattle.csv.specs.Reading.{Reached, default_config, strip_bom, with_flexible}
use Rattle.csv.specs.Records.{fields_of}
use Rattle.csv.specs.declared.parser.State.TheVariants as st
use Rattle.csv.proofs.ReadFacts.{rows-end, rows-more}
use Rattle.cli_submit.proofs.ListRows.{all_rows}
use Rattle.cli_submit.proofs.rows.rows_in.Goals as goal

pub loop-row-init : goal.loop-row-init
unfolding Reached
loop-row-init c =
    let fr = c.from_reader-reader.ensures in
    let headers = c.has_headers.ensures in
    let flexible = c.flexible.ensures ∙ ap (λ b. with_flexible b true) headers in
    let start = c.into_iter-row-iterator.ensures.into_iter_gives in
    let rdr = c.into_byte_records-row-items.ensures.rdr in
    let left = c.into_byte_records-row-items.ensures.left in
    rw (start, rdr, c.new-rows.ensures.items) (record {
      untrimmed = rw flexible at fr.trim ∙ c.new.ensures.trim;
      ready = inr (inr (rw flexible at fr.has_headers, fr.headers));
      left = left;
      config = rw flexible at fr.config ∙ c.new.ensures.config;
      rest = strip_bom c.args.text.now;
      source = fr.source;
      reached = (sym fr.state, refl);
    })

pub loop-row-preserved : goal.loop-row-preserved
loop-row-preserved c =
    let inv = c.loop-row.invariant in
    let s = rw (c.in-Some.is, c.in-Ok.is) at ((c.next.ensures.steps inv.left inv.untrimmed).0 inv.ready) in
    let m = rows-more (λ (s : Bor (List ℕ)). Some s.now) c.loop-row.row-iterator.rdr c.next.new.self.rdr (fields_of c.in-Ok.row) default_config st.StartRecord (strip_bom c.args.text.now) inv.rest (map fields_of c.loop-row.rows.items) inv.config inv.source inv.reached s.0 in
    record {
      untrimmed = s.0.3 ∙ inv.untrimmed;
      ready = inl s.1;
      left = s.2;
      config = s.0.2 ∙ inv.config;
      rest = m.0;
      source = m.1;
      reached = rw (c.in_ok-push.ensures.items, map-append fields_of c.loop-row.rows.items (c.in-Ok.row ∷ [])) m.2;
    }

pub returns : goal.returns
returns c =
    let inv = c.loop-row.invariant in
    let s = rw c.in-None.is at ((c.next.ensures.steps inv.left inv.untrimmed).0 inv.ready) in
    let end = rows-end (λ (s : Bor (List ℕ)). Some s.now) c.loop-row.row-iterator.rdr c.next.new.self.rdr [] default_config inv.rest inv.config inv.source s in
    all_rows c.args.text.now (map fields_of c.loop-row.rows.items) c.loop-row.row-iterator.rdr.state inv.rest inv.reached end
