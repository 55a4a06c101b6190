use Rattle.std.proofs.Common.{◌≡◌, ◌<◌, ◌+◌, ◌-◌, ◌++◌, ◌∷◌, [], ◌∙◌, ℕ, Bool, true, List, get_or, map, drop, length, ap, sym, refl, arith}
use Rattle.std.specs.List.{enumerate_from, list_all}
use Rattle.std.proofs.lemmas.Bool.{and_from}
use Rattle.std.proofs.lemmas.List.{drop_more}
use Rattle.std.proofs.lemmas.List.Folds.{list_all-append}
use Rattle.ach_fields.specs.Routing.{dfi_of}
use Rattle.ach_fields.specs.Trace.{trace_text}
use Rattle.ach_files.specs.declared.outgoing.OutgoingEntry.{OutgoingEntry}
use Rattle.ach_files.specs.Outgoing.{entry_fits}
use Rattle.desk_rules.specs.declared.bodies.submission.Entry.{Entry}
use Rattle.desk_history.specs.Files.{outgoing_entry}
use Rattle.desk_history.specs.Sendings.{NumberedBatch, sent_entry}
use Rattle.desk_cut.specs.Plain.{plain_entry}
use Rattle.desk_cut.specs.Sent.{batch_in, outgoing_as}
use Rattle.desk_cut.proofs.Plain.{pushed}
use Rattle.desk_cut.proofs.printing.outgoing_entries.Goals as goal

-- the entries that are left
abbrev left : List ℕ → NumberedBatch → ℕ → List Entry → List OutgoingEntry
left odfi b i es = map (outgoing_entry odfi) (map (λ x. sent_entry b x.0 x.1) (enumerate_from (i + 1) es))

-- one entry more
entry_more : (odfi : List ℕ) (b : NumberedBatch) (i : ℕ) (es : List Entry) (out : List OutgoingEntry) (o : OutgoingEntry) (e : Entry) (trace : List ℕ)
    → i < length es → e ≡ get_or es i e → trace ≡ trace_text (dfi_of odfi) (b.first + i) → plain_entry o ≡ outgoing_as b trace e
    → map plain_entry (out ++ o ∷ []) ++ left odfi b (i + 1) (drop (i + 1) es) ≡ map plain_entry out ++ left odfi b i (drop i es)
entry_more odfi b i es out o e trace more is traced same =
    let before : i ≡ i + 1 - 1 = omega arith in
    let numbered : trace ≡ trace_text (dfi_of odfi) (b.first + (i + 1 - 1)) = traced ∙ ap (λ (k : ℕ). trace_text (dfi_of odfi) (b.first + k)) before in
    let next : drop i es ≡ e ∷ drop (i + 1) es = drop_more es i e more ∙ ap (λ (x : Entry). x ∷ drop (i + 1) es) (sym is) in
    pushed plain_entry out o (outgoing_entry odfi (sent_entry b (i + 1) e)) (left odfi b (i + 1) (drop (i + 1) es)) (same ∙ ap (λ (t : List ℕ). outgoing_as b t e) numbered)
    ∙ ap (λ (l : List Entry). map plain_entry out ++ left odfi b i l) (sym next)

all_more : {X : Type 0} (p : X → Bool) (xs : List X) (x : X) → list_all p xs ≡ true → p x ≡ true → list_all p (xs ++ x ∷ []) ≡ true
all_more p xs x h k = list_all-append p xs (x ∷ []) ∙ and_from _ _ h (and_from _ _ k refl)

pub loop-index-preserved : goal.loop-index-preserved
loop-index-preserved c =
    let b : NumberedBatch = batch_in c.args.batch.now in
    let es : List Entry = c.as_slice-entries.result.now in
    let i : ℕ = c.loop-index.index in
    record {
      value = ap (λ (out : List OutgoingEntry). map plain_entry out ++ left c.args.odfi b (i + 1) (drop (i + 1) es)) c.in_ok-extend_from_slice.ensures.items
          ∙ entry_more c.args.odfi b i es c.loop-index.outgoing.items c.outgoing_entry.result c.index-entries-index.result c.trace_of-trace.result
          c.loop-index-test.true c.index-entries-index.is c.trace_of-trace.ensures.value c.outgoing_entry.ensures.value
          ∙ c.loop-index.invariant.value;
      fits = ap (list_all entry_fits) c.in_ok-extend_from_slice.ensures.items
          ∙ all_more entry_fits c.loop-index.outgoing.items c.outgoing_entry.result c.loop-index.invariant.fits c.outgoing_entry.ensures.fits;
    }
