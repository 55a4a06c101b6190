use Rattle.std.proofs.Common.{◌≡◌, ◌∙◌, [], Some, None, ap, refl, inr}
use Rattle.std.proofs.lemmas.Result.{err_from_is_err_and}
use Rattle.ach_files.specs.FirstFault.{early_fault, end_fault}
use Rattle.ach_files.specs.Layout.{layout}
use Rattle.ach_files.specs.declared.fault.Fault.{Fault}
use Rattle.ach_files.proofs.OutOfMemory.{end_never, runs_out_of_less}
use Rattle.ach_files.proofs.Firsts.{tells_first}
use Rattle.ach_files.proofs.incoming.Incoming.read.Goals as goal

pub returns-in_err-feed-clause-read : goal.returns-in_err-feed-clause-read
returns-in_err-feed-clause-read c =
    let p = err_from_is_err_and c.from_residual.result c.from_residual.ensures.1 in
    rw (p.1, p.2) (tells_first _ (early_fault c.args.bytes.now) (end_fault (layout c.args.bytes.now)) (c.in_err-feed.ensures.read _ c.new-reader.ensures).0)

pub returns-in_err-taken-clause-read : goal.returns-in_err-taken-clause-read
returns-in_err-taken-clause-read c =
    let p = err_from_is_err_and c.from_residual-in_err-taken.result c.from_residual-in_err-taken.ensures.1 in
    let fed = c.in_ok-feed.ensures.read _ c.new-reader.ensures in
    rw (p.1, p.2) (inr (c.in_err-taken.ensures.read _ fed.1))

pub returns-clause-read : goal.returns-clause-read
returns-clause-read c =
    let fed = c.in_ok-feed.ensures.read _ c.new-reader.ensures in
    (refl, c.in_ok-taken.ensures.read _ fed.1)

pub returns-in_err-feed-clause-memory : goal.returns-in_err-feed-clause-memory
returns-in_err-feed-clause-memory c =
    let p = err_from_is_err_and c.from_residual.result c.from_residual.ensures.1 in
    rw (p.1, p.2) (λ e. runs_out_of_less _ [] c.args.bytes.now (c.in_err-feed.ensures.memory [] c.new-reader.ensures e))

pub returns-in_err-taken-clause-memory : goal.returns-in_err-taken-clause-memory
returns-in_err-taken-clause-memory c =
    let p = err_from_is_err_and c.from_residual-in_err-taken.result c.from_residual-in_err-taken.ensures.1 in
    let fed = c.in_ok-feed.ensures.read _ c.new-reader.ensures in
    let told = c.in_err-taken.ensures.read _ fed.1 in
    let none : early_fault c.args.bytes.now ≡ None = fed.0 in
    rw (p.1, p.2) (λ e. absurd (end_never (layout c.args.bytes.now) (rw none at told ∙ ap (λ (f : Fault). Some f) e)))
