use Rattle.std.proofs.Common.{subst, sym}
use Rattle.ach_files.specs.declared.recogniser.Recogniser.{Recogniser}
use Rattle.ach_files.specs.Layout.{layout}
use Rattle.ach_files.specs.Has.{HasBytes}
use Rattle.ach_files.proofs.Outcome.{finished, same_state}
use Rattle.ach_files.proofs.reader.Reader.finish.Goals as goal

pub returns-clause-read : goal.returns-clause-read
returns-clause-read c = λ bytes read.
    let e = same_state c.in-Some.recogniser read.recogniser c.args.self.now.state c.in-Some.ensures.value read.state in
    let has : HasBytes c.in-Some.recogniser bytes = subst (λ (r : Recogniser). HasBytes r bytes) (sym e) read.has in
    finished c.end.result bytes has.fine (c.end.ensures (layout bytes) has.has.layout)
