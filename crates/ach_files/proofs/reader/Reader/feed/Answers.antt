use Rattle.std.proofs.Common.{◌++◌, [], ap}
use Rattle.std.proofs.lemmas.List.{nil_from_length, append-nil}
use Rattle.std.proofs.lemmas.Bool.{eqb-true}
use Rattle.std.proofs.Common.{◌≡◌, ◌∙◌, sym, refl, subst}
use Rattle.ach_files.specs.declared.recogniser.Recogniser.{Recogniser}
use Rattle.ach_files.specs.Has.{HasBytes}
use Rattle.ach_files.proofs.Outcome.{same_state}
use Rattle.ach_files.proofs.reader.Reader.feed.Goals as goal

pub returns-clause-read : goal.returns-clause-read
returns-clause-read c = λ bytes read.
    let e = same_state c.in-Some.recogniser read.recogniser c.args.self.now.state c.in-Some.ensures.value read.state in
    let k = c.in_ok-take_all.ensures.read bytes (subst (λ (r : Recogniser). HasBytes r bytes) (sym e) read.has) in
    (k.fine, record { recogniser = c.take_all.new.self; state = refl; has = k })

pub returns-then-is_empty-clause-read : goal.returns-then-is_empty-clause-read
returns-then-is_empty-clause-read c = λ bytes read.
    let none : c.args.piece.now ≡ [] = nil_from_length c.args.piece.now (eqb-true _ _ (sym c.is_empty.ensures ∙ c.if-is_empty.true)) in
    let same : bytes ++ c.args.piece.now ≡ bytes = ap (λ p. bytes ++ p) none ∙ append-nil bytes in
    rw same (read.has.fine, record { recogniser = read.recogniser; state = read.state; has = read.has })
