use Rattle.std.proofs.Common.{◌++◌, ◌∙◌, arith, ap, take}
use Rattle.std.proofs.lemmas.List.{length-take}
use Rattle.http_message.proofs.UnreadLemmas.{on_err, none_taken, more_filled, none_filled}
use Rattle.http_message.proofs.unread.Unread.fill.Goals as goal

pub returns-in_err-count-clause-err : goal.returns-in_err-count-clause-err
returns-in_err-count-clause-err g c =
    let moved = c.move_to_start-self-inside in
    on_err c.from_residual.result (
      none_filled moved.new.bytes _ moved.result _ (omega arith) (omega arith) ∙ moved.ensures.moved ∙ c.self.view_is,
      none_taken _ _ c.in_err-count.ensures.bytes,
    )

pub returns-clause-ok : goal.returns-clause-ok
returns-clause-ok g c =
    let moved = c.move_to_start-self-inside in
    record {
      taken = take c.in_ok-count.count c.read_with_retries.new.buf;
      takes = c.in_ok-count.ensures.bytes.0;
      grown = more_filled moved.new.bytes c.read_with_retries.new.buf _ moved.result c.in_ok-count.count _ (omega arith) c.in_ok-count.ensures.bound.0 (omega arith)
          ∙ ap (λ l. l ++ take c.in_ok-count.count c.read_with_retries.new.buf) (moved.ensures.moved ∙ c.self.view_is);
      size = simp length-take (omega (arith, c.in_ok-count.ensures.bound.0));
    }
