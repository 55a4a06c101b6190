use Rattle.std.proofs.Common.{◌≡◌, ◌<◌, length, take, get_or, true, ap, sym, arith}
use Rattle.std.specs.Prelude.{◌==◌}
use Rattle.std.proofs.lemmas.List.Sums.{position_or_len_is}
use Rattle.std.proofs.lemmas.Bool.Decides.{nat_tests}
use Rattle.http_message.proofs.message.path_of.Goals as goal
use Rattle.http_message.proofs.message.path_of.Goals.{then-loop-at-test+else-target-at-ne63, else-loop-at-test}

pub returns : goal.returns
returns c =
    let t = c.args.target.now in
    let i = c.loop-at.at in
    let found : i < length t → (get_or t i 0 == 63) ≡ true = elim c.loop-at-test.branch [
      | then-loop-at-test+else-target-at-ne63 w ↦ λ within. grind (arith, nat_tests)
      | else-loop-at-test w ↦ λ within. absurd (omega arith)
    ] in
    ap (λ n. take n t) (sym (position_or_len_is (λ b. b == 63) t i 0 c.loop-at.invariant.within c.loop-at.invariant.before found))
