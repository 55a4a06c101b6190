use Rattle.std.proofs.Common.{◌∙◌, ◌++◌, ◌∷◌, [], ap, sym, List, ℕ, replicate, append_assoc}
use Rattle.ach_files.specs.Structure.{nines}
use Rattle.ach_files.specs.Outgoing.{page}
use Rattle.ach_files.proofs.Pages.{page_fillers}
use Rattle.ach_files.proofs.print.page.put_fillers.Goals as goal

pub loop-preserved : goal.loop-preserved
unfolding nines
loop-preserved c =
    let n = c.loop.counter in
    let start = c.args.out.now.items in
    c.in_ok-put.ensures.ok ∙ ap (λ (l : List ℕ). l ++ (nines ++ 10 ∷ [])) c.loop.invariant ∙ append_assoc start (page (replicate n nines)) (nines ++ 10 ∷ []) ∙ ap (λ (l : List ℕ). start ++ l) (sym (page_fillers nines n))
