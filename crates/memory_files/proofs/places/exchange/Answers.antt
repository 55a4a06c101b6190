use Rattle.std.proofs.Common.{◌∙◌, ap, slice_set}
use Rattle.memory_files.proofs.Keeping.{files_of_place, set_is}
use Rattle.memory_files.proofs.places.exchange.Goals as goal

pub returns-clause-after : goal.returns-clause-after
returns-clause-after c =
    ap (λ files. slice_set c.args.places.now.items c.args.at (record c.index_mut.result.now { files = files })) c.replace.ensures.after ∙ set_is c.args.places.now.items c.args.at c.index_mut.result.now c.args.files c.index_mut.ensures.value

pub returns-clause-before : goal.returns-clause-before
returns-clause-before c = λ path here.
    c.replace.ensures.value ∙ files_of_place c.args.places.now.items c.args.at c.index_mut.result.now path c.index_mut.ensures.value here
