use Rattle.std.proofs.Common.{◌∙◌, sym}
use Rattle.remembering_store.proofs.Registering.{count_set, updated}
use Rattle.remembering_store.proofs.counts.Counts.set.Goals as goal

pub returns-else-is_err : goal.returns-else-is_err
returns-else-is_err c = λ before after is others all.
    let a = c.args in
    let m = a.self.now.counts in
    let n = c.insert.new.self in
    count_set a.company a.count m n before after (updated a.company a.count m n c.insert.result (sym c.is_err.ensures.value ∙ c.if-is_err.false) c.insert.ensures.updates).0 is others all
