use Rattle.std.proofs.Common.{◌∙◌, sym}
use Rattle.remembering_store.specs.KnownCompany.{AgreesWith}
use Rattle.remembering_store.proofs.Companies.{company_put}
use Rattle.remembering_store.proofs.Registering.{updated}
use Rattle.remembering_store.proofs.sums.KnownSums.remember.Goals as goal

pub returns-else-is_err : goal.returns-else-is_err
returns-else-is_err c = λ b right is.
    let a = c.args in
    let m = a.self.now.companies in
    let n = c.insert.new.self in
    let w = c.new.result in
    company_put AgreesWith a.company m n w b (updated a.company w m n c.insert.result (sym c.is_err.ensures.value ∙ c.if-is_err.false) c.insert.ensures.updates).0 (c.new.ensures (b.rows a.company) is) right
