use Rattle.std.proofs.Common.{◌∙◌, sym}
use Rattle.remembering_store.specs.HeldSizes.{AreKept}
use Rattle.remembering_store.proofs.Companies.{company_put}
use Rattle.remembering_store.proofs.Registering.{updated}
use Rattle.remembering_store.proofs.held.KnownHeld.put.Goals as goal

pub returns-else-is_err : goal.returns-else-is_err
returns-else-is_err c = λ b right is.
    let a = c.args in
    let m = a.self.now.companies in
    let n = c.insert.new.self in
    company_put AreKept a.company m n a.held b (updated a.company a.held m n c.insert.result (sym c.is_err.ensures.value ∙ c.if-is_err.false) c.insert.ensures.updates).0 is right
