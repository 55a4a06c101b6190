use Rattle.std.proofs.Common.{◌∙◌, sym}
use Rattle.remembering_store.proofs.Registering.{company_put, inserted}
use Rattle.remembering_store.proofs.registry.Registry.add.Goals as goal

pub returns : goal.returns
returns c = λ added companies none all.
    let a = c.args in
    company_put a.company a.self.now.companies c.insert.new.self companies (inserted a.company.id a.company a.self.now.companies c.insert.new.self c.insert.result (sym c.is_ok.ensures.value ∙ added) c.insert.ensures.updates).0 none all
