use Rattle.std.proofs.Common.{◌∙◌}
use Rattle.remembering_store.proofs.registry.Registry.company.Goals as goal

pub returns : goal.returns
returns c = λ companies all. c.copied.ensures ∙ c.get.ensures.value ∙ all (record { company = c.args.id })
