use Rattle.sql_files.proofs.checked.with_new_desk.Goals as goal

pub returns-in-Err-clause-unmade : goal.returns-in-Err-clause-unmade
returns-in-Err-clause-unmade g c = record {
  tells = c.in-Err.ensures.otherwise;
  exists = (λ is. c.make_desk.ensures.exists.0 cc, λ named. let told = c.make_desk.ensures.exists.1 named in cc);
  untouched = λ is. c.make_desk.ensures.untouched cc;
  stays = c.in-Err.ensures.unmade;
  survives = c.make_desk.ensures.survives;
}
