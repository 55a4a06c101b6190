use Rattle.sql_store.proofs.store.SqlStore.adopt_or_give_back.Goals as goal

pub returns-in-Err-clause-refused : goal.returns-in-Err-clause-refused
returns-in-Err-clause-refused g c = record {
  refused = c.in-Err.ensures.refused;
  absent = λ free none. let told = c.check_desk.ensures.absent free none in cc;
  stays = c.check_desk.ensures.stays;
  survives = c.check_desk.ensures.survives;
}
