use Rattle.faulty_store.proofs.store.FaultyStoreStore.commit_intake.Goals as goal

pub returns-clause-takes : goal.returns-clause-takes
returns-clause-takes c =
    let took = rw c.in_ok-count_call.ensures.counted at c.commit_intake.ensures in
    record { before = λ clean. clean; write = took.write; left = took.left }
