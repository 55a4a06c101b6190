use Rattle.faulty_store.proofs.store.FaultyStoreStore.commit_cut.Goals as goal

pub returns-clause-takes : goal.returns-clause-takes
returns-clause-takes c =
    let took = rw c.in_ok-count_call.ensures.counted at c.commit_cut.ensures in
    record { before = λ clean. clean; write = took.write; left = took.left }
