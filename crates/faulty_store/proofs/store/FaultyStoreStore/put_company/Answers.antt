use Rattle.faulty_store.proofs.store.FaultyStoreStore.put_company.Goals as goal

pub returns-clause-takes : goal.returns-clause-takes
returns-clause-takes c =
    let took = rw c.in_ok-count_call.ensures.counted at c.put_company.ensures in
    record { before = λ clean. clean; write = took.write; left = took.left }
