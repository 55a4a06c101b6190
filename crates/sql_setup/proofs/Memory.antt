-- A store in memory has no disk that could fail.
use Rattle.std.proofs.Common.{refl}
use Rattle.sqlite.specs.Held.{Held, state}
use Rattle.sqlite.specs.State.{HasCleanDisk}
use Rattle.sqlite.specs.Steps.{over_memory}
use Rattle.sqlite_trees.specs.View.{doubt}
use Rattle.sqlite_trees.specs.declared.memory.MemStore.{MemStore}

pub memory_is_clean : (h : Held MemStore) → HasCleanDisk (state over_memory h)
unfolding doubt
memory_is_clean h = refl
