use Rattle.std.proofs.Common.{◌≡◌, ◌==◌, take, true}
use Rattle.std.specs.List.{list_all}
use Rattle.dashmap_table.specs.Shards.{key_hash}
use Rattle.dashmap_record.specs.History.Entries.{key_of}
use Rattle.dashmap_record.proofs.history.matching.are_hashed.Given as goal

abbrev pub invariant-loop-history : goal.invariant-loop-history
invariant-loop-history g l =
    list_all (λ history. list_all
    (λ e. e.hash == key_hash g.S.BuildHasher g.S.Hasher.Hasher g.K.Hash.hash_input l.hasher (key_of e.call))
    history.items) (take l.history-index l.histories) ≡ true
