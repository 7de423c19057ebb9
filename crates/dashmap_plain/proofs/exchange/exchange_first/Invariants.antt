use Rattle.std.proofs.Common.{◌≡◌, ◌≤◌, length}
use Rattle.std.specs.Prelude.{vec_len, vec_capacity}
use Rattle.dashmap_plain.specs.Exchanged.{Exchanged}
use Rattle.dashmap_plain.proofs.exchange.exchange_first.Given as goal

-- the plain shards before this one changed places with those behind their locks
abbrev pub invariant-loop-number : goal.invariant-loop-number
invariant-loop-number g l = (l.locks.items ≡ l.initial.locks.items)
    × (length l.plain.items ≡ length l.initial.plain.items)
    × (vec_len l.plain ≡ vec_len l.initial.plain)
    × (vec_capacity l.plain ≡ vec_capacity l.initial.plain)
    × (l.spare ≡ l.fn.spare)
    × (l.number ≤ length l.initial.plain.items)
    × Exchanged g.Q.OwnerEvidence.taken g.Q.OwnerEvidence.put l.number l.initial.locks.items l.initial.plain.items
    l.plain.items
