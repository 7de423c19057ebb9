-- Owners and their weights.
use Rattle.std.proofs.Common.{◌≡◌, ℕ, zero, suc, ◌<◌, refl, arith}
use Rattle.parking_lot_rules.specs.Roles.{Shared, Exclusive, Upgradable, Owned, Shares, Excludes, Upgrades, Handed}
use Rattle.parking_lot_rules.specs.Roles.{FromExclusive, FromUpgradable, Phase, Taken1, Drains, Enters2, Checked2}
use Rattle.parking_lot_rules.specs.Roles.{Queued2, Taken2, Leaves2, Yields, Scans1}
use Rattle.parking_lot_rules.specs.Classes.{Readers, Upgraders, Pending, Writers, Strange, weight}
use Rattle.parking_lot_rules.specs.Owners.{Reading, Upgrading, Awaiting, Writing, owner_of}

pub owner_writes : (o : Owned) (p : Phase) → owner_of o p ≡ Writing → 0 < weight Writers (record { owns = o; does = p })
unfolding weight
owner_writes o (Taken1 Shared by Handed s) e = absurd cc
owner_writes o (Taken1 Exclusive by Handed s) e = absurd cc
owner_writes o (Taken1 Upgradable by Handed s) e = absurd cc
owner_writes o (Drains f c) e = absurd cc
owner_writes o (Enters2 f c) e = absurd cc
owner_writes o (Checked2 f) e = absurd cc
owner_writes o (Queued2 f s) e = absurd cc
owner_writes o (Taken2 f by s) e = absurd cc
owner_writes o (Leaves2 f) e = absurd cc
owner_writes o (Yields f) e = absurd cc
owner_writes o (Scans1 FromExclusive r u w us) e = omega arith
owner_writes o (Scans1 FromUpgradable r u w us) e = absurd cc
owner_writes Excludes p e = omega arith
owner_writes Upgrades p e = absurd cc
owner_writes (Shares n) p e = absurd cc

pub owner_awaits : (o : Owned) (p : Phase) → owner_of o p ≡ Awaiting
    → 0 < weight Pending (record { owns = o; does = p })
unfolding weight
owner_awaits o (Taken1 Shared by Handed s) e = absurd cc
owner_awaits o (Taken1 Exclusive by Handed s) e = omega arith
owner_awaits o (Taken1 Upgradable by Handed s) e = absurd cc
owner_awaits o (Drains f c) e = omega arith
owner_awaits o (Enters2 f c) e = omega arith
owner_awaits o (Checked2 f) e = omega arith
owner_awaits o (Queued2 f s) e = omega arith
owner_awaits o (Taken2 f by s) e = omega arith
owner_awaits o (Leaves2 f) e = omega arith
owner_awaits o (Yields f) e = omega arith
owner_awaits o (Scans1 FromExclusive r u w us) e = absurd cc
owner_awaits o (Scans1 FromUpgradable r u w us) e = absurd cc
owner_awaits Excludes p e = absurd cc
owner_awaits Upgrades p e = absurd cc
owner_awaits (Shares n) p e = absurd cc

pub owner_upgrades : (o : Owned) (p : Phase) → owner_of o p ≡ Upgrading
    → 0 < weight Upgraders (record { owns = o; does = p })
unfolding weight
owner_upgrades o (Taken1 Shared by Handed s) e = absurd cc
owner_upgrades o (Taken1 Exclusive by Handed s) e = absurd cc
owner_upgrades o (Taken1 Upgradable by Handed s) e = omega arith
owner_upgrades o (Drains f c) e = absurd cc
owner_upgrades o (Enters2 f c) e = absurd cc
owner_upgrades o (Checked2 f) e = absurd cc
owner_upgrades o (Queued2 f s) e = absurd cc
owner_upgrades o (Taken2 f by s) e = absurd cc
owner_upgrades o (Leaves2 f) e = absurd cc
owner_upgrades o (Yields f) e = absurd cc
owner_upgrades o (Scans1 FromExclusive r u w us) e = absurd cc
owner_upgrades o (Scans1 FromUpgradable r u w us) e = omega arith
owner_upgrades Excludes p e = absurd cc
owner_upgrades Upgrades p e = omega arith
owner_upgrades (Shares n) p e = absurd cc

pub owner_reads : (o : Owned) (p : Phase) (n : ℕ) → owner_of o p ≡ Reading (suc n)
    → 0 < weight Readers (record { owns = o; does = p })
unfolding weight
owner_reads o (Taken1 Shared by Handed s) n e = omega arith
owner_reads o (Taken1 Exclusive by Handed s) n e = absurd cc
owner_reads o (Taken1 Upgradable by Handed s) n e = absurd cc
owner_reads o (Drains f c) n e = absurd cc
owner_reads o (Enters2 f c) n e = absurd cc
owner_reads o (Checked2 f) n e = absurd cc
owner_reads o (Queued2 f s) n e = absurd cc
owner_reads o (Taken2 f by s) n e = absurd cc
owner_reads o (Leaves2 f) n e = absurd cc
owner_reads o (Yields f) n e = absurd cc
owner_reads o (Scans1 FromExclusive r u w us) n e = absurd cc
owner_reads o (Scans1 FromUpgradable r u w us) n e = absurd cc
owner_reads Excludes p n e = absurd cc
owner_reads Upgrades p n e = absurd cc
owner_reads (Shares zero) p n e = absurd cc
owner_reads (Shares (suc m)) p n e = omega arith

-- who counts as a reader, and waits for nothing, is one
pub reader_of : (o : Owned) (p : Phase) → 0 < weight Readers (record { owns = o; does = p })
    → weight Strange (record { owns = o; does = p }) ≡ 0 → (n : ℕ) × (owner_of o p ≡ Reading (suc n))
unfolding weight
reader_of o (Taken1 Shared by Handed s) some proper = (0, refl)
reader_of Excludes (Taken1 Exclusive by Handed s) some proper = absurd (omega arith)
reader_of Excludes (Taken1 Upgradable by Handed s) some proper = absurd (omega arith)
reader_of Excludes (Drains f c) some proper = absurd (omega arith)
reader_of Excludes (Enters2 f c) some proper = absurd (omega arith)
reader_of Excludes (Checked2 f) some proper = absurd (omega arith)
reader_of Excludes (Queued2 f s) some proper = absurd (omega arith)
reader_of Excludes (Taken2 f by s) some proper = absurd (omega arith)
reader_of Excludes (Leaves2 f) some proper = absurd (omega arith)
reader_of Excludes (Yields f) some proper = absurd (omega arith)
reader_of Excludes (Scans1 FromExclusive r u w us) some proper = absurd (omega arith)
reader_of Excludes (Scans1 FromUpgradable r u w us) some proper = absurd (omega arith)
reader_of Upgrades (Taken1 Exclusive by Handed s) some proper = absurd (omega arith)
reader_of Upgrades (Taken1 Upgradable by Handed s) some proper = absurd (omega arith)
reader_of Upgrades (Drains f c) some proper = absurd (omega arith)
reader_of Upgrades (Enters2 f c) some proper = absurd (omega arith)
reader_of Upgrades (Checked2 f) some proper = absurd (omega arith)
reader_of Upgrades (Queued2 f s) some proper = absurd (omega arith)
reader_of Upgrades (Taken2 f by s) some proper = absurd (omega arith)
reader_of Upgrades (Leaves2 f) some proper = absurd (omega arith)
reader_of Upgrades (Yields f) some proper = absurd (omega arith)
reader_of Upgrades (Scans1 FromExclusive r u w us) some proper = absurd (omega arith)
reader_of Upgrades (Scans1 FromUpgradable r u w us) some proper = absurd (omega arith)
reader_of (Shares zero) (Taken1 Exclusive by Handed s) some proper = absurd (omega arith)
reader_of (Shares zero) (Taken1 Upgradable by Handed s) some proper = absurd (omega arith)
reader_of (Shares zero) (Drains f c) some proper = absurd (omega arith)
reader_of (Shares zero) (Enters2 f c) some proper = absurd (omega arith)
reader_of (Shares zero) (Checked2 f) some proper = absurd (omega arith)
reader_of (Shares zero) (Queued2 f s) some proper = absurd (omega arith)
reader_of (Shares zero) (Taken2 f by s) some proper = absurd (omega arith)
reader_of (Shares zero) (Leaves2 f) some proper = absurd (omega arith)
reader_of (Shares zero) (Yields f) some proper = absurd (omega arith)
reader_of (Shares zero) (Scans1 FromExclusive r u w us) some proper = absurd (omega arith)
reader_of (Shares zero) (Scans1 FromUpgradable r u w us) some proper = absurd (omega arith)
reader_of (Shares (suc n)) (Taken1 Exclusive by Handed s) some proper = absurd (omega arith)
reader_of (Shares (suc n)) (Taken1 Upgradable by Handed s) some proper = absurd (omega arith)
reader_of (Shares (suc n)) (Drains f c) some proper = absurd (omega arith)
reader_of (Shares (suc n)) (Enters2 f c) some proper = absurd (omega arith)
reader_of (Shares (suc n)) (Checked2 f) some proper = absurd (omega arith)
reader_of (Shares (suc n)) (Queued2 f s) some proper = absurd (omega arith)
reader_of (Shares (suc n)) (Taken2 f by s) some proper = absurd (omega arith)
reader_of (Shares (suc n)) (Leaves2 f) some proper = absurd (omega arith)
reader_of (Shares (suc n)) (Yields f) some proper = absurd (omega arith)
reader_of (Shares (suc n)) (Scans1 FromExclusive r u w us) some proper = absurd (omega arith)
reader_of (Shares (suc n)) (Scans1 FromUpgradable r u w us) some proper = absurd (omega arith)
reader_of Excludes p some proper = absurd (omega arith)
reader_of Upgrades p some proper = absurd (omega arith)
reader_of (Shares zero) p some proper = absurd (omega arith)
reader_of (Shares (suc n)) p some proper = (n, refl)

pub upgrader_of : (o : Owned) (p : Phase) → 0 < weight Upgraders (record { owns = o; does = p })
    → weight Strange (record { owns = o; does = p }) ≡ 0 → owner_of o p ≡ Upgrading
unfolding weight
upgrader_of o (Taken1 Upgradable by Handed s) some proper = refl
upgrader_of o (Scans1 FromUpgradable r u w us) some proper = refl
upgrader_of Excludes (Taken1 Shared by Handed s) some proper = absurd (omega arith)
upgrader_of Excludes (Taken1 Exclusive by Handed s) some proper = absurd (omega arith)
upgrader_of Excludes (Drains f c) some proper = absurd (omega arith)
upgrader_of Excludes (Enters2 f c) some proper = absurd (omega arith)
upgrader_of Excludes (Checked2 f) some proper = absurd (omega arith)
upgrader_of Excludes (Queued2 f s) some proper = absurd (omega arith)
upgrader_of Excludes (Taken2 f by s) some proper = absurd (omega arith)
upgrader_of Excludes (Leaves2 f) some proper = absurd (omega arith)
upgrader_of Excludes (Yields f) some proper = absurd (omega arith)
upgrader_of Excludes (Scans1 FromExclusive r u w us) some proper = absurd (omega arith)
upgrader_of Upgrades (Taken1 Shared by Handed s) some proper = absurd (omega arith)
upgrader_of Upgrades (Taken1 Exclusive by Handed s) some proper = absurd (omega arith)
upgrader_of Upgrades (Drains f c) some proper = absurd (omega arith)
upgrader_of Upgrades (Enters2 f c) some proper = absurd (omega arith)
upgrader_of Upgrades (Checked2 f) some proper = absurd (omega arith)
upgrader_of Upgrades (Queued2 f s) some proper = absurd (omega arith)
upgrader_of Upgrades (Taken2 f by s) some proper = absurd (omega arith)
upgrader_of Upgrades (Leaves2 f) some proper = absurd (omega arith)
upgrader_of Upgrades (Yields f) some proper = absurd (omega arith)
upgrader_of Upgrades (Scans1 FromExclusive r u w us) some proper = absurd (omega arith)
upgrader_of (Shares zero) (Taken1 Shared by Handed s) some proper = absurd (omega arith)
upgrader_of (Shares zero) (Taken1 Exclusive by Handed s) some proper = absurd (omega arith)
upgrader_of (Shares zero) (Drains f c) some proper = absurd (omega arith)
upgrader_of (Shares zero) (Enters2 f c) some proper = absurd (omega arith)
upgrader_of (Shares zero) (Checked2 f) some proper = absurd (omega arith)
upgrader_of (Shares zero) (Queued2 f s) some proper = absurd (omega arith)
upgrader_of (Shares zero) (Taken2 f by s) some proper = absurd (omega arith)
upgrader_of (Shares zero) (Leaves2 f) some proper = absurd (omega arith)
upgrader_of (Shares zero) (Yields f) some proper = absurd (omega arith)
upgrader_of (Shares zero) (Scans1 FromExclusive r u w us) some proper = absurd (omega arith)
upgrader_of (Shares (suc n)) (Taken1 Shared by Handed s) some proper = absurd (omega arith)
upgrader_of (Shares (suc n)) (Taken1 Exclusive by Handed s) some proper = absurd (omega arith)
upgrader_of (Shares (suc n)) (Drains f c) some proper = absurd (omega arith)
upgrader_of (Shares (suc n)) (Enters2 f c) some proper = absurd (omega arith)
upgrader_of (Shares (suc n)) (Checked2 f) some proper = absurd (omega arith)
upgrader_of (Shares (suc n)) (Queued2 f s) some proper = absurd (omega arith)
upgrader_of (Shares (suc n)) (Taken2 f by s) some proper = absurd (omega arith)
upgrader_of (Shares (suc n)) (Leaves2 f) some proper = absurd (omega arith)
upgrader_of (Shares (suc n)) (Yields f) some proper = absurd (omega arith)
upgrader_of (Shares (suc n)) (Scans1 FromExclusive r u w us) some proper = absurd (omega arith)
upgrader_of Excludes p some proper = absurd (omega arith)
upgrader_of Upgrades p some proper = refl
upgrader_of (Shares n) p some proper = absurd (omega arith)
