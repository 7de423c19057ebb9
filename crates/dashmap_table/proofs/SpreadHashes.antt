-- What a key hashes to under `SpreadState`.
use Rattle.std.proofs.Common.{◌≡◌, ℕ, ◌*◌, ◌%◌, ◌^◌, refl}
use Rattle.std.specs.List.{fold}
use Rattle.std.specs.Hash as fed
use Rattle.std.specs.Hash.{le_bytes}
use Rattle.dashmap_table.specs.Spread as spread

-- a `u64` key's lowest byte, in the highest place
pub spread_u64 : (k : ℕ) → spread.finish (fold spread.write spread.initial (fed.u64 k)) ≡ (k % 256) * 2 ^ 56
unfolding le_bytes
spread_u64 k = refl
