-- Shards that are held one after another, one further.
use Rattle.std.proofs.Common.{◌≡◌, ℕ, suc, ◌+◌, ◌-◌, ◌^◌, Some, subst, arith}
use Rattle.std.specs.Prelude.{min}
use Rattle.dashmap_table.specs.Table.{Table}
use Rattle.dashmap_map.specs.Evidence.{SumsUpTo, HeldUpTo, UnderLock}
use Rattle.dashmap_map.specs.Locked.{Locked, lock_at}

module _ {K V Q S Party : Type 0} (m : Locked Q S) where
  module _ (seen : Q → Party → Party → Table K V → Type 0) (amount : Table K V → ℕ) where
    pub sum_next : (n : ℕ) (from mid to : Party) (sum next : ℕ) (lock : Q) (shard : Table K V)
        → SumsUpTo seen m amount n from mid sum → lock_at m n ≡ Some lock → seen lock mid to shard
        → next ≡ min (sum + amount shard) (2 ^ 64 - 1) → SumsUpTo seen m amount (n + 1) from to next
    sum_next n from mid to sum next lock shard before at saw is =
        let one : suc n ≡ n + 1 = omega arith in
        subst (λ k. SumsUpTo seen m amount k from to next) one ((mid, sum), before, (lock, shard, at, saw, is))

  module _ (held : Q → Party → Party → Table K V → Table K V → Type 0) (P : Table K V → Table K V → Type 0) where
    pub held_next : (n : ℕ) (from mid to : Party) → HeldUpTo held m P n from mid
        → UnderLock held (lock_at m n) mid to P → HeldUpTo held m P (n + 1) from to
    held_next n from mid to before now =
        let one : suc n ≡ n + 1 = omega arith in
        subst (λ k. HeldUpTo held m P k from to) one
        ((mid, tt), before, (now.0, now.1, now.3, (now.2, now.4, now.5), tt))
