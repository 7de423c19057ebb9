-- What a lock word has, what a `&` to it shares, and what a claim has. Each lock has a name, and of each name there is
-- one right, which lies with a word of that name or with one claim.
use Rattle.std.specs.Prelude.{◌≡◌, ℕ, ◌+◌, ◌-◌, ◌%◌, ◌≤◌}
use base.Fml.{Lft, Fml, ffalse, fsep, fex, fall, fbor}
use types.Na.{out}
use denote.RawPtr.{Ptr, block_ptr, null_ptr}
use denote.Sharing.{said, beside, some, ends, always}
use Rattle.core.specs.Sync.RawAtomic.{word}

-- A claim of 1 is the right and a claim of 0 is nothing. With it a word may be changed from `from` to `to` unless that
-- would take a right from somebody else (bit 0 cleared without it) or make a second one (bit 0 set with it).
abbrev pub MayExchange : ℕ → ℕ → ℕ → Type 0
MayExchange owned from to = (owned ≤ 1) × (from % 2 ≤ owned + to % 2) × (owned + to % 2 ≤ from % 2 + 1)

-- What the claim is once that was made: where bit 0 was set the right has come, where it was cleared it has gone.
abbrev pub then_owned : ℕ → ℕ → ℕ → ℕ
then_owned owned from to = (owned + to % 2) - from % 2

module _ (name : ℕ) where
  -- the right, if that holds
  abbrev pub right_if : Type 0 → Fml
  right_if φ = fall φ (λ _. out name)

  -- what lies with a word: the right, where its bit 0 is clear
  abbrev pub kept : ℕ → Fml
  kept n = right_if (n % 2 ≡ 0)

  abbrev pub claimed : ℕ → Fml
  claimed owned = right_if (owned ≡ 1)

  abbrev pub word_owns : (ℕ → Fml) → Fml
  word_owns fields = fex ℕ (λ n. fsep (fields n) (kept n))

  abbrev pub word_at : ℕ → ℕ → Fml
  word_at block offset = word_owns (word block (offset + 0))

  -- who has a `&` to the word may change it in single steps, each of which leaves it as it says here
  abbrev pub word_shares : Ptr → Lft → Fml
  word_shares (block_ptr block offset) = some Lft (λ α. beside (ends α) (always (fbor α (word_at block offset))))
  word_shares null_ptr = said ffalse
