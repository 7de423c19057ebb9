-- A shard that gets a clone of each entry of another, slot by slot.
use Rattle.std.proofs.Common.{◌≡◌, ℕ, ◌+◌, ◌<◌, ◌≤◌, Bool, List, length, take, Option, Some, None, IfSome, MatchOption}
use Rattle.std.proofs.Common.{sym, ap, subst, ◌∙◌, inl, inr, arith, take_all}
use Rattle.std.specs.Cmp.{IsEquivalence}
use Rattle.dashmap_table.specs.declared.entry.Entry.{Entry}
use Rattle.dashmap_table.specs.Slots.{at, count, slot_of, entry_of, AreDistinct}
use Rattle.dashmap_table.specs.Table.{Table, Adds, IsSound, SamePairs}
use Rattle.dashmap_table.proofs.Cases.{option_cases}
use Rattle.dashmap_table.proofs.Moving.{absent-before, absent-carried, count-room, count-more_full, count-more_free}
use Rattle.dashmap_table.proofs.Moving.{found-more, found-free}
use Rattle.dashmap_view.specs.Clones.{IsCloneOf}

-- what a slot adds
abbrev pub Cloned : {K V : Type 0} → (K → K → Bool) → Option (Entry K V) → Table K V → Table K V → Type 0
Cloned eq read old new = MatchOption read (new ≡ old) (λ e. (i : ℕ) × Adds eq old new e i × IsSound eq new)

module _ {K V : Type 0} (eq : K → K → Bool) (laws : IsEquivalence eq) (xs : List (Option (Entry K V)))
    (distinct : AreDistinct eq xs) (i : ℕ) (old : Table K V)
    (found : (h : ℕ) (k : K) → entry_of eq old.slots h k ≡ entry_of eq (take i xs) h k)
    (counted : count old.slots ≡ count (take i xs)) (room : count xs ≤ old.room) where
  pub absent-next : IfSome (at xs i) (λ e. slot_of eq old.slots e.hash e.key ≡ None)
  absent-next = elim (option_cases (at xs i)) [
    | inl none ↦ subst (λ o. IfSome o (λ e. slot_of eq old.slots e.hash e.key ≡ None)) (sym none) tt
    | inr some ↦
        subst (λ o. IfSome o (λ e. slot_of eq old.slots e.hash e.key ≡ None)) (sym some.1)
        (absent-carried eq old.slots (take i xs) some.0.hash some.0.key (found some.0.hash some.0.key)
        (absent-before eq laws xs distinct i some.0 some.1))
  ]

  pub room-next : IfSome (at xs i) (λ e. count old.slots < old.room)
  room-next = elim (option_cases (at xs i)) [
    | inl none ↦ subst (λ o. IfSome o (λ e. count old.slots < old.room)) (sym none) tt
    | inr some ↦
        let more = count-room xs i some.0 some.1 in
        let below : count old.slots < old.room = omega (arith, more, counted, room) in
        subst (λ o. IfSome o (λ e. count old.slots < old.room)) (sym some.1) below
  ]

  module _ (within : i < length xs) (new : Table K V) (cloned : Cloned eq (at xs i) old new) where
    -- of a free slot nothing changed
    same : at xs i ≡ None → new ≡ old
    same none = subst (λ o. Cloned eq o old new) none cloned

    -- of a full one its entry was added
    more : (e : Entry K V) → at xs i ≡ Some e → (s : ℕ) × Adds eq old new e s × IsSound eq new
    more e here = subst (λ o. Cloned eq o old new) here cloned

    pub found-next : (h : ℕ) (k : K) → entry_of eq new.slots h k ≡ entry_of eq (take (i + 1) xs) h k
    found-next h k = elim (option_cases (at xs i)) [
      | inl none ↦
          ap (λ (t : Table K V). entry_of eq t.slots h k) (same none)
          ∙ found-free eq laws xs distinct old i none found h k
      | inr some ↦
          let added = more some.0 some.1 in
          found-more eq laws xs distinct old new i added.0 some.0 added.1 added.2 some.1 found h k
    ]

    pub counted-next : count new.slots ≡ count (take (i + 1) xs)
    counted-next = elim (option_cases (at xs i)) [
      | inl none ↦ ap (λ (t : Table K V). count t.slots) (same none)
          ∙ (counted ∙ sym (count-more_free xs i within none))
      | inr some ↦
          let added = more some.0 some.1 in
          added.1.counted ∙ (ap (λ n. n + 1) counted ∙ sym (count-more_full xs i some.0 some.1))
    ]

    pub room-after : count xs ≤ new.room
    room-after = elim (option_cases (at xs i)) [
      | inl none ↦
          let kept : new.room ≡ old.room = ap (λ (t : Table K V). t.room) (same none) in omega (arith, kept, room)
      | inr some ↦
          let added = more some.0 some.1 in omega (arith, added.1.left, added.1.counted, room)
    ]

-- all slots were cloned
pub cloned-all : {K V : Type 0} (eq : K → K → Bool) (shard clones : Table K V) (i : ℕ) → length shard.slots ≤ i
    → ((h : ℕ) (k : K) → entry_of eq clones.slots h k ≡ entry_of eq (take i shard.slots) h k)
    → count clones.slots ≡ count (take i shard.slots) → IsSound eq clones → IsCloneOf eq shard clones
cloned-all eq shard clones i all found counted sound =
    let whole : take i shard.slots ≡ shard.slots = take_all i shard.slots all in
    record {
      pairs = record {
        found = λ h k. found h k ∙ ap (λ l. entry_of eq l h k) whole;
        counted = counted ∙ ap count whole;
      };
      sound = sound;
    }
