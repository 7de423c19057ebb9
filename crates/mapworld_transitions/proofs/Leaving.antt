-- The pair in a place's slot, and what deeds leave there.
use Rattle.std.proofs.Common.{◌≡◌, ℕ, ◌+◌, Bool, true, false, not, if◌then◌else◌, List, map, get_or, Option, Some, None}
use Rattle.std.proofs.Common.{IsSome, IfSome, is_some, slice_get, refl, sym, ap, ◌∙◌, subst}
use Rattle.std.specs.Cmp.{IsEquivalence}
use Rattle.std.proofs.lemmas.Option.{none-some, same_Some}
use Rattle.dashmap_table.specs.Slots.{at, pair_of as entry_pair, pairs_of}
use Rattle.dashmap_table.specs.Table.{Table}
use Rattle.mapworld_calls.specs.declared.ask.Keyed.{Keyed}
use Rattle.mapworld_calls.specs.declared.ask.Keyed.TheVariants as keyed
use Rattle.mapworld_calls.specs.declared.ask.Held.{Held}
use Rattle.mapworld_calls.specs.declared.ask.Held.TheVariants as held
use Rattle.mapworld_calls.specs.declared.reply.Answer.{Answer}
use Rattle.mapworld_calls.proofs.Handed.{Handed}
use Rattle.mapworld_calls.specs.Deeds.{Deeds}
use Rattle.mapworld_calls.specs.Setup.{Setup}
use Rattle.mapworld_calls.specs.Pairs.{pair_of, AreDistinct}
use Rattle.mapworld_calls.specs.Calls.{pair_in, keyed_leaves, held_leaves}
use Rattle.mapworld_state.specs.declared.place.Way.{Way}
use Rattle.mapworld_state.specs.declared.place.Way.TheVariants as way
use Rattle.mapworld_state.specs.declared.place.Phase.{Phase}
use Rattle.mapworld_state.specs.declared.world_core.Core.{Core}
use Rattle.mapworld_state.specs.declared.place.Guard.TheVariants as guard
use Rattle.mapworld_state.specs.Places.{Place}
use Rattle.mapworld_state.specs.State.{State}
use Rattle.mapworld_state.specs.Moves.{lent, lent_way, is_change, takes_pair, ends_guard, changed_phase}
use Rattle.mapworld_state.specs.Shards.{shard_pairs, number_of}
use Rattle.mapworld_state.specs.Sound.{Sound}
use Rattle.mapworld_state.specs.Slots.{phase_key, HasKeyAt, IsAt}
use Rattle.mapworld_state.specs.Core.{state_of}
use Rattle.mapworld_state.proofs.Views.{view-at}
use Rattle.mapworld_transitions.proofs.Facts.{read_at}
use Rattle.mapworld_transitions.proofs.Keys.{Guards, handed-way}
use Rattle.mapworld_transitions.proofs.Slotted.{pair-at_key}

-- what is said of an entry is so of the one that is there
pub at-some : {X : Type 0} (P : X → Type 0) (o : Option X) (x : X) → o ≡ Some x → IfSome o P → P x
at-some P o x is h = subst (λ z. IfSome z P) is h

-- the shard that was read has the key's pair in that slot
pub record Stands-in {K V : Type 0} (eq : K → K → Bool) (tables : List (Table K V)) (shard slot : ℕ) (key : K)
    (r : Table K V) : Type 0 where
  pub held : slice_get tables shard ≡ Some r
  pub seen : slice_get (map shard_pairs tables) shard ≡ Some (shard_pairs r)
  pub has : HasKeyAt eq r slot key
  pub full : IsSome (at r.slots slot)
  pub distinct : AreDistinct eq (pairs_of r.slots)
  pub pair : pair_of eq (pairs_of r.slots) key ≡ Some (entry_pair has.entry)

module _ {K V S D T A : Type 0} (x : Setup K V D T) (c : Core K V S D T A) (sound : Sound x (state_of c))
    (laws : IsEquivalence x.eq) (shard slot : ℕ) (key : K) (is : IsAt x.eq c.tables.items shard slot key) where
  pub stands-within : slice_get c.tables.items shard ≡ Some is.table
  stands-within = is.held

  pub stands-in : (r : Table K V) → r ≡ get_or c.tables.items shard r → Stands-in x.eq c.tables.items shard slot key r
  stands-in r read =
      let same = read_at c.tables.items shard is.table r is.held read in
      let held : slice_get c.tables.items shard ≡ Some r = is.held ∙ ap (λ z. Some z) (sym same) in
      let seen = view-at shard_pairs c.tables.items shard r held in
      let has : HasKeyAt x.eq r slot key = subst (λ (t : Table K V). HasKeyAt x.eq t slot key) (sym same) is.has in
      let distinct = sound.tables.distinct shard (shard_pairs r) seen in
      record {
        held = held;
        seen = seen;
        has = has;
        full = subst (λ o. IsSome o) (sym has.there) refl;
        distinct = distinct;
        pair = pair-at_key x.eq laws r slot key distinct has;
      }

-- a call on one key that leaves a pair leaves it under the key that it had
if-keeps : {P : Type 0} (b : Bool) (p z : P) → (if b then Some p else None) ≡ Some z → p ≡ z
if-keeps true p z e = same_Some p z e
if-keeps false p z e = absurd (none-some z e)

module _ {D K V T : Type 0} (deeds : Deeds D K V T) where
  keyed-key : (call : Keyed K V D) (p z : K × V) → keyed_leaves deeds call (Some p) ≡ Some z → z.0 ≡ p.0
  keyed-key (keyed.Insert k w) p z e = ap (λ (q : K × V). q.0) (sym (same_Some (p.0, w) z e))
  keyed-key (keyed.Remove k) p z e = absurd (none-some z e)
  keyed-key (keyed.RemoveIf k d) p z e = ap (λ (q : K × V). q.0) (sym (if-keeps (deeds.keep d p.0 p.1) p z e))
  keyed-key (keyed.RemoveIfMut k d) p z e =
      ap (λ (q : K × V). q.0) (sym (if-keeps (deeds.keep d p.0 p.1) (p.0, deeds.effect d p.0 p.1) z e))
  keyed-key (keyed.Alter k d) p z e = ap (λ (q : K × V). q.0) (sym (same_Some (p.0, deeds.effect d p.0 p.1) z e))
  keyed-key (keyed.View k d) p z e = ap (λ (q : K × V). q.0) (sym (same_Some p z e))
  keyed-key (keyed.ContainsKey k) p z e = ap (λ (q : K × V). q.0) (sym (same_Some p z e))
  keyed-key (keyed.InsertUntil k w) p z e = ap (λ (q : K × V). q.0) (sym (same_Some (p.0, w) z e))
  keyed-key (keyed.RemoveUntil k) p z e = absurd (none-some z e)

  pub keyed-keeps : (eq : K → K → Bool) → IsEquivalence eq → (call : Keyed K V D) (p z : K × V)
      → keyed_leaves deeds call (Some p) ≡ Some z → eq p.0 z.0 ≡ true
  keyed-keeps eq laws call p z e = ap (eq p.0) (keyed-key call p z e) ∙ laws.refl p.0

  -- and one on a guard under an equal one, if the key that the guard has is equal
  pub held-keeps : (eq : K → K → Bool) → IsEquivalence eq → (call : Held V D) (kind : Way K)
      → is_change call kind ≡ true → (p : K × V) → ((k : K) → kind ≡ way.Occupied k → eq p.0 k ≡ true)
      → (z : K × V) → pair_in (held_leaves deeds call (lent kind p)) ≡ Some z → eq p.0 z.0 ≡ true
  held-keeps eq laws (held.Write d) way.Exclusive is p equal z e =
      ap (eq p.0) (ap (λ (q : K × V). q.0) (sym (same_Some (p.0, deeds.effect d p.0 p.1) z e))) ∙ laws.refl p.0
  held-keeps eq laws (held.Write d) (way.Occupied k) is p equal z e =
      ap (eq p.0) (ap (λ (q : K × V). q.0) (sym (same_Some (p.0, deeds.effect d p.0 p.1) z e))) ∙ laws.refl p.0
  held-keeps eq laws (held.Insert v) (way.Occupied k) is p equal z e =
      ap (eq p.0) (ap (λ (q : K × V). q.0) (sym (same_Some (p.0, v) z e))) ∙ laws.refl p.0
  held-keeps eq laws held.Remove (way.Occupied k) is p equal z e = absurd (none-some z e)
  held-keeps eq laws held.RemoveEntry (way.Occupied k) is p equal z e = absurd (none-some z e)
  held-keeps eq laws (held.ReplaceEntry v) (way.Occupied k) is p equal z e =
      ap (eq p.0) (ap (λ (q : K × V). q.0) (sym (same_Some (k, v) z e))) ∙ equal k refl
  held-keeps eq laws call kind is p equal z e = absurd (cc)

  -- whether the pair goes is whether a change leaves none
  pub held-gone : (call : Held V D) (kind : Way K) → is_change call kind ≡ true → (p : K × V)
      → takes_pair call ≡ not (is_some (pair_in (held_leaves deeds call (lent kind p))))
  held-gone (held.Write d) way.Exclusive is p = refl
  held-gone (held.Write d) (way.Occupied k) is p = refl
  held-gone (held.Insert v) (way.Occupied k) is p = refl
  held-gone held.Remove (way.Occupied k) is p = refl
  held-gone held.RemoveEntry (way.Occupied k) is p = refl
  held-gone (held.ReplaceEntry v) (way.Occupied k) is p = refl
  held-gone call kind is p = absurd (cc)

-- of one pair none is left, or one is
pub gone-number : {X : Type 0} (o : Option X) (b : Bool) → b ≡ not (is_some o) → (if b then 1 else 0) + number_of o ≡ 1
gone-number None true e = refl
gone-number None false e = absurd (cc)
gone-number (Some y) true e = absurd (cc)
gone-number (Some y) false e = refl

pub some-at : {X : Type 0} (P : X → Type 0) (o : Option X) (x : X) → o ≡ Some x → P x → IfSome o P
some-at P o x is h = subst (λ z. IfSome z P) (sym is) h

-- behind a change the place looks for nothing
pub changed-free : {K V D T A : Type 0} (f : Phase K V D T A) (ends : Bool) (a : Answer K V T A)
    → f ≡ changed_phase ends a → phase_key f ≡ None
changed-free f true a e = ap phase_key e
changed-free f false a e = ap phase_key e

-- while the guard goes on to lend its pair there is one
pub held-stays : {D K V T : Type 0} (deeds : Deeds D K V T) (call : Held V D) (kind : Way K)
    → is_change call kind ≡ true → (k : Way K) → lent_way (if ends_guard call then None else Some (guard.Pair kind))
    ≡ Some k
    → (p : K × V) → (z : K × V) × (pair_in (held_leaves deeds call (lent kind p)) ≡ Some z)
held-stays deeds (held.Write d) way.Exclusive is k e p = ((p.0, deeds.effect d p.0 p.1), refl)
held-stays deeds (held.Write d) (way.Occupied j) is k e p = ((p.0, deeds.effect d p.0 p.1), refl)
held-stays deeds (held.Insert v) (way.Occupied j) is k e p = ((p.0, v), refl)
held-stays deeds held.Remove (way.Occupied j) is k e p = absurd (none-some k e)
held-stays deeds held.RemoveEntry (way.Occupied j) is k e p = absurd (none-some k e)
held-stays deeds (held.ReplaceEntry v) (way.Occupied j) is k e p = absurd (none-some k e)
held-stays deeds call kind is k e p = absurd (cc)

-- the key that an entry's guard has is equal to each that is equal to the session's
pub handed-equal : {K V S D T A : Type 0} (x : Setup K V D T) (w : State K V S D T A) (sound : Sound x w) (t : ℕ)
    (p : Place K V D T A) (kind : Way K) (own : Guards x w sound t p (guard.Pair kind)) (e : K)
    → x.eq e own.key ≡ true → (k : K) → kind ≡ way.Occupied k → x.eq e k ≡ true
handed-equal x w sound t p kind own e equal k is =
    ap (x.eq e) (handed-way own.key kind own.guard_is.0 k is (subst (Handed own.key) own.guard_is.1 own.handed)) ∙ equal
