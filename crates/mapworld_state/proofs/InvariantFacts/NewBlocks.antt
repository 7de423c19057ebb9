-- What a block shows that has just been listed.
use Rattle.std.proofs.Common.{◌≡◌, ℕ, ◌+◌, ◌-◌, ◌<◌, ◌≤◌, false, List, [], ◌∷◌}
use Rattle.std.proofs.Common.{◌++◌, length, Option, Some, None, IsSome, slice_get, refl, ap}
use Rattle.std.proofs.Common.{sym, ◌∙◌, subst, arith, length-append}
use Rattle.mapworld_state.specs.Shards.{ShardPairs}
use Rattle.std.proofs.lemmas.Option.{same_Some, slice_get_within}
use Rattle.mapworld_calls.specs.declared.ask.Ask.{Ask}
use Rattle.mapworld_calls.specs.declared.ask.Ask.TheVariants as ask
use Rattle.mapworld_calls.specs.declared.ask.Keyed.{Keyed}
use Rattle.mapworld_calls.specs.declared.ask.Begin.{Begin}
use Rattle.mapworld_calls.specs.declared.ask.Begin.TheVariants as begin
use Rattle.mapworld_calls.specs.declared.block.Block.{Block}
use Rattle.mapworld_calls.specs.Calls.{At, free, pair_in, told, after}
use Rattle.mapworld_calls.specs.Calls.{opened}
use Rattle.mapworld_calls.specs.Programs.{key_of}
use Rattle.mapworld_calls.specs.Setup.{Setup, Laws, session_of}
use Rattle.mapworld_calls.specs.Pairs.{pair_of}
use Rattle.mapworld_calls.specs.Replay.{reached, contents, before, found, IsLastOnShard}
use Rattle.mapworld_calls.specs.Agrees.{IsToldBy}
use Rattle.mapworld_calls.specs.Placed.{IsDoneWithin}
use Rattle.mapworld_calls.proofs.Lists.{slice_get-push_at}
use Rattle.mapworld_state.specs.declared.holds.Mode.{Mode}
use Rattle.mapworld_state.specs.declared.holds.Mode.TheVariants.{Exclusive}
use Rattle.mapworld_state.specs.declared.step.Step.{Step}
use Rattle.mapworld_state.specs.Places.{Place}
use Rattle.mapworld_state.specs.State.{State, threads_of}
use Rattle.mapworld_state.specs.Moves.{opening_way, lent}
use Rattle.mapworld_state.specs.Moves.{IsListed}
use Rattle.mapworld_state.specs.Sound.{may_own, GuardIs, HoldsShard, IsInCall}
use Rattle.mapworld_state.specs.Sound.{IsBeforeDeed, HasReached, HasSession, IsInSession, IsReady}
use Rattle.mapworld_state.specs.Sound.{Sound}
use Rattle.mapworld_state.proofs.InvariantFacts.Building.{holds-moved}
use Rattle.mapworld_state.proofs.InvariantFacts.Building.{reached-one, told-one}
use Rattle.mapworld_state.proofs.InvariantFacts.Listing.{new-key, new-finds, new-before}

pub last-new : {K V D T : Type 0} (x : Setup K V D T) (bs : List (Block K)) (d : Block K)
    → IsLastOnShard x (bs ++ d ∷ []) (length bs) d
last-new x bs d j e lt here = absurd (let within : j < length (bs ++ d ∷ []) =
    slice_get_within (bs ++ d ∷ []) j e here in omega (arith, length-append bs (d ∷ [])))

-- a keyed call whose block is listed has done it at the most, and an opening has opened
module _ {K V S D T A : Type 0} (x : Setup K V D T) (w : State K V S D T A) (s : Step) (started : ℕ
    → Option ℕ) (bs : List (Block K)) (i : ℕ) (p : Place K V D T A) (d : Block K) where
  pub done-none : (k : Keyed K V D) (n : ℕ) → n ≤ 1 → IsListed w s.thread p n d
      → IsDoneWithin x started bs w.replies i d (ask.Keyed k)
  done-none k n le l = (
    record {
      once = rw l.done le;
      whole = λ h. absurd (let g : IsSome {T = ℕ} None =
          subst (λ (o : Option ℕ). IsSome o) l.end h in absurd cc);
    },
    l.visit,
    l.visited,
  )

  pub opened-done : (b : Begin K) → IsListed w s.thread p 1 d → IsDoneWithin x started bs w.replies i d (ask.Begin b)
  opened-done b l = (
    record {
      opened = rw l.done (omega arith);
      calls =
          λ n pos lt. absurd (let lt' : n < 1 = subst (λ (k : ℕ). n < k) l.done lt in omega arith);
    },
    l.visit,
    l.visited,
  )

module _ {K V S D T A : Type 0} (x : Setup K V D T) (laws : Laws x) (w : State K V S D T A) (s : Step)
    (sound : Sound x w)
    (p : Place K V D T A) (at : slice_get w.places s.thread
    ≡ Some p) (a : Ask K V D) (call : IsInCall x (threads_of w) s.thread p a)
    (key : K) (key_is : key_of a ≡ Some key) (shard : p.shard ≡ x.route key) (not_yet : may_own p.phase ≡ false)
    (table : ShardPairs K V) (held : slice_get w.tables p.shard ≡ Some table) (d : Block K) where
  pub has-now : contents x w.blocks key ≡ pair_of x.eq table.items key
  has-now = sym (sound.tables.contents_are key table (ap (λ n. slice_get w.tables n) (sym shard) ∙ held))

  -- the block of an exclusive call is listed before its deed
  pub before-deed : (holds : HoldsShard p Exclusive) (listed : IsListed w s.thread p 0 d) (p' : Place K V D T A)
      (o : Option (K × V)) → pair_of x.eq table.items key ≡ o
      → p'.next ≡ p.next → p'.shard ≡ p.shard → p'.guard ≡ None → p'.holds ≡ p.holds → p'.block ≡ Some (length w.blocks)
      → IsBeforeDeed x (w.blocks ++ d ∷ []) s.thread p' key o
  before-deed holds listed p' o is next same slot hold mine = record {
    index = length w.blocks;
    block = d;
    mine = mine;
    listed = slice_get-push_at w.blocks d;
    thread = listed.thread;
    call = listed.call ∙ sym next;
    key_is = new-key x laws w s sound p at a call key key_is Exclusive holds shard not_yet 0 d listed;
    done = listed.done;
    last = last-new x w.blocks d;
    found_is = new-finds x laws w s sound p at a call key key_is Exclusive holds shard not_yet 0 d listed ∙ has-now
        ∙ is;
    guard = slot;
    shard = same ∙ shard;
    alone = holds-moved x p p' Exclusive hold same holds;
  }

  pub quiet-none : (listed : IsListed w s.thread p 0 d) (o : Option (K × V)) → contents x w.blocks key ≡ o
      → pair_in (reached x d.thread d.call d.done.value o) ≡ o
  quiet-none listed o h = rw listed.done refl

  -- the block of a call that is done at its position tells its answer
  pub told-new : (m : Mode) (holds : HoldsShard p m) (listed : IsListed w s.thread p 1 d) (o : Option (K × V))
      → pair_of x.eq table.items key ≡ o
      → IsToldBy {A = A} x (w.blocks ++ d ∷ []) s.thread p.next 0 (told x.deeds a (free o))
  told-new m holds listed o is = record {
    place = length w.blocks;
    block = d;
    listed = slice_get-push_at w.blocks d;
    thread = listed.thread;
    call = listed.call;
    done = rw listed.done (omega arith);
    told = told-one x s.thread p.next a d key
        (new-key x laws w s sound p at a call key key_is m holds shard not_yet 1 d listed) listed.thread listed.call
        (before x (w.blocks ++ d ∷ []) (length w.blocks)) call.asked
        ∙ ap (λ z. Some (told x.deeds a (free z)))
        (new-before x laws w s sound p at a call key key_is m holds shard not_yet 1 d listed ∙ has-now ∙ is);
  }

  pub reached-new : (listed : IsListed w s.thread p 1 d) (o : Option (K × V))
      → reached x d.thread d.call d.done.value o ≡ after x.deeds a (free o)
  reached-new listed o = rw (listed.thread, listed.call, listed.done) (reached-one x s.thread p.next a o call.asked)

  -- the session that an opening begins
  pub session-new : (m : Mode) (holds : HoldsShard p m) (listed : IsListed w s.thread p 1 d)
      (tables' : List (ShardPairs K V)) (p' : Place K V D T A) (o : Option (K × V)) → pair_of x.eq table.items key ≡ o
      → p'.shard ≡ p.shard → GuardIs tables' p' p'.guard (after x.deeds a (free o))
      → HasReached x tables' p' d (after x.deeds a (free o))
      → HasSession x (w.blocks ++ d ∷ []) tables' s.thread p' (p.next + 1) p.next (length w.blocks)
  session-new m holds listed tables' p' o is same lends there =
      let one : p.next + 1 - p.next ≡ 1 = omega arith in
      let finds = new-finds x laws w s sound p at a call key key_is m holds shard not_yet 1 d listed ∙ has-now ∙ is in
      let now : reached x s.thread p.next (p.next + 1 - p.next) (found x (w.blocks ++ d ∷ []) (length w.blocks) d)
      ≡ after x.deeds a (free o) = rw (one, finds) (reached-one x s.thread p.next a o call.asked) in
      record {
        block = d;
        listed = slice_get-push_at w.blocks d;
        thread = listed.thread;
        call = listed.call;
        below = omega arith;
        done = listed.done ∙ sym one;
        guard = subst (λ (z : At K V). GuardIs tables' p' p'.guard z) (sym now) lends;
        there = subst (λ (z : At K V). HasReached x tables' p' d z) (sym now) there;
        settled = record {
          here = λ k its. same ∙ shard ∙ ap x.route
              (same_Some key k (sym (new-key x laws w s sound p at a call key key_is m holds shard not_yet 1 d listed)
              ∙ its));
          last = λ alone. last-new x w.blocks d;
        };
      }

-- an opening leaves its key's pair, and gives a guard of its kind where there is one
pub opened-quiet : {K V : Type 0} (b : Begin K) (o : Option (K × V)) → pair_in (opened b o) ≡ o
opened-quiet (begin.Get k) None = refl
opened-quiet (begin.Get k) (Some pair) = refl
opened-quiet (begin.GetMut k) None = refl
opened-quiet (begin.GetMut k) (Some pair) = refl
opened-quiet (begin.Entry k) None = refl
opened-quiet (begin.Entry k) (Some pair) = refl
opened-quiet (begin.TryGet k) None = refl
opened-quiet (begin.TryGet k) (Some pair) = refl
opened-quiet (begin.TryGetMut k) None = refl
opened-quiet (begin.TryGetMut k) (Some pair) = refl
opened-quiet (begin.GetUntil k) None = refl
opened-quiet (begin.GetUntil k) (Some pair) = refl
opened-quiet (begin.GetMutUntil k) None = refl
opened-quiet (begin.GetMutUntil k) (Some pair) = refl
opened-quiet (begin.TryEntry k) None = refl
opened-quiet (begin.TryEntry k) (Some pair) = refl

pub opened-some : {K V : Type 0} (b : Begin K) (pair : K × V) → opened b (Some pair) ≡ lent (opening_way b) pair
opened-some (begin.Get k) pair = refl
opened-some (begin.GetMut k) pair = refl
opened-some (begin.Entry k) pair = refl
opened-some (begin.TryGet k) pair = refl
opened-some (begin.TryGetMut k) pair = refl
opened-some (begin.TryEntry k) pair = refl
opened-some (begin.GetUntil k) pair = refl
opened-some (begin.GetMutUntil k) pair = refl

pub ready-inside : {K V D T A : Type 0} (x : Setup K V D T) (bs : List (Block K)) (tables : List (ShardPairs K V))
    (t : ℕ) (p : Place K V D T A) (n c i : ℕ) (block : Option ℕ)
    → session_of x t n ≡ Some c → Some i ≡ block → HasSession x bs tables t p n c i → IsReady x bs tables t p n block
ready-inside x bs tables t p n c i block inside mine h =
    subst (λ (o : Option ℕ). IsInSession x bs tables t p n o block) (sym inside)
    (subst (λ (o : Option ℕ). IsInSession x bs tables t p n (Some c) o) mine h)
