-- What holds of a thread's place stays while its blocks stay, as when another thread makes a step.
use Rattle.std.proofs.Common.{◌≡◌, ℕ, ◌+◌, ◌-◌, ◌<◌, List, [], ◌∷◌, ◌++◌, Option, Some, None, slice_get, refl, ap, sym}
use Rattle.std.proofs.Common.{◌∙◌, subst, arith}
use Rattle.std.specs.Option.{option_and_then}
use Rattle.std.proofs.lemmas.Option.{same_Some, none-some}
use Rattle.mapworld_state.specs.Shards.{ShardPairs}
use Rattle.mapworld_calls.specs.declared.ask.Ask.{Ask}
use Rattle.mapworld_calls.specs.declared.ask.Ask.TheVariants as ask
use Rattle.mapworld_calls.specs.declared.ask.Begin.{Begin}
use Rattle.mapworld_calls.specs.declared.ask.Walk.{Walk}
use Rattle.mapworld_calls.specs.declared.block.Block.{Block}
use Rattle.mapworld_calls.specs.declared.reply.Reply.{Reply}
use Rattle.mapworld_calls.specs.declared.reply.Answer.{Answer}
use Rattle.mapworld_calls.specs.Calls.{At, pair_in}
use Rattle.mapworld_calls.specs.Programs.{keyed_key, opening_key, opening_before}
use Rattle.mapworld_calls.specs.Setup.{Setup, ask_at, session_of}
use Rattle.mapworld_calls.specs.Replay.{reached, block_key, frame_of, left, found}
use Rattle.mapworld_calls.specs.Agrees.{IsAnsweredBy}
use Rattle.mapworld_calls.specs.Placed.{IsStepOf, answered_of}
use Rattle.mapworld_calls.proofs.Lists.{slice_get-push_below}
use Rattle.mapworld_calls.proofs.Programs.{opening_below, opening_is}
use Rattle.mapworld_calls.proofs.Replays.{on-shard}
use Rattle.mapworld_calls.proofs.Kept.{answered-by, visited-kept, all-kept, reads-kept, visit-shard}
use Rattle.mapworld_state.specs.declared.holds.Mode.{Mode}
use Rattle.mapworld_state.specs.declared.holds.Mode.TheVariants.{Shared, Exclusive}
use Rattle.mapworld_state.specs.declared.place.Phase.{Phase}
use Rattle.mapworld_state.specs.declared.place.Phase.TheVariants as phase
use Rattle.mapworld_state.specs.declared.place.Guard.{Guard}
use Rattle.mapworld_state.specs.declared.place.Guard.TheVariants as guard
use Rattle.mapworld_state.specs.Places.{Place}
use Rattle.mapworld_state.specs.Moves.{way_mode}
use Rattle.mapworld_state.specs.Walks.{walk_mode}
use Rattle.mapworld_state.specs.Sound.{HoldsShard, GuardIs, IsInSessionOf, IsInSession, IsReady, IsInCall, IsBeforeDeed}
use Rattle.mapworld_state.specs.Sound.{HasPairs, IsReleasing, block_after, Claim, HasVisited, IsBetweenVisits}
use Rattle.mapworld_state.specs.Sound.{IsWithinVisit, Walks, HasOwnVisits, Stands}
use Rattle.mapworld_state.proofs.InvariantFacts.Effects.{KeepsBlocks, finds-kept, none-kept, visits-kept, keeps-of}

pub IsStepOf-push : (threads : List ℕ) (s t n : ℕ) → IsStepOf threads t n → IsStepOf (threads ++ s ∷ []) t n
IsStepOf-push threads s t n h = (h.0, slice_get-push_below threads (n - 1) t s h.1)

module _ {K V D T A : Type 0} (x : Setup K V D T) (threads : List ℕ) (s : ℕ) (t : ℕ) (p : Place K V D T A)
    (a : Ask K V D) where
  pub IsInCall-push : IsInCall x threads t p a → IsInCall x (threads ++ s ∷ []) t p a
  IsInCall-push h = record {
    asked = h.asked;
    closes = h.closes;
    start = h.start;
    started = h.started;
    begun = IsStepOf-push threads s t h.start h.begun;
  }

module _ {K V D T : Type 0} (x : Setup K V D T) (t c b : ℕ) where
  pub session-below : session_of x t c ≡ Some b → b < c
  session-below h = at (slice_get x.programs t) h
    where
      at : (o : Option (List (Ask K V D))) → option_and_then (λ program. opening_before program c) o ≡ Some b → b < c
      at None e = absurd (none-some b e)
      at (Some program) e = opening_below program c b e

  -- a session began at an opening
  pub session-opens : session_of x t c ≡ Some b → (g : Begin K) × (ask_at x t b ≡ Some (ask.Begin g))
  session-opens h = at (slice_get x.programs t) h
    where
      at : (o : Option (List (Ask K V D))) → option_and_then (λ program. opening_before program c) o ≡ Some b
          → (g : Begin K) × (option_and_then (λ program. slice_get program b) o ≡ Some (ask.Begin g))
      at None e = absurd (none-some b e)
      at (Some program) e = opening_is program c b e

-- so its block works on the opening's key
pub opening-key_of : {K V D T : Type 0} (x : Setup K V D T) (b : Block K) (t c : ℕ) (g : Begin K) → b.thread ≡ t
    → b.call ≡ c → ask_at x t c ≡ Some (ask.Begin g) → block_key x b ≡ Some (opening_key g)
opening-key_of x b t c g thread call asked = rw (thread, call, asked) refl

-- the block works on the place's shard
abbrev pub WorksThere : {K V D T A : Type 0} → Setup K V D T → Place K V D T A → Block K → Type 0
WorksThere x p b = (s : ℕ) → (frame_of x).shard b ≡ Some s → s ≡ p.shard

pub key-works_there : {K V D T A : Type 0} (x : Setup K V D T) (p : Place K V D T A) (b : Block K) (key : K)
    → block_key x b ≡ Some key → p.shard ≡ x.route key → WorksThere x p b
key-works_there x p b key is here s at = same_Some s (x.route key) (sym at ∙ on-shard x b key is) ∙ sym here

pub visit-works_there : {K V D T A : Type 0} (x : Setup K V D T) (p : Place K V D T A) (f : Walk D) (b : Block K)
    (t c : ℕ) → ask_at x t c ≡ Some (ask.Walk f) → b.thread ≡ t → b.call ≡ c → b.visit ≡ p.shard → WorksThere x p b
visit-works_there x p f b t c asked thread call here s at =
    same_Some s p.shard (sym at ∙ visit-shard x f b t c asked thread call p.shard (sym here))

module _ {K V D T A : Type 0} (x : Setup K V D T) (threads : List ℕ) (s : ℕ) (bs bs' : List (Block K))
    (replies replies' : List (Reply K V T A))
    (tables tables' : List (ShardPairs K V)) (u : ℕ) (p : Place K V D T A) (F : Block K → Type 0)
    (blocks : KeepsBlocks A x bs bs' u F) (count : answered_of replies' u ≡ answered_of replies u)
    (kept : (m : Mode) → HoldsShard p m → slice_get tables' p.shard ≡ slice_get tables p.shard)
    (foreign : (b : Block K) → HoldsShard p Exclusive → WorksThere x p b → F b) where
  list-kept : (m : Mode) (IsSo : ShardPairs K V → Type 0) → HoldsShard p m → HasPairs tables p.shard IsSo
      → HasPairs tables' p.shard IsSo
  list-kept m IsSo h has = record { table = has.table; held = kept m h ∙ has.held; so = has.so }

  guard-kept : (g : Option (Guard K)) (at at' : At K V) → at' ≡ at → GuardIs tables p g at → GuardIs tables' p g at'
  guard-kept None at at' same h = (h.0, same ∙ h.1)
  guard-kept (Some (guard.Pair kind)) at at' same h = (h.0, same ∙ h.1, h.2)
  guard-kept (Some (guard.Vacant k)) at at' same h = (same ∙ h.0, h.1, list-kept Exclusive _ h.1 h.2)

  -- a guard's hold
  guard-mode : (g : Guard K) (at : At K V) → GuardIs tables p (Some g) at → (m : Mode) × HoldsShard p m
  guard-mode (guard.Pair kind) at h = (way_mode kind, h.2)
  guard-mode (guard.Vacant k) at h = (Exclusive, h.1)

  session-kept : (n c : ℕ) → session_of x u n ≡ Some c → (o : Option ℕ) → IsInSessionOf x bs tables u p n c o
      → IsInSessionOf x bs' tables' u p n c o
  session-kept n c inside (Some i) h =
      let finds = finds-kept x bs bs' u F blocks i h.block h.listed in
      let g = session-opens x u n c inside in
      let key = opening-key_of x h.block u c g.0 h.thread h.call g.1 in
      record {
        block = h.block;
        listed = blocks.kept i h.block h.listed h.thread;
        thread = h.thread;
        call = h.call;
        below = h.below;
        done = h.done;
        guard = guard-kept p.guard (reached x u c (n - c) (found x bs i h.block))
            (reached x u c (n - c) (found x bs' i h.block)) (ap (λ o. reached x u c (n - c) o) finds) h.guard;
        there = λ g key e is.
            let at : At K V = reached x u c (n - c) (found x bs i h.block) in
            let holds = guard-mode g at (subst (λ (z : Option (Guard K)). GuardIs tables p z at) e h.guard) in
            let has = list-kept holds.0 _ holds.1 (h.there g key e is) in
            record {
              table = has.table;
              held = has.held;
              so = has.so ∙ ap (λ o. pair_in (reached x u c (n - c) o))
                  (sym finds);
            };
        settled = record {
          here = h.settled.here;
          last = λ alone. blocks.last i h.block h.listed
              (foreign h.block alone
              (key-works_there x p h.block (opening_key g.0) key (h.settled.here (opening_key g.0) key)))
              (h.settled.last alone);
        };
      }
  session-kept n c inside None h = (h.0, none-kept x bs bs' u F blocks c h.1)

  in_session-kept : (n : ℕ) (o : Option ℕ) → session_of x u n ≡ o → (block : Option ℕ)
      → IsInSession x bs tables u p n o block → IsInSession x bs' tables' u p n o block
  in_session-kept n (Some c) inside block h = session-kept n c inside block h
  in_session-kept n None inside block h = h

  ready : (n : ℕ) (block : Option ℕ) → IsReady x bs tables u p n block → IsReady x bs' tables' u p n block
  ready n block h = in_session-kept n (session_of x u n) refl block h

  in_call : (a : Ask K V D) → IsInCall x threads u p a → IsInCall x (threads ++ s ∷ []) u p a
  in_call a h = IsInCall-push x threads s u p a h

  answered : (c : ℕ) (a : Ask K V D) (r : Answer K V T A) → ask_at x u c ≡ Some a → IsAnsweredBy x bs u c a r
      → IsAnsweredBy x bs' u c a r
  answered c a r asked h =
      answered-by x bs bs' u c a r asked (keeps-of x bs bs' u F blocks c)
      (λ b e. let lt = session-below x u c b e in omega arith) h

  before_deed : (k : K) (o : Option (K × V)) → IsBeforeDeed x bs u p k o → IsBeforeDeed x bs' u p k o
  before_deed k o d = record {
    index = d.index;
    block = d.block;
    mine = d.mine;
    listed = blocks.kept d.index d.block d.listed d.thread;
    thread = d.thread;
    call = d.call;
    key_is = d.key_is;
    done = d.done;
    last = blocks.last d.index d.block d.listed
        (foreign d.block d.alone (key-works_there x p d.block k d.key_is d.shard)) d.last;
    found_is = finds-kept x bs bs' u F blocks d.index d.block d.listed ∙ d.found_is;
    guard = d.guard;
    shard = d.shard;
    alone = d.alone;
  }

  releasing : (a : Ask K V D) (r : Answer K V T A) (g : Option (Guard K)) → ask_at x u p.next ≡ Some a
      → IsReleasing x bs tables u p a r g → IsReleasing x bs' tables' u p a r g
  releasing a r (Some i) asked h = (h.0, h.1, ready p.next p.block h.2)
  releasing a r None asked h = (answered p.next a r asked h.0, ready (p.next + 1) (block_after p) h.1)

  claim : (f : Phase K V D T A) → Claim x threads bs tables u p f → Claim x (threads ++ s ∷ []) bs' tables' u p f
  claim phase.Rest h = (h.0, h.1, ready p.next p.block h.2)
  claim (phase.Admit r) h = (in_call _ h.0, h.1, h.2)
  claim (phase.Find r) h = (in_call _ h.0, h.1, h.2)
  claim (phase.Grow c) h = (in_call _ h.0, h.1, h.2, list-kept Exclusive _ h.2 h.3)
  claim (phase.Append k v) h = (
    record { insertion = h.0.insertion; inserts = h.0.inserts; in_call = in_call _ h.0.in_call },
    before_deed k None h.1,
    list-kept Exclusive _ h.1.alone h.2,
  )
  claim (phase.Apply k) h = (h.0, in_call _ h.1, before_deed (keyed_key k) (Some h.0) h.2)
  claim (phase.View k d) h = (h.0, in_call _ h.1, h.2, h.3, list-kept Shared _ h.3 h.4)
  claim (phase.Read d) h = (h.0, in_call _ h.1, h.2, ready p.next p.block h.3)
  claim (phase.Change k) h = (h.0, in_call _ h.1, h.2, h.3, h.4, ready p.next p.block h.5)
  claim (phase.Fill v) h = (h.0, in_call _ h.1, h.2, h.3, ready p.next p.block h.4)
  claim phase.Downgrade h = (in_call _ h.0, h.1, h.2, ready p.next p.block h.3)
  claim (phase.Idle f) h = (in_call _ h.0, h.1, h.2)
  claim (phase.Reach f) h = (in_call _ h.0, h.1, h.2)
  claim (phase.Part f) h = (in_call _ h.0, h.1, h.2)
  claim (phase.Visit f) h = (in_call _ h.0, h.1, h.2)
  claim (phase.Seek f) h = (in_call _ h.0, h.1, h.2)
  claim (phase.Item f) h = (in_call _ h.0, h.1, h.2)
  claim (phase.Give f) h = (in_call _ h.0, h.1, h.2, h.3)
  claim (phase.Onward f) h = (in_call _ h.0, h.1, h.2)
  claim (phase.Release r) h = (h.0, h.1, in_call h.0 h.2, h.3, releasing h.0 r p.guard h.2.asked h.4)
  claim (phase.Answer r) h =
      (h.0, in_call h.0 h.1, h.2, answered p.next h.0 r h.1.asked h.3, ready (p.next + 1) (block_after p) h.4)

  -- a walk's visits so far
  module _ (f : Walk D) (asked : ask_at x u p.next ≡ Some (ask.Walk f)) where
    abbrev so_far : HasVisited x bs u p f → HasVisited x bs' u p f
    so_far h =
        let k = visits-kept x bs bs' u F blocks p.next f asked in
        record {
          visits = h.visits;
          named = h.named;
          visited = visited-kept x bs bs' u p.next f k h.visits h.visited;
          reads = h.reads ∙ sym (reads-kept x bs bs' u p.next f k h.visits h.visited);
          count = h.count;
        }

    between : (n : ℕ) → IsBetweenVisits x bs u p f n → IsBetweenVisits x bs' u p f n
    between n h =
        let k = visits-kept x bs bs' u F blocks p.next f asked in
        record {
          so_far = so_far h.so_far;
          number = h.number;
          whole = all-kept x bs bs' u p.next f k h.so_far.visits h.so_far.visited h.whole;
          left = h.left;
          goes_on = h.goes_on;
        }

    within : HoldsShard p (walk_mode f) → IsWithinVisit x bs tables u p f → IsWithinVisit x bs' tables' u p f
    within holds h =
        let is = h.so_far.visited.are p.shard (record { place = h.index; block = h.block }) h.own in
        record {
          so_far = so_far h.so_far;
          items = h.items;
          number = h.number;
          within = h.within;
          goes_on = h.goes_on;
          index = h.index;
          block = h.block;
          own = h.own;
          table = h.table;
          held = kept (walk_mode f) holds ∙ h.held;
          there = λ q on.
              h.there q on
              ∙ ap (left x h.block q)
              (sym (blocks.turns h.index h.block is.listed q
              (visit-shard x f h.block u p.next asked is.thread is.call (x.route q) (on ∙ sym is.visit))));
          some = h.some;
          last = λ alone. blocks.last h.index h.block is.listed
              (foreign h.block alone (visit-works_there x p f h.block u p.next asked is.thread is.call is.visit))
              (h.last alone);
        }

  walks : (f : Phase K V D T A) → Claim x threads bs tables u p f → Walks x bs tables u p f → Walks x bs' tables' u p f
  walks phase.Rest c h = h
  walks (phase.Admit r) c h = h
  walks (phase.Find r) c h = h
  walks (phase.Grow g) c h = h
  walks (phase.Append k v) c h = h
  walks (phase.Apply k) c h = h
  walks (phase.View k d) c h = h
  walks (phase.Read d) c h = h
  walks (phase.Change k) c h = h
  walks (phase.Fill v) c h = h
  walks phase.Downgrade c h = h
  walks (phase.Idle f) c h = h
  walks (phase.Reach f) c h = between f c.0.asked p.shard h
  walks (phase.Part f) c h = between f c.0.asked p.shard h
  walks (phase.Visit f) c h = between f c.0.asked p.shard h
  walks (phase.Seek f) c h = within f c.0.asked c.2 h
  walks (phase.Item f) c h = within f c.0.asked c.2 h
  walks (phase.Give f) c h = between f c.0.asked (p.shard + 1) h
  walks (phase.Onward f) c h = between f c.0.asked (p.shard + 1) h
  walks (phase.Release r) c h = h
  walks (phase.Answer r) c h = h

  own_visits : HasOwnVisits x bs u p → HasOwnVisits x bs' u p
  own_visits h = record {
    are = λ i in_.
        let v = h.are i in_ in
        record {
          block = v.block;
          listed = blocks.kept i v.block v.listed v.thread;
          thread = v.thread;
          call = v.call;
          end = v.end;
          walk = v.walk;
          asked = v.asked;
          apart = v.apart;
        };
    once = h.once;
  }

  pub stands-on : Stands x threads bs replies tables u p → Stands x (threads ++ s ∷ []) bs' replies' tables' u p
  stands-on h = record {
    program = h.program;
    has = h.has;
    asks_left = h.asks_left;
    within = h.within;
    answered = h.answered ∙ sym count;
    owns = λ i b at own. h.owns i b (blocks.back i b at own) own;
    own_block = λ i mine. let o = h.own_block i mine in (o.0, blocks.kept i o.0 o.1 o.2, o.2);
    own_visits = own_visits h.own_visits;
    claim = claim p.phase h.claim;
    walks = walks p.phase h.claim h.walks;
  }
