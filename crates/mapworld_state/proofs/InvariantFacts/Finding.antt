-- A find lists the call's block at its position, or finds that the shard has to grow first.
use Rattle.std.proofs.Common.{◌≡◌, ◌≢◌, ℕ, ◌+◌, ◌≤◌, inl, Bool, true, false, if◌then◌else◌, List, [], ◌∷◌}
use Rattle.std.proofs.Common.{◌++◌, length, drop, Option, Some, None, is_some, slice_get, slice_set, refl, ap}
use Rattle.std.proofs.Common.{sym, ◌∙◌, subst, arith}
use Rattle.mapworld_state.specs.Shards.{ShardPairs, has_room}
use Rattle.std.proofs.Math.ListN.{length-set}
use Rattle.std.proofs.lemmas.Option.{same_Some, none-some}
use Rattle.std.proofs.lemmas.Bool.{false≢true, lt-ltb}
use Rattle.mapworld_calls.specs.declared.ask.Ask.TheVariants as ask
use Rattle.mapworld_calls.specs.declared.ask.Keyed.{Keyed}
use Rattle.mapworld_calls.specs.declared.ask.Keyed.TheVariants as keyed
use Rattle.mapworld_calls.specs.declared.ask.Begin.{Begin}
use Rattle.mapworld_calls.specs.declared.ask.Begin.TheVariants as begin
use Rattle.mapworld_calls.specs.declared.block.Block.{Block}
use Rattle.mapworld_calls.specs.declared.reply.Answer.{Answer}
use Rattle.mapworld_calls.specs.declared.reply.Answer.TheVariants as answer
use Rattle.mapworld_calls.specs.Calls.{free, vacant, pair_in, keyed_answer, keyed_leaves}
use Rattle.mapworld_calls.specs.Calls.{opening_answer, opened}
use Rattle.mapworld_calls.specs.Programs.{keyed_key, key_of}
use Rattle.mapworld_calls.specs.Setup.{Setup, Laws}
use Rattle.mapworld_calls.specs.Pairs.{pair_of}
use Rattle.mapworld_calls.specs.Replay.{contents, before}
use Rattle.mapworld_calls.specs.Agrees.{IsToldBy}
use Rattle.mapworld_calls.proofs.Lists.{slice_get-set_same}
use Rattle.mapworld_state.specs.declared.holds.Mode.{Mode}
use Rattle.mapworld_state.specs.declared.holds.Mode.TheVariants.{Shared, Exclusive}
use Rattle.mapworld_state.specs.declared.step.Step.{Step}
use Rattle.mapworld_state.specs.declared.place.Request.{Request}
use Rattle.mapworld_state.specs.declared.place.Request.TheVariants as request
use Rattle.mapworld_state.specs.declared.place.Guard.{Guard}
use Rattle.mapworld_state.specs.declared.place.Guard.TheVariants as guard
use Rattle.mapworld_state.specs.declared.place.Growth.{Growth}
use Rattle.mapworld_state.specs.declared.place.Growth.TheVariants as growth
use Rattle.mapworld_state.specs.declared.place.Phase.{Phase}
use Rattle.mapworld_state.specs.declared.place.Phase.TheVariants as phase
use Rattle.mapworld_state.specs.Places.{Place}
use Rattle.mapworld_state.specs.State.{State, threads_of, started_of}
use Rattle.mapworld_state.specs.Moves.{request_key, keyed_mode, opening_way, opening_mode, mode_of, stepped}
use Rattle.mapworld_state.specs.Moves.{request_of, growth_key, found_phase, found_done, found_guard, block_behind}
use Rattle.mapworld_state.specs.Moves.{ListsBlock}
use Rattle.mapworld_state.specs.Steps.{Finds, GrowsShard, Views}
use Rattle.mapworld_state.specs.Sound.{is_resting, may_own, block_after, HoldsShard, IsInCall, IsOnItsWay}
use Rattle.mapworld_state.specs.Sound.{HasPairs, Claim}
use Rattle.mapworld_state.specs.Sound.{HasNoWalk, TablesAgree, Sound}
use Rattle.mapworld_state.proofs.InvariantFacts.Others.{IsInCall-push}
use Rattle.mapworld_state.proofs.InvariantFacts.Timing.{placed-same}
use Rattle.mapworld_state.proofs.InvariantFacts.Holding.{holds-same, owes-none, stand-at}
use Rattle.mapworld_state.proofs.InvariantFacts.Building.{Goes, in_call-moved, holds-moved, tables-same, tables-grown}
use Rattle.mapworld_state.proofs.InvariantFacts.Building.{started-stays, sound-by, claim-at, taken-at, within-at}
use Rattle.mapworld_state.proofs.InvariantFacts.Building.{none-at, none-moved, no-visits}
use Rattle.mapworld_state.proofs.InvariantFacts.Building.{ready-outside}
use Rattle.mapworld_state.proofs.InvariantFacts.Admitting.{leaves-same, kept-alone, owns-on, keyed-apart, begin-apart}
use Rattle.mapworld_state.proofs.InvariantFacts.Listing.{new-key, sound-listed, contents-listed}
use Rattle.mapworld_state.specs.Sound.{Inserts}
use Rattle.std.proofs.Common.{inr}
use Rattle.mapworld_state.proofs.InvariantFacts.NewBlocks.{before-deed, done-none, opened-done, opened-quiet}
use Rattle.mapworld_state.proofs.InvariantFacts.NewBlocks.{opened-some, quiet-none, reached-new, ready-inside, session-new}
use Rattle.mapworld_state.proofs.InvariantFacts.NewBlocks.{has-now, told-new}

module _ {K V S D T A : Type 0} (x : Setup K V D T) (laws : Laws x) (w : State K V S D T A) (s : Step) (sound : Sound x w) where
  -- the world behind a find
  abbrev pub Found : Place K V D T A → Request K V D → Bool → Bool → List (Block K) → Type 0
  Found p r there room blocks =
      Goes x s.thread w (record (stepped w s (record p { block = block_behind (found_done r there room) (length w.blocks) p.block; guard = found_guard r there room; phase = found_phase r there room })) { blocks = blocks })

  module _ (p : Place K V D T A) (at : slice_get w.places s.thread ≡ Some p) (table : ShardPairs K V) (held : slice_get w.tables p.shard ≡ Some table) where
    -- it is in no walk
    still : (f : Phase K V D T A) → p.phase ≡ f → may_own f ≡ false → (p' : Place K V D T A) → p'.visits ≡ p.visits → p'.reads ≡ p.reads → p'.count ≡ p.count → HasNoWalk p'
    still f before unowned p' visits reads count =
        none-moved p p' visits reads count (none-at x (threads_of w) w.blocks w.replies w.tables s.thread p f before (sound.stands s.thread p at) unowned)

    -- a call on one key that has its deed to come
    found-deed : (k : Keyed K V D) → p.phase ≡ phase.Find (request.Keyed k) → keyed_mode k ≡ Exclusive → (pair : K × V) → pair_of x.eq table.items (keyed_key k) ≡ Some pair
        → (blocks : List (Block K)) → ListsBlock w s.thread p (Some 0) blocks
        → Goes x s.thread w (record (stepped w s (record p { block = Some (length w.blocks); guard = None; phase = phase.Apply k })) { blocks = blocks })
    found-deed k before alone pair is blocks listed =
        let r : Request K V D = request.Keyed k in
        let key : K = keyed_key k in
        let st = sound.stands s.thread p at in
        let c = claim-at x (threads_of w) w.blocks w.replies w.tables s.thread p (phase.Find r) before st in
        let holds : HoldsShard p Exclusive = subst (λ (m : Mode). HoldsShard p m) alone c.2 in
        let p' : Place K V D T A = record p { block = Some (length w.blocks); guard = None; phase = phase.Apply k } in
        let not_yet : may_own p.phase ≡ false = ap may_own before in
        let l = listed.1 in
        let none' : HasNoWalk p' = still (phase.Find r) before refl p' refl refl refl in
        subst (λ (z : List (Block K)). Goes x s.thread w (record (stepped w s p') { blocks = z })) (sym listed.2)
        (sound-listed x laws w s sound p at _ c.0 key refl Exclusive holds c.1.shard not_yet 0 listed.0 l p' refl refl refl refl none' refl (λ o z. z)
        (done-none x w s (started_of (stepped w s p')) (w.blocks ++ listed.0 ∷ []) (length w.blocks) p listed.0 k 0 (omega arith) l) w.tables refl (λ u q m ne hq h. refl) (
          pair,
          IsInCall-push x (threads_of w) s.thread s.thread p' _ (in_call-moved x p p' (threads_of w) s.thread _ refl refl refl c.0),
          before-deed x laws w s sound p at _ c.0 key refl c.1.shard not_yet table held listed.0 holds l p' (Some pair) is refl refl refl refl refl,
        )
        none'
        (taken-at x (threads_of w) w.blocks w.replies w.tables s.thread p (phase.Find r) before st)
        (within-at x (threads_of w) w.blocks w.replies w.tables s.thread p (phase.Find r) before st)
        (tables-same x w.blocks (w.blocks ++ listed.0 ∷ []) w.tables sound.tables
        (contents-listed x laws w s sound p at _ c.0 key refl Exclusive holds c.1.shard not_yet 0 listed.0 l (quiet-none x laws w s sound p at _ c.0 key refl c.1.shard not_yet table held listed.0 l))))

    -- a call on one key that this step has done, since it leaves what it found
    done-whole : (k : Keyed K V D) (f : Phase K V D T A) → p.phase ≡ f → is_resting f ≡ false → may_own f ≡ false
        → IsInCall x (threads_of w) s.thread p (ask.Keyed k) → IsOnItsWay x p (keyed_key k) → HoldsShard p (keyed_mode k)
        → (o : Option (K × V)) → pair_of x.eq table.items (keyed_key k) ≡ o
        → keyed_leaves x.deeds k o ≡ o → (a : Answer K V T A) → keyed_answer x.deeds k o ≡ a
        → (blocks : List (Block K)) → ListsBlock w s.thread p (Some 1) blocks
        → Goes x s.thread w (record (stepped w s (record p { block = Some (length w.blocks); guard = None; phase = phase.Release a })) { blocks = blocks })
    done-whole k f before busy unowned call way holds o is leaves a answered blocks listed =
        let key : K = keyed_key k in
        let st = sound.stands s.thread p at in
        let p' : Place K V D T A = record p { block = Some (length w.blocks); guard = None; phase = phase.Release a } in
        let not_yet : may_own p.phase ≡ false = ap may_own before ∙ unowned in
        let l = listed.1 in
        let outside = keyed-apart x w s.thread sound p st k call.asked in
        let closes : block_after p' ≡ None = ap (λ (b : Bool). if b then None else Some (length w.blocks)) call.closes in
        let none' : HasNoWalk p' = still f before unowned p' refl refl refl in
        subst (λ (z : List (Block K)). Goes x s.thread w (record (stepped w s p') { blocks = z })) (sym listed.2)
        (sound-listed x laws w s sound p at _ call key refl (keyed_mode k) holds way.shard not_yet 1 listed.0 l p' refl refl refl refl none' refl (λ o z. z)
        (done-none x w s (started_of (stepped w s p')) (w.blocks ++ listed.0 ∷ []) (length w.blocks) p listed.0 k 1 (omega arith) l) w.tables refl (λ u q m ne hq h. refl) (
          ask.Keyed k,
          holds.hold,
          IsInCall-push x (threads_of w) s.thread s.thread p' _ (in_call-moved x p p' (threads_of w) s.thread _ refl refl refl call),
          holds.has,
          (
            inl (subst (λ (z : Answer K V T A). IsToldBy x (w.blocks ++ listed.0 ∷ []) s.thread p.next 0 z) answered
                (told-new x laws w s sound p at _ call key refl way.shard not_yet table held listed.0 (keyed_mode k) holds l o is)),
            ready-outside x (w.blocks ++ listed.0 ∷ []) w.tables s.thread p' (p.next + 1) (block_after p') outside.1 refl closes,
          ),
        )
        none'.reads
        (subst (λ (z : Bool). p.asks ≡ drop (if z then p.next else p.next + 1) st.program) busy
        (taken-at x (threads_of w) w.blocks w.replies w.tables s.thread p f before st))
        (subst (λ (z : Bool). (if z then p.next else p.next + 1) ≤ length st.program) busy
        (within-at x (threads_of w) w.blocks w.replies w.tables s.thread p f before st))
        (tables-same x w.blocks (w.blocks ++ listed.0 ∷ []) w.tables sound.tables
        (contents-listed x laws w s sound p at _ call key refl (keyed_mode k) holds way.shard not_yet 1 listed.0 l
        (λ u h.
        let same : u ≡ o = sym h ∙ has-now x laws w s sound p at _ call key refl way.shard not_yet table held listed.0 ∙ is in
        ap pair_in (reached-new x laws w s sound p at _ call key refl way.shard not_yet table held listed.0 l u) ∙ ap (keyed_leaves x.deeds k) same ∙ leaves ∙ sym same))))

    found-whole : (k : Keyed K V D) → p.phase ≡ phase.Find (request.Keyed k) → (o : Option (K × V)) → pair_of x.eq table.items (keyed_key k) ≡ o
        → keyed_leaves x.deeds k o ≡ o → (a : Answer K V T A) → keyed_answer x.deeds k o ≡ a
        → (blocks : List (Block K)) → ListsBlock w s.thread p (Some 1) blocks
        → Goes x s.thread w (record (stepped w s (record p { block = Some (length w.blocks); guard = None; phase = phase.Release a })) { blocks = blocks })
    found-whole k before =
        let f : Phase K V D T A = phase.Find (request.Keyed k) in
        let c = claim-at x (threads_of w) w.blocks w.replies w.tables s.thread p f before (sound.stands s.thread p at) in
        done-whole k f before refl refl c.0 c.1 c.2

    -- a call whose pair the shard has no room for
    found-full : (g : Growth K V) → p.phase ≡ phase.Find (request_of g) → request_key (request_of {D = D} g) ≡ growth_key g → mode_of (request_of {D = D} g) ≡ Exclusive
        → pair_of x.eq table.items (growth_key g) ≡ None → has_room table ≡ false → (blocks : List (Block K)) → blocks ≡ w.blocks
        → Goes x s.thread w (record (stepped w s (record p { guard = None; phase = phase.Grow g })) { blocks = blocks })
    found-full g before key-is alone is full blocks listed =
        let f : Phase K V D T A = phase.Find (request_of g) in
        let st = sound.stands s.thread p at in
        let c = claim-at x (threads_of w) w.blocks w.replies w.tables s.thread p f before st in
        let way : IsOnItsWay x p (growth_key g) = subst (λ (k : K). IsOnItsWay x p k) key-is c.1 in
        let holds : HoldsShard p Exclusive = subst (λ (m : Mode). HoldsShard p m) alone c.2 in
        let p' : Place K V D T A = record p { guard = None; phase = phase.Grow g } in
        let none' : HasNoWalk p' = still f before refl p' refl refl refl in
        subst (λ (z : List (Block K)). Goes x s.thread w (record (stepped w s p') { blocks = z })) (sym listed)
        (sound-by x w s p p' at sound w.blocks w.tables w.locks w.replies _ (leaves-same x w s p p' at sound _)
        (record {
          program = st.program;
          has = st.has;
          asks_left = taken-at x (threads_of w) w.blocks w.replies w.tables s.thread p f before st;
          within = within-at x (threads_of w) w.blocks w.replies w.tables s.thread p f before st;
          answered = st.answered;
          own_block = st.own_block;
          own_visits = no-visits x w.blocks s.thread p' none'.visits;
          owns = owns-on w.blocks s.thread p p' st.owns refl refl refl (λ own. absurd (false≢true (sym (ap may_own before) ∙ own)));
          walks = none';
          claim = (
            IsInCall-push x (threads_of w) s.thread s.thread p' _ (in_call-moved x p p' (threads_of w) s.thread _ refl refl refl c.0),
            record { block = way.block; guard = refl; shard = way.shard },
            holds-moved x p p' Exclusive refl refl holds,
            record { table = table; held = held; so = (is, full) },
          );
        })
        (tables-same x w.blocks w.blocks w.tables sound.tables (λ q. refl))
        (holds-same w.places w.locks sound.holds s.thread p p' at refl (stand-at w.places w.locks sound.holds s.thread p at f before))
        (placed-same x (threads_of w) s.thread (started_of w) (started_of (stepped w s p')) w.blocks w.replies (started-stays x w s p p' at (λ n h. h)) sound.placed)
        sound.replies)

    -- an opening that gives no guard
    found-nothing : (b : Begin K) → p.phase ≡ phase.Find (request.Begin b) → pair_of x.eq table.items (request_key {V = V} {D = D} (request.Begin b)) ≡ None
        → opened {V = V} b None ≡ free None → opening_answer {V = V} {T = T} {A = A} b None ≡ answer.None
        → (blocks : List (Block K)) → ListsBlock w s.thread p (Some 1) blocks
        → Goes x s.thread w (record (stepped w s (record p { block = Some (length w.blocks); guard = None; phase = phase.Release answer.None })) { blocks = blocks })
    found-nothing b before is leaves answers blocks listed =
        let r : Request K V D = request.Begin b in
        let k = request_key r in
        let key : key_of {V = V} {D = D} (ask.Begin b) ≡ Some k = refl in
        let st = sound.stands s.thread p at in
        let c = claim-at x (threads_of w) w.blocks w.replies w.tables s.thread p (phase.Find r) before st in
        let p' : Place K V D T A = record p { block = Some (length w.blocks); guard = None; phase = phase.Release answer.None } in
        let not_yet : may_own p.phase ≡ false = ap may_own before in
        let l = listed.1 in
        let inside = begin-apart x w s.thread sound p st b c.0.asked in
        let stays : Some (length w.blocks) ≡ block_after p' = sym (ap (λ (b : Bool). if b then None else Some (length w.blocks)) c.0.closes) in
        let session = session-new x laws w s sound p at _ c.0 k key c.1.shard not_yet table held listed.0 (mode_of r) c.2 l w.tables p' None is refl (None, leaves) (λ g k' e own. absurd (none-some g e)) in
        let none' : HasNoWalk p' = still (phase.Find r) before refl p' refl refl refl in
        subst (λ (z : List (Block K)). Goes x s.thread w (record (stepped w s p') { blocks = z })) (sym listed.2)
        (sound-listed x laws w s sound p at _ c.0 k key (mode_of r) c.2 c.1.shard not_yet 1 listed.0 l p' refl refl refl refl none' refl (λ o z. z)
        (opened-done x w s (started_of (stepped w s p')) (w.blocks ++ listed.0 ∷ []) (length w.blocks) p listed.0 b l) w.tables refl (λ u q m ne hq h. refl) (
          ask.Begin b,
          c.2.hold,
          IsInCall-push x (threads_of w) s.thread s.thread p' _ (in_call-moved x p p' (threads_of w) s.thread _ refl refl refl c.0),
          c.2.has,
          (
            inl (subst (λ (z : Answer K V T A). IsToldBy x (w.blocks ++ listed.0 ∷ []) s.thread p.next 0 z) answers
                (told-new x laws w s sound p at _ c.0 k key c.1.shard not_yet table held listed.0 (mode_of r) c.2 l None is)),
            ready-inside x (w.blocks ++ listed.0 ∷ []) w.tables s.thread p' (p.next + 1) p.next (length w.blocks) (block_after p') inside.1 stays session,
          ),
        )
        none'.reads
        (taken-at x (threads_of w) w.blocks w.replies w.tables s.thread p (phase.Find r) before st)
        (within-at x (threads_of w) w.blocks w.replies w.tables s.thread p (phase.Find r) before st)
        (tables-same x w.blocks (w.blocks ++ listed.0 ∷ []) w.tables sound.tables
        (contents-listed x laws w s sound p at _ c.0 k key (mode_of r) c.2 c.1.shard not_yet 1 listed.0 l
        (λ o h. ap pair_in (reached-new x laws w s sound p at _ c.0 k key c.1.shard not_yet table held listed.0 l o) ∙ opened-quiet b o))))

    -- an entry on an absent key for whose pair the shard has room, perhaps since it has grown
    entered : (b : Begin K) (k : K) → key_of {V = V} {D = D} (ask.Begin b) ≡ Some k → opened {V = V} b None ≡ vacant k
        → opening_answer {V = V} {T = T} {A = A} b None ≡ answer.Vacant → (f : Phase K V D T A) → p.phase ≡ f
        → is_resting f ≡ false → may_own f ≡ false
        → IsInCall x (threads_of w) s.thread p (ask.Begin b) → IsOnItsWay x p k → HoldsShard p Exclusive
        → pair_of x.eq table.items k ≡ None → (blocks : List (Block K)) → ListsBlock w s.thread p (Some 1) blocks
        → (tables' : List (ShardPairs K V)) → length tables' ≡ length w.tables
        → ((u : ℕ) (q : Place K V D T A) (m : Mode) → u ≢ s.thread → slice_get w.places u ≡ Some q → HoldsShard q m → slice_get tables' q.shard ≡ slice_get w.tables q.shard)
        → HasPairs tables' p.shard (λ t. (has_room t ≡ true) × (pair_of x.eq t.items k ≡ None))
        → ((d : Block K) → ((q : K) → contents x (w.blocks ++ d ∷ []) q ≡ contents x w.blocks q) → TablesAgree x (w.blocks ++ d ∷ []) tables')
        → Goes x s.thread w (record (stepped w s (record p { block = Some (length w.blocks); guard = Some (guard.Vacant k); phase = phase.Answer answer.Vacant })) { tables = tables'; blocks = blocks })
    entered b k key opens answers f before busy unowned call way holds is blocks listed tables' shards kept roomy agree =
        let st = sound.stands s.thread p at in
        let p' : Place K V D T A = record p { block = Some (length w.blocks); guard = Some (guard.Vacant k); phase = phase.Answer answer.Vacant } in
        let not_yet : may_own p.phase ≡ false = ap may_own before ∙ unowned in
        let l = listed.1 in
        let d = listed.0 in
        let inside = begin-apart x w s.thread sound p st b call.asked in
        let stays : Some (length w.blocks) ≡ block_after p' = sym (ap (λ (b : Bool). if b then None else Some (length w.blocks)) call.closes) in
        let session = session-new x laws w s sound p at _ call k key way.shard not_yet table held d Exclusive holds l tables' p' None is refl
        (opens, holds-moved x p p' Exclusive refl refl holds, record { table = roomy.table; held = roomy.held; so = roomy.so.0 })
        (λ g k' e own. record {
          table = roomy.table;
          held = roomy.held;
          so = subst (λ (z : K). pair_of x.eq roomy.table.items z ≡ pair_in (opened {V = V} b None))
              (same_Some k k' (sym (new-key x laws w s sound p at _ call k key Exclusive holds way.shard not_yet 1 d l)
              ∙ own)) (roomy.so.1 ∙ sym (opened-quiet b None));
        }) in
        let none' : HasNoWalk p' = still f before unowned p' refl refl refl in
        subst (λ (z : List (Block K)). Goes x s.thread w (record (stepped w s p') { tables = tables'; blocks = z })) (sym listed.2)
        (sound-listed x laws w s sound p at _ call k key Exclusive holds way.shard not_yet 1 d l p' refl refl refl refl none' refl (owes-none p')
        (opened-done x w s (started_of (stepped w s p')) (w.blocks ++ d ∷ []) (length w.blocks) p d b l) tables' shards kept (
          ask.Begin b,
          IsInCall-push x (threads_of w) s.thread s.thread p' _ (in_call-moved x p p' (threads_of w) s.thread _ refl refl refl call),
          (λ h. absurd (none-some (guard.Vacant k) (sym h))),
          inl (subst (λ (z : Answer K V T A). IsToldBy x (w.blocks ++ d ∷ []) s.thread p.next 0 z) answers
              (told-new x laws w s sound p at _ call k key way.shard not_yet table held d Exclusive holds l None is)),
          ready-inside x (w.blocks ++ d ∷ []) tables' s.thread p' (p.next + 1) p.next (length w.blocks) (block_after p') inside.1 stays session,
        )
        none'.reads
        (subst (λ (z : Bool). p.asks ≡ drop (if z then p.next else p.next + 1) st.program) busy
        (taken-at x (threads_of w) w.blocks w.replies w.tables s.thread p f before st))
        (subst (λ (z : Bool). (if z then p.next else p.next + 1) ≤ length st.program) busy
        (within-at x (threads_of w) w.blocks w.replies w.tables s.thread p f before st))
        (agree d
        (contents-listed x laws w s sound p at _ call k key Exclusive holds way.shard not_yet 1 d l
        (λ o h. ap pair_in (reached-new x laws w s sound p at _ call k key way.shard not_yet table held d l o) ∙ opened-quiet b o))))

    found-vacant : (b : Begin K) (k : K) → p.phase ≡ phase.Find (request.Begin b) → key_of {V = V} {D = D} (ask.Begin b) ≡ Some k → opened {V = V} b None ≡ vacant k → opening_answer {V = V} {T = T} {A = A} b None ≡ answer.Vacant
        → opening_mode b ≡ Exclusive → pair_of x.eq table.items k ≡ None → has_room table ≡ true → (blocks : List (Block K)) → ListsBlock w s.thread p (Some 1) blocks
        → Goes x s.thread w (record (stepped w s (record p { block = Some (length w.blocks); guard = Some (guard.Vacant k); phase = phase.Answer answer.Vacant })) { blocks = blocks })
    found-vacant b k before key opens answers alone is roomy blocks listed =
        let f : Phase K V D T A = phase.Find (request.Begin b) in
        let c = claim-at x (threads_of w) w.blocks w.replies w.tables s.thread p f before (sound.stands s.thread p at) in
        entered b k key opens answers f before refl refl c.0 (subst (λ (j : K). IsOnItsWay x p j) (same_Some (request_key {V = V} {D = D} (request.Begin b)) k key) c.1) (subst (λ (m : Mode). HoldsShard p m) alone c.2)
        is blocks listed w.tables refl (λ u q m ne hq h. refl)
        (record { table = table; held = held; so = (roomy, is) })
        (λ d same. tables-same x w.blocks (w.blocks ++ d ∷ []) w.tables sound.tables same)

    -- a call whose pair is to be added, where the shard has room for it
    found-append : (k : K) (v : V) (call : Keyed K V D) → Inserts call k v → keyed_key call ≡ k → keyed_mode call ≡ Exclusive
        → p.phase ≡ phase.Find (request.Keyed call) → pair_of x.eq table.items k ≡ None → has_room table ≡ true
        → (blocks : List (Block K)) → ListsBlock w s.thread p (Some 0) blocks
        → Goes x s.thread w (record (stepped w s (record p { block = Some (length w.blocks); guard = None; phase = phase.Append k v })) { blocks = blocks })
    found-append k v call inserts key alone before is roomy blocks listed =
        let r : Request K V D = request.Keyed call in
        let st = sound.stands s.thread p at in
        let c = claim-at x (threads_of w) w.blocks w.replies w.tables s.thread p (phase.Find r) before st in
        let way : IsOnItsWay x p k = subst (λ (j : K). IsOnItsWay x p j) key c.1 in
        let holds : HoldsShard p Exclusive = subst (λ (m : Mode). HoldsShard p m) alone c.2 in
        let its : key_of {V = V} {D = D} (ask.Keyed call) ≡ Some k = ap (λ j. Some j) key in
        let p' : Place K V D T A = record p { block = Some (length w.blocks); guard = None; phase = phase.Append k v } in
        let not_yet : may_own p.phase ≡ false = ap may_own before in
        let l = listed.1 in
        let none' : HasNoWalk p' = still (phase.Find r) before refl p' refl refl refl in
        subst (λ (z : List (Block K)). Goes x s.thread w (record (stepped w s p') { blocks = z })) (sym listed.2)
        (sound-listed x laws w s sound p at _ c.0 k its Exclusive holds way.shard not_yet 0 listed.0 l p' refl refl refl refl none' refl (λ o z. z)
        (done-none x w s (started_of (stepped w s p')) (w.blocks ++ listed.0 ∷ []) (length w.blocks) p listed.0 call 0 (omega arith) l) w.tables refl (λ u q m ne hq h. refl) (
          record {
            insertion = call;
            inserts = inserts;
            in_call = IsInCall-push x (threads_of w) s.thread s.thread p' _ (in_call-moved x p p' (threads_of w) s.thread _ refl refl refl c.0);
          },
          before-deed x laws w s sound p at _ c.0 k its way.shard not_yet table held listed.0 holds l p' None is refl refl refl refl refl,
          record { table = table; held = held; so = roomy },
        )
        none'
        (taken-at x (threads_of w) w.blocks w.replies w.tables s.thread p (phase.Find r) before st)
        (within-at x (threads_of w) w.blocks w.replies w.tables s.thread p (phase.Find r) before st)
        (tables-same x w.blocks (w.blocks ++ listed.0 ∷ []) w.tables sound.tables
        (contents-listed x laws w s sound p at _ c.0 k its Exclusive holds way.shard not_yet 0 listed.0 l (quiet-none x laws w s sound p at _ c.0 k its way.shard not_yet table held listed.0 l))))

    found-by : (r : Request K V D) → p.phase ≡ phase.Find r → (o : Option (K × V)) → pair_of x.eq table.items (request_key r) ≡ o → (room : Bool) → has_room table ≡ room
        → (blocks : List (Block K)) → ListsBlock w s.thread p (found_done r (is_some o) room) blocks → Found p r (is_some o) room blocks
    found-by (request.Keyed (keyed.Insert k v)) before (Some pair) is room roomy blocks listed = found-deed (keyed.Insert k v) before refl pair is blocks listed
    found-by (request.Keyed (keyed.Insert k v)) before None is true roomy blocks listed =
        found-append k v (keyed.Insert k v) (inl refl) refl refl before is roomy blocks listed
    found-by (request.Keyed (keyed.Insert k v)) before None is false full blocks listed = found-full (growth.Insert k v) before refl refl is full blocks listed
    found-by (request.Keyed (keyed.Remove k)) before (Some pair) is room roomy blocks listed = found-deed (keyed.Remove k) before refl pair is blocks listed
    found-by (request.Keyed (keyed.Remove k)) before None is room roomy blocks listed =
        found-whole (keyed.Remove k) before None is refl answer.None refl blocks listed
    found-by (request.Keyed (keyed.RemoveIf k d)) before (Some pair) is room roomy blocks listed = found-deed (keyed.RemoveIf k d) before refl pair is blocks listed
    found-by (request.Keyed (keyed.RemoveIf k d)) before None is room roomy blocks listed =
        found-whole (keyed.RemoveIf k d) before None is refl answer.None refl blocks listed
    found-by (request.Keyed (keyed.RemoveIfMut k d)) before (Some pair) is room roomy blocks listed = found-deed (keyed.RemoveIfMut k d) before refl pair is blocks listed
    found-by (request.Keyed (keyed.RemoveIfMut k d)) before None is room roomy blocks listed =
        found-whole (keyed.RemoveIfMut k d) before None is refl answer.None refl blocks listed
    found-by (request.Keyed (keyed.Alter k d)) before (Some pair) is room roomy blocks listed = found-deed (keyed.Alter k d) before refl pair is blocks listed
    found-by (request.Keyed (keyed.Alter k d)) before None is room roomy blocks listed =
        found-whole (keyed.Alter k d) before None is refl answer.Done refl blocks listed
    found-by (request.Keyed (keyed.View k d)) before (Some pair) is room roomy blocks listed =
        let r : Request K V D = request.Keyed (keyed.View k d) in
        let st = sound.stands s.thread p at in
        let c = claim-at x (threads_of w) w.blocks w.replies w.tables s.thread p (phase.Find r) before st in
        let p' : Place K V D T A = record p { guard = None; phase = phase.View k d } in
        let none' : HasNoWalk p' = still (phase.Find r) before refl p' refl refl refl in
        subst (λ (z : List (Block K)). Goes x s.thread w (record (stepped w s p') { blocks = z })) (sym listed)
        (sound-by x w s p p' at sound w.blocks w.tables w.locks w.replies _ (leaves-same x w s p p' at sound _)
        (record {
          program = st.program;
          has = st.has;
          asks_left = taken-at x (threads_of w) w.blocks w.replies w.tables s.thread p (phase.Find r) before st;
          within = within-at x (threads_of w) w.blocks w.replies w.tables s.thread p (phase.Find r) before st;
          answered = st.answered;
          own_block = st.own_block;
          own_visits = no-visits x w.blocks s.thread p' none'.visits;
          owns = owns-on w.blocks s.thread p p' st.owns refl refl refl (λ own. absurd (false≢true (sym (ap may_own before) ∙ own)));
          walks = none';
          claim = (
            pair,
            IsInCall-push x (threads_of w) s.thread s.thread p' _ (in_call-moved x p p' (threads_of w) s.thread _ refl refl refl c.0),
            record { block = c.1.block; guard = refl; shard = c.1.shard },
            holds-moved x p p' Shared refl refl c.2,
            record { table = table; held = held; so = is },
          );
        })
        (tables-same x w.blocks w.blocks w.tables sound.tables (λ q. refl))
        (holds-same w.places w.locks sound.holds s.thread p p' at refl (stand-at w.places w.locks sound.holds s.thread p at (phase.Find r) before))
        (placed-same x (threads_of w) s.thread (started_of w) (started_of (stepped w s p')) w.blocks w.replies (started-stays x w s p p' at (λ n h. h)) sound.placed)
        sound.replies)
    found-by (request.Keyed (keyed.View k d)) before None is room roomy blocks listed =
        found-whole (keyed.View k d) before None is refl answer.None refl blocks listed
    found-by (request.Keyed (keyed.ContainsKey k)) before (Some pair) is room roomy blocks listed =
        found-whole (keyed.ContainsKey k) before (Some pair) is refl (answer.Flag true) refl blocks listed
    found-by (request.Keyed (keyed.ContainsKey k)) before None is room roomy blocks listed =
        found-whole (keyed.ContainsKey k) before None is refl (answer.Flag false) refl blocks listed
    found-by (request.Keyed (keyed.InsertUntil k v)) before (Some pair) is room roomy blocks listed =
        found-deed (keyed.InsertUntil k v) before refl pair is blocks listed
    found-by (request.Keyed (keyed.InsertUntil k v)) before None is true roomy blocks listed =
        found-append k v (keyed.InsertUntil k v) (inr refl) refl refl before is roomy blocks listed
    found-by (request.Keyed (keyed.InsertUntil k v)) before None is false full blocks listed =
        found-full (growth.InsertUntil k v) before refl refl is full blocks listed
    found-by (request.Keyed (keyed.RemoveUntil k)) before (Some pair) is room roomy blocks listed =
        found-deed (keyed.RemoveUntil k) before refl pair is blocks listed
    found-by (request.Keyed (keyed.RemoveUntil k)) before None is room roomy blocks listed =
        found-whole (keyed.RemoveUntil k) before None is refl answer.None refl blocks listed
    found-by (request.Begin b) before (Some pair) is room roomy blocks listed =
        let r : Request K V D = request.Begin b in
        let k = request_key r in
        let key : key_of {V = V} {D = D} (ask.Begin b) ≡ Some k = refl in
        let st = sound.stands s.thread p at in
        let c = claim-at x (threads_of w) w.blocks w.replies w.tables s.thread p (phase.Find r) before st in
        let p' : Place K V D T A = record p { block = Some (length w.blocks); guard = Some (guard.Pair (opening_way b)); phase = phase.Answer answer.Held } in
        let not_yet : may_own p.phase ≡ false = ap may_own before in
        let l = listed.1 in
        let inside = begin-apart x w s.thread sound p st b c.0.asked in
        let stays : Some (length w.blocks) ≡ block_after p' = sym (ap (λ (b : Bool). if b then None else Some (length w.blocks)) c.0.closes) in
        let session = session-new x laws w s sound p at _ c.0 k key c.1.shard not_yet table held listed.0 (mode_of r) c.2 l w.tables p' (Some pair) is
        refl (pair, opened-some b pair, holds-moved x p p' (mode_of r) refl refl c.2)
        (λ g k' e own. record {
          table = table;
          held = held;
          so = subst (λ (z : K). pair_of x.eq table.items z ≡ pair_in (opened b (Some pair))) (same_Some k k' (sym (new-key x laws w s sound p at _ c.0 k key (mode_of r) c.2 c.1.shard not_yet 1 listed.0 l) ∙ own))
              (is ∙ sym (opened-quiet b (Some pair)));
        }) in
        let none' : HasNoWalk p' = still (phase.Find r) before refl p' refl refl refl in
        subst (λ (z : List (Block K)). Goes x s.thread w (record (stepped w s p') { blocks = z })) (sym listed.2)
        (sound-listed x laws w s sound p at _ c.0 k key (mode_of r) c.2 c.1.shard not_yet 1 listed.0 l p' refl refl refl refl none' refl (owes-none p')
        (opened-done x w s (started_of (stepped w s p')) (w.blocks ++ listed.0 ∷ []) (length w.blocks) p listed.0 b l) w.tables refl (λ u q m ne hq h. refl) (
          ask.Begin b,
          IsInCall-push x (threads_of w) s.thread s.thread p' _ (in_call-moved x p p' (threads_of w) s.thread _ refl refl refl c.0),
          (λ h. absurd (none-some (guard.Pair (opening_way b)) (sym h))),
          inl (subst (λ (z : Answer K V T A). IsToldBy x (w.blocks ++ listed.0 ∷ []) s.thread p.next 0 z) refl
              (told-new x laws w s sound p at _ c.0 k key c.1.shard not_yet table held listed.0 (mode_of r) c.2 l (Some pair) is)),
          ready-inside x (w.blocks ++ listed.0 ∷ []) w.tables s.thread p' (p.next + 1) p.next (length w.blocks) (block_after p') inside.1 stays session,
        )
        none'.reads
        (taken-at x (threads_of w) w.blocks w.replies w.tables s.thread p (phase.Find r) before st)
        (within-at x (threads_of w) w.blocks w.replies w.tables s.thread p (phase.Find r) before st)
        (tables-same x w.blocks (w.blocks ++ listed.0 ∷ []) w.tables sound.tables
        (contents-listed x laws w s sound p at _ c.0 k key (mode_of r) c.2 c.1.shard not_yet 1 listed.0 l
        (λ o h. ap pair_in (reached-new x laws w s sound p at _ c.0 k key c.1.shard not_yet table held listed.0 l o) ∙ opened-quiet b o))))
    found-by (request.Begin (begin.Get k)) before None is room roomy blocks listed = found-nothing (begin.Get k) before is refl refl blocks listed
    found-by (request.Begin (begin.GetMut k)) before None is room roomy blocks listed = found-nothing (begin.GetMut k) before is refl refl blocks listed
    found-by (request.Begin (begin.TryGet k)) before None is room roomy blocks listed = found-nothing (begin.TryGet k) before is refl refl blocks listed
    found-by (request.Begin (begin.TryGetMut k)) before None is room roomy blocks listed = found-nothing (begin.TryGetMut k) before is refl refl blocks listed
    found-by (request.Begin (begin.GetUntil k)) before None is room roomy blocks listed = found-nothing (begin.GetUntil k) before is refl refl blocks listed
    found-by (request.Begin (begin.GetMutUntil k)) before None is room roomy blocks listed =
        found-nothing (begin.GetMutUntil k) before is refl refl blocks listed
    found-by (request.Begin (begin.Entry k)) before None is false full blocks listed = found-full (growth.Entry k) before refl refl is full blocks listed
    found-by (request.Begin (begin.Entry k)) before None is true roomy blocks listed = found-vacant (begin.Entry k) k before refl refl refl refl is roomy blocks listed
    found-by (request.Begin (begin.TryEntry k)) before None is false full blocks listed = found-full (growth.TryEntry k) before refl refl is full blocks listed
    found-by (request.Begin (begin.TryEntry k)) before None is true roomy blocks listed = found-vacant (begin.TryEntry k) k before refl refl refl refl is roomy blocks listed

  pub sound-finds : (w' : State K V S D T A) → Finds x w s w' → Goes x s.thread w w'
  sound-finds w' f =
      subst (Goes x s.thread w) (sym (f.after ∙ ap (λ (z : Option ℕ). record (stepped w s (record (f.place) {
        block = block_behind z (length w.blocks) f.place.block;
        guard = found_guard f.request (is_some (pair_of x.eq f.table.items (request_key f.request))) (has_room f.table);
        phase = found_phase f.request (is_some (pair_of x.eq f.table.items (request_key f.request))) (has_room f.table);
      })) { blocks = f.blocks }) f.done_is))
      (found-by f.place f.stands f.table f.held f.request f.before (pair_of x.eq f.table.items (request_key f.request)) refl (has_room f.table) refl f.blocks
      (subst (λ (z : Option ℕ). ListsBlock w s.thread f.place z f.blocks) f.done_is f.listed))

  pub sound-views : (w' : State K V S D T A) → Views x w s w' → Goes x s.thread w w'
  sound-views w' v =
      let p = v.place in
      let f : Phase K V D T A = phase.View v.key v.deed in
      let k : Keyed K V D = keyed.View v.key v.deed in
      let a : Answer K V T A = answer.Read (x.deeds.answer v.deed v.pair.0 v.pair.1) in
      let c = claim-at x (threads_of w) w.blocks w.replies w.tables s.thread p f v.before (sound.stands s.thread p v.stands) in
      subst (Goes x s.thread w) (sym (v.after ∙ ap (λ (z : Option (Guard K)). record (stepped w s (record p { block = Some (length w.blocks); guard = z; phase = phase.Release a })) { blocks = v.blocks }) c.2.guard))
      (done-whole p v.stands v.table v.held k f v.before refl refl c.1 c.2 c.3 (Some v.pair) v.found refl a refl v.blocks v.listed)

  roomy-grown : {w' : State K V S D T A} (a : GrowsShard x w s w') → has_room a.grown ≡ true
  roomy-grown a = let len = a.grows.counted in let room = a.grows.room in lt-ltb (length a.grown.items) a.grown.room (omega arith)

  grown-entry : {w' : State K V S D T A} (a : GrowsShard x w s w') (g : Growth K V) (b : Begin K) (k : K) → a.place.phase ≡ phase.Grow g
      → ((threads : List ℕ) (bs : List (Block K)) (tables : List (ShardPairs K V)) (p : Place K V D T A)
      → Claim x threads bs tables s.thread p (phase.Grow g) → IsInCall x threads s.thread p (ask.Begin b)
      × IsOnItsWay x p k × HoldsShard p Exclusive)
      → key_of {V = V} {D = D} (ask.Begin b) ≡ Some k → opened {V = V} b None ≡ vacant k → opening_answer {V = V} {T = T} {A = A} b None ≡ answer.Vacant
      → pair_of x.eq a.table.items k ≡ None → ListsBlock w s.thread a.place (Some 1) a.blocks
      → Goes x s.thread w (record (stepped w s (record (a.place) { block = Some (length w.blocks); guard = Some (guard.Vacant k); phase = phase.Answer answer.Vacant })) {
        tables = slice_set w.tables a.place.shard a.grown;
        blocks = a.blocks;
      })
  grown-entry a g b k before is key opens answers absent listed =
      let p = a.place in
      let f : Phase K V D T A = phase.Grow g in
      let c = is (threads_of w) w.blocks w.tables p (claim-at x (threads_of w) w.blocks w.replies w.tables s.thread p f before (sound.stands s.thread p a.stands)) in
      entered p a.stands a.table a.held b k key opens answers f before refl refl c.0 c.1 c.2 absent a.blocks listed
      (slice_set w.tables p.shard a.grown) (length-set w.tables p.shard a.grown) (kept-alone x w s p a.stands sound a.grown c.2)
      (record { table = a.grown; held = slice_get-set_same w.tables p.shard a.table a.grown a.held; so = (roomy-grown a, a.grows.found k ∙ absent) })
      (λ d same. tables-grown x laws w.blocks (w.blocks ++ d ∷ []) w.tables sound.tables p.shard a.table a.grown a.held a.grows same)

  grown-append : {w' : State K V S D T A} (a : GrowsShard x w s w') (g : Growth K V) (k : K) (v : V) (call : Keyed K V D) → a.place.phase ≡ phase.Grow g
      → ((threads : List ℕ) (bs : List (Block K)) (tables : List (ShardPairs K V)) (p : Place K V D T A)
      → Claim x threads bs tables s.thread p (phase.Grow g) → IsInCall x threads s.thread p (ask.Keyed call)
      × IsOnItsWay x p k × HoldsShard p Exclusive)
      → Inserts call k v → key_of {V = V} {D = D} (ask.Keyed call) ≡ Some k
      → pair_of x.eq a.table.items k ≡ None → ListsBlock w s.thread a.place (Some 0) a.blocks
      → Goes x s.thread w (record (stepped w s (record (a.place) { block = Some (length w.blocks); guard = None; phase = phase.Append k v })) {
        tables = slice_set w.tables a.place.shard a.grown;
        blocks = a.blocks;
      })
  grown-append a g k v call before is inserts key absent listed =
      let p = a.place in
      let f : Phase K V D T A = phase.Grow g in
      let st = sound.stands s.thread p a.stands in
      let c = is (threads_of w) w.blocks w.tables p (claim-at x (threads_of w) w.blocks w.replies w.tables s.thread p f before st) in
      let p' : Place K V D T A = record p { block = Some (length w.blocks); guard = None; phase = phase.Append k v } in
      let not_yet : may_own p.phase ≡ false = ap may_own before in
      let l = listed.1 in
      let d = listed.0 in
      let none' : HasNoWalk p' = still p a.stands a.table a.held f before refl p' refl refl refl in
      subst (λ (z : List (Block K)). Goes x s.thread w (record (stepped w s p') { tables = slice_set w.tables p.shard a.grown; blocks = z })) (sym listed.2)
      (sound-listed x laws w s sound p a.stands _ c.0 k key Exclusive c.2 c.1.shard not_yet 0 d l p' refl refl refl refl none' refl (λ o z. z)
      (done-none x w s (started_of (stepped w s p')) (w.blocks ++ d ∷ []) (length w.blocks) p d call 0 (omega arith) l) (slice_set w.tables p.shard a.grown) (length-set w.tables p.shard a.grown)
      (kept-alone x w s p a.stands sound a.grown c.2) (
        record {
          insertion = call;
          inserts = inserts;
          in_call = IsInCall-push x (threads_of w) s.thread s.thread p' _ (in_call-moved x p p' (threads_of w) s.thread _ refl refl refl c.0);
        },
        before-deed x laws w s sound p a.stands _ c.0 k key c.1.shard not_yet a.table a.held d c.2 l p' None absent refl refl refl refl refl,
        record { table = a.grown; held = slice_get-set_same w.tables p.shard a.table a.grown a.held; so = roomy-grown a },
      )
      none'
      (taken-at x (threads_of w) w.blocks w.replies w.tables s.thread p f before st)
      (within-at x (threads_of w) w.blocks w.replies w.tables s.thread p f before st)
      (tables-grown x laws w.blocks (w.blocks ++ d ∷ []) w.tables sound.tables p.shard a.table a.grown a.held a.grows
      (contents-listed x laws w s sound p a.stands _ c.0 k key Exclusive c.2 c.1.shard not_yet 0 d l (quiet-none x laws w s sound p a.stands _ c.0 k key c.1.shard not_yet a.table a.held d l))))

  grown : (w' : State K V S D T A) (a : GrowsShard x w s w') (c : Growth K V) → a.place.phase ≡ phase.Grow c → pair_of x.eq a.table.items (growth_key c) ≡ None
      → ListsBlock w s.thread a.place (found_done {D = D} (request_of c) false true) a.blocks
      → Goes x s.thread w (record (stepped w s (record (a.place) { block = Some (length w.blocks); guard = found_guard {D = D} (request_of c) false true; phase = found_phase (request_of c) false true })) {
        tables = slice_set w.tables a.place.shard a.grown;
        blocks = a.blocks;
      })
  grown w' a (growth.Insert k v) before absent listed =
      grown-append a (growth.Insert k v) k v (keyed.Insert k v) before (λ threads bs tables p c. (c.0, c.1, c.2)) (inl refl) refl absent listed
  grown w' a (growth.InsertUntil k v) before absent listed =
      grown-append a (growth.InsertUntil k v) k v (keyed.InsertUntil k v) before (λ threads bs tables p c. (c.0, c.1, c.2)) (inr refl) refl absent listed
  grown w' a (growth.Entry k) before absent listed = grown-entry a (growth.Entry k) (begin.Entry k) k before (λ threads bs tables p c. (c.0, c.1, c.2)) refl refl refl absent listed
  grown w' a (growth.TryEntry k) before absent listed = grown-entry a (growth.TryEntry k) (begin.TryEntry k) k before (λ threads bs tables p c. (c.0, c.1, c.2)) refl refl refl absent listed

  pub sound-grows : (w' : State K V S D T A) → GrowsShard x w s w' → Goes x s.thread w w'
  sound-grows w' a = subst (Goes x s.thread w) (sym a.after) (grown w' a a.call a.before a.absent a.listed)
