-- The steps of a walk that reach no pair: into its next shard and out of the last one.
use Rattle.std.proofs.Common.{⊎_elim, ◌≡◌, ℕ, zero, suc, ◌+◌, ◌≤◌, ◌⊎◌, ◌==◌, ◌&&◌, not, inl, inr, Bool, true, false}
use Rattle.std.proofs.Common.{if◌then◌else◌, MatchBool, List, [], ◌∷◌, ◌++◌, length, drop, Option, Some, None}
use Rattle.std.proofs.Common.{slice_get, slice_set, refl, ap, sym, ◌∙◌, subst, arith}
use Rattle.std.proofs.lemmas.Bool.{ne_eqb}
use Rattle.std.proofs.lemmas.Option.{same_Some}
use Rattle.mapworld_calls.specs.declared.ask.Ask.TheVariants as ask
use Rattle.mapworld_calls.specs.declared.ask.Walk.{Walk}
use Rattle.mapworld_calls.specs.declared.block.Block.{Block}
use Rattle.mapworld_calls.specs.Setup.{Setup}
use Rattle.parking_lot_protocol.specs.declared.act.CoreAnswer.TheVariants.{Owned}
use Rattle.mapworld_state.specs.Locks.Aims.{Gets}
use Rattle.mapworld_state.specs.Locks.Views.{Shown, owner_in}
use Rattle.mapworld_state.specs.Locks.Stands.{Stand, stand_in}
use Rattle.mapworld_state.specs.Shards.{ShardPairs}
use Rattle.mapworld_state.specs.declared.holds.Mode.{Mode}
use Rattle.mapworld_state.specs.declared.holds.Mode.TheVariants.{Exclusive}
use Rattle.mapworld_state.specs.declared.holds.Hold.{Hold}
use Rattle.mapworld_state.specs.declared.step.Step.{Step}
use Rattle.mapworld_state.specs.declared.place.Phase.{Phase}
use Rattle.mapworld_state.specs.declared.place.Phase.TheVariants as phase
use Rattle.mapworld_state.specs.Places.{Place}
use Rattle.mapworld_state.specs.State.{State, threads_of, started_of}
use Rattle.mapworld_state.specs.Holds.{at_desk, gives_up}
use Rattle.mapworld_state.specs.Held.{IsOwing, StandsBefore, HoldsMatch}
use Rattle.mapworld_state.specs.Moves.{stepped}
use Rattle.mapworld_state.specs.Walks.{walk_mode, hands_over, kept_over, entered_phase}
use Rattle.mapworld_state.specs.Steps.{Reaches, Leaves as LeavesLock, GivesBack, StartsVisit, Seeks, Parts, GoesOn}
use Rattle.mapworld_state.specs.Sound.{is_resting, may_own, HoldsShard, IsInCall, IsOutside, KeepsOver, Claim}
use Rattle.mapworld_state.specs.Sound.{HasVisited, IsBetweenVisits, IsWithinVisit, Walks, Stands, Sound}
use Rattle.mapworld_state.proofs.InvariantFacts.Others.{IsInCall-push}
use Rattle.mapworld_state.proofs.InvariantFacts.Timing.{placed-same}
use Rattle.mapworld_state.proofs.InvariantFacts.Holding.{no-more, stand-at, holds-same, holds-entered, holds-admitted}
use Rattle.mapworld_state.proofs.InvariantFacts.Holding.{holds-given}
use Rattle.mapworld_state.proofs.InvariantFacts.Building.{Goes, goes-from, in_call-moved, holds-moved, alone-moved}
use Rattle.mapworld_state.proofs.InvariantFacts.Building.{tables-same, started-stays, sound-by, claim-at, taken-at}
use Rattle.mapworld_state.proofs.InvariantFacts.Building.{within-at, walks-at, visits-moved}
use Rattle.mapworld_state.proofs.InvariantFacts.Admitting.{leaves-same, owns-on, sound-silent, sound-leaves, kept-apart}

-- what a walk has come to does not depend on where its place stands
module _ {K V D T A : Type 0} (x : Setup K V D T) (bs : List (Block K)) (t : ℕ) (p p' : Place K V D T A)
    (next : p'.next ≡ p.next) (visits : p'.visits ≡ p.visits) (reads : p'.reads ≡ p.reads) (count : p'.count ≡ p.count)
    (f : Walk D) where
  abbrev pub visited-moved : HasVisited x bs t p f → HasVisited x bs t p' f
  visited-moved h = record {
    visits = h.visits;
    named = h.named ∙ sym visits;
    visited = rw next h.visited;
    reads = reads ∙ h.reads;
    count = rw count h.count;
  }

  pub between-moved : (n : ℕ) → IsBetweenVisits x bs t p f n → IsBetweenVisits x bs t p' f n
  between-moved n h =
      record { so_far = visited-moved h.so_far; number = h.number; whole = h.whole; left = h.left; goes_on = h.goes_on }

  pub within-moved : (tables : List (ShardPairs K V)) → p'.shard ≡ p.shard
      → (HoldsShard p' Exclusive → HoldsShard p Exclusive) → IsWithinVisit x bs tables t p f
      → IsWithinVisit x bs tables t p' f
  within-moved tables shard alone h = record {
    so_far = visited-moved h.so_far;
    items = h.items;
    number = h.number ∙ ap (λ n. n + 1) (sym shard);
    within = rw shard h.within;
    goes_on = h.goes_on;
    index = h.index;
    block = h.block;
    own = ap (λ n. slice_get h.so_far.visits n) shard ∙ h.own;
    table = h.table;
    held = ap (λ n. slice_get tables n) shard ∙ h.held;
    there = λ q on. h.there q (on ∙ shard);
    some = h.some;
    last = λ own. h.last (alone own);
  }

-- a walk's place moves on, and no block, pair or reply is another
module _ {K V S D T A : Type 0} (x : Setup K V D T) (w : State K V S D T A) (s : Step) (sound : Sound x w)
    (p : Place K V D T A) (at : slice_get w.places s.thread ≡ Some p)
    (f : Phase K V D T A) (before : p.phase ≡ f) (busy : is_resting f ≡ false) (holds' : List Hold) (shard' : ℕ)
    (f' : Phase K V D T A) (busy' : is_resting f' ≡ false) (own' : may_own f' ≡ true) where
  abbrev pub moved : Place K V D T A
  moved = record p { holds = holds'; shard = shard'; phase = f' }

  stands-moved : (threads : List ℕ) → Claim x threads w.blocks w.tables s.thread moved f'
      → Walks x w.blocks w.tables s.thread moved f' → Stands x threads w.blocks w.replies w.tables s.thread moved
  stands-moved threads claim walks =
      let st = sound.stands s.thread p at in
      record {
        program = st.program;
        has = st.has;
        asks_left = subst (λ (z : Bool). p.asks ≡ drop (if z then p.next else p.next + 1) st.program) (busy ∙ sym busy')
            (taken-at x (threads_of w) w.blocks w.replies w.tables s.thread p f before st);
        within = subst (λ (z : Bool). (if z then p.next else p.next + 1) ≤ length st.program) (busy ∙ sym busy')
            (within-at x (threads_of w) w.blocks w.replies w.tables s.thread p f before st);
        answered = st.answered;
        own_block = st.own_block;
        own_visits = visits-moved x w.blocks s.thread p moved refl refl refl st.own_visits;
        owns = owns-on w.blocks s.thread p moved st.owns refl refl refl (λ own. own');
        claim = claim;
        walks = walks;
      }

  -- by a step
  pub sound-moved : Claim x (threads_of w ++ s.thread ∷ []) w.blocks w.tables s.thread moved f'
      → Walks x w.blocks w.tables s.thread moved f' → (locks' : Shown) → HoldsMatch (slice_set w.places s.thread moved)
      locks'
      → Goes x s.thread w (record (stepped w s moved) { locks = locks' })
  sound-moved claim walks locks' match =
      sound-by x w s p moved at sound w.blocks w.tables locks' w.replies _ (leaves-same x w s p moved at sound locks')
      (stands-moved (threads_of w ++ s.thread ∷ []) claim walks)
      (tables-same x w.blocks w.blocks w.tables sound.tables (λ q. refl))
      match
      (placed-same x (threads_of w) s.thread (started_of w) (started_of (stepped w s moved)) w.blocks w.replies
      (started-stays x w s p moved at (λ n z. z)) sound.placed)
      sound.replies

  -- and without one
  pub silent-moved : Claim x (threads_of w) w.blocks w.tables s.thread moved f'
      → Walks x w.blocks w.tables s.thread moved f' → (locks' : Shown) → HoldsMatch (slice_set w.places s.thread moved)
      locks'
      → Sound x (record w { places = slice_set w.places s.thread moved; locks = locks' })
  silent-moved claim walks locks' match = sound-silent x w s.thread p moved at sound locks' refl
      (stands-moved (threads_of w) claim walks) match

module _ {K V S D T A : Type 0} (x : Setup K V D T) (w : State K V S D T A) (t : ℕ) (mid : State K V S D T A)
    (sound : Sound x w) where
  -- an admission of a walk is over: it has the next shard, beside the last one that it may have kept
  module _ (e : Reaches w t mid) where
    abbrev taken : Hold
    taken = record { shard = e.place.shard; mode = walk_mode e.walk }

    abbrev reaching : Phase K V D T A
    reaching = phase.Reach e.walk

    in-call : IsInCall x (threads_of w) t e.place (ask.Walk e.walk) × IsOutside e.place
        × KeepsOver e.place (walk_mode e.walk) (kept_over e.walk e.place.shard)
    in-call = claim-at x (threads_of w) w.blocks w.replies w.tables t e.place reaching e.before
        (sound.stands t e.place e.stands)

    entered : (n : ℕ) → KeepsOver e.place (walk_mode e.walk) n → (f : Phase K V D T A) → is_resting f ≡ false
        → may_own f ≡ true
        → Claim x (threads_of w) w.blocks w.tables t
        (record (e.place) { holds = e.place.holds ++ taken ∷ []; phase = f }) f
        → Walks x w.blocks w.tables t (record (e.place) { holds = e.place.holds ++ taken ∷ []; phase = f }) f
        → StandsBefore (record (e.place) { holds = e.place.holds ++ taken ∷ []; phase = f }) f None
        → Sound x (record w {
          places = slice_set w.places t (record (e.place) { holds = e.place.holds ++ taken ∷ []; phase = f });
          locks = e.locks;
        })
    entered n keeps f busy own claim walks stands =
        let p = e.place in
        let mode : Mode = walk_mode e.walk in
        let wants = stand-at w.places w.locks sound.holds t p e.stands reaching e.before in
        let stand : e.ends.stand ≡ record {
          shard = p.shard;
          aim = Gets (at_desk mode);
          trying = false;
          timed = false;
        } =
        same_Some e.ends.stand _ (sym e.ends.stood ∙ wants.is) in
        let here : e.ends.stand.shard ≡ p.shard = ap (λ (z : Stand). z.shard) stand in
        let mine : owner_in e.locks p.shard t ≡ Some (at_desk mode) =
        ap (λ i. owner_in e.locks i t) (sym here) ∙ e.ends.owned (at_desk mode) (ap (λ (z : Stand). z.aim) stand) refl
        in
        silent-moved x w (record { thread = t; fair = false; deadline = false }) sound p e.stands reaching e.before refl
        (p.holds ++ taken ∷ []) p.shard f busy own claim walks e.locks
        (holds-admitted w.places w.locks sound.holds t p (record p { holds = p.holds ++ taken ∷ []; phase = f })
        e.stands taken refl
        (kept-apart x (threads_of w) w.blocks w.tables t p mode n keeps) Owned e.locks e.ends here mine stands)

    reached-by : (n : ℕ) → KeepsOver e.place (walk_mode e.walk) n
        → Sound x (record w {
          places = slice_set w.places t
              (record (e.place) { holds = e.place.holds ++ taken ∷ []; phase = entered_phase e.walk e.place.holds });
          locks = e.locks;
        })
    reached-by zero keeps =
        let p = e.place in
        let p' : Place K V D T A = record p { holds = p.holds ++ taken ∷ []; phase = phase.Visit e.walk } in
        let walks = walks-at x (threads_of w) w.blocks w.replies w.tables t p reaching e.before
        (sound.stands t p e.stands) in
        subst (λ (z : Phase K V D T A). Sound x
        (record w {
          places = slice_set w.places t (record p { holds = p.holds ++ taken ∷ []; phase = z });
          locks = e.locks;
        })) (sym (ap (entered_phase e.walk) keeps))
        (entered zero keeps (phase.Visit e.walk) refl refl (
          in_call-moved x p p' (threads_of w) t _ refl refl refl in-call.0,
          in-call.1,
          record { hold = taken; has = ap (λ hs. hs ++ taken ∷ []) keeps; shard = refl; mode_is = refl },
        )
        (between-moved x w.blocks t p p' refl refl refl refl e.walk p.shard walks) tt)
    reached-by (suc n) keeps =
        let p = e.place in
        let p' : Place K V D T A = record p { holds = p.holds ++ taken ∷ []; phase = phase.Part e.walk } in
        let walks = walks-at x (threads_of w) w.blocks w.replies w.tables t p reaching e.before
        (sound.stands t p e.stands) in
        subst (λ (z : Phase K V D T A). Sound x
        (record w {
          places = slice_set w.places t (record p { holds = p.holds ++ taken ∷ []; phase = z });
          locks = e.locks;
        })) (sym (ap (entered_phase e.walk) keeps.1))
        (entered (suc n) keeps (phase.Part e.walk) refl refl (
          in_call-moved x p p' (threads_of w) t _ refl refl refl in-call.0,
          in-call.1,
          (keeps.0, taken, ap (λ hs. hs ++ taken ∷ []) keeps.1, keeps.2, refl, refl),
        )
        (between-moved x w.blocks t p p' refl refl refl refl e.walk p.shard walks) refl)

  pub sound-reaches : Reaches w t mid → Sound x mid
  sound-reaches e = subst (Sound x) (sym e.after) (reached-by e (kept_over e.walk e.place.shard) (in-call e).2)

  -- the world in which a visit begins, and the one in which a walk goes on to its next shard
  pub sound-let_in : (mid ≡ w) ⊎ (Reaches w t mid ⊎ LeavesLock w t mid) → Sound x mid
  sound-let_in h = elim h [
    | inl same ↦ subst (Sound x) (sym same) sound
    | inr more ↦ elim more
        [ inl e ↦ sound-reaches e | inr e ↦ sound-leaves x w t mid sound e ]
  ]

  pub sound-let_go : (mid ≡ w) ⊎ LeavesLock w t mid → Sound x mid
  sound-let_go h = elim h [ inl same ↦ subst (Sound x) (sym same) sound | inr e ↦ sound-leaves x w t mid sound e ]

module _ {K V S D T A : Type 0} (x : Setup K V D T) (w : State K V S D T A) (s : Step) (w' : State K V S D T A)
    (sound : Sound x w) where
  -- a pair that isn't done is found: the walk goes on to its deed
  pub sound-seeks : Seeks x w s w' → Goes x s.thread w w'
  sound-seeks a =
      let p = a.place in
      let f = phase.Seek a.walk in
      let p' : Place K V D T A = record p { phase = phase.Item a.walk } in
      let st = sound.stands s.thread p a.stands in
      let c = claim-at x (threads_of w) w.blocks w.replies w.tables s.thread p f a.before st in
      subst (Goes x s.thread w) (sym a.after)
      (sound-moved x w s sound p a.stands f a.before refl p.holds p.shard (phase.Item a.walk) refl refl (
        IsInCall-push x (threads_of w) s.thread s.thread p' _
            (in_call-moved x p p' (threads_of w) s.thread _ refl refl refl c.0),
        c.1,
        holds-moved x p p' (walk_mode a.walk) refl refl c.2,
      )
      (within-moved x w.blocks s.thread p p' refl refl refl refl a.walk w.tables refl (alone-moved x p p' refl refl)
      (walks-at x (threads_of w) w.blocks w.replies w.tables s.thread p f a.before st))
      w.locks
      (holds-same w.places w.locks sound.holds s.thread p p' a.stands refl
      (stand-at w.places w.locks sound.holds s.thread p a.stands f a.before)))

  -- a shard is given back
  module _ (from to : Walk D → Phase K V D T A) (a : GivesBack x w s w' from to) where
    abbrev left : Place K V D T A
    left = record (a.place) { holds = a.more; phase = to a.walk }

    given : is_resting (from a.walk) ≡ false → is_resting (to a.walk) ≡ false → may_own (to a.walk) ≡ true
        → stand_in w.locks s.thread ≡ None → ((o : Option Stand) → IsOwing left o → StandsBefore left (to a.walk) o)
        → Claim x (threads_of w ++ s.thread ∷ []) w.blocks w.tables s.thread left (to a.walk)
        → Walks x w.blocks w.tables s.thread left (to a.walk) → Goes x s.thread w w'
    given busy busy' own out owes claim walks =
        let p = a.place in
        subst (Goes x s.thread w) (sym a.after)
        (sound-moved x w s sound p a.stands (from a.walk) a.before busy a.more p.shard (to a.walk) busy' own claim walks
        a.locks
        (holds-given w.places w.locks sound.holds s.thread p left a.stands a.hold a.more a.holds out
        (gives_up a.hold.mode) s.fair a.locks a.gives a.hold.mode refl refl owes))

  -- the last one, where the next one is held
  sound-parted : GivesBack x w s w' phase.Part phase.Visit → Goes x s.thread w w'
  sound-parted a =
      let p = a.place in
      let f = phase.Part a.walk in
      let p' : Place K V D T A = record p { holds = a.more; phase = phase.Visit a.walk } in
      let st = sound.stands s.thread p a.stands in
      let c = claim-at x (threads_of w) w.blocks w.replies w.tables s.thread p f a.before st in
      let both = c.2 in
      let rest : a.more ≡ both.1 ∷ [] = let same : a.hold ∷ a.more ≡ both.0 ∷ both.1 ∷ [] = sym a.holds ∙ both.2 in
      cc in
      given phase.Part phase.Visit a refl refl refl
      (stand-at w.places w.locks sound.holds s.thread p a.stands f a.before) (λ o z. z) (
        IsInCall-push x (threads_of w) s.thread s.thread p' _
            (in_call-moved x p p' (threads_of w) s.thread _ refl refl refl c.0),
        c.1,
        record { hold = both.1; has = rest; shard = both.4; mode_is = both.5 },
      )
      (between-moved x w.blocks s.thread p p' refl refl refl refl a.walk p.shard
      (walks-at x (threads_of w) w.blocks w.replies w.tables s.thread p f a.before st))

  -- or the only one
  pub sound-gives_back : GivesBack x w s w' phase.Give phase.Onward → Goes x s.thread w w'
  sound-gives_back a =
      let p = a.place in
      let f = phase.Give a.walk in
      let p' : Place K V D T A = record p { holds = a.more; phase = phase.Onward a.walk } in
      let st = sound.stands s.thread p a.stands in
      let c = claim-at x (threads_of w) w.blocks w.replies w.tables s.thread p f a.before st in
      let none : a.more ≡ [] = (no-more p.holds c.2.hold a.hold a.more c.2.has a.holds).1 in
      given phase.Give phase.Onward a refl refl refl
      (stand-at w.places w.locks sound.holds s.thread p a.stands f a.before) (λ o z. z) (
        IsInCall-push x (threads_of w) s.thread s.thread p' _
            (in_call-moved x p p' (threads_of w) s.thread _ refl refl refl c.0),
        c.1,
        subst (λ (z : Bool). MatchBool z (HoldsShard p' (walk_mode a.walk)) (p'.holds ≡ [])) (sym c.3) none,
      )
      (between-moved x w.blocks s.thread p p' refl refl refl refl a.walk (p.shard + 1)
      (walks-at x (threads_of w) w.blocks w.replies w.tables s.thread p f a.before st))

  -- a walk asks for its next shard, and keeps the last one if it takes the one before it gives the other back
  sound-visit_starts : StartsVisit x w s w' → Goes x s.thread w w'
  sound-visit_starts a =
      let p = a.place in
      let f = phase.Onward a.walk in
      let p' : Place K V D T A = record p { shard = p.shard + 1; phase = phase.Reach a.walk } in
      let st = sound.stands s.thread p a.stands in
      let c = claim-at x (threads_of w) w.blocks w.replies w.tables s.thread p f a.before st in
      subst (Goes x s.thread w) (sym a.after)
      (sound-moved x w s sound p a.stands f a.before refl p.holds (p.shard + 1) (phase.Reach a.walk) refl refl (
        IsInCall-push x (threads_of w) s.thread s.thread p' _
            (in_call-moved x p p' (threads_of w) s.thread _ refl refl refl c.0),
        c.1,
        keeps p p' refl refl (hands_over a.walk) (walk_mode a.walk) c.2,
      )
      (between-moved x w.blocks s.thread p p' refl refl refl refl a.walk (p.shard + 1)
      (walks-at x (threads_of w) w.blocks w.replies w.tables s.thread p f a.before st))
      a.locks
      (holds-entered w.places w.locks sound.holds s.thread p p' a.stands refl a.out a.locks (phase.Reach a.walk) refl
      a.begins))
    where
      keeps : (p p' : Place K V D T A) → p'.holds ≡ p.holds → p'.shard ≡ p.shard + 1 → (over : Bool) (mode : Mode)
          → MatchBool over (HoldsShard p mode) (p.holds ≡ [])
          → KeepsOver p' mode (if over && not (p'.shard == 0) then 1 else 0)
      keeps p p' same next false mode none = same ∙ none
      keeps p p' same next true mode h =
          let later : (p'.shard == 0) ≡ false = ne_eqb p'.shard 0 (λ e. omega (arith, e, next)) in
          subst (λ (z : Bool). KeepsOver p' mode (if not z then 1 else 0)) (sym later)
          (h.hold, same ∙ h.has, ap (λ n. n + 1) h.shard ∙ sym next, h.mode_is)

-- a walk parts with the last shard, and goes on to the next one
pub sound-parts : {K V S D T A : Type 0} (x : Setup K V D T) (w : State K V S D T A) (s : Step) (w' : State K V S D T A)
    → Sound x w → Parts x w s w' → Goes x s.thread w w'
sound-parts x w s w' sound h =
    goes-from x s.thread w h.mid w'
    (elim h.enters [ inl same ↦ ap (λ z. z.blocks) same | inr e ↦ ap (λ z. z.blocks) e.after ])
    (sound-parted x h.mid s w'
    (⊎_elim (λ same. subst (Sound x) (sym same) sound) (λ e. sound-reaches x w s.thread h.mid sound e) h.enters)
    h.gives)

pub sound-goes_on : {K V S D T A : Type 0} (x : Setup K V D T) (w : State K V S D T A) (s : Step)
    (w' : State K V S D T A) → Sound x w → GoesOn x w s w' → Goes x s.thread w w'
sound-goes_on x w s w' sound h =
    goes-from x s.thread w h.mid w'
    (elim h.leaves [ inl same ↦ ap (λ z. z.blocks) same | inr e ↦ ap (λ z. z.blocks) e.after ])
    (sound-visit_starts x h.mid s w' (sound-let_go x w s.thread h.mid sound h.leaves) h.starts)
