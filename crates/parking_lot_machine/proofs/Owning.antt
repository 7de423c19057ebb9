-- Acts that change nothing but the word and the call of the thread that makes them.
use Rattle.std.proofs.Common.{Bool, ◌≡◌, ◌≢◌, ℕ, zero, suc, ◌+◌, ◌*◌, ◌<◌, inl, inr, List, [], ◌∷◌, length}
use Rattle.std.proofs.Common.{Some, slice_get, slice_set, refl, sym, ap, ◌∙◌, subst}
use Rattle.std.proofs.lemmas.Bool.{cases_eq}
use Rattle.std.proofs.lemmas.List.{length-set}
use Rattle.std.proofs.lemmas.Option.{same_Some}
use Rattle.parking_lot_core_model.specs.declared.parking.ParkToken.{ParkToken}
use Rattle.parking_lot_protocol.specs.declared.act.ActResult.{ActResult}
use Rattle.parking_lot_protocol.specs.Acts.{word_after}
use Rattle.parking_lot_protocol.specs.RwRules as of_rw
use Rattle.parking_lot_rules.specs.Lock.{Lock}
use Rattle.parking_lot_machine_calls.specs.declared.seat.QueuePosition.{QueuePosition}
use Rattle.parking_lot_machine_calls.specs.declared.seat.Core.{Core}
use Rattle.parking_lot_machine_calls.specs.declared.open_call.Call.{Call}
use Rattle.parking_lot_machine.specs.Rows.{State, word_at, call_at, taken_by, queue_at}
use Rattle.parking_lot_machine_calls.specs.Stances.{Asleep, core_act, stance}
use Rattle.parking_lot_machine.specs.RwLaws.{Finds, move_crossing, with_role}
use Rattle.parking_lot_machine.proofs.KindTable.{Kind, IsThere, Elsewhere, one_changed, role_at, role_now, role_stays}
use Rattle.parking_lot_machine.proofs.KindTable.{roles_at, shown, same, RwCall, rw_call, rw_next}
use Rattle.parking_lot_machine.proofs.RwCalls.{CallMeets, CallTold, call_lock, call_makes, call_move, call_role}
use Rattle.parking_lot_machine.proofs.RwCalls.{call_stays}
use Rattle.parking_lot_machine.proofs.Making.{Crossed, Entries, RwLeadsBy}
use Rattle.parking_lot_machine.proofs.OwnMoves.{OwnMove}
use Rattle.parking_lot_machine.proofs.Meeting.{in_range}
use Rattle.parking_lot_machine.proofs.Calling.{call_of, slot, call-here, call-elsewhere, same-holds}

-- Thread t is in the call c at lock j, whose core is told this; its spot is `at` then. Nothing else changes but the
-- word, and who is inside.
pub record OwnAct (s u : State) (t : ℕ) (c : Call) (told : ActResult) (next : Core) (at : QueuePosition) : Type 0 where
  pub here : call_at s t ≡ Some c
  pub calls : u.calls ≡ slice_set s.calls t (Some (record c { core = next; spot = at }))
  pub kinds : u.kinds ≡ s.kinds
  pub wakes : u.wakes ≡ s.wakes
  pub holds : u.holds ≡ s.holds
  pub sizes : length u.words ≡ length s.words
  pub word : word_at u c.lock ≡ word_after (core_act c.core) told (word_at s c.lock)
  pub words : (i : ℕ) → i ≢ c.lock → word_at u i ≡ word_at s i
  pub queues : (i k : ℕ) → i ≢ c.lock → k < 2 → u.lot.queues (2 * i + k) ≡ s.lot.queues (2 * i + k)
  pub buckets : u.lot.buckets ≡ s.lot.buckets
  -- one that falls asleep is in its list
  pub listed : (k : ℕ) (token : ParkToken) → stance next ≡ Asleep k token → at ≡ QueuePosition.Listed

module _ (s u : State) (t : ℕ) (c : Call) (told : ActResult) (next : Core) (at : QueuePosition)
    (a : OwnAct s u t c told next at) where
  abbrev pub call_after : Call
  call_after = record c { core = next; spot = at }

  pub own-here : call_at u t ≡ Some call_after
  own-here = ap (λ cs. call_of cs t) a.calls ∙ call-here s.calls t (Some c) (Some call_after) (slot s.calls t c a.here)

  pub own-others : (x : ℕ) → x ≢ t → call_at u x ≡ call_at s x
  own-others x ne = ap (λ cs. call_of cs x) a.calls ∙ call-elsewhere s.calls t x (Some call_after) ne

  pub own-elsewhere : Elsewhere c.lock s u
  own-elsewhere = record {
    kinds = a.kinds;
    threads = ap length a.calls ∙ length-set s.calls t (Some call_after);
    words = a.words;
    queues = a.queues;
    holds = λ x i ne. same-holds s u a.kinds a.holds x i;
    calls = λ x. elim (cases_eq x t) [
      | inl e ↦ inr (
        subst (λ n. IsThere c.lock (call_at s n)) (sym e) (subst (IsThere c.lock) (sym a.here) refl),
        subst (λ n. IsThere c.lock (call_at u n)) (sym e) (subst (IsThere c.lock) (sym own-here) refl),
      )
      | inr ne ↦ inl (own-others x ne, ap (λ ws. taken_by ws x) a.wakes)
    ];
  }

  pub own-there : IsThere c.lock (call_at s t)
  own-there = subst (IsThere c.lock) (sym a.here) refl

pub set-same : {X : Type 0} (xs : List X) (i : ℕ) (x : X) → slice_get xs i ≡ Some x → slice_set xs i x ≡ xs
set-same [] i x h = refl
set-same (y ∷ ys) zero x h = ap (λ z. z ∷ ys) (sym (same_Some y x h))
set-same (y ∷ ys) (suc i) x h = ap (λ zs. y ∷ zs) (set-same ys i x h)

-- AT A LOCK OF ANY KIND

module _ {C R L : Type 0} (K : Kind C R L) where
  -- the lock after an act
  pub own_after : (s u : State) (t : ℕ) (c : Call) (told : ActResult) (q : C) (at : QueuePosition)
      (a : OwnAct s u t c told (K.core q) at) (x : ℕ) → word_at u c.lock ≡ x
      → shown K u c.lock ≡ K.lock x
      (slice_set (roles_at K s c.lock) t (K.plays c.others QueuePosition.Listed (taken_by s.wakes t) q))
      (queue_at u (2 * c.lock)) (queue_at u (2 * c.lock + 1))
  own_after s u t c told q at a x word =
      same K _ _ _ _ _ _ _ _ word
      (one_changed (role_at K s c.lock) (role_at K u c.lock) (length s.calls) (length u.calls) t _
      (in_range s t c a.here) (own-elsewhere s u t c told _ at a).threads
      (λ y ne. role_stays K s u c.lock y (own-others s u t c told _ at a y ne) (ap (λ ws. taken_by ws y) a.wakes)
      (same-holds s u a.kinds a.holds y c.lock))
      (role_now K u t (taken_by s.wakes t) (call_after s u t c told _ at a) q (own-here s u t c told _ at a)
      (ap (λ ws. taken_by ws t) a.wakes) refl ∙ K.listed c.others (taken_by s.wakes t) q at a.listed))
      refl refl

-- AT A READER-WRITER LOCK

-- an act of its own leads from the lock to the one with its next role, and crosses what its move does
module _ (recursive : Bool) (l : Lock) (t n : ℕ) (at : QueuePosition) (us : List ℕ) (k : RwCall) (x : ℕ)
    (told : ActResult) (here : CallMeets recursive l t n at us k x) (heard : CallTold k x told)
    (found : Finds (core_act (rw_call k)) l)
    (listed : (key : ℕ) (token : ParkToken) → stance (rw_call (rw_next k told)) ≡ Asleep key token
    → at ≡ QueuePosition.Listed) (old new : Entries) where
  abbrev next_lock : Lock
  next_lock = call_lock l t n us k told x

  leads_by_move : (m : of_rw.Move) → call_move n us k told ≡ m → OwnMove m t old new
      → RwLeadsBy recursive m t l next_lock × Crossed (move_crossing m) t old new
  leads_by_move of_rw.Stays eq moves =
      let kept = call_stays recursive l t n at us k x told here heard listed eq in (
        ap (λ y. with_role l y t (call_role n QueuePosition.Listed us (rw_next k told))) kept.1
            ∙ ap (with_role l x t) kept.0
            ∙ ap (λ w. record {
              word = w;
              roles = slice_set l.roles t (call_role n at us k);
              first = l.first;
              second = l.second;
            }) (sym here.word)
            ∙ ap (λ rs. record l { roles = rs }) (set-same l.roles t _ here.here),
        moves,
      )
  leads_by_move (of_rw.Makes step) eq moves =
      (call_makes recursive l t n at us k x told step here heard eq found, moves)
  leads_by_move (of_rw.Joins k) eq moves = absurd moves
  leads_by_move (of_rw.TakesOne k) eq moves = absurd moves
  leads_by_move of_rw.TakesWriter eq moves = absurd moves
  leads_by_move (of_rw.Tells k left) eq moves = absurd moves
  leads_by_move of_rw.WakesOne eq moves = absurd moves
  leads_by_move (of_rw.IsWoken k) eq moves = absurd moves

  pub rw_leads : OwnMove (call_move n us k told) t old new → RwLeadsBy recursive (call_move n us k told) t l next_lock
      × Crossed (move_crossing (call_move n us k told)) t old new
  rw_leads moves = leads_by_move (call_move n us k told) refl moves
