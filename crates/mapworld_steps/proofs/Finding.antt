-- The slot of a place behind a look: where it goes on with a pair, that of the request's key.
use Rattle.std.proofs.Common.{◌≡◌, ℕ, Bool, true, false, List, length, Option, Some, None, IfSome, is_some, unwrap_or}
use Rattle.std.proofs.Common.{slice_get, refl, sym, ap, ap₂, ◌∙◌}
use Rattle.std.specs.Option.{option_and_then}
use Rattle.std.proofs.lemmas.Option.{none-some, same_Some}
use Rattle.std.proofs.lemmas.Bool.{false≢true}
use Rattle.mapworld_calls.specs.declared.ask.Ask.{Ask}
use Rattle.mapworld_calls.specs.declared.ask.Begin.{Begin}
use Rattle.mapworld_calls.specs.declared.ask.Begin.TheVariants as begin
use Rattle.mapworld_calls.specs.declared.ask.Keyed.{Keyed}
use Rattle.mapworld_calls.specs.declared.ask.Keyed.TheVariants as keyed
use Rattle.mapworld_calls.specs.declared.block.Block.{Block}
use Rattle.mapworld_calls.specs.Programs.{key_of, keyed_key, opening_key}
use Rattle.mapworld_calls.specs.Setup.{Setup, ask_at}
use Rattle.mapworld_calls.specs.Replay.{block_key}
use Rattle.mapworld_calls.proofs.Lists.{slice_get-push_at}
use Rattle.mapworld_transitions.specs.declared.blocks.Started.{Started}
use Rattle.mapworld_transitions.specs.Listing.{AddsBlock}
use Rattle.mapworld_transitions.proofs.Slots.{slot-lent, slot-unlent}
use Rattle.mapworld_state.specs.declared.place.Growth.{Growth}
use Rattle.mapworld_state.specs.declared.place.Growth.TheVariants as growth
use Rattle.mapworld_state.specs.declared.place.Guard.{Guard}
use Rattle.mapworld_state.specs.declared.place.Phase.{Phase}
use Rattle.mapworld_state.specs.declared.place.Request.{Request}
use Rattle.mapworld_state.specs.declared.place.Request.TheVariants as request
use Rattle.mapworld_state.specs.Places.{Place}
use Rattle.mapworld_state.specs.Moves.{ask_of, request_of, request_key, lent_way, opening_way, found_phase, found_guard}
use Rattle.mapworld_state.specs.Moves.{found_done, block_behind}
use Rattle.mapworld_state.specs.Slots.{phase_key, slot_key}
use Rattle.mapworld_state.specs.Steps.{guarded_key}

-- what holds of the slot that was found
pub of-found : (o : Option ℕ) (d : ℕ) (P : ℕ → Type 0) → is_some o ≡ true → IfSome o P → P (unwrap_or o d)
of-found None d P some h = absurd (false≢true some)
of-found (Some i) d P some h = h

-- a place that stands elsewhere in these three ways
pub stands-as : {K V D T A : Type 0} (p : Place K V D T A) (a a' : Option ℕ) (b b' : Option (Guard K))
    (f f' : Phase K V D T A) → a ≡ a' → b ≡ b' → f ≡ f'
    → ◌≡◌ {A = Place K V D T A} (record p { block = a; guard = b; phase = f })
    (record p { block = a'; guard = b'; phase = f' })
stands-as p a a' b b' f f' e1 e2 e3 = rw (e1, e2, e3) refl

module _ {K V D : Type 0} (T A : Type 0) where
  -- a call on one key goes on to look for its key's pair where the key has one
  keyed-looks : (k : Keyed K V D) (there room : Bool) (key : K)
      → phase_key (found_phase {K = K} {V = V} {D = D} {T = T} {A = A} (request.Keyed k) there room) ≡ Some key
      → (there ≡ true) × (keyed_key k ≡ key)
  keyed-looks (keyed.Insert k v) true room key e = (refl, same_Some k key e)
  keyed-looks (keyed.Insert k v) false true key e = absurd (none-some key e)
  keyed-looks (keyed.Insert k v) false false key e = absurd (none-some key e)
  keyed-looks (keyed.Remove k) true room key e = (refl, same_Some k key e)
  keyed-looks (keyed.Remove k) false room key e = absurd (none-some key e)
  keyed-looks (keyed.RemoveIf k d) true room key e = (refl, same_Some k key e)
  keyed-looks (keyed.RemoveIf k d) false room key e = absurd (none-some key e)
  keyed-looks (keyed.RemoveIfMut k d) true room key e = (refl, same_Some k key e)
  keyed-looks (keyed.RemoveIfMut k d) false room key e = absurd (none-some key e)
  keyed-looks (keyed.Alter k d) true room key e = (refl, same_Some k key e)
  keyed-looks (keyed.Alter k d) false room key e = absurd (none-some key e)
  keyed-looks (keyed.View k d) true room key e = (refl, same_Some k key e)
  keyed-looks (keyed.View k d) false room key e = absurd (none-some key e)
  keyed-looks (keyed.ContainsKey k) true room key e = absurd (none-some key e)
  keyed-looks (keyed.ContainsKey k) false room key e = absurd (none-some key e)
  keyed-looks (keyed.InsertUntil k v) true room key e = (refl, same_Some k key e)
  keyed-looks (keyed.InsertUntil k v) false true key e = absurd (none-some key e)
  keyed-looks (keyed.InsertUntil k v) false false key e = absurd (none-some key e)
  keyed-looks (keyed.RemoveUntil k) true room key e = (refl, same_Some k key e)
  keyed-looks (keyed.RemoveUntil k) false room key e = absurd (none-some key e)

-- an opening of an absent key looks for none, and lends none
module _ {K : Type 0} (V D T A : Type 0) where
  begin-free : (b : Begin K) (room : Bool)
      → phase_key (found_phase {K = K} {V = V} {D = D} {T = T} {A = A} (request.Begin b) false room) ≡ None
  begin-free (begin.Get k) room = refl
  begin-free (begin.GetMut k) room = refl
  begin-free (begin.Entry k) true = refl
  begin-free (begin.Entry k) false = refl
  begin-free (begin.TryGet k) room = refl
  begin-free (begin.TryGetMut k) room = refl
  begin-free (begin.GetUntil k) room = refl
  begin-free (begin.GetMutUntil k) room = refl
  begin-free (begin.TryEntry k) true = refl
  begin-free (begin.TryEntry k) false = refl

  begin-lends : (b : Begin K) (room : Bool)
      → lent_way (found_guard {K = K} {V = V} {D = D} (request.Begin b) false room) ≡ None
  begin-lends (begin.Get k) room = refl
  begin-lends (begin.GetMut k) room = refl
  begin-lends (begin.Entry k) true = refl
  begin-lends (begin.Entry k) false = refl
  begin-lends (begin.TryGet k) room = refl
  begin-lends (begin.TryGetMut k) room = refl
  begin-lends (begin.GetUntil k) room = refl
  begin-lends (begin.GetMutUntil k) room = refl
  begin-lends (begin.TryEntry k) true = refl
  begin-lends (begin.TryEntry k) false = refl

-- the key of a block that is listed
listed-key : {K V D T : Type 0} (x : Setup K V D T) (bs bs' : List (Block K)) (done n : ℕ) (st : Started) (at : ℕ)
    (a : Ask K V D) (key : K) → AddsBlock bs (Some done) st at bs' → n ≡ length bs
    → ask_at x st.thread st.call ≡ Some a → key_of a ≡ Some key → guarded_key x bs' (Some n) ≡ Some key
listed-key x bs bs' done n st at a key added number asked is =
    let listed : slice_get bs' n ≡ Some added.0 = ap₂ slice_get added.2 number ∙ slice_get-push_at bs added.0 in
    ap (option_and_then (block_key x)) listed
    ∙ (ap₂ (λ t i. option_and_then key_of (ask_at x t i)) added.1.thread added.1.call
    ∙ (ap (option_and_then key_of) asked ∙ is))

module _ {K V D T A : Type 0} (x : Setup K V D T) (bs bs' : List (Block K)) (n : ℕ) (block : Option ℕ) (st : Started)
    (at : ℕ) (number : n ≡ length bs) (p : Place K V D T A) where
  -- a place behind a look that has a slot has found the request's key
  pub found-key : (r : Request K V D) (there room : Bool) → AddsBlock bs (found_done r there room) st at bs'
      → ask_at x st.thread st.call ≡ Some (ask_of r)
      → p.block ≡ block_behind (found_done r there room) n block → p.guard ≡ found_guard r there room
      → p.phase ≡ found_phase r there room
      → (key : K) → slot_key x bs' p ≡ Some key → (there ≡ true) × (request_key r ≡ key)
  found-key (request.Keyed k) there room added asked mine lends goes key is =
      keyed-looks T A k there room key (sym (slot-unlent x bs' p (ap lent_way lends) ∙ ap phase_key goes) ∙ is)
  found-key (request.Begin b) true room added asked mine lends goes key is = (
    refl,
    same_Some (opening_key b) key
        (sym (slot-lent x bs' p (opening_way b) (ap lent_way lends)
        ∙ (ap (guarded_key x bs') mine ∙ listed-key x bs bs' 1 n st at (ask_of {V = V} {D = D} (request.Begin b))
        (opening_key b) added number asked refl)) ∙ is),
  )
  found-key (request.Begin b) false room added asked mine lends goes key is =
      absurd (none-some key
      (sym (slot-unlent x bs' p (ap lent_way lends ∙ begin-lends V D T A b room)
      ∙ (ap phase_key goes ∙ begin-free V D T A b room)) ∙ is))

-- a growth lists its block
pub grown-block : {K V : Type 0} (D : Type 0) (call : Growth K V) (n : ℕ) (block : Option ℕ)
    → Some n ≡ block_behind (found_done {D = D} (request_of call) false true) n block
grown-block D (growth.Insert k v) n block = refl
grown-block D (growth.InsertUntil k v) n block = refl
grown-block D (growth.Entry k) n block = refl
grown-block D (growth.TryEntry k) n block = refl
