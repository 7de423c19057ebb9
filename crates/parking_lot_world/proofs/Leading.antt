-- What another thread's step leaves of a call at a lock: it leads it on.
use Rattle.std.proofs.Common.{◌≡◌, ◌≢◌, inl, ℕ, zero, suc, ◌<◌, Bool, true, false, not, ◌&&◌, nat_lt, is_some, List, []}
use Rattle.std.proofs.Common.{◌∷◌, length, map, take, Option, Some, None, slice_get, refl, sym, ap, ◌∙◌, subst, arith}
use Rattle.std.specs.List.{list_all}
use Rattle.std.specs.Option.{option_and_then, option_map}
use Rattle.std.proofs.lemmas.Bool.{lt-ltb, ltb-true}
use Rattle.std.proofs.lemmas.Option.{none-some, slice_get-map}
use Rattle.parking_lot_machine.specs.CallLaws.AnswerLaws.{CallsLead, GoesOn, IsOpen, Onward}
use Rattle.parking_lot_machine.specs.CallLaws.Stages.{Leads, Stage, stage}
use Rattle.parking_lot_rules.proofs.Slots.{set_elsewhere}
use Rattle.parking_lot_machine_sides.specs.declared.condvar.calls.CondvarCall.{CondvarCall}
use Rattle.parking_lot_machine_sides.specs.declared.condvar.calls.CondvarReply.{CondvarReply}
use Rattle.parking_lot_machine_sides.specs.declared.condvar.open_call.OpenCall.{OpenCall}
use Rattle.parking_lot_machine_sides.specs.Condvar.Machines.{State as Var, call_at as var_call_at, phase_in}
use Rattle.parking_lot_protocol.specs.declared.act.CoreAnswer.{CoreAnswer}
use Rattle.parking_lot_protocol.specs.declared.act.CoreAnswer.TheVariants as answer
use Rattle.parking_lot_rules.specs.Lists.{at_index}
use Rattle.parking_lot_rules.specs.Variable as rules
use Rattle.parking_lot_machine_waits.specs.declared.ended.Ended.{Ended}
use Rattle.parking_lot_machine_waits.specs.declared.turn.Turn.{Turn}
use Rattle.parking_lot_machine_waits.specs.declared.turn.Turn.TheVariants as turn
use Rattle.parking_lot_machine_waits.specs.Joint.{Joint, back_number, call_in, has_by_second, number, seat_at, var_at}
use Rattle.parking_lot_machine_waits.specs.JointLaws.{PartsFit}
use Rattle.parking_lot_machine_waits.specs.JointSteps.{ComesBackIf, FollowsAs, IsAsked, IsGoneAt, IsLateAt, KnownIn}
use Rattle.parking_lot_machine_waits.specs.JointSteps.{MovesIn, Turned, takes_now}
use Rattle.parking_lot_machine_waits.specs.Moving.{back_in, entry, taken_of}
use Rattle.parking_lot_machine_waits.specs.Turns.{is_late, mutex_of, turn_of}
use Rattle.parking_lot_machine_waits.specs.Whole.{IsWhole}
use Rattle.parking_lot_machine_waits.proofs.Allowing.{all_of}
use Rattle.parking_lot_machine_waits.proofs.Keeping.{low_at}
use Rattle.parking_lot_machine_waits.proofs.Moves.{apart}
use Rattle.parking_lot_machine_waits.proofs.RankParts.{busy_is}
use Rattle.parking_lot_machine_calls.specs.declared.calls.LockCall.{LockCall}
use Rattle.parking_lot_machine_calls.specs.declared.open_call.Call.{Call}
use Rattle.parking_lot_machine.specs.Machines as rows
use Rattle.parking_lot_machine.specs.Requeues.{AreTakenIn, IsRousedIn, IsTakenIn}
use Rattle.parking_lot_machine.specs.RowFits.{FitsTogether}
use Rattle.parking_lot_machine.specs.Rows.{State, call_at, state}
use Rattle.parking_lot_world.proofs.Whole.{both_true}

-- AN OPEN CALL IS LED ON

-- it stands there, or at what follows
pub record LedOn (o : Option Call) (lock others : ℕ) (timed : Bool) (at : Stage) : Type 0 where
  pub to : Stage
  pub leads : Leads others at to
  pub open_call : IsOpen o lock others timed to

pub still_open : (o p : Option Call) (lock others : ℕ) (timed : Bool) (at : Stage) → p ≡ o
    → IsOpen o lock others timed at → LedOn p lock others timed at
still_open o p lock others timed at e x =
    record {
      to = at;
      leads = inl refl;
      open_call = subst (λ (q : Option Call). IsOpen q lock others timed at) (sym e)
          x;
    }

pub led_on : (o p : Option Call) (lock others : ℕ) (timed : Bool) (at : Stage) → IsOpen o lock others timed at
    → Onward o p → LedOn p lock others timed at
led_on o p lock others timed at x on =
    let go : GoesOn x.call p = subst (λ (q : Option Call). Onward q p) x.here on in
    record {
      to = go.to;
      leads = subst (λ n. Leads n at go.to) x.beside
          (subst (λ (a : Stage). Leads x.call.others a go.to) x.stands go.leads);
      open_call = record {
        call = go.kept.call;
        here = go.kept.here;
        there = go.kept.there ∙ x.there;
        beside = go.kept.beside ∙ x.beside;
        deadline = go.kept.deadline ∙ x.deadline;
        stands = go.kept.stands;
      };
    }

-- AT THE LOCKS, OF ANOTHER NUMBER THAN k

module _ (law : CallsLead) (k : ℕ) where
  abbrev pub Led : State → State → Type 0
  Led s u = Onward (call_at s k) (call_at u k)

  onward_itself : (o : Option Call) → Onward o o
  onward_itself None = refl
  onward_itself (Some c) =
      record {
        to = stage c;
        kept = record { call = c; here = refl; there = refl; beside = refl; deadline = refl; stands = refl };
        asked = refl;
        leads = inl refl;
      }

  pub same_led : (s u : State) → call_at u k ≡ call_at s k → Led s u
  same_led s u e = subst (λ (o : Option Call). Onward (call_at s k) o) (sym e) (onward_itself (call_at s k))

  then_same : (s m u : State) → Led s m → call_at u k ≡ call_at m k → Led s u
  then_same s m u on e = subst (λ (o : Option Call). Onward (call_at s k) o) (sym e) on

  pub stepped_led : (s u : State) (v : ℕ) (fair : Bool) (a : Option CoreAnswer) → FitsTogether s → k ≢ v
      → rows.IsStepped v fair a s u → Led s u
  stepped_led s u v fair None fits ne x = law.steps s u v fair fits x k
  stepped_led s u v fair (Some a) fits ne x = same_led s u (law.answers_alone s u v fair a x k ne)

  pub begun_led : (s u : State) (v lock : ℕ) (c : LockCall) → k ≢ v → rows.IsBegun v lock c s u → Led s u
  begun_led s u v lock c ne x = same_led s u (law.begins_alone s u v lock c x k ne)

  pub expired_led : (s u : State) (v : ℕ) → k ≢ v → rows.IsExpired v s u → Led s u
  expired_led s u v ne x = same_led s u (law.deadlines_alone s u v x k ne)

  taken_same : (s u : State) (v lock : ℕ) (timed : Bool) → k ≢ v → IsTakenIn v lock timed s u
      → call_at u k ≡ call_at s k
  taken_same s u v lock timed ne x = ap (λ (w : State). call_at w k) x.became ∙ set_elsewhere s.calls v k _ ne

  roused_same : (s u : State) (v lock : ℕ) (timed : Bool) → k ≢ v → IsRousedIn v lock timed s u
      → call_at u k ≡ call_at s k
  roused_same s u v lock timed ne x = ap (λ (w : State). call_at w k) x.became ∙ set_elsewhere s.calls v k _ ne

  abbrev NoneIs : List (ℕ × Bool) → Type 0
  NoneIs [] = Unit {0}
  NoneIs (e ∷ es) = (k ≢ e.0) × NoneIs es

  taken_all_same : (s u : State) (lock : ℕ) (es : List (ℕ × Bool)) → NoneIs es → AreTakenIn lock es s u
      → call_at u k ≡ call_at s k
  taken_all_same s u lock [] none e = ap (λ (w : State). call_at w k) e
  taken_all_same s u lock (e ∷ es) (ne, none) (m, first, rest) = taken_all_same m u lock es none rest
      ∙ taken_same s m e.0 lock e.1 ne first

-- WHO WAITS AT A VARIABLE HAS A SEAT

module _ (i : Joint) (h : IsWhole i) (v : ℕ) (x : Var) (at : var_at i v ≡ Some x) (known : KnownIn (Some x)) (t : ℕ)
    (free : (seat_at i t).at ≡ None) (low : t < length i.seats) where
  abbrev is_another : ℕ → Bool
  is_another u = nat_lt u (length i.seats) && is_some (seat_at i u).at

  weighs_none : 0 < rules.weight rules.Waiting rules.Idle → ⊥
  unfolding rules.weight
  weighs_none some = omega (arith, some)

  both : (a b : Bool) → a ≡ true → b ≡ true → a && b ≡ true
  both true b e f = f
  both false b e f = absurd cc

  called : (u : ℕ) (c : OpenCall) → var_call_at x u ≡ Some c → is_another u ≡ true
  called u c here =
      let there = ap (λ (o : Option Var). call_in o u) at ∙ here in
      both _ _ (lt-ltb u (length i.seats) (low_at i h v u c there)) (ap is_some (h.seated v u c there))

  by_call : (u : ℕ) (o : Option OpenCall) → var_call_at x u ≡ o → 0 < rules.weight rules.Waiting (phase_in o)
      → is_another u ≡ true
  by_call u None here some = absurd (weighs_none some)
  by_call u (Some c) here some = called u c here

  by_slot : (u : ℕ) (o : Option (Option OpenCall)) → slice_get x.calls u ≡ o → 0 < at_index (rules.weight rules.Waiting)
      (option_map phase_in o) → is_another u ≡ true
  by_slot u None is some = absurd (omega (arith, some))
  by_slot u (Some o) is some = by_call u o (ap (option_and_then (λ (y : Option OpenCall). y)) is) some

  others_wait : list_all is_another x.queue ≡ true
  others_wait = all_of is_another x.queue
      (λ u some. by_slot u (slice_get x.calls u) refl
      (subst (λ m. 0 < m)
      (known.1.lists u ∙ ap (at_index (rules.weight rules.Waiting)) (slice_get-map phase_in x.calls u)) some))

  taken_all : (n : ℕ) (ws : List ℕ) → list_all is_another ws ≡ true → list_all is_another (take n ws) ≡ true
  taken_all zero ws all = refl
  taken_all (suc n) [] all = refl
  taken_all (suc n) (y ∷ ws) all = (let here = both_true _ _ all in both _ _ here.0 (taken_all n ws here.1))

  -- so none of them moves a number of thread t, which has none
  not_moved : (b : Bool) (u : ℕ) → is_another u ≡ true → number i t b ≢ back_in i.seats u
  not_moved b u is =
      let there = both_true _ _ is in
      apart (length i.seats) t u b (seat_at i u).second low (ltb-true u (length i.seats) there.0)
      (λ e. some_none (seat_at i u).at there.1 (ap (λ m. (seat_at i m).at) (sym e) ∙ free))
    where
      some_none : (o : Option ℕ) → is_some o ≡ true → o ≡ None → ⊥
      some_none (Some y) is e = none-some y (sym e)
      some_none None is e = cc

  module _ (law : CallsLead) (b : Bool) where
    none_moved : (ws : List ℕ) → list_all is_another ws ≡ true → NoneIs law (number i t b) (map (entry i.seats x) ws)
    none_moved [] all = tt
    none_moved (u ∷ ws) all = (let here = both_true _ _ all in (not_moved b u here.0, none_moved ws here.1))

    pub moved_led : (m : ℕ) (s u : State) (locked : Bool) (ws : List ℕ) → list_all is_another ws ≡ true
        → MovesIn (Some x) locked i.seats m ws s u → Led law (number i t b) s u
    moved_led m s u true ws all moves = same_led law (number i t b) s u
        (taken_all_same law (number i t b) s u m (map (entry i.seats x) ws) (none_moved ws all) moves)
    moved_led m s u false [] all e = same_led law (number i t b) s u (ap (λ (w : State). call_at w (number i t b)) e)
    moved_led m s u false (y ∷ ws) all (mid, first, rest) =
        let here = both_true _ _ all in
        same_led law (number i t b) s u (
        taken_all_same law (number i t b) mid u m (map (entry i.seats x) ws) (none_moved ws here.1) rest
        ∙ roused_same law (number i t b) s mid (back_in i.seats y) m false (not_moved b y here.0) first
        )

-- THE STEPS OF ANOTHER THREAD u

module _ (law : CallsLead) (i j : Joint) (h : IsWhole i) (fit : PartsFit i) (t u : ℕ) (ne : t ≢ u)
    (low : t < length i.seats) (there : u < length i.seats) (free : (seat_at i t).at ≡ None) (b : Bool) where
  abbrev k : ℕ
  k = number i t b

  abbrev On : State → Type 0
  On s = Led law k (state i.rows) s

  -- a number of thread u is none of thread t's
  not_its : (c : Bool) → k ≢ number i u c
  not_its c = apart (length i.seats) t u b c low there ne

  rows_same : j.rows ≡ i.rows → On (state j.rows)
  rows_same e = same_led law k (state i.rows) (state j.rows) (ap (λ m. call_at (state m) k) e)

  begun : (c : Bool) (lock : ℕ) (call : LockCall) → rows.IsBegun (number i u c) lock call (state i.rows) (state j.rows)
      → On (state j.rows)
  begun c lock call x = begun_led law k (state i.rows) (state j.rows) (number i u c) lock call (not_its c) x

  stepped : (c fair : Bool) (a : Option CoreAnswer) (s : State) → rows.IsStepped (number i u c) fair a (state i.rows) s
      → On s
  stepped c fair a s x = stepped_led law k (state i.rows) s (number i u c) fair a fit.rows (not_its c) x

  onto : (s : State) → state j.rows ≡ s → On s → On (state j.rows)
  onto s e on = subst On (sym e) on

  again : (c fair : Bool) (a : CoreAnswer) (lock : ℕ) (mid : State) → rows.IsStepped (number i u c) fair (Some a)
      (state i.rows) mid → rows.IsBegun (number i u c) lock LockCall.Lock mid (state j.rows) → On (state j.rows)
  again c fair a lock mid x begins = then_same law k (state i.rows) mid (state j.rows) (stepped c fair (Some a) mid x)
      (law.begins_alone mid (state j.rows) (number i u c) lock LockCall.Lock begins k (not_its c))

  followed : (c fair late : Bool) (a : Option CoreAnswer) (v : ℕ) (o : OpenCall) (d : Call) (mid : State)
      → rows.IsStepped (number i u c) fair a (state i.rows) mid → FollowsAs late a u (number i u c) v o d i mid j
      → On (state j.rows)
  followed c fair true None v o d mid x (same, vars) = onto mid same (stepped c fair None mid x)
  followed c fair false None v o d mid x (same, hears) = onto mid same (stepped c fair None mid x)
  followed c fair true (Some answer.Owned) v o d mid x (same, hears) =
      onto mid same (stepped c fair (Some answer.Owned) mid x)
  followed c fair false (Some answer.Owned) v o d mid x (same, hears) =
      onto mid same (stepped c fair (Some answer.Owned) mid x)
  followed c fair true (Some answer.Refused) v o d mid x (begins, hears) = again c fair answer.Refused d.lock mid x
      begins
  followed c fair false (Some answer.Refused) v o d mid x (begins, hears) = again c fair answer.Refused d.lock mid x
      begins
  followed c fair true (Some answer.Released) v o d mid x (begins, hears) = again c fair answer.Released d.lock mid x
      begins
  followed c fair false (Some answer.Released) v o d mid x (begins, hears) = again c fair answer.Released d.lock mid x
      begins

  comes_back : (may : Bool) → ComesBackIf may (back_number i u) i j → On (state j.rows)
  comes_back true x = expired_led law k (state i.rows) (state j.rows) (back_number i u) (not_its (seat_at i u).second) x
  comes_back false e = rows_same e

  moved : (v : ℕ) (o : Option Var) → var_at i v ≡ o → KnownIn o → (m : ℕ) (locked : Bool) (c : CondvarCall)
      → MovesIn o locked i.seats m (takes_now c o) (state i.rows) (state j.rows) → On (state j.rows)
  moved v None at known m locked c moves = absurd moves
  moved v (Some x) at known m locked c moves =
      moved_led i h v x at known t free low law b m (state i.rows) (state j.rows) locked (takes_now c (Some x))
      (taken_all i h v x at known t free low (taken_of c (length x.queue)) x.queue
      (others_wait i h v x at known t free low)) moves

  turned : (x : Turn) (v : ℕ) (fair : Bool) (c : OpenCall) (reply : Option CondvarReply) → Turned x u v fair c reply i j
      → On (state j.rows)
  turned turn.Sleeps v fair c reply z = absurd z
  turned turn.Acts v fair c reply (acts, same) = rows_same same
  turned turn.GivesUp v fair c reply (acts, begins) = begun (not (seat_at i u).second) (mutex_of c.call) LockCall.Unlock
      begins
  turned turn.LocksAgain v fair c reply (acts, begins) = begun (seat_at i u).second (mutex_of c.call) LockCall.Lock
      begins
  turned turn.Unlocks v fair c reply (none, a, x, hears) = stepped (not (seat_at i u).second) fair a (state j.rows) x
  turned turn.Locks v fair c reply (none, a, x, hears) = stepped (seat_at i u).second fair a (state j.rows) x
  turned turn.Follows v fair c reply (none, z) = followed (seat_at i u).second fair (is_late z.d.core) z.answer v c z.d
      z.mid z.step z.onward
  turned turn.ComesBack v fair c reply (none, hears, back) =
      comes_back (rows.may_expire (state i.rows) (back_number i u)) back
  turned turn.Hears v fair c reply (none, hears, same) = rows_same same
  turned turn.Moves v fair c reply (none, z) = moved v (var_at i v) refl (fit.vars v) _ _ c.call z.moves

  -- it makes a step
  pub gone_led : (at : Option ℕ) (fair : Bool) (end : Option Ended) → IsGoneAt at u fair end i j → On (state j.rows)
  gone_led None fair end (a, z, ends) =
      (let (c, is) = busy_is i u in stepped c fair a (state j.rows)
      (subst (λ n. rows.IsStepped n fair a (state i.rows) (state j.rows)) is z.step))
  gone_led (Some v) fair end (reply, z, ends) = turned (turn_of z.call) v fair z.call reply z.turned

  -- begins a call, or its deadline comes
  pub asked_led : (lock : ℕ) (c : LockCall) → IsAsked u lock c i j → On (state j.rows)
  asked_led lock c x = begun (has_by_second i u lock) lock c x.begins

  pub late_led : (at : Option ℕ) → IsLateAt at u i j → On (state j.rows)
  late_led None (x, vars, seats) =
      (let (c, is) = busy_is i u in expired_led law k (state i.rows) (state j.rows) (number i u c) (not_its c)
      (subst (λ n. rows.IsExpired n (state i.rows) (state j.rows)) is x))
  late_led (Some v) (hears, same, seats) = rows_same same
