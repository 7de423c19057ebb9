-- A thread that joins a list: the machine stays fit, and it is a step of the rules.
use Rattle.std.proofs.Common.{◌≡◌, ◌≢◌, ℕ, ◌+◌, ◌*◌, ◌<◌, List, [], ◌∷◌, ◌++◌, length, Some, slice_get, refl, sym, ap}
use Rattle.std.proofs.Common.{◌∙◌, subst, arith, ◌⊎◌, inl, inr, Bool, None}
use Rattle.std.proofs.lemmas.Bool.{ne_eqb}
use Rattle.std.proofs.lemmas.List.{map-append}
use Rattle.parking_lot_core_model.specs.declared.parking.ParkToken.{ParkToken}
use Rattle.parking_lot_core_model.specs.declared.place.Waiter.{Waiter}
use Rattle.parking_lot_core_model.specs.Machine.{threads_of}
use Rattle.parking_lot_core_model.proofs.Kept.{updated_at, updated_other}
use Rattle.parking_lot_protocol.specs.declared.act.Act.{Act}
use Rattle.parking_lot_protocol.specs.declared.act.ActResult.{ActResult}
use Rattle.parking_lot_protocol.specs.Acts.{word_after}
use Rattle.parking_lot_protocol.specs.declared.rw_core.RwCore.{RwCore}
use Rattle.parking_lot_protocol.specs.declared.rw_phase.RwPhase.{RwPhase}
use Rattle.parking_lot_protocol.specs.declared.act.CoreAnswer.{CoreAnswer}
use Rattle.parking_lot_protocol.specs.declared.rw_phase.AfterWake.{AfterWake}
use Rattle.parking_lot_protocol_rw.specs.UpgradeTable as upgrade_table
use Rattle.parking_lot_protocol_rw.specs.declared.upgrade_phase.Hold.{Hold}
use Rattle.parking_lot_protocol_rw.specs.declared.upgrade_phase.Release.{Release}
use Rattle.parking_lot_protocol_rw.specs.declared.upgrade_phase.UpgradePhase.{UpgradePhase}
use Rattle.parking_lot_protocol.specs.declared.mutex_core.MutexCore.{MutexCore}
use Rattle.parking_lot_protocol.specs.declared.mutex_phase.MutexPhase.{MutexPhase}
use Rattle.parking_lot_machine_calls.specs.Kinds.{recursive_in}
use Rattle.parking_lot_machine_calls.specs.declared.seat.QueuePosition.{QueuePosition}
use Rattle.parking_lot_machine_calls.specs.declared.seat.LatePhase.{LatePhase}
use Rattle.parking_lot_machine_calls.specs.declared.seat.Core.{Core}
use Rattle.parking_lot_machine_calls.specs.declared.open_call.Call.{Call}
use Rattle.parking_lot_machine.specs.Rows.{State, word_at, call_at, taken_by, rw_lock_at, mutex_at}
use Rattle.parking_lot_machine_calls.specs.CallRoles.{first_of_all, mutex_spot}
use Rattle.parking_lot_machine_calls.specs.Stances.{Joins, In, late_stance, rw_stance, seeks_stance, upgrade_stance}
use Rattle.parking_lot_machine_calls.specs.Stances.{mutex_stance, stance, core_act, core_next, Takes, Stores}
use Rattle.parking_lot_machine_calls.specs.Stances.{taken_count}
use Rattle.parking_lot_machine.specs.RowActs.{appended, took_nobody}
use Rattle.parking_lot_machine_calls.specs.CallActs.{key_of}
use Rattle.parking_lot_machine.specs.RowFits.{FitsTogether, LotFits, WakesFit, IsPrepared, KnowsList}
use Rattle.parking_lot_machine_calls.specs.CallKinds.{IsOfKind}
use Rattle.parking_lot_machine.specs.ActLaws.{Acts}
use Rattle.parking_lot_machine_calls.proofs.Stancing.{leads_by}
use Rattle.parking_lot_machine.proofs.Carrying.{awake_sleeps, up_sleeps}
use Rattle.parking_lot_machine.proofs.LotActs.{awake_by, up_by, took_nobody_fits}
use Rattle.parking_lot_machine.proofs.LotLists.{one_key, appended_fits}
use Rattle.parking_lot_machine.proofs.MutexMoving.{steps}
use Rattle.parking_lot_machine.proofs.KindTable.{Plain, RwCall, Simple, Upgradable, next_is, of_mutexes, of_rws}
use Rattle.parking_lot_machine.proofs.KindTable.{rw_call, rw_next, same}
use Rattle.parking_lot_machine.proofs.RwCalls.{CallTold, as_move, call_move}
use Rattle.parking_lot_machine.proofs.RwScans.{scanner, takes_where}
use Rattle.parking_lot_machine.proofs.RwTells.{call_joins}
use Rattle.parking_lot_machine.proofs.Making.{mutex_goes, rw_goes}
use Rattle.parking_lot_machine.proofs.Meeting.{meets, plays, rw_hears}
use Rattle.parking_lot_machine.proofs.Owning.{OwnAct, own-there, own-elsewhere, own_after, rw_leads}
use Rattle.parking_lot_machine.proofs.Ruling.{Fitted, rules_own}
use Rattle.parking_lot_machine.proofs.WakesKept.{wakes_own}
use Rattle.parking_lot_machine.proofs.Crossings.{Continues, continues}
use Rattle.parking_lot_machine.proofs.Making.{entries}
use Rattle.parking_lot_machine.proofs.Passing.{own_passes}
use Rattle.parking_lot_machine.proofs.TakeParts.{awake_listed, beside, list_known}
use Rattle.parking_lot_core_model.specs.Results.{is_left}
use Rattle.parking_lot_protocol.specs.RwTable.{sum_of}
use Rattle.parking_lot_core_model.specs.declared.parking.FilterOp.TheVariants.{Unpark, Skip}
use Rattle.parking_lot_machine.specs.Passes.{ArePassed, asks}
use Rattle.parking_lot_machine.proofs.Wanting.{passed_as}
use Rattle.parking_lot_machine.specs.RowSteps.{IsMoveOf, IsRwMove}
use Rattle.parking_lot_machine.specs.RwLaws.{Finds}
use Rattle.parking_lot_machine.proofs.OwnMoves.{OwnMove, own_some}
use Rattle.parking_lot_core_model.specs.declared.place.Phase.TheVariants as phase
use Rattle.parking_lot_core_model.specs.Sound as lot
use Rattle.parking_lot_protocol.specs.declared.act.SectionAct.TheVariants as section
use Rattle.parking_lot_protocol.specs.RwRules as of_rw
use Rattle.parking_lot_protocol.specs.MutexTable as of_mutex_table
use Rattle.parking_lot_protocol.specs.MutexRules as of_mutex
use Rattle.parking_lot_machine_calls.specs.Stances as stances
use Rattle.parking_lot_machine_calls.proofs.Lying.{tardy_joins, tardy_takes}

late_joins : (p : LatePhase) (k : ℕ) (token : ParkToken) → late_stance p ≡ In k (Joins token) → ⊥
late_joins LatePhase.Expires k token e = cc
late_joins LatePhase.Quits k token e = cc
late_joins LatePhase.Masks k token e = cc
late_joins LatePhase.Leaves k token e = cc
late_joins LatePhase.GivesUp k token e = cc
late_joins (LatePhase.WasTaken by handed) k token e = cc

pub late_takes : (p : LatePhase) (k : ℕ) → late_stance p ≡ In k Takes → ⊥
late_takes LatePhase.Expires k e = cc
late_takes LatePhase.Quits k e = cc
late_takes LatePhase.Masks k e = cc
late_takes LatePhase.Leaves k e = cc
late_takes LatePhase.GivesUp k e = cc
late_takes (LatePhase.WasTaken by handed) k e = cc

module _ (s : State) (t : ℕ) (c : Call) (k : ℕ) (token : ParkToken)
    (asked : core_act c.core ≡ Act.Section (section.Append token)) (from : stance c.core ≡ In k (Joins token))
    (sound : lot.Sound (appended s t c (key_of c k) token).lot) (h : FitsTogether s) (here : call_at s t ≡ Some c) where
  abbrev u : State
  u = appended s t c (key_of c k) token

  leads : (k < 2) × (stance (core_next c.core ActResult.Made) ≡ In k (stances.Joined token)) × LotFits u
  leads =
      let l = leads_by c.core (Act.Section (section.Append token)) (word_at s c.lock) ActResult.Made asked tt in
      let e : In l.0 (Joins token) ≡ In k (Joins token) = sym l.2 ∙ from in
      let same : l.0 ≡ k = cc in
      let two : k < 2 = subst (λ (n : ℕ). n < 2) same l.1 in
      let to : stance (core_next c.core ActResult.Made) ≡ In k (stances.Joined token) = l.3
      ∙ ap (λ (n : ℕ). In n (stances.Joined token)) same in
      (two, to, appended_fits s t c h.lots here k two token from l.4 sound to l.5)

  other_key : (i l : ℕ) → i ≢ c.lock → l < 2 → u.lot.queues (2 * i + l) ≡ s.lot.queues (2 * i + l)
  other_key i l ne b = updated_other s.lot.queues (key_of c k) _ (2 * i + l)
      (ne_eqb (2 * i + l) (key_of c k) (λ e. ne (one_key i c.lock l k b leads.0 e).0))

  -- its section goes on
  on : Continues s u t
  on = continues s u t c h.lots here k (Joins token) from (λ x. record x { phase = phase.Joined }) (λ x. refl)
      (λ b. refl) refl
      (λ l ne. updated_other s.lot.queues (key_of c k)
      (s.lot.queues (key_of c k) ++ record { thread = t; token = token } ∷ []) l ne)

  own : OwnAct s u t c ActResult.Made (core_next c.core ActResult.Made) QueuePosition.Listed
  own = record {
    here = here;
    calls = refl;
    kinds = refl;
    wakes = refl;
    holds = refl;
    sizes = refl;
    word = sym (ap (λ (x : Act). word_after x ActResult.Made (word_at s c.lock)) asked);
    words = λ i ne. refl;
    queues = other_key;
    buckets = refl;
    listed = λ l park e. refl;
  }

  wakes : WakesFit u
  wakes =
      wakes_own s u t c ActResult.Made (core_next c.core ActResult.Made)
      (subst (λ (x : QueuePosition). OwnAct s u t c ActResult.Made (core_next c.core ActResult.Made) x)
      (sym (awake_listed s h t c here
      (λ l park e. awake_sleeps l park (stance c.core) (awake_by (stance c.core) (In k (Joins token)) from tt) e)))
      own)
      h.wakes

  -- the lists then
  list_here : (key : ℕ) → key ≡ key_of c k → threads_of (u.lot.queues key) ≡ threads_of (s.lot.queues key) ++ t ∷ []
  list_here key e =
      ap (λ n. threads_of (u.lot.queues n)) e
      ∙ ap threads_of (updated_at s.lot.queues (key_of c k)
      (s.lot.queues (key_of c k) ++ record { thread = t; token = token } ∷ []))
      ∙ map-append (λ (w : Waiter). w.thread) (s.lot.queues (key_of c k)) (record { thread = t; token = token } ∷ [])
      ∙ ap (λ n. threads_of (s.lot.queues n) ++ t ∷ []) (sym e)

  list_there : (key : ℕ) → key ≢ key_of c k → threads_of (u.lot.queues key) ≡ threads_of (s.lot.queues key)
  list_there key ne = ap threads_of (updated_other s.lot.queues (key_of c k) _ key (ne_eqb key (key_of c k) ne))

  -- what the other calls know
  others : (v : ℕ) (e : Call) → v ≢ t → call_at s v ≡ Some e → KnowsList e.core u.lot.queues e.lock
  others v e ne at =
      list_known e.core s.lot.queues u.lot.queues e.lock
      (λ l what is. updated_other s.lot.queues (key_of c k)
      (s.lot.queues (key_of c k) ++ record { thread = t; token = token } ∷ []) (2 * e.lock + l)
      (beside s h.lots t c here k (Joins token) from v e ne at l what is))
      (h.rules.knows v e at)

  own_of : (x : Core) → c.core ≡ x → OwnAct s u t c ActResult.Made (core_next x ActResult.Made) QueuePosition.Listed
  own_of x e = subst (λ (y : Core). OwnAct s u t c ActResult.Made (core_next y ActResult.Made) QueuePosition.Listed) e
      own

  -- AT A READER-WRITER LOCK

  abbrev owed : List ℕ
  owed = taken_by s.wakes t

  joins_rw : (y : RwCall) → c.core ≡ rw_call y → Fitted s u t c ActResult.Made (rw_call y)
  joins_rw y e =
      let a = subst (λ (x : Core). OwnAct s u t c ActResult.Made x QueuePosition.Listed) (next_is y ActResult.Made)
      (own_of (rw_call y) e) in
      let kind_is = of_rws.of_kind (slice_get s.kinds c.lock) y
      (subst (IsOfKind (slice_get s.kinds c.lock)) e (h.rules.kinds t c here)) in
      let z = call_joins (recursive_in s.kinds c.lock) (rw_lock_at s c.lock) t c.others c.spot owed y (word_at s c.lock)
      k token (meets s h t c y e here) (ap stance (sym e) ∙ from) in
      let well = rw_hears s h t c y e here ActResult.Made z.told tt u.lot.queues
      (z.learns (u.lot.queues (2 * c.lock)) (u.lot.queues (2 * c.lock + 1))) in
      let after = own_after of_rws s u t c ActResult.Made (rw_next y ActResult.Made) QueuePosition.Listed a
      (word_at s c.lock) refl in
      let goes : IsRwMove (of_rw.Joins z.list) owed c.lock t s u = elim z.step [
        | inl x ↦
            rw_goes s u t c.lock (of_rw.Joins z.list) owed _ (own-there s u t c ActResult.Made _ QueuePosition.Listed a)
            (own-elsewhere s u t c ActResult.Made _ QueuePosition.Listed a) kind_is x.1
            (after ∙ same of_rws _ _ _ _ _ _ _ _ refl refl (list_here (2 * c.lock) (omega (arith, x.0)))
            (list_there (2 * c.lock + 1) (λ f. omega (arith, x.0, f)))) (tt, on.entered) tt
        | inr x ↦
            rw_goes s u t c.lock (of_rw.Joins z.list) owed _ (own-there s u t c ActResult.Made _ QueuePosition.Listed a)
            (own-elsewhere s u t c ActResult.Made _ QueuePosition.Listed a) kind_is x.1
            (after ∙ same of_rws _ _ _ _ _ _ _ _ refl refl (list_there (2 * c.lock) (λ f. omega (arith, x.0, f)))
            (list_here (2 * c.lock + 1) (omega (arith, x.0)))) (tt, on.entered) tt
      ] in (
        as_move y c.others owed ActResult.Made c.lock t s u
            (subst (λ m. IsRwMove m owed c.lock t s u) (sym z.move) goes),
        well.0,
        well.1,
        h.rules.bits c.lock,
      )

  -- AT A MUTEX

  joins_mutex : (q : MutexPhase) (y : MutexCore) → c.core ≡ Core.Mutex (record y { phase = q })
      → mutex_stance q ≡ In k (Joins token) → Fitted s u t c ActResult.Made (Core.Mutex (record y { phase = q }))
  joins_mutex MutexPhase.Appends y e at =
      let z : MutexCore = record y { phase = MutexPhase.Appends } in
      let a = own_of (Core.Mutex z) e in
      let zero : 0 ≡ k = cc in (
        mutex_goes s u t c.lock (first_of_all owed) owed _ of_mutex.Joins
            (own-there s u t c ActResult.Made _ QueuePosition.Listed a)
            (own-elsewhere s u t c ActResult.Made _ QueuePosition.Listed a)
            (subst (IsOfKind (slice_get s.kinds c.lock)) e (h.rules.kinds t c here))
            (steps.joins (mutex_at s c.lock) (word_at s c.lock) t (first_of_all owed) (mutex_spot c.spot)
            MutexPhase.Appends (record { 0 = 0 }) (plays s h t c z e here (λ w. cc)) refl).leads
            (own_after of_mutexes s u t c ActResult.Made
            (Plain (record z { phase = of_mutex_table.next_phase MutexPhase.Appends ActResult.Made }))
            QueuePosition.Listed a (word_at s c.lock) refl ∙ same of_mutexes _ _ _ _ _ _ [] [] refl refl
            (list_here (2 * c.lock) (omega (arith, zero))) refl)
            (tt, on.entered) tt,
        subst (IsPrepared (recursive_in s.kinds c.lock) c.others) e (h.rules.prepared t c here),
        tt,
        h.rules.bits c.lock,
      )
  joins_mutex q y e at = absurd (cc)

  by_core : (x : Core) → c.core ≡ x → Fitted s u t c ActResult.Made x
  by_core (Core.Rw y) e = joins_rw (Simple y) e
  by_core (Core.Upgrade y) e = joins_rw (Upgradable y) e
  by_core (Core.Mutex y) e = joins_mutex y.phase y e (ap stance (sym e) ∙ from)
  by_core (Core.Late p) e = absurd (late_joins p k token (ap stance (sym e) ∙ from))
  by_core (Core.LateRw p) e = absurd (tardy_joins p k token (ap stance (sym e) ∙ from))

  pub appends : (told : ActResult) × Acts t c told s u
  appends = let both = rules_own s u t c ActResult.Made QueuePosition.Listed own h others (by_core c.core refl) in (
    ActResult.Made,
    record {
      fits =
          record {
            lots = leads.2;
            passes = own_passes s u t c ActResult.Made (core_next c.core ActResult.Made)
                QueuePosition.Listed own leads.2 h.passes
                on.around
                (λ l o e. absurd (let f : In k (stances.Joined token) ≡ In l Takes = sym leads.1 ∙ e in cc));
            wakes = wakes;
            rules = both.0;
          };
      goes = both.1;
    },
  )

-- A thread that takes waiters and finds nobody: the machine stays fit, and nothing changes at its lock.

-- WHO TAKES

-- which act it asks for
abbrev pub AsksToTake : Act → Type 0
AsksToTake a = (a ≡ Act.Section section.TakeFirst) ⊎ ((sum : ℕ) × (a ≡ Act.Section (section.TakeNext sum)))

rw_takes : (q : RwPhase) (y : RwCore) (k : ℕ) → rw_stance q ≡ In k Takes
    → AsksToTake (core_act (Core.Rw (record y { phase = q })))
rw_takes (RwPhase.TakeWriter rest) y k e = inl refl
rw_takes (RwPhase.Scans a) y k e = inr (sum_of a, refl)
rw_takes q y k e = absurd (cc)

seeks_takes : (q : RwPhase) (k : ℕ) → seeks_stance q ≡ In k Takes → AsksToTake (upgrade_table.seeks_act q)
seeks_takes (RwPhase.TakeWriter rest) k e = inl refl
seeks_takes (RwPhase.Scans a) k e = inr (sum_of a, refl)
seeks_takes q k e = absurd cc

frees_takes : (r : Release) (q : RwPhase) (k : ℕ) → rw_stance q ≡ In k Takes → AsksToTake (upgrade_table.frees_act r q)
frees_takes r (RwPhase.TakeWriter rest) k e = inl refl
frees_takes r (RwPhase.Scans a) k e = inr (sum_of a, refl)
frees_takes r q k e = absurd cc

owes_takes : (kept : Hold) (end : CoreAnswer) (q : RwPhase) (k : ℕ) → rw_stance q ≡ In k Takes
    → AsksToTake (upgrade_table.owes_act kept end q)
owes_takes kept end (RwPhase.TakeWriter rest) k e = inl refl
owes_takes kept end (RwPhase.Scans a) k e = inr (_, refl)
owes_takes kept end q k e = absurd cc

upgrade_takes : (p : UpgradePhase) (k : ℕ) → upgrade_stance p ≡ In k Takes → AsksToTake (upgrade_table.act_of p)
upgrade_takes (UpgradePhase.Plain core) k e = rw_takes core.phase core k e
upgrade_takes (UpgradePhase.Seeks core) k e = seeks_takes core.phase k e
upgrade_takes (UpgradePhase.Drains core) k e = rw_takes core.phase core k e
upgrade_takes (UpgradePhase.Frees r core) k e = frees_takes r core.phase k e
upgrade_takes (UpgradePhase.Owes kept end core) k e = owes_takes kept end core.phase k e
upgrade_takes p k e = absurd cc

mutex_takes : (q : MutexPhase) (y : MutexCore) (k : ℕ) → mutex_stance q ≡ In k Takes
    → AsksToTake (core_act (Core.Mutex (record y { phase = q })))
mutex_takes (MutexPhase.Takes giving) y k e = inl refl
mutex_takes q y k e = absurd (cc)

pub asks_to_take : (x : Core) (k : ℕ) → stance x ≡ In k Takes → AsksToTake (core_act x)
asks_to_take (Core.Rw y) k e = rw_takes y.phase y k e
asks_to_take (Core.Upgrade y) k e = upgrade_takes y.phase k e
asks_to_take (Core.Mutex y) k e = mutex_takes y.phase y k e
asks_to_take (Core.Late p) k e = absurd (late_takes p k e)
asks_to_take (Core.LateRw p) k e = absurd (tardy_takes p k e)

-- whatever it takes, the word stays
pub takes_no_word : (a : Act) (told : ActResult) (x : ℕ) → AsksToTake a → word_after a told x ≡ x
takes_no_word a told x (inl e) = ap (λ b. word_after b told x) e
takes_no_word a told x (inr e) = ap (λ b. word_after b told x) e.1

module _ (s : State) (t : ℕ) (c : Call) (k : ℕ) (from : stance c.core ≡ In k Takes)
    (passes : ArePassed (asks (core_act c.core)) (s.lot.queues (key_of c k)) (length (s.lot.queues (key_of c k))))
    (sound : lot.Sound (took_nobody s t c (key_of c k)).lot)
    (h : FitsTogether s) (here : call_at s t ≡ Some c) where
  abbrev found_state : State
  found_state = took_nobody s t c (key_of c k)

  abbrev left_over : Bool
  left_over = is_left (s.lot.queues (key_of c k))

  abbrev finds_none : ActResult
  finds_none = ActResult.Took None left_over

  abbrev NextOf : Core → Core
  NextOf x = core_next x finds_none

  leads_on : (stance (NextOf c.core) ≡ In k Stores) × (taken_count (NextOf c.core) ≡ taken_count c.core)
  leads_on = elim (asks_to_take c.core k from) [
    | inl e ↦
        let l = leads_by c.core (Act.Section section.TakeFirst) (word_at s c.lock) finds_none e tt in
        let f : In l.0 Takes ≡ In k Takes = sym l.1 ∙ from in
        let same : l.0 ≡ k = cc in
        (l.2.0 ∙ ap (λ (n : ℕ). In n Stores) same, l.2.1)
    | inr e ↦
        let l = leads_by c.core (Act.Section (section.TakeNext e.0)) (word_at s c.lock) finds_none e.1 tt in
        let f : In l.0 Takes ≡ In k Takes = sym l.1 ∙ from in
        let same : l.0 ≡ k = cc in
        (l.2.0 ∙ ap (λ (n : ℕ). In n Stores) same, l.2.1)
  ]

  finds_on : Continues s found_state t
  finds_on = continues s found_state t c h.lots here k Takes from (λ x. record x { phase = phase.Ended }) (λ x. refl)
      (λ b. refl) refl (λ l ne. refl)

  own_find : OwnAct s found_state t c finds_none (NextOf c.core) c.spot
  own_find = record {
    here = here;
    calls = refl;
    kinds = refl;
    wakes = refl;
    holds = refl;
    sizes = refl;
    word = sym (takes_no_word (core_act c.core) finds_none (word_at s c.lock) (asks_to_take c.core k from));
    words = λ i ne. refl;
    queues = λ i l ne b. refl;
    buckets = refl;
    listed = λ l park e. absurd
        (up_sleeps l park (stance (NextOf c.core)) (up_by (stance (NextOf c.core)) (In k Stores) leads_on.0 tt) e);
  }

  find_of : (x : Core) → c.core ≡ x → OwnAct s found_state t c finds_none (core_next x finds_none) c.spot
  find_of x e = subst (λ (y : Core). OwnAct s found_state t c finds_none (core_next y finds_none) c.spot) e own_find

  others_know : (v : ℕ) (e : Call) → v ≢ t → call_at s v ≡ Some e → KnowsList e.core found_state.lot.queues e.lock
  others_know v e ne at = h.rules.knows v e at

  -- where whoever is first is taken nobody waits
  is_empty : ((token : ℕ) → asks (core_act c.core) token ≡ Unpark) → s.lot.queues (key_of c k) ≡ []
  is_empty all = go (s.lot.queues (key_of c k)) passes
    where
      unpark≢skip : Unpark ≡ Skip → ⊥
      unpark≢skip e = cc

      go : (q : List Waiter) → ArePassed (asks (core_act c.core)) q (length q) → q ≡ []
      go [] passed = refl
      go (x ∷ q) passed = absurd (unpark≢skip (sym (all x.token.0) ∙ passed 0 x (omega arith) refl))

  abbrev owed_here : List ℕ
  owed_here = taken_by s.wakes t

  -- AT A READER-WRITER LOCK

  stays_rw : (y : RwCall) → c.core ≡ rw_call y → CallTold y (word_at s c.lock) finds_none
      → Finds (core_act (rw_call y)) (rw_lock_at s c.lock) → OwnMove (call_move c.others owed_here y finds_none) t
      (entries s c.lock) (entries found_state c.lock)
      → IsMoveOf (rw_call y) c.others owed_here finds_none c.lock t s found_state
  stays_rw y e heard finds moves =
      let a = subst (λ (x : Core). OwnAct s found_state t c finds_none x c.spot) (next_is y finds_none)
      (find_of (rw_call y) e) in
      let kind_is = of_rws.of_kind (slice_get s.kinds c.lock) y
      (subst (IsOfKind (slice_get s.kinds c.lock)) e (h.rules.kinds t c here)) in
      let leads_on = rw_leads (recursive_in s.kinds c.lock) (rw_lock_at s c.lock) t c.others c.spot owed_here y
      (word_at s c.lock) finds_none (meets s h t c y e here) heard finds a.listed (entries s c.lock)
      (entries found_state c.lock)
      moves in
      as_move y c.others owed_here finds_none c.lock t s found_state
      (rw_goes s found_state t c.lock (call_move c.others owed_here y finds_none) owed_here _
      (own-there s found_state t c finds_none _ c.spot a) (own-elsewhere s found_state t c finds_none _ c.spot a)
      kind_is leads_on.0
      (own_after of_rws s found_state t c finds_none (rw_next y finds_none) c.spot a _
      (a.word ∙ ap (λ y. word_after (core_act y) finds_none (word_at s c.lock)) e)) leads_on.1
      (own_some (call_move c.others owed_here y finds_none) owed_here t (entries s c.lock)
      (entries found_state c.lock) moves))

  -- the pending writer's list is empty
  finds_writer : (rest : AfterWake) → c.core ≡ Core.Rw (record { phase = RwPhase.TakeWriter rest }) → 1 ≡ k
      → Fitted s found_state t c finds_none (Core.Rw (record { phase = RwPhase.TakeWriter rest }))
  finds_writer rest e one = (
    stays_rw (Simple (record { phase = RwPhase.TakeWriter rest })) e tt tt (tt, finds_on.entered),
    subst (IsPrepared (recursive_in s.kinds c.lock) c.others) e (h.rules.prepared t c here),
    ap s.lot.queues (omega (arith, one)) ∙ is_empty (λ token. ap (λ (x : Core). asks (core_act x) token) e),
    h.rules.bits c.lock,
  )

  finds_rw : (y : RwCall) → c.core ≡ rw_call y → Fitted s found_state t c finds_none (rw_call y)
  finds_rw y e =
      let ready = subst (IsPrepared (recursive_in s.kinds c.lock) c.others) e (h.rules.prepared t c here) in
      elim (takes_where (recursive_in s.kinds c.lock) c.others y k ready (ap stance (sym e) ∙ from)) [
        | inl x ↦
            let sc = scanner (recursive_in s.kinds c.lock) c.others y x.0 ready in
            let told = sc.none (word_at s c.lock) left_over in
            let key : key_of c k ≡ 2 * c.lock = omega (arith, x.1) in
            let all = subst (λ n. ArePassed (asks (core_act (rw_call y))) (s.lot.queues n) (length (s.lot.queues n)))
            key (passed_as _ _ (s.lot.queues (key_of c k)) (length (s.lot.queues (key_of c k)))
            (λ token. ap (λ (x : Core). asks (core_act x) token) e) passes) in
            let well = rw_hears s h t c y e here finds_none told tt found_state.lot.queues
            (sc.passes left_over (s.lot.queues (2 * c.lock)) (s.lot.queues (2 * c.lock + 1))
            (ap (λ n. is_left (s.lot.queues n)) (sym key)) all) in (
              stays_rw y e told (subst (λ (a : Act). Finds a (rw_lock_at s c.lock)) (sym sc.act.1) tt)
                  (subst (λ m. OwnMove m t (entries s c.lock) (entries found_state c.lock))
                  (sym (sc.stays owed_here left_over))
                  (tt, finds_on.entered)),
              well.0,
              well.1,
              h.rules.bits c.lock,
            )
        | inr x ↦ subst (λ (q : RwCall). Fitted s found_state t c finds_none (rw_call q)) (sym x.1)
            (finds_writer x.0 (e ∙ ap rw_call x.1) x.2)
      ]

  -- AT A MUTEX

  finds_mutex : (q : MutexPhase) (y : MutexCore) → c.core ≡ Core.Mutex (record y { phase = q })
      → mutex_stance q ≡ In k Takes → Fitted s found_state t c finds_none (Core.Mutex (record y { phase = q }))
  finds_mutex (MutexPhase.Takes giving) y e at =
      let z : MutexCore = record y { phase = MutexPhase.Takes giving } in
      let a = find_of (Core.Mutex z) e in
      let zero : 0 ≡ k = cc in (
        mutex_goes s found_state t c.lock (first_of_all owed_here) owed_here _ of_mutex.Stays
            (own-there s found_state t c finds_none _ c.spot a) (own-elsewhere s found_state t c finds_none _ c.spot a)
            (subst (IsOfKind (slice_get s.kinds c.lock)) e (h.rules.kinds t c here))
            (steps.takes_nobody (mutex_at s c.lock) (word_at s c.lock) t (first_of_all owed_here) (mutex_spot c.spot)
            (MutexPhase.Takes giving) left_over (plays s h t c z e here (λ w. cc)) refl).leads
            (own_after of_mutexes s found_state t c finds_none
            (Plain (record z { phase = of_mutex_table.next_phase (MutexPhase.Takes giving) finds_none })) c.spot a
            (word_at s c.lock) refl) (tt, finds_on.entered) tt,
        subst (IsPrepared (recursive_in s.kinds c.lock) c.others) e (h.rules.prepared t c here),
        (
          ap (λ n. is_left (s.lot.queues n)) (omega (arith, zero)),
          λ f. ap is_left (is_empty (λ token. ap (λ (x : Core). asks (core_act x) token) e)),
        ),
        h.rules.bits c.lock,
      )
  finds_mutex q y e at = absurd (cc)

  find_by_core : (x : Core) → c.core ≡ x → Fitted s found_state t c finds_none x
  find_by_core (Core.Rw y) e = finds_rw (Simple y) e
  find_by_core (Core.Upgrade y) e = finds_rw (Upgradable y) e
  find_by_core (Core.Late p) e = absurd (late_takes p k (ap stance (sym e) ∙ from))
  find_by_core (Core.LateRw p) e = absurd (tardy_takes p k (ap stance (sym e) ∙ from))
  find_by_core (Core.Mutex y) e = finds_mutex y.phase y e (ap stance (sym e) ∙ from)

  pub takes_nobody : (what : ActResult) × Acts t c what s found_state
  takes_nobody =
      let both = rules_own s found_state t c finds_none c.spot own_find h others_know (find_by_core c.core refl) in
      let lots = took_nobody_fits s t c k h.lots here from leads_on.0 leads_on.1 sound in (
        finds_none,
        record {
          fits =
              record {
                lots = lots;
                passes = own_passes s found_state t c finds_none (NextOf c.core) c.spot own_find lots
                    h.passes finds_on.around
                    (λ l o e. absurd (let f : In k Stores ≡ In l Takes = sym leads_on.0 ∙ e in cc));
                wakes = wakes_own s found_state t c finds_none (NextOf c.core) own_find h.wakes;
                rules = both.0;
              };
          goes = both.1;
        },
      )
