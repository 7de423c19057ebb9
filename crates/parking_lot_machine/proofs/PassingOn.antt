-- A taking goes on past whom it has passed.
use Rattle.std.proofs.Common.{◌≡◌, ◌<◌, ℕ, ◌+◌, ◌*◌, ◌-◌, ◌^◌, ◌&&◌, inl, inr, not, cond, min, Bool, true, false, List}
use Rattle.std.proofs.Common.{remove, Option, Some, slice_get, refl, sym, ap, ◌∙◌, subst, arith}
use Rattle.std.specs.Option.{option_map, option_map_or}
use Rattle.std.proofs.lemmas.Bool.{cases_eq}
use Rattle.parking_lot_core_model.specs.Places.{passed_of}
use Rattle.parking_lot_core_model.specs.Results.{is_left}
use Rattle.parking_lot_core_model.specs.declared.parking.FilterOp.TheVariants.{Skip}
use Rattle.parking_lot_core_model.specs.declared.parking.ParkToken.{ParkToken}
use Rattle.parking_lot_core_model.specs.declared.place.Phase.TheVariants as phase
use Rattle.parking_lot_core_model.specs.declared.place.Section.{Section}
use Rattle.parking_lot_core_model.specs.declared.place.Waiter.{Waiter}
use Rattle.parking_lot_core_model.proofs.Kept.{updated_at}
use Rattle.parking_lot_protocol.specs.Acts.{Gives}
use Rattle.parking_lot_protocol.specs.RwTable as of_rw
use Rattle.parking_lot_protocol.specs.declared.act.ActResult.{ActResult}
use Rattle.parking_lot_protocol.specs.declared.mutex_phase.MutexPhase.{MutexPhase}
use Rattle.parking_lot_protocol.specs.declared.rw_phase.RwPhase.{RwPhase}
use Rattle.parking_lot_protocol.specs.declared.rw_phase.Scanning.{Scanning}
use Rattle.parking_lot_protocol.specs.declared.act.Act.{Act}
use Rattle.parking_lot_protocol.specs.declared.act.CoreAnswer.{CoreAnswer}
use Rattle.parking_lot_protocol_rw.specs.UpgradeRules.{IsReady}
use Rattle.parking_lot_protocol_rw.specs.UpgradeTable as upgrade_table
use Rattle.parking_lot_protocol_rw.specs.declared.upgrade_phase.Hold.{Hold}
use Rattle.parking_lot_protocol_rw.specs.declared.upgrade_phase.Release.{Release}
use Rattle.parking_lot_protocol_rw.specs.declared.upgrade_phase.UpgradePhase.{UpgradePhase}
use Rattle.parking_lot_machine_calls.specs.Kinds.{recursive_in}
use Rattle.parking_lot_machine.specs.RowFits.{IsPrepared, scan_keeps, sees_upgradable, upgrade_keeps}
use Rattle.parking_lot_machine_calls.specs.CallKinds.{IsOfWorld}
use Rattle.parking_lot_machine.proofs.RwScans.{drains_no_scan, seeks_nowhere}
use Rattle.parking_lot_machine.proofs.UpgradeParts.{frees_sums, owes_sums}
use Rattle.parking_lot_machine.specs.Passes.{ArePassed, IsNext, asks, look_by}
use Rattle.parking_lot_machine.specs.RowActs.{took}
use Rattle.parking_lot_machine_calls.specs.CallActs.{key_of}
use Rattle.parking_lot_machine.specs.RowFits.{FitsTogether, LotFits, PassesFit}
use Rattle.parking_lot_machine.specs.Rows.{State, call_at, word_at, bucket, open_at}
use Rattle.parking_lot_machine_calls.specs.StanceLaws.{Counts, rw_counts}
use Rattle.parking_lot_machine_calls.specs.Stances.{Stores, Takes, In, Asleep, rw_stance, stance, core_act, core_next}
use Rattle.parking_lot_machine_calls.specs.declared.open_call.Call.{Call}
use Rattle.parking_lot_machine_calls.specs.declared.seat.Core.{Core}
use Rattle.parking_lot_machine.proofs.Carrying.{same_call}
use Rattle.parking_lot_machine.proofs.Indexing.{get_remove}
use Rattle.parking_lot_machine.proofs.LotActs.{seat_of}
use Rattle.parking_lot_machine.proofs.Passing.{passes_after, skip_on}
use Rattle.parking_lot_machine.proofs.RwTaking.{scans_go_by_tokens}
use Rattle.parking_lot_machine_calls.proofs.Stancing.{takings_count}
use Rattle.parking_lot_machine.proofs.TakeJoins.{late_takes}
use Rattle.parking_lot_machine.proofs.TakeParts.{took_told, the_sleeper, taker_after, sleeper_after, others_after}
use Rattle.parking_lot_machine.proofs.TakeParts.{took_on}
use Rattle.parking_lot_machine_calls.proofs.Lying.{tardy_takes}

abbrev RwNext : Scanning → ℕ → Bool → RwPhase
RwNext a token left = option_map_or (λ q. q) (of_rw.scans a (Some (record { 0 = token })) left) RwPhase.Invalid

abbrev PassesOn : Scanning → RwPhase → ℕ → ℕ → Type 0
PassesOn a q k n = rw_stance q ≡ In k Takes → asks (of_rw.act_of (RwPhase.Scans a)) n ≡ Skip
    → asks (of_rw.act_of q) n ≡ Skip

goes_past : (a b : Scanning) (left : Bool) (k n : ℕ) → (a.upgradable ≡ true → b.upgradable ≡ true)
    → PassesOn a (of_rw.goes_on left b) k n
goes_past a b left k n more = go left b.writer refl
  where
    go : (x y : Bool) → b.writer ≡ y → PassesOn a (cond (x && not y) (RwPhase.Scans b) (RwPhase.Stores b left)) k n
    go true false w is skip = scans_go_by_tokens.sums b n ∙ skip_on a.upgradable a.writer b.upgradable b.writer n more w
        (sym (scans_go_by_tokens.sums a n) ∙ skip)
    go true true w is skip = absurd cc
    go false y w is skip = absurd cc

scan_on : (a : Scanning) (token : ParkToken) (left : Bool) (k n : ℕ) → rw_counts (RwPhase.Scans a) token
    → PassesOn a (of_rw.next_phase (RwPhase.Scans a) (ActResult.Took (Some token) left)) k n
scan_on a token left k n (inl h) = subst (λ m. PassesOn a (RwNext a m left) k n) (sym h.0)
    (goes_past a (record a { shared = min (a.shared + 1) (2 ^ 32 - 1) }) left k n (λ u. u))
scan_on a token left k n (inr (inl h)) = subst (λ m. PassesOn a (RwNext a m left) k n) (sym h.0)
    (goes_past a (record a { writer = true }) left k n (λ u. u))
scan_on a token left k n (inr (inr h)) = subst (λ m. PassesOn a (RwNext a m left) k n) (sym h.0)
    (goes_past a (record a { upgradable = true }) left k n (λ u. refl))

-- what is known of one that goes on
abbrev pub IsGoing : Core → Type 0
IsGoing (Core.Upgrade c) = IsReady c.phase × IsOfWorld c.phase × upgrade_keeps c.phase
IsGoing x = Unit {0}

pub going_of : (recursive : Bool) (n : ℕ) (x : Core) → IsPrepared recursive n x → IsGoing x
going_of recursive n (Core.Upgrade c) h = (h.1, h.2, h.3)
going_of recursive n (Core.Rw c) h = tt
going_of recursive n (Core.Mutex c) h = tt
going_of recursive n (Core.Late p) h = tt
going_of recursive n (Core.LateRw p) h = tt

-- Whom one that takes passes it passes when it goes on, too.
abbrev pub GoesPast : Core → ParkToken → Bool → ℕ → ℕ → Type 0
GoesPast x token left k n =
    let y = core_next x (ActResult.Took (Some token) left) in
    IsGoing x → IsGoing y → Counts x token → stance x ≡ In k Takes → stance y ≡ In k Takes → asks (core_act x) n ≡ Skip
    → asks (core_act y) n ≡ Skip

rw_past : (p : RwPhase) (token : ParkToken) (left : Bool) (k n : ℕ) → GoesPast (Core.Rw (record { phase = p })) token
    left k n
rw_past (RwPhase.TakeWriter rest) token left k n now then counts from to skip = absurd cc
rw_past (RwPhase.Scans a) token left k n now then counts from to skip = scan_on a token left k n counts to skip
rw_past p token left k n now then counts from to skip = absurd cc

-- one that keeps a hold, by whom it sees
abbrev PartPast : (RwPhase → Act) → Hold → Scanning → RwPhase → ℕ → ℕ → Type 0
PartPast f kept a q k n = scan_keeps kept q → rw_stance q ≡ In k Takes → look_by (sees_upgradable kept a) a.writer n
    ≡ Skip → asks (f q) n ≡ Skip

abbrev SumsOf : (RwPhase → Act) → Hold → Type 0
SumsOf f kept = (b : Scanning) (n : ℕ) → scan_keeps kept (RwPhase.Scans b) → asks (f (RwPhase.Scans b)) n ≡ look_by
    (sees_upgradable kept b) b.writer n

sees_more : (kept : Hold) (a b : Scanning) → (a.upgradable ≡ true → b.upgradable ≡ true) → sees_upgradable kept a ≡ true
    → sees_upgradable kept b ≡ true
sees_more Hold.Nothing a b more e = more e
sees_more Hold.Shared a b more e = more e
sees_more Hold.Upgradable a b more e = refl
sees_more Hold.Exclusive a b more e = more e

module _ (f : RwPhase → Act) (kept : Hold) (sums : SumsOf f kept) (a : Scanning) (left : Bool) (k n : ℕ) where
  goes_part : (b : Scanning) → (a.upgradable ≡ true → b.upgradable ≡ true) → PartPast f kept a (of_rw.goes_on left b) k
      n
  goes_part b more = go left b.writer refl
    where
      go : (x y : Bool) → b.writer ≡ y → PartPast f kept a (cond (x && not y) (RwPhase.Scans b) (RwPhase.Stores b left))
          k n
      go true false w can is skip = sums b n can ∙ skip_on (sees_upgradable kept a) a.writer (sees_upgradable kept b)
          b.writer n (sees_more kept a b more) w skip
      go true true w can is skip = absurd cc
      go false y w can is skip = absurd cc

  part_on : (token : ParkToken) → rw_counts (RwPhase.Scans a) token
      → PartPast f kept a (of_rw.next_phase (RwPhase.Scans a) (ActResult.Took (Some token) left)) k n
  part_on token (inl h) = subst (λ m. PartPast f kept a (RwNext a m left) k n) (sym h.0)
      (goes_part (record a { shared = min (a.shared + 1) (2 ^ 32 - 1) }) (λ u. u))
  part_on token (inr (inl h)) = subst (λ m. PartPast f kept a (RwNext a m left) k n) (sym h.0)
      (goes_part (record a { writer = true }) (λ u. u))
  part_on token (inr (inr h)) = subst (λ m. PartPast f kept a (RwNext a m left) k n) (sym h.0)
      (goes_part (record a { upgradable = true }) (λ u. refl))

frees_past : (r : Release) (q : RwPhase) (token : ParkToken) (left : Bool) (k n : ℕ)
    → GoesPast (Core.Upgrade (record { phase = UpgradePhase.Frees r (record { phase = q }) })) token left k n
frees_past r (RwPhase.Scans a) token left k n now then counts from to skip = part_on (upgrade_table.frees_act r)
    Hold.Nothing (λ b m can. frees_sums b m) a left k n token counts then.2 to (sym (frees_sums a n) ∙ skip)
frees_past r (RwPhase.TakeWriter rest) token left k n now then counts from to skip = absurd now.0
frees_past r q token left k n now then counts from to skip = absurd cc

owes_past : (kept : Hold) (end : CoreAnswer) (q : RwPhase) (token : ParkToken) (left : Bool) (k n : ℕ)
    → GoesPast (Core.Upgrade (record { phase = UpgradePhase.Owes kept end (record { phase = q }) })) token left k n
owes_past kept end (RwPhase.Scans a) token left k n now then counts from to skip =
    part_on (upgrade_table.owes_act kept end) kept (λ b m can. owes_sums kept b m can.1) a left k n token counts
    then.2.1 to (sym (owes_sums kept a n now.2.1.1) ∙ skip)
owes_past kept end (RwPhase.TakeWriter rest) token left k n now then counts from to skip = absurd now.0
owes_past kept end q token left k n now then counts from to skip = absurd cc

upgrade_past : (p : UpgradePhase) (token : ParkToken) (left : Bool) (k n : ℕ)
    → GoesPast (Core.Upgrade (record { phase = p })) token left k n
upgrade_past (UpgradePhase.Plain core) token left k n now then counts from to skip = absurd now.1
upgrade_past (UpgradePhase.Seeks core) token left k n now then counts from to skip =
    absurd (seeks_nowhere core.phase k now.0.0 from)
upgrade_past (UpgradePhase.Drains core) token left k n now then counts from to skip =
    absurd (drains_no_scan core.phase k now.0.0 from)
upgrade_past (UpgradePhase.Frees r core) token left k n now then counts from to skip =
    frees_past r core.phase token left k n now then counts from to skip
upgrade_past (UpgradePhase.Owes kept end core) token left k n now then counts from to skip =
    owes_past kept end core.phase token left k n now then counts from to skip
upgrade_past p token left k n now then counts from to skip = absurd cc

mutex_past : (p : MutexPhase) (token : ParkToken) (left : Bool) (k n : ℕ) → GoesPast (Core.Mutex (record { phase = p }))
    token left k n
mutex_past (MutexPhase.Takes giving) token left k n now then counts from to skip = absurd cc
mutex_past p token left k n now then counts from to skip = absurd cc

past : (x : Core) (token : ParkToken) (left : Bool) (k n : ℕ) → GoesPast x token left k n
past (Core.Rw y) token left k n = rw_past y.phase token left k n
past (Core.Mutex y) token left k n = mutex_past y.phase token left k n
past (Core.Late p) token left k n = λ now then counts from to skip. absurd (late_takes p k from)
past (Core.LateRw p) token left k n = λ now then counts from to skip. absurd (tardy_takes p k from)
past (Core.Upgrade y) token left k n = upgrade_past y.phase token left k n

-- A TAKING

asleep_takes : {j k : ℕ} {token : ParkToken} → Asleep k token ≡ In j Takes → ⊥
asleep_takes e = cc

takes_stores : {j k : ℕ} → In j Takes ≡ In k Stores → ⊥
takes_stores e = cc

-- those before an index stay where they are
before_removed : (q : List Waiter) (n i : ℕ) (w : Waiter) → i < n → slice_get (remove q n) i ≡ Some w
    → slice_get q i ≡ Some w
before_removed q n i w low at =
    let r = get_remove q n i w at in
    elim r.2 [ inl x ↦ ap (slice_get q) (sym x.1) ∙ r.1 | inr x ↦ absurd (omega (arith, low, x.0)) ]

module _ (s : State) (t : ℕ) (c : Call) (k nth : ℕ) (w : Waiter) (from : stance c.core ≡ In k Takes)
    (next : IsNext (asks (core_act c.core)) (s.lot.queues (key_of c k)) nth w) (h : FitsTogether s)
    (here : call_at s t ≡ Some c) where
  abbrev u : State
  u = took s t c (key_of c k) nth w

  abbrev heard : ActResult
  heard = took_told s c k nth w

  own_passed : IsGoing (core_next c.core heard) → Counts c.core w.token → (j : ℕ) (o : Section) → j ≡ k
      → stance (core_next c.core heard) ≡ In j Takes → open_at u (2 * c.lock + j) ≡ Some o
      → ArePassed (asks (core_act (core_next c.core heard))) (u.lot.queues (2 * c.lock + j)) (passed_of o.phase)
  own_passed then counts j o same is there i v low at =
      let seat = seat_of s h.lots t c (In k Takes) here from in
      let taking : passed_of o.phase ≡ nth =
      ap (λ (x : Option Section). option_map_or (λ (y : Section). passed_of y.phase) x 0)
      (sym there ∙ (ap (λ (n : ℕ). open_at u (2 * c.lock + n)) same
      ∙ (updated_at s.lot.sections (bucket s (key_of c k))
      (option_map {T = Section} (λ y. record y { phase = phase.Taking nth }) (open_at s (key_of c k)))
      ∙ ap (option_map {T = Section} (λ y. record y { phase = phase.Taking nth })) seat.1))) in
      let list : u.lot.queues (2 * c.lock + j) ≡ remove (s.lot.queues (key_of c k)) nth =
      ap (λ n. u.lot.queues (2 * c.lock + n)) same ∙ updated_at s.lot.queues (key_of c k)
      (remove (s.lot.queues (key_of c k)) nth) in
      let less : i < nth = subst (λ n. i < n) taking low in
      past c.core w.token (is_left (remove (s.lot.queues (key_of c k)) nth)) k v.token.0
      (going_of (recursive_in s.kinds c.lock) c.others c.core (h.rules.prepared t c here)) then counts from
      (is ∙ ap (λ n. In n Takes) same)
      (next.passed i v less
      (before_removed (s.lot.queues (key_of c k)) nth i v less (ap (λ q. slice_get q i) (sym list) ∙ at)))

  -- it goes on in its list
  goes : Counts c.core w.token → Gives (core_act c.core) (word_at s c.lock) heard → (j : ℕ)
      → stance (core_next c.core heard) ≡ In j Takes → j ≡ k
  goes counts gives j is =
      let x = takings_count c.core (word_at s c.lock) w.token (is_left (remove (s.lot.queues (key_of c k)) nth)) gives
      counts in
      let there : In x.0 Takes ≡ In k Takes = sym x.2 ∙ from in
      elim x.3 [
        | inl f ↦ (let e : In j Takes ≡ In k Takes = sym is ∙ f ∙ there in cc)
        | inr f ↦ absurd
            (takes_stores (sym is ∙ f))
      ]

  pub passes_taken : LotFits u → IsGoing (core_next c.core heard) → Counts c.core w.token
      → Gives (core_act c.core) (word_at s c.lock) heard → PassesFit u
  passes_taken lots then counts gives =
      passes_after s u t lots h.passes
      (took_on s t c k nth w from next.there h here).around
      (λ v d j ne at is. elim (cases_eq v w.thread) [
        | inl e ↦ absurd (asleep_takes
            (sym (the_sleeper s t c k nth w from next.there h here).asleep
            ∙ ap (λ (y : Call). stance y.core)
            (same_call (sym (sleeper_after s t c k nth w from next.there h here) ∙ (ap (call_at u) (sym e) ∙ at)))
            ∙ is))
        | inr nv ↦ (d, sym (others_after s t c k nth w from next.there h here v ne nv) ∙ at, refl, refl)
      ])
      (λ d j o at is there.
      let x = same_call (sym (taker_after s t c k nth w from next.there h here) ∙ at) in
      subst (λ (y : Call). ArePassed (asks (core_act y.core)) (u.lot.queues (2 * y.lock + j)) (passed_of o.phase)) x
      (let to = ap (λ (y : Call). stance y.core) x ∙ is in own_passed then counts j o (goes counts gives j to) to
      (ap (λ (y : Call). open_at u (2 * y.lock + j)) x ∙ there)))
