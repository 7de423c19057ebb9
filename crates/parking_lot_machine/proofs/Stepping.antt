-- Each act, once it is made, is a step of the machine.
use Rattle.std.proofs.Common.{◌≡◌, ◌&&◌, ◌||◌, ℕ, inl, inr, Bool, true, false, Option, Some, None, refl, sym, ap, ◌∙◌}
use Rattle.std.proofs.Common.{subst}
use Rattle.std.specs.Bool.{if◌then◌else◌}
use Rattle.std.specs.Prelude.{not, is_some}
use Rattle.std.proofs.lemmas.Bool.{both_ways}
use Rattle.parking_lot_core_model.specs.declared.place.Section.{Section}
use Rattle.parking_lot_core_model.specs.declared.parking.ParkToken.{ParkToken}
use Rattle.parking_lot_protocol.specs.declared.act.Act.{Act}
use Rattle.parking_lot_protocol.specs.declared.act.SectionAct.TheVariants as section
use Rattle.parking_lot_protocol.specs.declared.act.CoreAnswer.{CoreAnswer}
use Rattle.parking_lot_protocol.specs.declared.act.WordChange.{WordChange}
use Rattle.parking_lot_machine_calls.specs.declared.open_call.Call.{Call}
use Rattle.parking_lot_machine.specs.Rows.{State, call_at, open_at}
use Rattle.parking_lot_machine_calls.specs.Stances.{Takes, sign, late_act, late_rw_act, core_act, core_next, core_tells}
use Rattle.parking_lot_machine.specs.RowActs.{added, appended, answered, checked, entered, exchanged, left, loaded}
use Rattle.parking_lot_machine.specs.RowActs.{key_in, masked, spun, told_all, took, took_nobody, woke, woke_nobody}
use Rattle.parking_lot_machine_calls.specs.CallActs.{key_of}
use Rattle.parking_lot_machine_calls.specs.Calls.{is_timed}
use Rattle.parking_lot_machine.specs.RowFits.{FitsTogether}
use Rattle.parking_lot_machine.specs.ActLaws.{Acts, Ends, Keeps}
use Rattle.parking_lot_machine.specs.Machines.{may_expire_in, is_possible, is_taken, can_move_in, can_move, end_of}
use Rattle.parking_lot_machine.specs.Machines.{goes_late, Became, BecameLate, IsJoined, IsStepped, IsTakenFrom, IsWoken}
use Rattle.parking_lot_core_model.specs.declared.place.Place.TheVariants.{Taken}
use Rattle.parking_lot_protocol.specs.declared.act.ActResult.TheVariants as seen
use Rattle.parking_lot_machine.specs.Ranks.{Pays}
use Rattle.parking_lot_machine_calls.proofs.Stancing.{small_key}
use Rattle.parking_lot_machine.proofs.LotKept.{acts_keep_fits}
use Rattle.parking_lot_machine.proofs.LotSound.{appended_sound, stored_sound, took_sound, took_nobody_sound}
use Rattle.parking_lot_machine.proofs.LotSound.{woke_sound}
use Rattle.parking_lot_core_model.specs.Sound as lot
use Rattle.parking_lot_core_model.proofs.Sounds.{sound_returned}
use Rattle.parking_lot_machine.proofs.LateCalls.{returns_there}
use Rattle.parking_lot_machine.specs.LateActs.{quitted, returned, came_back, found}
use Rattle.parking_lot_machine_calls.specs.LateCalls.{comes_late, is_back, is_pending, late_key, sleeps_in_time}
use Rattle.parking_lot_machine_calls.specs.declared.late_rw.LateRwPhase.{LateRwPhase}
use Rattle.parking_lot_rules.specs.Classes.{bit}
use Rattle.parking_lot_machine_calls.specs.declared.seat.LatePhase.{LatePhase}
use Rattle.parking_lot_machine_calls.specs.declared.seat.Core.{Core}
use Rattle.parking_lot_machine_calls.specs.declared.seat.QueuePosition.{QueuePosition}
use Rattle.parking_lot_machine.proofs.Acting.{laws}
use Rattle.parking_lot_machine.proofs.LateActs.{laws as late_laws}
use Rattle.parking_lot_machine.proofs.Paying as pays
use Rattle.parking_lot_machine.proofs.Paying.{IsTaking}
use Rattle.parking_lot_machine.proofs.WakesPaying.{wakes_pay, nobody_pays, ends_pay}
use Rattle.parking_lot_machine.proofs.TakeLaws as takes
use Rattle.parking_lot_machine.proofs.TellActs as tells
use Rattle.parking_lot_machine_calls.specs.declared.seat.WakeResult.{WakeResult}

-- one whose moment has passed does what its core says
comes_act : (k : Core) → comes_late k ≡ true → core_act k ≡ Act.Sleep
comes_act (Core.Late LatePhase.Expires) e = refl
comes_act (Core.LateRw (LateRwPhase.Expires z)) e = refl
comes_act k e = absurd cc

comes_became : (t : ℕ) (c : Call) (s u : State) (k : Core) → comes_late k ≡ true → u ≡ came_back c.spot s t c
    → BecameLate k t c s u
comes_became t c s u (Core.Late LatePhase.Expires) e same = same
comes_became t c s u (Core.LateRw (LateRwPhase.Expires z)) e same = same
comes_became t c s u k e same = absurd cc

back_act : (k : Core) → is_back k ≡ true → core_act k ≡ Act.Sleep
back_act (Core.Late LatePhase.Quits) e = refl
back_act (Core.LateRw (LateRwPhase.Quits z)) e = refl
back_act k e = absurd cc

back_became : (t : ℕ) (c : Call) (s u : State) (k : Core) → is_back k ≡ true → u ≡ quitted s t c → BecameLate k t c s u
back_became t c s u (Core.Late LatePhase.Quits) e same = same
back_became t c s u (Core.LateRw (LateRwPhase.Quits z)) e same = same
back_became t c s u k e same = absurd cc

module _ (s u : State) (t : ℕ) (c : Call) (fair : Bool) (h : FitsTogether s) (here : call_at s t ≡ Some c) where
  -- an act that answers nothing
  plain : (a : Act) → core_act c.core ≡ a → end_of a ≡ None → Became a t fair c s u → (x : State) → u ≡ x
      → Keeps t c s x → Pays t s x → IsStepped t fair None s u
  plain a asked quiet became x e keeps paid =
      let made = keeps h here in
      record {
        call = c;
        here = here;
        answers = sym (ap end_of asked ∙ quiet);
        became = subst (λ (y : Act). Became y t fair c s u) (sym asked) became;
        lawful = (made.0, subst (λ (y : State). Acts t c made.0 s y) (sym e) made.1);
        pays = subst (Pays t s) (sym e) paid;
      }

  pub load : core_act c.core ≡ Act.Load → u ≡ loaded s t c → IsStepped t fair None s u
  load asked e = plain Act.Load asked refl e (loaded s t c) e (laws.load s t c asked) (pays.load s t c h here asked)

  pub exchange : (from to : ℕ) → core_act c.core ≡ Act.Exchange from to → u ≡ exchanged s t c from to
      → IsStepped t fair None s u
  exchange from to asked e = plain (Act.Exchange from to) asked refl e (exchanged s t c from to) e
      (laws.exchange s t c from to asked) (pays.exchange s t c h here from to asked)

  pub add : (by : ℕ) → core_act c.core ≡ Act.Add by → u ≡ added s t c by → IsStepped t fair None s u
  add by asked e = plain (Act.Add by) asked refl e (added s t c by) e (laws.add s t c by asked)
      (pays.add s t c h here by asked)

  pub spin : core_act c.core ≡ Act.Spin → u ≡ spun s t c → IsStepped t fair None s u
  spin asked e = plain Act.Spin asked refl e (spun s t c) e (laws.spin s t c asked) (pays.spin s t c h here asked)

  pub mask : (keep : ℕ) → core_act c.core ≡ Act.FetchAnd keep → u ≡ masked s t c keep → IsStepped t fair None s u
  mask keep asked e = plain (Act.FetchAnd keep) asked refl e (masked s t c keep) e
      (tells.laws.mask s t c keep asked (stored_sound s t c h.lots here (key_in c) (sign false)))
      (pays.mask s t c h here keep asked)

  pub enter : (key : ℕ) → core_act c.core ≡ Act.Enter key → open_at s (key_of c key) ≡ None
      → u ≡ entered s t c key
      → IsStepped t fair None s u
  enter key asked free e = plain (Act.Enter key) asked refl e (entered s t c key) e
      (laws.enter s t c key asked free (acts_keep_fits.enters s t c key free h.lots here asked).sound)
      (pays.enter s t c h here key asked free)

  pub check : core_act c.core ≡ Act.Section section.Check → u ≡ checked s t c → IsStepped t fair None s u
  check asked e = plain (Act.Section section.Check) asked refl e (checked s t c) e
      (laws.check s t c asked (acts_keep_fits.checks s t c h.lots here asked).sound) (pays.check s t c h here asked)

  pub leave : core_act c.core ≡ Act.Section section.Leave → u ≡ left s t c → IsStepped t fair None s u
  leave asked e = plain (Act.Section section.Leave) asked refl e (left s t c) e
      (laws.leave s t c asked (acts_keep_fits.leaves s t c h.lots here asked).sound) (pays.leave s t c h here asked)

  pub append : (token : ParkToken) → core_act c.core ≡ Act.Section (section.Append token) → IsJoined t c token s u
      → IsStepped t fair None s u
  append token asked x =
      plain (Act.Section (section.Append token)) asked refl x (appended s t c (key_of c x.0) token) x.2
      (takes.laws.append s t c x.0 token asked x.1 (appended_sound s t c h.lots here x.0 token x.1))
      (pays.append s t c h here token x.0 asked x.1)

  taken : (a : Act) → core_act c.core ≡ a → IsTaking a → end_of a ≡ None → Became a t fair c s u → IsTakenFrom t c s u
      → IsStepped t fair None s u
  taken a asked taking quiet became x = elim x.2 [
    | inl y ↦
        plain a asked quiet became (took s t c (key_of c x.0) y.0 y.1) y.3
        (takes.laws.take s t c x.0 y.0 y.1 x.1 y.2
        (took_sound s t c h.lots here x.0 y.0 y.1 (small_key c.core x.0 Takes x.1) x.1 y.2.there))
        (pays.take s t c h here x.0 y.0 y.1 a asked taking x.1 y.2.there)
    | inr y ↦ plain a asked quiet became (took_nobody s t c (key_of c x.0)) y.1
        (takes.laws.take_nobody s t c x.0 x.1 y.0 (took_nobody_sound s t c h.lots here x.0))
        (pays.take_nobody s t c h here x.0 a asked taking x.1)
  ]

  pub take_first : core_act c.core ≡ Act.Section section.TakeFirst → IsTakenFrom t c s u → IsStepped t fair None s u
  take_first asked x = taken (Act.Section section.TakeFirst) asked tt refl x x

  pub take_next : (sum : ℕ) → core_act c.core ≡ Act.Section (section.TakeNext sum) → IsTakenFrom t c s u
      → IsStepped t fair None s u
  take_next sum asked x = taken (Act.Section (section.TakeNext sum)) asked tt refl x x

  pub store : (straight handing : WordChange) → core_act c.core ≡ Act.Section (section.Store straight handing)
      → u ≡ told_all s t c (if fair then handing else straight) fair → IsStepped t fair None s u
  store straight handing asked e =
      plain (Act.Section (section.Store straight handing)) asked refl e
      (told_all s t c (if fair then handing else straight) fair) e
      (tells.laws.store s t c straight handing fair asked
      (stored_sound s t c h.lots here (key_in c) (core_tells (core_next c.core (seen.Stored fair)))))
      (pays.store s t c h here straight handing fair asked)

  pub wake : core_act c.core ≡ Act.Section section.Wake → IsWoken t c s u → IsStepped t fair None s u
  wake asked x =
      elim x [
        | inl y ↦
            plain (Act.Section section.Wake) asked refl (inl y) (woke s t c (y.0).thread y.1 y.2) y.4
            (tells.laws.wake s t c y.0 y.1 y.2 asked y.3
            (woke_sound s h.lots (y.0).thread (Taken y.2 y.3.key y.3.sleep false) y.3.place (λ k. refl)))
            (wakes_pay s t c (y.0).thread y.1 y.2 h here y.3.there asked)
        | inr y ↦ plain (Act.Section section.Wake) asked refl (inr y) (woke_nobody s t c) y.1
            (tells.laws.nobody s t c asked y.0) (nobody_pays s t c h here asked)
      ]

  -- whose moment has passed
  pub come_back : comes_late c.core ≡ true → c.spot ≡ QueuePosition.Listed → open_at s (late_key c) ≡ None
      → u ≡ returned s t c
      → IsStepped t fair None s u
  come_back late listed free e =
      plain Act.Sleep (comes_act c.core late) refl
      (comes_became t c s u c.core late (e ∙ ap (λ at. came_back at s t c) (sym listed))) (returned s t c) e
      (late_laws.returns s t c late listed free (sound_returned s.lot t (late_key c) h.lots.sound free
      (returns_there s h t c here late listed)))
      (late_laws.returns_pay s t c late here)

  pub find : (by : ℕ) (said : WakeResult) → comes_late c.core ≡ true → c.spot ≡ QueuePosition.Off by said
      → open_at s (late_key c) ≡ None → lot.Sound (found s t c by said).lot → u ≡ found s t c by said
      → IsStepped t fair None s u
  find by said late off free sound e =
      plain Act.Sleep (comes_act c.core late) refl
      (comes_became t c s u c.core late (e ∙ ap (λ at. came_back at s t c) (sym off))) (found s t c by said) e
      (late_laws.finds s t c by said late off free sound) (late_laws.finds_pay s t c by said late h here)

  pub quit : is_back c.core ≡ true → lot.Sound (quitted s t c).lot → u ≡ quitted s t c → IsStepped t fair None s u
  quit late sound e = plain Act.Sleep (back_act c.core late) refl (back_became t c s u c.core late e) (quitted s t c) e
      (late_laws.quits s t c late sound) (late_laws.quits_pay s t c late here)

  pub answer : (answer : CoreAnswer) → core_act c.core ≡ Act.Done answer → u ≡ answered s t c
      → IsStepped t fair (Some answer) s u
  answer said asked e = record {
    call = c;
    here = here;
    answers = sym (ap end_of asked);
    became = subst (λ (y : Act). Became y t fair c s u) (sym asked) e;
    lawful = subst (λ (y : State). Ends t c s y) (sym e) (laws.end s t c said asked h here);
    pays = subst (Pays t s) (sym e) (ends_pay s t c said here asked);
  }

none_open : (o : Option Section) → not (is_some o) ≡ true → o ≡ None
none_open None h = refl
none_open (Some x) h = absurd (both_ways false refl h)

late_enters : (p : LatePhase) (key : ℕ) → late_act p ≡ Act.Enter key → ⊥
late_enters LatePhase.Expires key e = cc
late_enters LatePhase.Quits key e = cc
late_enters LatePhase.Masks key e = cc
late_enters LatePhase.Leaves key e = cc
late_enters LatePhase.GivesUp key e = cc
late_enters (LatePhase.WasTaken by handed) key e = cc

tardy_enters : (p : LateRwPhase) (key : ℕ) → late_rw_act p ≡ Act.Enter key → ⊥
tardy_enters (LateRwPhase.Expires z) key e = cc
tardy_enters (LateRwPhase.Quits z) key e = cc
tardy_enters LateRwPhase.Masks key e = cc
tardy_enters LateRwPhase.Leaves key e = cc
tardy_enters LateRwPhase.GivesUp key e = cc
tardy_enters (LateRwPhase.LeavesPending from) key e = cc
tardy_enters (LateRwPhase.WasTaken z by handed) key e = cc

not_late : (s : State) (c : Call) (k : Core) (key : ℕ) → core_act k ≡ Act.Enter key → goes_late s c k ≡ false
not_late s c (Core.Mutex q) key e = refl
not_late s c (Core.Rw q) key e = refl
not_late s c (Core.Upgrade q) key e = refl
not_late s c (Core.Late p) key e = absurd (late_enters p key e)
not_late s c (Core.LateRw p) key e = absurd (tardy_enters p key e)

both_true : (a b : Bool) → (a && b) ≡ true → (a ≡ true) × (b ≡ true)
both_true true b e = (refl, e)
both_true false b e = absurd cc

other_true : (a b : Bool) → a ≡ false → (a || b) ≡ true → b ≡ true
other_true false b f e = e
other_true true b f e = absurd cc

-- one that comes back finds nobody in a section of its bucket
pub comes_so : (s : State) (c : Call) → is_back c.core ≡ false → goes_late s c c.core ≡ true
    → (comes_late c.core ≡ true) × (open_at s (late_key c) ≡ None)
comes_so s c e goes =
    let free = not (is_taken s c (bit (is_pending c.core))) in
    let x = both_true (comes_late c.core) free (other_true (is_back c.core) _ e goes) in
    (x.0, none_open (open_at s (late_key c)) x.1)

-- one that sleeps and can move is late
pub can_late : (s : State) (t : ℕ) (c : Call) → can_move s t ≡ true → call_at s t ≡ Some c → core_act c.core ≡ Act.Sleep
    → goes_late s c c.core ≡ true
can_late s t c can here asked =
    or_none (goes_late s c c.core) (ap (λ a. goes_late s c c.core || is_possible (is_taken s c) a) (sym asked)
    ∙ ap (can_move_in s) (sym here) ∙ can)
  where
    or_none : (b : Bool) → (b || false) ≡ true → b ≡ true
    or_none true e = refl
    or_none false e = e

-- one whose moment may pass sleeps
pub expires_so : (c : Call) → may_expire_in (Some c) ≡ true → sleeps_in_time c.core ≡ true
expires_so c e = (both_true (is_timed c.asked) (sleeps_in_time c.core) e).1

-- one that may enter a section finds none open
pub can_enter : (s : State) (t : ℕ) (c : Call) (key : ℕ) → can_move s t ≡ true → call_at s t ≡ Some c
    → core_act c.core ≡ Act.Enter key → open_at s (key_of c key) ≡ None
can_enter s t c key can here asked =
    none_open (open_at s (key_of c key))
    (ap (is_possible (is_taken s c)) (sym asked) ∙ ap (λ b. b || is_possible (is_taken s c) (core_act c.core))
    (sym (not_late s c c.core key asked)) ∙ ap (can_move_in s) (sym here) ∙ can)
