-- Acts that change whom threads are still to wake, or where they stand, keep what fits of it.
use Rattle.std.proofs.Common.{◌≡◌, ◌<◌, ℕ, ◌+◌, ◌==◌, false, List, [], ◌∷◌, ◌++◌, length, map, remove, Option, Some}
use Rattle.std.proofs.Common.{None, slice_get, slice_set, count_by, refl, sym, ap, ◌∙◌, subst, arith, zero, suc, Bool}
use Rattle.std.proofs.Common.{true, cond}
use Rattle.std.specs.Option.{option_map, option_and_then, option_map_or}
use Rattle.std.proofs.lemmas.Bool.{eqb-false}
use Rattle.std.proofs.lemmas.List.{length_push}
use Rattle.std.proofs.lemmas.List.Edits.{length-remove}
use Rattle.std.proofs.lemmas.Option.{slice_get_within}
use Rattle.std.specs.List.{position_or_len}
use Rattle.parking_lot_core_model.proofs.Kept.{slice_get-seam, eqb_false_symm}
use Rattle.parking_lot_core_model.proofs.Numbers.{flag, count_by-set, count_by-map_same}
use Rattle.parking_lot_core_model.proofs.Entering.{none≢some}
use Rattle.parking_lot_core_model.proofs.Kept.{by_eqb}
use Rattle.parking_lot_machine_calls.specs.declared.seat.QueuePosition.{QueuePosition}
use Rattle.parking_lot_machine_calls.specs.declared.seat.WakeResult.{WakeResult}
use Rattle.parking_lot_machine_calls.specs.declared.open_call.Call.{Call}
use Rattle.parking_lot_machine_calls.specs.declared.seat.Wakeup.{Wakeup}
use Rattle.parking_lot_machine.specs.Rows.{State, call_at, word_at, is_by}
use Rattle.parking_lot_machine_calls.specs.Stances.{stance, Joins, Takes, Stance, Out, In, taken_count, core_tells}
use Rattle.parking_lot_machine.specs.RowActs.{with_call, with_word, loaded, exchanged, added, masked, spun, entered}
use Rattle.parking_lot_machine.specs.RowActs.{checked, appended, took, took_nobody, told_all, left, woke, answered}
use Rattle.parking_lot_machine.specs.RowActs.{begun, woke_nobody}
use Rattle.parking_lot_machine_calls.specs.CallActs.{settled_spot, settled, off_list, hears, key_of, told_of}
use Rattle.parking_lot_machine.specs.RowFits.{LotFits, WakesFit, IsOwed, is_off, is_away}
use Rattle.parking_lot_machine.proofs.Indexing.{get_front, kept_remove}
use Rattle.parking_lot_machine.proofs.Carrying.{same_call, call_within, set_elsewhere, unsettled_off, IsUp, up_sleeps}
use Rattle.parking_lot_rules.proofs.Slots.{set_there}
use Rattle.parking_lot_core_model.specs.declared.parking.UnparkToken.{UnparkToken}
use Rattle.parking_lot_core_model.specs.declared.place.Waiter.{Waiter}
use Rattle.parking_lot_core_model.specs.Places.{place_at, mark_of}
use Rattle.parking_lot_core_model.specs.Results.{is_left}
use Rattle.parking_lot_protocol.specs.declared.act.Act.{Act}
use Rattle.parking_lot_protocol.specs.declared.act.CoreAnswer.{CoreAnswer}
use Rattle.parking_lot_protocol.specs.declared.act.ActResult.{ActResult}
use Rattle.parking_lot_machine_calls.specs.StanceLaws.{IsOver}
use Rattle.parking_lot_machine.specs.LotLaws.{KeepsWakes, ActsKeepWakes}
use Rattle.parking_lot_machine_calls.proofs.Stancing.{leads_by, calls_end, small_key}
use Rattle.parking_lot_machine.proofs.LotActs.{up_by}
use Rattle.parking_lot_machine.proofs.LotTakes.{sleeper}
use Rattle.parking_lot_machine.proofs.LotWakes.{woken_off, other}
use Rattle.parking_lot_machine.proofs.LotKept.{by_first}
use Rattle.parking_lot_protocol.specs.declared.act.SectionAct.TheVariants as section
use Rattle.parking_lot_machine_calls.specs.declared.seat.QueuePosition.TheVariants as spot

abbrev call_of : List (Option Call) → ℕ → Option Call
call_of calls v = option_and_then (λ x. x) (slice_get calls v)

-- the slot of a thread
slot_of : (calls : List (Option Call)) (t : ℕ) → t < length calls → slice_get calls t ≡ Some (call_of calls t)
slot_of [] t h = absurd (omega arith)
slot_of (c ∷ calls) zero h = refl
slot_of (c ∷ calls) (suc t) h = slot_of calls t (omega arith)

off_listed : {by : ℕ} {said : WakeResult} → QueuePosition.Off by said ≡ QueuePosition.Listed → ⊥
off_listed e = cc

-- whoever doesn't sleep stands as if listed
pub stands_listed : (s : State) → LotFits s → WakesFit s → (t : ℕ) (c : Call) → call_at s t ≡ Some c
    → IsUp (stance c.core) → c.spot ≡ QueuePosition.Listed
stands_listed s h w t c here up = go c.spot refl
  where
    go : (a : QueuePosition) → c.spot ≡ a → c.spot ≡ QueuePosition.Listed
    go QueuePosition.Listed e = e
    go (QueuePosition.Off by said) e =
        let o = w.off t by c said here e in
        let x = h.woken o.0 o.1 o.2 in
        absurd (up_sleeps x.key x.token (stance c.core) up
        (ap (λ (y : Call). stance y.core) (same_call (sym here ∙ (ap (call_at s) (sym o.4) ∙ x.here))) ∙ x.asleep))

-- one call changes, whose thread stands on the same side of its list
pub wakes_one : (s u : State) (t : ℕ) (o : Option Call) → WakesFit s → t < length s.calls
    → u.calls ≡ slice_set s.calls t o → u.wakes ≡ s.wakes
    → is_away o ≡ is_away (call_at s t)
    → ((d : Call) (by : ℕ) (said : WakeResult) → o ≡ Some d → d.spot ≡ QueuePosition.Off by said → (c : Call)
    × (call_at s t ≡ Some c) × (before : WakeResult) × (c.spot ≡ QueuePosition.Off by before))
    → WakesFit u
wakes_one s u t o w low calls wakes same back = record {
  off = λ v by d said at is. subst (λ (ws : List Wakeup). IsOwed ws by v) (sym wakes) (by_eqb v t (IsOwed s.wakes by v)
      (λ e.
      let old = back d by said
      (sym (set_there s.calls t o low)
      ∙ (ap (call_of (slice_set s.calls t o)) (sym e) ∙ (ap (λ cs. call_of cs v) (sym calls) ∙ at))) is in
      subst (IsOwed s.wakes by) (sym e) (w.off t by old.0 old.2 old.1 old.3))
      (λ e. w.off v by d said (sym (set_elsewhere s.calls t v o e) ∙ (ap (λ cs. call_of cs v) (sym calls) ∙ at)) is));
  room =
      let change : count_by is_away (slice_set s.calls t o) + flag (is_away (call_at s t)) ≡ count_by is_away s.calls +
      flag (is_away o) = count_by-set is_away s.calls t (call_at s t) o (slot_of s.calls t low) in
      let both : flag (is_away o) ≡ flag (is_away (call_at s t)) = ap flag same in
      let old : length s.wakes ≡ count_by is_away s.calls = w.room in
      ap length wakes ∙ (omega arith ∙ ap (count_by is_away) (sym calls));
}

-- its spot stays
pub wakes_still : (s u : State) (t : ℕ) (c d : Call) → WakesFit s → call_at s t ≡ Some c → d.spot ≡ c.spot
    → u.calls ≡ slice_set s.calls t (Some d) → u.wakes ≡ s.wakes → WakesFit u
wakes_still s u t c d w here at calls wakes =
    wakes_one s u t (Some d) w (call_within s t c here) calls wakes
    (ap is_off at ∙ ap is_away (sym here))
    (λ x by said is off. (c, here, said, sym at ∙ (ap (λ (y : Call). y.spot) (same_call is) ∙ off)))

-- or it stood as if listed, and does so or is in no call
pub wakes_listed : (s u : State) (t : ℕ) (o : Option Call) → WakesFit s → t < length s.calls
    → u.calls ≡ slice_set s.calls t o → u.wakes ≡ s.wakes → is_away (call_at s t) ≡ false
    → ((d : Call) → o ≡ Some d → d.spot ≡ QueuePosition.Listed) → WakesFit u
wakes_listed s u t o w low calls wakes was listed =
    wakes_one s u t o w low calls wakes (side o listed ∙ sym was)
    (λ d by said is off. absurd (off_listed (sym off ∙ listed d is)))
  where
    side : (x : Option Call) → ((d : Call) → x ≡ Some d → d.spot ≡ QueuePosition.Listed) → is_away x ≡ false
    side None l = refl
    side (Some d) l = ap is_off (l d refl)

-- threads are told
settled_side : (t : ℕ) (said : WakeResult) (a : QueuePosition) → is_off (settled_spot t said a) ≡ is_off a
settled_side t said QueuePosition.Listed = refl
settled_side t said (QueuePosition.Off by WakeResult.Nothing) = refl
settled_side t said (QueuePosition.Off by WakeResult.TryAgain) = refl
settled_side t said (QueuePosition.Off by WakeResult.HandedOver) = refl

settled_away : (t : ℕ) (said : WakeResult) (o : Option Call) → is_away (option_map (settled t said) o) ≡ is_away o
settled_away t said None = refl
settled_away t said (Some c) = settled_side t said c.spot

call_of-map : (g : Call → Call) (cs : List (Option Call)) (v : ℕ) → call_of (map (option_map g) cs) v ≡ option_map g
    (call_of cs v)
call_of-map g [] v = refl
call_of-map g (None ∷ cs) zero = refl
call_of-map g (Some c ∷ cs) zero = refl
call_of-map g (c ∷ cs) (suc v) = call_of-map g cs v

pub wakes_settled : (s u : State) (t : ℕ) (said : WakeResult) → WakesFit s → u.calls ≡ map (option_map (settled t said))
    s.calls → u.wakes ≡ s.wakes → WakesFit u
wakes_settled s u t said w calls wakes = record {
  off = λ v by d x at is. subst (λ (ws : List Wakeup). IsOwed ws by v) (sym wakes)
      (told_off (call_at s v) v by d x refl
      (sym (call_of-map (settled t said) s.calls v) ∙ (ap (λ cs. call_of cs v) (sym calls) ∙ at)) is);
  room = ap length wakes
      ∙ (w.room ∙ (sym (count_by-map_same is_away (option_map (settled t said)) (settled_away t said) s.calls)
      ∙ ap (count_by is_away) (sym calls)));
}
  where
    told_off : (o : Option Call) (v by : ℕ) (d : Call) (x : WakeResult) → call_at s v ≡ o
        → option_map (settled t said) o ≡ Some d → d.spot ≡ QueuePosition.Off by x → IsOwed s.wakes by v
    told_off None v by d x here is off = absurd (none≢some is)
    told_off (Some c) v by d x here is off =
        let before = unsettled_off t said by x c.spot (ap (λ (y : Call). y.spot) (same_call is) ∙ off) in
        w.off v by c before.0 here before.1

-- one is taken off its list
pub wakes_taken : (s u : State) (t v : ℕ) (c d x : Call) (e : Wakeup) → WakesFit s → (v == t) ≡ false
    → call_at s t ≡ Some c → call_at s v ≡ Some x → x.spot ≡ QueuePosition.Listed → d.spot ≡ c.spot → e.by ≡ t
    → e.thread ≡ v
    → u.calls ≡ slice_set (slice_set s.calls v (Some (off_list t x))) t (Some d) → u.wakes ≡ s.wakes ++ e ∷ []
    → WakesFit u
wakes_taken s u t v c d x e w apart here there listed at by_t is_v calls wakes =
    wakes_still taken u t c d
    (record { off = off; room = room })
    (set_elsewhere s.calls v t (Some (off_list t x)) (eqb_false_symm v t apart) ∙ here) at calls wakes
  where
    taken : State
    taken = record s { calls = slice_set s.calls v (Some (off_list t x)); wakes = s.wakes ++ e ∷ [] }

    same_by : {by : ℕ} {said : WakeResult} → QueuePosition.Off t WakeResult.Nothing ≡ QueuePosition.Off by said → t ≡ by
    same_by e = cc

    low : v < length s.calls
    low = call_within s v x there

    off : (y by : ℕ) (z : Call) (said : WakeResult) → call_of (slice_set s.calls v (Some (off_list t x))) y ≡ Some z
        → z.spot ≡ QueuePosition.Off by said → IsOwed (s.wakes ++ e ∷ []) by y
    off y by z said is out = by_eqb y v (IsOwed (s.wakes ++ e ∷ []) by y)
        (λ f. (
          length s.wakes,
          e,
          slice_get-seam s.wakes e [],
          by_t ∙ same_by (ap (λ (q : Call). q.spot)
              (same_call (sym (set_there s.calls v (Some (off_list t x)) low)
              ∙ (ap (call_of (slice_set s.calls v (Some (off_list t x)))) (sym f) ∙ is))) ∙ out),
          is_v ∙ sym f,
        ))
        (λ f. let old = w.off y by z said (sym (set_elsewhere s.calls v y (Some (off_list t x)) f) ∙ is) out in
        (old.0, old.1, get_front s.wakes (e ∷ []) old.0 old.1 old.2, old.3, old.4))

    room : length (s.wakes ++ e ∷ []) ≡ count_by is_away (slice_set s.calls v (Some (off_list t x)))
    room =
        let change : count_by is_away (slice_set s.calls v (Some (off_list t x))) + flag (is_away (Some x)) ≡ count_by
        is_away s.calls + 1 = count_by-set is_away s.calls v (Some x) (Some (off_list t x))
        (slot_of s.calls v low ∙ ap (λ o. Some o) there) in
        let none : flag (is_away (Some x)) ≡ 0 = ap (λ a. flag (is_off a)) listed in
        let old : length s.wakes ≡ count_by is_away s.calls = w.room in
        length_push s.wakes e ∙ omega arith

-- one is woken
pub wakes_woken : (s u : State) (t i : ℕ) (c d x y : Call) (e : Wakeup) (by : ℕ) (said : WakeResult) → LotFits s
    → WakesFit s → (e.thread == t) ≡ false → slice_get s.wakes i ≡ Some e → call_at s t ≡ Some c
    → call_at s e.thread ≡ Some x
    → x.spot ≡ QueuePosition.Off by said → y.spot ≡ QueuePosition.Listed → d.spot ≡ c.spot
    → u.calls ≡ slice_set (slice_set s.calls e.thread (Some y)) t (Some d) → u.wakes ≡ remove s.wakes i → WakesFit u
wakes_woken s u t i c d x y e by said h w apart first here there gone listed at calls wakes =
    wakes_still woken u t c d
    (record { off = off; room = room })
    (set_elsewhere s.calls e.thread t (Some y) (eqb_false_symm e.thread t apart) ∙ here) at calls wakes
  where
    woken : State
    woken = record s { calls = slice_set s.calls e.thread (Some y); wakes = remove s.wakes i }

    same_wakeup : {f g : Wakeup} → Some f ≡ Some g → f ≡ g
    same_wakeup e = cc

    low : e.thread < length s.calls
    low = call_within s e.thread x there

    off : (q b : ℕ) (z : Call) (told : WakeResult) → call_of (slice_set s.calls e.thread (Some y)) q ≡ Some z
        → z.spot ≡ QueuePosition.Off b told → IsOwed (remove s.wakes i) b q
    off q b z told is out = by_eqb q e.thread (IsOwed (remove s.wakes i) b q)
        (λ f. absurd (off_listed
        (sym out ∙ (ap (λ (a : Call). a.spot)
        (sym (same_call (sym (set_there s.calls e.thread (Some y) low)
        ∙ (ap (call_of (slice_set s.calls e.thread (Some y))) (sym f) ∙ is)))) ∙ listed))))
        (λ f.
        let old = w.off q b z told (sym (set_elsewhere s.calls e.thread q (Some y) f) ∙ is) out in
        let left = kept_remove s.wakes i old.0 old.1 old.2
        (λ at. eqb-false q e.thread f
        (sym old.4 ∙ ap (λ (a : Wakeup). a.thread) (same_wakeup (sym old.2 ∙ (ap (slice_get s.wakes) at ∙ first)))))
        in
        (left.0, old.1, left.1, old.3, old.4))

    room : length (remove s.wakes i) ≡ count_by is_away (slice_set s.calls e.thread (Some y))
    room =
        let change : count_by is_away (slice_set s.calls e.thread (Some y)) + flag (is_away (Some x)) ≡ count_by is_away
        s.calls + flag (is_away (Some y)) = count_by-set is_away s.calls e.thread (Some x) (Some y)
        (slot_of s.calls e.thread low ∙ ap (λ o. Some o) there) in
        let one : flag (is_away (Some x)) ≡ 1 = ap (λ a. flag (is_off a)) gone in
        let none : flag (is_away (Some y)) ≡ 0 = ap (λ a. flag (is_off a)) listed in
        let less : length (remove s.wakes i) + 1 ≡ length s.wakes =
        length-remove s.wakes i (slice_get_within s.wakes i e first) in
        let old : length s.wakes ≡ count_by is_away s.calls = w.room in
        omega arith

-- Each act keeps what fits of those that are to be woken.

-- one that hears something, and stands where it stood
hears_still : (s u : State) (t : ℕ) (c : Call) (told : ActResult) → WakesFit s → call_at s t ≡ Some c
    → u.calls ≡ slice_set s.calls t (Some (hears c told)) → u.wakes ≡ s.wakes → WakesFit u
hears_still s u t c told w here calls wakes = wakes_still s u t c (hears c told) w here refl calls wakes

exchanges : (s : State) (t : ℕ) (c : Call) (from to : ℕ) → WakesFit s → call_at s t ≡ Some c
    → WakesFit (exchanged s t c from to)
exchanges s t c from to w here = go (word_at s c.lock == from)
  where
    go : (b : Bool) → WakesFit
        (cond b (with_word (with_call s t (hears c ActResult.Exchanged)) c.lock to) (loaded s t c))
    go true = hears_still s (with_word (with_call s t (hears c ActResult.Exchanged)) c.lock to) t c ActResult.Exchanged
        w here refl refl
    go false = hears_still s (loaded s t c) t c (ActResult.Word (word_at s c.lock)) w here refl refl

-- a thread that doesn't sleep stands as if listed
away_none : (s : State) → LotFits s → WakesFit s → (t : ℕ) (c : Call) (a : Stance) → call_at s t ≡ Some c
    → stance c.core ≡ a → IsUp a → is_away (call_at s t) ≡ false
away_none s h w t c a here from up = ap is_away here
    ∙ ap is_off (stands_listed s h w t c here (up_by (stance c.core) a from up))

takes : (s : State) (t : ℕ) (c : Call) (k nth : ℕ) (x : Waiter) → stance c.core ≡ In k Takes
    → slice_get (s.lot.queues (key_of c k)) nth ≡ Some x → LotFits s → WakesFit s → call_at s t ≡ Some c
    → WakesFit (took s t c (key_of c k) nth x)
takes s t c k nth x from at h w here =
    let z = sleeper s t c h here k nth x (small_key c.core k Takes from) from at in
    let told = ActResult.Took (Some x.token) (is_left (remove (s.lot.queues (key_of c k)) nth)) in
    let e : Wakeup = record {
      by = t;
      thread = x.thread;
      mark = option_map_or mark_of (place_at s.lot.places x.thread)
          0;
    } in
    wakes_taken s (took s t c (key_of c k) nth x) t x.thread c (hears c told) z.call e w z.other here z.there z.listed
    refl refl refl
    (ap (λ (o : Option Call). slice_set (slice_set s.calls x.thread (option_map (off_list t) o)) t
    (Some (hears c told))) z.there) refl

tells : (s u : State) (t : ℕ) (c : Call) (told : ActResult) (said : WakeResult) → WakesFit s → call_at s t ≡ Some c
    → u.calls ≡ map (option_map (settled t said)) (slice_set s.calls t (Some (hears c told))) → u.wakes ≡ s.wakes
    → WakesFit u
tells s u t c told said w here calls wakes = wakes_settled (with_call s t (hears c told)) u t said
    (hears_still s (with_call s t (hears c told)) t c told w here refl refl) calls wakes

wakes : (s : State) (t : ℕ) (c : Call) (e : Wakeup) (d : Call) (token : UnparkToken)
    → slice_get s.wakes (position_or_len (is_by t) s.wakes) ≡ Some e → call_at s e.thread ≡ Some d
    → KeepsWakes s t c (Act.Section section.Wake) (woke s t c e.thread d token)
wakes s t c e d token first there h w here is =
    let l = leads_by c.core (Act.Section section.Wake) 0 ActResult.Made is tt in
    let by_t = by_first s t e first in
    let off = woken_off s t c h here e d first by_t there l.0 in
    wakes_woken s (woke s t c e.thread d token) t (position_or_len (is_by t) s.wakes) c (hears c ActResult.Made) d
    (record (hears d (ActResult.Woken token)) { spot = spot.Listed }) e t off.0 h w
    (other s t c h here e d first by_t there l.0) first here there off.3 refl refl refl refl

ends : (s : State) (t : ℕ) (c : Call) (answer : CoreAnswer) → KeepsWakes s t c (Act.Done answer) (answered s t c)
ends s t c answer h w here is =
    let x = subst (λ (a : Act). IsOver a (stance c.core) (taken_count c.core)) is (calls_end c.core) in
    wakes_listed s (answered s t c) t None w (call_within s t c here) refl refl (away_none s h w t c Out here x.0 tt)
    (λ d some. absurd (none≢some some))

pub acts_keep_wakes : ActsKeepWakes
acts_keep_wakes = record {
  loads = λ s t c h w here is. hears_still s (loaded s t c) t c (ActResult.Word (word_at s c.lock)) w here refl refl;
  exchanges = λ s t c from to h w here is. exchanges s t c from to w here;
  adds = λ s t c by h w here is. hears_still s (added s t c by) t c (ActResult.Before (word_at s c.lock)) w here refl
      refl;
  spins = λ s t c h w here is. hears_still s (spun s t c) t c (ActResult.Spun true) w here refl refl;
  enters = λ s t c k h w here is. hears_still s (entered s t c k) t c ActResult.Entered w here refl refl;
  checks = λ s t c h w here is. hears_still s (checked s t c) t c (ActResult.Word (word_at s c.lock)) w here refl refl;
  appends = λ s t c key token h w here is.
      let l = leads_by c.core (Act.Section (section.Append token)) 0 ActResult.Made is tt in
      wakes_listed s (appended s t c key token) t (Some (record (hears c ActResult.Made) { spot = spot.Listed })) w
      (call_within s t c here) refl refl
      (away_none s h w t c (In l.0 (Joins token)) here l.2 tt)
      (λ d some. ap (λ (y : Call). y.spot) (sym (same_call some)));
  takes = λ s t c a k nth x taking from at h w here is. takes s t c k nth x from at h w here;
  takes_nobody = λ s t c a key taking h w here is. hears_still s (took_nobody s t c key) t c
      (ActResult.Took None (is_left (s.lot.queues key))) w here refl refl;
  stores = λ s t c plain fair change is_fair h w here is. tells s (told_all s t c change is_fair) t c
      (ActResult.Stored is_fair) (told_of (core_tells (hears c (ActResult.Stored is_fair)).core)) w here refl refl;
  masks = λ s t c keep h w here is. tells s (masked s t c keep) t c (ActResult.Before (word_at s c.lock))
      WakeResult.TryAgain w here refl refl;
  leaves = λ s t c h w here is. hears_still s (left s t c) t c ActResult.Made w here refl refl;
  wakes = wakes;
  wakes_nobody = λ s t c h w here is. hears_still s (woke_nobody s t c) t c ActResult.Made w here refl refl;
  begins = λ s t c w low here listed.
      wakes_listed s (begun s t c) t (Some (hears c ActResult.Start)) w low refl refl (ap is_away here)
      (λ d some. ap (λ (y : Call). y.spot) (sym (same_call some)) ∙ listed);
  ends = ends;
}
