-- Each act keeps what fits of the lot.
use Rattle.std.proofs.Common.{◌≡◌, ◌<◌, ℕ, ◌+◌, ◌%◌, ◌^◌, ◌==◌, ◌⊎◌, inl, inr, Bool, true, false, cond, bit_and, []}
use Rattle.std.proofs.Common.{remove}
use Rattle.std.proofs.Common.{Option, Some, None, length, slice_get, slice_set, refl, sym, ap, ◌∙◌, subst, arith}
use Rattle.std.specs.List.{position_or_len}
use Rattle.std.proofs.lemmas.Bool.{eqb-false, eqb-true}
use Rattle.parking_lot_core_model.specs.declared.parking.ParkToken.{ParkToken}
use Rattle.parking_lot_core_model.specs.declared.parking.UnparkToken.{UnparkToken}
use Rattle.parking_lot_core_model.specs.declared.place.Waiter.{Waiter}
use Rattle.parking_lot_core_model.specs.Results.{is_left}
use Rattle.parking_lot_core_model.specs.declared.place.Phase.TheVariants as phase
use Rattle.parking_lot_core_model.specs.declared.place.Place.TheVariants.{Taken}
use Rattle.parking_lot_protocol.specs.Acts.{change_of, Gives}
use Rattle.parking_lot_protocol.specs.declared.act.Act.{Act}
use Rattle.parking_lot_protocol.specs.declared.act.CoreAnswer.{CoreAnswer}
use Rattle.parking_lot_protocol.specs.declared.act.SectionAct.TheVariants as section
use Rattle.parking_lot_protocol.specs.declared.act.ActResult.TheVariants as seen
use Rattle.parking_lot_protocol.specs.declared.act.WordChange.{WordChange}
use Rattle.parking_lot_machine_calls.specs.declared.open_call.Call.{Call}
use Rattle.parking_lot_machine_calls.specs.declared.seat.Wakeup.{Wakeup}
use Rattle.parking_lot_machine.specs.Rows.{State, word_at, call_at, is_by, open_at, taken_by}
use Rattle.parking_lot_machine_calls.specs.Stances.{Stance, TurnsBack, Joins, Joined, Takes, Stores, Tells, In, stance}
use Rattle.parking_lot_machine_calls.specs.Stances.{taken_count, core_tells}
use Rattle.parking_lot_machine_calls.specs.Stances.{sign}
use Rattle.parking_lot_machine_calls.specs.StanceLaws.{Counts, IsOver, LeavesFor}
use Rattle.parking_lot_core_model.specs.Machine.{closed}
use Rattle.parking_lot_core_model.specs.Sound.{Sound}
use Rattle.parking_lot_machine.specs.RowActs.{key_in, with_call, with_word, with_lot, settles, loaded, exchanged}
use Rattle.parking_lot_machine.specs.RowActs.{added, masked}
use Rattle.parking_lot_machine.specs.RowActs.{spun, entered, checked, appended, took, took_nobody, told_all, left, woke}
use Rattle.parking_lot_machine.specs.RowActs.{woke_nobody, answered, begun}
use Rattle.parking_lot_machine_calls.specs.CallActs.{hears, key_of, told_of, joins}
use Rattle.parking_lot_machine.specs.RowFits.{LotFits}
use Rattle.parking_lot_machine.specs.LotLaws.{Keeps, IsTaking, ActsKeepFits}
use Rattle.parking_lot_machine.proofs.Indexing.{first_is}
use Rattle.parking_lot_machine_calls.proofs.Stancing.{leads_by, takings_count, calls_begin, calls_end, wakes_some}
use Rattle.parking_lot_machine_calls.proofs.Stancing.{small_key}
use Rattle.parking_lot_machine.proofs.LotActs.{same_parts, stays_out, begun_fits, ended_fits, entered_fits}
use Rattle.parking_lot_machine.proofs.LotActs.{checked_fits, took_nobody_fits, left_fits}
use Rattle.parking_lot_machine.proofs.LotLists.{appended_fits, stores_fit}
use Rattle.parking_lot_machine.proofs.LotTakes.{took_fits}
use Rattle.parking_lot_machine.proofs.LotWakes.{due_place, woke_fits}
use Rattle.parking_lot_machine.proofs.LotNobody.{nobody_fits}
use Rattle.parking_lot_machine.proofs.Takers.{others_free}
use Rattle.parking_lot_machine.proofs.LotSound.{entered_sound, checked_sound, took_nobody_sound, stored_sound}
use Rattle.parking_lot_machine.proofs.LotSound.{left_sound, appended_sound, took_sound, woke_sound}

-- a key is that of one stance
same_stance : {j k : ℕ} {token : ParkToken} {other : ParkToken} → In j (Joins other) ≡ In k (Joins token) → j ≡ k
same_stance e = cc

same_takes : {j k : ℕ} → In j Takes ≡ In k Takes → j ≡ k
same_takes e = cc

worded : (s : State) (j word : ℕ) → LotFits s → LotFits (with_word s j word)
worded s j word h = same_parts s (with_word s j word) refl refl refl h

loads : (s : State) (t : ℕ) (c : Call) → Keeps s t c Act.Load (loaded s t c)
loads s t c h here is = stays_out s t c (seen.Word (word_at s c.lock)) h here
    (leads_by c.core Act.Load (word_at s c.lock) (seen.Word (word_at s c.lock)) is refl)

exchanges : (s : State) (t : ℕ) (c : Call) (from to : ℕ) → Keeps s t c (Act.Exchange from to) (exchanged s t c from to)
exchanges s t c from to h here is = go (word_at s c.lock == from) refl
  where
    go : (b : Bool) → (word_at s c.lock == from) ≡ b
        → LotFits (cond b (with_word (with_call s t (hears c seen.Exchanged)) c.lock to) (loaded s t c))
    go true e = worded (with_call s t (hears c seen.Exchanged)) c.lock to
        (stays_out s t c seen.Exchanged h here (leads_by c.core (Act.Exchange from to) from seen.Exchanged is refl))
    go false e =
        stays_out s t c (seen.Word (word_at s c.lock)) h here
        (leads_by c.core (Act.Exchange from to) (word_at s c.lock) (seen.Word (word_at s c.lock)) is
        (refl, λ same. eqb-false (word_at s c.lock) from e same))

adds : (s : State) (t : ℕ) (c : Call) (by : ℕ) → Keeps s t c (Act.Add by) (added s t c by)
adds s t c by h here is =
    let told = seen.Before (word_at s c.lock) in
    worded (with_call s t (hears c told)) c.lock ((word_at s c.lock + by) % 2 ^ 64)
    (stays_out s t c told h here (leads_by c.core (Act.Add by) (word_at s c.lock) told is refl))

spins : (s : State) (t : ℕ) (c : Call) → Keeps s t c Act.Spin (spun s t c)
spins s t c h here is = stays_out s t c (seen.Spun true) h here (leads_by c.core Act.Spin 0 (seen.Spun true) is tt)

enters : (s : State) (t : ℕ) (c : Call) (k : ℕ) → open_at s (key_of c k) ≡ None
    → Keeps s t c (Act.Enter k) (entered s t c k)
enters s t c k free h here is =
    let x = leads_by c.core (Act.Enter k) 0 seen.Entered is tt in
    entered_fits s t c h here k free (entered_sound s t c h here k x.0 free) x.0 x.1 x.2
    (others_free c.core (Act.Enter k) is refl)

checks : (s : State) (t : ℕ) (c : Call) → Keeps s t c (Act.Section section.Check) (checked s t c)
checks s t c h here is =
    let x = leads_by c.core (Act.Section section.Check) (word_at s c.lock) (seen.Word (word_at s c.lock)) is refl in
    checked_fits s t c h here x.0 x.1 x.3
    (checked_sound s t c h here x.0
    (cond (joins (stance (hears c (seen.Word (word_at s c.lock))).core)) phase.Valid phase.Invalid) x.1) x.2 x.4

appends : (s : State) (t : ℕ) (c : Call) (k : ℕ) (token : ParkToken) → stance c.core ≡ In k (Joins token)
    → Keeps s t c (Act.Section (section.Append token)) (appended s t c (key_of c k) token)
appends s t c k token from h here is =
    let x = leads_by c.core (Act.Section (section.Append token)) 0 seen.Made is tt in
    let same : x.0 ≡ k = same_stance (sym x.2 ∙ from) in
    appended_fits s t c h here k (subst (λ (j : ℕ). j < 2) same x.1) token from x.4
    (appended_sound s t c h here k token from) (x.3 ∙ ap (λ (j : ℕ). In j (Joined token)) same) x.5

takes_nobody : (s : State) (t : ℕ) (c : Call) (a : Act) (k : ℕ) → IsTaking a → stance c.core ≡ In k Takes
    → Keeps s t c a (took_nobody s t c (key_of c k))
takes_nobody s t c (Act.Section section.TakeFirst) k taking from h here is =
    let x = leads_by c.core (Act.Section section.TakeFirst) 0 (seen.Took None (is_left (s.lot.queues (key_of c k)))) is
    tt in
    let same : x.0 ≡ k = same_takes (sym x.1 ∙ from) in
    took_nobody_fits s t c k h here from (x.2.0 ∙ ap (λ (j : ℕ). In j Stores) same) x.2.1
    (took_nobody_sound s t c h here k)
takes_nobody s t c (Act.Section (section.TakeNext sum)) k taking from h here is =
    let x = leads_by c.core (Act.Section (section.TakeNext sum)) 0
    (seen.Took None (is_left (s.lot.queues (key_of c k)))) is tt in
    let same : x.0 ≡ k = same_takes (sym x.1 ∙ from) in
    took_nobody_fits s t c k h here from (x.2.0 ∙ ap (λ (j : ℕ). In j Stores) same) x.2.1
    (took_nobody_sound s t c h here k)
takes_nobody s t c a k taking from h here is = absurd taking

gives_took : (a : Act) (told : Option ParkToken) (left : Bool) → IsTaking a → Gives a 0 (seen.Took told left)
gives_took (Act.Section section.TakeFirst) told left h = tt
gives_took (Act.Section (section.TakeNext sum)) told left h = tt
gives_took a told left h = absurd h

takes : (s : State) (t : ℕ) (c : Call) (a : Act) (k nth : ℕ) (w : Waiter) → IsTaking a → stance c.core ≡ In k Takes
    → slice_get (s.lot.queues (key_of c k)) nth ≡ Some w → Counts c.core w.token
    → Keeps s t c a (took s t c (key_of c k) nth w)
takes s t c a k nth w taking from at counts h here is =
    let left = is_left (remove (s.lot.queues (key_of c k)) nth) in
    let x = takings_count c.core 0 w.token left
    (subst (λ (b : Act). Gives b 0 (seen.Took (Some w.token) left)) (sym is)
    (gives_took a (Some w.token) left taking)) counts in
    let same : x.0 ≡ k = same_takes (sym x.2 ∙ from) in
    took_fits s t c h here k nth w (subst (λ (j : ℕ). j < 2) same x.1) from at
    (subst (λ (j : ℕ). (stance (hears c (seen.Took (Some w.token) left)).core ≡ In j Takes)
    ⊎ (stance (hears c (seen.Took (Some w.token) left)).core ≡ In j Stores)) same x.3) x.4
    (took_sound s t c h here k nth w (small_key c.core k Takes from) from at)

stores : (s : State) (t : ℕ) (c : Call) (plain fair change : WordChange) (is_fair : Bool)
    → Keeps s t c (Act.Section (section.Store plain fair)) (told_all s t c change is_fair)
stores s t c plain fair change is_fair h here is =
    let d = hears c (seen.Stored is_fair) in
    let x = leads_by c.core (Act.Section (section.Store plain fair)) 0 (seen.Stored is_fair) is tt in
    worded (with_lot (settles (with_call s t d) t (told_of (core_tells d.core))) (told_all s t c change is_fair).lot)
    c.lock (change_of change (word_at s c.lock))
    (stores_fit s t c d h here x.0 (core_tells d.core) refl x.1 x.2 x.3 (wakes_some c.core (seen.Stored is_fair))
    (stored_sound s t c h here (key_in c) (core_tells d.core)))

masks : (s : State) (t : ℕ) (c : Call) (keep : ℕ) → Keeps s t c (Act.FetchAnd keep) (masked s t c keep)
masks s t c keep h here is =
    let told = seen.Before (word_at s c.lock) in
    let x = leads_by c.core (Act.FetchAnd keep) (word_at s c.lock) told is refl in
    worded (with_lot (settles (with_call s t (hears c told)) t (told_of (sign false))) (masked s t c keep).lot) c.lock
    (bit_and (word_at s c.lock) keep)
    (stores_fit s t c (hears c told) h here x.0 (sign false) refl x.1 x.2 x.3 (wakes_some c.core told)
    (stored_sound s t c h here (key_in c) (sign false)))

leaves : (s : State) (t : ℕ) (c : Call) → Keeps s t c (Act.Section section.Leave) (left s t c)
leaves s t c h here is =
    let x = leads_by c.core (Act.Section section.Leave) 0 seen.Made is tt in
    left_fits s t c h here (sound_by x) x
  where
    sound_by : {b : Stance} {n m : ℕ} → LeavesFor (stance c.core) b n m → Sound (closed s.lot (key_in c) false)
    sound_by (inl l) = left_sound s t c h here l.0 TurnsBack l.1
    sound_by (inr (inl l)) = left_sound s t c h here l.0 (Joined l.1) l.2
    sound_by (inr (inr l)) = left_sound s t c h here l.0 (Tells l.1) l.2

-- who is to wake another is told by whom
pub by_first : (s : State) (t : ℕ) (e : Wakeup) → slice_get s.wakes (position_or_len (is_by t) s.wakes) ≡ Some e
    → e.by ≡ t
by_first s t e first = eqb-true e.by t (first_is (is_by t) s.wakes e first)

wakes : (s : State) (t : ℕ) (c : Call) (e : Wakeup) (d : Call) (token : UnparkToken)
    → slice_get s.wakes (position_or_len (is_by t) s.wakes) ≡ Some e → call_at s e.thread ≡ Some d
    → Keeps s t c (Act.Section section.Wake) (woke s t c e.thread d token)
wakes s t c e d token first there h here is =
    let x = leads_by c.core (Act.Section section.Wake) 0 seen.Made is tt in
    let due = due_place s t c h here e d first (by_first s t e first) there x.0 in
    woke_fits s t c h here e d first (by_first s t e first) there x.0 token x.1 x.2
    (woke_sound s h e.thread (Taken due.0 due.1 due.2 false) due.3 (λ k. refl))

wakes_nobody : (s : State) (t : ℕ) (c : Call) → taken_by s.wakes t ≡ [] → Keeps s t c (Act.Section section.Wake)
    (woke_nobody s t c)
wakes_nobody s t c none h here is =
    let x = leads_by c.core (Act.Section section.Wake) 0 seen.Made is tt in
    nobody_fits s t c (hears c seen.Made) h here x.0 x.1 refl (omega (arith, x.2)) none (wakes_some c.core seen.Made)

begins : (s : State) (t : ℕ) (c : Call) → LotFits s → t < length s.calls → call_at s t ≡ None → LotFits (begun s t c)
begins s t c h low here = let x = calls_begin c.core in begun_fits s t c h low here x.0 x.1

ends : (s : State) (t : ℕ) (c : Call) (answer : CoreAnswer) → Keeps s t c (Act.Done answer) (answered s t c)
ends s t c answer h here is =
    let x = subst (λ (a : Act). IsOver a (stance c.core) (taken_count c.core)) is (calls_end c.core) in
    same_parts (record s { calls = slice_set s.calls t None }) (answered s t c) refl refl refl
    (ended_fits s t c h here x.0 x.1)

pub acts_keep_fits : ActsKeepFits
acts_keep_fits = record {
  loads = loads;
  exchanges = exchanges;
  adds = adds;
  spins = spins;
  enters = enters;
  checks = checks;
  appends = appends;
  takes = takes;
  takes_nobody = takes_nobody;
  stores = stores;
  masks = masks;
  leaves = leaves;
  wakes = wakes;
  wakes_nobody = wakes_nobody;
  begins = begins;
  ends = ends;
}
