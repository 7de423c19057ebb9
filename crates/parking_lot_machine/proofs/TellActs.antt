-- The acts that tell and wake: each keeps the machine fit, and is a step of the rules.
use Rattle.std.proofs.Common.{◌≡◌, ℕ, cond, Bool, false, Option, None, Some, refl, sym, ap, ◌∙◌, ◌≤◌, length}
use Rattle.parking_lot_core_model.specs.declared.parking.UnparkToken.{UnparkToken}
use Rattle.parking_lot_core_model.specs.Sound as lot
use Rattle.parking_lot_protocol.specs.declared.act.Act.TheVariants as act
use Rattle.parking_lot_protocol.specs.declared.act.SectionAct.TheVariants as section
use Rattle.parking_lot_protocol.specs.declared.act.WordChange.{WordChange}
use Rattle.parking_lot_protocol.specs.declared.act.ActResult.{ActResult}
use Rattle.parking_lot_protocol.specs.Acts.{change_of}
use Rattle.std.specs.Prelude.{bit_and}
use Rattle.parking_lot_machine_calls.specs.declared.open_call.Call.{Call}
use Rattle.parking_lot_machine_calls.specs.declared.seat.Wakeup.{Wakeup}
use Rattle.parking_lot_machine.specs.Rows.{State, word_at, call_at, taken_by}
use Rattle.parking_lot_machine_calls.specs.Stances.{In, Stores, Takes, Tells, sign, stance, taken_count, core_act}
use Rattle.parking_lot_machine_calls.specs.Stances.{core_next, core_tells}
use Rattle.parking_lot_machine.specs.RowActs.{with_lot, with_call, settles, told_all, masked, woke}
use Rattle.parking_lot_machine_calls.specs.CallActs.{settled, hears, told_of}
use Rattle.parking_lot_machine.specs.RowFits.{FitsTogether, LotFits, PassesFit}
use Rattle.parking_lot_machine.specs.ActLaws.{Keeps}
use Rattle.parking_lot_machine.specs.TellLaws.{IsDue, TellsAreSteps}
use Rattle.parking_lot_machine.proofs.LotActs.{same_parts}
use Rattle.parking_lot_machine.proofs.LotLists.{stores_fit}
use Rattle.parking_lot_machine.proofs.LotWakes.{woke_fits}
use Rattle.parking_lot_machine.proofs.Resuming.{goes_on}
use Rattle.parking_lot_machine.proofs.Rousing.{is_due, first_is_by, passes_roused, roused, rules_roused, wakes_roused}
use Rattle.parking_lot_machine.proofs.Settling.{rules_told, told_here, told_others, told_state, wakes_told}
use Rattle.parking_lot_machine_calls.proofs.Stancing.{leads_by, wakes_some}
use Rattle.parking_lot_machine.proofs.Telling.{told_on, mask_fits, store_fits}
use Rattle.parking_lot_machine.proofs.Carrying.{same_call}
use Rattle.parking_lot_machine.proofs.Passing.{passes_after}
use Rattle.std.specs.Option.{option_map}
use Rattle.std.proofs.lemmas.Option.{none-some}
use Rattle.parking_lot_machine_calls.specs.declared.seat.WakeResult.{WakeResult}
use Rattle.parking_lot_machine.proofs.WakesNobody.{wakes_nobody}

-- What fits of the lot, whatever word is stored.
lots_told : (s : State) (t : ℕ) (c : Call) (heard : ActResult) (token : UnparkToken) (word k : ℕ) → LotFits s
    → call_at s t ≡ Some c → stance c.core ≡ In k Stores → stance (core_next c.core heard) ≡ In k (Tells token)
    → taken_count (core_next c.core heard) ≡ taken_count c.core → lot.Sound (told_state s t c heard token word).lot
    → LotFits (told_state s t c heard token word)
lots_told s t c heard token word k h here from to counts sound =
    same_parts (with_lot (settles (with_call s t (hears c heard)) t (told_of token))
    (told_state s t c heard token word).lot) (told_state s t c heard token word) refl refl refl
    (stores_fit s t c (hears c heard) h here k token refl from to counts (wakes_some c.core heard) sound)

-- and whom it passes, and others
passes_told : (s : State) (t : ℕ) (c : Call) (heard : ActResult) (token : UnparkToken) (word k : ℕ) → FitsTogether s
    → call_at s t ≡ Some c → stance c.core ≡ In k Stores → stance (core_next c.core heard) ≡ In k (Tells token)
    → LotFits (told_state s t c heard token word) → PassesFit (told_state s t c heard token word)
passes_told s t c heard token word k h here from to lots =
    let u = told_state s t c heard token word in
    passes_after s u t lots h.passes
    (told_on s t c heard token word k h here from).around
    (λ v d j ne at is. settled_was t (told_of token) (call_at s v) d
    (sym (told_others s t c heard token word h here v ne) ∙ at))
    (λ d j o at is there. absurd
    (tells_takes (sym to
    ∙ ap (λ (x : Call). stance x.core) (same_call (sym (told_here s t c heard token word h here) ∙ at)) ∙ is)))
  where
    tells_takes : {j : ℕ} → In k (Tells token) ≡ In j Takes → ⊥
    tells_takes e = cc

    settled_was : (by : ℕ) (said : WakeResult) (o : Option Call) (d : Call) → option_map (settled by said) o ≡ Some d
        → (e : Call) × (o ≡ Some e) × (e.core ≡ d.core) × (e.lock ≡ d.lock)
    settled_was by said None d at = absurd (none-some d at)
    settled_was by said (Some e) d at = let same = same_call at in
        (e, refl, ap (λ (x : Call). x.core) same, ap (λ (x : Call). x.lock) same)

store : (s : State) (t : ℕ) (c : Call) (plain fair : WordChange) (is_fair : Bool)
    → core_act c.core ≡ act.Section (section.Store plain fair)
    → lot.Sound (told_all s t c (cond is_fair fair plain) is_fair).lot
    → Keeps t c s (told_all s t c (cond is_fair fair plain) is_fair)
store s t c plain fair is_fair asked sound h here =
    let heard = ActResult.Stored is_fair in
    let token = core_tells (core_next c.core heard) in
    let word = change_of (cond is_fair fair plain) (word_at s c.lock) in
    let leads = leads_by c.core (act.Section (section.Store plain fair)) (word_at s c.lock) heard asked tt in
    let fit = store_fits s t c plain fair is_fair asked h here leads.0 leads.1 in
    let lots = lots_told s t c heard token word leads.0 h.lots here leads.1 leads.2 leads.3 sound in (
      heard,
      record {
        fits =
            record {
              lots = lots;
              passes = passes_told s t c heard token word leads.0 h here leads.1 leads.2 lots;
              wakes = wakes_told s t c heard token word h here;
              rules = rules_told s t c heard token word h here fit;
            };
        goes = fit.0;
      },
    )

mask : (s : State) (t : ℕ) (c : Call) (keep : ℕ) → core_act c.core ≡ act.FetchAnd keep
    → lot.Sound (masked s t c keep).lot → Keeps t c s (masked s t c keep)
mask s t c keep asked sound h here =
    let heard = ActResult.Before (word_at s c.lock) in
    let word = bit_and (word_at s c.lock) keep in
    let leads = leads_by c.core (act.FetchAnd keep) (word_at s c.lock) heard asked refl in
    let fit = mask_fits s t c keep asked h here leads.0 leads.1 in
    let lots = lots_told s t c heard (sign false) word leads.0 h.lots here leads.1 leads.2 leads.3 sound in (
      heard,
      record {
        fits =
            record {
              lots = lots;
              passes = passes_told s t c heard (sign false) word leads.0 h here leads.1 leads.2 lots;
              wakes = wakes_told s t c heard (sign false) word h here;
              rules = rules_told s t c heard (sign false) word h here
                  fit;
            };
        goes = fit.0;
      },
    )

-- WAKING

due : (s : State) (t : ℕ) (c : Call) → core_act c.core ≡ act.Section section.Wake → FitsTogether s
    → call_at s t ≡ Some c → 1 ≤ length (taken_by s.wakes t)
    → (e : Wakeup) × (d : Call) × (token : UnparkToken) × (x : IsDue s t e d token) × (e.by ≡ t)
    × (x.sleep.mark ≡ e.mark)
due s t c asked h here some =
    is_due s t c h here (leads_by c.core (act.Section section.Wake) (word_at s c.lock) ActResult.Made asked tt).0 some

wake : (s : State) (t : ℕ) (c : Call) (e : Wakeup) (d : Call) (token : UnparkToken)
    → core_act c.core ≡ act.Section section.Wake → IsDue s t e d token
    → lot.Sound (woke s t c e.thread d token).lot → Keeps t c s (woke s t c e.thread d token)
wake s t c e d token asked due sound h here =
    let leads = leads_by c.core (act.Section section.Wake) (word_at s c.lock) ActResult.Made asked tt in
    let so = roused s t c h here e d token due leads.0 leads.1 asked in
    let lots = woke_fits s t c h.lots here e d due.first (first_is_by t s.wakes e due.first) due.there leads.0 token
    leads.1 leads.2 sound in (
      ActResult.Made,
      record {
        fits = record {
          lots = lots;
          passes = passes_roused s t c h here e d token due leads.0 leads.1 lots;
          wakes = wakes_roused s t c h here e d token due leads.0;
          rules = rules_roused s t c h here e d token due leads.0 so;
        };
        goes = so.0.0;
      },
    )

pub laws : TellsAreSteps
laws = record {
  store = store;
  mask = mask;
  due = due;
  wake = wake;
  nobody = wakes_nobody;
  goes_on = goes_on;
}
