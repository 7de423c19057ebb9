-- The machine once a thread has told all whom it has taken and told nothing yet, and has written the word of its lock.
use Rattle.std.proofs.Common.{◌≡◌, ◌≢◌, ℕ, ◌⊎◌, inl, inr, cond, length, Option, Some, None, slice_get, slice_set, refl}
use Rattle.std.proofs.Common.{sym, ap, ◌∙◌, subst, arith}
use Rattle.std.specs.Option.{option_map}
use Rattle.std.proofs.lemmas.Bool.{cases_eq, ne_eqb}
use Rattle.std.proofs.lemmas.List.{length-set, length-map}
use Rattle.std.proofs.lemmas.Option.{none-some}
use Rattle.parking_lot_core_model.specs.declared.parking.UnparkToken.{UnparkToken}
use Rattle.parking_lot_core_model.specs.Machine.{stored}
use Rattle.parking_lot_core_model.proofs.Numbers.{count_by-set, count_by-map_same}
use Rattle.parking_lot_protocol.specs.declared.act.ActResult.{ActResult}
use Rattle.parking_lot_machine_calls.specs.declared.seat.WakeResult.{WakeResult}
use Rattle.parking_lot_machine_calls.specs.declared.seat.QueuePosition.{QueuePosition}
use Rattle.parking_lot_machine_calls.specs.declared.open_call.Call.{Call}
use Rattle.parking_lot_machine_calls.specs.declared.seat.Wakeup.{Wakeup}
use Rattle.parking_lot_machine.specs.Rows.{State, word_at, call_at, taken_by}
use Rattle.parking_lot_machine.specs.RowActs.{key_in, with_call, with_lot, with_word, settles}
use Rattle.parking_lot_machine_calls.specs.CallActs.{hears, settled_spot, settled, told_of}
use Rattle.parking_lot_machine.specs.RowFits.{FitsTogether, RulesFit, WakesFit, IsTaken, is_away, is_off}
use Rattle.parking_lot_machine.proofs.Acting.{word-elsewhere}
use Rattle.parking_lot_machine.proofs.Calling.{call_of, slot, call-here, call-elsewhere, calls-change}
use Rattle.parking_lot_machine.proofs.Carrying.{same_call}
use Rattle.parking_lot_machine.proofs.KindTable.{IsThere, Elsewhere}
use Rattle.parking_lot_machine.proofs.LotLists.{call_at-map}
use Rattle.parking_lot_machine.proofs.Making.{move_sound}
use Rattle.parking_lot_machine.proofs.Ruling.{CallFits, Fitted, fits_at, fits_next, rules_after}

-- WHERE ONE STANDS THAT IS TOLD

off_before : (t by : ℕ) (said now : WakeResult) (at : QueuePosition) → settled_spot t said at ≡ QueuePosition.Off by now
    → (x : WakeResult) × (at ≡ QueuePosition.Off by x)
off_before t by said now QueuePosition.Listed e = absurd cc
off_before t by said now (QueuePosition.Off b WakeResult.Nothing) e = let same : b ≡ by = cc in
    (WakeResult.Nothing, ap (λ n. QueuePosition.Off n WakeResult.Nothing) same)
off_before t by said now (QueuePosition.Off b WakeResult.TryAgain) e = let same : b ≡ by = cc in
    (WakeResult.TryAgain, ap (λ n. QueuePosition.Off n WakeResult.TryAgain) same)
off_before t by said now (QueuePosition.Off b WakeResult.HandedOver) e = let same : b ≡ by = cc in
    (WakeResult.HandedOver, ap (λ n. QueuePosition.Off n WakeResult.HandedOver) same)

same_off : (t : ℕ) (said : WakeResult) (at : QueuePosition) → is_off (settled_spot t said at) ≡ is_off at
same_off t said QueuePosition.Listed = refl
same_off t said (QueuePosition.Off b WakeResult.Nothing) = refl
same_off t said (QueuePosition.Off b WakeResult.TryAgain) = refl
same_off t said (QueuePosition.Off b WakeResult.HandedOver) = refl

-- it stays, or was taken by t
same_or_mine : (t : ℕ) (said : WakeResult) (at : QueuePosition) → (settled_spot t said at ≡ at)
    ⊎ (at ≡ QueuePosition.Off t WakeResult.Nothing)
same_or_mine t said QueuePosition.Listed = inl refl
same_or_mine t said (QueuePosition.Off b WakeResult.Nothing) =
    elim (cases_eq b t) [
      | inl e ↦ inr (ap (λ n. QueuePosition.Off n WakeResult.Nothing) e)
      | inr ne ↦ inl
          (ap (λ q. QueuePosition.Off b (cond q said WakeResult.Nothing)) (ne_eqb b t ne))
    ]
same_or_mine t said (QueuePosition.Off b WakeResult.TryAgain) = inl refl
same_or_mine t said (QueuePosition.Off b WakeResult.HandedOver) = inl refl

away_settled : (t : ℕ) (said : WakeResult) (o : Option Call) → is_away (option_map (settled t said) o) ≡ is_away o
away_settled t said None = refl
away_settled t said (Some c) = same_off t said c.spot

before_settled : (t : ℕ) (said : WakeResult) (o : Option Call) (e : Call) → option_map (settled t said) o ≡ Some e
    → (f : Call) × (o ≡ Some f) × (settled t said f ≡ e)
before_settled t said None e h = absurd (none-some e h)
before_settled t said (Some f) e h = (f, refl, same_call h)

-- THE MACHINE

module _ (s : State) (t : ℕ) (c : Call) (heard : ActResult) (token : UnparkToken) (word : ℕ) where
  abbrev pub next_call : Call
  next_call = hears c heard

  abbrev pub told_state : State
  told_state = with_word (with_lot (settles (with_call s t next_call) t (told_of token))
      (stored s.lot (key_in c) token)) c.lock
      word

  module _ (h : FitsTogether s) (here : call_at s t ≡ Some c) where
    told_at : (v : ℕ) → call_at told_state v ≡ option_map (settled t (told_of token))
        (call_of (slice_set s.calls t (Some next_call)) v)
    told_at v = call_at-map (settled t (told_of token)) (slice_set s.calls t (Some next_call)) v

    pub told_here : call_at told_state t ≡ Some (settled t (told_of token) next_call)
    told_here = told_at t ∙ ap (option_map (settled t (told_of token)))
        (call-here s.calls t (Some c) (Some next_call) (slot s.calls t c here))

    pub told_others : (v : ℕ) → v ≢ t → call_at told_state v ≡ option_map (settled t (told_of token)) (call_at s v)
    told_others v ne = told_at v ∙ ap (option_map (settled t (told_of token)))
        (call-elsewhere s.calls t v (Some next_call) ne)

    pub told_threads : length told_state.calls ≡ length s.calls
    told_threads = length-map (slice_set s.calls t (Some next_call)) (option_map (settled t (told_of token)))
        ∙ length-set s.calls t (Some next_call)

    -- what holds of every call
    calls-told : (P : ℕ → Call → Type 0)
        → ((v : ℕ) (e : Call) → v ≢ t → call_at s v ≡ Some e → P v (settled t (told_of token) e))
        → P t (settled t (told_of token) next_call) → (v : ℕ) (e : Call) → call_at told_state v ≡ Some e → P v e
    calls-told P others this v e at =
        let f = before_settled t (told_of token) (call_of (slice_set s.calls t (Some next_call)) v) e
        (sym (told_at v) ∙ at) in
        subst (P v) f.2 (calls-change (λ x g. P x (settled t (told_of token) g)) s.calls t c next_call here others this
        v f.0 f.1)

    pub wakes_told : WakesFit told_state
    wakes_told = record {
      off = λ v by e said at is.
          calls-told (λ x g. g.spot ≡ QueuePosition.Off by said → (n : ℕ) × (w : Wakeup)
          × (slice_get s.wakes n ≡ Some w) × (w.by ≡ by) × (w.thread ≡ x))
          (λ x g ne there is. let z = off_before t by (told_of token) said g.spot is in
          h.wakes.off x by g z.0 there z.1)
          (λ is. let z = off_before t by (told_of token) said c.spot is in h.wakes.off t by c z.0 here z.1)
          v e at is;
      room = h.wakes.room
          ∙ omega (arith, count_by-set is_away s.calls t (Some c) (Some next_call) (slot s.calls t c here))
          ∙ sym (count_by-map_same is_away (option_map (settled t (told_of token))) (away_settled t (told_of token))
          (slice_set s.calls t (Some next_call)));
    }

    -- whom t has taken is at its lock
    mine_there : (v : ℕ) (e : Call) → call_at s v ≡ Some e → e.spot ≡ QueuePosition.Off t WakeResult.Nothing
        → e.lock ≡ c.lock
    mine_there v e at off =
        let w = h.wakes.off v t e WakeResult.Nothing at off in
        let x : IsTaken s w.1 = h.lots.woken w.0 w.1 w.2 in
        let its : x.call ≡ e = same_call (sym x.here ∙ ap (call_at s) w.4 ∙ at) in
        let mine : x.taker ≡ c = same_call (sym x.there ∙ ap (call_at s) w.3 ∙ here) in
        ap (λ (y : Call). y.lock) (sym its) ∙ x.lock ∙ ap (λ (y : Call). y.lock) mine

    pub told_elsewhere : Elsewhere c.lock s told_state
    told_elsewhere = record {
      kinds = refl;
      threads = told_threads;
      words = λ i ne. other_word i ne;
      queues = λ i k ne b. refl;
      holds = λ x i ne. refl;
      calls = λ x. elim (cases_eq x t) [
        | inl e ↦ inr (
          subst (λ n. IsThere c.lock (call_at s n)) (sym e) (subst (IsThere c.lock) (sym here) refl),
          subst (λ n. IsThere c.lock (call_at told_state n)) (sym e) (subst (IsThere c.lock) (sym told_here) refl),
        )
        | inr ne ↦ others x ne (call_at s x) refl
      ];
    }
      where
        other_word : (i : ℕ) → i ≢ c.lock → word_at told_state i ≡ word_at s i
        other_word i ne = word-elsewhere s.words c.lock word i ne

        others : (x : ℕ) → x ≢ t → (o : Option Call) → call_at s x ≡ o
            → ((call_at told_state x ≡ call_at s x) × (taken_by s.wakes x ≡ taken_by s.wakes x))
            ⊎ (IsThere c.lock (call_at s x) × IsThere c.lock (call_at told_state x))
        others x ne None e = inl (told_others x ne ∙ ap (option_map (settled t (told_of token))) e ∙ sym e, refl)
        others x ne (Some f) e = elim (same_or_mine t (told_of token) f.spot) [
          | inl same ↦ inl (
            told_others x ne ∙ ap (option_map (settled t (told_of token))) e
                ∙ ap (λ (y : QueuePosition). Some (record f { spot = y })) same ∙ sym e,
            refl,
          )
          | inr mine ↦
              let there = mine_there x f e mine in
              inr (
                subst (IsThere c.lock) (sym e) there,
                subst (IsThere c.lock) (sym (told_others x ne ∙ ap (option_map (settled t (told_of token))) e)) there,
              )
        ]

    pub rules_told : Fitted s told_state t c heard c.core → RulesFit told_state
    rules_told fit = rules_after s told_state c.lock h.rules (record {
      kinds = refl;
      threads = told_threads;
      holds = refl;
      words = length-set s.words c.lock word;
      calls = calls-told (λ v e. CallFits s.kinds s.lot.queues e)
          (λ v e ne at. fits_at s h v e at s.lot.queues (settled_spot t (told_of token) e.spot) (h.rules.knows v e at))
          (fits_next s h t c here heard s.lot.queues (settled_spot t (told_of token) c.spot) fit.1 fit.2);
      few = h.rules.few;
      elsewhere = told_elsewhere.words;
      bits = fit.3;
      sound = move_sound s told_state c.core c.others (taken_by s.wakes t) heard c.lock t refl fit.0 h.rules.sound;
    })
