-- The acts of the machine: each keeps it fit, and is a step of the rules.
use Rattle.std.proofs.Common.{◌≡◌, ◌≢◌, ℕ, zero, suc, ◌+◌, ◌*◌, ◌%◌, ◌^◌, ◌<◌, inl, inr, cond, Bool, true, false}
use Rattle.std.proofs.Common.{List, length, Option}
use Rattle.std.proofs.Common.{Some, None, slice_get, slice_set, refl, sym, ap, ◌∙◌, subst, eq-eqb}
use Rattle.std.proofs.lemmas.Bool.{cases_eq, ne_eqb, both_ways}
use Rattle.std.proofs.lemmas.List.{length-set}
use Rattle.std.proofs.lemmas.Option.{none-some, slice_get-get_or}
use Rattle.std.specs.Prelude.{get_or}
use Rattle.parking_lot_core_model.specs.declared.place.Phase.{Phase}
use Rattle.parking_lot_core_model.specs.declared.place.Section.{Section}
use Rattle.std.specs.Option.{option_map, option_map_or, option_and_then}
use Rattle.parking_lot_core_model.specs.declared.parking.ParkToken.{ParkToken}
use Rattle.parking_lot_core_model.specs.Sound as lot
use Rattle.parking_lot_rules.proofs.Indexed.{get-set_same, get-set_other}
use Rattle.parking_lot_protocol.specs.declared.act.Act.{Act}
use Rattle.parking_lot_protocol.specs.declared.act.SectionAct.TheVariants as section
use Rattle.parking_lot_protocol.specs.declared.act.ActResult.{ActResult}
use Rattle.parking_lot_protocol.specs.Acts.{Gives, word_after}
use Rattle.parking_lot_machine_calls.specs.declared.seat.QueuePosition.TheVariants as spot
use Rattle.parking_lot_machine_calls.specs.declared.seat.Core.{Core}
use Rattle.parking_lot_machine_calls.specs.declared.open_call.Call.{Call}
use Rattle.parking_lot_core_model.specs.Lists.{updated}
use Rattle.parking_lot_core_model.specs.Machine.{fresh_section}
use Rattle.parking_lot_core_model.proofs.Kept.{updated_at}
use Rattle.parking_lot_machine.specs.Rows.{State, bucket, word_at, call_at, open_at}
use Rattle.parking_lot_machine_calls.specs.Stances.{Doing, Stance, Out, In, Joined, Joins, Looks, TurnsBack, Takes}
use Rattle.parking_lot_machine_calls.specs.Stances.{Asleep, Tells}
use Rattle.parking_lot_machine_calls.specs.Stances.{stance, taken_count, core_act, core_next}
use Rattle.parking_lot_machine_calls.specs.StanceLaws.{StaysOut, LeavesFor}
use Rattle.parking_lot_machine.specs.RowActs.{with_call, with_word, loaded, exchanged, added, spun, entered, checked}
use Rattle.parking_lot_machine.specs.RowActs.{key_in, left}
use Rattle.parking_lot_machine_calls.specs.CallActs.{hears, joins, key_of}
use Rattle.parking_lot_machine.specs.RowFits.{FitsTogether, LotFits}
use Rattle.parking_lot_machine_calls.specs.CallKinds.{IsOfKind}
use Rattle.parking_lot_machine.specs.ActLaws.{ActsAreSteps, Acts, Keeps}
use Rattle.parking_lot_machine.proofs.KindTable.{within_kinds}
use Rattle.parking_lot_machine_calls.proofs.Stancing.{leads_by, small_key}
use Rattle.parking_lot_machine.proofs.LotActs.{stays_out, same_parts, seat_of, entered_fits, checked_fits, left_fits}
use Rattle.parking_lot_machine.proofs.LotActs.{key_is, same_section}
use Rattle.parking_lot_machine.proofs.OwnMoves.{AfterAct, IsOwnAct}
use Rattle.parking_lot_machine.proofs.Owning.{OwnAct}
use Rattle.parking_lot_machine.proofs.OwnActs.{own_fits}
use Rattle.parking_lot_machine.proofs.WakesKept.{wakes_own}
use Rattle.parking_lot_core_model.specs.Places.{passed_of}
use Rattle.parking_lot_machine.proofs.Crossings.{comes_at, entered_still, goes_at}
use Rattle.parking_lot_machine.specs.RwLaws.{act_crossing}
use Rattle.parking_lot_rules.specs.Family as crossings
use Rattle.parking_lot_rules.specs.Family.{Crossing}
use Rattle.parking_lot_machine.proofs.Making.{Crossed, Entries, entries}
use Rattle.parking_lot_machine.proofs.Passing.{IsAround, around_at, own_passes}
use Rattle.parking_lot_machine.proofs.Starting.{begins, ends, never}
use Rattle.parking_lot_machine.proofs.Takers.{others_free}

out_takes : {k : ℕ} → Out ≡ In k Takes → ⊥
out_takes e = cc

-- A thread's own act, of which the lot's side is known.
module _ (s u : State) (t : ℕ) (c : Call) (told : ActResult) (h : FitsTogether s)
    (a : OwnAct s u t c told (core_next c.core told) c.spot)
    (lists_same : (key : ℕ) → u.lot.queues key ≡ s.lot.queues key)
    (gives : Gives (core_act c.core) (word_at s c.lock) told)
    (own : IsOwnAct (core_act c.core)) (around : AfterAct (stance c.core) (core_act c.core) t (entries s c.lock)
    (entries u c.lock)) (lots : LotFits u)
    (apart : IsAround s u t)
    (none : (k : ℕ) (o : Section) → stance (core_next c.core told) ≡ In k Takes → open_at u (2 * c.lock + k) ≡ Some o
    → passed_of o.phase ≡ 0) where
  pub own_act : (what : ActResult) × Acts t c what s u
  own_act = let both = own_fits s u t h c told lists_same a gives own around in (
    told,
    record {
      fits =
          record {
            lots = lots;
            passes = own_passes s u t c told (core_next c.core told) c.spot a lots h.passes apart none;
            wakes = wakes_own s u t c told (core_next c.core told) a h.wakes;
            rules = both.0;
          };
      goes = both.1;
    },
  )

-- THE WORD

-- the word of a lock that a call is at
pub has_word : (s : State) → FitsTogether s → (t : ℕ) (c : Call) → call_at s t ≡ Some c → c.lock < length s.words
has_word s h t c here = subst (λ n. c.lock < n) (sym h.rules.size_words) (within c.core refl)
  where
    within : (x : Core) → c.core ≡ x → c.lock < length s.kinds
    within (Core.Rw k) e =
        within_kinds s.kinds c.lock _ (subst (IsOfKind (slice_get s.kinds c.lock)) e (h.rules.kinds t c here))
    within (Core.Mutex k) e =
        within_kinds s.kinds c.lock _ (subst (IsOfKind (slice_get s.kinds c.lock)) e (h.rules.kinds t c here))
    within (Core.Upgrade k) e =
        within_kinds s.kinds c.lock _ (subst (IsOfKind (slice_get s.kinds c.lock)) e (h.rules.kinds t c here))
    within (Core.LateRw p) e =
        within_kinds s.kinds c.lock _ (subst (IsOfKind (slice_get s.kinds c.lock)) e (h.rules.kinds t c here))
    within (Core.Late p) e =
        within_kinds s.kinds c.lock _ (subst (IsOfKind (slice_get s.kinds c.lock)) e (h.rules.kinds t c here))

pub word-here : (words : List ℕ) (j x : ℕ) → j < length words
    → option_map_or (λ w. w) (slice_get (slice_set words j x) j) 0 ≡ x
word-here words j x b = go (slice_get words j) refl
  where
    go : (o : Option ℕ) → slice_get words j ≡ o → option_map_or (λ w. w) (slice_get (slice_set words j x) j) 0 ≡ x
    go (Some w) e = ap (λ q. option_map_or (λ w. w) q 0) (get-set_same words j w x e)
    go None e = absurd (none-some (get_or words j 0) (sym e ∙ slice_get-get_or words j 0 b))

pub word-elsewhere : (words : List ℕ) (j x i : ℕ) → i ≢ j → option_map_or (λ w. w) (slice_get (slice_set words j x) i) 0
    ≡ option_map_or (λ w. w) (slice_get words i) 0
word-elsewhere words j x i ne = ap (λ q. option_map_or (λ w. w) q 0) (get-set_other words j i x (λ e. ne (sym e)))

is_asleep : Stance → Bool
is_asleep Out = false
is_asleep (In key how) = false
is_asleep (Asleep key token) = true

-- an act whose call is in a section sleeps nowhere
awake_never : (b : Stance) (key : ℕ) (how : Doing) (k : ℕ) (token : ParkToken) (A : Type 0) → b ≡ In key how
    → b ≡ Asleep k token → A
unfolding is_asleep
awake_never b key how k token A e f = absurd (both_ways (is_asleep b) (ap is_asleep e) (ap is_asleep f))

same_takes : {j k : ℕ} → In j Takes ≡ In k Takes → j ≡ k
same_takes e = cc

looks_takes : {j k : ℕ} → In j Looks ≡ In k Takes → ⊥
looks_takes e = cc

-- OUTSIDE SECTIONS

module _ (s : State) (t : ℕ) (c : Call) (told : ActResult) (x : Act) (asked : core_act c.core ≡ x) (h : FitsTogether s)
    (here : call_at s t ≡ Some c) (gives : Gives x (word_at s c.lock) told) (own : IsOwnAct x)
    (around : (o : Entries) → AfterAct (stance c.core) x t o o)
    (leads : StaysOut (stance c.core) (stance (core_next c.core told)) (taken_count c.core)
    (taken_count (core_next c.core told))) where
  -- the word stays
  looks : word_after x told (word_at s c.lock) ≡ word_at s c.lock → (what : ActResult)
      × Acts t c what s (with_call s t (hears c told))
  looks same =
      own_act s (with_call s t (hears c told)) t c told h (record {
        here = here;
        calls = refl;
        kinds = refl;
        wakes = refl;
        holds = refl;
        sizes = refl;
        word = sym (ap (λ y. word_after y told (word_at s c.lock)) asked ∙ same);
        words = λ i ne. refl;
        queues = λ i k ne b. refl;
        buckets = refl;
        listed = λ k token e. never _ k token _ leads.1 e;
      })
      (λ key. refl)
      (subst (λ (y : Act). Gives y (word_at s c.lock) told) (sym asked) gives) (subst IsOwnAct (sym asked) own)
      (subst (λ (y : Act). AfterAct (stance c.core) y t (entries s c.lock) (entries s c.lock)) (sym asked)
      (around (entries s c.lock)))
      (stays_out s t c told h.lots here leads) (λ v k o ne at whose. (at, refl))
      (λ k o e. absurd (out_takes (sym leads.1 ∙ e)))

  -- or is written
  writes : (word : ℕ) → word_after x told (word_at s c.lock) ≡ word → (what : ActResult)
      × Acts t c what s (with_word (with_call s t (hears c told)) c.lock word)
  writes word is =
      own_act s (with_word (with_call s t (hears c told)) c.lock word) t c told h (record {
        here = here;
        calls = refl;
        kinds = refl;
        wakes = refl;
        holds = refl;
        sizes = length-set s.words c.lock word;
        word = word-here s.words c.lock word (has_word s h t c here)
            ∙ sym (ap (λ y. word_after y told (word_at s c.lock)) asked ∙ is);
        words = λ i ne. word-elsewhere s.words c.lock word i ne;
        queues = λ i k ne b. refl;
        buckets = refl;
        listed = λ k token e. never _ k token _ leads.1 e;
      })
      (λ key. refl)
      (subst (λ (y : Act). Gives y (word_at s c.lock) told) (sym asked) gives) (subst IsOwnAct (sym asked) own)
      (subst (λ (y : Act). AfterAct (stance c.core) y t (entries s c.lock) (entries s c.lock)) (sym asked)
      (around (entries s c.lock)))
      (same_parts (with_call s t (hears c told)) (with_word (with_call s t (hears c told)) c.lock word) refl refl refl
      (stays_out s t c told h.lots here leads)) (λ v k o ne at whose. (at, refl))
      (λ k o e. absurd (out_takes (sym leads.1 ∙ e)))

load : (s : State) (t : ℕ) (c : Call) → core_act c.core ≡ Act.Load → Keeps t c s (loaded s t c)
load s t c asked h here =
    let told = ActResult.Word (word_at s c.lock) in
    looks s t c told Act.Load asked h here refl tt (λ o. (tt, λ b. refl))
    (leads_by c.core Act.Load (word_at s c.lock) told asked refl) refl

spin : (s : State) (t : ℕ) (c : Call) → core_act c.core ≡ Act.Spin → Keeps t c s (spun s t c)
spin s t c asked h here =
    let told = ActResult.Spun true in
    looks s t c told Act.Spin asked h here tt tt (λ o. (tt, λ b. refl))
    (leads_by c.core Act.Spin (word_at s c.lock) told asked tt)
    refl

add : (s : State) (t : ℕ) (c : Call) (by : ℕ) → core_act c.core ≡ Act.Add by → Keeps t c s (added s t c by)
add s t c by asked h here =
    let told = ActResult.Before (word_at s c.lock) in
    writes s t c told (Act.Add by) asked h here refl tt (λ o. (tt, λ b. refl))
    (leads_by c.core (Act.Add by) (word_at s c.lock) told asked refl) ((word_at s c.lock + by) % 2 ^ 64) refl

exchange : (s : State) (t : ℕ) (c : Call) (from to : ℕ) → core_act c.core ≡ Act.Exchange from to
    → Keeps t c s (exchanged s t c from to)
exchange s t c from to asked h here = elim (cases_eq (word_at s c.lock) from) [
  | inl e ↦ subst (λ (b : Bool). (what : ActResult)
      × Acts t c what s (cond b (with_word (with_call s t (hears c ActResult.Exchanged)) c.lock to) (loaded s t c)))
      (sym (eq-eqb (word_at s c.lock) from e))
      (writes s t c ActResult.Exchanged (Act.Exchange from to) asked h here e tt (λ o. (tt, λ b. refl))
      (leads_by c.core (Act.Exchange from to) (word_at s c.lock) ActResult.Exchanged asked e) to refl)
  | inr ne ↦ subst (λ (b : Bool). (what : ActResult)
      × Acts t c what s (cond b (with_word (with_call s t (hears c ActResult.Exchanged)) c.lock to) (loaded s t c)))
      (sym (ne_eqb (word_at s c.lock) from ne))
      (let told = ActResult.Word (word_at s c.lock) in looks s t c told (Act.Exchange from to) asked h here (refl, ne)
      tt (λ o. (tt, λ b. refl)) (leads_by c.core (Act.Exchange from to) (word_at s c.lock) told asked (refl, ne)) refl)
]

-- SECTIONS

enter : (s : State) (t : ℕ) (c : Call) (key : ℕ) → core_act c.core ≡ Act.Enter key → open_at s (key_of c key) ≡ None
    → lot.Sound (entered s t c key).lot → Keeps t c s (entered s t c key)
enter s t c key asked free sound h here =
    let leads = leads_by c.core (Act.Enter key) (word_at s c.lock) ActResult.Entered asked tt in
    let two : key < 2 = elim leads.1 [
      | inl x ↦ small_key (core_next c.core ActResult.Entered) key _ x
      | inr x ↦ small_key (core_next c.core ActResult.Entered) key _ x
    ] in
    let own : Section = fresh_section (Some t) (key_of c key) in
    own_act s (entered s t c key) t c ActResult.Entered h (record {
      here = here;
      calls = refl;
      kinds = refl;
      wakes = refl;
      holds = refl;
      sizes = refl;
      word = sym (ap (λ y. word_after y ActResult.Entered (word_at s c.lock)) asked);
      words = λ i ne. refl;
      queues = λ i k ne b. refl;
      buckets = refl;
      listed = λ k token e. elim leads.1
          [ inl x ↦ awake_never _ key _ k token _ x e | inr x ↦ awake_never _ key _ k token _ x e ];
    })
    (λ key. refl)
    (subst (λ (y : Act). Gives y (word_at s c.lock) ActResult.Entered) (sym asked) tt) (subst IsOwnAct (sym asked) tt)
    (subst (λ (y : Act). AfterAct (stance c.core) y t (entries s c.lock) (entries (entered s t c key) c.lock))
    (sym asked)
    (comes_at s (entered s t c key) t c.lock (Some own) (stance c.core) key two
    (ap (option_and_then (λ (x : Section). x.thread)) free) refl (λ b. refl)))
    (entered_fits s t c h.lots here key free sound leads.0 leads.1 leads.2
    (others_free c.core (Act.Enter key) asked refl))
    (around_at s (entered s t c key) t (key_of c key) (Some own) (λ b. refl) refl
    (λ x e. ap (λ (y : Section). y.thread) (sym (same_section e))) (λ k e. refl))
    (λ k o e at. elim leads.1 [
      | inl x ↦ absurd (looks_takes (sym x ∙ e))
      | inr x ↦
          let there : open_at (entered s t c key) (key_of c key) ≡ Some o =
          ap (λ (j : ℕ). open_at (entered s t c key) (2 * c.lock + j)) (same_takes (sym x ∙ e)) ∙ at in
          ap (λ (y : Section). passed_of y.phase)
          (sym (same_section (sym (updated_at s.lot.sections (bucket s (key_of c key)) (Some own)) ∙ there)))
    ])

-- a check crosses no section
check_stays : (st : Stance) → act_crossing st (Act.Section section.Check) ≡ crossings.Stays
check_stays Out = refl
check_stays (In zero how) = refl
check_stays (In (suc key) how) = refl
check_stays (Asleep key park) = refl

check : (s : State) (t : ℕ) (c : Call) → core_act c.core ≡ Act.Section section.Check → lot.Sound (checked s t c).lot
    → Keeps t c s (checked s t c)
check s t c asked sound h here =
    let told = ActResult.Word (word_at s c.lock) in
    let leads = leads_by c.core (Act.Section section.Check) (word_at s c.lock) told asked refl in
    let seat = seat_of s h.lots t c (In leads.0 Looks) here leads.1 in
    let at_key : open_at s (key_in c) ≡ Some seat.0 =
    ap (open_at s) (key_is c leads.0 Looks leads.1) ∙ seat.1 in
    let ph : Phase = cond (joins (stance (hears c told).core)) Phase.Valid Phase.Invalid in
    let after : Option Section = option_map {T = Section} (λ x. record x { phase = ph }) (open_at s (key_in c)) in
    let now : after ≡ Some (record seat.0 { phase = ph }) =
    ap (option_map {T = Section} (λ x. record x { phase = ph })) at_key in
    own_act s (checked s t c) t c told h (record {
      here = here;
      calls = refl;
      kinds = refl;
      wakes = refl;
      holds = refl;
      sizes = refl;
      word = sym (ap (λ y. word_after y told (word_at s c.lock)) asked);
      words = λ i ne. refl;
      queues = λ i k ne b. refl;
      buckets = refl;
      listed = λ k token e. elim leads.2
          [ inl x ↦ awake_never _ leads.0 _ k token _ x e | inr x ↦ awake_never _ leads.0 _ k token _ x.1 e ];
    })
    (λ key. refl)
    (subst (λ (y : Act). Gives y (word_at s c.lock) told) (sym asked) refl) (subst IsOwnAct (sym asked) tt)
    (subst (λ (y : Act). AfterAct (stance c.core) y t (entries s c.lock) (entries (checked s t c) c.lock)) (sym asked)
    (subst (λ (x : Crossing). Crossed x t (entries s c.lock) (entries (checked s t c) c.lock))
    (sym (check_stays (stance c.core))) (
      tt,
      entered_still s (checked s t c) (key_in c) after (λ b. refl)
          (ap (option_and_then (λ (x : Section). x.thread)) now
          ∙ sym (ap (option_and_then (λ (x : Section). x.thread)) at_key)),
    )))
    (checked_fits s t c h.lots here leads.0 leads.1 leads.3 sound leads.2 leads.4)
    (around_at s (checked s t c) t (key_in c) after (λ b. refl) refl
    (λ x e. ap (λ (y : Section). y.thread) (sym (same_section (sym now ∙ e))) ∙ seat.2) (λ k e. refl))
    (λ k o e. absurd (elim leads.2 [
      | inl x ↦ (let f : In leads.0 TurnsBack ≡ In k Takes = sym x ∙ e in cc)
      | inr x ↦
          (let f : In leads.0 (Joins x.0) ≡ In k Takes = sym x.1 ∙ e in cc)
    ]))

leave : (s : State) (t : ℕ) (c : Call) → core_act c.core ≡ Act.Section section.Leave → lot.Sound (left s t c).lot
    → Keeps t c s (left s t c)
leave s t c asked sound h here =
    let leads = leads_by c.core (Act.Section section.Leave) (word_at s c.lock) ActResult.Made asked tt in
    own_act s (left s t c) t c ActResult.Made h (record {
      here = here;
      calls = refl;
      kinds = refl;
      wakes = refl;
      holds = refl;
      sizes = refl;
      word = sym (ap (λ y. word_after y ActResult.Made (word_at s c.lock)) asked);
      words = λ i ne. refl;
      queues = λ i k ne b. refl;
      buckets = refl;
      listed = λ k token e. listed_as leads k token e;
    })
    (λ key. refl)
    (subst (λ (y : Act). Gives y (word_at s c.lock) ActResult.Made) (sym asked) tt) (subst IsOwnAct (sym asked) tt)
    (subst (λ (y : Act). AfterAct (stance c.core) y t (entries s c.lock) (entries (left s t c) c.lock)) (sym asked)
    (goes (leaves_from leads)))
    (left_fits s t c h.lots here sound leads)
    (around_at s (left s t c) t (key_in c) None (λ b. refl) refl (λ x e. absurd (none-some x e)) (λ k e. refl))
    (λ k o e at. absurd (leaves_takes leads k e))
  where
    -- it was in a section, and is in none in which it takes
    leaves_from : {b : Stance} {n m : ℕ} → LeavesFor (stance c.core) b n m → (k : ℕ) × (how : Doing)
        × (stance c.core ≡ In k how)
    leaves_from (inl x) = (x.0, TurnsBack, x.1)
    leaves_from (inr (inl x)) = (x.0, Joined x.1, x.2)
    leaves_from (inr (inr x)) = (x.0, Tells x.1, x.2)

    leaves_takes : {b : Stance} {n m : ℕ} → LeavesFor (stance c.core) b n m → (k : ℕ) → b ≡ In k Takes → ⊥
    leaves_takes (inl x) k e = out_takes (sym x.2 ∙ e)
    leaves_takes (inr (inl x)) k e = let f : Asleep x.0 x.1 ≡ In k Takes = sym x.3 ∙ e in cc
    leaves_takes (inr (inr x)) k e = out_takes (sym x.3 ∙ e)

    goes : (k : ℕ) × (how : Doing) × (stance c.core ≡ In k how)
        → AfterAct (stance c.core) (Act.Section section.Leave) t (entries s c.lock) (entries (left s t c) c.lock)
    goes (k, how, from) =
        subst (λ (a : Stance). AfterAct a (Act.Section section.Leave) t (entries s c.lock)
        (entries (left s t c) c.lock)) (sym from)
        (goes_at s (left s t c) t c.lock None k how (small_key c.core k how from) refl
        (λ b. ap (λ (key : ℕ). updated s.lot.sections (bucket s key) None b) (key_is c k how from)))

    listed_as : LeavesFor (stance c.core) (stance (core_next c.core ActResult.Made)) (taken_count c.core)
        (taken_count (core_next c.core ActResult.Made)) → (k : ℕ) (token : ParkToken)
        → stance (core_next c.core ActResult.Made) ≡ Asleep k token → c.spot ≡ spot.Listed
    listed_as (inl x) k token e = never _ k token _ x.2 e
    listed_as (inr (inl x)) k token e = (seat_of s h.lots t c (In x.0 (Joined x.1)) here x.2).5.0
    listed_as (inr (inr x)) k token e = never _ k token _ x.3 e

pub laws : ActsAreSteps
laws = record {
  load = load;
  exchange = exchange;
  add = add;
  spin = spin;
  enter = enter;
  check = check;
  leave = leave;
  begin = λ s t c h may. begins s t c may h;
  end = λ s t c answer asked h here. ends s h t c here answer asked;
}
