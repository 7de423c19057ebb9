-- One that has taken waiters wakes the first of them.
use Rattle.std.proofs.Common.{◌≡◌, ◌≢◌, ℕ, ◌-◌, ◌^◌, ◌<◌, ◌≤◌, inl, Bool, true, false, cond, List, [], ◌∷◌, length}
use Rattle.std.proofs.Common.{Some, None, slice_get, slice_set, refl, sym, ap, ◌∙◌, subst, arith}
use Rattle.std.proofs.lemmas.List.Sums.{count_by-le-length}
use Rattle.std.proofs.lemmas.Option.{same_Some}
use Rattle.parking_lot_protocol.specs.declared.act.Act.TheVariants as act
use Rattle.parking_lot_protocol.specs.declared.act.SectionAct.TheVariants as section
use Rattle.parking_lot_protocol.specs.declared.act.ActResult.{ActResult}
use Rattle.parking_lot_protocol.specs.declared.act.ActResult.TheVariants as seen
use Rattle.parking_lot_protocol.specs.Acts.{Gives}
use Rattle.parking_lot_rules.specs.declared.once.wish.Wish.{Wish}
use Rattle.parking_lot_rules.specs.Once.Once.{Role, Idle, Word, Once, Step, Plain, Alone, Begin, Start, Complete}
use Rattle.parking_lot_rules.specs.Once.Once.{Refuse, Flag, Enter, Check, Retreat, Rest, Return, Finish, Look, Store}
use Rattle.parking_lot_rules.specs.Once.Once.{Depart, Leave, Allowed, after, May, written, from, to, Class, Inside}
use Rattle.parking_lot_rules.specs.Once.Once.{Listed, weight, total, number, waits}
use Rattle.parking_lot_protocol_waits.specs.declared.once.once_phase.OncePhase.{OncePhase}
use Rattle.parking_lot_protocol_waits.specs.declared.once.once_phase.OncePhase.TheVariants.{Asking, Returning, Loads}
use Rattle.parking_lot_protocol_waits.specs.declared.once.once_phase.OncePhase.TheVariants.{Starts, Spins, Parks}
use Rattle.parking_lot_protocol_waits.specs.declared.once.once_phase.OncePhase.TheVariants.{Enters, Checks, Retreats}
use Rattle.parking_lot_protocol_waits.specs.declared.once.once_phase.OncePhase.TheVariants.{Appends, Rests, Sleeps}
use Rattle.parking_lot_protocol_waits.specs.declared.once.once_phase.OncePhase.TheVariants.{Stores, Looks, Scans}
use Rattle.parking_lot_protocol_waits.specs.declared.once.once_phase.OncePhase.TheVariants.{Clears, Leaves, Wakes}
use Rattle.parking_lot_protocol_waits.specs.declared.once.once_phase.OncePhase.TheVariants.{Finishes, Ends, Invalid}
use Rattle.parking_lot_protocol_waits.specs.Once.OnceMoves.{Move, WakesOne, role, IsMove, IsReady}
use Rattle.parking_lot_protocol_waits.specs.Once.OnceTable.{act_of, next_phase}
use Rattle.parking_lot_protocol_waits.proofs.OnceFacts.OnceFollowing.{follows}
use Rattle.parking_lot_machine_sides.specs.Once.Entries.{list_of}
use Rattle.parking_lot_machine_sides.specs.Once.OnceActs.{shown, told}
use Rattle.parking_lot_machine_sides.specs.Once.OnceFits.{Fits, Sits, Knows, is_in_section, is_listed, is_sleeping}
use Rattle.parking_lot_machine_sides.specs.Once.OnceFits.{lies, taken_count, rounds_of}
use Rattle.parking_lot_machine_sides.specs.Once.OnceSteps.{IsLawful, given_by, move_by, move_of}
use Rattle.parking_lot_machine_sides.specs.declared.once.open_call.OpenCall.{OpenCall}
use Rattle.parking_lot_machine_sides.specs.Once.Onces.{Onces, word_at, call_at, known_of, word_of, once_at, inside_at}
use Rattle.parking_lot_machine_sides.proofs.OnceFacts.Acting.{plays, role_now, same_once}
use Rattle.parking_lot_machine_sides.proofs.OnceFacts.Listing.{short}
use Rattle.std.proofs.Common.{remove, nat_lt}
use Rattle.std.proofs.lemmas.Bool.{ltb-true, ltb-false}
use Rattle.std.specs.Option.{option_map}
use Rattle.parking_lot_rules.specs.Once.Once as rules
use Rattle.parking_lot_rules.specs.Once.Once.{Wake}
use Rattle.parking_lot_rules.proofs.OnceFacts.Following.{wakers_can_go_on}
use Rattle.parking_lot_protocol_waits.specs.Once.OnceTable.{begins, wakes}
use Rattle.parking_lot_machine_sides.specs.Once.OnceActs.{thread_in, woken, woke_at}
use Rattle.parking_lot_machine_sides.proofs.OnceFacts.Listing.{IsFirst, length_out, out_other, out_same}
use Rattle.parking_lot_machine_sides.proofs.OnceFacts.OwnActs.{Made, goes_so}
use Rattle.parking_lot_machine_sides.proofs.OnceFacts.Pairing.{Two, fits_two, roles_second, two_beyond}
use Rattle.parking_lot_machine_sides.proofs.OnceFacts.Playing.{taken_so, who_plays}

wakes_count : (n : ℕ) → taken_count (wakes n) ≡ n
wakes_count n = go (nat_lt 0 n) refl
  where
    go : (b : Bool) → nat_lt 0 n ≡ b → taken_count (cond b (Wakes n) Finishes) ≡ n
    go true e = refl
    go false e = omega (arith, ltb-false 0 n e)

wakes_know : (queue : List ℕ) (n : ℕ) → Knows queue (wakes n)
wakes_know queue n = go (nat_lt 0 n) refl
  where
    go : (b : Bool) → nat_lt 0 n ≡ b → Knows queue (cond b (Wakes n) Finishes)
    go true e = ltb-true 0 n e
    go false e = tt

either : (P : OncePhase → Type 0) (b : Bool) (x y : OncePhase) → P x → P y → P (cond b x y)
either P true x y p q = p
either P false x y p q = q

wakes_few : (n : ℕ) → rounds_of (wakes n) ≤ 10
wakes_few n = either (λ p. rounds_of p ≤ 10) (nat_lt 0 n) _ _ (omega arith) (omega arith)

wakes_outside : (n : ℕ) → is_in_section (wakes n) ≡ false
wakes_outside n = either (λ p. is_in_section p ≡ false) (nat_lt 0 n) _ _ refl refl

wakes_away : (n : ℕ) → is_listed (wakes n) ≡ false
wakes_away n = either (λ p. is_listed p ≡ false) (nat_lt 0 n) _ _ refl refl

not_idle : (wish : Wish) (t : ℕ) → rules.Taken wish t ≢ Idle
not_idle wish t e = cc

asleep_apart : (count : ℕ) (wish : Wish) → Wakes count ≡ Sleeps wish → ⊥
asleep_apart count wish e = cc

pub wakes_is : (p : OncePhase) → act_of p ≡ act.Section section.Wake → (count : ℕ) × (p ≡ Wakes count)
wakes_is (Wakes count) e = (count, refl)
wakes_is (Asking wish) e = absurd cc
wakes_is (Returning well) e = absurd cc
wakes_is (Loads a) e = absurd cc
wakes_is (Starts a before parked) e = absurd cc
wakes_is (Spins a state) e = absurd cc
wakes_is (Parks a state) e = absurd cc
wakes_is (Enters wish) e = absurd cc
wakes_is (Checks wish) e = absurd cc
wakes_is (Retreats wish) e = absurd cc
wakes_is (Appends wish) e = absurd cc
wakes_is (Rests wish) e = absurd cc
wakes_is (Sleeps wish) e = absurd cc
wakes_is (Stores well) e = absurd cc
wakes_is (Looks well) e = absurd cc
wakes_is (Scans well taken) e = absurd cc
wakes_is (Clears well taken) e = absurd cc
wakes_is (Leaves taken) e = absurd cc
wakes_is Finishes e = absurd cc
wakes_is (Ends answer) e = absurd cc
wakes_is Invalid e = absurd cc

module _ (s : Onces) (t : ℕ) (c : OpenCall) (fits : Fits s) (here : call_at s t ≡ Some c) (count : ℕ)
    (e : c.core.phase ≡ Wakes count) where
  abbrev us : List ℕ
  us = list_of s.wakes t

  abbrev queue : List ℕ
  queue = list_of s.waiting c.once

  sits : Sits (length s.words) t c us queue (inside_at s c.once)
  sits = fits.seated t c here

  -- there is somebody
  pub somebody : us ≡ [] → ⊥
  somebody none = omega (
    arith,
    subst (Knows queue) e sits.knows,
    ap taken_count e,
    sits.taken,
    ap (λ (vs : List ℕ). length vs) none,
  )

  module _ (n : ℕ) (first : IsFirst t s.wakes n) where
    abbrev v : ℕ
    v = thread_in s.wakes n

    abbrev rest : List ℕ
    rest = list_of (remove s.wakes n) t

    stands_first : us ≡ v ∷ rest
    stands_first = out_same t s.wakes n first

    awake : c.taker ≡ None
    awake = sits.awake (ap is_sleeping e)

    waking : plays c us ≡ rules.Wakes (v ∷ rest)
    waking = ap (role c.taker (known_of us c)) e ∙ ap (λ vs. rules.Wakes vs) stands_first

    found : (wish : Wish) × (slice_get (once_at s c.once).roles v ≡ Some (rules.Taken wish t))
    found = (wakers_can_go_on (once_at s c.once) (fits.sound c.once)).wakes t v rest
        (role_now s t c here ∙ ap Some waking)

    abbrev wish : Wish
    wish = found.0

    sleeper : (b : OpenCall) × (call_at s v ≡ Some b) × (b.once ≡ c.once)
        × (plays b (list_of s.wakes v) ≡ rules.Taken wish t)
    sleeper = who_plays s c.once v (rules.Taken wish t) found.1 (not_idle wish t)

    abbrev b : OpenCall
    b = sleeper.0

    asleep : b.core.phase ≡ Sleeps wish
    asleep = taken_so b.taker (known_of (list_of s.wakes v) b) b.core.phase wish t sleeper.3

    apart : v ≢ t
    apart eq = asleep_apart count wish
        (sym e ∙ ap (λ (x : OpenCall). x.core.phase) (same_Some c b (sym here ∙ ap (call_at s) (sym eq) ∙ sleeper.1))
        ∙ asleep)

    abbrev d : OpenCall
    d = told c seen.Made

    abbrev f : OpenCall
    f = woken b

    abbrev u : Onces
    u = woke_at s t c n v

    next : d.core.phase ≡ wakes (count - 1)
    next = ap (λ p. next_phase p seen.Made) e

    wakened : f.core.phase ≡ Loads (begins wish)
    wakened = ap (λ p. next_phase p (seen.Woken (record { 0 = 0 }))) asleep

    few : length us < 2 ^ 32 - 1
    few = omega (arith, short t s.wakes, fits.room, count_by-le-length lies s.calls, fits.small)

    followed : IsMove WakesOne (known_of us c) (Wakes count) (wakes (count - 1)) (word_of (word_at s c.once))
        (number (word_of (word_at s c.once))) × IsReady (wakes (count - 1))
    followed = follows (Wakes count) seen.Made (known_of us c) (word_of (word_at s c.once)) tt
        (fits.sound c.once).fits.bit (sits.taken ∙ ap taken_count e) few tt

    two : Two s u t v c.once d f
    two = record {
      calls = ap (λ o. slice_set (slice_set s.calls v (option_map woken o)) t (Some d)) sleeper.1;
      words = refl;
      waiting = λ j ne. refl;
      wakes = λ x ne. out_other t s.wakes n x first ne;
      inside = refl;
    }

    first_is : plays d rest ≡ rules.Wakes rest
    first_is = ap (λ by. role by (known_of rest d) d.core.phase) awake ∙ ap (role None (known_of rest d)) next
        ∙ (followed.0 v rest stands_first).1

    second_is : plays f (list_of s.wakes v) ≡ rules.Seeks wish
    second_is = ap (role None (known_of (list_of s.wakes v) f)) wakened

    lawful : IsLawful t c.once (Some (Wake v rest wish)) s u
    lawful = record {
      here = (
        (role_now s t c here ∙ ap Some waking, found.1),
        same_once _ _ _ _ _ _ refl
            (roles_second s u t v c b d f fits here sleeper.1 apart sleeper.2 refl sleeper.2 two (rules.Wakes rest)
            (rules.Seeks wish) first_is second_is) refl,
      );
      there = two_beyond s u t v c b d f fits here sleeper.1 apart sleeper.2 refl sleeper.2 two;
    }

    first_sits : Sits (length s.words) t d rest queue (inside_at s c.once)
    first_sits = record {
      low = sits.low;
      goes = goes_so c.call c.before c.core.phase seen.Made 0 sits.goes
          (subst (λ p. Gives (act_of p) 0 seen.Made) (sym e) tt);
      ready = subst IsReady (sym next) followed.1;
      taken = omega (
        arith,
        ap (λ (vs : List ℕ). length vs) stands_first,
        sits.taken,
        ap taken_count e,
        ap taken_count next,
        wakes_count (count - 1),
      );
      knows = subst (Knows queue) (sym next) (wakes_know queue (count - 1));
      few = subst (λ p. rounds_of p ≤ 10) (sym next) (wakes_few (count - 1));
      section = ap is_in_section next ∙ wakes_outside (count - 1) ∙ sym (ap is_in_section e) ∙ sits.section;
      awake = λ up. awake;
    }

    sits_there : Sits (length s.words) v b (list_of s.wakes v) (list_of s.waiting b.once) (inside_at s b.once)
    sits_there = fits.seated v b sleeper.1

    second_sits : Sits (length s.words) v f (list_of u.wakes v) (list_of s.waiting b.once) (inside_at s b.once)
    second_sits = record {
      low = sits_there.low;
      goes = goes_so b.call b.before b.core.phase (seen.Woken (record { 0 = 0 })) 0 sits_there.goes
          (subst (λ p. Gives (act_of p) 0 (seen.Woken (record { 0 = 0 }))) (sym asleep) tt);
      ready = subst IsReady (sym wakened) tt;
      taken = ap (λ (vs : List ℕ). length vs) (out_other t s.wakes n v first apart) ∙ sits_there.taken
          ∙ ap taken_count asleep ∙ sym (ap taken_count wakened);
      knows = subst (Knows (list_of s.waiting b.once)) (sym wakened) tt;
      few = subst (λ p. rounds_of p ≤ 10) (sym wakened) (omega arith);
      section = ap is_in_section wakened ∙ sym (ap is_in_section asleep) ∙ sits_there.section;
      awake = λ up. refl;
    }

    woken_fits : Fits u
    woken_fits = fits_two s u t v c b d f fits here sleeper.1 apart sleeper.2 refl sleeper.2 two
        (Some (Wake v rest wish)) lawful first_sits second_sits
        (inl refl)
        (omega (
          arith,
          length_out t s.wakes n first,
          ap {B = ℕ} (λ p. cond (is_listed p) 1 0) e,
          ap {B = ℕ} (λ p. cond (is_listed p) 1 0) next,
          ap {B = ℕ} (λ b. cond b 1 0) (wakes_away (count - 1)),
          ap {B = ℕ} (λ p. cond (is_listed p) 1 0) asleep,
          ap {B = ℕ} (λ p. cond (is_listed p) 1 0) wakened,
        ))

    move_on : (q : List ℕ) (x : ActResult) → move_by us c (given_by q x (Wakes count)) (Wakes count) ≡ WakesOne
    move_on [] x = refl
    move_on (y ∷ ys) x = refl

    pub wakes_one : Made t c (move_of s t c) s u
    wakes_one = subst (λ (p : OncePhase). Made t c
        (move_by us c (given_by queue (shown (act_of c.core.phase) (word_at s c.once)) p) p) s u) (sym e)
        (subst (λ (m : Move). Made t c m s u) (sym (move_on queue (shown (act_of c.core.phase) (word_at s c.once))))
        (record {
          step = Some (Wake v rest wish);
          named = (v, rest, wish, refl);
          lawful = lawful;
          fits = woken_fits;
        }))

    -- whom it wakes
    pub whom : (b : OpenCall) × (wish : Wish) × (call_at s v ≡ Some b) × (b.core.phase ≡ Sleeps wish) × (v ≢ t)
    whom = (b, wish, sleeper.1, asleep, apart)
