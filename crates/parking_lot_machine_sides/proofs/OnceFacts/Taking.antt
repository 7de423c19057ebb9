-- One that goes through the list takes the first of it.
use Rattle.std.proofs.Common.{◌≡◌, ◌≢◌, ℕ, ◌-◌, ◌^◌, ◌<◌, ◌≤◌, inr, Bool, true, false, cond, List, [], ◌∷◌, length}
use Rattle.std.proofs.Common.{Some, None, slice_get, slice_set, refl, sym, ap, ◌∙◌, subst, arith}
use Rattle.std.proofs.lemmas.List.Sums.{count_by-le-length}
use Rattle.std.proofs.lemmas.Option.{same_Some}
use Rattle.parking_lot_protocol.specs.declared.act.ActResult.{ActResult}
use Rattle.parking_lot_protocol.specs.declared.act.ActResult.TheVariants as seen
use Rattle.parking_lot_protocol.specs.Acts.{Gives}
use Rattle.parking_lot_rules.specs.declared.once.wish.Wish.{Wish}
use Rattle.parking_lot_rules.specs.Once.Once.{Role, Idle, Word, Once, Step, Plain, Alone, Begin, Start, Complete}
use Rattle.parking_lot_rules.specs.Once.Once.{Refuse, Flag, Enter, Check, Retreat, Rest, Return, Finish, Look, Store}
use Rattle.parking_lot_rules.specs.Once.Once.{Depart, Leave, Allowed, after, May, written, from, to, Class, Inside}
use Rattle.parking_lot_rules.specs.Once.Once.{Listed, weight, total, number, waits}
use Rattle.parking_lot_protocol_waits.specs.declared.once.once_phase.OncePhase.{OncePhase}
use Rattle.parking_lot_protocol_waits.specs.declared.once.once_phase.OncePhase.TheVariants.{Sleeps, Scans}
use Rattle.parking_lot_protocol_waits.specs.Once.OnceMoves.{TakesOne, role, IsMove, IsReady, Holds}
use Rattle.parking_lot_protocol_waits.specs.Once.OnceTable.{act_of, next_phase}
use Rattle.parking_lot_protocol_waits.proofs.OnceFacts.OnceFollowing.{follows}
use Rattle.parking_lot_machine_sides.specs.Once.Entries.{list_of}
use Rattle.parking_lot_machine_sides.specs.Once.OnceActs.{shown, told}
use Rattle.parking_lot_machine_sides.specs.Once.OnceFits.{Fits, Sits, Knows, is_in_section, is_listed, is_sleeping}
use Rattle.parking_lot_machine_sides.specs.Once.OnceFits.{lies, taken_count, rounds_of}
use Rattle.parking_lot_machine_sides.specs.Once.OnceSteps.{IsLawful, given_by, move_by, move_of}
use Rattle.parking_lot_machine_sides.specs.declared.once.open_call.OpenCall.{OpenCall}
use Rattle.parking_lot_machine_sides.specs.Once.Onces.{Onces, word_at, call_at, known_of, word_of, once_at, inside_at}
use Rattle.parking_lot_machine_sides.proofs.OnceFacts.Acting.{plays, role_now, same_once}
use Rattle.parking_lot_machine_sides.proofs.OnceFacts.Listing.{short}
use Rattle.std.proofs.Common.{◌++◌, remove}
use Rattle.std.specs.Option.{option_map}
use Rattle.parking_lot_rules.specs.Once.Once as rules
use Rattle.parking_lot_rules.specs.Once.Once.{Take}
use Rattle.parking_lot_rules.proofs.OnceFacts.Following.{wakers_can_go_on}
use Rattle.parking_lot_protocol_waits.specs.Once.OnceTable.{scans, with_taken}
use Rattle.parking_lot_machine_sides.specs.Once.OnceActs.{is_left, off_list, thread_in, took_at}
use Rattle.parking_lot_machine_sides.proofs.OnceFacts.Listing.{IsFirst, length_out, length_push, none_left, out_other}
use Rattle.parking_lot_machine_sides.proofs.OnceFacts.Listing.{out_same, push_other, push_same}
use Rattle.parking_lot_machine_sides.proofs.OnceFacts.OwnActs.{Made, goes_so}
use Rattle.parking_lot_machine_sides.proofs.OnceFacts.Pairing.{Two, fits_two, roles_first, two_beyond}
use Rattle.parking_lot_machine_sides.proofs.OnceFacts.Playing.{sleeps_so, who_plays}

scans_count : (us : List ℕ) (well left : Bool) (n : ℕ) → Holds us (scans well n left)
    → length us ≡ taken_count (scans well n left)
scans_count us well true n h = h
scans_count us well false n h = h

scans_know : (queue : List ℕ) (well left : Bool) (n : ℕ) → (left ≡ false → queue ≡ []) → Knows queue (scans well n left)
scans_know queue well true n h = tt
scans_know queue well false n h = h refl

scans_few : (well left : Bool) (n : ℕ) → rounds_of (scans well n left) ≤ 10
scans_few well true n = omega arith
scans_few well false n = omega arith

scans_inside : (well left : Bool) (n : ℕ) → is_in_section (scans well n left) ≡ true
scans_inside well true n = refl
scans_inside well false n = refl

scans_away : (well left : Bool) (n : ℕ) → is_listed (scans well n left) ≡ false
scans_away well true n = refl
scans_away well false n = refl

not_idle : (wish : Wish) → rules.Sleeps wish ≢ Idle
not_idle wish e = cc

asleep_apart : (well : Bool) (taken : ℕ) (wish : Wish) → Scans well taken ≡ Sleeps wish → ⊥
asleep_apart well taken wish e = cc

module _ (s : Onces) (t : ℕ) (c : OpenCall) (fits : Fits s) (here : call_at s t ≡ Some c) (well : Bool) (taken : ℕ)
    (e : c.core.phase ≡ Scans well taken) (n : ℕ) (first : IsFirst c.once s.waiting n) where
  abbrev us : List ℕ
  us = list_of s.wakes t

  abbrev queue : List ℕ
  queue = list_of s.waiting c.once

  abbrev v : ℕ
  v = thread_in s.waiting n

  abbrev rest : List ℕ
  rest = list_of (remove s.waiting n) c.once

  sits : Sits (length s.words) t c us queue (inside_at s c.once)
  sits = fits.seated t c here

  stands_first : queue ≡ v ∷ rest
  stands_first = out_same c.once s.waiting n first

  awake : c.taker ≡ None
  awake = sits.awake (ap is_sleeping e)

  scanning : plays c us ≡ rules.Scans well us
  scanning = ap (role c.taker (known_of us c)) e

  found : (wish : Wish) × (slice_get (once_at s c.once).roles v ≡ Some (rules.Sleeps wish))
  found = (wakers_can_go_on (once_at s c.once) (fits.sound c.once)).takes t well us v
      (role_now s t c here ∙ ap Some scanning) (ap (λ (q : List ℕ). slice_get q 0) stands_first)

  abbrev wish : Wish
  wish = found.0

  sleeper : (b : OpenCall) × (call_at s v ≡ Some b) × (b.once ≡ c.once)
      × (plays b (list_of s.wakes v) ≡ rules.Sleeps wish)
  sleeper = who_plays s c.once v (rules.Sleeps wish) found.1 (not_idle wish)

  abbrev b : OpenCall
  b = sleeper.0

  asleep : (b.core.phase ≡ Sleeps wish) × (b.taker ≡ None)
  asleep = sleeps_so b.taker (known_of (list_of s.wakes v) b) b.core.phase wish sleeper.3

  apart : v ≢ t
  apart eq = asleep_apart well taken wish
      (sym e ∙ ap (λ (x : OpenCall). x.core.phase) (same_Some c b (sym here ∙ ap (call_at s) (sym eq) ∙ sleeper.1))
      ∙ asleep.0)

  abbrev left : Bool
  left = is_left (remove s.waiting n) c.once

  abbrev given : ActResult
  given = seen.Took (Some (record { 0 = 0 })) left

  abbrev d : OpenCall
  d = told c given

  abbrev f : OpenCall
  f = off_list t b

  abbrev u : Onces
  u = took_at s t c n v

  abbrev more : ℕ
  more = with_taken taken true

  next : d.core.phase ≡ scans well more left
  next = ap (λ p. next_phase p given) e

  few : length us < 2 ^ 32 - 1
  few = omega (arith, short t s.wakes, fits.room, count_by-le-length lies s.calls, fits.small)

  followed : IsMove (TakesOne well) (known_of us c) (Scans well taken) (scans well more left)
      (word_of (word_at s c.once)) (number (word_of (word_at s c.once))) × IsReady (scans well more left)
  followed = follows (Scans well taken) given (known_of us c) (word_of (word_at s c.once)) tt
      (fits.sound c.once).fits.bit (sits.taken ∙ ap taken_count e) few tt

  two : Two s u t v c.once d f
  two = record {
    calls = ap (λ o. slice_set (slice_set s.calls v (option_map (off_list t) o)) t (Some d)) sleeper.1;
    words = refl;
    waiting = λ j ne. out_other c.once s.waiting n j first ne;
    wakes = λ x ne. push_other s.wakes t v x ne;
    inside = refl;
  }

  now_taken : list_of u.wakes t ≡ us ++ v ∷ []
  now_taken = push_same s.wakes t v

  first_is : plays d (list_of u.wakes t) ≡ rules.Scans well (us ++ v ∷ [])
  first_is = ap (plays d) now_taken ∙ ap (λ by. role by (known_of (us ++ v ∷ []) d) d.core.phase) awake
      ∙ ap (role None (known_of (us ++ v ∷ []) d)) next ∙ (followed.0 v).1

  second_is : plays f (list_of s.wakes v) ≡ rules.Taken wish t
  second_is = ap (role (Some t) (known_of (list_of s.wakes v) f)) asleep.0

  lawful : IsLawful t c.once (Some (Take well us v wish)) s u
  lawful = record {
    here = (
      (role_now s t c here ∙ ap Some scanning, ap (λ (q : List ℕ). slice_get q 0) stands_first, found.1),
      same_once _ _ _ _ _ _ refl
          (roles_first s u t v c b d f fits here sleeper.1 apart sleeper.2 refl sleeper.2 two
          (rules.Scans well (us ++ v ∷ [])) (rules.Taken wish t) first_is second_is)
          (sym (ap (λ (q : List ℕ). remove q 0) stands_first)),
    );
    there = two_beyond s u t v c b d f fits here sleeper.1 apart sleeper.2 refl sleeper.2 two;
  }

  first_sits : Sits (length s.words) t d (list_of u.wakes t) rest (inside_at s c.once)
  first_sits = record {
    low = sits.low;
    goes = goes_so c.call c.before c.core.phase given 0 sits.goes (subst (λ p. Gives (act_of p) 0 given) (sym e) tt);
    ready = subst IsReady (sym next) followed.1;
    taken = ap (λ (vs : List ℕ). length vs) now_taken ∙ scans_count (us ++ v ∷ []) well left more (followed.0 v).3
        ∙ sym (ap taken_count next);
    knows = subst (Knows rest) (sym next) (scans_know rest well left more (none_left c.once (remove s.waiting n)));
    few = subst (λ p. rounds_of p ≤ 10) (sym next) (scans_few well left more);
    section = ap is_in_section next ∙ scans_inside well left more ∙ sym (ap is_in_section e) ∙ sits.section;
    awake = λ up. awake;
  }

  sits_there : Sits (length s.words) v b (list_of s.wakes v) (list_of s.waiting b.once) (inside_at s b.once)
  sits_there = fits.seated v b sleeper.1

  second_sits : Sits (length s.words) v f (list_of u.wakes v) (list_of u.waiting b.once) (inside_at s b.once)
  second_sits = record {
    low = sits_there.low;
    goes = sits_there.goes;
    ready = sits_there.ready;
    taken = ap (λ (vs : List ℕ). length vs) (push_other s.wakes t v v apart) ∙ sits_there.taken;
    knows = subst (Knows (list_of u.waiting b.once)) (sym asleep.0) tt;
    few = sits_there.few;
    section = sits_there.section;
    awake = λ up. absurd (let no : true ≡ false = sym (ap is_sleeping asleep.0) ∙ up in cc);
  }

  taken_fits : Fits u
  taken_fits = fits_two s u t v c b d f fits here sleeper.1 apart sleeper.2 refl sleeper.2 two
      (Some (Take well us v wish)) lawful first_sits second_sits
      (inr (sym sits.section ∙ ap is_in_section e))
      (omega (
        arith,
        length_out c.once s.waiting n first,
        length_push s.wakes t v,
        ap {B = ℕ} (λ p. cond (is_listed p) 1 0) e,
        ap {B = ℕ} (λ p. cond (is_listed p) 1 0) next,
        ap {B = ℕ} (λ b. cond b 1 0) (scans_away well left more),
        ap {B = ℕ} (λ p. cond (is_listed p) 1 0) asleep.0,
      ))

  takes_by : Made t c (TakesOne well) s u
  takes_by = record { step = Some (Take well us v wish); named = (v, wish, refl); lawful = lawful; fits = taken_fits }

  pub takes_one : Made t c (move_of s t c) s u
  takes_one = subst (λ (p : OncePhase). Made t c
      (move_by us c (given_by queue (shown (act_of c.core.phase) (word_at s c.once)) p) p) s u) (sym e)
      (subst (λ (vs : List ℕ). Made t c
      (move_by us c (given_by vs (shown (act_of c.core.phase) (word_at s c.once)) (Scans well taken))
      (Scans well taken)) s u) (sym stands_first) takes_by)

  -- whom it takes
  pub whom : (b : OpenCall) × (call_at s v ≡ Some b) × (v ≢ t)
  whom = (b, sleeper.1, apart)
