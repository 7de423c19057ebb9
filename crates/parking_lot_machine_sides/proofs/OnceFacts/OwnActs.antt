-- An act of a thread and its once alone is a step of the rules, or none, and keeps what holds of the machine.
use Rattle.std.proofs.Common.{◌≡◌, ◌≢◌, ℕ, ◌-◌, ◌^◌, ◌<◌, ◌≤◌, inl, inr, Bool, true, false, cond, ◌==◌, ◌&&◌, List, []}
use Rattle.std.proofs.Common.{◌∷◌, length, Option, Some, None, refl, sym, ap, ◌∙◌, subst, arith, eqb-true}
use Rattle.std.proofs.lemmas.Bool.{cases_eq, ne_eqb}
use Rattle.std.proofs.lemmas.List.{length-set, nil_from_length}
use Rattle.std.proofs.lemmas.List.Sums.{count_by-le-length}
use Rattle.std.proofs.lemmas.Option.{none-some, same_Some}
use Rattle.parking_lot_core_model.specs.Buckets.{slot}
use Rattle.parking_lot_protocol.specs.declared.act.Act.{Act}
use Rattle.parking_lot_protocol.specs.declared.act.Act.TheVariants as act
use Rattle.parking_lot_protocol.specs.declared.act.SectionAct.TheVariants as section
use Rattle.parking_lot_protocol.specs.declared.act.ActResult.{ActResult}
use Rattle.parking_lot_protocol.specs.declared.act.ActResult.TheVariants as seen
use Rattle.parking_lot_protocol.specs.Acts.{Gives, word_after}
use Rattle.parking_lot_rules.specs.Classes.{bit}
use Rattle.parking_lot_rules.specs.declared.once.once_state.OnceState.{OnceState}
use Rattle.parking_lot_rules.specs.declared.once.once_state.OnceState.TheVariants.{New, Poisoned, InProgress, Done}
use Rattle.parking_lot_rules.specs.declared.once.wish.Wish.{Wish}
use Rattle.parking_lot_rules.specs.Once.Once.{Idle, Word, Step, Plain, Alone, Begin, Start, Complete, Refuse, Flag}
use Rattle.parking_lot_rules.specs.Once.Once.{Enter, Check, Retreat, Rest, Return, Finish, Look, Store, Depart, Leave}
use Rattle.parking_lot_rules.specs.Once.Once.{May, written, Class, Inside, Listed, weight, total, number, waits}
use Rattle.parking_lot_rules.proofs.OnceFacts.Soundness.{total-none}
use Rattle.parking_lot_protocol_waits.specs.declared.once.once_phase.OnceAnswer.TheVariants as end
use Rattle.parking_lot_protocol_waits.specs.declared.once.once_phase.OncePhase.{OncePhase}
use Rattle.parking_lot_protocol_waits.specs.declared.once.once_phase.OncePhase.TheVariants.{Asking, Returning, Loads}
use Rattle.parking_lot_protocol_waits.specs.declared.once.once_phase.OncePhase.TheVariants.{Starts, Spins, Parks}
use Rattle.parking_lot_protocol_waits.specs.declared.once.once_phase.OncePhase.TheVariants.{Enters, Checks, Retreats}
use Rattle.parking_lot_protocol_waits.specs.declared.once.once_phase.OncePhase.TheVariants.{Appends, Rests, Sleeps}
use Rattle.parking_lot_protocol_waits.specs.declared.once.once_phase.OncePhase.TheVariants.{Stores, Looks, Scans}
use Rattle.parking_lot_protocol_waits.specs.declared.once.once_phase.OncePhase.TheVariants.{Clears, Leaves, Wakes}
use Rattle.parking_lot_protocol_waits.specs.declared.once.once_phase.OncePhase.TheVariants.{Finishes, Ends, Invalid}
use Rattle.parking_lot_protocol_waits.specs.Once.OnceMoves.{Known, Move, Stays, Makes, Joins, TakesOne, WakesOne}
use Rattle.parking_lot_protocol_waits.specs.Once.OnceMoves.{IsWoken, role, move, seeing, IsMove, IsReady, IsTold, Holds}
use Rattle.parking_lot_protocol_waits.specs.Once.OnceTable.{state_of, is_parked, act_of, next_phase}
use Rattle.parking_lot_protocol_waits.proofs.OnceFacts.OnceAnswering.{goes_on}
use Rattle.parking_lot_protocol_waits.proofs.OnceFacts.OnceFollowing.{follows}
use Rattle.parking_lot_machine_sides.specs.Once.Entries.{list_of}
use Rattle.parking_lot_machine_sides.specs.declared.once.calls.OnceCall.{OnceCall}
use Rattle.parking_lot_machine_sides.specs.Once.OnceActs as does
use Rattle.parking_lot_machine_sides.specs.Once.OnceActs.{shown, told, acted, inside_after}
use Rattle.parking_lot_machine_sides.specs.Once.OnceCalls.{wish_of, ends_well}
use Rattle.parking_lot_machine_sides.specs.Once.OnceFits.{Fits, Sits, GoesOn, Knows, is_in_section, is_the, lies}
use Rattle.parking_lot_machine_sides.specs.Once.OnceFits.{taken_count}
use Rattle.parking_lot_machine_sides.specs.Once.OnceSteps.{IsActOfItsOwn, IsEntry, IsLawful, IsStepOf, given_by}
use Rattle.parking_lot_machine_sides.specs.Once.OnceSteps.{move_by, move_of}
use Rattle.parking_lot_machine_sides.specs.declared.once.open_call.OpenCall.{OpenCall}
use Rattle.parking_lot_machine_sides.specs.Once.Onces.{Onces, word_at, call_at, known_of, role_in, role_at, word_of}
use Rattle.parking_lot_machine_sides.specs.Once.Onces.{bucket_of, inside_at, once_at}
use Rattle.parking_lot_machine_sides.proofs.OnceFacts.Acting.{plays, role_here, shows_word, word_here, word_elsewhere}
use Rattle.parking_lot_rules.proofs.Everybody.{was-all}
use Rattle.parking_lot_machine_sides.proofs.OnceFacts.Listing.{short}
use Rattle.parking_lot_machine_sides.proofs.OnceFacts.Phases.{Led, in_after, leads, leaves, shows}
use Rattle.parking_lot_machine_sides.proofs.OnceFacts.Sections.{after_there, as_many, now_inside, same_bucket}
use Rattle.parking_lot_machine_sides.proofs.OnceFacts.Sections.{stands_in, still_inside}
use Rattle.parking_lot_machine_sides.proofs.OnceFacts.Owning.{One, fits_one, makes_one, not_another, stays_one}

-- THE PHASE

told_so : (p : OncePhase) (n : ℕ) (s : ActResult) → IsActOfItsOwn (act_of p) → Gives (act_of p) n s → IsTold p n s
told_so (Asking wish) n s own g = absurd own
told_so (Returning well) n s own g = absurd own
told_so p n s own g = g

pub holds_so : (us : List ℕ) (p : OncePhase) → length us ≡ taken_count p → Holds us p
holds_so us (Returning well) e = nil_from_length us e
holds_so us (Stores well) e = nil_from_length us e
holds_so us (Looks well) e = nil_from_length us e
holds_so us (Scans well taken) e = e
holds_so us (Clears well taken) e = e
holds_so us (Leaves taken) e = e
holds_so us (Wakes count) e = e
holds_so us p e = tt

own_move : (us queue : List ℕ) (c : OpenCall) (s : ActResult) (p : OncePhase) → IsActOfItsOwn (act_of p)
    → move_by us c (given_by queue s p) p ≡ move (known_of us c) p s
own_move us [] c s (Loads a) own = refl
own_move us (v ∷ vs) c s (Loads a) own = refl
own_move us [] c s (Starts a before parked) own = refl
own_move us (v ∷ vs) c s (Starts a before parked) own = refl
own_move us [] c s (Spins a state) own = refl
own_move us (v ∷ vs) c s (Spins a state) own = refl
own_move us [] c s (Parks a state) own = refl
own_move us (v ∷ vs) c s (Parks a state) own = refl
own_move us [] c s (Enters wish) own = refl
own_move us (v ∷ vs) c s (Enters wish) own = refl
own_move us [] c s (Checks wish) own = refl
own_move us (v ∷ vs) c s (Checks wish) own = refl
own_move us [] c s (Retreats wish) own = refl
own_move us (v ∷ vs) c s (Retreats wish) own = refl
own_move us [] c s (Rests wish) own = refl
own_move us (v ∷ vs) c s (Rests wish) own = refl
own_move us [] c s (Stores well) own = refl
own_move us (v ∷ vs) c s (Stores well) own = refl
own_move us [] c s (Looks well) own = refl
own_move us (v ∷ vs) c s (Looks well) own = refl
own_move us [] c s (Clears well taken) own = refl
own_move us (v ∷ vs) c s (Clears well taken) own = refl
own_move us [] c s (Leaves taken) own = refl
own_move us (v ∷ vs) c s (Leaves taken) own = refl
own_move us queue c s (Asking wish) own = absurd own
own_move us queue c s (Returning well) own = absurd own
own_move us queue c s (Appends wish) own = absurd own
own_move us queue c s (Sleeps wish) own = absurd own
own_move us queue c s (Scans well taken) own = absurd own
own_move us queue c s (Wakes count) own = absurd own
own_move us queue c s Finishes own = absurd own
own_move us queue c s (Ends answer) own = absurd own
own_move us queue c s Invalid own = absurd own

pub goes_so : (call : OnceCall) (before : OnceState) (p : OncePhase) (s : ActResult) (n : ℕ) → GoesOn call before p
    → Gives (act_of p) n s → GoesOn call before (next_phase p s)
goes_so call before p s n (inl e) g = inl (goes_on (Asking (wish_of call)) p s n e g)
goes_so call before p s n (inr e) g = inr (goes_on (Returning (ends_well call)) p s n e.0 g, e.1)

-- WHAT THE RULES ASK OF ALL

pub inside_weighs : (by : Option ℕ) (k : Known) (p : OncePhase) → weight Inside (role by k p) ≡ bit (is_in_section p)
unfolding weight
inside_weighs None k (Sleeps wish) = refl
inside_weighs (Some u) k (Sleeps wish) = refl
inside_weighs by k (Ends (end.Runs before)) = refl
inside_weighs by k (Ends end.Completed) = refl
inside_weighs by k (Ends end.Poisoned) = refl
inside_weighs by k (Ends end.Finished) = refl
inside_weighs by k (Asking wish) = refl
inside_weighs by k (Returning well) = refl
inside_weighs by k (Loads a) = refl
inside_weighs by k (Starts a before parked) = refl
inside_weighs by k (Spins a state) = refl
inside_weighs by k (Parks a state) = refl
inside_weighs by k (Enters wish) = refl
inside_weighs by k (Checks wish) = refl
inside_weighs by k (Retreats wish) = refl
inside_weighs by k (Appends wish) = refl
inside_weighs by k (Rests wish) = refl
inside_weighs by k (Stores well) = refl
inside_weighs by k (Looks well) = refl
inside_weighs by k (Scans well taken) = refl
inside_weighs by k (Clears well taken) = refl
inside_weighs by k (Leaves taken) = refl
inside_weighs by k (Wakes count) = refl
inside_weighs by k Finishes = refl
inside_weighs by k Invalid = refl

idle_inside : weight Inside Idle ≡ 0
unfolding weight
idle_inside = refl

-- where no section is open nobody is inside
pub none_inside : (s : Onces) (i : ℕ) → Fits s → inside_at s i ≡ None → total Inside (once_at s i).roles ≡ 0
none_inside s i fits e = total-none (weight Inside) (once_at s i).roles
    (λ x r at. ap (weight Inside) (was-all (role_at s i) (length s.calls) x r at) ∙ go x (call_at s x) refl)
  where
    by_once : (x : ℕ) (c : OpenCall) → call_at s x ≡ Some c → (b : Bool) → (c.once == i) ≡ b
        → weight Inside (cond b (plays c (list_of s.wakes x)) Idle) ≡ 0
    by_once x c at true same = inside_weighs c.taker (known_of (list_of s.wakes x) c) c.core.phase
        ∙ ap bit ((fits.seated x c at).section ∙ ap (λ (j : ℕ). is_the (inside_at s j) x) (eqb-true c.once i same)
        ∙ ap (λ o. is_the o x) e)
    by_once x c at false same = idle_inside

    go : (x : ℕ) (o : Option OpenCall) → call_at s x ≡ o → weight Inside (role_in i (list_of s.wakes x) (call_at s x))
        ≡ 0
    go x None at = ap (λ o. weight Inside (role_in i (list_of s.wakes x) o)) at ∙ idle_inside
    go x (Some c) at = ap (λ o. weight Inside (role_in i (list_of s.wakes x) o)) at ∙ by_once x c at (c.once == i)
        refl

-- what a step of the rules asks of all threads
abbrev Needs : Plain → (Class → ℕ) → Type 0
Needs (Enter wish) all = all Inside ≡ 0
Needs (Look well) all = all Inside ≡ 0
Needs (Store well taken) all = all Listed ≡ 0
Needs k all = Unit {0}

may_all : (k : Plain) (w : Word) (all : Class → ℕ) → May k w (λ x. 0) → Needs k all → May k w all
may_all (Enter wish) w all may h = h
may_all (Look well) w all may h = h
may_all (Store well taken) w all may h = h
may_all (Begin wish) w all may h = may
may_all (Start force before) w all may h = may
may_all (Complete wish) w all may h = may
may_all (Refuse runs) w all may h = may
may_all (Flag wish) w all may h = may
may_all (Check wish) w all may h = may
may_all (Retreat wish) w all may h = may
may_all (Rest wish) w all may h = may
may_all (Return before well) w all may h = may
may_all (Finish well) w all may h = may
may_all (Depart taken) w all may h = may
may_all Leave w all may h = may

pub written_bit : (k : Plain) (w : Word) → w.parked ≤ 1 → (written k w).parked ≤ 1
written_bit (Flag wish) w le = omega arith
written_bit (Finish well) w le = omega arith
written_bit (Store well taken) w le = omega arith
written_bit (Begin wish) w le = le
written_bit (Start force before) w le = le
written_bit (Complete wish) w le = le
written_bit (Refuse runs) w le = le
written_bit (Enter wish) w le = le
written_bit (Check wish) w le = le
written_bit (Retreat wish) w le = le
written_bit (Rest wish) w le = le
written_bit (Return before well) w le = le
written_bit (Look well) w le = le
written_bit (Depart taken) w le = le
written_bit Leave w le = le

abbrev NeedsOf : Move → (Class → ℕ) → Type 0
NeedsOf Stays all = Unit {0}
NeedsOf (Makes k) all = Needs k all
NeedsOf m all = ⊥

seeing_needs : (wish : Wish) (s : OnceState) (all : Class → ℕ) → NeedsOf (seeing wish s) all
seeing_needs wish Done all = tt
seeing_needs wish New all = tt
seeing_needs wish InProgress all = tt
seeing_needs wish Poisoned all = go wish.force
  where
    go : (b : Bool) → NeedsOf (cond b Stays (Makes (Refuse wish.runs))) all
    go true = tt
    go false = tt

check_needs : (wish : Wish) (b : Bool) (all : Class → ℕ) → NeedsOf (cond b (Makes (Check wish)) Stays) all
check_needs wish true all = tt
check_needs wish false all = tt

needs_so : (k : Known) (p : OncePhase) (s : ActResult) (n : ℕ) (queue : List ℕ) (all : Class → ℕ)
    → IsActOfItsOwn (act_of p) → Gives (act_of p) n s
    → IsEntry (act_of p) (all Inside ≡ 0) → Knows queue p → (queue ≡ [] → all Listed ≡ 0) → NeedsOf (move k p s) all
needs_so k (Loads a) (seen.Word m) n queue all own g free knows empty = seeing_needs a.wish (state_of m) all
needs_so k (Starts a before parked) seen.Exchanged n queue all own g free knows empty = tt
needs_so k (Starts a before parked) (seen.Word m) n queue all own g free knows empty = seeing_needs a.wish (state_of m)
    all
needs_so k (Spins a s) (seen.Spun b) n queue all own g free knows empty = tt
needs_so k (Parks a s) seen.Exchanged n queue all own g free knows empty = tt
needs_so k (Parks a s) (seen.Word m) n queue all own g free knows empty = seeing_needs a.wish (state_of m) all
needs_so k (Enters wish) seen.Entered n queue all own g free knows empty = free
needs_so k (Checks wish) (seen.Word m) n queue all own g free knows empty =
    check_needs wish (waits wish (state_of m) && is_parked m) all
needs_so k (Retreats wish) seen.Made n queue all own g free knows empty = tt
needs_so k (Rests wish) seen.Made n queue all own g free knows empty = tt
needs_so k (Stores well) seen.Exchanged n queue all own g free knows empty = tt
needs_so k (Stores well) (seen.Word m) n queue all own g free knows empty = tt
needs_so k (Looks well) seen.Entered n queue all own g free knows empty = free
needs_so k (Clears well taken) (seen.Stored fair) n queue all own g free knows empty = empty knows
needs_so k (Leaves taken) seen.Made n queue all own g free knows empty = tt
needs_so k (Asking wish) s n queue all own g free knows empty = absurd own
needs_so k (Returning well) s n queue all own g free knows empty = absurd own
needs_so k (Appends wish) s n queue all own g free knows empty = absurd own
needs_so k (Sleeps wish) s n queue all own g free knows empty = absurd own
needs_so k (Scans well taken) s n queue all own g free knows empty = absurd own
needs_so k (Wakes count) s n queue all own g free knows empty = absurd own
needs_so k Finishes s n queue all own g free knows empty = absurd own
needs_so k (Ends answer) s n queue all own g free knows empty = absurd own
needs_so k Invalid s n queue all own g free knows empty = absurd own
needs_so k p s n queue all own g free knows empty = absurd g

-- THE STEP

-- what is kept by a step that is a step of the rules, or none, and answers so
pub record Made (t : ℕ) (c : OpenCall) (m : Move) (s u : Onces) : Type 0 where
  pub step : Option Step
  pub named : IsStepOf (list_of s.wakes t) m step
  pub lawful : IsLawful t c.once step s u
  pub fits : Fits u

-- a number that shows a word of the rules is one of theirs
pub is_number : (n : ℕ) (w : Word) → w.parked ≤ 1 → n ≡ number w → number (word_of n) ≡ n
is_number n w le e = ap (λ x. number (word_of x)) e ∙ ap number (shows_word w le) ∙ sym e

-- other threads are inside as before
insides : (a : Act) (t : ℕ) (inside : Option ℕ) (x : ℕ) → x ≢ t → IsEntry a (inside ≡ None)
    → (a ≡ act.Section section.Leave → is_the inside t ≡ true) → is_the (inside_after a t inside) x ≡ is_the inside x
insides (act.Enter key) t inside x ne free leave = ne_eqb t x (λ e. ne (sym e)) ∙ sym (ap (λ o. is_the o x) free)
insides (act.Section section.Leave) t inside x ne free leave = sym (not_another inside t x ne (leave refl))
insides a t inside x ne free leave = refl

pub leaves_section : (p : OncePhase) → act_of p ≡ act.Section section.Leave → is_in_section p ≡ true
leaves_section (Retreats wish) e = refl
leaves_section (Rests wish) e = refl
leaves_section (Leaves taken) e = refl
leaves_section (Asking wish) e = absurd cc
leaves_section (Returning well) e = absurd cc
leaves_section (Loads a) e = absurd cc
leaves_section (Starts a before parked) e = absurd cc
leaves_section (Spins a state) e = absurd cc
leaves_section (Parks a state) e = absurd cc
leaves_section (Enters wish) e = absurd cc
leaves_section (Checks wish) e = absurd cc
leaves_section (Appends wish) e = absurd cc
leaves_section (Sleeps wish) e = absurd cc
leaves_section (Stores well) e = absurd cc
leaves_section (Looks well) e = absurd cc
leaves_section (Scans well taken) e = absurd cc
leaves_section (Clears well taken) e = absurd cc
leaves_section (Wakes count) e = absurd cc
leaves_section Finishes e = absurd cc
leaves_section (Ends answer) e = absurd cc
leaves_section Invalid e = absurd cc

entry_needs : (a : Act) (X Y : Type 0) → (X → Y) → IsEntry a X → IsEntry a Y
entry_needs (act.Enter key) X Y f x = f x
entry_needs (act.Load) X Y f x = tt
entry_needs a X Y f x = tt

module _ (s : Onces) (t : ℕ) (c : OpenCall) (fits : Fits s) (here : call_at s t ≡ Some c)
    (own : IsActOfItsOwn (act_of c.core.phase)) (free : IsEntry (act_of c.core.phase) (inside_at s c.once ≡ None)) where
  abbrev p : OncePhase
  p = c.core.phase

  abbrev n : ℕ
  n = word_at s c.once

  abbrev given : ActResult
  given = shown (act_of p) n

  abbrev d : OpenCall
  d = told c given

  abbrev u : Onces
  u = acted s t c

  abbrev taken : List ℕ
  taken = list_of s.wakes t

  sits : Sits (length s.words) t c taken (list_of s.waiting c.once) (inside_at s c.once)
  sits = fits.seated t c here

  led : Led (act_of p) p (next_phase p given)
  led = leads p given n own (shows (act_of p) n own)

  pub own_one : One s u t c.once (Some d)
  own_one = record {
    calls = refl;
    wakes = refl;
    onces = length-set s.words c.once (does.written (act_of p) n);
    words = λ j ne. word_elsewhere s.words c.once j (does.written (act_of p) n) ne;
    waiting = λ j ne. refl;
    buckets = as_many s t c;
  }

  its_word : word_at u c.once ≡ does.written (act_of p) n
  its_word = word_here s.words c.once (does.written (act_of p) n) sits.low

  few : length taken < 2 ^ 32 - 1
  few = omega (arith, short t s.wakes, fits.room, count_by-le-length lies s.calls, fits.small)

  bit_low : (once_at s c.once).word.parked ≤ 1
  bit_low = (fits.sound c.once).fits.bit

  followed : IsMove (move (known_of taken c) p given) (known_of taken c) p (next_phase p given) (word_of n)
      (word_after (act_of p) given (number (word_of n))) × IsReady (next_phase p given)
  followed = follows p given (known_of taken c) (word_of n) sits.ready bit_low (holds_so taken p sits.taken) few
      (subst (λ x. IsTold p x given) (sym (fits.words c.once)) (told_so p n given own (shows (act_of p) n own)))

  left_word : word_after (act_of p) given (number (word_of n)) ≡ word_at u c.once
  left_word = ap (word_after (act_of p) given) (fits.words c.once) ∙ leaves (act_of p) n own ∙ sym its_word

  awake : c.taker ≡ None
  awake = sits.awake led.awake

  played : plays c taken ≡ role None (known_of taken c) p
  played = ap (λ by. role by (known_of taken c) p) awake

  plays_next : role_in c.once taken (Some d) ≡ role None (known_of taken c) (next_phase p given)
  plays_next = role_here c.once taken d refl ∙ ap (λ by. role by (known_of taken c) (next_phase p given)) awake

  needed : NeedsOf (move (known_of taken c) p given) (λ x. total x (once_at s c.once).roles)
  needed = needs_so (known_of taken c) p given n (list_of s.waiting c.once) (λ x. total x (once_at s c.once).roles) own
      (shows (act_of p) n own)
      (entry_needs (act_of p) (inside_at s c.once ≡ None) (total Inside (once_at s c.once).roles ≡ 0) (none_inside s c.once fits)
      free)
      sits.knows
      (λ e. sym (fits.sound c.once).listed.count ∙ ap (λ (q : List ℕ). length q) e)

  own_sits : Sits (length u.words) t d taken (list_of s.waiting c.once) (inside_at u c.once)
  own_sits = record {
    low = omega (arith, sits.low, own_one.onces);
    goes = goes_so c.call c.before p given n sits.goes (shows (act_of p) n own);
    ready = followed.1;
    taken = sits.taken ∙ sym led.taken;
    knows = led.knows (list_of s.waiting c.once);
    few = led.few sits.few;
    section = led.section ∙ in_after (act_of p) t (inside_at s c.once) (is_in_section p) sits.section
        ∙ sym (ap (λ o. is_the o t) (now_inside s t c fits.buckets));
    awake = λ e. awake;
  }

  -- other threads are in their buckets as before, and it is in that of its once at most
  others_inside : (x : ℕ) → x ≢ t → (b : ℕ) → is_the (slot u.inside b) x ≡ is_the (slot s.inside b) x
  others_inside x ne b = elim (cases_eq b (bucket_of s c.once)) [
    | inl e ↦ ap (λ (k : ℕ). is_the (slot u.inside k) x) e ∙ ap (λ o. is_the o x) (after_there s t c fits.buckets)
        ∙ insides (act_of p) t (inside_at s c.once) x ne free (λ f. sym sits.section ∙ leaves_section p f)
        ∙ ap (λ (k : ℕ). is_the (slot s.inside k) x) (sym e)
    | inr far ↦ ap (λ o. is_the o x) (still_inside s t c b far)
  ]

  its_bucket : (b : ℕ) → slot u.inside b ≡ Some t → (e : OpenCall) × (Some d ≡ Some e) × (bucket_of u e.once ≡ b)
  its_bucket b at = elim (cases_eq b (bucket_of s c.once)) [
    | inl e ↦ (d, refl, same_bucket s t c c.once ∙ sym e)
    | inr far ↦ (
      d,
      refl,
      same_bucket s t c c.once ∙ stands_in s t c fits here b (sym (still_inside s t c b far) ∙ at),
    )
  ]

  own_fits : (step : Option Step) → IsLawful t c.once step s u → number (word_of (word_at u c.once)) ≡ word_at u c.once
      → Fits u
  own_fits step lawful word = fits_one s u t c (Some d) fits here own_one refl step lawful word
      (λ e is. subst (λ (x : OpenCall). Sits (length u.words) t x taken (list_of u.waiting x.once) (inside_at u x.once))
      (same_Some d e is) own_sits)
      (λ e. absurd (none-some d (sym e)))
      (inl refl)
      others_inside its_bucket
      (omega (arith, ap {B = ℕ} (λ b. cond b 1 0) led.lies))

  by_move : (m : Move) → move (known_of taken c) p given ≡ m → IsMove m (known_of taken c) p (next_phase p given)
      (word_of n) (word_after (act_of p) given (number (word_of n)))
      → NeedsOf m (λ x. total x (once_at s c.once).roles) → Made t c m s u
  by_move Stays e h needs =
      let lawful : IsLawful t c.once None s u = stays_one s u t c (Some d) fits here own_one refl
      (sym (h.0 c.taker) ∙ sym (role_here c.once taken d refl))
      (ap word_of (sym left_word ∙ h.1) ∙ shows_word (word_of n) bit_low) refl in
      record {
        step = None;
        named = refl;
        lawful = lawful;
        fits = own_fits None lawful (is_number (word_at u c.once) (word_of n) bit_low (sym left_word ∙ h.1));
      }
  by_move (Makes k) e h needs =
      let lawful : IsLawful t c.once (Some (Alone k)) s u = makes_one s u t c (Some d) fits here own_one refl k
      (played ∙ h.0.from) (plays_next ∙ h.0.to)
      (may_all k (word_of n) (λ x. total x (once_at s c.once).roles) h.0.may needs)
      (ap word_of (sym left_word ∙ h.0.written)
      ∙ shows_word (written k (word_of n)) (written_bit k (word_of n) bit_low)) refl in
      record {
        step = Some (Alone k);
        named = refl;
        lawful = lawful;
        fits = own_fits (Some (Alone k)) lawful
            (is_number (word_at u c.once) (written k (word_of n)) (written_bit k (word_of n) bit_low)
            (sym left_word ∙ h.0.written));
      }
  by_move (Joins wish) e h needs = absurd needs
  by_move (TakesOne well) e h needs = absurd needs
  by_move WakesOne e h needs = absurd needs
  by_move (IsWoken wish) e h needs = absurd needs

  pub acts_so : Made t c (move_of s t c) s u
  acts_so = subst (λ (m : Move). Made t c m s u) (sym (own_move taken (list_of s.waiting c.once) c given p own))
      (by_move (move (known_of taken c) p given) refl followed.0 needed)
