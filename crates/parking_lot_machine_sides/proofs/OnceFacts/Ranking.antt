-- Each step of the machine is paid for by the steps that are left.
use Rattle.std.proofs.Common.{◌≡◌, ℕ, ◌+◌, ◌-◌, ◌<◌, ◌≤◌, Bool, true, false, List, [], ◌∷◌, length, Option, Some, None}
use Rattle.std.proofs.Common.{is_none, slice_set, refl, sym, ap, ◌∙◌, subst, arith, eq-eqb}
use Rattle.std.proofs.lemmas.List.{length-set}
use Rattle.std.proofs.lemmas.List.Sums.{count_by-le-length}
use Rattle.parking_lot_protocol.specs.declared.act.Act.{Act}
use Rattle.parking_lot_protocol.specs.declared.act.Act.TheVariants as act
use Rattle.parking_lot_protocol.specs.declared.act.SectionAct.TheVariants as section
use Rattle.parking_lot_protocol.specs.declared.act.ActResult.{ActResult}
use Rattle.parking_lot_protocol.specs.declared.act.ActResult.TheVariants as seen
use Rattle.parking_lot_rules.specs.declared.once.once_state.OnceState.{OnceState}
use Rattle.parking_lot_rules.specs.declared.once.wish.Wish.{Wish}
use Rattle.parking_lot_rules.specs.Once.Once.{from, to}
use Rattle.parking_lot_protocol_waits.specs.declared.once.once_phase.OnceAnswer.TheVariants as end
use Rattle.parking_lot_protocol_waits.specs.declared.once.once_phase.OncePhase.{OncePhase}
use Rattle.parking_lot_protocol_waits.specs.declared.once.once_phase.OncePhase.TheVariants.{Asking, Returning, Loads}
use Rattle.parking_lot_protocol_waits.specs.declared.once.once_phase.OncePhase.TheVariants.{Starts, Spins, Parks}
use Rattle.parking_lot_protocol_waits.specs.declared.once.once_phase.OncePhase.TheVariants.{Enters, Checks, Retreats}
use Rattle.parking_lot_protocol_waits.specs.declared.once.once_phase.OncePhase.TheVariants.{Appends, Rests, Sleeps}
use Rattle.parking_lot_protocol_waits.specs.declared.once.once_phase.OncePhase.TheVariants.{Stores, Looks, Scans}
use Rattle.parking_lot_protocol_waits.specs.declared.once.once_phase.OncePhase.TheVariants.{Clears, Leaves, Wakes}
use Rattle.parking_lot_protocol_waits.specs.declared.once.once_phase.OncePhase.TheVariants.{Finishes, Ends, Invalid}
use Rattle.parking_lot_protocol_waits.specs.Once.OnceTable.{act_of, next_phase}
use Rattle.parking_lot_machine_sides.specs.Once.Entries.{list_of}
use Rattle.parking_lot_machine_sides.specs.declared.once.calls.OnceCall.{OnceCall}
use Rattle.parking_lot_machine_sides.specs.Once.OnceActs as does
use Rattle.parking_lot_machine_sides.specs.Once.OnceActs.{shown, told, acted, inside_after}
use Rattle.parking_lot_machine_sides.specs.Once.OnceCalls.{wish_of, ends_well}
use Rattle.parking_lot_machine_sides.specs.Once.OnceFits.{Fits, Sits, Knows, is_in_section, is_the, lies}
use Rattle.parking_lot_machine_sides.specs.Once.OnceSteps.{IsActOfItsOwn, IsEntry}
use Rattle.parking_lot_machine_sides.specs.declared.once.open_call.OpenCall.{OpenCall}
use Rattle.parking_lot_machine_sides.specs.Once.Onces.{Onces, word_at, call_in, call_at, inside_at}
use Rattle.parking_lot_machine_sides.proofs.OnceFacts.Sections.{now_inside}
use Rattle.parking_lot_machine_sides.proofs.OnceFacts.Acting.{word_here, within}
use Rattle.parking_lot_machine_sides.proofs.OnceFacts.Listing.{short}
use Rattle.parking_lot_machine_sides.proofs.OnceFacts.Owning.{the_one}
use Rattle.std.proofs.Common.{◌*◌, not, remove, sum_by, suc}
use Rattle.std.proofs.lemmas.List.Sums.{sum_by-cons}
use Rattle.std.proofs.Math.Nat.{suc-mul}
use Rattle.std.specs.Option.{option_map, option_map_or}
use Rattle.parking_lot_protocol_waits.specs.Once.OnceTable.{begins}
use Rattle.parking_lot_machine_sides.specs.Once.OnceActs.{appended, begun, call_for, can_move, is_possible, off_list}
use Rattle.parking_lot_machine_sides.specs.Once.OnceActs.{ran, thread_in, took_at, with_call, woke_at, woken}
use Rattle.parking_lot_machine_sides.specs.Once.OnceRanks.{AnyMayBeStepped, Costs, FewAreLeft, Pays, Sees, Unseen}
use Rattle.parking_lot_machine_sides.specs.Once.OnceRanks.{far_steps, in_hand, is_shut_to, left, most, own_steps}
use Rattle.parking_lot_machine_sides.specs.Once.OnceRanks.{phase_steps, view_of}
use Rattle.parking_lot_machine_sides.proofs.OnceFacts.Acting.{call_here}
use Rattle.parking_lot_machine_sides.proofs.OnceFacts.Beginning.{May}
use Rattle.parking_lot_machine_sides.proofs.OnceFacts.Falling.{IsOpen, IsStuck, falls, few_steps, finds_falls}
use Rattle.parking_lot_machine_sides.proofs.OnceFacts.Falling.{runs_less, sees_less, stuck_same, takes_falls, wakes_le}
use Rattle.parking_lot_machine_sides.proofs.OnceFacts.Listing.{IsFirst, out_same}
use Rattle.parking_lot_machine_sides.proofs.OnceFacts.OwnActs.{leaves_section}
use Rattle.parking_lot_machine_sides.proofs.OnceFacts.Summing.{others_and_one, others_change, others_same}

abbrev far : ℕ → List (Option OpenCall) → ℕ → ℕ
far n calls t = sum_by (far_steps n) (slice_set calls t None)

-- its own steps fall, and those of the others rise by less
module _ (s u : Onces) (t k : ℕ) (c : OpenCall) (o : Option OpenCall) (here : call_at s t ≡ Some c)
    (there : call_at u t ≡ o) (threads : length u.calls ≡ length s.calls)
    (others : far (length s.calls) u.calls t ≤ far (length s.calls) s.calls t + k) where
  pub pays_by : own_steps u t o + (1 + k) ≤ own_steps s t (Some c) → Pays t s u
  pays_by own = omega (
    arith,
    ap (own_steps s t) here,
    ap (own_steps u t) there,
    ap (λ n. far n u.calls t) threads,
    others,
    own,
  )

same_view : (w x first next : ℕ) (shut closed : Bool) → w ≡ x → first ≡ next → shut ≡ closed
    → Sees w first shut ≡ Sees x next closed
same_view w x first next shut closed e f g = ap (λ y. Sees y first shut) e ∙ ap (λ y. Sees x y shut) f
    ∙ ap (λ y. Sees x next y) g

-- a thread in its own section isn't shut out of it
shut_own : (o : Option ℕ) (t : ℕ) → is_the o t ≡ true → is_shut_to t o ≡ false
shut_own o t e = ap (is_shut_to t) (the_one o t e) ∙ ap not (eq-eqb t t refl)

shut_none : (o : Option ℕ) (t : ℕ) → o ≡ None → is_shut_to t o ≡ false
shut_none o t e = ap (is_shut_to t) e

shut_after : (a : Act) (t : ℕ) (o : Option ℕ) → IsEntry a (o ≡ None)
    → (a ≡ act.Section section.Leave → is_the o t ≡ true) → is_shut_to t (inside_after a t o) ≡ is_shut_to t o
shut_after (act.Enter key) t o free leave = ap not (eq-eqb t t refl) ∙ sym (shut_none o t free)
shut_after (act.Section section.Leave) t o free leave = sym (shut_own o t (leave refl))
shut_after a t o free leave = refl

open_so : (a : Act) (t : ℕ) (o : Option ℕ) → IsEntry a (o ≡ None) → (a ≡ act.Section section.Leave → is_the o t ≡ true)
    → IsOpen a (is_shut_to t o)
open_so (act.Enter key) t o free leave = shut_none o t free
open_so (act.Section section.Leave) t o free leave = shut_own o t (leave refl)
open_so act.Load t o free leave = tt
open_so (act.Exchange from to) t o free leave = tt
open_so (act.Add by) t o free leave = tt
open_so (act.FetchAnd keep) t o free leave = tt
open_so act.Spin t o free leave = tt
open_so act.Sleep t o free leave = tt
open_so (act.Done answer) t o free leave = tt
open_so (act.Section section.Check) t o free leave = tt
open_so (act.Section section.TakeFirst) t o free leave = tt
open_so (act.Section (section.TakeNext sum)) t o free leave = tt
open_so (act.Section (section.Append token)) t o free leave = tt
open_so (act.Section (section.Store plain fair)) t o free leave = tt
open_so (act.Section section.Wake) t o free leave = tt

-- a list isn't longer than there are threads
pub first_le : (s : Onces) → Fits s → (i : ℕ) → length (list_of s.waiting i) ≤ length s.calls
first_le s fits i = omega (arith, short i s.waiting, fits.room, count_by-le-length lies s.calls)

pub taken_le : (s : Onces) → Fits s → (t : ℕ) → length (list_of s.wakes t) ≤ length s.calls
taken_le s fits t = omega (arith, short t s.wakes, fits.room, count_by-le-length lies s.calls)

module _ (s : Onces) (t : ℕ) (c : OpenCall) (fits : Fits s) (here : call_at s t ≡ Some c) where
  abbrev p : OncePhase
  p = c.core.phase

  abbrev n : ℕ
  n = length s.calls

  abbrev w : ℕ
  w = word_at s c.once

  abbrev first : ℕ
  first = length (list_of s.waiting c.once)

  abbrev shut : Bool
  shut = is_shut_to t (inside_at s c.once)

  sits : Sits (length s.words) t c (list_of s.wakes t) (list_of s.waiting c.once) (inside_at s c.once)
  sits = fits.seated t c here

  low : t < length s.calls
  low = within s.calls t c here

  -- where its call alone changes
  one_pays : (u : Onces) (o : Option OpenCall) → u.calls ≡ slice_set s.calls t o
      → own_steps u t o + 1 ≤ phase_steps n (Sees w first shut) p → Pays t s u
  one_pays u o e own = pays_by s u t 0 c o here
      (ap (λ cs. call_in cs t) e ∙ call_here s.calls t o low)
      (ap (λ (cs : List (Option OpenCall)). length cs) e ∙ length-set s.calls t o)
      (omega (arith, ap (λ cs. far n cs t) e, others_same n s.calls t o))
      (omega (arith, own))

  pub own_pays : IsActOfItsOwn (act_of p) → IsEntry (act_of p) (inside_at s c.once ≡ None) → Pays t s (acted s t c)
  own_pays own free =
      let leave : act_of p ≡ act.Section section.Leave → is_the (inside_at s c.once) t ≡ true = λ e. sym sits.section
      ∙ leaves_section p e in
      let u : Onces = acted s t c in
      let d : OpenCall = told c (shown (act_of p) w) in
      let fall = falls n p w first shut own sits.ready (fits.words c.once) (open_so (act_of p) t (inside_at s c.once) free leave) in
      let same : Sees (word_at u c.once) first (is_shut_to t (inside_at u c.once)) ≡ Sees (does.written (act_of p) w) first shut =
      same_view _ _ _ _ _ _ (word_here s.words c.once (does.written (act_of p) w) sits.low) refl
      (ap (is_shut_to t) (now_inside s t c fits.buckets) ∙ shut_after (act_of p) t (inside_at s c.once) free leave) in
      one_pays u (Some d) refl (omega (
        arith,
        fall,
        ap (λ m. phase_steps m (view_of u t d) d.core.phase) (length-set s.calls t (Some d)),
        ap (λ v. phase_steps n v d.core.phase) same,
      ))

  pub joins_pay : (wish : Wish) → p ≡ Appends wish → Pays t s (appended s t c)
  joins_pay wish e =
      let u : Onces = appended s t c in
      let d : OpenCall = told c seen.Made in
      one_pays u (Some d) refl (omega (
        arith,
        ap (λ q. phase_steps (length u.calls) (view_of u t d) (next_phase q seen.Made)) e,
        ap (λ m. in_hand m wish) (length-set s.calls t (Some d)),
        ap (phase_steps n (Sees w first shut)) e,
      ))

  pub finds_pay : (well : Bool) (taken : ℕ) → p ≡ Scans well taken
      → Pays t s (with_call s t (Some (told c (seen.Took None false))))
  finds_pay well taken e =
      let d : OpenCall = told c (seen.Took None false) in
      let u : Onces = with_call s t (Some d) in
      one_pays u (Some d) refl (omega (
        arith,
        finds_falls n taken w first shut well,
        ap (λ m. phase_steps m (Sees w first shut) d.core.phase) (length-set s.calls t (Some d)),
        ap (λ q. phase_steps n (Sees w first shut) (next_phase q (seen.Took None false))) e,
        ap (phase_steps n (Sees w first shut)) e,
      ))

  pub over_pays : 1 ≤ phase_steps n (Sees w first shut) p → Pays t s (with_call s t None)
  over_pays own = one_pays (with_call s t None) None refl (omega (arith, own))

  pub runs_pay : (before : OnceState) → p ≡ Ends (end.Runs before) → Pays t s (with_call s t (Some (ran c before)))
  runs_pay before e =
      let d : OpenCall = ran c before in
      one_pays (with_call s t (Some d)) (Some d) refl (omega (
        arith,
        runs_less n w first shut (ends_well c.call) (first_le s fits c.once),
        ap (λ m. phase_steps m (Sees w first shut) d.core.phase) (length-set s.calls t (Some d)),
        ap (phase_steps n (Sees w first shut)) e,
      ))

  -- where another's call changes too
  two_pay : (u : Onces) (v k : ℕ) (x : Option OpenCall) (d : OpenCall) → u.calls ≡ slice_set (slice_set s.calls v x) t
      (Some d) → far_steps n x ≤ far_steps n (call_at s v) + k
      → own_steps u t (Some d) + (1 + k) ≤ phase_steps n (Sees w first shut) p → Pays t s u
  two_pay u v k x d e more own = pays_by s u t k c (Some d) here
      (ap (λ cs. call_in cs t) e ∙ call_here (slice_set s.calls v x) t (Some d)
      (omega (arith, low, length-set s.calls v x)))
      (ap (λ (cs : List (Option OpenCall)). length cs) e ∙ length-set (slice_set s.calls v x) t (Some d)
      ∙ length-set s.calls v x)
      (omega (
        arith,
        ap (λ cs. far n cs t) e,
        others_same n (slice_set s.calls v x) t (Some d),
        others_change n s.calls t v k x more,
      ))
      (omega (arith, own))

  off_far : (o : Option OpenCall) → far_steps n (option_map (off_list t) o) ≤ far_steps n o + 0
  off_far None = omega arith
  off_far (Some b) = omega arith

  pub takes_pay : (well : Bool) (taken m : ℕ) → p ≡ Scans well taken → IsFirst c.once s.waiting m
      → Pays t s (took_at s t c m (thread_in s.waiting m))
  takes_pay well taken m e at =
      let v : ℕ = thread_in s.waiting m in
      let rest : List ℕ = list_of (remove s.waiting m) c.once in
      let u : Onces = took_at s t c m v in
      let open_now : shut ≡ false = shut_own (inside_at s c.once) t (sym sits.section ∙ ap is_in_section e) in
      let given : ActResult = seen.Took (Some (record { 0 = 0 })) (does.is_left (remove s.waiting m) c.once) in
      let d : OpenCall = told c given in
      let longer : first ≡ suc (length rest) = ap (λ (vs : List ℕ). length vs) (out_same c.once s.waiting m at) in
      two_pay u v 0 (option_map (off_list t) (call_at s v)) d refl (off_far (call_at s v)) (omega (
        arith,
        takes_falls n taken w (length rest) well (does.is_left (remove s.waiting m) c.once),
        ap (λ k. phase_steps k (view_of u t d) d.core.phase)
            (length-set (slice_set s.calls v (option_map (off_list t) (call_at s v))) t (Some d)
            ∙ length-set s.calls v (option_map (off_list t) (call_at s v))),
        ap (λ y. phase_steps n (Sees w (length rest) y) d.core.phase) open_now,
        ap (λ q. phase_steps n (Sees w (length rest) false) (next_phase q given)) e,
        ap (phase_steps n (Sees w first shut)) e,
        ap (λ y. phase_steps n y (Scans well taken))
            (same_view w w first (suc (length rest)) shut false refl longer open_now),
      ))

  woken_far : (o : Option OpenCall) (b : OpenCall) (wish : Wish) → o ≡ Some b → b.core.phase ≡ Sleeps wish
      → far_steps n (option_map woken o) ≤ far_steps n o + 51
  woken_far o b wish e f = omega (
    arith,
    ap (λ x. far_steps n (option_map woken x)) e,
    ap (far_steps n) e,
    ap (phase_steps n Unseen) f,
    ap (λ q. phase_steps n Unseen (next_phase q (seen.Woken (record { 0 = 0 })))) f,
  )

  pub wakes_pay : (count m : ℕ) → p ≡ Wakes count → (b : OpenCall) (wish : Wish)
      → call_at s (thread_in s.wakes m) ≡ Some b → b.core.phase ≡ Sleeps wish
      → Pays t s (woke_at s t c m (thread_in s.wakes m))
  wakes_pay count m e b wish there asleep =
      let v : ℕ = thread_in s.wakes m in
      let u : Onces = woke_at s t c m v in
      let d : OpenCall = told c seen.Made in
      two_pay u v 51 (option_map woken (call_at s v)) d refl (woken_far (call_at s v) b wish there asleep) (omega (
        arith,
        wakes_le n w first shut (count - 1),
        subst (Knows (list_of s.waiting c.once)) e sits.knows,
        ap (λ k. phase_steps k (view_of u t d) d.core.phase)
            (length-set (slice_set s.calls v (option_map woken (call_at s v))) t (Some d)
            ∙ length-set s.calls v (option_map woken (call_at s v))),
        ap (λ q. phase_steps n (Sees w first shut) (next_phase q seen.Made)) e,
        ap (phase_steps n (Sees w first shut)) e,
      ))

-- a beginning
pub begins_cost : (s : Onces) (t i : ℕ) (call : OnceCall) → May s t i → Costs t call s (begun s t i call)
begins_cost s t i call may =
    let d : OpenCall = call_for i call in
    let u : Onces = begun s t i call in
    let n : ℕ = length s.calls in
    omega (
      arith,
      ap (own_steps s t) may.free,
      ap (own_steps u t) (call_here s.calls t (Some d) may.low),
      sees_less n (Loads (begins (wish_of call))) (word_at s i) 0 (is_shut_to t (inside_at s i)) (omega arith),
      ap (λ k. phase_steps k (view_of u t d) d.core.phase) (length-set s.calls t (Some d)),
      ap (λ k. far k u.calls t) (length-set s.calls t (Some d)),
      others_same n s.calls t (Some d),
    )

-- ANOTHER IS STEPPED

module _ (s : Onces) (fits : Fits s) where
  own_less : (t : ℕ) (o : Option OpenCall) → call_at s t ≡ o → own_steps s t o ≤ far_steps (length s.calls) o
  own_less t None e = omega arith
  own_less t (Some c) e = sees_less (length s.calls) c.core.phase (word_at s c.once) (length (list_of s.waiting c.once))
      (is_shut_to t (inside_at s c.once)) (first_le s fits c.once)

  -- it stands before a section that another is in
  shut_so : (t : ℕ) (o : Option ℕ) → is_the o t ≡ false → is_none o ≡ false → is_shut_to t o ≡ true
  shut_so t None e f = absurd cc
  shut_so t (Some u) e f = ap not e

  stuck_so : (t : ℕ) (c : OpenCall) (p : OncePhase) → is_in_section p ≡ is_the (inside_at s c.once) t
      → is_possible (is_none (inside_at s c.once)) (act_of p) ≡ false → IsStuck (act_of p) (is_shut_to t (inside_at s c.once))
  stuck_so t c (Enters wish) out e = shut_so t (inside_at s c.once) (sym out) e
  stuck_so t c (Looks well) out e = shut_so t (inside_at s c.once) (sym out) e
  stuck_so t c (Sleeps wish) out e = tt
  stuck_so t c (Asking wish) out e = absurd cc
  stuck_so t c (Returning well) out e = absurd cc
  stuck_so t c (Loads a) out e = absurd cc
  stuck_so t c (Starts a before parked) out e = absurd cc
  stuck_so t c (Spins a state) out e = absurd cc
  stuck_so t c (Parks a state) out e = absurd cc
  stuck_so t c (Checks wish) out e = absurd cc
  stuck_so t c (Retreats wish) out e = absurd cc
  stuck_so t c (Appends wish) out e = absurd cc
  stuck_so t c (Rests wish) out e = absurd cc
  stuck_so t c (Stores well) out e = absurd cc
  stuck_so t c (Scans well taken) out e = absurd cc
  stuck_so t c (Clears well taken) out e = absurd cc
  stuck_so t c (Leaves taken) out e = absurd cc
  stuck_so t c (Wakes count) out e = absurd cc
  stuck_so t c Finishes out e = absurd cc
  stuck_so t c (Ends answer) out e = absurd cc
  stuck_so t c Invalid out e = absurd cc

  own_same : (t : ℕ) (o : Option OpenCall) → call_at s t ≡ o
      → option_map_or (λ c. is_possible (is_none (inside_at s c.once)) (act_of c.core.phase)) o false ≡ false
      → far_steps (length s.calls) o ≤ own_steps s t o
  own_same t None e stuck = omega arith
  own_same t (Some c) e stuck = stuck_same (length s.calls) c.core.phase (word_at s c.once)
      (length (list_of s.waiting c.once)) (is_shut_to t (inside_at s c.once))
      (stuck_so t c c.core.phase (fits.seated t c e).section stuck)

  left_le : (t : ℕ) → left s t ≤ sum_by (far_steps (length s.calls)) s.calls
  left_le t = omega (arith, own_less t (call_at s t) refl, others_and_one (length s.calls) s.calls t)

  pub any_may_be_stepped : (t : ℕ) → can_move s t ≡ false → AnyMayBeStepped s t
  any_may_be_stepped t stuck u =
      omega (arith, left_le u, own_same t (call_at s t) refl stuck, others_and_one (length s.calls) s.calls t)

  few_of : (c : OpenCall) (t : ℕ) → call_at s t ≡ Some c → far_steps (length s.calls) (Some c) ≤ most (length s.calls)
  few_of c t here = let sits = fits.seated t c here in few_steps (length s.calls) c.core.phase sits.few
      (omega (arith, sits.taken, taken_le s fits t))

few_all : (n k : ℕ) (calls : List (Option OpenCall))
    → ((t : ℕ) (c : OpenCall) → call_in calls t ≡ Some c → far_steps n (Some c) ≤ k)
    → sum_by (far_steps n) calls ≤ length calls * k
few_all n k [] h = omega arith
few_all n k (None ∷ calls) h =
    omega (
      arith,
      sum_by-cons (far_steps n) None calls,
      few_all n k calls (λ t c e. h (suc t) c e),
      suc-mul (length calls) k,
    )
few_all n k (Some c ∷ calls) h =
    omega (
      arith,
      sum_by-cons (far_steps n) (Some c) calls,
      h 0 c refl,
      few_all n k calls (λ t d e. h (suc t) d e),
      suc-mul (length calls) k,
    )

pub few_are_left : (s : Onces) → Fits s → FewAreLeft s
few_are_left s fits t =
    omega (
      arith,
      left_le s fits t,
      few_all (length s.calls) (most (length s.calls)) s.calls
          (λ x c e. few_of s fits c x e),
    )
