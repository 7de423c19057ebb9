-- One that goes through the list finds nobody there.
use Rattle.std.proofs.Common.{◌≡◌, ℕ, ◌-◌, ◌^◌, ◌<◌, ◌≤◌, inl, Bool, false, cond, List, [], length, Some, None, refl}
use Rattle.std.proofs.Common.{sym, ap, ◌∙◌, subst, arith}
use Rattle.std.proofs.lemmas.List.Sums.{count_by-le-length}
use Rattle.std.proofs.lemmas.Option.{none-some, same_Some}
use Rattle.parking_lot_protocol.specs.declared.act.Act.TheVariants as act
use Rattle.parking_lot_protocol.specs.declared.act.SectionAct.TheVariants as section
use Rattle.parking_lot_protocol.specs.declared.act.ActResult.TheVariants as seen
use Rattle.parking_lot_protocol.specs.Acts.{Gives}
use Rattle.parking_lot_rules.specs.Once.Once.{number}
use Rattle.parking_lot_protocol_waits.specs.declared.once.once_phase.OncePhase.{OncePhase}
use Rattle.parking_lot_protocol_waits.specs.declared.once.once_phase.OncePhase.TheVariants.{Asking, Returning, Loads}
use Rattle.parking_lot_protocol_waits.specs.declared.once.once_phase.OncePhase.TheVariants.{Starts, Spins, Parks}
use Rattle.parking_lot_protocol_waits.specs.declared.once.once_phase.OncePhase.TheVariants.{Enters, Checks, Retreats}
use Rattle.parking_lot_protocol_waits.specs.declared.once.once_phase.OncePhase.TheVariants.{Appends, Rests, Sleeps}
use Rattle.parking_lot_protocol_waits.specs.declared.once.once_phase.OncePhase.TheVariants.{Stores, Looks, Scans}
use Rattle.parking_lot_protocol_waits.specs.declared.once.once_phase.OncePhase.TheVariants.{Clears, Leaves, Wakes}
use Rattle.parking_lot_protocol_waits.specs.declared.once.once_phase.OncePhase.TheVariants.{Finishes, Ends, Invalid}
use Rattle.parking_lot_protocol_waits.specs.Once.OnceMoves.{Stays, role, IsMove, IsReady}
use Rattle.parking_lot_protocol_waits.specs.Once.OnceTable.{act_of, next_phase}
use Rattle.parking_lot_protocol_waits.proofs.OnceFacts.OnceFollowing.{follows}
use Rattle.parking_lot_machine_sides.specs.Once.Entries.{list_of}
use Rattle.parking_lot_machine_sides.specs.Once.OnceActs.{shown, told}
use Rattle.parking_lot_machine_sides.specs.Once.OnceFits.{Fits, Sits, Knows, is_in_section, is_listed, is_sleeping}
use Rattle.parking_lot_machine_sides.specs.Once.OnceFits.{lies, taken_count, rounds_of}
use Rattle.parking_lot_machine_sides.specs.Once.OnceSteps.{IsLawful, given_by, move_by, move_of}
use Rattle.parking_lot_machine_sides.specs.declared.once.open_call.OpenCall.{OpenCall}
use Rattle.parking_lot_machine_sides.specs.Once.Onces.{Onces, word_at, call_at, known_of, word_of, inside_at}
use Rattle.parking_lot_machine_sides.proofs.OnceFacts.Sections.{stands_in}
use Rattle.parking_lot_machine_sides.proofs.OnceFacts.Acting.{role_here}
use Rattle.parking_lot_machine_sides.proofs.OnceFacts.Listing.{short}
use Rattle.parking_lot_machine_sides.proofs.OnceFacts.Owning.{One, fits_one, stays_one}
use Rattle.parking_lot_machine_sides.specs.Once.OnceActs.{with_call}
use Rattle.parking_lot_machine_sides.proofs.OnceFacts.OwnActs.{Made, goes_so}

pub takes_is : (p : OncePhase) (sum : ℕ) → act_of p ≡ act.Section (section.TakeNext sum) → (well : Bool) × (taken : ℕ)
    × (p ≡ Scans well taken)
takes_is (Scans well taken) sum e = (well, taken, refl)
takes_is (Asking wish) sum e = absurd cc
takes_is (Returning well) sum e = absurd cc
takes_is (Loads a) sum e = absurd cc
takes_is (Starts a before parked) sum e = absurd cc
takes_is (Spins a state) sum e = absurd cc
takes_is (Parks a state) sum e = absurd cc
takes_is (Enters wish) sum e = absurd cc
takes_is (Checks wish) sum e = absurd cc
takes_is (Retreats wish) sum e = absurd cc
takes_is (Appends wish) sum e = absurd cc
takes_is (Rests wish) sum e = absurd cc
takes_is (Sleeps wish) sum e = absurd cc
takes_is (Stores well) sum e = absurd cc
takes_is (Looks well) sum e = absurd cc
takes_is (Clears well taken) sum e = absurd cc
takes_is (Leaves taken) sum e = absurd cc
takes_is (Wakes count) sum e = absurd cc
takes_is Finishes sum e = absurd cc
takes_is (Ends answer) sum e = absurd cc
takes_is Invalid sum e = absurd cc

module _ (s : Onces) (t : ℕ) (c : OpenCall) (fits : Fits s) (here : call_at s t ≡ Some c) where
  abbrev us : List ℕ
  us = list_of s.wakes t

  abbrev queue : List ℕ
  queue = list_of s.waiting c.once

  abbrev sits : Sits (length s.words) t c us queue (inside_at s c.once)
  sits = fits.seated t c here

  module _ (well : Bool) (taken : ℕ) (e : c.core.phase ≡ Scans well taken) (none : queue ≡ []) where
    abbrev d : OpenCall
    d = told c (seen.Took None false)

    abbrev u : Onces
    u = with_call s t (Some d)

    abbrev q : OncePhase
    q = next_phase (Scans well taken) (seen.Took None false)

    f : d.core.phase ≡ q
    f = ap (λ p. next_phase p (seen.Took None false)) e

    one : One s u t c.once (Some d)
    one = record {
      calls = refl;
      wakes = refl;
      onces = refl;
      words = λ j ne. refl;
      waiting = λ j ne. refl;
      buckets = refl;
    }

    few : length us < 2 ^ 32 - 1
    few = omega (arith, short t s.wakes, fits.room, count_by-le-length lies s.calls, fits.small)

    followed : IsMove Stays (known_of us c) (Scans well taken) q (word_of (word_at s c.once))
        (number (word_of (word_at s c.once))) × IsReady q
    followed = follows (Scans well taken) (seen.Took None false) (known_of us c) (word_of (word_at s c.once)) tt
        (fits.sound c.once).fits.bit (sits.taken ∙ ap taken_count e) few tt

    empty_sits : Sits (length s.words) t d us queue (inside_at s c.once)
    empty_sits = record {
      low = sits.low;
      goes = goes_so c.call c.before c.core.phase (seen.Took None false) 0 sits.goes
          (subst (λ p. Gives (act_of p) 0 (seen.Took None false)) (sym e) tt);
      ready = subst IsReady (sym f) tt;
      taken = followed.0.2 ∙ sym (ap taken_count f);
      knows = subst (Knows queue) (sym f) none;
      few = subst (λ p. rounds_of p ≤ 10) (sym f) (omega arith);
      section = ap is_in_section f ∙ sym (ap is_in_section e) ∙ sits.section;
      awake = λ up. sits.awake (ap is_sleeping e);
    }

    finds_by : Made t c Stays s u
    finds_by =
        let lawful : IsLawful t c.once None s u = stays_one s u t c (Some d) fits here one refl
        (ap (role c.taker (known_of us c)) e ∙ sym (followed.0.0 c.taker)
        ∙ sym (ap (role c.taker (known_of us c)) f) ∙ sym (role_here c.once us d refl)) refl refl in
        record {
          step = None;
          named = refl;
          lawful = lawful;
          fits = fits_one s u t c (Some d) fits here one refl None lawful (fits.words c.once)
              (λ x is. subst (λ (y : OpenCall). Sits (length s.words) t y us (list_of s.waiting y.once)
              (inside_at s y.once))
              (same_Some d x is) empty_sits)
              (λ no. absurd (none-some d (sym no)))
              (inl refl)
              (λ x ne b. refl)
              (λ b at. (d, refl, stands_in s t c fits here b at))
              (omega (arith, ap {B = ℕ} (λ p. cond (is_listed p) 1 0) e, ap {B = ℕ} (λ p. cond (is_listed p) 1 0) f));
        }

    pub finds_nobody : Made t c (move_of s t c) s u
    finds_nobody = subst
        (λ (p : OncePhase). Made t c
        (move_by us c (given_by queue (shown (act_of c.core.phase) (word_at s c.once)) p) p) s u) (sym e)
        (subst (λ (vs : List ℕ). Made t c
        (move_by us c (given_by vs (shown (act_of c.core.phase) (word_at s c.once)) (Scans well taken))
        (Scans well taken)) s u) (sym none) finds_by)
