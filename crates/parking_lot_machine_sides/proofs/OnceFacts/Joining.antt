-- It joins the list.
use Rattle.std.proofs.Common.{◌≡◌, ℕ, ◌≤◌, inr, cond, List, length, Some, refl, sym, ap, ◌∙◌, subst, arith}
use Rattle.std.proofs.lemmas.Option.{none-some, same_Some}
use Rattle.parking_lot_protocol.specs.declared.act.Act.TheVariants as act
use Rattle.parking_lot_protocol.specs.declared.act.SectionAct.TheVariants as section
use Rattle.parking_lot_protocol.specs.declared.act.ActResult.TheVariants as seen
use Rattle.parking_lot_protocol.specs.Acts.{Gives}
use Rattle.parking_lot_rules.specs.declared.once.wish.Wish.{Wish}
use Rattle.parking_lot_protocol_waits.specs.declared.once.once_phase.OncePhase.{OncePhase}
use Rattle.parking_lot_protocol_waits.specs.declared.once.once_phase.OncePhase.TheVariants.{Asking, Returning, Loads}
use Rattle.parking_lot_protocol_waits.specs.declared.once.once_phase.OncePhase.TheVariants.{Starts, Spins, Parks}
use Rattle.parking_lot_protocol_waits.specs.declared.once.once_phase.OncePhase.TheVariants.{Enters, Checks, Retreats}
use Rattle.parking_lot_protocol_waits.specs.declared.once.once_phase.OncePhase.TheVariants.{Appends, Rests, Sleeps}
use Rattle.parking_lot_protocol_waits.specs.declared.once.once_phase.OncePhase.TheVariants.{Stores, Looks, Scans}
use Rattle.parking_lot_protocol_waits.specs.declared.once.once_phase.OncePhase.TheVariants.{Clears, Leaves, Wakes}
use Rattle.parking_lot_protocol_waits.specs.declared.once.once_phase.OncePhase.TheVariants.{Finishes, Ends, Invalid}
use Rattle.parking_lot_protocol_waits.specs.Once.OnceMoves.{Joins, role, IsReady}
use Rattle.parking_lot_protocol_waits.specs.Once.OnceTable.{act_of, next_phase}
use Rattle.parking_lot_machine_sides.specs.Once.Entries.{list_of}
use Rattle.parking_lot_machine_sides.specs.Once.OnceActs.{shown, told}
use Rattle.parking_lot_machine_sides.specs.Once.OnceFits.{Fits, Sits, Knows, is_in_section, is_listed, is_sleeping}
use Rattle.parking_lot_machine_sides.specs.Once.OnceFits.{taken_count, rounds_of}
use Rattle.parking_lot_machine_sides.specs.Once.OnceSteps.{IsLawful, given_by, move_by, move_of}
use Rattle.parking_lot_machine_sides.specs.declared.once.open_call.OpenCall.{OpenCall}
use Rattle.parking_lot_machine_sides.specs.Once.Onces.{Onces, word_at, call_at, known_of, inside_at}
use Rattle.parking_lot_machine_sides.proofs.OnceFacts.Sections.{stands_in}
use Rattle.parking_lot_machine_sides.proofs.OnceFacts.Acting.{role_here}
use Rattle.parking_lot_machine_sides.proofs.OnceFacts.Owning.{One, fits_one}
use Rattle.parking_lot_core_model.specs.declared.parking.ParkToken.{ParkToken}
use Rattle.parking_lot_rules.specs.Once.Once.{Join}
use Rattle.parking_lot_machine_sides.specs.Once.OnceActs.{appended}
use Rattle.parking_lot_machine_sides.proofs.OnceFacts.Listing.{length_push, push_other, push_same}
use Rattle.parking_lot_machine_sides.proofs.OnceFacts.Owning.{joins_one}
use Rattle.parking_lot_machine_sides.proofs.OnceFacts.OwnActs.{Made, goes_so}

pub appends_is : (p : OncePhase) (token : ParkToken) → act_of p ≡ act.Section (section.Append token) → (wish : Wish)
    × (p ≡ Appends wish)
appends_is (Appends wish) token e = (wish, refl)
appends_is (Asking wish) token e = absurd cc
appends_is (Returning well) token e = absurd cc
appends_is (Loads a) token e = absurd cc
appends_is (Starts a before parked) token e = absurd cc
appends_is (Spins a state) token e = absurd cc
appends_is (Parks a state) token e = absurd cc
appends_is (Enters wish) token e = absurd cc
appends_is (Checks wish) token e = absurd cc
appends_is (Retreats wish) token e = absurd cc
appends_is (Rests wish) token e = absurd cc
appends_is (Sleeps wish) token e = absurd cc
appends_is (Stores well) token e = absurd cc
appends_is (Looks well) token e = absurd cc
appends_is (Scans well taken) token e = absurd cc
appends_is (Clears well taken) token e = absurd cc
appends_is (Leaves taken) token e = absurd cc
appends_is (Wakes count) token e = absurd cc
appends_is Finishes token e = absurd cc
appends_is (Ends answer) token e = absurd cc
appends_is Invalid token e = absurd cc

module _ (s : Onces) (t : ℕ) (c : OpenCall) (fits : Fits s) (here : call_at s t ≡ Some c) where
  abbrev us : List ℕ
  us = list_of s.wakes t

  abbrev queue : List ℕ
  queue = list_of s.waiting c.once

  abbrev sits : Sits (length s.words) t c us queue (inside_at s c.once)
  sits = fits.seated t c here

  -- IT JOINS

  module _ (wish : Wish) (e : c.core.phase ≡ Appends wish) where
    abbrev d : OpenCall
    d = told c seen.Made

    abbrev u : Onces
    u = appended s t c

    joined_one : One s u t c.once (Some d)
    joined_one = record {
      calls = refl;
      wakes = refl;
      onces = refl;
      words = λ j ne. refl;
      waiting = λ j ne. push_other s.waiting c.once t j ne;
      buckets = refl;
    }

    f : d.core.phase ≡ Rests wish
    f = ap (λ p. next_phase p seen.Made) e

    joined_sits : Sits (length s.words) t d us (list_of u.waiting c.once) (inside_at s c.once)
    joined_sits = record {
      low = sits.low;
      goes = goes_so c.call c.before c.core.phase seen.Made 0 sits.goes
          (subst (λ p. Gives (act_of p) 0 seen.Made) (sym e) tt);
      ready = subst IsReady (sym f) tt;
      taken = sits.taken ∙ ap taken_count e ∙ sym (ap taken_count f);
      knows = subst (Knows (list_of u.waiting c.once)) (sym f) tt;
      few = subst (λ p. rounds_of p ≤ 10) (sym f) (omega arith);
      section = ap is_in_section f ∙ sym (ap is_in_section e) ∙ sits.section;
      awake = λ up. sits.awake (ap is_sleeping e);
    }

    joins_by : Made t c (Joins wish) s u
    joins_by =
        let lawful : IsLawful t c.once (Some (Join wish)) s u = joins_one s u t c (Some d) fits here joined_one refl
        wish (ap (role c.taker (known_of us c)) e)
        (role_here c.once us d refl ∙ ap (role c.taker (known_of us c)) f) refl (push_same s.waiting c.once t) in
        record {
          step = Some (Join wish);
          named = refl;
          lawful = lawful;
          fits = fits_one s u t c (Some d) fits here joined_one refl (Some (Join wish)) lawful (fits.words c.once)
              (λ x is. subst (λ (y : OpenCall). Sits (length s.words) t y us (list_of u.waiting y.once)
              (inside_at s y.once))
              (same_Some d x is) joined_sits)
              (λ none. absurd (none-some d (sym none)))
              (inr (sym sits.section ∙ ap is_in_section e))
              (λ x ne b. refl)
              (λ b at. (d, refl, stands_in s t c fits here b at))
              (omega (
                arith,
                length_push s.waiting c.once t,
                ap {B = ℕ} (λ p. cond (is_listed p) 1 0) e,
                ap {B = ℕ} (λ p. cond (is_listed p) 1 0) f,
              ));
        }

    pub joins_so : Made t c (move_of s t c) s u
    joins_so = subst (λ (p : OncePhase). Made t c
        (move_by us c (given_by queue (shown (act_of c.core.phase) (word_at s c.once)) p) p) s u) (sym e) joins_by
