-- A step of the machine, by the act that the call asks for.
use Rattle.std.proofs.Common.{◌≡◌, ℕ, Bool, true, false, length, Option, Some, None, is_none, refl, sym, ap, ◌∙◌, subst}
use Rattle.std.proofs.Common.{arith}
use Rattle.parking_lot_protocol.specs.declared.act.Act.{Act}
use Rattle.parking_lot_protocol.specs.declared.act.Act.TheVariants as act
use Rattle.parking_lot_protocol.specs.declared.act.SectionAct.TheVariants as section
use Rattle.parking_lot_rules.specs.Once.Once.{from, to}
use Rattle.parking_lot_protocol_waits.specs.declared.once.once_phase.OnceAnswer.TheVariants as end
use Rattle.parking_lot_protocol_waits.specs.declared.once.once_phase.OncePhase.{OncePhase}
use Rattle.parking_lot_protocol_waits.specs.declared.once.once_phase.OncePhase.TheVariants.{Asking, Returning, Loads}
use Rattle.parking_lot_protocol_waits.specs.declared.once.once_phase.OncePhase.TheVariants.{Starts, Spins, Parks}
use Rattle.parking_lot_protocol_waits.specs.declared.once.once_phase.OncePhase.TheVariants.{Enters, Checks, Retreats}
use Rattle.parking_lot_protocol_waits.specs.declared.once.once_phase.OncePhase.TheVariants.{Appends, Rests, Sleeps}
use Rattle.parking_lot_protocol_waits.specs.declared.once.once_phase.OncePhase.TheVariants.{Stores, Looks, Scans}
use Rattle.parking_lot_protocol_waits.specs.declared.once.once_phase.OncePhase.TheVariants.{Clears, Leaves, Wakes}
use Rattle.parking_lot_protocol_waits.specs.declared.once.once_phase.OncePhase.TheVariants.{Finishes, Ends, Invalid}
use Rattle.parking_lot_protocol_waits.specs.Once.OnceTable.{act_of}
use Rattle.parking_lot_machine_sides.specs.Once.Entries.{list_of}
use Rattle.parking_lot_machine_sides.specs.Once.OnceActs.{acted}
use Rattle.parking_lot_machine_sides.specs.Once.OnceFits.{Fits, GoesOn}
use Rattle.parking_lot_machine_sides.specs.Once.OnceSteps.{IsActOfItsOwn, IsEntry, move_of}
use Rattle.parking_lot_machine_sides.specs.declared.once.open_call.OpenCall.{OpenCall}
use Rattle.parking_lot_machine_sides.specs.Once.Onces.{Onces, word_at, call_at, inside_at}
use Rattle.std.proofs.Common.{position}
use Rattle.std.specs.Option.{option_and_then, option_map_or}
use Rattle.parking_lot_protocol.specs.declared.act.SectionAct.{SectionAct}
use Rattle.parking_lot_protocol.specs.declared.act.CoreAnswer.{CoreAnswer}
use Rattle.parking_lot_core_model.specs.declared.parking.ParkToken.{ParkToken}
use Rattle.parking_lot_protocol_waits.specs.Once.OnceTable.{answer_of}
use Rattle.parking_lot_machine_sides.specs.declared.once.calls.OnceReply.{OnceReply}
use Rattle.parking_lot_machine_sides.specs.Once.Entries.{is_in}
use Rattle.parking_lot_machine_sides.specs.Once.OnceActs.{appended, can_move, ended, ended_by, is_possible, replied}
use Rattle.parking_lot_machine_sides.specs.Once.OnceActs.{stepped, took, took_by, woke, woke_by}
use Rattle.parking_lot_machine_sides.specs.Once.OnceCalls.{reply_by}
use Rattle.parking_lot_machine_sides.specs.Once.OnceRanks.{Pays, Sees, is_shut_to, phase_steps}
use Rattle.parking_lot_machine_sides.specs.Once.OnceSteps.{IsStepped}
use Rattle.parking_lot_machine_sides.proofs.OnceFacts.Ending.{ends_so, not_asking, not_invalid, not_returning}
use Rattle.parking_lot_machine_sides.proofs.OnceFacts.Finding.{finds_nobody, takes_is}
use Rattle.parking_lot_machine_sides.proofs.OnceFacts.Joining.{appends_is, joins_so}
use Rattle.parking_lot_machine_sides.proofs.OnceFacts.Listing.{found, nobody}
use Rattle.parking_lot_machine_sides.proofs.OnceFacts.OwnActs.{Made, acts_so}
use Rattle.parking_lot_machine_sides.proofs.OnceFacts.Ranking.{finds_pay, joins_pay, over_pays, own_pays, runs_pay}
use Rattle.parking_lot_machine_sides.proofs.OnceFacts.Ranking.{takes_pay, wakes_pay}
use Rattle.parking_lot_machine_sides.proofs.OnceFacts.Taking.{takes_one}
use Rattle.parking_lot_machine_sides.proofs.OnceFacts.Waking.{somebody, wakes_is, wakes_one, whom}

own_stepped : (a : Act) (s : Onces) (t : ℕ) (c : OpenCall) → IsActOfItsOwn a → stepped a s t c ≡ acted s t c
own_stepped act.Load s t c own = refl
own_stepped (act.Exchange from to) s t c own = refl
own_stepped act.Spin s t c own = refl
own_stepped (act.Enter key) s t c own = refl
own_stepped (act.Section section.Check) s t c own = refl
own_stepped (act.Section (section.Store plain fair)) s t c own = refl
own_stepped (act.Section section.Leave) s t c own = refl
own_stepped a s t c own = absurd own

-- one that goes on answers nothing
silent : (p : OncePhase) → IsActOfItsOwn (act_of p) → answer_of p ≡ None
silent Finishes own = absurd own
silent (Ends answer) own = absurd own
silent p own = refl

pub takes_silent : (p : OncePhase) (next : SectionAct) → act_of p ≡ act.Section next → answer_of p ≡ None
takes_silent Finishes next e = absurd cc
takes_silent (Ends answer) next e = absurd cc
takes_silent p next e = refl

-- AN ACT OF ITS OWN, WHERE IT IS NONE OF THE OTHERS

its_section : (a b : SectionAct) → act.Section a ≡ act.Section b → b ≡ a
its_section a b e = cc

pub own_so : (free : Bool) (p : OncePhase) → is_possible free (act_of p) ≡ true
    → ((next : SectionAct) → act_of p ≡ act.Section next → ⊥) → ((answer : CoreAnswer) → act_of p ≡ act.Done answer → ⊥)
    → IsActOfItsOwn (act_of p)
own_so free (Loads a) can out done = tt
own_so free (Starts a before parked) can out done = tt
own_so free (Spins a state) can out done = tt
own_so free (Parks a state) can out done = tt
own_so free (Enters wish) can out done = tt
own_so free (Stores well) can out done = tt
own_so free (Looks well) can out done = tt
own_so free (Sleeps wish) can out done = absurd cc
own_so free (Checks wish) can out done = absurd (out _ refl)
own_so free (Retreats wish) can out done = absurd (out _ refl)
own_so free (Appends wish) can out done = absurd (out _ refl)
own_so free (Rests wish) can out done = absurd (out _ refl)
own_so free (Scans well taken) can out done = absurd (out _ refl)
own_so free (Clears well taken) can out done = absurd (out _ refl)
own_so free (Leaves taken) can out done = absurd (out _ refl)
own_so free (Wakes count) can out done = absurd (out _ refl)
own_so free (Asking wish) can out done = absurd (done _ refl)
own_so free (Returning well) can out done = absurd (done _ refl)
own_so free Finishes can out done = absurd (done _ refl)
own_so free (Ends answer) can out done = absurd (done _ refl)
own_so free Invalid can out done = absurd (done _ refl)

pub inside_so : (p : OncePhase) (next : SectionAct) → act_of p ≡ act.Section next
    → ((sum : ℕ) → next ≡ section.TakeNext sum → ⊥) → ((token : ParkToken) → next ≡ section.Append token → ⊥)
    → (next ≡ section.Wake → ⊥) → IsActOfItsOwn (act_of p)
inside_so (Checks wish) next e takes appends wakes = tt
inside_so (Retreats wish) next e takes appends wakes = tt
inside_so (Rests wish) next e takes appends wakes = tt
inside_so (Clears well taken) next e takes appends wakes = tt
inside_so (Leaves taken) next e takes appends wakes = tt
inside_so (Appends wish) next e takes appends wakes = absurd (appends _ (its_section _ next e))
inside_so (Scans well taken) next e takes appends wakes = absurd (takes _ (its_section _ next e))
inside_so (Wakes count) next e takes appends wakes = absurd (wakes (its_section _ next e))
inside_so (Loads a) next e takes appends wakes = absurd cc
inside_so (Starts a before parked) next e takes appends wakes = absurd cc
inside_so (Spins a state) next e takes appends wakes = absurd cc
inside_so (Parks a state) next e takes appends wakes = absurd cc
inside_so (Enters wish) next e takes appends wakes = absurd cc
inside_so (Stores well) next e takes appends wakes = absurd cc
inside_so (Looks well) next e takes appends wakes = absurd cc
inside_so (Sleeps wish) next e takes appends wakes = absurd cc
inside_so (Asking wish) next e takes appends wakes = absurd cc
inside_so (Returning well) next e takes appends wakes = absurd cc
inside_so Finishes next e takes appends wakes = absurd cc
inside_so (Ends answer) next e takes appends wakes = absurd cc
inside_so Invalid next e takes appends wakes = absurd cc

is_nothing : (o : Option ℕ) → is_none o ≡ true → o ≡ None
is_nothing None e = refl
is_nothing (Some u) e = absurd cc

pub entry_so : (a : Act) (inside : Option ℕ) → is_possible (is_none inside) a ≡ true → IsEntry a (inside ≡ None)
entry_so (act.Enter key) inside can = is_nothing inside can
entry_so act.Load inside can = tt
entry_so (act.Exchange from to) inside can = tt
entry_so (act.Add by) inside can = tt
entry_so (act.FetchAnd keep) inside can = tt
entry_so act.Spin inside can = tt
entry_so (act.Section next) inside can = tt
entry_so act.Sleep inside can = tt
entry_so (act.Done answer) inside can = tt

-- in a section no section is entered
pub section_entry : (a : Act) (next : SectionAct) (X : Type 0) → a ≡ act.Section next → IsEntry a X
section_entry a next X e = subst (λ b. IsEntry b X) (sym e) tt

-- WHAT A THREAD THAT CAN MOVE IS TO DO

pub possible : (s : Onces) (t : ℕ) (c : OpenCall) → call_at s t ≡ Some c → can_move s t ≡ true
    → is_possible (is_none (inside_at s c.once)) (act_of c.core.phase) ≡ true
possible s t c here can =
    sym (ap (λ o. option_map_or (λ (x : OpenCall). is_possible (is_none (inside_at s x.once)) (act_of x.core.phase)) o false) here)
    ∙ can

module _ (s : Onces) (t : ℕ) (c : OpenCall) (fits : Fits s) (here : call_at s t ≡ Some c) where
  made_so : (u : Onces) (reply : Option OnceReply) → reply ≡ replied c → u ≡ stepped (act_of c.core.phase) s t c
      → Made t c (move_of s t c) s u → Pays t s u → IsStepped t reply s u
  made_so u reply replies became made pays =
      record {
        call = c;
        here = here;
        replies = replies;
        became = became;
        step = made.step;
        named = made.named;
        lawful = made.lawful;
        pays = pays;
      }

  quiet : answer_of c.core.phase ≡ None → None ≡ replied c
  quiet e = sym (ap (option_and_then (reply_by c.call c.before)) e)

  pub acts_stepped : IsActOfItsOwn (act_of c.core.phase) → IsEntry (act_of c.core.phase) (inside_at s c.once ≡ None)
      → IsStepped t None s (acted s t c)
  acts_stepped own free = made_so (acted s t c) None (quiet (silent c.core.phase own))
      (sym (own_stepped (act_of c.core.phase) s t c own)) (acts_so s t c fits here own free)
      (own_pays s t c fits here own free)

  pub appends_stepped : (token : ParkToken) → act_of c.core.phase ≡ act.Section (section.Append token)
      → IsStepped t None s (appended s t c)
  appends_stepped token asked =
      let wish = appends_is c.core.phase token asked in
      made_so (appended s t c) None (quiet (takes_silent c.core.phase (section.Append token) asked))
      (sym (ap (λ a. stepped a s t c) asked)) (joins_so s t c fits here wish.0 wish.1)
      (joins_pay s t c fits here wish.0 wish.1)

  pub takes_stepped : (sum : ℕ) → act_of c.core.phase ≡ act.Section (section.TakeNext sum)
      → IsStepped t None s (took s t c)
  takes_stepped sum asked = go (position (is_in c.once) s.waiting) refl
    where
      scans : (well : Bool) × (taken : ℕ) × (c.core.phase ≡ Scans well taken)
      scans = takes_is c.core.phase sum asked

      became : (o : Option ℕ) → position (is_in c.once) s.waiting ≡ o → took_by o s t c ≡ stepped (act_of c.core.phase)
          s t c
      became o e = sym (ap (λ x. took_by x s t c) e) ∙ sym (ap (λ a. stepped a s t c) asked)

      all : (o : Option ℕ) → position (is_in c.once) s.waiting ≡ o → Made t c (move_of s t c) s (took_by o s t c)
          → Pays t s (took_by o s t c) → IsStepped t None s (took s t c)
      all o e made pays = subst (λ x. IsStepped t None s (took_by x s t c)) (sym e)
          (made_so (took_by o s t c) None (quiet (takes_silent c.core.phase (section.TakeNext sum) asked)) (became o e)
          made pays)

      go : (o : Option ℕ) → position (is_in c.once) s.waiting ≡ o → IsStepped t None s (took s t c)
      go None e = all None e (finds_nobody s t c fits here scans.0 scans.1 scans.2 (nobody c.once s.waiting e))
          (finds_pay s t c fits here scans.0 scans.1 scans.2)
      go (Some n) e =
          let first = found c.once s.waiting n e in
          all (Some n) e (takes_one s t c fits here scans.0 scans.1 scans.2 n first)
          (takes_pay s t c fits here scans.0 scans.1 n scans.2 first)

  pub wakes_stepped : act_of c.core.phase ≡ act.Section section.Wake → IsStepped t None s (woke s t c)
  wakes_stepped asked = go (position (is_in t) s.wakes) refl
    where
      count : (n : ℕ) × (c.core.phase ≡ Wakes n)
      count = wakes_is c.core.phase asked

      go : (o : Option ℕ) → position (is_in t) s.wakes ≡ o → IsStepped t None s (woke s t c)
      go None e = absurd (somebody s t c fits here count.0 count.1 (nobody t s.wakes e))
      go (Some n) e =
          let first = found t s.wakes n e in
          let b = whom s t c fits here count.0 count.1 n first in
          subst (λ x. IsStepped t None s (woke_by x s t c)) (sym e)
          (made_so (woke_by (Some n) s t c) None (quiet (takes_silent c.core.phase section.Wake asked))
          (sym (ap (λ x. woke_by x s t c) e) ∙ sym (ap (λ a. stepped a s t c) asked))
          (wakes_one s t c fits here count.0 count.1 n first)
          (wakes_pay s t c fits here count.0 n count.1 b.0 b.1 b.2 b.3))

  -- an end is paid for
  end_pays : (p : OncePhase) → c.core.phase ≡ p → (answer : CoreAnswer) → act_of p ≡ act.Done answer
      → GoesOn c.call c.before p → Pays t s (ended_by (answer_of p) s t c)
  end_pays (Ends (end.Runs before)) e answer asked goes = runs_pay s t c fits here before e
  end_pays (Ends end.Completed) e answer asked goes =
      over_pays s t c fits here
      (omega (
        arith,
        ap (phase_steps (length s.calls)
            (Sees (word_at s c.once) (length (list_of s.waiting c.once)) (is_shut_to t (inside_at s c.once)))) e,
      ))
  end_pays (Ends end.Poisoned) e answer asked goes =
      over_pays s t c fits here
      (omega (
        arith,
        ap (phase_steps (length s.calls)
            (Sees (word_at s c.once) (length (list_of s.waiting c.once)) (is_shut_to t (inside_at s c.once)))) e,
      ))
  end_pays (Ends end.Finished) e answer asked goes =
      over_pays s t c fits here
      (omega (
        arith,
        ap (phase_steps (length s.calls)
            (Sees (word_at s c.once) (length (list_of s.waiting c.once)) (is_shut_to t (inside_at s c.once)))) e,
      ))
  end_pays Finishes e answer asked goes =
      over_pays s t c fits here
      (omega (
        arith,
        ap (phase_steps (length s.calls)
            (Sees (word_at s c.once) (length (list_of s.waiting c.once)) (is_shut_to t (inside_at s c.once)))) e,
      ))
  end_pays (Asking wish) e answer asked goes = absurd (not_asking c.call c.before wish goes)
  end_pays (Returning well) e answer asked goes = absurd (not_returning c.call c.before well goes)
  end_pays Invalid e answer asked goes = absurd (not_invalid c.call c.before goes)
  end_pays (Loads a) e answer asked goes = absurd cc
  end_pays (Starts a before parked) e answer asked goes = absurd cc
  end_pays (Spins a state) e answer asked goes = absurd cc
  end_pays (Parks a state) e answer asked goes = absurd cc
  end_pays (Enters wish) e answer asked goes = absurd cc
  end_pays (Checks wish) e answer asked goes = absurd cc
  end_pays (Retreats wish) e answer asked goes = absurd cc
  end_pays (Appends wish) e answer asked goes = absurd cc
  end_pays (Rests wish) e answer asked goes = absurd cc
  end_pays (Sleeps wish) e answer asked goes = absurd cc
  end_pays (Stores well) e answer asked goes = absurd cc
  end_pays (Looks well) e answer asked goes = absurd cc
  end_pays (Scans well taken) e answer asked goes = absurd cc
  end_pays (Clears well taken) e answer asked goes = absurd cc
  end_pays (Leaves taken) e answer asked goes = absurd cc
  end_pays (Wakes count) e answer asked goes = absurd cc

  pub ends_stepped : (answer : CoreAnswer) → act_of c.core.phase ≡ act.Done answer
      → IsStepped t (replied c) s (ended s t c)
  ends_stepped answer asked = made_so (ended s t c) (replied c) refl (sym (ap (λ a. stepped a s t c) asked))
      (ends_so s t c fits here answer asked) (end_pays c.core.phase refl answer asked (fits.seated t c here).goes)
