-- How a phase leads to the next, where its act is one of its own thread and its once alone.
use Rattle.std.proofs.Common.{◌≡◌, ℕ, ◌≤◌, Bool, true, false, cond, nat_lt, ◌==◌, ◌&&◌, List, Option, Some, refl, sym}
use Rattle.std.proofs.Common.{◌∙◌, arith, eqb-true, eq-eqb}
use Rattle.std.proofs.lemmas.Bool.{ltb-true, ltb-false}
use Rattle.parking_lot_protocol.specs.declared.act.Act.{Act}
use Rattle.parking_lot_protocol.specs.declared.act.Act.TheVariants as act
use Rattle.parking_lot_protocol.specs.declared.act.SectionAct.TheVariants as section
use Rattle.parking_lot_protocol.specs.declared.act.ActResult.{ActResult}
use Rattle.parking_lot_protocol.specs.declared.act.ActResult.TheVariants as seen
use Rattle.parking_lot_protocol.specs.Acts.{Gives, word_after}
use Rattle.parking_lot_rules.specs.declared.once.once_state.OnceState.{OnceState}
use Rattle.parking_lot_rules.specs.declared.once.once_state.OnceState.TheVariants.{New, Poisoned, InProgress, Done}
use Rattle.parking_lot_rules.specs.Once.Once.{waits}
use Rattle.parking_lot_protocol_waits.specs.declared.once.once_phase.Seeking.{Seeking}
use Rattle.parking_lot_protocol_waits.specs.declared.once.once_phase.OncePhase.{OncePhase}
use Rattle.parking_lot_protocol_waits.specs.declared.once.once_phase.OncePhase.TheVariants.{Asking, Returning, Loads}
use Rattle.parking_lot_protocol_waits.specs.declared.once.once_phase.OncePhase.TheVariants.{Starts, Spins, Parks}
use Rattle.parking_lot_protocol_waits.specs.declared.once.once_phase.OncePhase.TheVariants.{Enters, Checks, Retreats}
use Rattle.parking_lot_protocol_waits.specs.declared.once.once_phase.OncePhase.TheVariants.{Appends, Rests, Sleeps}
use Rattle.parking_lot_protocol_waits.specs.declared.once.once_phase.OncePhase.TheVariants.{Stores, Looks, Scans}
use Rattle.parking_lot_protocol_waits.specs.declared.once.once_phase.OncePhase.TheVariants.{Clears, Leaves, Wakes}
use Rattle.parking_lot_protocol_waits.specs.declared.once.once_phase.OncePhase.TheVariants.{Finishes, Ends, Invalid}
use Rattle.parking_lot_protocol_waits.specs.Once.OnceTable.{state_of, is_parked, act_of, next_phase, waiting, seeks}
use Rattle.parking_lot_protocol_waits.specs.Once.OnceTable.{sees, wakes}
use Rattle.parking_lot_machine_sides.specs.Once.OnceActs.{shown, written, inside_after}
use Rattle.parking_lot_machine_sides.specs.Once.OnceFits.{is_in_section, is_listed, is_sleeping, is_the, taken_count}
use Rattle.parking_lot_machine_sides.specs.Once.OnceFits.{rounds_of, Knows}
use Rattle.parking_lot_machine_sides.specs.Once.OnceSteps.{IsActOfItsOwn}

-- what it shows is what the act can give, and it leaves that word
pub shows : (a : Act) (w : ℕ) → IsActOfItsOwn a → Gives a w (shown a w)
shows act.Load w own = refl
shows (act.Exchange from to) w own = go (w == from) refl
  where
    go : (b : Bool) → (w == from) ≡ b → Gives (act.Exchange from to) w (cond b seen.Exchanged (seen.Word w))
    go true e = eqb-true w from e
    go false e = (refl, λ same. let yes : true ≡ false = sym (eq_is same) ∙ e in absurd cc)
      where
        eq_is : w ≡ from → (w == from) ≡ true
        eq_is same = eq-eqb w from same
shows act.Spin w own = tt
shows (act.Enter key) w own = tt
shows (act.Section section.Check) w own = refl
shows (act.Section section.TakeFirst) w own = absurd own
shows (act.Section (section.Store plain fair)) w own = tt
shows (act.Section section.Leave) w own = tt
shows a w own = absurd own

pub leaves : (a : Act) (w : ℕ) → IsActOfItsOwn a → word_after a (shown a w) w ≡ written a w
leaves act.Load w own = refl
leaves (act.Exchange from to) w own = go (w == from)
  where
    go : (b : Bool) → word_after (act.Exchange from to) (cond b seen.Exchanged (seen.Word w)) w ≡ cond b to w
    go true = refl
    go false = refl
leaves act.Spin w own = refl
leaves (act.Enter key) w own = refl
leaves (act.Section section.Check) w own = refl
leaves (act.Section section.TakeFirst) w own = absurd own
leaves (act.Section (section.Store plain fair)) w own = refl
leaves (act.Section section.Leave) w own = refl
leaves a w own = absurd own

-- whether it is in a section after an act
abbrev pub section_after : Act → Bool → Bool
section_after (act.Enter key) b = true
section_after (act.Section section.Leave) b = false
section_after a b = b

-- what stays the same from phase to phase
pub record Led (a : Act) (p q : OncePhase) : Type 0 where
  pub taken : taken_count q ≡ taken_count p
  pub knows : (queue : List ℕ) → Knows queue q
  pub few : rounds_of p ≤ 10 → rounds_of q ≤ 10
  pub section : is_in_section q ≡ section_after a (is_in_section p)
  pub lies : is_listed q ≡ is_listed p
  pub awake : is_sleeping p ≡ false

-- one that asks has seen a word
record Asks (rounds : ℕ) (q : OncePhase) : Type 0 where
  taken : taken_count q ≡ 0
  knows : (queue : List ℕ) → Knows queue q
  few : rounds_of q ≤ rounds
  section : is_in_section q ≡ false
  lies : is_listed q ≡ false

waits_so : (a : Seeking) (s : OnceState) (parked : Bool) → Asks a.rounds (waiting a s parked)
waits_so a s true = record { taken = refl; knows = λ queue. tt; few = omega arith; section = refl; lies = refl }
waits_so a s false = go (nat_lt 0 a.rounds)
  where
    go : (b : Bool) → Asks a.rounds (cond b (Spins a s) (Parks a s))
    go true = record { taken = refl; knows = λ queue. tt; few = omega arith; section = refl; lies = refl }
    go false = record { taken = refl; knows = λ queue. tt; few = omega arith; section = refl; lies = refl }

seeks_so : (runs force : Bool) (rounds : ℕ) (s : OnceState) (parked : Bool)
    → Asks rounds (seeks (record { wish = record { runs = runs; force = force }; rounds = rounds }) s parked)
seeks_so runs force rounds Done parked =
    record { taken = refl; knows = λ queue. tt; few = omega arith; section = refl; lies = refl }
seeks_so runs false rounds Poisoned parked =
    record { taken = refl; knows = λ queue. tt; few = omega arith; section = refl; lies = refl }
seeks_so true true rounds Poisoned parked =
    record { taken = refl; knows = λ queue. tt; few = omega arith; section = refl; lies = refl }
seeks_so false true rounds Poisoned parked =
    waits_so (record { wish = record { runs = false; force = true }; rounds = rounds }) Poisoned parked
seeks_so true force rounds New parked =
    record { taken = refl; knows = λ queue. tt; few = omega arith; section = refl; lies = refl }
seeks_so false force rounds New parked =
    waits_so (record { wish = record { runs = false; force = force }; rounds = rounds }) New parked
seeks_so runs force rounds InProgress parked =
    waits_so (record { wish = record { runs = runs; force = force }; rounds = rounds }) InProgress parked

sees_so : (a : Seeking) (n : ℕ) → Asks a.rounds (sees a n)
sees_so a n = seeks_so a.wish.runs a.wish.force a.rounds (state_of n) (is_parked n)

asks_on : (a : Act) (p q : OncePhase) → taken_count p ≡ 0 → is_in_section p ≡ false → is_listed p ≡ false
    → is_sleeping p ≡ false → ((b : Bool) → section_after a b ≡ b) → Asks (rounds_of p) q → Led a p q
asks_on a p q none out away awake still h = record {
  taken = h.taken ∙ sym none;
  knows = h.knows;
  few = λ le. omega (arith, le, h.few);
  section = h.section ∙ sym (still (is_in_section p) ∙ out);
  lies = h.lies ∙ sym away;
  awake = awake;
}

either : (P : OncePhase → Type 0) (b : Bool) (x y : OncePhase) → P x → P y → P (cond b x y)
either P true x y p q = p
either P false x y p q = q

wakes_so : (n : ℕ) → Led (act.Section section.Leave) (Leaves n) (wakes n)
wakes_so n = go (nat_lt 0 n) refl
  where
    go : (b : Bool) → nat_lt 0 n ≡ b → Led (act.Section section.Leave) (Leaves n) (cond b (Wakes n) Finishes)
    go true e = record {
      taken = refl;
      knows = λ queue. ltb-true 0 n e;
      few = λ le. omega arith;
      section = refl;
      lies = refl;
      awake = refl;
    }
    go false e = record {
      taken = omega (arith, ltb-false 0 n e);
      knows = λ queue. tt;
      few = λ le. omega arith;
      section = refl;
      lies = refl;
      awake = refl;
    }

pub leads : (p : OncePhase) (s : ActResult) (w : ℕ) → IsActOfItsOwn (act_of p) → Gives (act_of p) w s
    → Led (act_of p) p (next_phase p s)
leads (Loads a) (seen.Word n) w own g = asks_on act.Load (Loads a) (sees a n) refl refl refl refl (λ b. refl)
    (sees_so a n)
leads (Starts a before parked) seen.Exchanged w own g =
    record { taken = refl; knows = λ queue. tt; few = λ le. omega arith; section = refl; lies = refl; awake = refl }
leads (Starts a before parked) (seen.Word n) w own g = asks_on (act_of (Starts a before parked))
    (Starts a before parked) (sees a n) refl refl refl refl (λ b. refl) (sees_so a n)
leads (Spins a s) (seen.Spun true) w own g =
    record {
      taken = refl;
      knows = λ queue. tt;
      few = λ le. omega (arith, le);
      section = refl;
      lies = refl;
      awake = refl;
    }
leads (Spins a s) (seen.Spun false) w own g =
    record { taken = refl; knows = λ queue. tt; few = λ le. le; section = refl; lies = refl; awake = refl }
leads (Parks a s) seen.Exchanged w own g =
    record { taken = refl; knows = λ queue. tt; few = λ le. omega arith; section = refl; lies = refl; awake = refl }
leads (Parks a s) (seen.Word n) w own g = asks_on (act_of (Parks a s)) (Parks a s) (sees a n) refl refl refl refl
    (λ b. refl) (sees_so a n)
leads (Enters wish) seen.Entered w own g =
    record { taken = refl; knows = λ queue. tt; few = λ le. omega arith; section = refl; lies = refl; awake = refl }
leads (Checks wish) (seen.Word n) w own g = either (Led (act_of (Checks wish)) (Checks wish))
    (waits wish (state_of n) && is_parked n) (Appends wish) (Retreats wish)
    (record { taken = refl; knows = λ queue. tt; few = λ le. omega arith; section = refl; lies = refl; awake = refl })
    (record { taken = refl; knows = λ queue. tt; few = λ le. omega arith; section = refl; lies = refl; awake = refl })
leads (Retreats wish) seen.Made w own g =
    record { taken = refl; knows = λ queue. tt; few = λ le. omega arith; section = refl; lies = refl; awake = refl }
leads (Rests wish) seen.Made w own g =
    record { taken = refl; knows = λ queue. tt; few = λ le. omega arith; section = refl; lies = refl; awake = refl }
leads (Stores well) seen.Exchanged w own g =
    record { taken = refl; knows = λ queue. tt; few = λ le. omega arith; section = refl; lies = refl; awake = refl }
leads (Stores well) (seen.Word n) w own g =
    record { taken = refl; knows = λ queue. tt; few = λ le. omega arith; section = refl; lies = refl; awake = refl }
leads (Looks well) seen.Entered w own g =
    record { taken = refl; knows = λ queue. tt; few = λ le. omega arith; section = refl; lies = refl; awake = refl }
leads (Clears well taken) (seen.Stored fair) w own g =
    record { taken = refl; knows = λ queue. tt; few = λ le. omega arith; section = refl; lies = refl; awake = refl }
leads (Leaves taken) seen.Made w own g = wakes_so taken
leads (Asking wish) s w own g = absurd own
leads (Returning well) s w own g = absurd own
leads (Appends wish) s w own g = absurd own
leads (Sleeps wish) s w own g = absurd own
leads (Scans well taken) s w own g = absurd own
leads (Wakes count) s w own g = absurd own
leads Finishes s w own g = absurd own
leads (Ends end) s w own g = absurd own
leads Invalid s w own g = absurd own
leads p s w own g = absurd g

-- who is in the section after an act
is_same : (t : ℕ) → is_the (Some t) t ≡ true
is_same t = eq-eqb t t refl

pub in_after : (a : Act) (t : ℕ) (inside : Option ℕ) (b : Bool) → b ≡ is_the inside t
    → section_after a b ≡ is_the (inside_after a t inside) t
in_after (act.Enter key) t inside b e = sym (is_same t)
in_after (act.Section section.Leave) t inside b e = refl
in_after a t inside b e = e
