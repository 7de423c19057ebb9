-- Whatever a call's act gives, the steps that are left of the call fall.
use Rattle.std.proofs.Common.{◌≡◌, ℕ, suc, ◌+◌, ◌*◌, ◌≤◌, Bool, true, false, cond, nat_lt, ◌==◌, ◌&&◌, Some, None, refl}
use Rattle.std.proofs.Common.{sym, ap, ◌∙◌, arith, eq-eqb}
use Rattle.std.proofs.lemmas.Bool.{ltb-true}
use Rattle.parking_lot_protocol.specs.declared.act.Act.{Act}
use Rattle.parking_lot_protocol.specs.declared.act.Act.TheVariants as act
use Rattle.parking_lot_protocol.specs.declared.act.SectionAct.TheVariants as section
use Rattle.parking_lot_protocol.specs.declared.act.ActResult.TheVariants as seen
use Rattle.parking_lot_rules.specs.declared.once.once_state.OnceState.{OnceState}
use Rattle.parking_lot_rules.specs.declared.once.once_state.OnceState.TheVariants.{New, Poisoned, InProgress, Done}
use Rattle.parking_lot_rules.specs.declared.once.wish.Wish.{Wish}
use Rattle.parking_lot_rules.specs.Once.Once.{waits}
use Rattle.parking_lot_protocol_waits.specs.declared.once.once_phase.OnceAnswer.{OnceAnswer}
use Rattle.parking_lot_protocol_waits.specs.declared.once.once_phase.OnceAnswer.TheVariants as end
use Rattle.parking_lot_protocol_waits.specs.declared.once.once_phase.Seeking.{Seeking}
use Rattle.parking_lot_protocol_waits.specs.declared.once.once_phase.OncePhase.{OncePhase}
use Rattle.parking_lot_protocol_waits.specs.declared.once.once_phase.OncePhase.TheVariants.{Asking, Returning, Loads}
use Rattle.parking_lot_protocol_waits.specs.declared.once.once_phase.OncePhase.TheVariants.{Starts, Spins, Parks}
use Rattle.parking_lot_protocol_waits.specs.declared.once.once_phase.OncePhase.TheVariants.{Enters, Checks, Retreats}
use Rattle.parking_lot_protocol_waits.specs.declared.once.once_phase.OncePhase.TheVariants.{Appends, Rests, Sleeps}
use Rattle.parking_lot_protocol_waits.specs.declared.once.once_phase.OncePhase.TheVariants.{Stores, Looks, Scans}
use Rattle.parking_lot_protocol_waits.specs.declared.once.once_phase.OncePhase.TheVariants.{Clears, Leaves, Wakes}
use Rattle.parking_lot_protocol_waits.specs.declared.once.once_phase.OncePhase.TheVariants.{Finishes, Ends, Invalid}
use Rattle.parking_lot_protocol_waits.specs.Once.OnceMoves.{IsReady}
use Rattle.parking_lot_protocol_waits.specs.Once.OnceTable.{state_of, is_parked, word_of, act_of, next_phase, waiting}
use Rattle.parking_lot_protocol_waits.specs.Once.OnceTable.{seeks, sees, wakes}
use Rattle.parking_lot_machine_sides.specs.Once.OnceActs.{shown, written}
use Rattle.parking_lot_machine_sides.specs.Once.OnceFits.{rounds_of, taken_count}
use Rattle.parking_lot_machine_sides.specs.Once.OnceRanks.{View, Unseen, Sees, keeps_waiting, parks, asks, in_hand}
use Rattle.parking_lot_machine_sides.specs.Once.OnceRanks.{closing, phase_steps}
use Rattle.parking_lot_machine_sides.specs.Once.OnceSteps.{IsActOfItsOwn}

parks_low : (shut : Bool) (w first : ℕ) → (4 ≤ parks (Sees w first shut)) × (parks (Sees w first shut) ≤ 29)
parks_low true w first = (omega arith, omega arith)
parks_low false w first = (omega arith, omega arith)

-- a word of a state, with callers that may wait
parked_word : (s : OnceState) → (state_of (word_of s true) ≡ s) × (is_parked (word_of s true) ≡ true)
parked_word New = (refl, refl)
parked_word Poisoned = (refl, refl)
parked_word InProgress = (refl, refl)
parked_word Done = (refl, refl)

module _ (n w first : ℕ) (shut : Bool) where
  abbrev v : View
  v = Sees w first shut

  -- one that has to wait, at the word that it has seen
  waits_le : (a : Seeking) (s : OnceState) (parked : Bool) → state_of w ≡ s → is_parked w ≡ parked
      → waits a.wish s ≡ true → word_of s parked ≡ w → phase_steps n v (waiting a s parked) ≤ asks v a.rounds + in_hand
      n a.wish
  waits_le a s true e f h g =
      omega (
        arith,
        parks_low shut w first,
        ap {B = ℕ} (λ b. cond b (parks v) 29) (ap (λ x. waits a.wish x && is_parked w) e ∙ ap (λ b. b && is_parked w) h
            ∙ f),
      )
  waits_le a s false e f h g = go (nat_lt 0 a.rounds) refl
    where
      go : (b : Bool) → nat_lt 0 a.rounds ≡ b → phase_steps n v (cond b (Spins a s) (Parks a s)) ≤ asks v a.rounds +
          in_hand n a.wish
      go true low = omega (arith, ltb-true 0 a.rounds low)
      go false low = omega
          (arith, ap {B = ℕ} (λ b. cond b (1 + parks v) (1 + asks v a.rounds)) (eq-eqb w (word_of s false) (sym g)))

  seeks_le : (runs force : Bool) (rounds : ℕ) (s : OnceState) (parked : Bool) → let a : Seeking =
      record { wish = record { runs = runs; force = force }; rounds = rounds } in
      state_of w ≡ s → is_parked w ≡ parked → word_of s parked ≡ w → phase_steps n v (seeks a s parked) ≤ asks v rounds
      + in_hand n a.wish
  seeks_le runs force rounds Done parked e f g = omega (arith, parks_low shut w first)
  seeks_le runs false rounds Poisoned parked e f g = omega (arith, parks_low shut w first)
  seeks_le true true rounds Poisoned parked e f g =
      omega (
        arith,
        parks_low shut w first,
        ap {B = ℕ} (λ b. cond b 1 (1 + asks v rounds))
            (eq-eqb w (word_of Poisoned parked) (sym g)),
      )
  seeks_le false true rounds Poisoned parked e f g =
      waits_le (record { wish = record { runs = false; force = true }; rounds = rounds }) Poisoned parked e f refl g
  seeks_le true force rounds New parked e f g =
      omega (
        arith,
        parks_low shut w first,
        ap {B = ℕ} (λ b. cond b 1 (1 + asks v rounds))
            (eq-eqb w (word_of New parked) (sym g)),
      )
  seeks_le false force rounds New parked e f g =
      waits_le (record { wish = record { runs = false; force = force }; rounds = rounds }) New parked e f refl g
  seeks_le runs force rounds InProgress parked e f g =
      waits_le (record { wish = record { runs = runs; force = force }; rounds = rounds }) InProgress parked e f refl g

  sees_le : (a : Seeking) → word_of (state_of w) (is_parked w) ≡ w → phase_steps n v (sees a w) ≤ asks v a.rounds +
      in_hand n a.wish
  sees_le a g = seeks_le a.wish.runs a.wish.force a.rounds (state_of w) (is_parked w) refl refl g

  starts_falls : (runs force : Bool) (rounds : ℕ) (s : OnceState) (parked : Bool) → let a : Seeking =
      record { wish = record { runs = runs; force = force }; rounds = rounds } in runs ≡ true
      → word_of (state_of w) (is_parked w) ≡ w → (b : Bool) →
      phase_steps n (Sees (cond b (word_of InProgress parked) w) first shut)
      (next_phase (Starts a s parked) (cond b seen.Exchanged (seen.Word w))) + 1 ≤ cond b 1 (1 + asks v rounds) +
      in_hand n a.wish
  starts_falls true force rounds s parked r g true = omega arith
  starts_falls false force rounds s parked r g true = absurd cc
  starts_falls runs force rounds s parked r g false =
      omega (arith, sees_le (record { wish = record { runs = runs; force = force }; rounds = rounds }) g)

  parks_falls : (a : Seeking) (s : OnceState) → waits a.wish s ≡ true → word_of (state_of w) (is_parked w) ≡ w
      → (b : Bool) →
      phase_steps n (Sees (cond b (word_of s true) w) first shut)
      (next_phase (Parks a s) (cond b seen.Exchanged (seen.Word w))) + 1 ≤ cond b (1 + parks v)
      (1 + asks v a.rounds) + in_hand n a.wish
  parks_falls a s h g true = omega (
    arith,
    ap {B = ℕ} (λ b. cond b (parks (Sees (word_of s true) first shut)) 29)
        (ap (λ x. waits a.wish x && is_parked (word_of s true)) (parked_word s).0
        ∙ ap (λ b. b && is_parked (word_of s true)) h ∙ (parked_word s).1),
  )
  parks_falls a s h g false = omega (arith, sees_le a g)

  check_falls : (wish : Wish) (b : Bool) → phase_steps n v (cond b (Appends wish) (Retreats wish)) + 1 ≤ cond b 3 28 +
      in_hand n wish
  check_falls wish true = omega arith
  check_falls wish false = omega arith

  stores_falls : (well : Bool) (to : ℕ) (b : Bool) → phase_steps n (Sees (cond b to w) first shut)
      (next_phase (Stores well) (cond b seen.Exchanged (seen.Word w))) + 1 ≤ phase_steps n v (Stores well)
  stores_falls well to true = omega arith
  stores_falls well to false = omega arith

  pub wakes_le : (k : ℕ) → phase_steps n v (wakes k) ≤ 52 * k + 1
  wakes_le k = go (nat_lt 0 k)
    where
      go : (b : Bool) → phase_steps n v (cond b (Wakes k) Finishes) ≤ 52 * k + 1
      go true = omega arith
      go false = omega arith

-- whether the thread is shut out of a section matters where it enters one, and where it leaves one
abbrev pub IsOpen : Act → Bool → Type 0
IsOpen (act.Enter key) shut = shut ≡ false
IsOpen (act.Section section.Leave) shut = shut ≡ false
IsOpen a shut = Unit {0}

enter_le : (w first : ℕ) (shut b : Bool) → shut ≡ false → cond b 3 28 + 1 ≤ cond b (parks (Sees w first shut)) 29
enter_le w first true b e = absurd cc
enter_le w first false true e = omega arith
enter_le w first false false e = omega arith

retreat_le : (w first : ℕ) (shut : Bool) → shut ≡ false → parks (Sees w first shut) ≡ 4
retreat_le w first true e = absurd cc
retreat_le w first false e = refl

pub falls : (n : ℕ) (p : OncePhase) (w first : ℕ) (shut : Bool) → IsActOfItsOwn (act_of p) → IsReady p
    → word_of (state_of w) (is_parked w) ≡ w → IsOpen (act_of p) shut
    → phase_steps n (Sees (written (act_of p) w) first shut) (next_phase p (shown (act_of p) w)) + 1 ≤ phase_steps n
    (Sees w first shut) p
falls n (Loads a) w first shut own r g o = omega (arith, sees_le n w first shut a g)
falls n (Starts a before parked) w first shut own r g o = starts_falls n w first shut a.wish.runs a.wish.force a.rounds
    before parked r.0 g (w == word_of before parked)
falls n (Spins a s) w first shut own r g o = omega arith
falls n (Parks a s) w first shut own r g o = parks_falls n w first shut a s r g (w == word_of s false)
falls n (Enters wish) w first shut own r g o =
    omega (arith, enter_le w first shut (waits wish (state_of w) && is_parked w) o)
falls n (Checks wish) w first shut own r g o = check_falls n w first shut wish (waits wish (state_of w) && is_parked w)
falls n (Retreats wish) w first shut own r g o = omega (arith, retreat_le w first shut o)
falls n (Rests wish) w first shut own r g o = omega arith
falls n (Stores well) w first shut own r g o = stores_falls n w first shut well _ (w == word_of InProgress false)
falls n (Looks well) w first shut own r g o = omega arith
falls n (Clears well taken) w first shut own r g o = omega arith
falls n (Leaves taken) w first shut own r g o = omega (arith, wakes_le n w first shut taken)
falls n (Asking wish) w first shut own r g o = absurd own
falls n (Returning well) w first shut own r g o = absurd own
falls n (Appends wish) w first shut own r g o = absurd own
falls n (Sleeps wish) w first shut own r g o = absurd own
falls n (Scans well taken) w first shut own r g o = absurd own
falls n (Wakes count) w first shut own r g o = absurd own
falls n Finishes w first shut own r g o = absurd own
falls n (Ends answer) w first shut own r g o = absurd own
falls n Invalid w first shut own r g o = absurd own

-- one that takes nobody, or the first of so many
pub finds_falls : (n taken w first : ℕ) (shut well : Bool)
    → phase_steps n (Sees w first shut) (next_phase (Scans well taken) (seen.Took None false)) + 1 ≤ phase_steps n
    (Sees w first shut) (Scans well taken)
finds_falls n taken w first shut well = omega arith

pub takes_falls : (n taken w first : ℕ) (well left : Bool)
    → phase_steps n (Sees w first false) (next_phase (Scans well taken) (seen.Took (Some (record { 0 = 0 })) left)) + 1
    ≤ phase_steps n (Sees w (suc first) false) (Scans well taken)
takes_falls n taken w first well true = omega arith
takes_falls n taken w first well false = omega arith

-- WHAT IT SEES MAKES IT NO LONGER

parks_le : (w first : ℕ) (shut : Bool) → parks (Sees w first shut) ≤ 29
parks_le w first shut = (parks_low shut w first).1

find_le : (n w first : ℕ) (shut : Bool) → first ≤ n → cond shut n first ≤ n
find_le n w first true h = omega arith
find_le n w first false h = h

choice_le : (b : Bool) (x y z : ℕ) → x ≤ z → y ≤ z → cond b x y ≤ z
choice_le true x y z p q = p
choice_le false x y z p q = q

pub sees_less : (n : ℕ) (p : OncePhase) (w first : ℕ) (shut : Bool) → first ≤ n
    → phase_steps n (Sees w first shut) p ≤ phase_steps n Unseen p
sees_less n (Loads a) w first shut h = omega (arith, parks_le w first shut)
sees_less n (Starts a before parked) w first shut h =
    omega (
      arith,
      choice_le (w == word_of before parked) 1 (1 + asks (Sees w first shut) a.rounds)
          (1 + asks Unseen a.rounds) (omega arith) (omega (arith, parks_le w first shut)),
    )
sees_less n (Spins a s) w first shut h = omega (arith, parks_le w first shut)
sees_less n (Parks a s) w first shut h = omega (
  arith,
  choice_le (w == word_of s false) (1 + parks (Sees w first shut)) (1 + asks (Sees w first shut) a.rounds)
      (1 + asks Unseen a.rounds) (omega (arith, parks_le w first shut)) (omega (arith, parks_le w first shut)),
)
sees_less n (Enters wish) w first shut h =
    omega (
      arith,
      choice_le (keeps_waiting (Sees w first shut) wish) (parks (Sees w first shut)) 29 29
          (parks_le w first shut) (omega arith),
    )
sees_less n (Checks wish) w first shut h =
    omega (arith, choice_le (keeps_waiting (Sees w first shut) wish) 3 28 28 (omega arith) (omega arith))
sees_less n (Retreats wish) w first shut h = omega arith
sees_less n (Appends wish) w first shut h = omega arith
sees_less n (Rests wish) w first shut h = omega arith
sees_less n (Sleeps wish) w first shut h = omega arith
sees_less n (Stores well) w first shut h = omega (arith, find_le n w first shut h)
sees_less n (Looks well) w first shut h = omega (arith, find_le n w first shut h)
sees_less n (Scans well taken) w first shut h = omega (arith, find_le n w first shut h)
sees_less n (Clears well taken) w first shut h = omega arith
sees_less n (Leaves taken) w first shut h = omega arith
sees_less n (Wakes count) w first shut h = omega arith
sees_less n Finishes w first shut h = omega arith
sees_less n (Ends answer) w first shut h = omega arith
sees_less n (Asking wish) w first shut h = omega arith
sees_less n (Returning well) w first shut h = omega arith
sees_less n Invalid w first shut h = omega arith

-- one that runs its closure and returns has that in hand
pub runs_less : (n : ℕ) (w first : ℕ) (shut well : Bool) → first ≤ n → phase_steps n (Sees w first shut) (Stores well) +
    1 ≤ closing n
runs_less n w first shut well h = omega (arith, find_le n w first shut h)

-- AND ONE THAT CAN'T MOVE HAS AS MANY AS IF IT SAW NOTHING

abbrev pub IsStuck : Act → Bool → Type 0
IsStuck act.Sleep shut = Unit {0}
IsStuck (act.Enter key) shut = shut ≡ true
IsStuck a shut = ⊥

shut_parks : (w first : ℕ) (shut : Bool) → shut ≡ true → parks (Sees w first shut) ≡ 29
shut_parks w first true e = refl
shut_parks w first false e = absurd cc

shut_finds : (n first : ℕ) (shut : Bool) → shut ≡ true → cond shut n first ≡ n
shut_finds n first true e = refl
shut_finds n first false e = absurd cc

either : (b : Bool) (x y : ℕ) → x ≡ y → y ≤ cond b x y
either true x y e = omega (arith, e)
either false x y e = omega arith

pub stuck_same : (n : ℕ) (p : OncePhase) (w first : ℕ) (shut : Bool) → IsStuck (act_of p) shut
    → phase_steps n Unseen p ≤ phase_steps n (Sees w first shut) p
stuck_same n (Enters wish) w first shut h =
    omega (
      arith,
      either (keeps_waiting (Sees w first shut) wish) (parks (Sees w first shut)) 29
          (shut_parks w first shut h),
    )
stuck_same n (Looks well) w first shut h = omega (arith, shut_finds n first shut h)
stuck_same n (Sleeps wish) w first shut h = omega arith
stuck_same n (Asking wish) w first shut h = absurd h
stuck_same n (Returning well) w first shut h = absurd h
stuck_same n (Loads a) w first shut h = absurd h
stuck_same n (Starts a before parked) w first shut h = absurd h
stuck_same n (Spins a s) w first shut h = absurd h
stuck_same n (Parks a s) w first shut h = absurd h
stuck_same n (Checks wish) w first shut h = absurd h
stuck_same n (Retreats wish) w first shut h = absurd h
stuck_same n (Appends wish) w first shut h = absurd h
stuck_same n (Rests wish) w first shut h = absurd h
stuck_same n (Stores well) w first shut h = absurd h
stuck_same n (Scans well taken) w first shut h = absurd h
stuck_same n (Clears well taken) w first shut h = absurd h
stuck_same n (Leaves taken) w first shut h = absurd h
stuck_same n (Wakes count) w first shut h = absurd h
stuck_same n Finishes w first shut h = absurd h
stuck_same n (Ends answer) w first shut h = absurd h
stuck_same n Invalid w first shut h = absurd h

-- THE MOST

hand_most : (n : ℕ) (wish : Wish) → in_hand n wish ≤ closing n
hand_most n wish = go wish.runs
  where
    go : (b : Bool) → cond b (closing n) 0 ≤ closing n
    go true = omega arith
    go false = omega arith

ends_most : (n : ℕ) (a : OnceAnswer) → phase_steps n Unseen (Ends a) ≤ closing n
ends_most n (end.Runs before) = omega arith
ends_most n end.Completed = omega arith
ends_most n end.Poisoned = omega arith
ends_most n end.Finished = omega arith

pub few_steps : (n : ℕ) (p : OncePhase) → rounds_of p ≤ 10 → taken_count p ≤ n → phase_steps n Unseen p ≤ 105 * n + 59
few_steps n (Loads a) few taken = omega (arith, few, hand_most n a.wish)
few_steps n (Starts a before parked) few taken = omega (arith, few, hand_most n a.wish)
few_steps n (Spins a s) few taken = omega (arith, few, hand_most n a.wish)
few_steps n (Parks a s) few taken = omega (arith, few, hand_most n a.wish)
few_steps n (Enters wish) few taken = omega (arith, hand_most n wish)
few_steps n (Checks wish) few taken = omega (arith, hand_most n wish)
few_steps n (Retreats wish) few taken = omega (arith, hand_most n wish)
few_steps n (Appends wish) few taken = omega (arith, hand_most n wish)
few_steps n (Rests wish) few taken = omega (arith, hand_most n wish)
few_steps n (Sleeps wish) few taken = omega (arith, hand_most n wish)
few_steps n (Asking wish) few taken = omega (arith, hand_most n wish)
few_steps n (Ends a) few taken = omega (arith, ends_most n a)
few_steps n (Scans well k) few taken = omega (arith, taken)
few_steps n (Clears well k) few taken = omega (arith, taken)
few_steps n (Leaves k) few taken = omega (arith, taken)
few_steps n (Wakes k) few taken = omega (arith, taken)
few_steps n p few taken = omega arith
