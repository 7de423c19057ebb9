-- Each answer to a core is the step that the table says.
use Rattle.std.proofs.Common.{◌≡◌, ℕ, zero, suc, ◌+◌, ◌*◌, ◌-◌, ◌%◌, ◌^◌, ◌≤◌, ◌==◌, ◌&&◌, nat_lt, bit_and, Bool, true}
use Rattle.std.proofs.Common.{false, cond, List, [], ◌∷◌, ◌++◌, length, length-append, Option, Some, None, refl, sym}
use Rattle.std.proofs.Common.{ap, ◌∙◌, subst, arith, eqb-true}
use Rattle.std.proofs.lemmas.Bool.{ltb-false}
use Rattle.std.proofs.lemmas.List.{nil_from_length}
use Rattle.std.specs.Int.Bits.{and_zero_r}
use Rattle.parking_lot_rules.specs.Classes.{bit}
use Rattle.parking_lot_protocol.specs.declared.act.ActResult.{ActResult}
use Rattle.parking_lot_protocol.specs.declared.act.ActResult.TheVariants as seen
use Rattle.parking_lot_protocol.specs.Acts.{change_of}
use Rattle.parking_lot_rules.specs.declared.once.once_state.OnceState.{OnceState}
use Rattle.parking_lot_rules.specs.declared.once.once_state.OnceState.TheVariants.{New, Poisoned, InProgress, Done}
use Rattle.parking_lot_rules.specs.declared.once.wish.Wish.{Wish}
use Rattle.parking_lot_rules.specs.Once.Once.{state_number, waits, may_run, ended}
use Rattle.parking_lot_rules.specs.Once.Once as rules
use Rattle.parking_lot_protocol_waits.specs.declared.once.once_phase.Seeking.{Seeking}
use Rattle.parking_lot_protocol_waits.specs.declared.once.once_phase.OnceAnswer.TheVariants as answer
use Rattle.parking_lot_protocol_waits.specs.declared.once.once_phase.OncePhase.{OncePhase}
use Rattle.parking_lot_protocol_waits.specs.declared.once.once_phase.OncePhase.TheVariants.{Asking, Returning, Loads}
use Rattle.parking_lot_protocol_waits.specs.declared.once.once_phase.OncePhase.TheVariants.{Starts, Spins, Parks}
use Rattle.parking_lot_protocol_waits.specs.declared.once.once_phase.OncePhase.TheVariants.{Enters, Checks, Retreats}
use Rattle.parking_lot_protocol_waits.specs.declared.once.once_phase.OncePhase.TheVariants.{Appends, Rests, Sleeps}
use Rattle.parking_lot_protocol_waits.specs.declared.once.once_phase.OncePhase.TheVariants.{Stores, Looks, Scans}
use Rattle.parking_lot_protocol_waits.specs.declared.once.once_phase.OncePhase.TheVariants.{Clears, Leaves, Wakes}
use Rattle.parking_lot_protocol_waits.specs.declared.once.once_phase.OncePhase.TheVariants.{Finishes, Ends}
use Rattle.parking_lot_protocol_waits.specs.Once.OnceTable.{state_of, is_parked, word_of, end_store, waiting, seeks}
use Rattle.parking_lot_protocol_waits.specs.Once.OnceTable.{sees, scans, with_taken, wakes}
use Rattle.parking_lot_protocol_waits.specs.Once.OnceMoves.{Known, role, Stays, Makes, seeing, IsWord, Holds, IsReady}
use Rattle.parking_lot_protocol_waits.specs.Once.OnceMoves.{IsMove, Follows}

-- WORDS

-- a word of the rules has the state and the bit that its number shows
shows : (s : OnceState) (p : ℕ) → p ≤ 1 → (state_of (state_number s + 8 * p) ≡ s)
    × (is_parked (state_number s + 8 * p) ≡ (p == 1))
shows New zero le = (refl, refl)
shows New (suc zero) le = (refl, refl)
shows Poisoned zero le = (refl, refl)
shows Poisoned (suc zero) le = (refl, refl)
shows InProgress zero le = (refl, refl)
shows InProgress (suc zero) le = (refl, refl)
shows Done zero le = (refl, refl)
shows Done (suc zero) le = (refl, refl)
shows s (suc (suc p)) le = absurd (omega (arith, le))

shows_word : (s : OnceState) (b : Bool) → state_of (word_of s b) ≡ s
shows_word New true = refl
shows_word New false = refl
shows_word Poisoned true = refl
shows_word Poisoned false = refl
shows_word InProgress true = refl
shows_word InProgress false = refl
shows_word Done true = refl
shows_word Done false = refl

-- where the number is that of a state, the word has that state, and the bit
is_word : (w : rules.Word) → IsWord w → (s : OnceState) (b : Bool) → rules.number w ≡ word_of s b → (w.state ≡ s)
    × (w.parked ≡ bit b)
is_word w h s b e =
    let same : w.state ≡ s = sym (shows w.state w.parked h).0 ∙ ap state_of e ∙ shows_word s b in
    (same, omega (arith, e, ap state_number same))

-- WHAT FOLLOWS A WORD

module _ (k : Known) (w : rules.Word) (p : OncePhase) where
  -- one that has to wait goes on asking
  waits_on : (runs force : Bool) (rounds : ℕ) (s : OnceState) (parked : Bool) → let a : Seeking =
      record { wish = record { runs = runs; force = force }; rounds = rounds } in
      ((by : Option ℕ) → role by k p ≡ rules.Seeks a.wish) → waits a.wish s ≡ true
      → IsMove Stays k p (waiting a s parked) w (rules.number w) × IsReady (waiting a s parked)
  waits_on runs force rounds s true asks waiting = ((λ by. sym (asks by), refl, tt), tt)
  waits_on runs force rounds s false asks waiting = go (nat_lt 0 rounds)
    where
      a : Seeking
      a = record { wish = record { runs = runs; force = force }; rounds = rounds }

      go : (b : Bool) → IsMove Stays k p (cond b (Spins a s) (Parks a s)) w (rules.number w)
          × IsReady (cond b (Spins a s) (Parks a s))
      go true = ((λ by. sym (asks by), refl, tt), waiting)
      go false = ((λ by. sym (asks by), refl, tt), waiting)

  -- one that asks sees the state
  seeks_on : (runs force : Bool) (rounds : ℕ) (s : OnceState) (parked : Bool) → let a : Seeking =
      record { wish = record { runs = runs; force = force }; rounds = rounds } in
      ((by : Option ℕ) → role by k p ≡ rules.Seeks a.wish) → w.state ≡ s
      → IsMove (seeing a.wish s) k p (seeks a s parked) w (rules.number w) × IsReady (seeks a s parked)
  seeks_on runs force rounds Done parked asks e =
      ((record { from = asks None; to = refl; may = e; written = refl }, tt), tt)
  seeks_on runs false rounds Poisoned parked asks e =
      ((record { from = asks None; to = refl; may = e; written = refl }, tt), tt)
  seeks_on true true rounds Poisoned parked asks e = ((λ by. sym (asks by), refl, tt), (refl, refl))
  seeks_on false true rounds Poisoned parked asks e = waits_on false true rounds Poisoned parked asks refl
  seeks_on true force rounds New parked asks e = ((λ by. sym (asks by), refl, tt), (refl, refl))
  seeks_on false force rounds New parked asks e = waits_on false force rounds New parked asks refl
  seeks_on runs force rounds InProgress parked asks e = waits_on runs force rounds InProgress parked asks refl

  -- the same by the word that was seen
  sees_on : (a : Seeking) (n : ℕ) → ((by : Option ℕ) → role by k p ≡ rules.Seeks a.wish) → IsWord w → n ≡ rules.number w
      → IsMove (seeing a.wish (state_of n)) k p (sees a n) w (rules.number w) × IsReady (sees a n)
  sees_on a n asks h g =
      let P : ℕ → Type 0 = λ x. IsMove (seeing a.wish (state_of x)) k p (sees a x) w (rules.number w)
      × IsReady (sees a x) in
      let Q : OnceState → Type 0 = λ s. IsMove (seeing a.wish s) k p (seeks a s (is_parked (rules.number w))) w
      (rules.number w) × IsReady (seeks a s (is_parked (rules.number w))) in
      subst P (sym g) (subst Q (sym (shows w.state w.parked h).0)
      (seeks_on a.wish.runs a.wish.force a.rounds w.state (is_parked (rules.number w)) asks refl))

checks : (k : Known) (w : rules.Word) (wish : Wish) → (b c : Bool) → waits wish w.state ≡ b → (w.parked == 1) ≡ c
    → IsMove (cond (b && c) (Makes (rules.Check wish)) Stays) k (Checks wish)
    (cond (b && c) (Appends wish) (Retreats wish)) w (rules.number w)
    × IsReady (cond (b && c) (Appends wish) (Retreats wish))
checks k w wish true true e f =
    ((record { from = refl; to = refl; may = (e, eqb-true w.parked 1 f); written = refl }, tt), tt)
checks k w wish true false e f = ((λ by. refl, refl, tt), tt)
checks k w wish false c e f = ((λ by. refl, refl, tt), tt)

checks_on : (k : Known) (w : rules.Word) (wish : Wish) (n : ℕ) → IsWord w → n ≡ rules.number w
    → let sleeps = waits wish (state_of n) && is_parked n in
    IsMove (cond sleeps (Makes (rules.Check wish)) Stays) k (Checks wish) (cond sleeps (Appends wish) (Retreats wish)) w
    (rules.number w) × IsReady (cond sleeps (Appends wish) (Retreats wish))
checks_on k w wish n h g =
    let Q : Bool → Type 0 = λ b. IsMove (cond b (Makes (rules.Check wish)) Stays) k (Checks wish)
    (cond b (Appends wish) (Retreats wish)) w (rules.number w) × IsReady (cond b (Appends wish) (Retreats wish)) in
    let seen = shows w.state w.parked h in
    let same : (waits wish (state_of n) && is_parked n) ≡ (waits wish w.state && (w.parked == 1)) =
    ap (λ x. waits wish (state_of x) && is_parked x) g ∙ ap (λ s. waits wish s && is_parked (rules.number w)) seen.0
    ∙ ap (λ b. waits wish w.state && b) seen.1 in
    subst Q (sym same) (checks k w wish (waits wish w.state) (w.parked == 1) refl refl)

starts_on : (k : Known) (w : rules.Word) (runs force : Bool) (rounds : ℕ) (before : OnceState) (parked : Bool)
    → let a : Seeking = record { wish = record { runs = runs; force = force }; rounds = rounds } in
    runs ≡ true → may_run force before ≡ true → IsWord w → rules.number w ≡ word_of before parked
    → IsMove (Makes (rules.Start force before)) k (Starts a before parked) (Ends (answer.Runs before)) w
    (word_of InProgress parked)
starts_on k w true force rounds before parked r may h g =
    let at = is_word w h before parked g in
    (record { from = refl; to = refl; may = (at.0, may); written = omega (arith, at.1) }, tt)
starts_on k w false force rounds before parked r may h g = absurd cc

parks_on : (k : Known) (w : rules.Word) (a : Seeking) (s : OnceState) → waits a.wish s ≡ true → IsWord w
    → rules.number w ≡ word_of s false
    → IsMove (Makes (rules.Flag a.wish)) k (Parks a s) (Enters a.wish) w (word_of s true)
parks_on k w a s waiting h g =
    let at = is_word w h s false g in (
      record {
        from = refl;
        to = refl;
        may = (ap (waits a.wish) at.0 ∙ waiting, at.1);
        written = omega (arith, ap state_number at.0);
      },
      tt,
    )

stores_on : (k : Known) (w : rules.Word) (well : Bool) → IsWord w → rules.number w ≡ word_of InProgress false
    → IsMove (Makes (rules.Finish well)) k (Stores well) (Ends answer.Finished) w (word_of (ended well) false)
stores_on k w well h g =
    (record { from = refl; to = refl; may = (is_word w h InProgress false g).1; written = refl }, tt)

clears_on : (k : Known) (w : rules.Word) (well fair : Bool) (taken : ℕ) → length k.taken ≡ taken
    → IsMove (Makes (rules.Store well k.taken)) k (Clears well taken) (Leaves taken) w
    (change_of (cond fair (end_store well) (end_store well)) (rules.number w))
clears_on k w well fair taken same = (record { from = refl; to = refl; may = refl; written = stored fair well }, same)
  where
    plus : (n j : ℕ) → (bit_and n 0 + j) % 2 ^ 64 ≡ (0 + j) % 2 ^ 64
    plus n j = ap (λ m. (m + j) % 2 ^ 64) (and_zero_r n)

    stored : (fair well : Bool) → change_of (cond fair (end_store well) (end_store well)) (rules.number w)
        ≡ rules.number (record { state = ended well; parked = 0 })
    stored true true = plus (rules.number w) 1
    stored true false = plus (rules.number w) 2
    stored false true = plus (rules.number w) 1
    stored false false = plus (rules.number w) 2

-- so many are to be woken
wakes_so : (k : Known) (us : List ℕ) (n : ℕ) → length us ≡ n → let later : Known = record k { taken = us } in
    (role None later (wakes n) ≡ rules.Wakes us) × Holds us (wakes n)
wakes_so k us n same = go (nat_lt 0 n) refl
  where
    later : Known
    later = record k { taken = us }

    go : (b : Bool) → nat_lt 0 n ≡ b → (role None later (cond b (Wakes n) Finishes) ≡ rules.Wakes us)
        × Holds us (cond b (Wakes n) Finishes)
    go true e = (refl, same)
    go false e = (ap (λ x. rules.Wakes x) (sym (nil_from_length us (omega (arith, same, ltb-false 0 n e)))), tt)

wakes_ready : (n : ℕ) → IsReady (wakes n)
wakes_ready n = go (nat_lt 0 n)
  where
    go : (b : Bool) → IsReady (cond b (Wakes n) Finishes)
    go true = tt
    go false = tt

scans_holds : (us : List ℕ) (well left : Bool) (n : ℕ) → length us ≡ n → Holds us (scans well n left)
scans_holds us well true n e = e
scans_holds us well false n e = e

scans_role : (k : Known) (by : Option ℕ) (well left : Bool) (n : ℕ) → role by k (scans well n left) ≡ rules.Scans well
    k.taken
scans_role k by well true n = refl
scans_role k by well false n = refl

scans_ready : (well left : Bool) (n : ℕ) → IsReady (scans well n left)
scans_ready well true n = tt
scans_ready well false n = tt

pub follows : (p : OncePhase) (s : ActResult) → Follows p s
follows (Asking wish) seen.Start k w r h us few g =
    ((record { from = refl; to = refl; may = tt; written = refl }, tt), tt)
follows (Returning well) seen.Start k w r h us few g =
    ((record { from = refl; to = refl; may = tt; written = refl }, us), tt)
follows (Loads a) (seen.Word n) k w r h us few g = sees_on k w (Loads a) a n (λ by. refl) h g
follows (Starts a before parked) seen.Exchanged k w r h us few g =
    (starts_on k w a.wish.runs a.wish.force a.rounds before parked r.0 r.1 h g, tt)
follows (Starts a before parked) (seen.Word n) k w r h us few g = sees_on k w (Starts a before parked) a n (λ by. refl)
    h g.0
follows (Spins a s) (seen.Spun true) k w r h us few g = ((λ by. refl, refl, tt), tt)
follows (Spins a s) (seen.Spun false) k w r h us few g = ((λ by. refl, refl, tt), r)
follows (Parks a s) seen.Exchanged k w r h us few g = (parks_on k w a s r h g, tt)
follows (Parks a s) (seen.Word n) k w r h us few g = sees_on k w (Parks a s) a n (λ by. refl) h g.0
follows (Enters wish) seen.Entered k w r h us few g =
    ((record { from = refl; to = refl; may = refl; written = refl }, tt), tt)
follows (Checks wish) (seen.Word n) k w r h us few g = checks_on k w wish n h g
follows (Retreats wish) seen.Made k w r h us few g =
    ((record { from = refl; to = refl; may = tt; written = refl }, tt), tt)
follows (Appends wish) seen.Made k w r h us few g = ((refl, refl, refl), tt)
follows (Rests wish) seen.Made k w r h us few g =
    ((record { from = refl; to = refl; may = tt; written = refl }, tt), tt)
follows (Sleeps wish) (seen.Woken token) k w r h us few g = ((λ by. (refl, refl, refl)), tt)
follows (Stores well) seen.Exchanged k w r h us few g = (stores_on k w well h g, tt)
follows (Stores well) (seen.Word n) k w r h us few g = ((λ by. refl, refl, us), tt)
follows (Looks well) seen.Entered k w r h us few g = (
  (
    record { from = refl; to = ap (λ x. rules.Scans well x) us; may = refl; written = refl },
    ap (λ (x : List ℕ). length x) us,
  ),
  tt,
)
follows (Scans well taken) (seen.Took (Some token) left) k w r h us few g = (
  λ v. (
    refl,
    scans_role (record k { taken = k.taken ++ v ∷ [] }) None well left (with_taken taken true),
    refl,
    scans_holds (k.taken ++ v ∷ []) well left (with_taken taken true)
        (omega (arith, us, few, length-append k.taken (v ∷ []))),
  ),
  scans_ready well left (with_taken taken true),
)
follows (Scans well taken) (seen.Took None left) k w r h us few g = (
  (
    λ by. scans_role k by well left (with_taken taken false),
    refl,
    scans_holds k.taken well left (with_taken taken false) (omega (arith, us, few)),
  ),
  scans_ready well left (with_taken taken false),
)
follows (Clears well taken) (seen.Stored fair) k w r h us few g = (clears_on k w well fair taken us, tt)
follows (Leaves taken) seen.Made k w r h us few g = let more = wakes_so k k.taken taken us in
    ((record { from = refl; to = more.0; may = tt; written = refl }, more.1), wakes_ready taken)
follows (Wakes count) seen.Made k w r h us few g = (
  λ v left e. (
      let more = wakes_so k left (count - 1) (omega (arith, us, ap (λ (x : List ℕ). length x) e)) in
      (ap (λ x. rules.Wakes x) e, more.0, refl, more.1)
      ),
  wakes_ready (count - 1),
)
follows p s k w r h us few g = absurd g
