-- What a core is told at a sound reader-writer lock is the move that the table says, and a step of the rules.
use Rattle.std.proofs.Common.{◌≡◌, ◌≤◌, ◌<◌, ℕ, suc, ◌+◌, ◌-◌, ◌*◌, ◌/◌, ◌^◌, ◌==◌, ◌&&◌, Bool, true, false, cond, List}
use Rattle.std.proofs.Common.{[], ◌∷◌, length, Some, slice_get, slice_set, refl, sym, ap, ◌∙◌, subst, arith, mul-suc}
use Rattle.std.proofs.Common.{◌++◌}
use Rattle.std.proofs.lemmas.List.Sums.{sum_by-cons}
use Rattle.parking_lot_rules.specs.Roles.{Owned, Shares, Excludes, Upgrades, Role, away}
use Rattle.parking_lot_rules.specs.Roles as rules
use Rattle.parking_lot_rules.specs.Classes.{Class, Readers, Writers, Inside1, Inside2, weight, total, done, owned}
use Rattle.parking_lot_rules.specs.Clauses.{Word, IsWord, number, word_of}
use Rattle.parking_lot_rules.specs.Holds.{shared_holds}
use Rattle.parking_lot_rules.specs.Plain.{Plain, Enter1, Reenter1, ReenterTaken1, Enter2, Reenter2, ReenterTaken2}
use Rattle.parking_lot_rules.specs.Plain.{Look2, Mask2, LookExclusive, LookUpgradable, LookOwed, May, from, to, written}
use Rattle.parking_lot_rules.specs.Plain as plain
use Rattle.parking_lot_rules.specs.Lock.{Lock, IsSound}
use Rattle.parking_lot_rules.specs.Steps.{Alone, after}
use Rattle.parking_lot_rules.proofs.Totals.{total-at}
use Rattle.parking_lot_rules.proofs.Sounds.{step_sound}
use Rattle.parking_lot_protocol.specs.declared.act.ActResult.{ActResult}
use Rattle.parking_lot_protocol.specs.declared.rw_phase.LockMode.{LockMode}
use Rattle.parking_lot_protocol.specs.declared.rw_phase.RwPhase.{RwPhase}
use Rattle.parking_lot_protocol.specs.declared.rw_phase.Draining.{Draining}
use Rattle.parking_lot_protocol.specs.declared.rw_phase.RwPhase.TheVariants.{Locking, Trying, Loads, Admits, Spins}
use Rattle.parking_lot_protocol.specs.declared.rw_phase.RwPhase.TheVariants.{SetParked, Enters, Checks, Sleeps}
use Rattle.parking_lot_protocol.specs.declared.rw_phase.RwPhase.TheVariants.{DrainLoads, DrainSetParked, DrainEnters}
use Rattle.parking_lot_protocol.specs.declared.rw_phase.RwPhase.TheVariants.{DrainChecks, DrainSleeps, TryLoads}
use Rattle.parking_lot_protocol.specs.declared.rw_phase.RwPhase.TheVariants.{TryAdmits, Refuses, Relocks, Unshares}
use Rattle.parking_lot_protocol.specs.declared.rw_phase.RwPhase.TheVariants.{EnterWriterWakeSection, TakeWriter}
use Rattle.parking_lot_protocol.specs.declared.rw_phase.RwPhase.TheVariants.{ClearWriterParked, Unlocks, LooksExclusive}
use Rattle.parking_lot_protocol.specs.declared.rw_phase.RwPhase.TheVariants.{Downgrades, EnterWakeSection, Scans}
use Rattle.parking_lot_protocol.specs.declared.rw_phase.RwPhase.TheVariants.{Stores, Appends, DrainAppends}
use Rattle.parking_lot_protocol.specs.Acts.{word_after}
use Rattle.parking_lot_protocol.specs.RwTable.{act_of, next_phase, is_parked, is_writer_parked, is_barred, has_readers}
use Rattle.parking_lot_protocol.specs.RwRules.{QueuePosition, Listed, role, Move, Stays, Makes, IsWoken, move}
use Rattle.parking_lot_protocol.specs.RwRules.{admission, try_admission, mode_of, IsMove, IsReady, IsTold, MayAsk, Fits}
use Rattle.parking_lot_protocol.proofs.RwWords.{parts}
use Rattle.parking_lot_protocol.proofs.RwFollowing.{follows}
use Rattle.parking_lot_machine.specs.RowFits.{Asks, rw_prepared}
use Rattle.parking_lot_machine.specs.RwLaws.{WordsAreNumbers, Meets, IsCounted, IsMoved, AnswersAreMoves, NobodyIs}
use Rattle.parking_lot_machine.specs.RwLaws.{Finds, StaysAreSteps, MakesAreSteps, JoinsAreSteps}

-- WORDS AND NUMBERS

bits : (x : ℕ) → IsWord (word_of x)
bits x = record { writer = omega arith; upgradable = omega arith; parked2 = omega arith; parked1 = omega arith }

pub number-word : (x : ℕ) → number (word_of x) ≡ x
number-word x = omega arith

pub word-number : (w : Word) → IsWord w → word_of (number w) ≡ w
word-number w h = let a = parts w (number w) h refl in
    λ i. record {
      readers = a.readers i;
      writer = a.writer i;
      upgradable = a.upgradable i;
      parked2 = a.parked2 i;
      parked1 = a.parked1 i;
    }

pub words_are_numbers : WordsAreNumbers
words_are_numbers = record { whole = number-word; bits = bits; parts = word-number }

pub sound_word : (l : Lock) → IsSound l → IsWord l.word
sound_word l h = let f = h.fits in
    record { writer = omega (arith, f.one); upgradable = omega (arith, f.one); parked2 = f.bit2; parked1 = f.bit1 }

-- FEW READERS

handed_most : (p : rules.Phase) → done Readers p ≤ 1
handed_most (rules.Taken1 rules.Shared by rules.Handed s) = omega arith
handed_most (rules.Taken1 rules.Exclusive by rules.Handed s) = omega arith
handed_most (rules.Taken1 rules.Upgradable by rules.Handed s) = omega arith
handed_most (rules.Taken1 m by rules.Open s) = omega arith
handed_most (rules.Taken1 m by rules.Normal s) = omega arith
handed_most p = omega arith

held_is : (o : Owned) → owned Readers o ≡ shared_holds o
held_is (Shares n) = refl
held_is Excludes = refl
held_is Upgrades = refl

readers_most : (r : Role) → weight Readers r ≤ shared_holds r.owns + 1
unfolding weight
readers_most r = omega (arith, held_is r.owns, handed_most r.does)

pub total_most : (k : ℕ) (rs : List Role) → ((u : ℕ) (r : Role) → slice_get rs u ≡ Some r → shared_holds r.owns ≤ k)
    → total Readers rs ≤ (k + 1) * length rs
total_most k [] few = omega arith
total_most k (r ∷ rs) few =
    let one : shared_holds r.owns ≤ k = few 0 r refl in
    let more : total Readers rs ≤ (k + 1) * length rs = total_most k rs (λ u x at. few (suc u) x at) in
    omega (arith, one, more, readers_most r, sum_by-cons (weight Readers) r rs, mul-suc (k + 1) (length rs))

-- WHAT FITS A PHASE

holds_weigh : (n : ℕ) (o : Owned) (p : rules.Phase) → o ≡ Shares n → n ≤ weight Readers (record { owns = o; does = p })
unfolding weight
holds_weigh n o p e = omega (arith, ap (owned Readers) e)

-- the word counts a reader's holds
pub holds_counted : (l : Lock) (t n : ℕ) (r : Role) → IsSound l → slice_get l.roles t ≡ Some r → r.owns ≡ Shares n
    → n ≤ l.word.readers
holds_counted l t n r h at e =
    let f = h.fits in
    let own = total-at l.roles t _ at Readers in
    omega (arith, f.readers, own, holds_weigh n r.owns r.does e)

asks : (recursive : Bool) (l : Lock) (t n : ℕ) (p : rules.Phase) (want : LockMode) → IsSound l
    → slice_get l.roles t ≡ Some (record { owns = Shares n; does = p }) → Asks recursive n want
    → MayAsk recursive n want l.word
asks recursive l t n p (LockMode.Shared true) h at m =
    (m, holds_counted l t n (record { owns = Shares n; does = p }) h at refl)
asks recursive l t n p (LockMode.Shared false) h at m = m
asks recursive l t n p LockMode.Exclusive h at m = m

shares_weigh : (n : ℕ) → weight Readers (record { owns = Shares (n + 1); does = rules.Idle }) ≡ n + 1
unfolding weight
shares_weigh n = omega arith

writes_weigh : weight Writers (record { owns = Excludes; does = rules.Idle }) ≡ 1
unfolding weight
writes_weigh = refl

fits_word : (recursive : Bool) (l : Lock) (t n : ℕ) (spot : QueuePosition) (us : List ℕ) (p : RwPhase) → IsSound l
    → slice_get l.roles t ≡ Some (role n spot us p) → rw_prepared recursive n us p → Fits recursive n us p l.word
fits_word recursive l t n spot us (Locking a) h at m = asks recursive l t n _ a h at m
fits_word recursive l t n spot us (Trying a) h at m = asks recursive l t n _ a h at m
fits_word recursive l t n spot us (Loads a) h at m = asks recursive l t n _ a.want h at m
fits_word recursive l t n spot us (Admits a word) h at m = asks recursive l t n _ a.want h at m
fits_word recursive l t n spot us (Spins a) h at m = asks recursive l t n _ a.want h at m
fits_word recursive l t n spot us (SetParked a word) h at m = asks recursive l t n _ a.want h at m
fits_word recursive l t n spot us (TryLoads a) h at m = asks recursive l t n _ a h at m
fits_word recursive l t n spot us (TryAdmits a word left) h at m = asks recursive l t n _ a h at m
fits_word recursive l t n spot us (Refuses a) h at m = asks recursive l t n _ a h at m
fits_word recursive l t n spot us (Relocks a) h at m = asks recursive l t n _ a h at m
fits_word recursive l t n spot us (Unshares rest) h at m =
    let f = h.fits in
    let own = total-at l.roles t _ at Readers in
    let one = shares_weigh n in
    omega (arith, f.readers, own, one)
fits_word recursive l t n spot us Downgrades h at m =
    let f = h.fits in
    let own = total-at l.roles t _ at Writers in
    omega (arith, f.writer, f.one, own, writes_weigh)
fits_word recursive l t n spot us p h at m = m

module _ (recursive : Bool) (l : Lock) (t n : ℕ) (spot : QueuePosition) (us : List ℕ) (p : RwPhase) (x : ℕ)
    (h : Meets recursive l t n spot us p x) where
  pub few_readers : l.word.readers < 2 ^ 60 - 1
  few_readers = let f = h.sound.fits in
      omega (arith, f.readers, f.upgradable, f.one, total_most 256 l.roles h.few, h.threads)

  pub fits : Fits recursive n us p l.word
  fits = fits_word recursive l t n spot us p h.sound h.here h.prepared

  pub number_is : number l.word ≡ x
  number_is = ap number h.word ∙ number-word x

  -- one that asks finds its holds counted
  pub counted : IsCounted n p x
  counted e =
      let readers : l.word.readers ≡ x / 16 = ap (λ (w : Word). w.readers) h.word in (
        omega (arith, readers, holds_counted l t n (role n spot us p) h.sound h.here e),
        omega (arith, readers, few_readers),
      )

  pub moved : (s : ActResult) → IsTold p x s → IsMoved recursive l n us p x s
  moved s told =
      let P : ℕ → Type 0 = λ y. IsTold p y s → IsMove recursive (move n us p s) n us p (next_phase p s) l.word
      (word_after (act_of p) s y) × IsReady (next_phase p s) in
      subst P number_is (follows p s recursive n us l.word h.ready (sound_word l h.sound) few_readers fits) told

pub answers_are_moves : AnswersAreMoves
answers_are_moves recursive l t n spot us p x s h told = (
  fits recursive l t n spot us p x h,
  few_readers recursive l t n spot us p x h,
  moved recursive l t n spot us p x h s told,
)

-- STEPS

-- the move that is named is the one that is made
pub named : (recursive : Bool) (l : Lock) (n : ℕ) (us : List ℕ) (p : RwPhase) (x : ℕ) (s : ActResult) (m : Move)
    → move n us p s ≡ m → IsMoved recursive l n us p x s → IsMove recursive m n us p (next_phase p s) l.word
    (word_after (act_of p) s x)
named recursive l n us p x s m e h =
    subst (λ k. IsMove recursive k n us p (next_phase p s) l.word (word_after (act_of p) s x)) e h.0

pub stays_are_steps : StaysAreSteps
stays_are_steps recursive l t n spot us p x s h told e =
    let m = named recursive l n us p x s Stays e (moved recursive l t n spot us p x h s told) in
    (m.0 spot, m.1 ∙ number_is recursive l t n spot us p x h)

-- a move that the thread itself makes
abbrev pub IsOwn : Move → Type 0
IsOwn (IsWoken k) = ⊥
IsOwn m = Unit {0}

-- it isn't asleep then
pub awake : (n : ℕ) (spot : QueuePosition) (us : List ℕ) (p : RwPhase) (x : ℕ) (s : ActResult) → IsTold p x s
    → IsOwn (move n us p s) → role n spot us p ≡ role n Listed us p
awake n spot us (Sleeps want) x (ActResult.Woken token) told own = absurd own
awake n spot us (Sleeps want) x s told own = absurd told
awake n spot us (DrainSleeps rounds) x s told own = absurd own
awake n spot us p x s told own = refl

-- the word of a sound lock, from its number
pub same_word : (l : Lock) → IsSound l → (word : ℕ) → word ≡ number l.word → l.word ≡ word_of word
same_word l h word e = sym (ap word_of e ∙ word-number l.word (sound_word l h))

-- nobody is of a class of which no thread is
pub nobody : (c : Class) (rs : List Role) → NobodyIs c rs → total c rs ≡ 0
nobody c [] none = refl
nobody c (r ∷ rs) none =
    omega (arith, sum_by-cons (weight c) r rs, none 0 r refl, nobody c rs (λ u x at. none (suc u) x at))

-- what a step asks of all threads
abbrev pub Clears : Plain → Lock → Type 0
Clears (Enter1 m c) l = NobodyIs Inside1 l.roles
Clears (Reenter1 m) l = NobodyIs Inside1 l.roles
Clears (ReenterTaken1 m by how) l = NobodyIs Inside1 l.roles
Clears (Enter2 f c) l = NobodyIs Inside2 l.roles
Clears (Reenter2 f) l = NobodyIs Inside2 l.roles
Clears (ReenterTaken2 f by) l = NobodyIs Inside2 l.roles
Clears (Look2 n) l = NobodyIs Inside2 l.roles
Clears (Mask2 n us) l = l.second ≡ []
Clears LookExclusive l = NobodyIs Inside1 l.roles
Clears LookUpgradable l = NobodyIs Inside1 l.roles
Clears (LookOwed o) l = NobodyIs Inside1 l.roles
Clears k l = Unit {0}

pub may_all : (recursive : Bool) (l : Lock) → IsSound l → (k : Plain) → May recursive k l.word (λ c. 0) → Clears k l
    → May recursive k l.word (λ c. total c l.roles)
may_all recursive l h (Enter1 m c) may clear = nobody Inside1 l.roles clear
may_all recursive l h (Reenter1 m) may clear = nobody Inside1 l.roles clear
may_all recursive l h (ReenterTaken1 m by how) may clear = nobody Inside1 l.roles clear
may_all recursive l h (Enter2 f c) may clear = nobody Inside2 l.roles clear
may_all recursive l h (Reenter2 f) may clear = nobody Inside2 l.roles clear
may_all recursive l h (ReenterTaken2 f by) may clear = nobody Inside2 l.roles clear
may_all recursive l h (Look2 n) may clear = nobody Inside2 l.roles clear
may_all recursive l h (Mask2 n us) may clear = sym h.waiting2.count ∙ ap (λ q. length q) clear
may_all recursive l h LookExclusive may clear = nobody Inside1 l.roles clear
may_all recursive l h LookUpgradable may clear = nobody Inside1 l.roles clear
may_all recursive l h (LookOwed o) may clear = nobody Inside1 l.roles clear
may_all recursive l h k may clear = may

-- what the act finds is what the step asks for
abbrev pub MoveClears : Move → Lock → Type 0
MoveClears (Makes k) l = Clears k l
MoveClears m l = Unit {0}

drains : (l : Lock) (d : Draining) (b : Bool) → MoveClears (cond b Stays (Makes (plain.Drain false d.woken))) l
drains l d true = tt
drains l d false = tt

pub finds : (l : Lock) (n : ℕ) (us : List ℕ) (p : RwPhase) (x : ℕ) (s : ActResult) → IsTold p x s → Finds (act_of p) l
    → MoveClears (move n us p s) l
finds l n us (Enters a woken) x s told found = found
finds l n us (DrainEnters d) x s told found = found
finds l n us (EnterWriterWakeSection rest) x s told found = found
finds l n us (ClearWriterParked rest taken) x s told found = found
finds l n us (LooksExclusive fair rest) x s told found = found
finds l n us EnterWakeSection x s told found = found
finds l n us (Locking a) x s told found = tt
finds l n us (Trying a) x s told found = tt
finds l n us (Admits a word) x ActResult.Exchanged told found = admits a.want
  where
    admits : (q : LockMode) → MoveClears (Makes (admission n q a.woken)) l
    admits (LockMode.Shared recursive) = tt
    admits LockMode.Exclusive = tt
finds l n us (SetParked a word) x ActResult.Exchanged told found = tt
finds l n us (Checks a woken) x (ActResult.Word word) told found = go (is_barred a word && is_parked word)
  where
    go : (b : Bool) → MoveClears (cond b (Makes (plain.Check1 (mode_of a) woken)) Stays) l
    go true = tt
    go false = tt
finds l n us (DrainLoads d) x (ActResult.Word word) told found = drains l d (has_readers word)
finds l n us (DrainSetParked d flagged) x (ActResult.Word word) told found = drains l d (has_readers word)
finds l n us (DrainChecks d) x (ActResult.Word word) told found = go (has_readers word && is_writer_parked word)
  where
    go : (b : Bool) → MoveClears (cond b (Makes (plain.Check2 false d.woken)) Stays) l
    go true = tt
    go false = tt
finds l n us (TryAdmits a word left) x ActResult.Exchanged told found = admits a
  where
    admits : (q : LockMode) → MoveClears (Makes (try_admission n q)) l
    admits (LockMode.Shared recursive) = tt
    admits LockMode.Exclusive = tt
finds l n us (Unshares rest) x (ActResult.Before word) told found = go (word / 16 == 1 && is_writer_parked word)
  where
    go : (b : Bool) → Clears (cond b (plain.UnshareLast n) (plain.Unshare n)) l
    go true = tt
    go false = tt
finds l n us (TakeWriter rest) x (ActResult.Took (Some token) left) told found = tt
finds l n us (Scans a) x (ActResult.Took (Some token) left) told found = tt
finds l n us (Sleeps a) x (ActResult.Woken token) told found = tt
finds l n us (DrainSetParked d flagged) x ActResult.Exchanged told found = tt
finds l n us (Unlocks fair rest) x ActResult.Exchanged told found = tt
finds l n us Downgrades x (ActResult.Before word) told found = tt
finds l n us (Stores a left) x (ActResult.Stored fair) told found = tt
finds l n us p x s told found = tt

pub makes_are_steps : MakesAreSteps
makes_are_steps recursive l t n spot us p x s k h told e found =
    let m = named recursive l n us p x s (Makes k) e (moved recursive l t n spot us p x h s told) in
    let q = next_phase p s in
    let w = word_after (act_of p) s x in
    let own : IsOwn (move n us p s) = subst IsOwn (sym e) tt in
    let from_k : slice_get l.roles t ≡ Some (from k) = h.here
    ∙ ap (λ r. Some r) (awake n spot us p x s told own ∙ m.from) in
    let may : May recursive k l.word (λ c. total c l.roles) = may_all recursive l h.sound k m.may
    (subst (λ c. MoveClears c l) e (finds l n us p x s told found)) in
    let same : written k l.word ≡ word_of w = same_word (after t (Alone k) l)
    (step_sound recursive t (Alone k) l h.sound (from_k, may)) w m.written in
    ((from_k, may), λ i. record l { word = same i; roles = slice_set l.roles t (sym m.to i) })

-- one that joins
pub joins_are_steps : JoinsAreSteps
joins_are_steps = record {
  first = λ recursive l t n spot us want x h.
      let m = (moved recursive l t n spot us (Appends want) x h ActResult.Made tt).0 in (
        (h.here ∙ ap (λ r. Some r) m.0, tt),
        λ i. record l { word = h.word i; roles = slice_set l.roles t (sym m.1 i); first = l.first ++ t ∷ [] },
      );
  second = λ recursive l t n spot us rounds x h.
      let m = (moved recursive l t n spot us (DrainAppends rounds) x h ActResult.Made tt).0 in (
        (h.here ∙ ap (λ r. Some r) m.0, tt),
        λ i. record l { word = h.word i; roles = slice_set l.roles t (sym m.1 i); second = l.second ++ t ∷ [] },
      );
}
