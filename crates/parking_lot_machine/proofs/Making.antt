-- What is a step of a lock is a step of the machine's family of locks, and keeps it sound: whichever move a call of any
-- kind makes.
use Rattle.std.proofs.Common.{◌≡◌, ◌≢◌, ℕ, inl, inr, Bool, true, false, List, [], ◌∷◌, length, Option, Some}
use Rattle.std.proofs.Common.{None, slice_get, refl, sym, ap, ◌∙◌, ◌%◌, subst}
use Rattle.std.proofs.lemmas.Bool.{cases_eq}
use Rattle.parking_lot_rules.specs.Roles.{Idle, Owned, Role, Stay}
use Rattle.parking_lot_rules.specs.Steps.{Alone, List_changes, Scan, Store, Take1, Take2, Wake}
use Rattle.parking_lot_rules.specs.Lock.{Lock}
use Rattle.parking_lot_rules.specs.Mutex as mutex
use Rattle.parking_lot_rules.specs.Any.{Rw, Mx, AnyStep, RwStep, MxStep, any_rules, AnySound, any_inside, any_crossing}
use Rattle.parking_lot_rules.specs.Any.{IsIdleAt, any_after, mutex_crossing}
use Rattle.parking_lot_rules.specs.Family.{Crossing, SoundFamilyOf, IsFree, entered_after, key}
use Rattle.parking_lot_protocol.specs.declared.act.ActResult.{ActResult}
use Rattle.parking_lot_protocol.specs.MutexRules as of_mutex
use Rattle.parking_lot_protocol.specs.RwRules as of_rw
use Rattle.parking_lot_machine_calls.specs.Kinds.{AsMutex, AsRw, manner_of, Manner, recursive_in}
use Rattle.parking_lot_machine_calls.specs.declared.calls.LockKind.{LockKind}
use Rattle.parking_lot_machine_calls.specs.declared.seat.Core.{Core}
use Rattle.parking_lot_machine.specs.Rows.{State, call_at, hold_at, taken_by, rw_lock_at, mutex_at, any_lock, lock_as}
use Rattle.parking_lot_machine.specs.Rows.{lock_at, bucket, entered_in, family}
use Rattle.parking_lot_machine.specs.MutexLaws as mutex_laws
use Rattle.parking_lot_machine.specs.RwLaws as rw_laws
use Rattle.parking_lot_machine.specs.RwLaws.{IsStep}
use Rattle.parking_lot_machine.specs.RowSteps.{IsLastOf, IsQuiet, IsMade, IsMoveOf, IsMutexMove, IsRwMove, store_step}
use Rattle.parking_lot_machine.specs.RowSteps.{wake_step_of}
use Rattle.parking_lot_rules.proofs.MutexCrossing.{families_stay_sound}
use Rattle.parking_lot_rules.proofs.Everybody.{was-all}
use Rattle.parking_lot_machine.proofs.KindTable.{Kind, of_rws, of_mutexes, IsThere, Elsewhere, elsewhere, idle_in}
use Rattle.parking_lot_machine.proofs.KindTable.{role_at, shown}
use Rattle.parking_lot_machine.proofs.Moves.{goes, ends}
use Rattle.parking_lot_machine.specs.LateActs.{unowed}

-- who has entered which bucket, as one sees it that is at a lock
pub record Entries : Type 0 where
  pub bucket : ℕ → ℕ
  pub lock : ℕ
  pub entered : ℕ → Option ℕ

abbrev pub entries : State → ℕ → Entries
entries s j = record { bucket = bucket s; lock = j; entered = entered_in s }

-- and once thread t has crossed so
abbrev pub Crossed : Crossing → ℕ → Entries → Entries → Type 0
Crossed c t old new = IsFree old.bucket old.entered old.lock c
    × ((b : ℕ) → new.entered b ≡ entered_after old.bucket old.entered old.lock t c b)

-- a thread that is at lock j does nothing at another
idle_any : (s : State) (t j : ℕ) → IsThere j (call_at s t) → (i : ℕ) → i ≢ j → (o : Option LockKind)
    → IsIdleAt (any_lock o s i) t
idle_any s t j there i ne o = go (manner_of o)
  where
    idle_rw : (r : Role) → slice_get (rw_lock_at s i).roles t ≡ Some r → r.does ≡ Idle
    idle_rw r h = ap (λ (x : Role). x.does)
        (was-all (role_at of_rws s i) (length s.calls) t r h ∙ idle_in of_rws i j ne (taken_by s.wakes t)
        (hold_at s t i) (call_at s t) there)

    go : (o : Option Manner) → IsIdleAt (lock_as o s i) t
    go None = idle_rw
    go (Some AsRw) = idle_rw
    go (Some AsMutex) = λ r h. ap (λ (x : mutex.Role). x.does)
        (was-all (role_at of_mutexes s i) (length s.calls) t r h ∙ idle_in of_mutexes i j ne (taken_by s.wakes t)
        (hold_at s t i) (call_at s t) there)

module _ {C R L : Type 0} (K : Kind C R L) (s u : State) (t j : ℕ) (there : IsThere j (call_at s t))
    (others : Elsewhere j s u) (k : manner_of (slice_get s.kinds j) ≡ Some K.manner) where
  shown_after : lock_at u j ≡ K.any (shown K u j)
  shown_after = ap (λ ks. any_lock (slice_get ks j) u j) others.kinds ∙ K.shows u j (slice_get s.kinds j) k

  pub made : (step : AnyStep) → (any_rules (recursive_in s.kinds)).allowed j t step (K.any (shown K s j))
      → K.any (shown K u j) ≡ any_after t step (K.any (shown K s j))
      → Crossed (any_crossing step) t (entries s j) (entries u j) → IsMade j t step s u
  made step allowed here crossed = record {
    allowed = subst ((any_rules (recursive_in s.kinds)).allowed j t step) (sym (K.shows s j (slice_get s.kinds j) k))
        allowed;
    free = crossed.0;
    idle = λ i ne. idle_any s t j there i ne (slice_get s.kinds i);
    here = shown_after ∙ here ∙ sym (ap (any_after t step) (K.shows s j (slice_get s.kinds j) k));
    elsewhere = λ i ne. elsewhere j s u others i ne;
    entered = crossed.1;
  }

  -- where nothing changes at lock j either
  pub quiet : shown K u j ≡ shown K s j → ((b : ℕ) → entered_in u b ≡ entered_in s b) → IsQuiet s u
  quiet here same = record {
    locks = λ i. elim (cases_eq i j) [
      | inl e ↦ subst (λ (n : ℕ). lock_at u n ≡ lock_at s n) (sym e)
          (shown_after ∙ ap K.any here ∙ sym (K.shows s j (slice_get s.kinds j) k))
      | inr ne ↦ elsewhere j s u others i ne
    ];
    entered = same;
  }

-- SOUND AS BEFORE

abbrev pub IsSoundState : State → Type 0
IsSoundState s = SoundFamilyOf AnySound any_inside (bucket s) (family s)

-- where there are as many buckets as before
as_many_sound : (s u : State) → u.lot.buckets ≡ s.lot.buckets
    → SoundFamilyOf AnySound any_inside (bucket s) (family u) → IsSoundState u
as_many_sound s u same h =
    subst (λ (n : ℕ). SoundFamilyOf AnySound any_inside (λ (key : ℕ). key % n) (family u)) (sym same) h

pub quiet_sound : (s u : State) → u.lot.buckets ≡ s.lot.buckets → IsQuiet s u → IsSoundState s → IsSoundState u
quiet_sound s u same q sound = as_many_sound s u same (record {
  sound = λ i. subst AnySound (sym (q.locks i)) (sound.sound i);
  entered = λ i k x h. q.entered (bucket s (key i k))
      ∙ sound.entered i k x (sym (ap (λ l. any_inside l k x) (q.locks i)) ∙ h);
  is_inside = λ b x h. let old = sound.is_inside b x (sym (q.entered b) ∙ h) in
      (old.0, old.1, old.2, ap (λ l. any_inside l old.1 x) (q.locks old.0) ∙ old.3);
})

pub made_sound : (s u : State) (t j : ℕ) (step : AnyStep) → u.lot.buckets ≡ s.lot.buckets → IsMade j t step s u
    → IsSoundState s → IsSoundState u
made_sound s u t j step same made sound = as_many_sound s u same
    (families_stay_sound (recursive_in s.kinds) (bucket s) j t step (family s) (family u) sound made)

-- whichever move it is
pub move_sound : (s u : State) (x : Core) (n : ℕ) (us : List ℕ) (told : ActResult) (j t : ℕ)
    → u.lot.buckets ≡ s.lot.buckets → IsMoveOf x n us told j t s u → IsSoundState s → IsSoundState u
move_sound s u x n us told j t same h sound = goes s u (λ t j. IsSoundState u)
    (λ t j q. quiet_sound s u same q sound)
    (λ t j step m. made_sound s u t j step same m sound)
    (λ t j by passing finding passes f. made_sound (unowed s t) u t j finding same f.1
    (made_sound s (unowed s t) by j passing refl f.0 sound)) x n us told j t h

pub last_sound : (s u : State) (x : Core) (n j t : ℕ) → u.lot.buckets ≡ s.lot.buckets → IsLastOf x n j t s u
    → IsSoundState s → IsSoundState u
last_sound s u x n j t same h sound = ends s u (λ t j. IsSoundState u) (λ t j q. quiet_sound s u same q sound)
    (λ t j step m. made_sound s u t j step same m sound) x n j t h

-- THE MOVES OF A READER-WRITER LOCK

-- The move of thread t leads from the one lock to the other.
abbrev pub RwLeadsBy : Bool → of_rw.Move → ℕ → Lock → Lock → Type 0
RwLeadsBy recursive of_rw.Stays t l n = n ≡ l
RwLeadsBy recursive (of_rw.Makes k) t l n = IsStep recursive t (Alone k) l n
RwLeadsBy recursive (of_rw.Joins k) t l n = IsStep recursive t (List_changes k) l n
RwLeadsBy recursive (of_rw.TakesOne mode) t l n = (scan : Scan) × (i v : ℕ) × (stay : Stay)
    × IsStep recursive t (Take1 scan i v mode stay) l n
RwLeadsBy recursive of_rw.TakesWriter t l n = (owns : Owned) × (v : ℕ) × (from : Bool) × (stay : Stay)
    × IsStep recursive t (Take2 owns v from stay) l n
RwLeadsBy recursive (of_rw.Tells end left) t l n = (scan : Scan) × IsStep recursive t (Store end scan) l n
RwLeadsBy recursive of_rw.WakesOne t l n = (owns : Owned) × (v : ℕ) × (us : List ℕ) × (k : _) × (stay : Stay)
    × IsStep recursive t (Wake owns v us k stay) l n
RwLeadsBy recursive (of_rw.IsWoken k) t l n = ⊥

-- one that wakes has somebody to wake
abbrev pub SomeFor : of_rw.Move → List ℕ → Type 0
SomeFor of_rw.WakesOne [] = ⊥
SomeFor m us = Unit {0}

pub rw_goes : (s u : State) (t j : ℕ) (m : of_rw.Move) (us : List ℕ) (n : Lock) → IsThere j (call_at s t)
    → Elsewhere j s u → manner_of (slice_get s.kinds j) ≡ Some AsRw → RwLeadsBy (recursive_in s.kinds j) m t
    (rw_lock_at s j) n → rw_lock_at u j ≡ n
    → Crossed (rw_laws.move_crossing m) t (entries s j) (entries u j) → SomeFor m us → IsRwMove m us j t s u
rw_goes s u t j of_rw.Stays us n there others k leads here crossed some = quiet of_rws s u t j there others k
    (here ∙ leads) crossed.1
rw_goes s u t j (of_rw.Makes x) us n there others k leads here crossed some = made of_rws s u t j there others k
    (RwStep (Alone x)) leads.0 (ap Rw (here ∙ sym leads.1)) crossed
rw_goes s u t j (of_rw.Joins x) us n there others k leads here crossed some = made of_rws s u t j there others k
    (RwStep (List_changes x)) leads.0 (ap Rw (here ∙ sym leads.1)) crossed
rw_goes s u t j (of_rw.TakesOne mode) us n there others k (scan, i, v, stay, leads) here crossed some = (
  scan,
  i,
  v,
  stay,
  made of_rws s u t j there others k (RwStep (Take1 scan i v mode stay)) leads.0
      (ap Rw (here ∙ sym leads.1)) crossed,
)
rw_goes s u t j of_rw.TakesWriter us n there others k (owns, v, from, stay, leads) here crossed some = (
  owns,
  v,
  from,
  stay,
  made of_rws s u t j there others k (RwStep (Take2 owns v from stay)) leads.0
      (ap Rw (here ∙ sym leads.1)) crossed,
)
rw_goes s u t j (of_rw.Tells end left) us n there others k (scan, leads) here crossed some =
    (scan, made of_rws s u t j there others k (RwStep (Store end scan)) leads.0 (ap Rw (here ∙ sym leads.1)) crossed)
rw_goes s u t j of_rw.WakesOne [] n there others k leads here crossed some = absurd some
rw_goes s u t j of_rw.WakesOne (first ∷ more) n there others k (owns, v, us, w, stay, leads) here crossed some = (
  owns,
  v,
  us,
  w,
  stay,
  made of_rws s u t j there others k (RwStep (Wake owns v us w stay)) leads.0
      (ap Rw (here ∙ sym leads.1)) crossed,
)
rw_goes s u t j (of_rw.IsWoken x) us n there others k leads here crossed some = absurd leads

-- THE MOVES OF A MUTEX

-- one that tells has taken those whom its phase says, and one that wakes has just the one to wake
abbrev pub TellsOf : of_mutex.Move → List ℕ → ℕ → Type 0
TellsOf (of_mutex.Tells taken handed left) us v = us ≡ of_mutex.taken_of v taken
TellsOf of_mutex.WakesOne us v = us ≡ v ∷ []
TellsOf m us v = Unit {0}

pub mutex_goes : (s u : State) (t j v : ℕ) (us : List ℕ) (n : mutex.Mutex) (m : of_mutex.Move) → IsThere j (call_at s t)
    → Elsewhere j s u → manner_of (slice_get s.kinds j) ≡ Some AsMutex
    → mutex_laws.LeadsBy m v t (mutex_at s j) n → mutex_at u j ≡ n
    → Crossed (mutex_laws.move_crossing m) t (entries s j) (entries u j) → TellsOf m us v → IsMutexMove m us j t s u
mutex_goes s u t j v us n of_mutex.Stays there others k leads here crossed tells = quiet of_mutexes s u t j there others
    k (here ∙ leads) crossed.1
mutex_goes s u t j v us n (of_mutex.Makes x) there others k leads here crossed tells =
    made of_mutexes s u t j there others k (MxStep (mutex.Alone x)) leads.0 (ap Mx (here ∙ sym leads.1)) crossed
mutex_goes s u t j v us n of_mutex.Joins there others k leads here crossed tells = made of_mutexes s u t j there others
    k (MxStep mutex.Join) leads.0 (ap Mx (here ∙ sym leads.1)) crossed
mutex_goes s u t j v us n of_mutex.TakesOne there others k (stay, leads) here crossed tells = (
  v,
  stay,
  made of_mutexes s u t j there others k (MxStep (mutex.Take v stay)) leads.0 (ap Mx (here ∙ sym leads.1))
      crossed,
)
mutex_goes s u t j v us n (of_mutex.Tells taken handed left) there others k leads here crossed tells =
    subst (λ (vs : List ℕ). IsMade j t (MxStep (store_step handed vs)) s u) (sym tells)
    (made of_mutexes s u t j there others k (MxStep (store_step handed (of_mutex.taken_of v taken))) leads.0
    (ap Mx (here ∙ sym leads.1)) (stores handed (of_mutex.taken_of v taken)))
  where
    stores : (b : Bool) (vs : List ℕ) → Crossed (mutex_crossing (store_step b vs)) t (entries s j) (entries u j)
    stores true (x ∷ vs) = crossed
    stores true [] = crossed
    stores false vs = crossed
mutex_goes s u t j v us n of_mutex.WakesOne there others k leads here crossed tells =
    subst (λ (vs : List ℕ). IsMutexMove of_mutex.WakesOne vs j t s u) (sym tells) (
      leads.0,
      v,
      [],
      leads.1,
      made of_mutexes s u t j there others k (MxStep (wake_step_of leads.1 leads.0 v []))
          leads.2.0 (ap Mx (here ∙ sym leads.2.1)) (wakes leads.0),
    )
  where
    wakes : (b : Bool) → Crossed (mutex_crossing (wake_step_of leads.1 b v [])) t (entries s j) (entries u j)
    wakes true = crossed
    wakes false = crossed
mutex_goes s u t j v us n (of_mutex.IsWoken handed) there others k leads here crossed tells = absurd leads
