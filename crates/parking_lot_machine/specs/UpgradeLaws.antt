-- What an upgradable call is told at a sound lock is a step of the rules there.
use Rattle.std.specs.Prelude.{◌≡◌, ◌<◌, ◌≤◌, ◌-◌, ◌/◌, ◌^◌, ℕ, Bool, true, List, [], ◌∷◌, ◌++◌, length, map, remove}
use Rattle.std.specs.Prelude.{Some, slice_get, slice_set}
use Rattle.parking_lot_core_model.specs.Results.{is_left}
use Rattle.parking_lot_rules.specs.Roles.{Owned, Shares, Excludes, Asleep, Stay, Idle, Open, Taken1, Role}
use Rattle.parking_lot_rules.specs.Classes.{inside}
use Rattle.parking_lot_rules.specs.Clauses.{word_of}
use Rattle.parking_lot_rules.specs.Holds.{shared_holds}
use Rattle.parking_lot_rules.specs.Lock.{Lock, IsSound}
use Rattle.parking_lot_rules.specs.Steps.{Alone, List_changes, MayList, first_after, second_after, Scan, scanning}
use Rattle.parking_lot_rules.specs.Steps.{MayTake, Take1, IsOver, Store, ends_saying, settle, Waking, waking_from}
use Rattle.parking_lot_rules.specs.Steps.{waking_to, Wake}
use Rattle.parking_lot_protocol.specs.Acts.{word_after}
use Rattle.parking_lot_protocol.specs.RwRules.{Move, Stays, Makes, Joins, TakesOne, TakesWriter, Tells, WakesOne}
use Rattle.parking_lot_protocol.specs.RwRules.{IsWoken, mark_for}
use Rattle.parking_lot_protocol.specs.Positions.{QueuePosition, Listed, Off}
use Rattle.parking_lot_protocol.specs.declared.act.Act.TheVariants.{Done}
use Rattle.parking_lot_protocol.specs.declared.act.ActResult.{ActResult}
use Rattle.parking_lot_protocol.specs.declared.act.ActResult.TheVariants as seen
use Rattle.parking_lot_protocol.specs.declared.act.CoreAnswer.{CoreAnswer}
use Rattle.parking_lot_protocol_rw.specs.declared.upgrade_phase.UpgradePhase.{UpgradePhase}
use Rattle.parking_lot_protocol_rw.specs.declared.upgrade_phase.UpgradePhase.TheVariants as u
use Rattle.parking_lot_protocol_rw.specs.UpgradeMoves.{move, last_move}
use Rattle.parking_lot_protocol_rw.specs.UpgradeRoles.{owned, owns, role}
use Rattle.parking_lot_protocol_rw.specs.UpgradeRules.{IsReady, IsTold}
use Rattle.parking_lot_protocol_rw.specs.UpgradeTable.{act_of, next_phase}
use Rattle.parking_lot_machine.specs.RwLaws.{count_shared, Finds, IsLastStep, IsStep, with_role, with_roles}
use Rattle.parking_lot_machine_calls.specs.Stances.{upgrade_begun}
use Rattle.parking_lot_core_model.specs.declared.parking.FilterOp.TheVariants.{Unpark}
use Rattle.parking_lot_machine.specs.Passes.{asks}
use Rattle.parking_lot_machine_calls.specs.Stances.{upgrade_taken}
use Rattle.parking_lot_machine.specs.RowFits.{upgrade_begins, upgrade_keeps, upgrade_prepared}
use Rattle.parking_lot_machine_calls.specs.CallKinds.{IsOfWorld}

-- Thread t is in that phase of an upgradable call at a sound lock whose word is the number x, and has taken the threads
-- us.
pub record MeetsUpgrade (l : Lock) (t n : ℕ) (spot : QueuePosition) (us : List ℕ) (p : UpgradePhase) (x : ℕ) : Type 0
  where
    pub sound : IsSound l
    pub word : l.word ≡ word_of x
    pub here : slice_get l.roles t ≡ Some (role n spot us p)
    pub ready : IsReady p
    pub prepared : upgrade_prepared us p
    pub threads : length l.roles < 2 ^ 18
    pub few : (v : ℕ) (q : Role) → slice_get l.roles v ≡ Some q → shared_holds q.owns ≤ 256

-- The move is a step of the rules at the lock, which leaves the thread in the role of its next phase and the word that
-- its act leaves: where it takes a waiter the rules may say at which index, and where it stores that nobody is left to
-- take. One that sleeps is woken as it was told.
abbrev pub UpgradeLeads : Bool → Move → ℕ → ℕ → QueuePosition → List ℕ → UpgradePhase → ActResult → ℕ → Lock → Type 0
UpgradeLeads recursive Stays t n spot us p s x l = (role n spot us (next_phase p s) ≡ role n spot us p)
    × (word_after (act_of p) s x ≡ x)
UpgradeLeads recursive (Makes k) t n spot us p s x l = Finds (act_of p) l
    → IsStep recursive t (Alone k) l (with_role l (word_after (act_of p) s x) t (role n Listed us (next_phase p s)))
UpgradeLeads recursive (Joins k) t n spot us p s x l =
    MayList k t l.first l.second → IsStep recursive t (List_changes k) l
    (record (with_role l (word_after (act_of p) s x) t (role n Listed us (next_phase p s)))
    { first = first_after k t l.first; second = second_after k t l.second })
UpgradeLeads recursive (TakesOne mode) t n spot us p s x l =
    (v : ℕ) → (scan : Scan) × (role n Listed us p ≡ scanning scan)
    × ((i : ℕ) (stay : Stay) → MayTake scan i v mode stay l.roles l.first
    → IsStep recursive t (Take1 scan i v mode stay) l
    (record (with_roles l (word_after (act_of p) s x) t (role n Listed (us ++ v ∷ []) (next_phase p s)) v
    (record { owns = Shares 0; does = Taken1 mode t Open stay })) { first = remove l.first i }))
UpgradeLeads recursive TakesWriter t n spot us p s x l = ⊥
UpgradeLeads recursive (Tells end left) t n spot us p s x l =
    is_left l.first ≡ left → (scan : Scan) × (role n Listed us p ≡ scanning scan)
    × (IsOver scan l.roles l.first → IsStep recursive t (Store end scan) l
    (record l {
      word = word_of (word_after (act_of p) s x);
      roles = slice_set (map (settle (ends_saying end)) l.roles) t
          (role n Listed us (next_phase p s));
    }))
UpgradeLeads recursive WakesOne t n spot us p s x l =
    (v : ℕ) (vs : List ℕ) (k : Waking) (stay : Stay) → us ≡ v ∷ vs → slice_get l.roles v ≡ Some (waking_from k t stay)
    → inside stay ≡ 0 → IsStep recursive t (Wake (owns n p) v vs k stay) l
    (record l {
      word = word_of x;
      roles = slice_set (slice_set l.roles v (waking_to k)) t
          (role n Listed vs (next_phase p s));
    })
UpgradeLeads recursive (IsWoken k) t n spot us p s x l = (by : ℕ)
    → (role n (Off by (mark_for k)) us p ≡ waking_from k by Asleep) × (role n Listed us (next_phase p s) ≡ waking_to k)

abbrev pub UpgradesAreSteps : Type 0
UpgradesAreSteps = (recursive : Bool) (l : Lock) (t n : ℕ) (spot : QueuePosition) (us : List ℕ) (p : UpgradePhase)
    (x : ℕ) (s : ActResult) → MeetsUpgrade l t n spot us p x → IsTold p x s
    → UpgradeLeads recursive (move n us p s) t n spot us p s x l × IsReady (next_phase p s)

-- WHERE IT ENDS, AND WHAT IT KEEPS

-- what one owns whose call is answered
abbrev pub upgrade_owned_after : UpgradePhase → Owned
upgrade_owned_after (u.Drains core) = Excludes
upgrade_owned_after (u.Owes hold answer core) = owned hold
upgrade_owned_after (u.Ends hold answer) = owned hold
upgrade_owned_after phase = Shares 0

-- The end of a call that has begun is a step of the rules or none, and leaves its thread with what it owns, in no call.
abbrev pub UpgradesEnd : Type 0
UpgradesEnd = (recursive : Bool) (l : Lock) (t n : ℕ) (spot : QueuePosition) (us : List ℕ) (p : UpgradePhase) (x : ℕ)
    (answer : CoreAnswer) → MeetsUpgrade l t n spot us p x → upgrade_begun p ≡ true → act_of p ≡ Done answer
    → IsLastStep recursive (last_move n p) l t (role n spot us p) x
    (record { owns = upgrade_owned_after p; does = Idle })

-- A scan is shown only whom it wants.
abbrev pub WantsTaken : UpgradePhase → ActResult → Type 0
WantsTaken p (seen.Took (Some token) left) = asks (act_of p) token.0 ≡ Unpark
WantsTaken p s = Unit {0}

-- how many readers a phase counts
abbrev pub upgrade_shared : UpgradePhase → ℕ
upgrade_shared (u.Frees release core) = count_shared core.phase
upgrade_shared (u.Owes kept answer core) = count_shared core.phase
upgrade_shared phase = 0

-- From its beginning to its end a call of a world stays one, and is ready. What its phase needs follows, where its
-- thread has taken as many as it counts.
pub record UpgradesKeep : Type 0 where
  pub begins : (p : UpgradePhase) → upgrade_begins p → (IsOfWorld p × IsReady p)
      × (IsOfWorld (next_phase p seen.Start) × IsReady (next_phase p seen.Start))
      × upgrade_keeps (next_phase p seen.Start)
  pub goes_on : (p : UpgradePhase) (x : ℕ) (s : ActResult) → upgrade_begun p ≡ true → IsReady p → IsOfWorld p
      → x / 16 < 2 ^ 60 - 1 → IsTold p x s → IsOfWorld (next_phase p s)
  pub keeps : (p : UpgradePhase) (x : ℕ) (s : ActResult) → IsReady p → IsOfWorld p → upgrade_keeps p → IsTold p x s
      → WantsTaken p s → upgrade_keeps (next_phase p s)
  pub prepared : (us : List ℕ) (p : UpgradePhase) → IsOfWorld p → length us ≡ upgrade_taken p
      → upgrade_shared p ≤ 2 ^ 18 → upgrade_prepared us p
