-- The steps of the rules by which a moment passes at a reader-writer lock, and by which one comes back and takes itself
-- out: they leave the word, and go by whether it waits in the first list or in the second.
use Rattle.std.proofs.Common.{◌≡◌, ◌<◌, ℕ, Bool, true, false, List, length, remove, Option, Some, None, is_some}
use Rattle.std.proofs.Common.{slice_get, slice_set, refl}
use Rattle.parking_lot_rules.specs.Any.{Rw, RwStep, any_after, any_crossing}
use Rattle.parking_lot_rules.specs.Classes.{Inside1, Inside2, total}
use Rattle.parking_lot_rules.specs.Lock.{Lock}
use Rattle.parking_lot_rules.specs.Plain.{May, to}
use Rattle.parking_lot_rules.specs.Roles.{Mode, Mark}
use Rattle.parking_lot_rules.specs.Steps.{Alone, MayList, first_after, second_after}
use Rattle.parking_lot_machine_calls.specs.LateRoles.{expires_as, quitting_as, reenters_as, expires_taken_as, finds_as}
use Rattle.parking_lot_machine.specs.RwLaws.{NobodyIs}
use Rattle.parking_lot_rules.specs.Classes.{bit}
use Rattle.parking_lot_protocol.specs.declared.act.Act.{Act}
use Rattle.parking_lot_machine_calls.specs.Stances.{Stance}
use Rattle.parking_lot_machine.proofs.Making.{Crossed, Entries}
use Rattle.parking_lot_machine.proofs.OwnMoves.{AfterAct}
use Rattle.parking_lot_machine.proofs.RwMoving.{nobody}

-- ITS MOMENT PASSES

pub may_expire_so : (recursive : Bool) (o : Option Bool) (m : Mode) (l : Lock) → May recursive (expires_as o m) l.word
    (λ c. total c l.roles)
may_expire_so recursive None m l = tt
may_expire_so recursive (Some from) m l = tt

pub expire_writes : (o : Option Bool) (m : Mode) (l : Lock) (t : ℕ)
    → Rw (record l { roles = slice_set l.roles t (to (expires_as o m)) }) ≡ any_after t
    (RwStep (Alone (expires_as o m))) (Rw l)
expire_writes None m l t = refl
expire_writes (Some from) m l t = refl

pub expire_crosses : (o : Option Bool) (m : Mode) (t : ℕ) (old : Entries)
    → Crossed (any_crossing (RwStep (Alone (expires_as o m)))) t old old
expire_crosses None m t old = (tt, λ b. refl)
expire_crosses (Some from) m t old = (tt, λ b. refl)

-- and so where another has taken it
pub may_expire_off : (recursive : Bool) (o : Option Bool) (m : Mode) (by : ℕ) (mark : Mark) (l : Lock)
    → May recursive (expires_taken_as o m by mark) l.word (λ c. total c l.roles)
may_expire_off recursive None m by mark l = tt
may_expire_off recursive (Some from) m by mark l = tt

pub expire_off_writes : (o : Option Bool) (m : Mode) (by : ℕ) (mark : Mark) (l : Lock) (t : ℕ)
    → Rw (record l { roles = slice_set l.roles t (to (expires_taken_as o m by mark)) }) ≡ any_after t
    (RwStep (Alone (expires_taken_as o m by mark))) (Rw l)
expire_off_writes None m by mark l t = refl
expire_off_writes (Some from) m by mark l t = refl

pub expire_off_crosses : (o : Option Bool) (m : Mode) (by : ℕ) (mark : Mark) (t : ℕ) (old : Entries)
    → Crossed (any_crossing (RwStep (Alone (expires_taken_as o m by mark)))) t old old
expire_off_crosses None m by mark t old = (tt, λ b. refl)
expire_off_crosses (Some from) m by mark t old = (tt, λ b. refl)

-- IT COMES BACK

pub may_reenter_so : (recursive : Bool) (o : Option Bool) (m : Mode) (l : Lock)
    → (is_some o ≡ false → NobodyIs Inside1 l.roles) → (is_some o ≡ true → NobodyIs Inside2 l.roles)
    → May recursive (reenters_as o m) l.word (λ c. total c l.roles)
may_reenter_so recursive None m l first second = nobody Inside1 l.roles (first refl)
may_reenter_so recursive (Some from) m l first second = nobody Inside2 l.roles (second refl)

pub reenter_writes : (o : Option Bool) (m : Mode) (l : Lock) (t : ℕ)
    → Rw (record l { roles = slice_set l.roles t (to (reenters_as o m)) }) ≡ any_after t
    (RwStep (Alone (reenters_as o m))) (Rw l)
reenter_writes None m l t = refl
reenter_writes (Some from) m l t = refl

pub reenter_crosses : (o : Option Bool) (m : Mode) (t : ℕ) (old new : Entries) (a : Stance)
    → AfterAct a (Act.Enter (bit (is_some o))) t old new
    → Crossed (any_crossing (RwStep (Alone (reenters_as o m)))) t old new
reenter_crosses None m t old new a comes = comes
reenter_crosses (Some from) m t old new a comes = comes

-- and finds that it was taken
pub may_find_so : (recursive : Bool) (o : Option Bool) (m : Mode) (by : ℕ) (mark : Mark) (l : Lock)
    → (is_some o ≡ false → NobodyIs Inside1 l.roles) → (is_some o ≡ true → NobodyIs Inside2 l.roles)
    → May recursive (finds_as o m by mark) l.word (λ c. total c l.roles)
may_find_so recursive None m by mark l first second = nobody Inside1 l.roles (first refl)
may_find_so recursive (Some from) m by mark l first second = nobody Inside2 l.roles (second refl)

pub find_writes : (o : Option Bool) (m : Mode) (by : ℕ) (mark : Mark) (l : Lock) (t : ℕ)
    → Rw (record l { roles = slice_set l.roles t (to (finds_as o m by mark)) }) ≡ any_after t
    (RwStep (Alone (finds_as o m by mark))) (Rw l)
find_writes None m by mark l t = refl
find_writes (Some from) m by mark l t = refl

pub find_crosses : (o : Option Bool) (m : Mode) (by : ℕ) (mark : Mark) (t : ℕ) (old new : Entries) (a : Stance)
    → AfterAct a (Act.Enter (bit (is_some o))) t old new
    → Crossed (any_crossing (RwStep (Alone (finds_as o m by mark)))) t old new
find_crosses None m by mark t old new a comes = comes
find_crosses (Some from) m by mark t old new a comes = comes

-- IT TAKES ITSELF OUT

-- of the first list, as the last one of it or not, or of the second
pub record FirstQuits (left : Bool) (i t : ℕ) (first second first' second' : List ℕ) : Type 0 where
  pub stood : slice_get first i ≡ Some t
  pub more : left ≡ true → 1 < length first
  pub last : left ≡ false → length first ≡ 1
  pub out : first' ≡ remove first i
  pub still : second' ≡ second

pub record SecondQuits (i t : ℕ) (first second first' second' : List ℕ) : Type 0 where
  pub stood : slice_get second i ≡ Some t
  pub out : second' ≡ remove second i
  pub still : first' ≡ first

pub quit_lists : (o : Option Bool) (m : Mode) (left : Bool) (i t : ℕ) (first second first' second' : List ℕ)
    → (is_some o ≡ false → FirstQuits left i t first second first' second')
    → (is_some o ≡ true → SecondQuits i t first second first' second')
    → MayList (quitting_as o m left i) t first second × (first' ≡ first_after (quitting_as o m left i) t first)
    × (second' ≡ second_after (quitting_as o m left i) t second)
quit_lists None m true i t first second first' second' one two = let h = one refl in
    ((h.stood, h.more refl), h.out, h.still)
quit_lists None m false i t first second first' second' one two = let h = one refl in
    ((h.stood, h.last refl), h.out, h.still)
quit_lists (Some from) m left i t first second first' second' one two = let h = two refl in (h.stood, h.still, h.out)
