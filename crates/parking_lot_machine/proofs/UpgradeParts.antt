-- The part of an upgradable call that goes through the first list: what it hears there, whom it wants, and what it
-- knows.
use Rattle.std.proofs.Common.{◌≡◌, ℕ, ◌+◌, ◌-◌, ◌*◌, ◌/◌, ◌%◌, ◌^◌, ◌&&◌, inl, inr, nat_lt, not, Bool, true, false}
use Rattle.std.proofs.Common.{cond, List, [], ◌∷◌, length, Some, None, refl, sym, ap, ◌∙◌, subst, arith}
use Rattle.std.specs.Prelude.{min}
use Rattle.std.specs.Option.{option_map_or}
use Rattle.parking_lot_core_model.specs.Results.{is_left}
use Rattle.parking_lot_core_model.specs.declared.parking.FilterOp.{FilterOp}
use Rattle.parking_lot_core_model.specs.declared.parking.FilterOp.TheVariants.{Unpark}
use Rattle.parking_lot_core_model.specs.declared.parking.ParkToken.{ParkToken}
use Rattle.parking_lot_core_model.specs.declared.place.Waiter.{Waiter}
use Rattle.parking_lot_rules.specs.Classes.{bit}
use Rattle.parking_lot_protocol.specs.Acts.{Gives}
use Rattle.parking_lot_protocol.specs.RwRules.{IsToken}
use Rattle.parking_lot_protocol.specs.RwTable as rt
use Rattle.parking_lot_protocol.specs.Wake.{wake_answer}
use Rattle.parking_lot_protocol.specs.declared.act.Act.{Act}
use Rattle.parking_lot_protocol.specs.declared.act.ActResult.{ActResult}
use Rattle.parking_lot_protocol.specs.declared.act.CoreAnswer.{CoreAnswer}
use Rattle.parking_lot_protocol.specs.declared.rw_phase.AfterWake.{AfterWake}
use Rattle.parking_lot_protocol.specs.declared.rw_phase.RwPhase.{RwPhase}
use Rattle.parking_lot_protocol.specs.declared.rw_phase.Scanning.{Scanning}
use Rattle.parking_lot_protocol_rw.specs.UpgradeLooks.{CanHaveTaken}
use Rattle.parking_lot_protocol_rw.specs.UpgradeRules.{IsFreeing, IsOwing, IsShown}
use Rattle.parking_lot_protocol_rw.specs.UpgradeTable as ut
use Rattle.parking_lot_protocol_rw.specs.declared.upgrade_phase.Hold.{Hold}
use Rattle.parking_lot_protocol_rw.specs.declared.upgrade_phase.Release.{Release}
use Rattle.parking_lot_protocol_rw.specs.declared.upgrade_phase.UpgradePhase.{UpgradePhase}
use Rattle.parking_lot_machine.specs.Passes.{ArePassed, look_by}
use Rattle.parking_lot_machine.specs.RowFits.{keeps_hold, scan_keeps, scan_knows, sees_upgradable}
use Rattle.parking_lot_machine.proofs.RwTaking.{bits_of, by_bits, scans_go_by_tokens}

-- what holds of both holds of either
pub pick : {X : Type 0} (P : X → Type 0) (b : Bool) (x y : X) → P x → P y → P (cond b x y)
pick P true x y h k = h
pick P false x y h k = k

-- WHAT IT HEARS

abbrev pub PartTold : RwPhase → ActResult → Type 0
PartTold (RwPhase.LooksExclusive fair rest) ActResult.Entered = Unit {0}
PartTold RwPhase.EnterWakeSection ActResult.Entered = Unit {0}
PartTold (RwPhase.Scans a) (ActResult.Took token left) = IsToken token
PartTold (RwPhase.Stores a left) (ActResult.Stored fair) = Unit {0}
PartTold (RwPhase.Leaves rest count handed) ActResult.Made = Unit {0}
PartTold (RwPhase.Wakes rest count) ActResult.Made = Unit {0}
PartTold q s = ⊥

frees_over : (r : Release) (x : ℕ) (s : ActResult) → ut.is_again r ≡ false
    → Gives (cond (ut.is_again r) Act.Load (Act.Done CoreAnswer.Released)) x s → ⊥
frees_over r x s k g = subst (λ b. Gives (cond b Act.Load (Act.Done CoreAnswer.Released)) x s) k g

pub frees_told : (r : Release) (q : RwPhase) (x : ℕ) (s : ActResult) → ut.is_again r ≡ false → IsFreeing q
    → IsShown q (UpgradePhase.Frees r (record { phase = q })) x s → PartTold q s
frees_told r (RwPhase.LooksExclusive fair rest) x ActResult.Entered k i g = tt
frees_told r (RwPhase.LooksExclusive fair rest) x s k i g = absurd g
frees_told r (RwPhase.Scans a) x (ActResult.Took token left) k i g = g
frees_told r (RwPhase.Scans a) x s k i g = absurd g
frees_told r (RwPhase.Stores a left) x (ActResult.Stored fair) k i g = tt
frees_told r (RwPhase.Stores a left) x s k i g = absurd g
frees_told r (RwPhase.Leaves rest count handed) x ActResult.Made k i g = tt
frees_told r (RwPhase.Leaves rest count handed) x s k i g = absurd g
frees_told r (RwPhase.Wakes rest count) x ActResult.Made k i g = tt
frees_told r (RwPhase.Wakes rest count) x s k i g = absurd g
frees_told r (RwPhase.Finishes rest) x s k i g = absurd (frees_over r x s k g)
frees_told r q x s k i g = absurd i

pub owes_told : (kept : Hold) (end : CoreAnswer) (q : RwPhase) (x : ℕ) (s : ActResult) → IsOwing q
    → IsShown q (UpgradePhase.Owes kept end (record { phase = q })) x s → PartTold q s
owes_told kept end RwPhase.EnterWakeSection x ActResult.Entered i g = tt
owes_told kept end RwPhase.EnterWakeSection x s i g = absurd g
owes_told kept end (RwPhase.Scans a) x (ActResult.Took token left) i g = g
owes_told kept end (RwPhase.Scans a) x s i g = absurd g
owes_told kept end (RwPhase.Stores a left) x (ActResult.Stored fair) i g = tt
owes_told kept end (RwPhase.Stores a left) x s i g = absurd g
owes_told kept end (RwPhase.Leaves rest count handed) x ActResult.Made i g = tt
owes_told kept end (RwPhase.Leaves rest count handed) x s i g = absurd g
owes_told kept end (RwPhase.Wakes rest count) x ActResult.Made i g = tt
owes_told kept end (RwPhase.Wakes rest count) x s i g = absurd g
owes_told kept end (RwPhase.Finishes rest) x s i g = absurd g
owes_told kept end q x s i g = absurd i

-- WHOM IT WANTS

small_bits : (n : ℕ) → (n % 2 ^ 64 / 4 % 2 ≡ n / 4 % 2) × (n % 2 ^ 64 / 8 % 2 ≡ n / 8 % 2)
small_bits n = (omega arith, omega arith)

by_sum : (n k : ℕ) (u w : Bool) (token : ℕ) → n ≡ 16 * k + 20 * bit u + 8 * bit w
    → wake_answer (n % 2 ^ 64) token ≡ look_by u w token
by_sum n k u w token e =
    let b = bits_of k u w in
    let m = small_bits n in
    by_bits (n % 2 ^ 64) token u w (m.0 ∙ ap (λ x. x / 4 % 2) e ∙ b.0) (m.1 ∙ ap (λ x. x / 8 % 2) e ∙ b.1)

-- at the sum that it asks with it answers by whom it sees
pub owes_sums : (kept : Hold) (a : Scanning) (token : ℕ) → CanHaveTaken kept a
    → wake_answer ((ut.kept_share kept + rt.taken_sum a) % 2 ^ 64) token ≡ look_by (sees_upgradable kept a) a.writer
    token
owes_sums Hold.Nothing a token can = by_sum _ a.shared a.upgradable a.writer token (omega arith)
owes_sums Hold.Shared a token can = by_sum _ (a.shared + 1) a.upgradable a.writer token (omega arith)
owes_sums Hold.Upgradable a token can = by_sum _ a.shared true a.writer token (omega (arith, ap bit can))
owes_sums Hold.Exclusive a token can = absurd can

pub frees_sums : (a : Scanning) (token : ℕ) → wake_answer (rt.sum_of a) token ≡ look_by (sees_upgradable Hold.Nothing a)
    a.writer token
frees_sums a token = scans_go_by_tokens.sums a token

-- whom it has taken it sees
pub sees_taken : (kept : Hold) (a : Scanning) → a.upgradable ≡ true → sees_upgradable kept a ≡ true
sees_taken Hold.Nothing a e = e
sees_taken Hold.Shared a e = e
sees_taken Hold.Upgradable a e = refl
sees_taken Hold.Exclusive a e = e

-- WHAT IT KEEPS

pub fresh_scan : (kept : Hold) → keeps_hold kept → (fair : Bool) (rest : AfterWake)
    → CanHaveTaken kept (rt.scans_for fair rest)
fresh_scan Hold.Nothing k fair rest = tt
fresh_scan Hold.Shared k fair rest = tt
fresh_scan Hold.Upgradable k fair rest = refl
fresh_scan Hold.Exclusive k fair rest = absurd k

can_count : (kept : Hold) (a : Scanning) (n : ℕ) → CanHaveTaken kept a → CanHaveTaken kept (record a { shared = n })
can_count Hold.Nothing a n h = tt
can_count Hold.Shared a n h = tt
can_count Hold.Upgradable a n h = h
can_count Hold.Exclusive a n h = h

can_write : (kept : Hold) (a : Scanning) → CanHaveTaken kept a → CanHaveTaken kept (record a { writer = true })
can_write Hold.Nothing a h = tt
can_write Hold.Shared a h = tt
can_write Hold.Upgradable a h = h
can_write Hold.Exclusive a h = h

skipped_wanted : (w : Bool) → look_by true w 20 ≡ Unpark → ⊥
skipped_wanted true e = cc
skipped_wanted false e = cc

can_upgrade : (kept : Hold) (a : Scanning) → CanHaveTaken kept a → look_by (sees_upgradable kept a) a.writer 20 ≡ Unpark
    → CanHaveTaken kept (record a { upgradable = true })
can_upgrade Hold.Nothing a h e = tt
can_upgrade Hold.Shared a h e = tt
can_upgrade Hold.Upgradable a h e = absurd (skipped_wanted a.writer e)
can_upgrade Hold.Exclusive a h e = h

goes_keeps : (kept : Hold) (b : Scanning) (left : Bool) → CanHaveTaken kept b → scan_keeps kept (rt.goes_on left b)
goes_keeps kept b left can = go left b.writer refl
  where
    go : (x y : Bool) → b.writer ≡ y → scan_keeps kept (cond (x && not y) (RwPhase.Scans b) (RwPhase.Stores b left))
    go true false w = (w, can)
    go true true w = can
    go false y w = can

abbrev TakesTo : Scanning → ℕ → Bool → RwPhase
TakesTo a token left = option_map_or (λ q. q) (rt.scans a (Some (record { 0 = token })) left) RwPhase.Invalid

-- one that is shown somebody wants it
abbrev pub PartWants : Hold → RwPhase → ActResult → Type 0
PartWants kept (RwPhase.Scans a) (ActResult.Took (Some token) left) = look_by (sees_upgradable kept a) a.writer token.0
    ≡ Unpark
PartWants kept q s = Unit {0}

takes_keep : (kept : Hold) (a : Scanning) (token : ParkToken) (left : Bool) → CanHaveTaken kept a → IsToken (Some token)
    → look_by (sees_upgradable kept a) a.writer token.0 ≡ Unpark → scan_keeps kept (TakesTo a token.0 left)
takes_keep kept a token left can (inl e) want = subst (λ n. scan_keeps kept (TakesTo a n left)) (sym e)
    (goes_keeps kept (record a { shared = min (a.shared + 1) (2 ^ 32 - 1) }) left
    (can_count kept a (min (a.shared + 1) (2 ^ 32 - 1)) can))
takes_keep kept a token left can (inr (inl e)) want = subst (λ n. scan_keeps kept (TakesTo a n left)) (sym e)
    (goes_keeps kept (record a { writer = true }) left (can_write kept a can))
takes_keep kept a token left can (inr (inr e)) want =
    subst (λ n. scan_keeps kept (TakesTo a n left)) (sym e)
    (goes_keeps kept (record a { upgradable = true }) left
    (can_upgrade kept a can (ap (look_by (sees_upgradable kept a) a.writer) (sym e) ∙ want)))

pub part_keeps : (kept : Hold) (q : RwPhase) (s : ActResult) → keeps_hold kept → PartTold q s → scan_keeps kept q
    → PartWants kept q s → scan_keeps kept (rt.next_phase q s)
part_keeps kept (RwPhase.LooksExclusive fair rest) ActResult.Entered hold told k want =
    (refl, fresh_scan kept hold fair rest)
part_keeps kept RwPhase.EnterWakeSection ActResult.Entered hold told k want =
    (refl, fresh_scan kept hold false AfterWake.Downgraded)
part_keeps kept (RwPhase.Scans a) (ActResult.Took (Some token) left) hold told k want = takes_keep kept a token left k.1
    told want
part_keeps kept (RwPhase.Scans a) (ActResult.Took None left) hold told k want = k.1
part_keeps kept (RwPhase.Stores a left) (ActResult.Stored fair) hold told k want = tt
part_keeps kept (RwPhase.Leaves rest count handed) ActResult.Made hold told k want =
    pick (scan_keeps kept) (nat_lt 0 count) _ _ tt tt
part_keeps kept (RwPhase.Wakes rest count) ActResult.Made hold told k want =
    pick (scan_keeps kept) (nat_lt 0 (count - 1)) _ _ tt tt
part_keeps kept q s hold told k want = absurd told

-- WHAT IT KNOWS

-- What one that takes waiters learns of the list as it is after that: whether some are left, and that it passes all.
abbrev pub PartLearns : Hold → RwPhase → ActResult → List Waiter → Type 0
PartLearns kept (RwPhase.Scans a) (ActResult.Took (Some token) left) first = is_left first ≡ left
PartLearns kept (RwPhase.Scans a) (ActResult.Took None left) first = (is_left first ≡ left)
    × ArePassed (look_by (sees_upgradable kept a) a.writer) first (length first)
PartLearns kept q s first = Unit {0}

nobody_passed : (ask : ℕ → FilterOp) (first : List Waiter) → is_left first ≡ false → ArePassed ask first (length first)
nobody_passed ask [] e = λ i w low at. absurd (omega (arith, low))
nobody_passed ask (x ∷ first) e = absurd cc

goes_knows : (kept : Hold) (b : Scanning) (left : Bool) (first : List Waiter) → is_left first ≡ left
    → scan_knows kept (rt.goes_on left b) first
goes_knows kept b left first e = go left b.writer e refl
  where
    go : (x y : Bool) → is_left first ≡ x → b.writer ≡ y
        → scan_knows kept (cond (x && not y) (RwPhase.Scans b) (RwPhase.Stores b x)) first
    go true false e w = tt
    go true true e w = (e, inl w)
    go false y e w = (e, inr (nobody_passed (look_by (sees_upgradable kept b) b.writer) first e))

takes_know : (kept : Hold) (a : Scanning) (token : ParkToken) (left : Bool) (first : List Waiter) → IsToken (Some token)
    → is_left first ≡ left → scan_knows kept (TakesTo a token.0 left) first
takes_know kept a token left first (inl e) same = subst (λ n. scan_knows kept (TakesTo a n left) first) (sym e)
    (goes_knows kept (record a { shared = min (a.shared + 1) (2 ^ 32 - 1) }) left first same)
takes_know kept a token left first (inr (inl e)) same = subst (λ n. scan_knows kept (TakesTo a n left) first) (sym e)
    (goes_knows kept (record a { writer = true }) left first same)
takes_know kept a token left first (inr (inr e)) same = subst (λ n. scan_knows kept (TakesTo a n left) first) (sym e)
    (goes_knows kept (record a { upgradable = true }) left first same)

pub part_knows : (kept : Hold) (q : RwPhase) (s : ActResult) (first : List Waiter) → PartTold q s
    → PartLearns kept q s first → scan_knows kept (rt.next_phase q s) first
part_knows kept (RwPhase.LooksExclusive fair rest) ActResult.Entered first told l = tt
part_knows kept RwPhase.EnterWakeSection ActResult.Entered first told l = tt
part_knows kept (RwPhase.Scans a) (ActResult.Took (Some token) left) first told l = takes_know kept a token left first
    told l
part_knows kept (RwPhase.Scans a) (ActResult.Took None left) first told l = (l.0, inr l.1)
part_knows kept (RwPhase.Stores a left) (ActResult.Stored fair) first told l = tt
part_knows kept (RwPhase.Leaves rest count handed) ActResult.Made first told l = pick (λ q. scan_knows kept q first)
    (nat_lt 0 count) _ _ tt tt
part_knows kept (RwPhase.Wakes rest count) ActResult.Made first told l = pick (λ q. scan_knows kept q first)
    (nat_lt 0 (count - 1)) _ _ tt tt
part_knows kept q s first told l = absurd told
