-- What a section does at a waiter is what the rules say.
use Rattle.std.proofs.Common.{◌≡◌, ◌<◌, ℕ, ◌+◌, ◌*◌, ◌%◌, ◌^◌, Bool, true, false, [], Some, refl, sym, ap, ◌∙◌, subst}
use Rattle.std.proofs.Common.{arith}
use Rattle.std.proofs.Math.Nat.{mod-eq_of_lt}
use Rattle.parking_lot_rules.specs.Classes.{bit}
use Rattle.parking_lot_rules.specs.Roles.{Mode, Owed}
use Rattle.parking_lot_rules.specs.Steps.{holds_upgradable, look}
use Rattle.parking_lot_protocol.proofs.WakeFollowing.{looks_rightly}
use Rattle.parking_lot_protocol.specs.RwTable.{sum_of, taken_sum}
use Rattle.parking_lot_protocol.specs.Wake.{wake_answer}
use Rattle.parking_lot_protocol.specs.WakeRules.{answer_to, token_of}
use Rattle.parking_lot_protocol.specs.declared.act.CoreAnswer.{CoreAnswer}
use Rattle.parking_lot_protocol.specs.declared.rw_phase.AfterWake.{AfterWake}
use Rattle.parking_lot_protocol.specs.declared.rw_phase.AfterWake.TheVariants.{FreedExclusive, Downgraded}
use Rattle.parking_lot_protocol.specs.declared.rw_phase.RwPhase.{RwPhase}
use Rattle.parking_lot_protocol.specs.declared.rw_phase.RwPhase.TheVariants as at
use Rattle.parking_lot_protocol.specs.declared.rw_phase.Scanning.{Scanning}
use Rattle.parking_lot_protocol_rw.specs.UpgradeLooks.{CanHaveTaken, LooksRightly, look_of, scan_as}
use Rattle.parking_lot_protocol_rw.specs.UpgradeRoles.{owned}
use Rattle.parking_lot_protocol_rw.specs.UpgradeTable.{act_of, core_at, kept_share}
use Rattle.parking_lot_protocol_rw.specs.declared.upgrade_phase.Hold.{Hold}
use Rattle.parking_lot_protocol_rw.specs.declared.upgrade_phase.Hold.TheVariants as hold
use Rattle.parking_lot_protocol_rw.specs.declared.upgrade_phase.Release.{Release}
use Rattle.parking_lot_protocol_rw.specs.declared.upgrade_phase.UpgradePhase.{UpgradePhase}
use Rattle.parking_lot_protocol_rw.specs.declared.upgrade_phase.UpgradePhase.TheVariants.{Frees, Owes}

-- the same sum is that of a scan by one that gives the exclusive hold up, or downgrades
abbrev Answers : ℕ → Bool → Bool → ℕ → Type 0
Answers sum u x token = (mode : Mode) → token ≡ token_of mode → wake_answer sum token ≡ answer_to (look u x mode)

freed : (s : Scanning) (u : Bool) (sum token : ℕ) → sum ≡ 0 + (16 * s.shared + 20 * bit u + 8 * bit s.writer)
    → Answers sum u s.writer token
freed s u sum token e mode t = looks_rightly sum token (record s { rest = FreedExclusive; upgradable = u }) mode 0 [] e
    t

downgraded : (s : Scanning) (sum token : ℕ) → sum ≡ 16 + taken_sum s → Answers sum s.upgradable s.writer token
downgraded s sum token e mode t = looks_rightly sum token (record s { rest = Downgraded }) mode 0 [] e t

small : (u x : Bool) (shared share : ℕ) → shared < 2 ^ 32 → share < 32
    → (share + (16 * shared + 20 * bit u + 8 * bit x)) % 2 ^ 64 ≡ share + (16 * shared + 20 * bit u + 8 * bit x)
small true true shared share h k = mod-eq_of_lt (omega arith)
small true false shared share h k = mod-eq_of_lt (omega arith)
small false true shared share h k = mod-eq_of_lt (omega arith)
small false false shared share h k = mod-eq_of_lt (omega arith)

frees_looks : (r : Release) (p : RwPhase) (token : ℕ) → LooksRightly (Frees r (core_at p)) token
    (look_of (act_of (Frees r (core_at p))) token)
frees_looks r (at.Scans s) token = λ us h e mode t.
    let P : AfterWake → Type 0 = λ q. wake_answer (sum_of (record s { rest = q })) token ≡ answer_to
    (look s.upgradable s.writer mode) in
    ap Some (subst P (sym e) (freed s s.upgradable _ token refl mode t))
frees_looks r p token = λ us. tt

owes_sum : (held : Hold) (s : Scanning) (token : ℕ) → s.shared < 2 ^ 32 → CanHaveTaken held s
    → Answers ((kept_share held + taken_sum s) % 2 ^ 64) (holds_upgradable (scan_as (owned held) Owed s [])) s.writer
    token
owes_sum hold.Nothing s token h c =
    freed s s.upgradable _ token (small s.upgradable s.writer s.shared 0 h (omega arith))
owes_sum hold.Shared s token h c = downgraded s _ token (small s.upgradable s.writer s.shared 16 h (omega arith))
owes_sum hold.Upgradable s token h c =
    freed s true _ token
    (small s.upgradable s.writer s.shared 20 h (omega arith)
    ∙ ap (λ u. 20 + (16 * s.shared + 20 * bit u + 8 * bit s.writer)) c ∙ omega arith)
owes_sum hold.Exclusive s token h c = absurd c

owes_looks : (held : Hold) (end : CoreAnswer) (p : RwPhase) (token : ℕ) → LooksRightly (Owes held end (core_at p)) token
    (look_of (act_of (Owes held end (core_at p))) token)
owes_looks held end (at.Scans s) token = λ us h c mode t. ap Some (owes_sum held s token h c mode t)
owes_looks held end p token = λ us. tt

pub upgrade_looks : (p : UpgradePhase) (token : ℕ) → LooksRightly p token (look_of (act_of p) token)
upgrade_looks (Frees r core) token = frees_looks r core.phase token
upgrade_looks (Owes held end core) token = owes_looks held end core.phase token
upgrade_looks p token = tt
