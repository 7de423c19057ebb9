-- A thread that goes through a list takes a waiter: a step of the rules.
use Rattle.std.proofs.Common.{◌≡◌, ℕ, zero, suc, ◌+◌, ◌*◌, ◌/◌, ◌%◌, ◌==◌, ◌&&◌, ◌||◌, cond, Bool, true, false, List}
use Rattle.std.proofs.Common.{[], ◌∷◌, ◌++◌, Some, slice_get, slice_set, remove, refl, sym, ap, ◌∙◌, subst, arith, inl}
use Rattle.std.proofs.Common.{inr, ◌⊎◌}
use Rattle.parking_lot_rules.specs.Roles.{Mode, Shares, Role, Mark}
use Rattle.parking_lot_rules.specs.Steps.{Scan, scanning, taking, holds_upgradable, Look, look, Take, Skip, Stop}
use Rattle.parking_lot_rules.specs.Steps.{AreSkipped}
use Rattle.parking_lot_protocol.specs.declared.rw_phase.AfterWake.{AfterWake}
use Rattle.parking_lot_protocol.specs.declared.rw_phase.AfterWake.TheVariants.{FreedShared, FreedExclusive, Downgraded}
use Rattle.parking_lot_protocol.specs.declared.rw_phase.AfterWake.TheVariants.{AgainShared, AgainExclusive}
use Rattle.parking_lot_protocol.specs.declared.rw_phase.Scanning.{Scanning}
use Rattle.parking_lot_protocol.specs.declared.rw_phase.RwPhase.TheVariants.{TakeWriter, Scans, Sleeps, DrainSleeps}
use Rattle.parking_lot_protocol.specs.declared.rw_phase.RwPhase.TheVariants.{Locking, Trying, UnlockingShared}
use Rattle.parking_lot_protocol.specs.declared.rw_phase.RwPhase.TheVariants.{UnlockingExclusive, Downgrading}
use Rattle.parking_lot_protocol.specs.declared.rw_phase.RwPhase.TheVariants.{BumpingShared, BumpingExclusive, Refuses}
use Rattle.parking_lot_protocol.specs.declared.rw_phase.RwPhase.TheVariants.{Finishes, Ends, Invalid}
use Rattle.parking_lot_protocol.specs.RwTable.{next_phase, share_of, sum_of}
use Rattle.parking_lot_protocol.specs.RwRules.{IsToken, Listed, role, scan_of, mode_by, Off, owned_at_last, owned_after}
use Rattle.parking_lot_machine.specs.RwLaws.{TakesAreSteps, ScansGoByTokens, WantAsTold, TokensTell, WritersAreTaken}
use Rattle.parking_lot_machine.specs.RwLaws.{SleepsFirst, SleepsSecond, SleepersAreKnown, BeginsAreReady, EndsAreSteps}
use Rattle.parking_lot_machine.specs.RwLaws.{AnswersAreLast}
use Rattle.parking_lot_machine.proofs.RwMoving.{moved}
use Rattle.parking_lot_core_model.specs.declared.parking.ParkToken.{ParkToken}
use Rattle.parking_lot_core_model.specs.declared.parking.FilterOp.TheVariants.{Unpark}
use Rattle.parking_lot_core_model.specs.declared.parking.FilterOp.TheVariants as op
use Rattle.parking_lot_core_model.specs.declared.place.Waiter.{Waiter}
use Rattle.parking_lot_core_model.specs.Machine.{threads_of}
use Rattle.parking_lot_rules.specs.Classes.{bit}
use Rattle.parking_lot_rules.specs.Lock.{Lock}
use Rattle.parking_lot_machine.specs.Passes.{ArePassed, look_by}
use Rattle.std.proofs.lemmas.Option.{none-some, same_Some}
use Rattle.parking_lot_protocol.specs.Wake.{wake_answer}
use Rattle.parking_lot_protocol.specs.WakeRules.{answer_to}
use Rattle.parking_lot_protocol.specs.declared.rw_phase.LockMode.{LockMode}
use Rattle.parking_lot_protocol.specs.declared.rw_phase.RwPhase.{RwPhase}
use Rattle.parking_lot_machine_calls.specs.Stances.{rw_stance}
use Rattle.parking_lot_machine.specs.RowFits.{rw_prepared}
use Rattle.parking_lot_protocol.specs.declared.rw_phase.Outcome.{Outcome}
use Rattle.parking_lot_machine_calls.specs.CallRoles.{owned_of}
use Rattle.parking_lot_machine_calls.specs.CallActs.{rest_hold, outcome_hold}
use Rattle.parking_lot_rules.specs.Roles as rules
use Rattle.parking_lot_protocol.specs.declared.act.ActResult.TheVariants as seen
use Rattle.parking_lot_protocol.specs.declared.rw_phase.LockMode.TheVariants as want
use Rattle.parking_lot_machine_calls.specs.Stances as stance

-- the scan of a role, whatever that of others
unscan : rules.Role → Scan
unscan r = of r.owns r.does
  where
    of : rules.Owned → rules.Phase → Scan
    of o (rules.Scans1 c n u w us) = record { owns = o; cause = c; shared = n; upgradable = u; writer = w; taken = us }
    of o p = record { owns = o; cause = rules.Owed; shared = 0; upgradable = false; writer = false; taken = [] }

pub same_scan : (s r : Scan) → scanning s ≡ scanning r → s ≡ r
unfolding unscan
same_scan s r e = ap unscan e

pub scan_holds : (n : ℕ) (a : Scanning) (us : List ℕ) → holds_upgradable (scan_of n a us) ≡ a.upgradable
scan_holds n a us = by_rest a.rest
  where
    by_rest : (q : AfterWake) → holds_upgradable (scan_of n (record a { rest = q }) us) ≡ a.upgradable
    by_rest FreedShared = refl
    by_rest FreedExclusive = refl
    by_rest Downgraded = refl
    by_rest AgainShared = refl
    by_rest AgainExclusive = refl

pub takes_are_steps : TakesAreSteps
takes_are_steps recursive l t n spot us a x token left i v stay h told may =
    let m = (moved recursive l t n spot us (Scans a) x h (seen.Took (Some token) left) told).0 v in
    let is : m.0 ≡ scan_of n a us = same_scan m.0 (scan_of n a us) (sym m.1.from) in
    let s = scan_of n a us in
    let held = sym (scan_holds n a us) in
    let to : role n Listed (us ++ v ∷ []) (next_phase (Scans a) (seen.Took (Some token) left)) ≡ scanning
    (taking s v (mode_by token)) = m.1.to ∙ ap (λ c. scanning (taking c v (mode_by token))) is in (
      (
        h.here,
        record {
          waiter = may.waiter;
          role = may.waits;
          looks = subst (λ u. look u a.writer (mode_by token) ≡ Take) held may.looks;
          skipped = subst (λ u. AreSkipped u a.writer l.roles l.first i) held may.skipped;
        },
      ),
      λ j. record l {
        word = h.word j;
        roles = slice_set (slice_set l.roles t (sym to j)) v
            (record { owns = Shares 0; does = rules.Taken1 (mode_by token) t rules.Open stay });
        first = remove l.first i;
      },
    )

-- WHAT A SCAN DOES AT A WAITER

-- what the bits of its sum say
pub bits_of : (k : ℕ) (u w : Bool) → ((16 * k + 20 * bit u + 8 * bit w) / 4 % 2 ≡ bit u)
    × ((16 * k + 20 * bit u + 8 * bit w) / 8 % 2 ≡ bit w)
bits_of k true true = (omega arith, omega arith)
bits_of k true false = (omega arith, omega arith)
bits_of k false true = (omega arith, omega arith)
bits_of k false false = (omega arith, omega arith)

bit_is : (b : Bool) → (bit b == 1) ≡ b
bit_is true = refl
bit_is false = refl

pub by_bits : (sum token : ℕ) (u w : Bool) → sum / 4 % 2 ≡ bit u → sum / 8 % 2 ≡ bit w
    → wake_answer sum token ≡ look_by u w token
by_bits sum token u w e f =
    ap (λ n. cond (n == 1) op.Stop (cond ((token == 8 || token == 20) && sum / 4 % 2 == 1) op.Skip Unpark)) f
    ∙ ap (λ n. cond (bit w == 1) op.Stop (cond ((token == 8 || token == 20) && n == 1) op.Skip Unpark)) e
    ∙ ap (λ b. cond b op.Stop (cond ((token == 8 || token == 20) && bit u == 1) op.Skip Unpark)) (bit_is w)
    ∙ ap (λ b. cond w op.Stop (cond ((token == 8 || token == 20) && b) op.Skip Unpark)) (bit_is u)

pub sixteens : (sum k : ℕ) (u w : Bool) (token : ℕ) → sum ≡ 16 * k + 20 * bit u + 8 * bit w
    → wake_answer sum token ≡ look_by u w token
sixteens sum k u w token e = let b = bits_of k u w in by_bits sum token u w (ap (λ n. n / 4 % 2) e ∙ b.0)
    (ap (λ n. n / 8 % 2) e ∙ b.1)

scan_sums : (a : Scanning) (token : ℕ) → wake_answer (sum_of a) token ≡ look_by a.upgradable a.writer token
scan_sums a token = by_rest a.rest
  where
    by_rest : (q : AfterWake) → wake_answer (sum_of (record a { rest = q })) token ≡ look_by a.upgradable a.writer token
    by_rest FreedShared = sixteens _ a.shared a.upgradable a.writer token (omega arith)
    by_rest FreedExclusive = sixteens _ a.shared a.upgradable a.writer token (omega arith)
    by_rest Downgraded = sixteens _ (a.shared + 1) a.upgradable a.writer token (omega arith)
    by_rest AgainShared = sixteens _ a.shared a.upgradable a.writer token (omega arith)
    by_rest AgainExclusive = sixteens _ a.shared a.upgradable a.writer token (omega arith)

abbrev MatchesAt : Bool → Bool → ℕ → Type 0
MatchesAt u w n = look_by u w n ≡ answer_to (look u w (mode_by (record { 0 = n })))

matches : (u w : Bool) (n : ℕ) → ((n ≡ 16) ⊎ ((n ≡ 8) ⊎ (n ≡ 20))) → MatchesAt u w n
matches u w n (inl e) = subst (MatchesAt u w) (sym e) (reads u w)
  where
    reads : (u w : Bool) → MatchesAt u w 16
    reads u true = refl
    reads true false = refl
    reads false false = refl
matches u w n (inr (inl e)) = subst (MatchesAt u w) (sym e) (writes u w)
  where
    writes : (u w : Bool) → MatchesAt u w 8
    writes u true = refl
    writes true false = refl
    writes false false = refl
matches u w n (inr (inr e)) = subst (MatchesAt u w) (sym e) (upgrades u w)
  where
    upgrades : (u w : Bool) → MatchesAt u w 20
    upgrades u true = refl
    upgrades true false = refl
    upgrades false false = refl

looks_as : (u w : Bool) (token : ParkToken) → IsToken (Some token)
    → look_by u w token.0 ≡ answer_to (look u w (mode_by token))
looks_as u w token is = matches u w token.0 is

pub same_take : (a : Look) → Unpark ≡ answer_to a → a ≡ Take
same_take Take e = refl
same_take Skip e = absurd cc
same_take Stop e = absurd cc

pub same_skip : (a : Look) → op.Skip ≡ answer_to a → a ≡ Skip
same_skip Skip e = refl
same_skip Take e = absurd cc
same_skip Stop e = absurd cc

-- the waiter of a thread
waiter_of : (queue : List Waiter) (i u : ℕ) → slice_get (threads_of queue) i ≡ Some u → (w : Waiter)
    × (slice_get queue i ≡ Some w) × (w.thread ≡ u)
waiter_of [] i u e = absurd (none-some u e)
waiter_of (w ∷ queue) zero u e = (w, refl, same_Some w.thread u e)
waiter_of (w ∷ queue) (suc i) u e = waiter_of queue i u e

scan_skips : (l : Lock) (u w : Bool) (queue : List Waiter) (n : ℕ) → l.first ≡ threads_of queue → WantAsTold l queue
    → ArePassed (look_by u w) queue n → AreSkipped u w l.roles l.first n
scan_skips l u w queue n is want passed j v r low at there =
    let x = waiter_of queue j v (ap (λ q. slice_get q j) (sym is) ∙ at) in
    let told = want j x.0 r x.1 (ap (slice_get l.roles) x.2 ∙ there) in
    ap (look u w) told.1 ∙ same_skip (look u w (mode_by x.0.token))
    (sym (passed j x.0 low x.1) ∙ looks_as u w x.0.token told.0)

pub scans_go_by_tokens : ScansGoByTokens
scans_go_by_tokens = record { sums = scan_sums; looks = looks_as; skips = scan_skips }

pub tokens_tell : TokensTell
tokens_tell (want.Shared recursive) = (inl refl, refl)
tokens_tell want.Exclusive = (inr (inl refl), refl)

pub writers_are_taken : WritersAreTaken
writers_are_taken recursive l t n spot us rest x token left v from stay h at waits =
    let none : us ≡ [] = h.prepared in
    let here : slice_get l.roles t ≡ Some (record { owns = Shares n; does = rules.Scans2 [] }) = h.here in
    let to : role n Listed (us ++ v ∷ []) (next_phase (TakeWriter rest) (seen.Took (Some token) left))
    ≡ record { owns = Shares n; does = rules.Scans2 (v ∷ []) } =
    ap (λ vs. record { owns = Shares n; does = rules.Scans2 (vs ++ v ∷ []) }) none in (
      (here, at, waits),
      λ j. record l {
        word = h.word j;
        roles = slice_set (slice_set l.roles t (sym to j)) v
            (record { owns = Shares 0; does = rules.Taken2 from t stay });
        second = remove l.second 0;
      },
    )

-- Who sleeps at a reader-writer lock.

sleeps_first : (n : ℕ) (us : List ℕ) (want : LockMode) → n ≡ 0
    → SleepsFirst n us (Sleeps want) (record { 0 = share_of want })
sleeps_first n us (LockMode.Shared recursive) z = record {
  listed = ap (λ k. role k Listed us (Sleeps (LockMode.Shared recursive))) z;
  off = λ t mark. ap (λ k. role k (Off t mark) us (Sleeps (LockMode.Shared recursive))) z;
  token = inl refl;
}
sleeps_first n us LockMode.Exclusive z =
    record {
      listed = ap (λ k. role k Listed us (Sleeps LockMode.Exclusive)) z;
      off = λ t mark. ap (λ k. role k (Off t mark) us (Sleeps LockMode.Exclusive)) z;
      token = inr refl;
    }

stands : (recursive : Bool) (n : ℕ) (us : List ℕ) (p : RwPhase) (key : ℕ) (park : ParkToken)
    → rw_prepared recursive n us p → rw_stance p ≡ stance.Asleep key park → ((key ≡ 0) × SleepsFirst n us p park)
    ⊎ ((key ≡ 1) × SleepsSecond n us p)
stands recursive n us (Sleeps want) key park z e =
    let there : key ≡ 0 = cc in
    let token : record { 0 = share_of want } ≡ park = cc in
    inl (there, subst (λ (t : ParkToken). SleepsFirst n us (Sleeps want) t) token (sleeps_first n us want z))
stands recursive n us (DrainSleeps rounds) key park z e =
    let there : key ≡ 1 = cc in
    inr (
      there,
      record {
        listed = ap (λ k. role k Listed us (DrainSleeps rounds)) z;
        off = λ t mark. ap (λ k. role k (Off t mark) us (DrainSleeps rounds)) z;
      },
    )
stands recursive n us p key park z e = absurd (cc)

pub sleepers_at_a_lock_are_known : SleepersAreKnown
sleepers_at_a_lock_are_known = record { stand = stands }

-- Where calls begin and end.

pub begins_are_ready : BeginsAreReady
begins_are_ready n spot us (Locking want) x e = (refl, tt, tt)
begins_are_ready n spot us (Trying want) x e = (refl, tt, tt)
begins_are_ready n spot us UnlockingShared x e = (refl, tt, tt)
begins_are_ready n spot us (UnlockingExclusive fair) x e = (refl, tt, tt)
begins_are_ready n spot us Downgrading x e = (refl, tt, tt)
begins_are_ready n spot us BumpingShared x e = (refl, tt, tt)
begins_are_ready n spot us BumpingExclusive x e = (refl, tt, tt)
begins_are_ready n spot us p x e = absurd (cc)

rest_owned : (n : ℕ) (rest : AfterWake) → owned_of (rest_hold n rest) ≡ owned_at_last n rest
rest_owned n FreedShared = refl
rest_owned n FreedExclusive = refl
rest_owned n Downgraded = refl
rest_owned n AgainShared = refl
rest_owned n AgainExclusive = refl

outcome_owned : (n : ℕ) (o : Outcome) → owned_of (outcome_hold n o) ≡ owned_after n o
outcome_owned n Outcome.Shared = refl
outcome_owned n Outcome.Exclusive = refl
outcome_owned n Outcome.Downgraded = refl
outcome_owned n Outcome.FreedShared = refl
outcome_owned n Outcome.FreedExclusive = refl

pub ends_are_steps : EndsAreSteps
ends_are_steps recursive l t n spot us (Refuses want) x h e = (
  (h.here, tt),
  λ i. record l
      { word = h.word i; roles = slice_set l.roles t (record { owns = Shares n; does = rules.Idle }) },
)
ends_are_steps recursive l t n spot us (Finishes rest) x h e =
    let o = rest_owned n rest in (
      (h.here ∙ ap (λ vs. Some (record { owns = owned_at_last n rest; does = rules.Wakes vs })) h.prepared.0, tt),
      λ i. record l { word = h.word i; roles = slice_set l.roles t (record { owns = sym o i; does = rules.Idle }) },
    )
ends_are_steps recursive l t n spot us (Ends o) x h e = ap (λ k. record { owns = k; does = rules.Idle })
    (outcome_owned n o)
ends_are_steps recursive l t n spot us Invalid x h e = refl
ends_are_steps recursive l t n spot us p x h e = absurd (cc)

pub answers_are_last : AnswersAreLast
answers_are_last (Refuses want) answer b e = refl
answers_are_last (Finishes rest) answer b e = refl
answers_are_last (Ends o) answer b e = refl
answers_are_last Invalid answer b e = refl
answers_are_last p answer b e = absurd (cc)
