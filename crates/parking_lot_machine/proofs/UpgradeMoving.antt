-- What an upgradable call is told at a sound lock is the move that the table says, and a step of the rules.
use Rattle.std.proofs.Common.{◌≡◌, ◌<◌, ℕ, ◌^◌, ◌&&◌, Bool, true, false, cond, List, [], length, map, remove, Some}
use Rattle.std.proofs.Common.{slice_get, slice_set, refl, sym, ap, ◌∙◌, subst, arith}
use Rattle.parking_lot_rules.specs.Roles.{Mode, Owned, Shares, Excludes, Upgrades, Role, FromUpgradable}
use Rattle.parking_lot_rules.specs.Roles as rules
use Rattle.parking_lot_rules.specs.Classes.{Pending, Upgraders, Writers, weight, total}
use Rattle.parking_lot_rules.specs.Clauses.{Word, number, word_of}
use Rattle.parking_lot_rules.specs.Plain.{Plain, May, from, written}
use Rattle.parking_lot_rules.specs.Lock.{Lock, IsSound}
use Rattle.parking_lot_rules.specs.Steps.{Alone, after, Allowed, Ending, Listing, MayEnd, Scan, Store, ends_saying}
use Rattle.parking_lot_rules.specs.Steps.{first_after, second_after, settle, stored, waking_to}
use Rattle.parking_lot_rules.proofs.Totals.{total-at}
use Rattle.parking_lot_rules.proofs.Sounds.{step_sound}
use Rattle.parking_lot_protocol.specs.Acts.{Gives, word_after}
use Rattle.parking_lot_protocol.specs.RwRules.{Move, Stays, Makes, Joins, TakesOne, TakesWriter, Tells, WakesOne}
use Rattle.parking_lot_protocol.specs.RwRules.{IsWoken}
use Rattle.parking_lot_protocol.specs.RwTable as rt
use Rattle.parking_lot_protocol.specs.Positions.{QueuePosition, Listed}
use Rattle.parking_lot_protocol.specs.declared.act.ActResult.{ActResult}
use Rattle.parking_lot_protocol.specs.declared.rw_phase.RwPhase.{RwPhase}
use Rattle.parking_lot_protocol_rw.specs.declared.upgrade_phase.UpgradePhase.{UpgradePhase}
use Rattle.parking_lot_protocol_rw.specs.declared.upgrade_phase.Hold.{Hold}
use Rattle.parking_lot_protocol_rw.specs.declared.upgrade_phase.Release.{Release}
use Rattle.parking_lot_protocol.specs.declared.act.CoreAnswer.{CoreAnswer}
use Rattle.parking_lot_protocol_rw.specs.UpgradeMoves.{IsMove, move, seeks_move, drains_move, frees_move, owes_move}
use Rattle.parking_lot_protocol_rw.specs.UpgradeMoves.{yield}
use Rattle.parking_lot_protocol_rw.specs.UpgradeRoles.{owned, role}
use Rattle.parking_lot_protocol_rw.specs.UpgradeRules.{Fits, FitsFreeing, FitsOwing, HasUpgradable, HasWriter, IsReady}
use Rattle.parking_lot_protocol_rw.specs.UpgradeRules.{IsTold, IsSeeking, IsDraining, IsFreeing, IsOwing}
use Rattle.parking_lot_protocol_rw.specs.UpgradeTable.{act_of, next_phase, seeks_act, frees_act, owes_act}
use Rattle.parking_lot_protocol_rw.proofs.UpgradeFollowing.{upgrade_follows}
use Rattle.parking_lot_machine.specs.RwLaws.{Finds}
use Rattle.parking_lot_machine.specs.UpgradeLaws.{MeetsUpgrade, UpgradeLeads, UpgradesAreSteps}
use Rattle.parking_lot_machine.specs.RowFits.{frees_prepared, owes_prepared, upgrade_prepared}
use Rattle.parking_lot_machine.proofs.RwWaking.{stored_left}
use Rattle.parking_lot_machine.proofs.RwMoving.{Clears, MoveClears, IsOwn, may_all, number-word, same_word, sound_word}
use Rattle.parking_lot_machine.proofs.RwMoving.{total_most}

-- WHAT FITS A PHASE

frees_weigh : (n : ℕ) (u w : Bool) (us : List ℕ)
    → weight Upgraders (record { owns = Shares 0; does = rules.Scans1 FromUpgradable n u w us }) ≡ 1
unfolding weight
frees_weigh n u w us = refl

upgrades_weigh : weight Upgraders (record { owns = Upgrades; does = rules.Idle }) ≡ 1
unfolding weight
upgrades_weigh = refl

excludes_weigh : weight Writers (record { owns = Excludes; does = rules.Idle }) ≡ 1
unfolding weight
excludes_weigh = refl

has_upgradable : (l : Lock) (t : ℕ) (q : Role) → IsSound l → slice_get l.roles t ≡ Some q → weight Upgraders q ≡ 1
    → HasUpgradable l.word
has_upgradable l t q h at one =
    let f = h.fits in
    let own = total-at l.roles t q at Upgraders in
    record {
      readers = omega (arith, f.readers, own, one);
      writer = omega (arith, f.upgradable, f.one, own, one);
      upgradable = omega (arith, f.upgradable, f.one, own, one);
    }

has_writer : (l : Lock) (t : ℕ) → IsSound l → slice_get l.roles t ≡ Some (record { owns = Excludes; does = rules.Idle })
    → HasWriter l.word
has_writer l t h at =
    let f = h.fits in
    let own = total-at l.roles t _ at Writers in
    record {
      writer = omega (arith, f.writer, f.one, own, excludes_weigh);
      upgradable = omega (arith, f.writer, f.one, own, excludes_weigh);
    }

frees_fit : (l : Lock) (t n : ℕ) (spot : QueuePosition) (us : List ℕ) (way : Release) (q : RwPhase) → IsSound l
    → l.word.readers < 2 ^ 58
    → slice_get l.roles t ≡ Some (role n spot us (UpgradePhase.Frees way (record { phase = q }))) → frees_prepared us q
    → FitsFreeing us q l.word
frees_fit l t n spot us way (RwPhase.LooksExclusive fair rest) h few at m = m
frees_fit l t n spot us way (RwPhase.Scans s) h few at m = m
frees_fit l t n spot us way (RwPhase.Stores s left) h few at m =
    (has_upgradable l t _ h at (frees_weigh s.shared s.upgradable s.writer us), omega (arith, few, m.0), m.1)
frees_fit l t n spot us way (RwPhase.Finishes rest) h few at m = m
frees_fit l t n spot us way q h few at m = tt

owes_fit : (us : List ℕ) (q : RwPhase) (w : Word) → owes_prepared us q → FitsOwing us q w
owes_fit us RwPhase.EnterWakeSection w m = m
owes_fit us (RwPhase.Scans s) w m = m
owes_fit us q w m = tt

-- one that gives up has a writer's bit until its exchange
pending_weighs : (back : Bool) → weight Pending (record { owns = Shares 0; does = rules.Yields back }) ≡ 1
unfolding weight
pending_weighs back = refl

pending_fits : (l : Lock) (t : ℕ) (back : Bool) → IsSound l
    → slice_get l.roles t ≡ Some (record { owns = Shares 0; does = rules.Yields back }) → HasWriter l.word
pending_fits l t back h at =
    let f = h.fits in
    let own = total-at l.roles t _ at Pending in
    record {
      writer = omega (arith, f.writer, f.one, own, pending_weighs back);
      upgradable = omega (arith, f.writer, f.one, own, pending_weighs back);
    }

fits_of : (recursive : Bool) (l : Lock) (t n : ℕ) (spot : QueuePosition) (us : List ℕ) (p : UpgradePhase) → IsSound l
    → l.word.readers < 2 ^ 58 → slice_get l.roles t ≡ Some (role n spot us p) → upgrade_prepared us p
    → Fits recursive n us p l.word
fits_of recursive l t n spot us (UpgradePhase.Plain core) h few at m = absurd m
fits_of recursive l t n spot us (UpgradePhase.Yields back word) h few at m = pending_fits l t back h at
fits_of recursive l t n spot us (UpgradePhase.Frees way core) h few at m = frees_fit l t n spot us way core.phase h few
    at m
fits_of recursive l t n spot us (UpgradePhase.Owes hold end core) h few at m = owes_fit us core.phase l.word m
fits_of recursive l t n spot us UpgradePhase.Upgrades h few at m = has_upgradable l t _ h at upgrades_weigh
fits_of recursive l t n spot us (UpgradePhase.TryUpgrades word left) h few at m =
    has_upgradable l t _ h at upgrades_weigh
fits_of recursive l t n spot us (UpgradePhase.Unlocks way word) h few at m = has_upgradable l t _ h at upgrades_weigh
fits_of recursive l t n spot us UpgradePhase.ToShared h few at m = has_upgradable l t _ h at upgrades_weigh
fits_of recursive l t n spot us UpgradePhase.ToUpgradable h few at m = has_writer l t h at
fits_of recursive l t n spot us p h few at m = tt

-- ITS OWN MOVES

-- one that sleeps makes none
seeks_awake : (n : ℕ) (spot : QueuePosition) (us : List ℕ) (q : RwPhase) (x : ℕ) (s : ActResult) → IsSeeking q
    → Gives (seeks_act q) x s → IsOwn (seeks_move q s)
    → role n spot us (UpgradePhase.Seeks (record { phase = q })) ≡ role n Listed us
    (UpgradePhase.Seeks (record { phase = q }))
seeks_awake n spot us (RwPhase.Sleeps want) x (ActResult.Woken token) i g own = absurd own
seeks_awake n spot us (RwPhase.Sleeps want) x s i g own = absurd g
seeks_awake n spot us (RwPhase.DrainSleeps rounds) x s i g own = absurd i
seeks_awake n spot us q x s i g own = refl

drains_awake : (n : ℕ) (spot : QueuePosition) (us : List ℕ) (q : RwPhase) (x : ℕ) (s : ActResult) → IsDraining q
    → Gives (rt.act_of q) x s → IsOwn (drains_move q s)
    → role n spot us (UpgradePhase.Drains (record { phase = q })) ≡ role n Listed us
    (UpgradePhase.Drains (record { phase = q }))
drains_awake n spot us (RwPhase.DrainSleeps rounds) x s i g own = absurd own
drains_awake n spot us (RwPhase.Sleeps want) x s i g own = absurd i
drains_awake n spot us q x s i g own = refl

frees_awake : (n : ℕ) (spot : QueuePosition) (us : List ℕ) (way : Release) (q : RwPhase) → IsFreeing q
    → role n spot us (UpgradePhase.Frees way (record { phase = q })) ≡ role n Listed us
    (UpgradePhase.Frees way (record { phase = q }))
frees_awake n spot us way (RwPhase.Sleeps want) i = absurd i
frees_awake n spot us way (RwPhase.DrainSleeps rounds) i = absurd i
frees_awake n spot us way q i = refl

owes_awake : (n : ℕ) (spot : QueuePosition) (us : List ℕ) (hold : Hold) (end : CoreAnswer) (q : RwPhase) → IsOwing q
    → role n spot us (UpgradePhase.Owes hold end (record { phase = q })) ≡ role n Listed us
    (UpgradePhase.Owes hold end (record { phase = q }))
owes_awake n spot us hold end (RwPhase.Sleeps want) i = absurd i
owes_awake n spot us hold end (RwPhase.DrainSleeps rounds) i = absurd i
owes_awake n spot us hold end q i = refl

awake : (n : ℕ) (spot : QueuePosition) (us : List ℕ) (p : UpgradePhase) (x : ℕ) (s : ActResult) → IsReady p
    → upgrade_prepared us p → IsTold p x s → IsOwn (move n us p s) → role n spot us p ≡ role n Listed us p
awake n spot us (UpgradePhase.Plain core) x s i m told own = absurd m
awake n spot us (UpgradePhase.Seeks core) x s i m told own = seeks_awake n spot us core.phase x s i.0 told own
awake n spot us (UpgradePhase.Drains core) x s i m told own = drains_awake n spot us core.phase x s i.0 told own
awake n spot us (UpgradePhase.Frees way core) x s i m told own = frees_awake n spot us way core.phase i
awake n spot us (UpgradePhase.Owes hold end core) x s i m told own = owes_awake n spot us hold end core.phase i
awake n spot us p x s i m told own = refl

-- what the act finds is what the step asks for
checks : (l : Lock) (b : Bool) (k : Plain) → Clears k l → MoveClears (cond b (Makes k) Stays) l
checks l true k c = c
checks l false k c = tt

drained : (l : Lock) (b : Bool) (k : Plain) → Clears k l → MoveClears (cond b Stays (Makes k)) l
drained l true k c = tt
drained l false k c = c

seeks_clear : (l : Lock) (q : RwPhase) (s : ActResult) → Finds (seeks_act q) l → MoveClears (seeks_move q s) l
seeks_clear l (RwPhase.Enters want woken) s found = found
seeks_clear l (RwPhase.Admits a word) ActResult.Exchanged found = tt
seeks_clear l (RwPhase.SetParked a word) ActResult.Exchanged found = tt
seeks_clear l (RwPhase.Checks want woken) (ActResult.Word word) found =
    checks l (rt.is_barred want word && rt.is_parked word) _ tt
seeks_clear l (RwPhase.Sleeps want) (ActResult.Woken token) found = tt
seeks_clear l q s found = tt

drains_clear : (l : Lock) (q : RwPhase) (s : ActResult) → Finds (rt.act_of q) l → MoveClears (drains_move q s) l
drains_clear l (RwPhase.DrainEnters d) s found = found
drains_clear l (RwPhase.DrainLoads d) (ActResult.Word word) found = drained l (rt.has_readers word) _ tt
drains_clear l (RwPhase.DrainSetParked d flagged) ActResult.Exchanged found = tt
drains_clear l (RwPhase.DrainSetParked d flagged) (ActResult.Word word) found = drained l (rt.has_readers word) _ tt
drains_clear l (RwPhase.DrainChecks d) (ActResult.Word word) found =
    checks l (rt.has_readers word && rt.is_writer_parked word) _ tt
drains_clear l q s found = tt

frees_clear : (l : Lock) (us : List ℕ) (way : Release) (q : RwPhase) (s : ActResult) → Finds (frees_act way q) l
    → MoveClears (frees_move us q s) l
frees_clear l us way (RwPhase.LooksExclusive fair rest) s found = found
frees_clear l us way (RwPhase.Scans a) (ActResult.Took (Some token) left) found = tt
frees_clear l us way (RwPhase.Stores a left) (ActResult.Stored fair) found = tt
frees_clear l us way q s found = tt

owes_clear : (l : Lock) (us : List ℕ) (o : Owned) (hold : Hold) (end : CoreAnswer) (q : RwPhase) (s : ActResult)
    → Finds (owes_act hold end q) l → MoveClears (owes_move o us q s) l
owes_clear l us o hold end RwPhase.EnterWakeSection s found = found
owes_clear l us o hold end (RwPhase.Scans a) (ActResult.Took (Some token) left) found = tt
owes_clear l us o hold end (RwPhase.Stores a left) (ActResult.Stored fair) found = tt
owes_clear l us o hold end q s found = tt

yields_clear : (l : Lock) (back owing : Bool) → MoveClears (Makes (yield back owing)) l
yields_clear l true owing = tt
yields_clear l false owing = tt

clears : (l : Lock) (n : ℕ) (us : List ℕ) (p : UpgradePhase) (s : ActResult) → upgrade_prepared us p
    → Finds (act_of p) l → MoveClears (move n us p s) l
clears l n us (UpgradePhase.Plain core) s m found = absurd m
clears l n us (UpgradePhase.Seeks core) s m found = seeks_clear l core.phase s found
clears l n us (UpgradePhase.Drains core) s m found = drains_clear l core.phase s found
clears l n us (UpgradePhase.Frees way core) s m found = frees_clear l us way core.phase s found
clears l n us (UpgradePhase.Owes hold end core) s m found = owes_clear l us (owned hold) hold end core.phase s found
clears l n us (UpgradePhase.TryAdmits word left) ActResult.Exchanged m found = tt
clears l n us (UpgradePhase.TryUpgrades word left) ActResult.Exchanged m found = tt
clears l n us (UpgradePhase.Unlocks way word) ActResult.Exchanged m found = tt
clears l n us UpgradePhase.ToShared (ActResult.Before word) m found = tt
clears l n us UpgradePhase.ToUpgradable (ActResult.Before word) m found = tt
clears l n us (UpgradePhase.Yields back word) ActResult.Exchanged m found = yields_clear l back (rt.is_parked word)
clears l n us p s m found = tt

-- IN SECTIONS

-- whom one that scans has taken
abbrev taken_by_phase : rules.Phase → List ℕ
taken_by_phase (rules.Scans1 c n u w us) = us
taken_by_phase p = []

abbrev taken_in : Role → List ℕ
taken_in r = taken_by_phase r.does

-- One that stores counts those that it has taken, and one that wakes is the same whomever it has taken; and no such
-- call takes a pending writer.
abbrev InSection : Bool → ℕ → List ℕ → UpgradePhase → ActResult → Move → Type 0
InSection recursive n us p s (Tells end left) = taken_in (role n Listed us p) ≡ us
InSection recursive n us p s WakesOne = (vs : List ℕ) (w : Word) → (move n vs p s ≡ WakesOne) × Fits recursive n vs p w
InSection recursive n us p s TakesWriter = ⊥
InSection recursive n us p s m = Unit {0}

by_bit : (recursive : Bool) (n : ℕ) (us : List ℕ) (p : UpgradePhase) (s : ActResult) (b : Bool) (k : Plain)
    → InSection recursive n us p s (cond b (Makes k) Stays)
by_bit recursive n us p s true k = tt
by_bit recursive n us p s false k = tt

by_other_bit : (recursive : Bool) (n : ℕ) (us : List ℕ) (p : UpgradePhase) (s : ActResult) (b : Bool) (k : Plain)
    → InSection recursive n us p s (cond b Stays (Makes k))
by_other_bit recursive n us p s true k = tt
by_other_bit recursive n us p s false k = tt

seeks_section : (recursive : Bool) (n : ℕ) (us : List ℕ) (p : UpgradePhase) (q : RwPhase) (s : ActResult)
    → InSection recursive n us p s (seeks_move q s)
seeks_section recursive n us p (RwPhase.Admits a word) ActResult.Exchanged = tt
seeks_section recursive n us p (RwPhase.SetParked a word) ActResult.Exchanged = tt
seeks_section recursive n us p (RwPhase.Checks want woken) (ActResult.Word word) =
    by_bit recursive n us p _ (rt.is_barred want word && rt.is_parked word) _
seeks_section recursive n us p (RwPhase.Sleeps want) (ActResult.Woken token) = tt
seeks_section recursive n us p q s = tt

drains_section : (recursive : Bool) (n : ℕ) (us : List ℕ) (p : UpgradePhase) (q : RwPhase) (s : ActResult)
    → InSection recursive n us p s (drains_move q s)
drains_section recursive n us p (RwPhase.DrainLoads d) (ActResult.Word word) = by_other_bit recursive n us p _
    (rt.has_readers word) _
drains_section recursive n us p (RwPhase.DrainSetParked d flagged) ActResult.Exchanged = tt
drains_section recursive n us p (RwPhase.DrainSetParked d flagged) (ActResult.Word word) =
    by_other_bit recursive n us p _ (rt.has_readers word) _
drains_section recursive n us p (RwPhase.DrainChecks d) (ActResult.Word word) =
    by_bit recursive n us p _ (rt.has_readers word && rt.is_writer_parked word) _
drains_section recursive n us p q s = tt

frees_section : (recursive : Bool) (n : ℕ) (us : List ℕ) (way : Release) (q : RwPhase) (s : ActResult)
    → InSection recursive n us (UpgradePhase.Frees way (record { phase = q })) s (frees_move us q s)
frees_section recursive n us way (RwPhase.Scans a) (ActResult.Took (Some token) left) = tt
frees_section recursive n us way (RwPhase.Stores a left) (ActResult.Stored fair) = refl
frees_section recursive n us way (RwPhase.Wakes rest count) s = λ vs w. (refl, tt)
frees_section recursive n us way q s = tt

owes_section : (recursive : Bool) (n : ℕ) (us : List ℕ) (hold : Hold) (end : CoreAnswer) (q : RwPhase) (s : ActResult)
    → InSection recursive n us (UpgradePhase.Owes hold end (record { phase = q })) s (owes_move (owned hold) us q s)
owes_section recursive n us hold end (RwPhase.Scans a) (ActResult.Took (Some token) left) = tt
owes_section recursive n us hold end (RwPhase.Stores a left) (ActResult.Stored fair) = refl
owes_section recursive n us hold end (RwPhase.Wakes rest count) s = λ vs w. (refl, tt)
owes_section recursive n us hold end q s = tt

section : (recursive : Bool) (n : ℕ) (us : List ℕ) (p : UpgradePhase) (s : ActResult) → upgrade_prepared us p
    → InSection recursive n us p s (move n us p s)
section recursive n us (UpgradePhase.Plain core) s m = absurd m
section recursive n us (UpgradePhase.Seeks core) s m = seeks_section recursive n us (UpgradePhase.Seeks core) core.phase
    s
section recursive n us (UpgradePhase.Drains core) s m = drains_section recursive n us (UpgradePhase.Drains core)
    core.phase s
section recursive n us (UpgradePhase.Frees way core) s m = frees_section recursive n us way core.phase s
section recursive n us (UpgradePhase.Owes hold end core) s m = owes_section recursive n us hold end core.phase s
section recursive n us (UpgradePhase.TryAdmits word left) ActResult.Exchanged m = tt
section recursive n us (UpgradePhase.TryUpgrades word left) ActResult.Exchanged m = tt
section recursive n us (UpgradePhase.Unlocks way word) ActResult.Exchanged m = tt
section recursive n us UpgradePhase.ToShared (ActResult.Before word) m = tt
section recursive n us UpgradePhase.ToUpgradable (ActResult.Before word) m = tt
section recursive n us (UpgradePhase.Yields back word) ActResult.Exchanged m = tt
section recursive n us p s m = tt

-- EACH MOVE

module _ (recursive : Bool) (l : Lock) (t n : ℕ) (spot : QueuePosition) (us : List ℕ) (p : UpgradePhase) (x : ℕ)
    (s : ActResult) (h : MeetsUpgrade l t n spot us p x) (told : IsTold p x s) where
  abbrev q : UpgradePhase
  q = next_phase p s

  few_readers : l.word.readers < 2 ^ 58
  few_readers = let f = h.sound.fits in
      omega (arith, f.readers, f.upgradable, f.one, total_most 256 l.roles h.few, h.threads)

  number_is : number l.word ≡ x
  number_is = ap number h.word ∙ number-word x

  -- whomever it has taken
  moved_with : (vs : List ℕ) → Fits recursive n vs p l.word → IsMove recursive (move n vs p s) n vs p q l.word
      (word_after (act_of p) s x) × IsReady q
  moved_with vs fit =
      let P : ℕ → Type 0 = λ y. IsTold p y s → IsMove recursive (move n vs p s) n vs p q l.word
      (word_after (act_of p) s y) × IsReady q in
      subst P number_is (upgrade_follows p s recursive n vs l.word h.ready (sound_word l h.sound)
      (omega (arith, few_readers)) fit) told

  moved : IsMove recursive (move n us p s) n us p q l.word (word_after (act_of p) s x) × IsReady q
  moved = moved_with us (fits_of recursive l t n spot us p h.sound few_readers h.here h.prepared)

  -- where its move is one of its own
  listed : (m : Move) → move n us p s ≡ m → IsOwn m → role n spot us p ≡ role n Listed us p
  listed m e own = awake n spot us p x s h.ready h.prepared told (subst IsOwn (sym e) own)

  stays : IsMove recursive Stays n us p q l.word (word_after (act_of p) s x) → UpgradeLeads recursive Stays t n spot us
      p s x l
  stays m = (m.0 spot, m.1 ∙ number_is)

  makes : (k : Plain) → move n us p s ≡ Makes k → IsMove recursive (Makes k) n us p q l.word (word_after (act_of p) s x)
      → UpgradeLeads recursive (Makes k) t n spot us p s x l
  makes k e m found =
      let w = word_after (act_of p) s x in
      let from_k : slice_get l.roles t ≡ Some (from k) = h.here ∙ ap (λ r. Some r) (listed (Makes k) e tt ∙ m.from) in
      let may : May recursive k l.word (λ c. total c l.roles) = may_all recursive l h.sound k m.may
      (subst (λ c. MoveClears c l) e (clears l n us p s h.prepared found)) in
      let same : written k l.word ≡ word_of w = same_word (after t (Alone k) l)
      (step_sound recursive t (Alone k) l h.sound (from_k, may)) w m.written in
      ((from_k, may), λ i. record l { word = same i; roles = slice_set l.roles t (sym m.to i) })

  joins : (k : Listing) → move n us p s ≡ Joins k → IsMove recursive (Joins k) n us p q l.word
      (word_after (act_of p) s x) → UpgradeLeads recursive (Joins k) t n spot us p s x l
  joins k e m may =
      let same : l.word ≡ word_of (word_after (act_of p) s x) = same_word l h.sound _ m.2 in (
        (h.here ∙ ap (λ r. Some r) (listed (Joins k) e tt ∙ m.0), may),
        λ i. record l {
          word = same i;
          roles = slice_set l.roles t (sym m.1 i);
          first = first_after k t l.first;
          second = second_after k t l.second;
        },
      )

  takes : (mode : Mode) → move n us p s ≡ TakesOne mode → IsMove recursive (TakesOne mode) n us p q l.word
      (word_after (act_of p) s x) → UpgradeLeads recursive (TakesOne mode) t n spot us p s x l
  takes mode e m v =
      let z = m v in
      let same : l.word ≡ word_of (word_after (act_of p) s x) = same_word l h.sound _ z.2 in (
        z.0,
        z.1.from,
        λ i stay may. (
          (h.here ∙ ap (λ r. Some r) (listed (TakesOne mode) e tt ∙ z.1.from), may),
          λ j. record l {
            word = same j;
            roles = slice_set (slice_set l.roles t (sym z.1.to j)) v
                (record { owns = Shares 0; does = rules.Taken1 mode t rules.Open stay });
            first = remove l.first i;
          },
        ),
      )

  tells : (end : Ending) (left : Bool) → move n us p s ≡ Tells end left → IsMove recursive (Tells end left) n us p q
      l.word (word_after (act_of p) s x) → UpgradeLeads recursive (Tells end left) t n spot us p s x l
  tells end left e m some_left =
      let scan : Scan = m.0 in
      let w = word_after (act_of p) s x in
      let taken : scan.taken ≡ us = sym (ap taken_in m.1.from) ∙ subst (InSection recursive n us p s) e
      (section recursive n us p s h.prepared) in (
        scan,
        m.1.from,
        λ over.
            let may : Allowed recursive t (Store end scan) l = (
              h.here ∙ ap (λ r. Some r) (listed (Tells end left) e tt ∙ m.1.from),
              m.1.cause,
              subst (MayEnd end) (sym taken) m.1.may,
              over,
            ) in
            let to : role n Listed us q ≡ record { owns = scan.owns; does = rules.Stored1 scan.taken } = m.1.to
            ∙ ap (λ (vs : List ℕ). record { owns = scan.owns; does = rules.Stored1 vs }) (sym taken) in
            let said : w ≡ number (stored end scan.shared scan.upgradable scan.writer (length l.first) l.word) =
            m.1.written ∙ ap number
            (stored_left end scan.shared scan.upgradable scan.writer l.first left l.word some_left) in
            let word : stored end scan.shared scan.upgradable scan.writer (length l.first) l.word ≡ word_of w =
            same_word (after t (Store end scan) l) (step_sound recursive t (Store end scan) l h.sound may) w said in (
              may,
              λ j. record l
                  { word = word j; roles = slice_set (map (settle (ends_saying end)) l.roles) t (sym to j) },
            ),
      )

  wakes : move n us p s ≡ WakesOne → UpgradeLeads recursive WakesOne t n spot us p s x l
  wakes e v vs k stay is from_k out =
      let own = subst (InSection recursive n us p s) e (section recursive n us p s h.prepared) vs l.word in
      let z = subst (λ (m : Move). IsMove recursive m n vs p q l.word (word_after (act_of p) s x)) own.0
      (moved_with vs own.1).0 v in (
        (h.here ∙ ap (λ r. Some r) (listed WakesOne e tt ∙ ap (λ ws. role n Listed ws p) is ∙ z.0), from_k, out),
        λ i. record l { word = h.word i; roles = slice_set (slice_set l.roles v (waking_to k)) t (sym z.1 i) },
      )

  lead : (m : Move) → move n us p s ≡ m → IsMove recursive m n us p q l.word (word_after (act_of p) s x)
      → UpgradeLeads recursive m t n spot us p s x l
  lead Stays e m = stays m
  lead (Makes k) e m = makes k e m
  lead (Joins k) e m = joins k e m
  lead (TakesOne mode) e m = takes mode e m
  lead TakesWriter e m = subst (InSection recursive n us p s) e (section recursive n us p s h.prepared)
  lead (Tells end left) e m = tells end left e m
  lead WakesOne e m = wakes e
  lead (IsWoken k) e m = λ by. let z = m by in (z.0, z.1)

pub upgrades_are_steps : UpgradesAreSteps
upgrades_are_steps recursive l t n spot us p x s h told = let m = moved recursive l t n spot us p x s h told in
    (lead recursive l t n spot us p x s h told (move n us p s) refl m.0, m.1)
