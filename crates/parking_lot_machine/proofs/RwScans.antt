-- A call at a reader-writer lock that goes through a list: whom it wants, whom it takes, and what it stores.
use Rattle.std.proofs.Common.{◌≡◌, ℕ, ◌+◌, ◌*◌, ◌%◌, ◌^◌, ◌&&◌, ◌||◌, ◌⊎◌, inl, inr, nat_lt, cond, Bool, true, false}
use Rattle.std.proofs.Common.{List, [], ◌∷◌, ◌++◌, length, map, remove, Some, None, slice_get, slice_set, refl, sym, ap}
use Rattle.std.proofs.Common.{◌∙◌, subst}
use Rattle.std.proofs.lemmas.Bool.{both_ways}
use Rattle.parking_lot_core_model.specs.Results.{is_left}
use Rattle.parking_lot_core_model.specs.declared.parking.FilterOp.{FilterOp}
use Rattle.parking_lot_core_model.specs.declared.parking.ParkToken.{ParkToken}
use Rattle.parking_lot_rules.specs.Clauses.{word_of}
use Rattle.parking_lot_rules.specs.Lock.{Lock}
use Rattle.parking_lot_rules.specs.Roles.{Asleep, Cause, Open, Owned, Queued1, Role, Shares, Taken1, Stay}
use Rattle.parking_lot_rules.specs.Roles as rules
use Rattle.parking_lot_rules.specs.Steps.{AreSkipped, Ending, Keep, Scan, Store, Take, Take1, ends_saying}
use Rattle.parking_lot_rules.specs.Steps.{holds_upgradable, look, scanning, settle}
use Rattle.parking_lot_protocol.specs.Acts.{word_after}
use Rattle.parking_lot_protocol.specs.RwRules as of_rw
use Rattle.parking_lot_protocol.specs.RwRules.{IsToken, mode_by}
use Rattle.parking_lot_protocol.specs.RwTable as rw_table
use Rattle.parking_lot_protocol.specs.declared.act.Act.{Act}
use Rattle.parking_lot_protocol.specs.declared.act.SectionAct.TheVariants as section
use Rattle.parking_lot_protocol.specs.declared.act.ActResult.{ActResult}
use Rattle.parking_lot_protocol.specs.declared.act.CoreAnswer.{CoreAnswer}
use Rattle.parking_lot_protocol.specs.declared.act.WordChange.{WordChange}
use Rattle.parking_lot_protocol.specs.declared.rw_phase.AfterWake.{AfterWake}
use Rattle.parking_lot_protocol.specs.declared.rw_phase.RwPhase.{RwPhase}
use Rattle.parking_lot_protocol.specs.declared.rw_phase.Scanning.{Scanning}
use Rattle.parking_lot_protocol_rw.specs.UpgradeLooks.{CanHaveTaken, scan_as}
use Rattle.parking_lot_protocol_rw.specs.UpgradeMoves as of_upgrade_moves
use Rattle.parking_lot_protocol_rw.specs.UpgradeRoles as of_upgrade
use Rattle.parking_lot_protocol_rw.specs.UpgradeRules as upgrade_rules
use Rattle.parking_lot_protocol_rw.specs.UpgradeTable as upgrade_table
use Rattle.parking_lot_protocol_rw.specs.declared.upgrade_phase.Hold.{Hold}
use Rattle.parking_lot_protocol_rw.specs.declared.upgrade_phase.Release.{Release}
use Rattle.parking_lot_protocol_rw.specs.declared.upgrade_phase.UpgradePhase.{UpgradePhase}
use Rattle.parking_lot_machine.specs.Passes.{ArePassed, asks, look_by}
use Rattle.parking_lot_machine_calls.specs.CallActs.{told_of}
use Rattle.parking_lot_machine.specs.RowFits.{IsPrepared, KnowsList, sees_upgradable, upgrade_keeps, upgrade_knows}
use Rattle.parking_lot_machine_calls.specs.CallKinds.{IsOfWorld}
use Rattle.parking_lot_machine_calls.specs.CallRoles.{mark_of, rw_spot}
use Rattle.parking_lot_machine.specs.RwLaws.{IsStep, Meets, ending_of, with_roles}
use Rattle.parking_lot_machine_calls.specs.StanceLaws.{Counts, rw_counts}
use Rattle.parking_lot_machine_calls.specs.Stances.{In, Stores, Takes, core_act, core_next, core_tells, rw_stance}
use Rattle.parking_lot_machine_calls.specs.Stances.{seeks_stance, stance, taken_count, upgrade_stance, upgrade_tells}
use Rattle.parking_lot_machine_calls.specs.Stances.{late_rw_act}
use Rattle.parking_lot_machine.specs.UpgradeLaws.{UpgradeLeads}
use Rattle.parking_lot_machine_calls.specs.declared.seat.QueuePosition.{QueuePosition}
use Rattle.parking_lot_core_model.specs.declared.place.Waiter.{Waiter}
use Rattle.parking_lot_machine.proofs.KindTable.{RwCall, Simple, Upgradable, rw_call, rw_next, Tardy}
use Rattle.parking_lot_machine.proofs.RwCalls.{CallLearns, CallMeets, CallTold, as_simple, as_upgrade, call_move}
use Rattle.parking_lot_machine.proofs.RwCalls.{call_role}
use Rattle.parking_lot_machine.proofs.RwTaking.{same_scan, scan_holds, scans_go_by_tokens, takes_are_steps}
use Rattle.parking_lot_machine.proofs.RwWaking.{stores_are_steps, tokens_say}
use Rattle.parking_lot_machine.proofs.UpgradeMoving.{upgrades_are_steps}
use Rattle.parking_lot_machine.proofs.UpgradeParts.{frees_sums, owes_sums, sees_taken}
use Rattle.parking_lot_machine_calls.proofs.Lying.{tardy_takes}
use Rattle.parking_lot_machine_calls.specs.declared.late_rw.LateRwPhase.{LateRwPhase}

-- WHO GOES THROUGH THE FIRST LIST

-- What is true of one that takes waiters of the first list: its scan, whether it sees an upgradable hold, and so whom
-- it wants; and it has taken
-- no writer yet.
pub record Scanner (n : ℕ) (k : RwCall) : Type 0 where
  pub scan : Scanning
  pub sees : Bool
  pub asks_so : (token : ℕ) → asks (core_act (rw_call k)) token ≡ look_by sees false token
  pub more : scan.upgradable ≡ true → sees ≡ true
  pub taken : taken_count (rw_call k) ≡ rw_table.count_of scan
  pub counts : (token : ParkToken) → rw_counts (RwPhase.Scans scan) token → Counts (rw_call k) token
  pub writer : scan.writer ≡ false
  pub act : (sum : ℕ) × (core_act (rw_call k) ≡ Act.Section (section.TakeNext sum))
  -- what it is to its lock
  pub its : List ℕ → Scan
  pub role : (at : QueuePosition) (us : List ℕ) → call_role n at us k ≡ scanning (its us)
  pub holds : (us : List ℕ) → holds_upgradable (its us) ≡ sees
  pub writes : (us : List ℕ) → (its us).writer ≡ false
  -- and what it may be told
  pub move : (us : List ℕ) (token : ParkToken) (left : Bool) → call_move n us k (ActResult.Took (Some token) left)
      ≡ of_rw.TakesOne (mode_by token)
  pub told : (x : ℕ) (token : ParkToken) (left : Bool) → IsToken (Some token) → CallTold k x (ActResult.Took (Some token) left)
  pub learns : (token : ParkToken) (left : Bool) (f g : List Waiter) → is_left f ≡ left
      → CallLearns k (ActResult.Took (Some token) left) f g
  pub none : (x : ℕ) (left : Bool) → CallTold k x (ActResult.Took None left)
  pub stays : (us : List ℕ) (left : Bool) → call_move n us k (ActResult.Took None left) ≡ of_rw.Stays
  pub passes : (left : Bool) (f g : List Waiter) → is_left f ≡ left → ArePassed (asks (core_act (rw_call k))) f
      (length f) → CallLearns k (ActResult.Took None left) f g

-- another filter that answers the same
passed_so : (f g : ℕ → FilterOp) (q : List Waiter) (m : ℕ) → ((token : ℕ) → f token ≡ g token) → ArePassed f q m → ArePassed g q m
passed_so f g q m same passed i w low at = sym (same w.token.0) ∙ passed i w low at

-- it sees what it sees, as one that has taken no writer
unwritten : (u w : Bool) (token : ℕ) → w ≡ false → look_by u w token ≡ look_by u false token
unwritten u w token e = ap (λ b. look_by u b token) e

simple_scanner : (recursive : Bool) (n : ℕ) (q : RwPhase) → rw_stance q ≡ In 0 Takes
    → IsPrepared recursive n (rw_call (Simple (record { phase = q }))) → Scanner n (Simple (record { phase = q }))
simple_scanner recursive n (RwPhase.Scans a) e ready = record {
  scan = a;
  sees = a.upgradable;
  asks_so = λ token. scans_go_by_tokens.sums a token ∙ unwritten a.upgradable a.writer token ready.1.1;
  more = λ f. f;
  taken = refl;
  counts = λ token c. c;
  writer = ready.1.1;
  act = (rw_table.sum_of a, refl);
  its = of_rw.scan_of n a;
  role = λ at us. refl;
  holds = λ us. scan_holds n a us;
  writes = λ us. ready.1.1;
  move = λ us token left. refl;
  told = λ x token left is. is;
  learns = λ token left f g h. h;
  none = λ x left. tt;
  stays = λ us left. refl;
  passes = λ left f g h passed. (h, passed);
}
simple_scanner recursive n (RwPhase.TakeWriter rest) e ready = absurd cc
simple_scanner recursive n q e ready = absurd cc

frees_scanner : (recursive : Bool) (n : ℕ) (r : Release) (q : RwPhase) → rw_stance q ≡ In 0 Takes
    → IsPrepared recursive n (rw_call (Upgradable (record { phase = UpgradePhase.Frees r (record { phase = q }) })))
    → Scanner n (Upgradable (record { phase = UpgradePhase.Frees r (record { phase = q }) }))
frees_scanner recursive n r (RwPhase.Scans a) e ready = record {
  scan = a;
  sees = a.upgradable;
  asks_so = λ token. frees_sums a token ∙ unwritten a.upgradable a.writer token ready.3.0;
  more = λ f. f;
  taken = refl;
  counts = λ token c. c;
  writer = ready.3.0;
  act = (rw_table.sum_of a, refl);
  its = scan_as (Shares 0) rules.FromUpgradable a;
  role = λ at us. refl;
  holds = λ us. refl;
  writes = λ us. ready.3.0;
  move = λ us token left. refl;
  told = λ x token left is. is;
  learns = λ token left f g h. h;
  none = λ x left. tt;
  stays = λ us left. refl;
  passes = λ left f g h passed. (h, passed_so _ _ f (length f) (frees_sums a) passed);
}
frees_scanner recursive n r (RwPhase.TakeWriter rest) e ready = absurd cc
frees_scanner recursive n r q e ready = absurd cc

-- a look that is owed is a downgrade's
owes_cause : (rest : AfterWake) → rest ≡ AfterWake.Downgraded → of_rw.cause_of rest ≡ rules.Owed
owes_cause rest e = ap of_rw.cause_of e

owes_sees : (kept : Hold) (a : Scanning) (us : List ℕ) → CanHaveTaken kept a
    → holds_upgradable (scan_as (of_upgrade.owned kept) rules.Owed a us) ≡ sees_upgradable kept a
owes_sees Hold.Nothing a us can = refl
owes_sees Hold.Shared a us can = refl
owes_sees Hold.Upgradable a us can = refl
owes_sees Hold.Exclusive a us can = absurd can

owes_scanner : (recursive : Bool) (n : ℕ) (kept : Hold) (end : CoreAnswer) (q : RwPhase) → rw_stance q ≡ In 0 Takes
    → IsPrepared recursive n
    (rw_call (Upgradable (record { phase = UpgradePhase.Owes kept end (record { phase = q }) })))
    → Scanner n (Upgradable (record { phase = UpgradePhase.Owes kept end (record { phase = q }) }))
owes_scanner recursive n kept end (RwPhase.Scans a) e ready = record {
  scan = a;
  sees = sees_upgradable kept a;
  asks_so = λ token. owes_sums kept a token ready.3.1.1 ∙ unwritten (sees_upgradable kept a) a.writer token ready.3.1.0;
  more = sees_taken kept a;
  taken = refl;
  counts = λ token c. c;
  writer = ready.3.1.0;
  act = ((upgrade_table.kept_share kept + rw_table.taken_sum a) % 2 ^ 64, refl);
  its = scan_as (of_upgrade.owned kept) rules.Owed a;
  role = λ at us. ap
      (λ c. record { owns = of_upgrade.owned kept; does = rules.Scans1 c a.shared a.upgradable a.writer us })
      (owes_cause a.rest ready.1);
  holds = λ us. owes_sees kept a us ready.3.1.1;
  writes = λ us. ready.3.1.0;
  move = λ us token left. refl;
  told = λ x token left is. is;
  learns = λ token left f g h. h;
  none = λ x left. tt;
  stays = λ us left. refl;
  passes = λ left f g h passed. (h, passed_so _ _ f (length f) (λ token. owes_sums kept a token ready.3.1.1) passed);
}
owes_scanner recursive n kept end (RwPhase.TakeWriter rest) e ready = absurd cc
owes_scanner recursive n kept end q e ready = absurd cc

seeks_no_scan : (q : RwPhase) → upgrade_rules.IsSeeking q → upgrade_stance (UpgradePhase.Seeks (record { phase = q })) ≡ In 0 Takes → ⊥
seeks_no_scan (RwPhase.Scans a) i e = i
seeks_no_scan (RwPhase.TakeWriter rest) i e = i
seeks_no_scan q i e = cc

pub drains_no_scan : (q : RwPhase) (key : ℕ) → upgrade_rules.IsDraining q → rw_stance q ≡ In key Takes → ⊥
drains_no_scan (RwPhase.Scans a) key i e = i
drains_no_scan (RwPhase.TakeWriter rest) key i e = i
drains_no_scan q key i e = cc

upgrade_scanner : (recursive : Bool) (n : ℕ) (p : UpgradePhase) → upgrade_stance p ≡ In 0 Takes
    → IsPrepared recursive n (rw_call (Upgradable (record { phase = p })))
    → Scanner n (Upgradable (record { phase = p }))
upgrade_scanner recursive n (UpgradePhase.Plain core) e ready = absurd ready.2
upgrade_scanner recursive n (UpgradePhase.Seeks core) e ready = absurd (seeks_no_scan core.phase ready.1.0 e)
upgrade_scanner recursive n (UpgradePhase.Drains core) e ready = absurd (drains_no_scan core.phase 0 ready.1.0 e)
upgrade_scanner recursive n (UpgradePhase.Frees r core) e ready = frees_scanner recursive n r core.phase e ready
upgrade_scanner recursive n (UpgradePhase.Owes kept end core) e ready = owes_scanner recursive n kept end core.phase e ready
upgrade_scanner recursive n p e ready = absurd cc

pub scanner : (recursive : Bool) (n : ℕ) (k : RwCall) → stance (rw_call k) ≡ In 0 Takes
    → IsPrepared recursive n (rw_call k) → Scanner n k
scanner recursive n (Simple k) e ready = simple_scanner recursive n k.phase e ready
scanner recursive n (Upgradable k) e ready = upgrade_scanner recursive n k.phase e ready
scanner recursive n (Tardy p) e ready = absurd (tardy_takes p 0 e)

-- whatever it takes, the word stays
scans_no_word : (k : RwCall) (recursive : Bool) (n : ℕ) (e : stance (rw_call k) ≡ In 0 Takes)
    (ready : IsPrepared recursive n (rw_call k)) (s : ActResult) (x : ℕ) → word_after (core_act (rw_call k)) s x ≡ x
scans_no_word k recursive n e ready s x = ap (λ a. word_after a s x) (scanner recursive n k e ready).act.1

-- IT TAKES

simple_takes : (recursive : Bool) (l : Lock) (t n : ℕ) (at : QueuePosition) (us : List ℕ) (q : RwPhase) (x : ℕ)
    (e : rw_stance q ≡ In 0 Takes) (ready : IsPrepared recursive n (rw_call (Simple (record { phase = q }))))
    (token : ParkToken) (left : Bool) (i v : ℕ) (stay : Stay) → Meets recursive l t n (rw_spot at) us q x
    → IsToken (Some token)
    → slice_get l.first i ≡ Some v
    → slice_get l.roles v ≡ Some (record { owns = Shares 0; does = Queued1 (mode_by token) stay })
    → look (simple_scanner recursive n q e ready).sees false (mode_by token) ≡ Take
    → AreSkipped (simple_scanner recursive n q e ready).sees false l.roles l.first i
    → (scan : Scan) × IsStep recursive t (Take1 scan i v (mode_by token) stay) l
    (record (with_roles l x t
    (of_rw.role n of_rw.Listed (us ++ v ∷ []) (rw_table.next_phase q (ActResult.Took (Some token) left))) v
    (record { owns = Shares 0; does = Taken1 (mode_by token) t Open stay })) { first = remove l.first i })
unfolding simple_scanner
simple_takes recursive l t n at us (RwPhase.Scans a) x e ready token left i v stay h is waiter waits looks skipped = (
  of_rw.scan_of n a us,
  takes_are_steps recursive l t n (rw_spot at) us a x token left i v stay h is
      (record {
        waiter = waiter;
        waits = waits;
        looks = ap (λ w. look a.upgradable w (mode_by token)) ready.1.1 ∙ looks;
        skipped = subst (λ w. AreSkipped a.upgradable w l.roles l.first i) (sym ready.1.1) skipped;
      }),
)
simple_takes recursive l t n at us (RwPhase.TakeWriter rest) x e ready token left i v stay h is waiter waits looks skipped = absurd cc
simple_takes recursive l t n at us q x e ready token left i v stay h is waiter waits looks skipped = absurd cc

pub call_takes : (recursive : Bool) (l : Lock) (t n : ℕ) (at : QueuePosition) (us : List ℕ) (k : RwCall) (x : ℕ)
    (e : stance (rw_call k) ≡ In 0 Takes) (ready : IsPrepared recursive n (rw_call k)) (token : ParkToken) (left : Bool)
    (i v : ℕ) (stay : Stay) → CallMeets recursive l t n at us k x → IsToken (Some token)
    → slice_get l.first i ≡ Some v
    → slice_get l.roles v ≡ Some (record { owns = Shares 0; does = Queued1 (mode_by token) stay })
    → look (scanner recursive n k e ready).sees false (mode_by token) ≡ Take
    → AreSkipped (scanner recursive n k e ready).sees false l.roles l.first i
    → (scan : Scan) × IsStep recursive t (Take1 scan i v (mode_by token) stay) l
    (record (with_roles l x t
    (call_role n QueuePosition.Listed (us ++ v ∷ []) (rw_next k (ActResult.Took (Some token) left))) v
    (record { owns = Shares 0; does = Taken1 (mode_by token) t Open stay })) { first = remove l.first i })
unfolding scanner
call_takes recursive l t n at us (Tardy p) x e ready token left i v stay h is waiter waits looks skipped = absurd (tardy_takes p 0 e)
call_takes recursive l t n at us (Simple k) x e ready token left i v stay h is waiter waits looks skipped =
    simple_takes recursive l t n at us k.phase x e ready token left i v stay (as_simple recursive l t n at us k x h) is
    waiter waits looks skipped
call_takes recursive l t n at us (Upgradable k) x e ready token left i v stay h is waiter waits looks skipped =
    let z = scanner recursive n (Upgradable k) e ready in
    let s = ActResult.Took (Some token) left in
    let m = (upgrades_are_steps recursive l t n (rw_spot at) us k.phase x s (as_upgrade recursive l t n at us k x h)
    (z.told x token left is)).0 in
    let lead = subst (λ y. UpgradeLeads recursive y t n (rw_spot at) us k.phase s x l) (z.move us token left) m v in
    let scan : Scan = lead.0 in
    let same : scan ≡ z.its us = same_scan scan (z.its us) (sym lead.1 ∙ z.role QueuePosition.Listed us) in
    let sees : holds_upgradable scan ≡ z.sees = ap holds_upgradable same ∙ z.holds us in
    let writes : scan.writer ≡ false = ap (λ (c : Scan). c.writer) same ∙ z.writes us in
    let word : word_after (core_act (rw_call (Upgradable k))) s x ≡ x = scans_no_word (Upgradable k) recursive n e ready s x in
    let step = lead.2 i stay (record {
      waiter = waiter;
      role = waits;
      looks = ap (λ u. look u scan.writer (mode_by token)) sees ∙ ap (λ w. look z.sees w (mode_by token)) writes ∙ looks;
      skipped = subst (λ u. AreSkipped u scan.writer l.roles l.first i) (sym sees)
          (subst (λ w. AreSkipped z.sees w l.roles l.first i) (sym writes) skipped);
    }) in (
      scan,
      (
        step.0,
        step.1 ∙ ap (λ y.
            record (with_roles l y t (call_role n QueuePosition.Listed (us ++ v ∷ []) (rw_next (Upgradable k) s)) v
            (record { owns = Shares 0; does = Taken1 (mode_by token) t Open stay })) { first = remove l.first i }) word,
      ),
    )

-- IT STORES

-- The end of a section, by its ending and its scan: the move, the lock after it, and what it tells all that it has
-- taken.
pub record CallStores (recursive : Bool) (l : Lock) (t n : ℕ) (us : List ℕ) (k : RwCall) (x : ℕ) (fair : Bool) : Type 0 where
  pub end : Ending
  pub left : Bool
  pub scan : Scan
  pub move : call_move n us k (ActResult.Stored fair) ≡ of_rw.Tells end left
  pub mine : slice_get l.roles t ≡ Some (scanning scan)
  pub told : CallTold k x (ActResult.Stored fair)
  pub learns : (f g : List Waiter) → CallLearns k (ActResult.Stored fair) f g
  pub says : mark_of (told_of (core_tells (core_next (rw_call k) (ActResult.Stored fair)))) ≡ ends_saying end
  pub step : IsStep recursive t (Store end scan) l (record l {
    word = word_of (word_after (core_act (rw_call k)) (ActResult.Stored fair) x);
    roles = slice_set (map (settle (ends_saying end)) l.roles) t
        (call_role n QueuePosition.Listed us (rw_next k (ActResult.Stored fair)));
  })

-- what is known of the list is what the rules ask for
abbrev SkipsOf : Lock → List Waiter → Type 0
SkipsOf l queue = (u w : Bool) → ArePassed (look_by u w) queue (length queue) → AreSkipped u w l.roles l.first (length l.first)

simple_stores : (recursive : Bool) (l : Lock) (t n : ℕ) (at : QueuePosition) (us : List ℕ) (q : RwPhase) (x : ℕ)
    (fair : Bool) (plain change : WordChange) (key j : ℕ) (queues : ℕ → List Waiter)
    → Meets recursive l t n (rw_spot at) us q x → rw_stance q ≡ In key Stores
    → rw_table.act_of q ≡ Act.Section (section.Store plain change)
    → is_left l.first ≡ is_left (queues (2 * j)) → SkipsOf l (queues (2 * j))
    → KnowsList (rw_call (Simple (record { phase = q }))) queues j
    → CallStores recursive l t n us (Simple (record { phase = q })) x fair
simple_stores recursive l t n at us (RwPhase.Stores a left) x fair plain change key j queues h from asked some skips knows =
    let over : (a.writer ≡ true) ⊎ AreSkipped a.upgradable a.writer l.roles l.first (length l.first) = elim knows.1 [
      | inl writer ↦ inl writer
      | inr passed ↦ inr
          (skips a.upgradable a.writer
          (passed_so _ _ (queues (2 * j)) (length (queues (2 * j))) (scans_go_by_tokens.sums a) passed))
    ] in
    record {
      end = ending_of a fair;
      left = left;
      scan = of_rw.scan_of n a us;
      move = refl;
      mine = h.here;
      told = tt;
      learns = λ f g. tt;
      says = tokens_say a left fair;
      step = stores_are_steps recursive l t n (rw_spot at) us a left x fair h (some ∙ knows.0) over;
    }
simple_stores recursive l t n at us (RwPhase.ClearWriterParked rest has) x fair plain change key j queues h from asked
    some skips knows = absurd (none_stored asked)
  where
    none_stored : {m : ℕ} → Act.FetchAnd m ≡ Act.Section (section.Store plain change) → ⊥
    none_stored e = cc
simple_stores recursive l t n at us q x fair plain change key j queues h from asked some skips knows = absurd cc

-- what an upgradable call tells whom it has taken: those are handed the lock where it gives up, and says so
abbrev Marks : RwPhase → rules.Mark
Marks q = mark_of (told_of (rw_table.wakes_with q))

frees_says : (rest : AfterWake) (count : ℕ) (b : Bool) → Marks (RwPhase.Leaves rest count b) ≡ ends_saying
    (of_upgrade_moves.frees_ending b)
frees_says rest count true = refl
frees_says rest count false = refl

owes_says : (a : Scanning) (count : ℕ) (b : Bool) → a.rest ≡ AfterWake.Downgraded
    → Marks (RwPhase.Leaves a.rest count (rw_table.hands a b)) ≡ ends_saying Keep
owes_says a count b e = ap (λ r. Marks (RwPhase.Leaves r count (rw_table.may_hand r && (b && nat_lt 0 (rw_table.count_of a))))) e

-- Of one that stores: how it ends, and what it knows.
record Storing (n : ℕ) (us : List ℕ) (p : UpgradePhase) (fair : Bool) (queue : List Waiter) : Type 0 where
  end : Ending
  left : Bool
  its : Scan
  move : of_upgrade_moves.move n us p (ActResult.Stored fair) ≡ of_rw.Tells end left
  role : of_upgrade.role n of_rw.Listed us p ≡ scanning its
  told : (x : ℕ) → upgrade_rules.IsTold p x (ActResult.Stored fair)
  learns : (f g : List Waiter) → CallLearns (Upgradable (record { phase = p })) (ActResult.Stored fair) f g
  says : mark_of (told_of (upgrade_tells (upgrade_table.next_phase p (ActResult.Stored fair)))) ≡ ends_saying end
  some : is_left queue ≡ left
  over : (its.writer ≡ true) ⊎ ArePassed (look_by (holds_upgradable its) its.writer) queue (length queue)

frees_storing : (n : ℕ) (us : List ℕ) (r : Release) (q : RwPhase) (fair : Bool) (queue : List Waiter) (key : ℕ)
    → upgrade_rules.IsFreeing q → rw_stance q ≡ In key Stores
    → upgrade_knows (UpgradePhase.Frees r (record { phase = q })) queue
    → Storing n us (UpgradePhase.Frees r (record { phase = q })) fair queue
frees_storing n us r (RwPhase.Stores a left) fair queue key i from k = record {
  end = of_upgrade_moves.frees_ending (rw_table.hands a (a.fair || fair));
  left = left;
  its = scan_as (Shares 0) rules.FromUpgradable a us;
  move = refl;
  role = refl;
  told = λ x. tt;
  learns = λ f g. tt;
  says = frees_says a.rest (rw_table.count_of a) (rw_table.hands a (a.fair || fair));
  some = k.0;
  over = k.1;
}
frees_storing n us r (RwPhase.ClearWriterParked rest has) fair queue key i from k = absurd i
frees_storing n us r q fair queue key i from k = absurd cc

owes_storing : (n : ℕ) (us : List ℕ) (kept : Hold) (end : CoreAnswer) (q : RwPhase) (fair : Bool) (queue : List Waiter)
    (key : ℕ) → upgrade_rules.IsOwing q → upgrade_keeps (UpgradePhase.Owes kept end (record { phase = q }))
    → rw_stance q ≡ In key Stores → upgrade_knows (UpgradePhase.Owes kept end (record { phase = q })) queue
    → Storing n us (UpgradePhase.Owes kept end (record { phase = q })) fair queue
owes_storing n us kept end (RwPhase.Stores a left) fair queue key i keeps from k = record {
  end = Keep;
  left = left;
  its = scan_as (of_upgrade.owned kept) rules.Owed a us;
  move = refl;
  role = ap (λ c. record { owns = of_upgrade.owned kept; does = rules.Scans1 c a.shared a.upgradable a.writer us })
      (owes_cause a.rest i);
  told = λ x. tt;
  learns = λ f g. tt;
  says = owes_says a (rw_table.count_of a) (a.fair || fair) i;
  some = k.0;
  over = elim k.1 [
    | inl w ↦ inl w
    | inr passed ↦ inr
        (subst (λ u. ArePassed (look_by u a.writer) queue (length queue)) (sym (owes_sees kept a us keeps.1)) passed)
  ];
}
owes_storing n us kept end (RwPhase.ClearWriterParked rest has) fair queue key i keeps from k = absurd i
owes_storing n us kept end q fair queue key i keeps from k = absurd cc

seeks_no_store : (q : RwPhase) (key : ℕ) → upgrade_rules.IsSeeking q → seeks_stance q ≡ In key Stores → ⊥
seeks_no_store (RwPhase.Stores a left) key i e = i
seeks_no_store (RwPhase.ClearWriterParked rest has) key i e = i
seeks_no_store q key i e = cc

drains_no_store : (q : RwPhase) (key : ℕ) → upgrade_rules.IsDraining q → rw_stance q ≡ In key Stores → ⊥
drains_no_store (RwPhase.Stores a left) key i e = i
drains_no_store (RwPhase.ClearWriterParked rest has) key i e = i
drains_no_store q key i e = cc

upgrade_storing : (n : ℕ) (us : List ℕ) (p : UpgradePhase) (fair : Bool) (queue : List Waiter) (key : ℕ)
    → upgrade_rules.IsReady p → IsOfWorld p → upgrade_keeps p → upgrade_stance p ≡ In key Stores → upgrade_knows p queue
    → Storing n us p fair queue
upgrade_storing n us (UpgradePhase.Plain core) fair queue key i o keeps from k = absurd o
upgrade_storing n us (UpgradePhase.Seeks core) fair queue key i o keeps from k = absurd (seeks_no_store core.phase key i.0 from)
upgrade_storing n us (UpgradePhase.Drains core) fair queue key i o keeps from k = absurd (drains_no_store core.phase key i.0 from)
upgrade_storing n us (UpgradePhase.Frees r core) fair queue key i o keeps from k = frees_storing n us r core.phase fair
    queue key i from k
upgrade_storing n us (UpgradePhase.Owes kept end core) fair queue key i o keeps from k =
    owes_storing n us kept end core.phase fair queue key i keeps from k
upgrade_storing n us p fair queue key i o keeps from k = absurd cc

tardy_stores : {plain change : WordChange} (p : LateRwPhase) → late_rw_act p ≡ Act.Section (section.Store plain change) → ⊥
tardy_stores (LateRwPhase.Expires k) e = cc
tardy_stores (LateRwPhase.Quits k) e = cc
tardy_stores LateRwPhase.Masks e = cc
tardy_stores LateRwPhase.Leaves e = cc
tardy_stores LateRwPhase.GivesUp e = cc
tardy_stores (LateRwPhase.LeavesPending from) e = cc
tardy_stores (LateRwPhase.WasTaken k by handed) e = cc

pub call_stores : (recursive : Bool) (l : Lock) (t n : ℕ) (at : QueuePosition) (us : List ℕ) (k : RwCall) (x : ℕ)
    (fair : Bool) (plain change : WordChange) (key j : ℕ) (queues : ℕ → List Waiter)
    → CallMeets recursive l t n at us k x → IsPrepared recursive n (rw_call k) → at ≡ QueuePosition.Listed
    → stance (rw_call k) ≡ In key Stores
    → core_act (rw_call k) ≡ Act.Section (section.Store plain change) → is_left l.first ≡ is_left (queues (2 * j))
    → SkipsOf l (queues (2 * j)) → KnowsList (rw_call k) queues j → CallStores recursive l t n us k x fair
call_stores recursive l t n at us (Simple k) x fair plain change key j queues h ready listed from asked some skips
    knows = simple_stores recursive l t n at us k.phase x fair plain change key j queues
    (as_simple recursive l t n at us k x h) from asked some skips knows
call_stores recursive l t n at us (Tardy p) x fair plain change key j queues h ready listed from asked some skips
    knows = absurd (tardy_stores p asked)
call_stores recursive l t n at us (Upgradable k) x fair plain change key j queues h ready listed from asked some skips knows =
    let z = upgrade_storing n us k.phase fair (queues (2 * j)) key ready.1 ready.2 ready.3 from knows in
    let s = ActResult.Stored fair in
    let m = (upgrades_are_steps recursive l t n (rw_spot at) us k.phase x s (as_upgrade recursive l t n at us k x h) (z.told x)).0 in
    let lead = subst (λ y. UpgradeLeads recursive y t n (rw_spot at) us k.phase s x l) z.move m (some ∙ z.some) in
    let scan : Scan = lead.0 in
    let same : scan ≡ z.its = same_scan scan z.its (sym lead.1 ∙ z.role) in
    record {
      end = z.end;
      left = z.left;
      scan = scan;
      move = z.move;
      mine = h.here ∙ ap (λ y. Some (call_role n y us (Upgradable k))) listed ∙ ap Some lead.1;
      told = z.told x;
      learns = z.learns;
      says = z.says;
      step = lead.2 (subst
          (λ (c : Scan). (c.writer ≡ true) ⊎ AreSkipped (holds_upgradable c) c.writer l.roles l.first (length l.first))
          (sym same) (elim z.over
          [ inl w ↦ inl w | inr passed ↦ inr (skips (holds_upgradable z.its) z.its.writer passed) ]));
    }

-- WHERE IT TAKES

-- whoever takes goes through the first list, or takes the pending writer
abbrev pub TakesWhere : RwCall → ℕ → Type 0
TakesWhere y key = ((stance (rw_call y) ≡ In 0 Takes) × (0 ≡ key))
    ⊎ ((rest : AfterWake) × (y ≡ Simple (record { phase = RwPhase.TakeWriter rest })) × (1 ≡ key))

simple_where : (q : RwPhase) (key : ℕ) → rw_stance q ≡ In key Takes → TakesWhere (Simple (record { phase = q })) key
simple_where (RwPhase.Scans a) key e = inl (refl, let z : 0 ≡ key = cc in z)
simple_where (RwPhase.TakeWriter rest) key e = inr (rest, refl, let z : 1 ≡ key = cc in z)
simple_where q key e = absurd cc

pub seeks_nowhere : (q : RwPhase) (key : ℕ) → upgrade_rules.IsSeeking q → seeks_stance q ≡ In key Takes → ⊥
seeks_nowhere (RwPhase.Scans a) key i e = i
seeks_nowhere (RwPhase.TakeWriter rest) key i e = i
seeks_nowhere q key i e = cc

frees_where : (r : Release) (q : RwPhase) (key : ℕ) → upgrade_rules.IsFreeing q → rw_stance q ≡ In key Takes
    → TakesWhere (Upgradable (record { phase = UpgradePhase.Frees r (record { phase = q }) })) key
frees_where r (RwPhase.Scans a) key i e = inl (refl, let z : 0 ≡ key = cc in z)
frees_where r (RwPhase.TakeWriter rest) key i e = absurd i
frees_where r q key i e = absurd cc

owes_where : (kept : Hold) (end : CoreAnswer) (q : RwPhase) (key : ℕ) → upgrade_rules.IsOwing q
    → rw_stance q ≡ In key Takes
    → TakesWhere (Upgradable (record { phase = UpgradePhase.Owes kept end (record { phase = q }) })) key
owes_where kept end (RwPhase.Scans a) key i e = inl (refl, let z : 0 ≡ key = cc in z)
owes_where kept end (RwPhase.TakeWriter rest) key i e = absurd i
owes_where kept end q key i e = absurd cc

upgrade_where : (p : UpgradePhase) (key : ℕ) → upgrade_rules.IsReady p → IsOfWorld p → upgrade_stance p ≡ In key Takes
    → TakesWhere (Upgradable (record { phase = p })) key
upgrade_where (UpgradePhase.Plain core) key i o e = absurd o
upgrade_where (UpgradePhase.Seeks core) key i o e = absurd (seeks_nowhere core.phase key i.0 e)
upgrade_where (UpgradePhase.Drains core) key i o e = absurd (drains_no_scan core.phase key i.0 e)
upgrade_where (UpgradePhase.Frees r core) key i o e = frees_where r core.phase key i e
upgrade_where (UpgradePhase.Owes kept end core) key i o e = owes_where kept end core.phase key i e
upgrade_where p key i o e = absurd cc

pub takes_where : (recursive : Bool) (n : ℕ) (y : RwCall) (key : ℕ) → IsPrepared recursive n (rw_call y)
    → stance (rw_call y) ≡ In key Takes → TakesWhere y key
takes_where recursive n (Simple k) key ready e = simple_where k.phase key e
takes_where recursive n (Upgradable k) key ready e = upgrade_where k.phase key ready.1 ready.2 e
takes_where recursive n (Tardy p) key ready e = absurd (tardy_takes p key e)

-- WHO MASKS

abbrev is_mask : Act → Bool
is_mask (Act.FetchAnd keep) = true
is_mask a = false

simple_masks : (q : RwPhase) → is_mask (rw_table.act_of q) ≡ true → (rest : AfterWake) × (has : Bool)
    × (q ≡ RwPhase.ClearWriterParked rest has)
simple_masks (RwPhase.ClearWriterParked rest has) e = (rest, has, refl)
simple_masks (RwPhase.Finishes AfterWake.FreedShared) e = absurd cc
simple_masks (RwPhase.Finishes AfterWake.FreedExclusive) e = absurd cc
simple_masks (RwPhase.Finishes AfterWake.Downgraded) e = absurd cc
simple_masks (RwPhase.Finishes AfterWake.AgainShared) e = absurd cc
simple_masks (RwPhase.Finishes AfterWake.AgainExclusive) e = absurd cc
simple_masks q e = absurd cc

seeks_mask : (q : RwPhase) → upgrade_rules.IsSeeking q → is_mask (upgrade_table.seeks_act q) ≡ false
seeks_mask (RwPhase.Admits a word) i = by (rw_table.has_room word)
  where
    by : (b : Bool) → is_mask (cond b (Act.Exchange word ((word + 20) % 2 ^ 64)) Act.Load) ≡ false
    by true = refl
    by false = refl
seeks_mask (RwPhase.ClearWriterParked rest has) i = absurd i
seeks_mask (RwPhase.Finishes rest) i = absurd i
seeks_mask q i = refl

drains_mask : (q : RwPhase) → upgrade_rules.IsDraining q → is_mask (rw_table.act_of q) ≡ false
drains_mask (RwPhase.ClearWriterParked rest has) i = absurd i
drains_mask (RwPhase.Finishes rest) i = absurd i
drains_mask q i = refl

frees_mask : (r : Release) (q : RwPhase) → upgrade_rules.IsFreeing q → is_mask (upgrade_table.frees_act r q) ≡ false
frees_mask r (RwPhase.ClearWriterParked rest has) i = absurd i
frees_mask r (RwPhase.Finishes rest) i = by (upgrade_table.is_again r)
  where
    by : (b : Bool) → is_mask (cond b Act.Load (Act.Done CoreAnswer.Released)) ≡ false
    by true = refl
    by false = refl
frees_mask r q i = refl

owes_mask : (kept : Hold) (end : CoreAnswer) (q : RwPhase) → upgrade_rules.IsOwing q
    → is_mask (upgrade_table.owes_act kept end q) ≡ false
owes_mask kept end (RwPhase.ClearWriterParked rest has) i = absurd i
owes_mask kept end q i = refl

upgrade_mask : (p : UpgradePhase) → upgrade_rules.IsReady p → IsOfWorld p → is_mask (upgrade_table.act_of p) ≡ false
upgrade_mask (UpgradePhase.Plain core) i o = absurd o
upgrade_mask (UpgradePhase.Seeks core) i o = seeks_mask core.phase i.0
upgrade_mask (UpgradePhase.Drains core) i o = drains_mask core.phase i.0
upgrade_mask (UpgradePhase.Frees r core) i o = frees_mask r core.phase i
upgrade_mask (UpgradePhase.Owes kept end core) i o = owes_mask kept end core.phase i
upgrade_mask p i o = refl

tardy_masks : (p : LateRwPhase) → is_mask (late_rw_act p) ≡ true → p ≡ LateRwPhase.Masks
tardy_masks LateRwPhase.Masks e = refl
tardy_masks (LateRwPhase.Expires k) e = absurd cc
tardy_masks (LateRwPhase.Quits k) e = absurd cc
tardy_masks LateRwPhase.Leaves e = absurd cc
tardy_masks LateRwPhase.GivesUp e = absurd cc
tardy_masks (LateRwPhase.LeavesPending from) e = absurd cc
tardy_masks (LateRwPhase.WasTaken k by handed) e = absurd cc

-- only the last reader masks, and one whose moment has passed that stood last in the first list
pub call_masks : (recursive : Bool) (n keep : ℕ) (y : RwCall) → IsPrepared recursive n (rw_call y)
    → core_act (rw_call y) ≡ Act.FetchAnd keep
    → ((rest : AfterWake) × (has : Bool) × (y ≡ Simple (record { phase = RwPhase.ClearWriterParked rest has })))
    ⊎ (y ≡ Tardy LateRwPhase.Masks)
call_masks recursive n keep (Tardy p) ready e = inr (ap Tardy (tardy_masks p (ap is_mask e)))
call_masks recursive n keep (Simple k) ready e = let z = simple_masks k.phase (ap is_mask e) in
    inl (z.0, z.1, ap (λ q. Simple (record { phase = q })) z.2)
call_masks recursive n keep (Upgradable k) ready e =
    absurd (both_ways (is_mask (core_act (rw_call (Upgradable k)))) (upgrade_mask k.phase ready.1 ready.2)
    (ap is_mask e))
