-- The holds of each thread stay within the limit, and the word counts them.
use Rattle.std.proofs.Common.{◌≡◌, ◌≢◌, ℕ, zero, suc, ◌+◌, ◌*◌, ◌≤◌, ⊎_elim, Bool, true, false, List, [], ◌∷◌, ◌++◌}
use Rattle.std.proofs.Common.{length, map, Option, Some, None, option_map, slice_get, slice_set, sum_by, refl, sym, ap}
use Rattle.std.proofs.Common.{◌∙◌, subst, arith, mul-suc}
use Rattle.std.proofs.lemmas.List.{length-map}
use Rattle.std.proofs.lemmas.Bool.{cases_eq}
use Rattle.std.proofs.lemmas.List.Sums.{sum_by-cons}
use Rattle.std.proofs.lemmas.Option.{none-some, same_Some, slice_get-map}
use Rattle.parking_lot_rules.specs.Roles.{Mode, Shared, Exclusive, Upgradable, Owned, Shares, Excludes, Upgrades, Stay}
use Rattle.parking_lot_rules.specs.Roles.{Mark, Open, Normal, Handed, Phase, Taken1, Scans2, Stored1, Wakes, Role, away}
use Rattle.parking_lot_rules.specs.Classes.{Readers, Strange, weight, total, weighs, owned, done}
use Rattle.parking_lot_rules.specs.Lock.{Lock, IsSound}
use Rattle.parking_lot_rules.specs.Plain.{Plain, Begin, Yield, YieldBack, Downgrade, DowngradeToUpgradable}
use Rattle.parking_lot_rules.specs.Plain.{DowngradeUpgradable, from, to}
use Rattle.parking_lot_rules.specs.Steps.{Step, Alone, List_changes, Take1, Take2, Store, Wake, Pass, Allowed, after}
use Rattle.parking_lot_rules.specs.Steps.{Listing, Join1, listing_from, listing_to, Scan, scanning, taking, ends_saying}
use Rattle.parking_lot_rules.specs.Steps.{settle, told, Waking, Retry, Own, OwnPending, OwnUpgradable, Recheck}
use Rattle.parking_lot_rules.specs.Steps.{waking_from, waking_to}
use Rattle.parking_lot_rules.specs.Laws.{holds}
use Rattle.parking_lot_rules.specs.World.{World, lock_at, role_at, MayStep}
use Rattle.parking_lot_rules.specs.Runs.{Move, moved, Runs, IsReached, at_rest}
use Rattle.parking_lot_rules.specs.Holds.{shared_holds, handed_one, asks_for_one, IsWithin, HasRoom, AllHaveRoom}
use Rattle.parking_lot_rules.specs.Holds.{IsReachedWithin, HoldsAreCounted, HoldsAreWithin, WordsAreSmall}
use Rattle.parking_lot_rules.proofs.Indexed.{get-set_other, get-set_cases}
use Rattle.parking_lot_rules.proofs.Totals.{total-at}
use Rattle.parking_lot_rules.proofs.Running.{reached_sound, stays_at_its_lock, all_away}
use Rattle.parking_lot_rules.proofs.Worlds.{world_step}
use Rattle.parking_lot_rules.proofs.Trying.{one_more}

plain_within : (limit : ℕ) → 1 ≤ limit → (k : Plain) → HasRoom limit (Alone k) → IsWithin limit (from k)
    → IsWithin limit (to k)
plain_within limit some (Begin n m) room within = room
plain_within limit some (Yield true) room within = omega arith
plain_within limit some (Yield false) room within = omega arith
plain_within limit some (YieldBack true) room within = omega arith
plain_within limit some (YieldBack false) room within = omega arith
plain_within limit some (Downgrade true) room within = omega arith
plain_within limit some (Downgrade false) room within = omega arith
plain_within limit some (DowngradeToUpgradable true) room within = omega arith
plain_within limit some (DowngradeToUpgradable false) room within = omega arith
plain_within limit some (DowngradeUpgradable true) room within = omega arith
plain_within limit some (DowngradeUpgradable false) room within = omega arith
plain_within limit some k room within = omega arith

listing_within : (limit : ℕ) → (k : Listing) → IsWithin limit (listing_to k)
listing_within limit (Join1 m) = omega arith
listing_within limit k = omega arith

waking_within : (limit : ℕ) → 1 ≤ limit → (k : Waking) → IsWithin limit (waking_to k)
waking_within limit some (Retry m) = omega arith
waking_within limit some Own = omega arith
waking_within limit some k = omega arith

told_within : (limit : ℕ) (h : Mark) (o : Owned) (p : Phase) → shared_holds o + asks_for_one p ≤ limit
    → shared_holds o + asks_for_one (told h p) ≤ limit
told_within limit h o (Taken1 m by Open s) within = within
told_within limit h o p within = within

taking_within : (limit : ℕ) (s : Scan) (v : ℕ) (m : Mode) → IsWithin limit (scanning s)
    → IsWithin limit (scanning (taking s v m))
taking_within limit s v Shared within = within
taking_within limit s v Exclusive within = within
taking_within limit s v Upgradable within = within

abbrev AllWithin : ℕ → List Role → Type 0
AllWithin limit rs = (u : ℕ) (r : Role) → slice_get rs u ≡ Some r → IsWithin limit r

within-set : (limit : ℕ) (rs : List Role) (t : ℕ) (a b : Role) → slice_get rs t ≡ Some a → AllWithin limit rs
    → IsWithin limit b → AllWithin limit (slice_set rs t b)
within-set limit rs t a b at all h u r here = ⊎_elim (λ e. subst (IsWithin limit) (sym e.1) h) (λ e. all u r e.1)
    (get-set_cases rs t u a r b at here)

within-told : (limit : ℕ) (h : Mark) (rs : List Role) → AllWithin limit rs → AllWithin limit (map (settle h) rs)
within-told limit h rs all u r here = go (slice_get rs u) refl
  where
    go : (o : Option Role) → slice_get rs u ≡ o → IsWithin limit r
    go None e = absurd (none-some r (sym (slice_get-map (settle h) rs u ∙ ap (option_map (settle h)) e) ∙ here))
    go (Some x) e = subst (IsWithin limit)
        (same_Some (settle h x) r (sym (slice_get-map (settle h) rs u ∙ ap (option_map (settle h)) e) ∙ here))
        (told_within limit h x.owns x.does (all u x e))

-- a step that begins no call without room keeps all within
step_within : (limit : ℕ) → 1 ≤ limit → (recursive : Bool) (t : ℕ) (step : Step) (l : Lock) → Allowed recursive t step l
    → HasRoom limit step → AllWithin limit l.roles → AllWithin limit (after t step l).roles
step_within limit some recursive t (Alone k) l may room all = within-set limit l.roles t (from k) (to k) may.0 all
    (plain_within limit some k room (all t (from k) may.0))
step_within limit some recursive t (List_changes k) l may room all = within-set limit l.roles t (listing_from k)
    (listing_to k) may.0 all (listing_within limit k)
step_within limit some recursive t (Take1 s i v m stay) l may room all =
    let ne : t ≢ v = λ e.
    (let x = ap (λ (r : Role). r.does) (same_Some _ _ (sym may.0 ∙ ap (λ j. slice_get l.roles j) e ∙ may.1.role)) in
    cc) in
    within-set limit (slice_set l.roles t (scanning (taking s v m))) v _ _ (get-set_other l.roles t v _ ne ∙ may.1.role)
    (within-set limit l.roles t (scanning s) _ may.0 all (taking_within limit s v m (all t (scanning s) may.0)))
    (omega arith)
step_within limit some recursive t (Take2 o v f stay) l may room all =
    let ne : t ≢ v = λ e.
    (let x = ap (λ (r : Role). r.does) (same_Some _ _ (sym may.0 ∙ ap (λ j. slice_get l.roles j) e ∙ may.2)) in cc)
    in
    within-set limit (slice_set l.roles t (record { owns = o; does = Scans2 (v ∷ []) })) v _ _
    (get-set_other l.roles t v _ ne ∙ may.2)
    (within-set limit l.roles t _ _ may.0 all (all t (record { owns = o; does = Scans2 [] }) may.0)) (omega arith)
step_within limit some recursive t (Store e s) l may room all =
    within-set limit (map (settle (ends_saying e)) l.roles) t (settle (ends_saying e) (scanning s))
    (record { owns = s.owns; does = Stored1 s.taken })
    (slice_get-map (settle (ends_saying e)) l.roles t ∙ ap (option_map (settle (ends_saying e))) may.0)
    (within-told limit (ends_saying e) l.roles all) (all t (scanning s) may.0)
step_within limit some recursive t (Wake o v us k stay) l may room all =
    let ne : v ≢ t = waking_apart k (λ e. sym may.0 ∙ ap (λ j. slice_get l.roles j) (sym e) ∙ may.1) in
    within-set limit (slice_set l.roles v (waking_to k)) t _ (record { owns = o; does = Wakes us })
    (get-set_other l.roles v t (waking_to k) ne ∙ may.0)
    (within-set limit l.roles v (waking_from k t stay) (waking_to k) may.1 all (waking_within limit some k))
    (all t (record { owns = o; does = Wakes (v ∷ us) }) may.0)
  where
    waking_apart : (k : Waking)
        → (v ≡ t → ◌≡◌ {A = Option Role} (Some (record { owns = o; does = Wakes (v ∷ us) }))
        (Some (waking_from k t stay))) → v ≢ t
    waking_apart (Retry m) same e = let x = ap (λ (r : Role). r.does) (same_Some _ _ (same e)) in cc
    waking_apart Own same e = let x = ap (λ (r : Role). r.does) (same_Some _ _ (same e)) in cc
    waking_apart OwnPending same e = let x = ap (λ (r : Role). r.does) (same_Some _ _ (same e)) in cc
    waking_apart OwnUpgradable same e = let x = ap (λ (r : Role). r.does) (same_Some _ _ (same e)) in cc
    waking_apart (Recheck f) same e = let x = ap (λ (r : Role). r.does) (same_Some _ _ (same e)) in cc
step_within limit some recursive t (Pass o ws v us) l may room all =
    within-set limit l.roles t _ (record { owns = o; does = Wakes (ws ++ us) }) may.0 all
    (all t (record { owns = o; does = Wakes (ws ++ v ∷ us) }) may.0)

module _ (bucket : ℕ → ℕ) (recursive : ℕ → Bool) (limit : ℕ) (some : 1 ≤ limit) (i : ℕ) where
  one_within : (w : World) (m : Move) → IsReached bucket recursive w → MayStep bucket recursive m.lock m.thread m.step w
      → HasRoom limit m.step → AllWithin limit (lock_at w i).roles
      → AllWithin limit (lock_at (moved bucket m w) i).roles
  one_within w m reached may room all = ⊎_elim
      (λ (e : m.lock ≡ i).
      let sound = reached_sound bucket recursive w reached in
      let here = (world_step bucket recursive m.lock m.thread w m.step sound may).here in
      subst (λ x. AllWithin limit (lock_at (moved bucket m w) x).roles) e
      (subst (λ (l : Lock). AllWithin limit l.roles) (sym here)
      (step_within limit some (recursive m.lock) m.thread m.step (lock_at w m.lock) may.allowed room
      (subst (λ x. AllWithin limit (lock_at w x).roles) (sym e) all))))
      (λ other. subst (λ (l : Lock). AllWithin limit l.roles)
      (sym (stays_at_its_lock bucket recursive w m i reached may (λ e. other (sym e)))) all)
      (cases_eq m.lock i)

  run_within : (ms : List Move) (w v : World) → IsReached bucket recursive w → Runs bucket recursive w ms v
      → AllHaveRoom limit ms → AllWithin limit (lock_at w i).roles → AllWithin limit (lock_at v i).roles
  run_within [] w v reached run room all = subst (λ (x : World). AllWithin limit (lock_at x i).roles) (sym run) all
  run_within (m ∷ ms) w v reached run room all =
      run_within ms (moved bucket m w) v (one_more bucket recursive i 0 away refl w m reached run.0) run.1 room.1
      (one_within w m reached run.0 room.0 all)

  rest_within : (n : ℕ) → AllWithin limit (lock_at (at_rest n) i).roles
  rest_within n u r at = subst (IsWithin limit) (sym (all_away i n u r at)) (omega arith)

  all_within : (w : World) → IsReachedWithin bucket recursive limit w → AllWithin limit (lock_at w i).roles
  all_within w r = run_within r.moves (at_rest r.threads) w (record { threads = r.threads; moves = []; run = refl })
      r.run r.room (rest_within r.threads)

  reached : (w : World) → IsReachedWithin bucket recursive limit w → IsReached bucket recursive w
  reached w r = record { threads = r.threads; moves = r.moves; run = r.run }

-- a reader's holds, and one that was handed over
handed_is : (p : Phase) → done Readers p ≡ handed_one p
handed_is (Taken1 Shared by Handed s) = refl
handed_is (Taken1 Exclusive by Handed s) = refl
handed_is (Taken1 Upgradable by Handed s) = refl
handed_is (Taken1 m by Open s) = refl
handed_is (Taken1 m by Normal s) = refl
handed_is p = refl

held_is : (o : Owned) → owned Readers o ≡ shared_holds o
held_is (Shares n) = refl
held_is Excludes = refl
held_is Upgrades = refl

readers_weigh : (r : Role) → weight Readers r ≡ shared_holds r.owns + handed_one r.does
unfolding weight
readers_weigh r = omega (arith, held_is r.owns, handed_is r.does)

readers-all : (rs : List Role) → total Readers rs ≡ sum_by (λ (r : Role). shared_holds r.owns) rs + sum_by
    (λ (r : Role). handed_one r.does) rs
readers-all [] = refl
readers-all (r ∷ rs) =
    omega (
      arith,
      sum_by-cons (weight Readers) r rs,
      sum_by-cons (λ (x : Role). shared_holds x.owns) r rs,
      sum_by-cons (λ (x : Role). handed_one x.does) r rs,
      readers_weigh r,
      readers-all rs,
    )

-- one that was handed a hold has no other
one_handed : (m : Mode) (by : ℕ) (how : Mark) (s : Stay) → handed_one (Taken1 m by how s) ≤ 1
one_handed Shared by Open s = omega arith
one_handed Shared by Normal s = omega arith
one_handed Shared by Handed s = omega arith
one_handed Exclusive by Open s = omega arith
one_handed Exclusive by Normal s = omega arith
one_handed Exclusive by Handed s = omega arith
one_handed Upgradable by Open s = omega arith
one_handed Upgradable by Normal s = omega arith
one_handed Upgradable by Handed s = omega arith

handed_alone : (limit : ℕ) → 1 ≤ limit → (o : Owned) (p : Phase) → shared_holds o + asks_for_one p ≤ limit
    → weight Strange (record { owns = o; does = p }) ≡ 0 → shared_holds o + handed_one p ≤ limit
unfolding weight
handed_alone limit some (Shares zero) (Taken1 m by how s) within proper = omega (arith, some, one_handed m by how s)
handed_alone limit some (Shares (suc n)) (Taken1 m by how s) within proper = absurd (omega (arith, proper))
handed_alone limit some Excludes (Taken1 m by how s) within proper = absurd (omega (arith, proper))
handed_alone limit some Upgrades (Taken1 m by how s) within proper = absurd (omega (arith, proper))
handed_alone limit some o p within proper = omega (arith, within)

-- all together
total-few : (limit : ℕ) (rs : List Role) → ((u : ℕ) (r : Role) → slice_get rs u ≡ Some r → weight Readers r ≤ limit)
    → total Readers rs ≤ limit * length rs
total-few limit [] few = omega arith
total-few limit (r ∷ rs) few =
    let one : weight Readers r ≤ limit = few 0 r refl in
    let more : total Readers rs ≤ limit * length rs = total-few limit rs (λ u x at. few (suc u) x at) in
    omega (arith, one, more, sum_by-cons (weight Readers) r rs, mul-suc limit (length rs))

module _ (limit : ℕ) (some : 1 ≤ limit) (l : Lock) (sound : IsSound l) (all : AllWithin limit l.roles) where
  few_each : (u : ℕ) (r : Role) → slice_get l.roles u ≡ Some r → weight Readers r ≤ limit
  few_each u r at = omega (
    arith,
    readers_weigh r,
    handed_alone limit some r.owns r.does (all u r at)
        (omega (arith, sound.fits.proper, total-at l.roles u r at Strange)),
  )

  few_there : (u : ℕ) → holds Readers l u ≤ limit
  few_there u = go (slice_get l.roles u) refl
    where
      go : (o : Option Role) → slice_get l.roles u ≡ o → holds Readers l u ≤ limit
      go None e = omega (arith, ap (weighs Readers) e)
      go (Some r) e = omega (arith, ap (weighs Readers) e, few_each u r e)

  holds_counted : HoldsAreCounted limit l
  holds_counted = record {
    counted = omega (arith, sound.fits, readers-all l.roles);
    each = λ u r at. omega (arith, all u r at);
    shared = few_there;
    few = omega (arith, sound.fits, total-few limit l.roles few_each);
    small = omega (arith, sound.fits, total-few limit l.roles few_each);
  }

pub holds_are_within : HoldsAreWithin
holds_are_within bucket recursive limit w i some r =
    holds_counted limit some (lock_at w i)
    ((reached_sound bucket recursive w (reached bucket recursive limit some i w r)).sound i)
    (all_within bucket recursive limit some i w r)

pub words_are_small : WordsAreSmall
words_are_small bucket recursive w i r few =
    let some : 1 ≤ 255 = omega arith in
    let h = holds_are_within bucket recursive 255 w i some r in
    omega (arith, h.small, few, length-map w.places (role_at i))
