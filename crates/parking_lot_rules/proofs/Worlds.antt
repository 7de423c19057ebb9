-- A step of a world is a step at one lock of its family.
use Rattle.std.proofs.Common.{◌≡◌, ◌≢◌, ℕ, zero, suc, ◌⊎◌, ⊎_elim, Bool, true, false, cond, ◌==◌, List, [], ◌∷◌, ◌++◌}
use Rattle.std.proofs.Common.{map, Option, Some, None, option_map, slice_get, slice_set, refl, sym, ap, ◌∙◌, subst, inl}
use Rattle.std.proofs.Common.{inr, arith, eq-eqb}
use Rattle.std.proofs.lemmas.Bool.{cases_eq, ne_eqb}
use Rattle.std.proofs.lemmas.Option.{none-some, same_Some, slice_get-map}
use Rattle.parking_lot_rules.specs.Roles.{Mode, Owned, Shares, Stay, Mark, Open, Phase, Idle, Taken1, Taken2, Scans2}
use Rattle.parking_lot_rules.specs.Roles.{Stored1, Wakes, Role}
use Rattle.parking_lot_rules.specs.Classes.{Inside1, weight}
use Rattle.parking_lot_rules.specs.Lock.{Lock, IsSound, On1, note_of}
use Rattle.parking_lot_rules.specs.Plain.{to}
use Rattle.parking_lot_rules.specs.Steps.{Step, Alone, List_changes, Take1, Take2, Store, Wake, Pass, Allowed, after}
use Rattle.parking_lot_rules.specs.Steps.{listing_to, Scan, scanning, taking, ends_saying, Waking, Retry, Own}
use Rattle.parking_lot_rules.specs.Steps.{OwnPending, OwnUpgradable, Recheck, waking_from, waking_to, told, settle}
use Rattle.parking_lot_rules.specs.Family.{First, Second, key, put, FamilyStep, IsSoundFamily}
use Rattle.parking_lot_rules.specs.World.{Place, World, seen, role_at, lock_at, family, change, with_role, told_by}
use Rattle.parking_lot_rules.specs.World.{heard, tell, places_after, world_after, MayStep}
use Rattle.parking_lot_rules.proofs.Settling.{one_inside, open_inside}
use Rattle.parking_lot_rules.proofs.Families.{put-same, put-other, family_sound}

pub seen-here : (i : ℕ) (p : Phase) → seen (i == i) p ≡ p
seen-here i p = ap (λ b. seen b p) (eq-eqb i i refl)

pub seen-elsewhere : (i j : ℕ) (p : Phase) → j ≢ i → seen (j == i) p ≡ Idle
seen-elsewhere i j p ne = ap (λ b. seen b p) (ne_eqb j i ne)

pub seen-idle : (b : Bool) (p : Phase) → p ≡ Idle → seen b p ≡ Idle
seen-idle true p e = e
seen-idle false p e = refl

pub same_role : (o o' : Owned) (p p' : Phase) → o ≡ o' → p ≡ p' → ◌≡◌ {A = Role} (record { owns = o; does = p })
    (record { owns = o'; does = p' })
same_role o o' p p' e f = λ i. record { owns = e i; does = f i }

-- the role that a place was given, and what it is at another lock
role-given : (j : ℕ) (r : Role) (p : Place) → role_at j (with_role j r p) ≡ r
role-given j r p = same_role _ r.owns _ r.does (put-same p.owns j r.owns) (seen-here j r.does)

-- a place that is at lock j, or doing nothing
abbrev pub IsThere : ℕ → Place → Type 0
IsThere j p = (p.at ≡ j) ⊎ (p.does ≡ Idle)

pub not_seen : (i j : ℕ) (p : Place) → i ≢ j → IsThere j p → seen (p.at == i) p.does ≡ Idle
not_seen i j p ne (inl at) = seen-elsewhere i p.at p.does (λ e. ne (sym e ∙ at))
not_seen i j p ne (inr idle) = seen-idle (p.at == i) p.does idle

role-elsewhere : (i j : ℕ) (r : Role) (p : Place) → i ≢ j → IsThere j p → role_at i (with_role j r p) ≡ role_at i p
role-elsewhere i j r p ne there =
    same_role _ (p.owns i) _ (seen (p.at == i) p.does) (put-other p.owns j r.owns i ne)
    (seen-elsewhere i j r.does (λ e. ne (sym e)) ∙ sym (not_seen i j p ne there))

-- one place changes: at its lock one role does, and elsewhere none
roles-given : (j : ℕ) (r : Role) (ps : List Place) (t : ℕ) → map (role_at j) (change (with_role j r) ps t) ≡ slice_set
    (map (role_at j) ps) t r
roles-given j r [] t = refl
roles-given j r (p ∷ ps) zero = ap (λ x. x ∷ map (role_at j) ps) (role-given j r p)
roles-given j r (p ∷ ps) (suc t) = ap (λ xs. role_at j p ∷ xs) (roles-given j r ps t)

roles-elsewhere : (i j : ℕ) (r : Role) (ps : List Place) (t : ℕ) → i ≢ j
    → ((p : Place) → slice_get ps t ≡ Some p → IsThere j p) → map (role_at i) (change (with_role j r) ps t) ≡ map
    (role_at i) ps
roles-elsewhere i j r [] t ne there = refl
roles-elsewhere i j r (p ∷ ps) zero ne there = ap (λ x. x ∷ map (role_at i) ps)
    (role-elsewhere i j r p ne (there p refl))
roles-elsewhere i j r (p ∷ ps) (suc t) ne there = ap (λ xs. role_at i p ∷ xs) (roles-elsewhere i j r ps t ne there)

get-change_cases : {A : Type 0} (f : A → A) (xs : List A) (t u : ℕ) (y : A) → slice_get (change f xs t) u ≡ Some y
    → ((x : A) × (slice_get xs u ≡ Some x) × ((y ≡ x) ⊎ (y ≡ f x)))
get-change_cases f [] t u y e = absurd (none-some y e)
get-change_cases f (x ∷ xs) zero zero y e = (x, refl, inr (sym (same_Some (f x) y e)))
get-change_cases f (x ∷ xs) zero (suc u) y e = (y, e, inl refl)
get-change_cases f (x ∷ xs) (suc t) zero y e = (y, e, inl refl)
get-change_cases f (x ∷ xs) (suc t) (suc u) y e = get-change_cases f xs t u y e

-- a thread stays at its lock as another changes, or it does itself
still_there : (j : ℕ) (r : Role) (ps : List Place) (t u : ℕ) → ((p : Place) → slice_get ps u ≡ Some p → IsThere j p)
    → (p : Place) → slice_get (change (with_role j r) ps t) u ≡ Some p → IsThere j p
still_there j r ps t u there p e =
    let was = get-change_cases (with_role j r) ps t u p e in
    ⊎_elim (λ same. subst (IsThere j) (sym same) (there was.0 was.1)) (λ new. inl (ap (λ (q : Place). q.at) new)) was.2

-- those that were taken are told
told_so : (t : ℕ) (h : Mark) (p : Phase) → ((m : Mode) (by : ℕ) (s : Stay) → p ≡ Taken1 m by Open s → by ≡ t)
    → told_by t h p ≡ told h p
told_so t h (Taken1 m by Open s) own = ap (λ b. Taken1 m by (cond b h Open) s) (eq-eqb by t (own m by s refl))
told_so t h p own = refl

heard_so : (b : Bool) (t : ℕ) (h : Mark) (p : Phase)
    → ((m : Mode) (by : ℕ) (s : Stay) → seen b p ≡ Taken1 m by Open s → by ≡ t)
    → seen b (heard b t h p) ≡ told h (seen b p)
heard_so true t h p own = told_so t h p own
heard_so false t h p own = refl

roles-told : (j t : ℕ) (h : Mark) (ps : List Place)
    → ((u : ℕ) (p : Place) (m : Mode) (by : ℕ) (s : Stay) → slice_get ps u ≡ Some p
    → seen (p.at == j) p.does ≡ Taken1 m by Open s → by ≡ t)
    → map (role_at j) (map (tell j t h) ps) ≡ map (settle h) (map (role_at j) ps)
roles-told j t h [] own = refl
roles-told j t h (p ∷ ps) own =
    ap (λ x. x ∷ map (role_at j) (map (tell j t h) ps))
    (same_role (p.owns j) (p.owns j) _ _ refl (heard_so (p.at == j) t h p.does (λ m by s e. own 0 p m by s refl e)))
    ∙ ap (λ xs. settle h (role_at j p) ∷ xs) (roles-told j t h ps (λ u q m by s here e. own (suc u) q m by s here e))

heard-elsewhere : (i j t : ℕ) (h : Mark) (p : Place) → i ≢ j → seen (p.at == i) (heard (p.at == j) t h p.does) ≡ seen
    (p.at == i) p.does
heard-elsewhere i j t h p ne = ⊎_elim
    (λ e. seen-elsewhere i p.at _ (λ x. ne (sym x ∙ e)) ∙ sym (seen-elsewhere i p.at p.does (λ x. ne (sym x ∙ e))))
    (λ other. ap (λ b. seen (p.at == i) (heard b t h p.does)) (ne_eqb p.at j other))
    (cases_eq p.at j)

roles-told_elsewhere : (i j t : ℕ) (h : Mark) (ps : List Place) → i ≢ j → map (role_at i) (map (tell j t h) ps) ≡ map
    (role_at i) ps
roles-told_elsewhere i j t h [] ne = refl
roles-told_elsewhere i j t h (p ∷ ps) ne =
    ap (λ x. x ∷ map (role_at i) (map (tell j t h) ps))
    (same_role (p.owns i) (p.owns i) _ _ refl (heard-elsewhere i j t h p ne))
    ∙ ap (λ xs. role_at i p ∷ xs) (roles-told_elsewhere i j t h ps ne)

-- who was taken by one that hasn't stored was taken by the one thread that is inside
taken_by : (l : Lock) → IsSound l → (t : ℕ) (s : Scan) → slice_get l.roles t ≡ Some (scanning s)
    → (u : ℕ) (r : Role) (m : Mode) (by : ℕ) (stay : Stay) → slice_get l.roles u ≡ Some r
    → r.does ≡ Taken1 m by Open stay → by ≡ t
unfolding weight
taken_by l sound t s at u r m by stay here took =
    let p = sound.noted u by r (On1 Open) here (ap note_of took) in
    one_inside Inside1 l.roles sound.fits.inside1 t by (scanning s) p.0 at p.1 refl
    (open_inside p.0.owns p.0.does u p.2)

same_lock : (l l' : Lock) → l.word ≡ l'.word → l.roles ≡ l'.roles → l.first ≡ l'.first → l.second ≡ l'.second → l ≡ l'
same_lock l l' a b c d = λ i. record { word = a i; roles = b i; first = c i; second = d i }

keys_apart : (i j : ℕ) → key i First ≢ key j Second
keys_apart i j e = omega (arith, e)

firsts_apart : (i j : ℕ) → i ≢ j → key i First ≢ key j First
firsts_apart i j ne e = ne (omega (arith, e))

seconds_apart : (i j : ℕ) → i ≢ j → key i Second ≢ key j Second
seconds_apart i j ne e = ne (omega (arith, e))

pub waking_busy : (k : Waking) (t : ℕ) (stay : Stay) → (waking_from k t stay).does ≢ Idle
waking_busy (Retry m) t stay e = cc
waking_busy Own t stay e = cc
waking_busy OwnPending t stay e = cc
waking_busy OwnUpgradable t stay e = cc
waking_busy (Recheck f) t stay e = cc

-- telling others leaves a thread where it is
tell-there : (j t : ℕ) (h : Mark) (p : Place) → IsThere j p → IsThere j (tell j t h p)
tell-there j t h p (inl at) = inl at
tell-there j t h p (inr idle) = inr (go (p.at == j) p.does idle)
  where
    go : (b : Bool) (d : Phase) → d ≡ Idle → heard b t h d ≡ Idle
    go true d e = ap (told_by t h) e
    go false d e = e

module _ (bucket : ℕ → ℕ) (recursive : ℕ → Bool) (j t : ℕ) (w : World) where
  roles_here : (step : Step) → IsSound (lock_at w j) → Allowed (recursive j) t step (lock_at w j)
      → map (role_at j) (places_after j t step w.places) ≡ (after t step (lock_at w j)).roles
  roles_here (Alone k) sound may = roles-given j (to k) w.places t
  roles_here (List_changes k) sound may = roles-given j (listing_to k) w.places t
  roles_here (Take1 s i v m stay) sound may =
      roles-given j _ (change (with_role j (scanning (taking s v m))) w.places t) v
      ∙ ap (λ rs. slice_set rs v (record { owns = Shares 0; does = Taken1 m t Open stay }))
      (roles-given j (scanning (taking s v m)) w.places t)
  roles_here (Take2 o v f stay) sound may =
      roles-given j _ (change (with_role j (record { owns = o; does = Scans2 (v ∷ []) })) w.places t) v
      ∙ ap (λ rs. slice_set rs v (record { owns = Shares 0; does = Taken2 f t stay }))
      (roles-given j (record { owns = o; does = Scans2 (v ∷ []) }) w.places t)
  roles_here (Store e s) sound may =
      roles-given j _ (map (tell j t (ends_saying e)) w.places) t
      ∙ ap (λ rs. slice_set rs t (record { owns = s.owns; does = Stored1 s.taken }))
      (roles-told j t (ends_saying e) w.places (λ u p m by stay here took.
      taken_by (lock_at w j) sound t s may.0 u (role_at j p) m by stay
      (slice_get-map (role_at j) w.places u ∙ ap (option_map (role_at j)) here) took))
  roles_here (Wake o v us k stay) sound may =
      roles-given j _ (change (with_role j (waking_to k)) w.places v) t
      ∙ ap (λ rs. slice_set rs t (record { owns = o; does = Wakes us })) (roles-given j (waking_to k) w.places v)
  roles_here (Pass o ws v us) sound may = roles-given j (record { owns = o; does = Wakes (ws ++ us) }) w.places t

  -- who does something at a lock is there
  is_there : (u : ℕ) (r : Role) → slice_get (map (role_at j) w.places) u ≡ Some r → r.does ≢ Idle → (p : Place)
      → slice_get w.places u ≡ Some p → IsThere j p
  is_there u r at busy p here = ⊎_elim
      (λ e. inl e)
      (λ ne.
      let same : role_at j p ≡ r =
      same_Some (role_at j p) r (sym (slice_get-map (role_at j) w.places u ∙ ap (option_map (role_at j)) here) ∙ at)
      in
      absurd (busy (ap (λ (x : Role). x.does) (sym same) ∙ seen-elsewhere j p.at p.does ne)))
      (cases_eq p.at j)

  roles_elsewhere : (step : Step) → Allowed (recursive j) t step (lock_at w j)
      → ((p : Place) → slice_get w.places t ≡ Some p → IsThere j p) → (i : ℕ) → i ≢ j
      → map (role_at i) (places_after j t step w.places) ≡ map (role_at i) w.places
  roles_elsewhere (Alone k) may there i ne = roles-elsewhere i j (to k) w.places t ne there
  roles_elsewhere (List_changes k) may there i ne = roles-elsewhere i j (listing_to k) w.places t ne there
  roles_elsewhere (Take1 s k v m stay) may there i ne =
      roles-elsewhere i j _ (change (with_role j (scanning (taking s v m))) w.places t) v ne
      (still_there j (scanning (taking s v m)) w.places t v (is_there v _ may.1.role (λ e. cc)))
      ∙ roles-elsewhere i j (scanning (taking s v m)) w.places t ne there
  roles_elsewhere (Take2 o v f stay) may there i ne =
      roles-elsewhere i j _ (change (with_role j (record { owns = o; does = Scans2 (v ∷ []) })) w.places t) v ne
      (still_there j (record { owns = o; does = Scans2 (v ∷ []) }) w.places t v (is_there v _ may.2 (λ e. cc)))
      ∙ roles-elsewhere i j (record { owns = o; does = Scans2 (v ∷ []) }) w.places t ne there
  roles_elsewhere (Store e s) may there i ne =
      roles-elsewhere i j _ (map (tell j t (ends_saying e)) w.places) t ne (told_there (ends_saying e))
      ∙ roles-told_elsewhere i j t (ends_saying e) w.places ne
    where
      told_there : (h : Mark) (p : Place) → slice_get (map (tell j t h) w.places) t ≡ Some p → IsThere j p
      told_there h p here = go (slice_get w.places t) refl
        where
          go : (o : Option Place) → slice_get w.places t ≡ o → IsThere j p
          go None x = absurd
              (none-some p (sym (slice_get-map (tell j t h) w.places t ∙ ap (option_map (tell j t h)) x) ∙ here))
          go (Some q) x = subst (IsThere j)
              (same_Some _ p (sym (slice_get-map (tell j t h) w.places t ∙ ap (option_map (tell j t h)) x) ∙ here))
              (tell-there j t h q (there q x))
  roles_elsewhere (Wake o v us k stay) may there i ne =
      roles-elsewhere i j _ (change (with_role j (waking_to k)) w.places v) t ne
      (still_there j (waking_to k) w.places v t there)
      ∙ roles-elsewhere i j (waking_to k) w.places v ne (is_there v _ may.1 (waking_busy k t stay))
  roles_elsewhere (Pass o ws v us) may there i ne = roles-elsewhere i j (record { owns = o; does = Wakes (ws ++ us) })
      w.places t ne there

  -- the step of the world is one of its family
  pub world_step : (step : Step) → IsSoundFamily bucket (family w) → MayStep bucket recursive j t step w
      → FamilyStep bucket recursive j t step (family w) (family (world_after bucket j t step w))
  world_step step sound may = record {
    allowed = may.allowed;
    free = may.free;
    idle = λ i ne r at.
        let same : role_at i may.place ≡ r = same_Some (role_at i may.place) r
        (sym (slice_get-map (role_at i) w.places t ∙ ap (option_map (role_at i)) may.here) ∙ at) in
        ap (λ (x : Role). x.does) (sym same) ∙ not_seen i j may.place ne may.there;
    here = same_lock _ _
        (put-same w.words j _)
        (roles_here step (sound.sound j) may.allowed)
        (put-other firsts (key j Second) _ (key j First) (keys_apart j j) ∙ put-same w.queues (key j First) _)
        (put-same firsts (key j Second) _);
    elsewhere = λ i ne. same_lock _ _
        (put-other w.words j _ i ne)
        (roles_elsewhere step may.allowed
        (λ p here. subst (IsThere j) (same_Some may.place p (sym may.here ∙ here)) may.there) i ne)
        (put-other firsts (key j Second) _ (key i First) (keys_apart i j)
        ∙ put-other w.queues (key j First) (after t step (lock_at w j)).first (key i First) (firsts_apart i j ne))
        (put-other firsts (key j Second) _ (key i Second) (seconds_apart i j ne)
        ∙ put-other w.queues (key j First) (after t step (lock_at w j)).first (key i Second)
        (λ e. keys_apart j i (sym e)));
    entered = λ b. refl;
  }
    where
      firsts : ℕ → List ℕ
      firsts = put w.queues (key j First) (after t step (lock_at w j)).first

  -- every step at every lock keeps the world sound
  pub world_sound : (step : Step) → IsSoundFamily bucket (family w) → MayStep bucket recursive j t step w
      → IsSoundFamily bucket (family (world_after bucket j t step w))
  world_sound step sound may = family_sound bucket recursive j t step (family w)
      (family (world_after bucket j t step w)) sound (world_step step sound may)
