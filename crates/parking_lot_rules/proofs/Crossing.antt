-- What a step does to the sections.
use Rattle.std.proofs.Common.{◌≡◌, ◌≢◌, ℕ, ⊎_elim, Bool, true, false, List, [], ◌∷◌, ◌++◌, map, Option, Some, None}
use Rattle.std.proofs.Common.{option_map, slice_get, slice_set, refl, sym, ap, ◌∙◌, subst, arith}
use Rattle.std.proofs.lemmas.Bool.{cases_eq}
use Rattle.std.proofs.lemmas.Option.{slice_get-map, same_Some}
use Rattle.parking_lot_rules.specs.Roles.{Mode, Shared, Exclusive, Upgradable, Owned, Shares, Stay, Mark, Open, Normal}
use Rattle.parking_lot_rules.specs.Roles.{Handed, Queued1, Taken1, Queued2, Taken2, Stored1, Scans2, Wakes, Role}
use Rattle.parking_lot_rules.specs.Classes.{Class, Inside1, Inside2, weight, weighs, inside}
use Rattle.parking_lot_rules.specs.Plain.{Plain, Retreat1, Rest1, Leave1, Resume1, ReceiveShared, ReceivePending}
use Rattle.parking_lot_rules.specs.Plain.{ReceiveUpgradable, Retreat2, Rest2, Resume2, Leave2, Yield, YieldBack}
use Rattle.parking_lot_rules.specs.Plain.{Depart2, Downgrade, DowngradeToUpgradable, DowngradeUpgradable, Depart1, from}
use Rattle.parking_lot_rules.specs.Plain.{to}
use Rattle.parking_lot_rules.specs.Lock.{Lock}
use Rattle.parking_lot_rules.specs.Steps.{Step, Alone, List_changes, Take1, Take2, Store, Wake, Pass, Allowed, after}
use Rattle.parking_lot_rules.specs.Steps.{Listing, Join1, listing_from, listing_to, Scan, scanning, taking, ends_saying}
use Rattle.parking_lot_rules.specs.Steps.{settle, settled, Waking, Retry, Own, Recheck, waking_from, waking_to}
use Rattle.parking_lot_rules.specs.Family.{Key, First, Second, section, Crossing, Stays, Comes, Goes, crossing}
use Rattle.parking_lot_rules.proofs.Indexed.{get-set_same, get-set_other}
use Rattle.parking_lot_rules.proofs.Settling.{IsSaid, normal, handed, settle_weighs}
use Rattle.parking_lot_rules.proofs.Sounds.{ends_said, waking_apart}

-- how much a thread is inside a section of a key after a crossing
abbrev pub crossed : Crossing → Key → ℕ → ℕ
crossed Stays k n = n
crossed (Comes First) First n = 1
crossed (Comes First) Second n = n
crossed (Comes Second) First n = n
crossed (Comes Second) Second n = 1
crossed (Goes First) First n = 0
crossed (Goes First) Second n = n
crossed (Goes Second) First n = n
crossed (Goes Second) Second n = 0

plain_crosses : (k : Plain) (x : Key) → weight (section x) (to k) ≡ crossed (crossing (Alone k)) x
    (weight (section x) (from k))
unfolding weight
plain_crosses (Yield true) First = refl
plain_crosses (Yield true) Second = refl
plain_crosses (Yield false) First = refl
plain_crosses (Yield false) Second = refl
plain_crosses (YieldBack true) First = refl
plain_crosses (YieldBack true) Second = refl
plain_crosses (YieldBack false) First = refl
plain_crosses (YieldBack false) Second = refl
plain_crosses (Downgrade true) First = refl
plain_crosses (Downgrade true) Second = refl
plain_crosses (Downgrade false) First = refl
plain_crosses (Downgrade false) Second = refl
plain_crosses (DowngradeToUpgradable true) First = refl
plain_crosses (DowngradeToUpgradable true) Second = refl
plain_crosses (DowngradeToUpgradable false) First = refl
plain_crosses (DowngradeToUpgradable false) Second = refl
plain_crosses (DowngradeUpgradable true) First = refl
plain_crosses (DowngradeUpgradable true) Second = refl
plain_crosses (DowngradeUpgradable false) First = refl
plain_crosses (DowngradeUpgradable false) Second = refl
plain_crosses k First = refl
plain_crosses k Second = refl

-- who leaves a section was inside
abbrev pub WasIn : Crossing → Key → ℕ → Type 0
WasIn Stays k n = Unit {0}
WasIn (Comes x) k n = Unit {0}
WasIn (Goes First) First n = n ≡ 1
WasIn (Goes First) Second n = Unit {0}
WasIn (Goes Second) First n = Unit {0}
WasIn (Goes Second) Second n = n ≡ 1

plain_was : (k : Plain) (x : Key) → WasIn (crossing (Alone k)) x (weight (section x) (from k))
unfolding weight
plain_was (Retreat1 m c) First = refl
plain_was (Rest1 m) First = refl
plain_was Leave1 First = refl
plain_was (Resume1 m by) First = refl
plain_was (ReceiveShared by) First = refl
plain_was (ReceivePending by) First = refl
plain_was (ReceiveUpgradable by) First = refl
plain_was (Depart1 o us) First = refl
plain_was (Retreat2 f c) Second = refl
plain_was (Rest2 f) Second = refl
plain_was (Resume2 f by) Second = refl
plain_was (Leave2 f) Second = refl
plain_was (Depart2 n us) Second = refl
plain_was k First = tt
plain_was k Second = tt

listing_crosses : (k : Listing) (x : Key) → weight (section x) (listing_to k) ≡ weight (section x) (listing_from k)
unfolding weight
listing_crosses (Join1 m) First = refl
listing_crosses (Join1 m) Second = refl
listing_crosses k First = refl
listing_crosses k Second = refl

waking_crosses : (k : Waking) (t : ℕ) (stay : Stay) (x : Key) → inside stay ≡ 0
    → weight (section x) (waking_to k) ≡ weight (section x) (waking_from k t stay)
unfolding weight
waking_crosses (Retry m) t stay First out = omega arith
waking_crosses Own t stay First out = omega arith
waking_crosses k t stay First out = omega arith
waking_crosses (Recheck f) t stay Second out = omega arith
waking_crosses k t stay Second out = omega arith

-- what a thread weighs where a role changes
weighs-at : (c : Class) (rs : List Role) (t : ℕ) (r : Role) → slice_get rs t ≡ Some r
    → weighs c (slice_get rs t) ≡ weight c r
weighs-at c rs t r at = ap (weighs c) at

weighs-other : (c : Class) (rs : List Role) (t u : ℕ) (b : Role) → u ≢ t → weighs c (slice_get (slice_set rs t b) u)
    ≡ weighs c (slice_get rs u)
weighs-other c rs t u b ne = ap (weighs c) (get-set_other rs t u b (λ e. ne (sym e)))

weighs-same : (c : Class) (rs : List Role) (t u : ℕ) (a b : Role) → slice_get rs t ≡ Some a → weight c b ≡ weight c a
    → weighs c (slice_get (slice_set rs t b) u) ≡ weighs c (slice_get rs u)
weighs-same c rs t u a b at same = ⊎_elim
    (λ e. ap (λ i. weighs c (slice_get (slice_set rs t b) i)) e
    ∙ (ap (weighs c) (get-set_same rs t a b at)
    ∙ (same ∙ (sym (ap (weighs c) at) ∙ ap (λ i. weighs c (slice_get rs i)) (sym e)))))
    (weighs-other c rs t u b)
    (cases_eq u t)

-- two roles change, and weigh what they did
weighs-same2 : (c : Class) (rs : List Role) (t v u : ℕ) (a b x y : Role) → slice_get rs t ≡ Some a
    → slice_get rs v ≡ Some x → a.does ≢ x.does → weight c b ≡ weight c a → weight c y ≡ weight c x
    → weighs c (slice_get (slice_set (slice_set rs t b) v y) u) ≡ weighs c (slice_get rs u)
weighs-same2 c rs t v u a b x y at there ne same_t same_v =
    let apart : t ≢ v =
    λ e. ne (ap (λ (r : Role). r.does) (same_Some a x (sym at ∙ ap (λ i. slice_get rs i) e ∙ there))) in
    weighs-same c (slice_set rs t b) v u x y (get-set_other rs t v b apart ∙ there) same_v
    ∙ weighs-same c rs t u a b at same_t

stays1 : (h : Mark) → IsSaid h → (n : Class → ℕ) → settled h n Inside1 ≡ n Inside1
stays1 Open said n = elim said [ ]
stays1 Normal normal n = refl
stays1 Handed handed n = refl

stays2 : (h : Mark) → IsSaid h → (n : Class → ℕ) → settled h n Inside2 ≡ n Inside2
stays2 Open said n = elim said [ ]
stays2 Normal normal n = refl
stays2 Handed handed n = refl

-- telling those that were taken moves nobody
settle_crosses : (h : Mark) → IsSaid h → (x : Key) (rs : List Role) (u : ℕ)
    → weighs (section x) (slice_get (map (settle h) rs) u) ≡ weighs (section x) (slice_get rs u)
settle_crosses h said x rs u = ap (weighs (section x)) (slice_get-map (settle h) rs u) ∙ one h said x (slice_get rs u)
  where
    one : (h : Mark) → IsSaid h → (x : Key) (o : Option Role) → weighs (section x) (option_map (settle h) o) ≡ weighs
        (section x) o
    one h said x None = refl
    one h said First (Some r) = settle_weighs h said Inside1 r.owns r.does ∙ stays1 h said (λ c. weight c r)
    one h said Second (Some r) = settle_weighs h said Inside2 r.owns r.does ∙ stays2 h said (λ c. weight c r)

-- the weights of a step that neither enters a section nor leaves one
section_wake : (x : Key) (o : Owned) (us vs : List ℕ) → weight (section x) (record { owns = o; does = Wakes us })
    ≡ weight (section x) (record { owns = o; does = Wakes vs })
unfolding weight
section_wake First o us vs = refl
section_wake Second o us vs = refl

section_take1 : (x : Key) (s : Scan) (v : ℕ) (m : Mode) → weight (section x) (scanning (taking s v m)) ≡ weight
    (section x) (scanning s)
unfolding weight
section_take1 First s v Shared = refl
section_take1 First s v Exclusive = refl
section_take1 First s v Upgradable = refl
section_take1 Second s v Shared = refl
section_take1 Second s v Exclusive = refl
section_take1 Second s v Upgradable = refl

section_taken1 : (x : Key) (t : ℕ) (m : Mode) (stay : Stay)
    → weight (section x) (record { owns = Shares 0; does = Taken1 m t Open stay }) ≡ weight (section x)
    (record { owns = Shares 0; does = Queued1 m stay })
unfolding weight
section_taken1 First t m stay = refl
section_taken1 Second t m stay = refl

section_take2 : (x : Key) (o : Owned) (v : ℕ) → weight (section x) (record { owns = o; does = Scans2 (v ∷ []) })
    ≡ weight (section x) (record { owns = o; does = Scans2 [] })
unfolding weight
section_take2 First o v = refl
section_take2 Second o v = refl

section_taken2 : (x : Key) (t : ℕ) (f : Bool) (stay : Stay)
    → weight (section x) (record { owns = Shares 0; does = Taken2 f t stay }) ≡ weight (section x)
    (record { owns = Shares 0; does = Queued2 f stay })
unfolding weight
section_taken2 First t f stay = refl
section_taken2 Second t f stay = refl

section_store : (x : Key) (s : Scan) → weight (section x) (record { owns = s.owns; does = Stored1 s.taken }) ≡ weight
    (section x) (scanning s)
unfolding weight
section_store First s = refl
section_store Second s = refl

module _ (recursive : Bool) (t : ℕ) (l : Lock) (x : Key) where
  -- any other step leaves all where they are
  stay_all : (step : Step) → Allowed recursive t step l → ((k : Plain) → step ≢ Alone k) → (u : ℕ)
      → weighs (section x) (slice_get (after t step l).roles u) ≡ weighs (section x) (slice_get l.roles u)
  stay_all (Alone k) may apart u = absurd (apart k refl)
  stay_all (List_changes k) may apart u = weighs-same (section x) l.roles t u (listing_from k) (listing_to k) may.0
      (listing_crosses k x)
  stay_all (Take1 s i v m stay) may apart u =
      weighs-same2 (section x) l.roles t v u _ _ _ _ may.0 may.1.role (λ e. cc) (section_take1 x s v m)
      (section_taken1 x t m stay)
  stay_all (Take2 o v f stay) may apart u =
      weighs-same2 (section x) l.roles t v u _ _ _ _ may.0 may.2 (λ e. cc) (section_take2 x o v)
      (section_taken2 x t f stay)
  stay_all (Store e s) may apart u =
      weighs-same (section x) (map (settle (ends_saying e)) l.roles) t u (scanning s) _
      (slice_get-map (settle (ends_saying e)) l.roles t ∙ ap (option_map (settle (ends_saying e))) may.0)
      (section_store x s)
      ∙ settle_crosses (ends_saying e) (ends_said e) x l.roles u
  stay_all (Wake o v us k stay) may apart u =
      weighs-same (section x) (slice_set l.roles v (waking_to k)) t u _ _
      (get-set_other l.roles v t (waking_to k)
      (λ e. waking_apart k t stay o (v ∷ us)
      (same_Some _ _ (sym may.0 ∙ ap (λ i. slice_get l.roles i) (sym e) ∙ may.1))) ∙ may.0)
      (section_wake x o us (v ∷ us))
      ∙ weighs-same (section x) l.roles v u _ (waking_to k) may.1 (waking_crosses k t stay x may.2)
  stay_all (Pass o ws v us) may apart u = weighs-same (section x) l.roles t u _ _ may.0
      (section_wake x o (ws ++ us) (ws ++ v ∷ us))

  -- another thread stays where it is
  pub step_others : (step : Step) → Allowed recursive t step l → (u : ℕ) → u ≢ t
      → weighs (section x) (slice_get (after t step l).roles u) ≡ weighs (section x) (slice_get l.roles u)
  step_others (Alone k) may u ne = weighs-other (section x) l.roles t u (to k) ne
  step_others (List_changes k) may u ne = stay_all (List_changes k) may (λ p e. cc) u
  step_others (Take1 s i v m stay) may u ne = stay_all (Take1 s i v m stay) may (λ p e. cc) u
  step_others (Take2 o v f stay) may u ne = stay_all (Take2 o v f stay) may (λ p e. cc) u
  step_others (Store e s) may u ne = stay_all (Store e s) may (λ p e. cc) u
  step_others (Wake o v us k stay) may u ne = stay_all (Wake o v us k stay) may (λ p e. cc) u
  step_others (Pass o ws v us) may u ne = stay_all (Pass o ws v us) may (λ p e. cc) u

  -- and the one that makes the step crosses as stated
  pub step_crosses : (step : Step) → Allowed recursive t step l
      → weighs (section x) (slice_get (after t step l).roles t) ≡ crossed (crossing step) x
      (weighs (section x) (slice_get l.roles t))
  step_crosses (Alone k) may =
      ap (weighs (section x)) (get-set_same l.roles t (from k) (to k) may.0)
      ∙ (plain_crosses k x ∙ ap (crossed (crossing (Alone k)) x) (sym (ap (weighs (section x)) may.0)))
  step_crosses (List_changes k) may = stay_all (List_changes k) may (λ p e. cc) t
  step_crosses (Take1 s i v m stay) may = stay_all (Take1 s i v m stay) may (λ p e. cc) t
  step_crosses (Take2 o v f stay) may = stay_all (Take2 o v f stay) may (λ p e. cc) t
  step_crosses (Store e s) may = stay_all (Store e s) may (λ p e. cc) t
  step_crosses (Wake o v us k stay) may = stay_all (Wake o v us k stay) may (λ p e. cc) t
  step_crosses (Pass o ws v us) may = stay_all (Pass o ws v us) may (λ p e. cc) t

  -- who leaves a section was inside
  pub step_was : (step : Step) → Allowed recursive t step l
      → WasIn (crossing step) x (weighs (section x) (slice_get l.roles t))
  step_was (Alone k) may = subst (WasIn (crossing (Alone k)) x) (sym (ap (weighs (section x)) may.0)) (plain_was k x)
  step_was (List_changes k) may = tt
  step_was (Take1 s i v m stay) may = tt
  step_was (Take2 o v f stay) may = tt
  step_was (Store e s) may = tt
  step_was (Wake o v us k stay) may = tt
  step_was (Pass o ws v us) may = tt
