-- A section in which waiters are taken makes its own steps, of one that gives the upgradable hold up, and of one that
-- owes a look.
use Rattle.std.proofs.Common.{◌≡◌, ◌<◌, ℕ, ◌+◌, ◌-◌, ◌^◌, ◌&&◌, ◌||◌, nat_lt, not, min, Bool, true, false, cond, List}
use Rattle.std.proofs.Common.{[], ◌∷◌, ◌++◌, length, Some, None, refl, sym, ap, ◌∙◌, subst, arith, inl, inr}
use Rattle.std.proofs.lemmas.Bool.{ltb-true}
use Rattle.std.specs.Option.{option_map_or}
use Rattle.parking_lot_rules.specs.Classes.{bit}
use Rattle.parking_lot_rules.specs.Clauses.{Word, IsWord, number}
use Rattle.parking_lot_rules.specs.Roles as rules
use Rattle.parking_lot_rules.specs.Roles.{Cause, Owned, Role}
use Rattle.parking_lot_rules.specs.Steps.{Scan, scanning, HandUpgradable, Keep, stored}
use Rattle.parking_lot_protocol.proofs.MutexFollowing.{either}
use Rattle.parking_lot_protocol.proofs.RwWords.{both, kept_word, cleared_word}
use Rattle.parking_lot_protocol.specs.Acts.{change_of}
use Rattle.parking_lot_protocol.specs.Positions.{Listed}
use Rattle.parking_lot_protocol.specs.RwRules.{IsToken, cause_of, TakesOne, mode_by}
use Rattle.parking_lot_protocol.specs.RwTable.{hands, count_of, goes_on, scans, wakes, may_hand, store_of}
use Rattle.parking_lot_protocol.specs.declared.act.ActResult.{ActResult}
use Rattle.parking_lot_protocol.specs.declared.act.ActResult.TheVariants as seen
use Rattle.parking_lot_protocol.specs.declared.act.CoreAnswer.{CoreAnswer}
use Rattle.parking_lot_protocol.specs.declared.rw_phase.AfterWake.{AfterWake}
use Rattle.parking_lot_protocol.specs.declared.rw_phase.AfterWake.TheVariants.{FreedExclusive, Downgraded}
use Rattle.parking_lot_protocol.specs.declared.rw_phase.RwPhase.{RwPhase}
use Rattle.parking_lot_protocol.specs.declared.rw_phase.RwPhase.TheVariants.{LooksExclusive, EnterWakeSection, Scans}
use Rattle.parking_lot_protocol.specs.declared.rw_phase.RwPhase.TheVariants.{Stores, Leaves, Wakes, Finishes, Invalid}
use Rattle.parking_lot_protocol.specs.declared.rw_phase.Scanning.{Scanning}
use Rattle.parking_lot_protocol_rw.proofs.UpgradeWords.{released_word, handed_word}
use Rattle.parking_lot_protocol_rw.specs.UpgradeMoves.{IsMove, Telling, frees_ending}
use Rattle.parking_lot_protocol_rw.specs.UpgradeRoles.{owned, role}
use Rattle.parking_lot_protocol_rw.specs.UpgradeRules.{Follows, HasUpgradable, IsReady}
use Rattle.parking_lot_protocol_rw.specs.UpgradeTable.{core_at, frees_store}
use Rattle.parking_lot_protocol_rw.specs.declared.upgrade_phase.Hold.{Hold}
use Rattle.parking_lot_protocol_rw.specs.declared.upgrade_phase.Release.{Release}
use Rattle.parking_lot_protocol_rw.specs.declared.upgrade_phase.Release.TheVariants as release
use Rattle.parking_lot_protocol_rw.specs.declared.upgrade_phase.UpgradePhase.{UpgradePhase}
use Rattle.parking_lot_protocol_rw.specs.declared.upgrade_phase.UpgradePhase.TheVariants as phase

-- what one that scans has taken
abbrev scan_of : Owned → Cause → Scanning → List ℕ → Scan
scan_of o c s us =
    record { owns = o; cause = c; shared = s.shared; upgradable = s.upgradable; writer = s.writer; taken = us }

-- a section that scans so, and the roles of its phases
record Scanner (o : Owned) (c : Cause) (q : AfterWake) (k : ℕ) (wrap : RwPhase → UpgradePhase) : Type 0 where
  scans_as : (s : Scanning) (us : List ℕ) → s.rest ≡ q → role k Listed us (wrap (Scans s)) ≡ scanning (scan_of o c s us)
  stores_as : (s : Scanning) (left : Bool) (us : List ℕ) → s.rest ≡ q → role k Listed us (wrap (Stores s left))
      ≡ scanning (scan_of o c s us)
  scans_ready : (s : Scanning) → s.rest ≡ q → IsReady (wrap (Scans s))
  stores_ready : (s : Scanning) (left : Bool) → s.rest ≡ q → IsReady (wrap (Stores s left))

-- it takes one more
module _ (o : Owned) (c : Cause) (q : AfterWake) (k : ℕ) (wrap : RwPhase → UpgradePhase) (sc : Scanner o c q k wrap)
    (recursive : Bool) (us : List ℕ) (w : Word) where
  goes_role : (s : Scanning) (left : Bool) (vs : List ℕ) → s.rest ≡ q → role k Listed vs (wrap (goes_on left s))
      ≡ scanning (scan_of o c s vs)
  goes_role s left vs e = either (λ p. role k Listed vs (wrap p)) (left && not s.writer) _ _ _ (sc.scans_as s vs e)
      (sc.stores_as s left vs e)

  goes_ready : (s : Scanning) (left : Bool) → s.rest ≡ q → IsReady (wrap (goes_on left s))
  goes_ready s left e = go (left && not s.writer)
    where
      go : (b : Bool) → IsReady (wrap (cond b (Scans s) (Stores s left)))
      go true = sc.scans_ready s e
      go false = sc.stores_ready s left e

  abbrev TakesAt : Scanning → Bool → ℕ → Type 0
  TakesAt a left x =
      IsMove recursive (TakesOne (mode_by (record { 0 = x }))) k us (wrap (Scans a))
      (wrap (option_map_or (λ p. p) (scans a (Some (record { 0 = x })) left) Invalid)) w (number w)
      × IsReady (wrap (option_map_or (λ p. p) (scans a (Some (record { 0 = x })) left) Invalid))

  takes : (a : Scanning) (left : Bool) (x : ℕ) → a.rest ≡ q → a.shared < 2 ^ 32 - 1 → IsToken (Some (record { 0 = x }))
      → TakesAt a left x
  takes a left x e f t = one_of t
    where
      reader : TakesAt a left 16
      reader =
          let s : Scanning = record a { shared = min (a.shared + 1) (2 ^ 32 - 1) } in
          let m : min (a.shared + 1) (2 ^ 32 - 1) ≡ a.shared + 1 = omega arith in (
            λ v.
                let g : ℕ → Role =
                λ y. record { owns = o; does = rules.Scans1 c y a.upgradable a.writer (us ++ v ∷ []) } in (
                  scan_of o c a us,
                  record { from = sc.scans_as a us e; to = goes_role s left (us ++ v ∷ []) e ∙ ap g m },
                  refl,
                ),
            goes_ready s left e,
          )

      writer : TakesAt a left 8
      writer = let s : Scanning = record a { writer = true } in (
        λ v. (scan_of o c a us, record { from = sc.scans_as a us e; to = goes_role s left (us ++ v ∷ []) e }, refl),
        goes_ready s left e,
      )

      upgrader : TakesAt a left 20
      upgrader = let s : Scanning = record a { upgradable = true } in (
        λ v. (scan_of o c a us, record { from = sc.scans_as a us e; to = goes_role s left (us ++ v ∷ []) e }, refl),
        goes_ready s left e,
      )

      one_of : IsToken (Some (record { 0 = x })) → TakesAt a left x
      one_of (inl e) = let P : ℕ → Type 0 = λ y. TakesAt a left y in subst P (sym e) reader
      one_of (inr (inl e)) = let P : ℕ → Type 0 = λ y. TakesAt a left y in subst P (sym e) writer
      one_of (inr (inr e)) = let P : ℕ → Type 0 = λ y. TakesAt a left y in subst P (sym e) upgrader

-- ONE THAT GIVES THE UPGRADABLE HOLD UP

abbrev freeing : Release → RwPhase → UpgradePhase
freeing r p = phase.Frees r (core_at p)

frees_scanner : (r : Release) (k : ℕ) → Scanner (rules.Shares 0) rules.FromUpgradable FreedExclusive k (freeing r)
frees_scanner r k =
    record {
      scans_as = λ s us e. refl;
      stores_as = λ s left us e. refl;
      scans_ready = λ s e. e;
      stores_ready = λ s left e. e;
    }

module _ (recursive : Bool) (k : ℕ) (us : List ℕ) (w : Word) (h : IsWord w) (r : w.readers < 2 ^ 60 - 1) (way : Release)
  where
    wakes_role : (rest : AfterWake) (count : ℕ) → role k Listed us (freeing way (wakes rest count))
        ≡ record { owns = rules.Shares 0; does = rules.Wakes us }
    wakes_role rest count = either (λ p. role k Listed us (freeing way p)) (nat_lt 0 count) _ _ _ refl refl

    wakes_ready : (rest : AfterWake) (count : ℕ) → rest ≡ FreedExclusive → IsReady (freeing way (wakes rest count))
    wakes_ready rest count e = go (nat_lt 0 count)
      where
        go : (b : Bool) → IsReady (freeing way (cond b (Wakes rest count) (Finishes rest)))
        go true = e
        go false = e

    -- what it stores
    abbrev Says : Scanning → Bool → Bool → Type 0
    Says a left b =
        (scan : Scan) × Telling us (frees_ending b) left (role k Listed us (freeing way (Stores a left)))
        (role k Listed us (freeing way (Leaves a.rest (count_of a) b))) scan w
        (change_of (frees_store a b left) (number w))

    says : (a : Scanning) (left fair b : Bool) → hands a fair ≡ b → a.rest ≡ FreedExclusive → HasUpgradable w
        → w.readers + a.shared < 2 ^ 60 → length us ≡ count_of a → Says a left b
    says a left fair true g e o f l = (
      scan_of (rules.Shares 0) rules.FromUpgradable a us,
      record { from = refl; to = refl; cause = refl; may = some; written = word },
    )
      where
        some : 0 < length us
        some =
            let s : may_hand a.rest && (fair && nat_lt 0 (count_of a)) ≡ true = g in
            let t = both (may_hand a.rest) (fair && nat_lt 0 (count_of a)) s in
            let u = both fair (nat_lt 0 (count_of a)) t.1 in
            let z = ltb-true 0 (count_of a) u.1 in
            omega arith

        word : change_of (frees_store a true left) (number w) ≡ number
            (stored HandUpgradable a.shared a.upgradable a.writer (bit left) w)
        word =
            let P : AfterWake → Type 0 = λ q. change_of (frees_store (record a { rest = q }) true left) (number w)
            ≡ number (stored HandUpgradable a.shared a.upgradable a.writer (bit left) w) in
            subst P (sym e) (handed_word w h r o a.shared f a.upgradable a.writer left)
    says a left fair false g e o f l = (
      scan_of (rules.Shares 0) rules.FromUpgradable a us,
      record {
        from = refl;
        to = refl;
        cause = refl;
        may = tt;
        written = released_word w h r o a.shared a.upgradable
            a.writer left;
      },
    )

    stores : (a : Scanning) (left fair : Bool) → a.rest ≡ FreedExclusive → HasUpgradable w
        → w.readers + a.shared < 2 ^ 60
        → length us ≡ count_of a
        → (scan : Scan) × Telling us (frees_ending (hands a (a.fair || fair))) left
        (role k Listed us (freeing way (Stores a left)))
        (role k Listed us (freeing way (Leaves a.rest (count_of a) (hands a (a.fair || fair))))) scan w
        (change_of (cond fair (frees_store a (hands a true) left) (frees_store a (hands a a.fair) left)) (number w))
    stores a left fair e o f l = go a.fair fair
      where
        go : (x y : Bool) → (scan : Scan) × Telling us (frees_ending (hands a (x || y))) left
            (role k Listed us (freeing way (Stores a left)))
            (role k Listed us (freeing way (Leaves a.rest (count_of a) (hands a (x || y))))) scan w
            (change_of (cond y (frees_store a (hands a true) left) (frees_store a (hands a x) left)) (number w))
        go true true = says a left true (hands a true) refl e o f l
        go true false = says a left true (hands a true) refl e o f l
        go false true = says a left true (hands a true) refl e o f l
        go false false = says a left false (hands a false) refl e o f l

pub frees_follows : (way : Release) (p : RwPhase) (s : ActResult) → Follows (freeing way p) s
frees_follows way (LooksExclusive fair rest) seen.Entered recursive k us w rd h r f g = (
  record {
    from = refl;
    to = ap (λ q. record { owns = rules.Shares 0; does = rules.Scans1 rules.FromUpgradable 0 false false q }) f;
    may = refl;
    written = refl;
  },
  rd,
)
frees_follows way (Scans a) (seen.Took (Some token) left) recursive k us w rd h r f g =
    takes (rules.Shares 0) rules.FromUpgradable FreedExclusive k (freeing way) (frees_scanner way k) recursive us w a
    left token.0 rd f g
frees_follows way (Scans a) (seen.Took None left) recursive k us w rd h r f g = ((λ spot. refl, refl), rd)
frees_follows way (Stores a left) (seen.Stored fair) recursive k us w rd h r f g =
    (stores recursive k us w h r way a left fair rd f.0 f.1 f.2, rd)
frees_follows way (Leaves rest count handed) seen.Made recursive k us w rd h r f g = (
  record { from = refl; to = wakes_role recursive k us w h r way rest count; may = tt; written = refl },
  wakes_ready recursive k us w h r way rest count rd,
)
frees_follows way (Wakes rest count) seen.Made recursive k us w rd h r f g = (
  λ v. (refl, wakes_role recursive k us w h r way rest (count - 1), refl),
  wakes_ready recursive k us w h r way rest (count - 1) rd,
)
frees_follows release.Again (Finishes rest) (seen.Word v) recursive k us w rd h r f g = (
  record {
    from = ap (λ q. record { owns = rules.Shares 0; does = rules.Wakes q }) f;
    to = refl;
    may = tt;
    written = refl;
  },
  tt,
)
frees_follows release.Again (Finishes rest) s recursive k us w rd h r f g = absurd g
frees_follows release.Plain (Finishes rest) s recursive k us w rd h r f g = absurd g
frees_follows release.Fair (Finishes rest) s recursive k us w rd h r f g = absurd g
frees_follows way (LooksExclusive fair rest) s recursive k us w rd h r f g = absurd g
frees_follows way (Scans a) s recursive k us w rd h r f g = absurd g
frees_follows way (Stores a left) s recursive k us w rd h r f g = absurd g
frees_follows way (Leaves rest count handed) s recursive k us w rd h r f g = absurd g
frees_follows way (Wakes rest count) s recursive k us w rd h r f g = absurd g
frees_follows way p s recursive k us w rd h r f g = absurd rd

-- ONE THAT OWES WAITERS A LOOK

module _ (hold : Hold) (answer : CoreAnswer) where
  abbrev owing : RwPhase → UpgradePhase
  owing p = phase.Owes hold answer (core_at p)

  abbrev has : Owned
  has = owned hold

  owes_scanner : (k : ℕ) → Scanner has rules.Owed Downgraded k owing
  owes_scanner k = record {
    scans_as = λ s us e. ap
        (λ q. record { owns = has; does = rules.Scans1 (cause_of q) s.shared s.upgradable s.writer us }) e;
    stores_as = λ s left us e. ap
        (λ q. record { owns = has; does = rules.Scans1 (cause_of q) s.shared s.upgradable s.writer us }) e;
    scans_ready = λ s e. e;
    stores_ready = λ s left e. e;
  }

  module _ (recursive : Bool) (k : ℕ) (us : List ℕ) (w : Word) (h : IsWord w) (r : w.readers < 2 ^ 60 - 1) where
    owes_wakes_role : (rest : AfterWake) (count : ℕ) → role k Listed us (owing (wakes rest count))
        ≡ record { owns = has; does = rules.Wakes us }
    owes_wakes_role rest count = either (λ p. role k Listed us (owing p)) (nat_lt 0 count) _ _ _ refl refl

    owes_wakes_ready : (rest : AfterWake) (count : ℕ) → rest ≡ Downgraded → IsReady (owing (wakes rest count))
    owes_wakes_ready rest count e = go (nat_lt 0 count)
      where
        go : (b : Bool) → IsReady (owing (cond b (Wakes rest count) (Finishes rest)))
        go true = e
        go false = e

    -- it keeps the word, but for the parked bit where nobody is left
    keeps : (a : Scanning) (left : Bool) → change_of (record { keep = 2 ^ 64 - 2 + bit left; add = 0 }) (number w)
        ≡ number (stored Keep a.shared a.upgradable a.writer (bit left) w)
    keeps a true = kept_word w h r
    keeps a false = cleared_word w h r

    abbrev Keeps : Scanning → Bool → Bool → AfterWake → Type 0
    Keeps a left fair q =
        let s : Scanning = record a { rest = q } in
        change_of (cond fair (store_of s (hands s true) left) (store_of s (hands s a.fair) left)) (number w) ≡ number
        (stored Keep a.shared a.upgradable a.writer (bit left) w)

    kept : (a : Scanning) (left fair : Bool) → a.rest ≡ Downgraded → Keeps a left fair a.rest
    kept a left fair e = subst (Keeps a left fair) (sym e) (go fair)
      where
        go : (b : Bool) → Keeps a left b Downgraded
        go true = keeps a left
        go false = keeps a left

  pub owes_follows : (p : RwPhase) (s : ActResult) → Follows (owing p) s
  owes_follows EnterWakeSection seen.Entered recursive k us w rd h r f g = (
    record {
      from = refl;
      to = ap (λ q. record { owns = has; does = rules.Scans1 rules.Owed 0 false false q }) f;
      may = refl;
      written = refl;
    },
    refl,
  )
  owes_follows (Scans a) (seen.Took (Some token) left) recursive k us w rd h r f g = takes has rules.Owed Downgraded k
      owing (owes_scanner k) recursive us w a left token.0 rd f g
  owes_follows (Scans a) (seen.Took None left) recursive k us w rd h r f g = ((λ spot. refl, refl), rd)
  owes_follows (Stores a left) (seen.Stored fair) recursive k us w rd h r f g = (
    (
      scan_of has rules.Owed a us,
      record {
        from = (owes_scanner k).stores_as a left us rd;
        to = refl;
        cause = refl;
        may = tt;
        written = kept recursive k us w h r a left fair rd;
      },
    ),
    rd,
  )
  owes_follows (Leaves rest count handed) seen.Made recursive k us w rd h r f g = (
    record { from = refl; to = owes_wakes_role recursive k us w h r rest count; may = tt; written = refl },
    owes_wakes_ready recursive k us w h r rest count rd,
  )
  owes_follows (Wakes rest count) seen.Made recursive k us w rd h r f g = (
    λ v. (refl, owes_wakes_role recursive k us w h r rest (count - 1), refl),
    owes_wakes_ready recursive k us w h r rest (count - 1) rd,
  )
  owes_follows EnterWakeSection s recursive k us w rd h r f g = absurd g
  owes_follows (Scans a) s recursive k us w rd h r f g = absurd g
  owes_follows (Stores a left) s recursive k us w rd h r f g = absurd g
  owes_follows (Leaves rest count handed) s recursive k us w rd h r f g = absurd g
  owes_follows (Wakes rest count) s recursive k us w rd h r f g = absurd g
  owes_follows (Finishes rest) s recursive k us w rd h r f g = absurd g
  owes_follows p s recursive k us w rd h r f g = absurd rd
