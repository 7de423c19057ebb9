-- Who is told by a store.
use Rattle.std.proofs.Common.{◌≡◌, ◌≢◌, ◌<◌, ℕ, cond, List, [], Some, slice_get, refl, sym, ap, ◌∙◌, subst, arith}
use Rattle.std.proofs.Common.{eq-eqb}
use Rattle.std.proofs.lemmas.Bool.{ne_eqb}
use Rattle.std.proofs.lemmas.Option.{same_Some}
use Rattle.parking_lot_rules.specs.Roles.{Role, Mode, Owned}
use Rattle.parking_lot_rules.specs.Roles as rules
use Rattle.parking_lot_rules.specs.Classes.{Inside1, weight}
use Rattle.parking_lot_rules.specs.Lists.{occurs}
use Rattle.parking_lot_rules.specs.Lock.{Lock, IsSound, On1, to_wake}
use Rattle.parking_lot_rules.specs.Steps.{Scan, scanning, settle, told}
use Rattle.parking_lot_protocol_rw.specs.UpgradeRoles.{for_release, for_upgradable, for_upgrade}
use Rattle.parking_lot_rules.proofs.Settling.{one_inside, open_inside}
use Rattle.parking_lot_protocol.specs.declared.rw_phase.RwPhase.{RwPhase}
use Rattle.parking_lot_protocol.specs.declared.rw_phase.RwPhase.TheVariants.{Sleeps, DrainSleeps}
use Rattle.parking_lot_protocol.specs.RwRules.{does, mode_of, owns}
use Rattle.parking_lot_protocol.specs.RwRules as rules_of
use Rattle.parking_lot_machine_calls.specs.declared.seat.QueuePosition.{QueuePosition}
use Rattle.parking_lot_machine_calls.specs.declared.seat.WakeResult.{WakeResult}
use Rattle.parking_lot_machine_calls.specs.CallRoles.{rw_spot, mark_of}
use Rattle.parking_lot_machine.specs.RwLaws.{told_by, StoresTell}
use Rattle.parking_lot_machine_calls.specs.LateRoles.{staying}

-- whom anybody has taken and told nothing, the one has that scans
open_by : (l : Lock) (t u by : ℕ) (scan : Scan) (own : Owned) (m : Mode) (stay : rules.Stay) → IsSound l
    → slice_get l.roles t ≡ Some (scanning scan)
    → slice_get l.roles u ≡ Some (record { owns = own; does = rules.Taken1 m by rules.Open stay }) → by ≡ t
unfolding weight
open_by l t u by scan own m stay h at there =
    let p = h.noted u by _ (On1 rules.Open) there refl in
    one_inside Inside1 l.roles h.fits.inside1 t by (scanning scan) p.0 at p.1 refl (open_inside p.0.owns p.0.does u p.2)

-- and one that has taken nobody so has none
open_none : (l : Lock) (t u : ℕ) (mine : Role) (own : Owned) (m : Mode) (stay : rules.Stay) → IsSound l
    → slice_get l.roles t ≡ Some mine → to_wake mine.does (On1 rules.Open) ≡ []
    → slice_get l.roles u ≡ Some (record { owns = own; does = rules.Taken1 m t rules.Open stay }) → ⊥
open_none l t u mine own m stay h at none there =
    let p = h.noted u t _ (On1 rules.Open) there refl in
    let is : p.0 ≡ mine = same_Some p.0 mine (sym p.1 ∙ at) in
    let some : 0 < occurs u [] = subst (λ us. 0 < occurs u us) none
    (subst (λ (r : Role). 0 < occurs u (to_wake r.does (On1 rules.Open))) is p.2) in
    omega arith

-- WHAT A PHASE SAYS

-- whoever is taken and told nothing, that phase says, t has taken
abbrev IsOpenBy : ℕ → rules.Phase → Type 0
IsOpenBy t d = (m : Mode) (by : ℕ) → d ≡ rules.Taken1 m by rules.Open rules.Asleep → by ≡ t

abbrev IsOpenElsewhere : ℕ → rules.Phase → Type 0
IsOpenElsewhere t d = (m : Mode) (by : ℕ) → d ≡ rules.Taken1 m by rules.Open rules.Asleep → by ≢ t

-- one that was taken by t is told
does_told : (t : ℕ) (at : QueuePosition) (us : List ℕ) (p : RwPhase) (said : WakeResult)
    → IsOpenBy t (does (rw_spot at) us p) → does (told_by t said at) us p ≡ told (mark_of said) (does (rw_spot at) us p)
does_told t QueuePosition.Listed us (Sleeps want) said by = refl
does_told t (QueuePosition.Off x WakeResult.Nothing) us (Sleeps want) said by =
    ap (λ b. does (rules_of.Off x (mark_of (cond b said WakeResult.Nothing))) us (Sleeps want))
    (eq-eqb x t (by (mode_of want) x refl))
does_told t (QueuePosition.Off x WakeResult.TryAgain) us (Sleeps want) said by = refl
does_told t (QueuePosition.Off x WakeResult.HandedOver) us (Sleeps want) said by = refl
does_told t QueuePosition.Listed us (DrainSleeps rounds) said by = refl
does_told t (QueuePosition.Off x WakeResult.Nothing) us (DrainSleeps rounds) said by = refl
does_told t (QueuePosition.Off x WakeResult.TryAgain) us (DrainSleeps rounds) said by = refl
does_told t (QueuePosition.Off x WakeResult.HandedOver) us (DrainSleeps rounds) said by = refl
does_told t at us p said by = refl

-- and any other isn't
does_kept : (t : ℕ) (at : QueuePosition) (us : List ℕ) (p : RwPhase) (said : WakeResult)
    → IsOpenElsewhere t (does (rw_spot at) us p) → does (told_by t said at) us p ≡ does (rw_spot at) us p
does_kept t QueuePosition.Listed us (Sleeps want) said by = refl
does_kept t (QueuePosition.Off x WakeResult.Nothing) us (Sleeps want) said by =
    ap (λ b. does (rules_of.Off x (mark_of (cond b said WakeResult.Nothing))) us (Sleeps want))
    (ne_eqb x t (by (mode_of want) x refl))
does_kept t (QueuePosition.Off x WakeResult.TryAgain) us (Sleeps want) said by = refl
does_kept t (QueuePosition.Off x WakeResult.HandedOver) us (Sleeps want) said by = refl
does_kept t QueuePosition.Listed us (DrainSleeps rounds) said by = refl
does_kept t (QueuePosition.Off x WakeResult.Nothing) us (DrainSleeps rounds) said by = refl
does_kept t (QueuePosition.Off x WakeResult.TryAgain) us (DrainSleeps rounds) said by = refl
does_kept t (QueuePosition.Off x WakeResult.HandedOver) us (DrainSleeps rounds) said by = refl
does_kept t at us p said by = refl

-- THE PHASES OF CALLS THAT GO ON AS SUCH A ONE

-- Of those that are taken it says they are, and a telling is the same before it and after it.
pub record IsTelling (f : rules.Phase → rules.Phase) : Type 0 where
  pub taken : (m : Mode) (by : ℕ) → (k : Mode) × (stay : rules.Stay)
      × (f (rules.Taken1 m by rules.Open rules.Asleep) ≡ rules.Taken1 k by rules.Open stay)
  pub tells : (mark : rules.Mark) (d : rules.Phase) → f (told mark d) ≡ told mark (f d)

pub itself_tells : IsTelling (λ d. d)
itself_tells = record { taken = λ m by. (m, rules.Asleep, refl); tells = λ mark d. refl }

upgradable_tells : (mark : rules.Mark) (d : rules.Phase) → for_upgradable (told mark d) ≡ told mark (for_upgradable d)
upgradable_tells mark (rules.Taken1 m by rules.Open stay) = refl
upgradable_tells mark (rules.Taken1 m by rules.Normal stay) = refl
upgradable_tells mark (rules.Taken1 m by rules.Handed stay) = refl
upgradable_tells mark d = refl

pub seeking_tells : IsTelling for_upgradable
seeking_tells = record { taken = λ m by. (rules.Upgradable, rules.Asleep, refl); tells = upgradable_tells }

upgrade_tells : (mark : rules.Mark) (d : rules.Phase) → for_upgrade (told mark d) ≡ told mark (for_upgrade d)
upgrade_tells mark (rules.Taken1 m by rules.Open stay) = refl
upgrade_tells mark (rules.Taken1 m by rules.Normal stay) = refl
upgrade_tells mark (rules.Taken1 m by rules.Handed stay) = refl
upgrade_tells mark d = refl

pub draining_tells : IsTelling for_upgrade
draining_tells = record { taken = λ m by. (m, rules.Asleep, refl); tells = upgrade_tells }

release_tells : (mark : rules.Mark) (d : rules.Phase) → for_release (told mark d) ≡ told mark (for_release d)
release_tells mark (rules.Taken1 m by rules.Open stay) = refl
release_tells mark (rules.Taken1 m by rules.Normal stay) = refl
release_tells mark (rules.Taken1 m by rules.Handed stay) = refl
release_tells mark d = refl

pub freeing_tells : IsTelling for_release
freeing_tells = record { taken = λ m by. (m, rules.Asleep, refl); tells = release_tells }

-- one whose moment has passed says so, wherever it stands
staying_told : (stay : rules.Stay) (mark : rules.Mark) (d : rules.Phase) → staying stay (told mark d) ≡ told mark
    (staying stay d)
staying_told stay mark (rules.Taken1 m by rules.Open old) = refl
staying_told stay mark (rules.Taken1 m by rules.Normal old) = refl
staying_told stay mark (rules.Taken1 m by rules.Handed old) = refl
staying_told stay mark d = refl

pub stays_tell : (stay : rules.Stay) (f : rules.Phase → rules.Phase) → IsTelling f → IsTelling (λ d. staying stay (f d))
stays_tell stay f k = record {
  taken = λ m by. ((k.taken m by).0, stay, ap (staying stay) (k.taken m by).2);
  tells = λ mark d. ap (staying stay) (k.tells mark d) ∙ staying_told stay mark (f d);
}

abbrev pub IsSame : Role → Role → Type 0
IsSame a b = a ≡ b

pub told_so : (f : rules.Phase → rules.Phase) (k : IsTelling f) (l : Lock) (t u : ℕ) (own : Owned) (at : QueuePosition)
    (us : List ℕ) (p : RwPhase) (scan : Scan) (said : WakeResult) → IsSound l
    → slice_get l.roles t ≡ Some (scanning scan)
    → slice_get l.roles u ≡ Some (record { owns = own; does = f (does (rw_spot at) us p) })
    → IsSame (record { owns = own; does = f (does (told_by t said at) us p) })
    (settle (mark_of said) (record { owns = own; does = f (does (rw_spot at) us p) }))
told_so f k l t u own at us p scan said h mine there =
    ap (λ d. record { owns = own; does = f d })
    (does_told t at us p said
    (λ m by e. open_by l t u by scan own (k.taken m by).0 (k.taken m by).1 h mine
    (there ∙ ap (λ d. Some (record { owns = own; does = f d })) e ∙ ap (λ d. Some (record { owns = own; does = d }))
    (k.taken m by).2)))
    ∙ ap (λ d. record { owns = own; does = d }) (k.tells (mark_of said) (does (rw_spot at) us p))

pub kept_so : (f : rules.Phase → rules.Phase) (k : IsTelling f) (l : Lock) (t u : ℕ) (own : Owned) (at : QueuePosition)
    (us : List ℕ) (p : RwPhase) (mine : Role) (said : WakeResult) → IsSound l → slice_get l.roles t ≡ Some mine
    → to_wake mine.does (On1 rules.Open) ≡ []
    → slice_get l.roles u ≡ Some (record { owns = own; does = f (does (rw_spot at) us p) })
    → IsSame (record { owns = own; does = f (does (told_by t said at) us p) })
    (record { owns = own; does = f (does (rw_spot at) us p) })
kept_so f k l t u own at us p mine said h is none there =
    ap (λ d. record { owns = own; does = f d })
    (does_kept t at us p said
    (λ m by e same.
    open_none l t u mine own (k.taken m by).0 (k.taken m by).1 h is none
    (there ∙ ap (λ d. Some (record { owns = own; does = f d })) e ∙ ap (λ d. Some (record { owns = own; does = d }))
    (k.taken m by).2 ∙ ap
    (λ x. Some (record { owns = own; does = rules.Taken1 (k.taken m by).0 x rules.Open (k.taken m by).1 })) same)))

pub stores_tell : StoresTell
stores_tell = record {
  here = λ l t u n at us p scan said h mine there. told_so (λ d. d) itself_tells l t u (owns n p) at us p scan said h
      mine there;
  elsewhere = λ l t u n at us p own said h mine none there. kept_so (λ d. d) itself_tells l t u (owns n p) at us p own
      said h mine none there;
}
