-- The words of a mutex as numbers, and what the phases of calls say of roles.
use Rattle.std.proofs.Common.{◌≡◌, ◌≢◌, ℕ, zero, suc, ◌+◌, ◌<◌, ◌≤◌, ⊎_elim, ◌==◌, Bool, true, false, cond, List, []}
use Rattle.std.proofs.Common.{◌∷◌, length, Some, slice_get, slice_set, refl, sym, ◌∙◌, subst, arith}
use Rattle.std.proofs.lemmas.Bool.{cases_eq}
use Rattle.std.proofs.lemmas.Option.{same_Some}
use Rattle.parking_lot_core_model.specs.declared.parking.UnparkToken.{UnparkToken}
use Rattle.parking_lot_rules.specs.Roles.{Mark, Open, Normal, Handed, Asleep}
use Rattle.parking_lot_rules.specs.Lists.{occurs}
use Rattle.parking_lot_rules.specs.Mutex as rules
use Rattle.parking_lot_rules.proofs.Indexed.{get-set_other}
use Rattle.parking_lot_rules.proofs.Mutexes.{total-at}
use Rattle.parking_lot_protocol.specs.declared.act.Act.TheVariants as act
use Rattle.parking_lot_protocol.specs.declared.act.CoreAnswer.TheVariants.{Owned}
use Rattle.parking_lot_protocol.specs.declared.act.ActResult.TheVariants.{Woken}
use Rattle.parking_lot_protocol.specs.declared.mutex_phase.MutexPhase.{MutexPhase}
use Rattle.parking_lot_protocol.specs.declared.mutex_phase.MutexPhase.TheVariants.{Locking, Loads, Sleeps, Stores}
use Rattle.parking_lot_protocol.specs.declared.mutex_phase.MutexPhase.TheVariants.{Leaves, Wakes, Ends}
use Rattle.parking_lot_protocol.specs.MutexTable.{begins, act_of, next_phase}
use Rattle.parking_lot_rules.specs.Classes.{bit}
use Rattle.parking_lot_protocol.specs.MutexRules.{QueuePosition, Listed, Off, role, taken_of, IsWord}
use Rattle.parking_lot_machine.specs.Rows.{mutex_word_of}
use Rattle.parking_lot_machine_calls.specs.CallRoles.{first_of_all}
use Rattle.parking_lot_machine_calls.specs.Stances.{mutex_taken}
use Rattle.parking_lot_machine.specs.MutexLaws.{MutexWordsAreNumbers, MutexRolesAreKnown, settle_spot, woken_role}

-- WORDS

two_bits : (l p : ℕ) → l ≤ 1 → p ≤ 1 → mutex_word_of (l + p + p) ≡ record { locked = l; parked = p }
two_bits zero zero a b = refl
two_bits zero (suc zero) a b = refl
two_bits (suc zero) zero a b = refl
two_bits (suc zero) (suc zero) a b = refl
two_bits (suc (suc l)) p a b = absurd (omega (arith, a))
two_bits zero (suc (suc p)) a b = absurd (omega (arith, b))
two_bits (suc zero) (suc (suc p)) a b = absurd (omega (arith, b))

four : (x : ℕ) → x < 4 → rules.number (mutex_word_of x) ≡ x
four zero few = refl
four (suc zero) few = refl
four (suc (suc zero)) few = refl
four (suc (suc (suc zero))) few = refl
four (suc (suc (suc (suc x)))) few = absurd (omega (arith, few))

pub back : (w : rules.Word) → IsWord w → mutex_word_of (rules.number w) ≡ w
back w bits = two_bits w.locked w.parked bits.locked bits.parked

pub small : (w : rules.Word) → IsWord w → rules.number w < 4
small w bits = omega (arith, bits.locked, bits.parked)

pub sound_word : (m : rules.Mutex) → rules.IsSound m → IsWord m.word
sound_word m sound = record { locked = sound.fits.one; parked = sound.fits.bit }

pub words : MutexWordsAreNumbers
words = record { back = back; forth = four; small = small; sound = sound_word }

-- ROLES

pub awake : (at to : QueuePosition) (v : ℕ) (p : MutexPhase) → act_of p ≢ act.Sleep → role at v p ≡ role to v p
awake at to v Sleeps ne = absurd (ne refl)
awake at to v p ne = refl

taken_alone : (at : QueuePosition) (v u : ℕ) (p : MutexPhase) → mutex_taken p ≡ 0 → role at v p ≡ role at u p
taken_alone at v u (Stores giving true left) none = absurd (omega (arith, none))
taken_alone at v u (Stores giving false left) none = refl
taken_alone at v u (Leaves giving true handed) none = absurd (omega (arith, none))
taken_alone at v u (Leaves giving false handed) none = refl
taken_alone at v u (Wakes giving) none = absurd (omega (arith, none))
taken_alone at v u p none = refl

pub settled : (mark : Mark) (at : QueuePosition) (v : ℕ) (p : MutexPhase) → rules.settle mark (role at v p) ≡ role
    (settle_spot mark at) v p
settled mark Listed v p = listed p
  where
    listed : (p : MutexPhase) → rules.settle mark (role Listed v p) ≡ role Listed v p
    listed Locking = refl
    listed p = refl
settled mark (Off by Open) v p = off p
  where
    off : (p : MutexPhase) → rules.settle mark (role (Off by Open) v p) ≡ role (Off by mark) v p
    off Sleeps = refl
    off p = refl
settled mark (Off by Normal) v p = off p
  where
    off : (p : MutexPhase) → rules.settle mark (role (Off by Normal) v p) ≡ role (Off by Normal) v p
    off Sleeps = refl
    off p = refl
settled mark (Off by Handed) v p = off p
  where
    off : (p : MutexPhase) → rules.settle mark (role (Off by Handed) v p) ≡ role (Off by Handed) v p
    off Sleeps = refl
    off p = refl

pub woken : (at : QueuePosition) (v : ℕ) (token : UnparkToken) → role at v (next_phase Sleeps (Woken token))
    ≡ woken_role (token.0 == 1)
woken at v token = elim (token.0 == 1) as (λ b. role at v (cond b (Ends Owned) (Loads (begins true))) ≡ woken_role b)
    [ true ↦ refl | false ↦ refl ]

-- WHOM A THREAD HAS TAKEN

pub taken_list : (us : List ℕ) (b : Bool) → length us ≡ bit b → us ≡ taken_of (first_of_all us) b
taken_list [] true e = absurd (omega (arith, e))
taken_list [] false e = refl
taken_list (u ∷ []) true e = refl
taken_list (u ∷ v ∷ us) true e = absurd (omega (arith, e))
taken_list (u ∷ us) false e = absurd (omega (arith, e))

open_wakes : (o : Bool) (p : rules.Phase) (u : ℕ) → 0 < occurs u (rules.phase_wakes p Open)
    → rules.weight rules.Inside (record { owns = o; does = p }) ≡ 1
unfolding rules.weight
open_wakes o (rules.Unlocks us) u some = refl
open_wakes o p u some = absurd (omega arith)

giver_inside : (us : List ℕ) → rules.weight rules.Inside (rules.doing (rules.Unlocks us)) ≡ 1
unfolding rules.weight
giver_inside us = refl

-- two that are inside are one
pub one_inside : (m : rules.Mutex) → rules.IsSound m → (t u : ℕ) (a b : rules.Role) → slice_get m.roles t ≡ Some a
    → slice_get m.roles u ≡ Some b → rules.weight rules.Inside a ≡ 1 → rules.weight rules.Inside b ≡ 1 → u ≡ t
one_inside m sound t u a b at there wa wb = ⊎_elim
    (λ e. e)
    (λ ne.
    let still : slice_get (slice_set m.roles t rules.away) u ≡ Some b = get-set_other m.roles t u rules.away
    (λ e. ne (sym e)) ∙ there in
    absurd (omega (
      arith,
      sound.fits.inside,
      total-at m.roles t a at rules.Inside,
      total-at (slice_set m.roles t rules.away) u b still rules.Inside,
      wa,
      wb,
    )))
    (cases_eq u t)

pub opener : (m : rules.Mutex) (t u by : ℕ) (us : List ℕ) (r : rules.Role) → rules.IsSound m
    → slice_get m.roles t ≡ Some (rules.doing (rules.Unlocks us)) → slice_get m.roles u ≡ Some r
    → rules.note_of r ≡ Some (by, Open) → by ≡ t
opener m t u by us r sound at there note =
    let w = sound.noted u by r Open there note in
    one_inside m sound t by (rules.doing (rules.Unlocks us)) w.0 at w.1 (giver_inside us)
    (open_wakes w.0.owns w.0.does u w.2)

pub known : (m : rules.Mutex) (t u : ℕ) (o : Bool) (us : List ℕ) (mark : Mark) → rules.IsSound m
    → slice_get m.roles t ≡ Some (record { owns = o; does = rules.Wakes us })
    → slice_get m.roles u ≡ Some (rules.doing (rules.Taken t mark Asleep)) → mark ≢ Open
known m t u o us mark sound at there e =
    let taken : slice_get m.roles u ≡ Some (rules.doing (rules.Taken t Open Asleep)) =
    subst (λ (x : Mark). slice_get m.roles u ≡ Some (rules.doing (rules.Taken t x Asleep))) e there in
    let w = sound.noted u t (rules.doing (rules.Taken t Open Asleep)) Open taken refl in
    let same : w.0 ≡ record { owns = o; does = rules.Wakes us } = same_Some _ _ (sym w.1 ∙ at) in
    absurd (omega (arith, subst (λ (r : rules.Role). 0 < occurs u (rules.wakes r Open)) same w.2))

pub roles : MutexRolesAreKnown
roles = record {
  awake = awake;
  alone = taken_alone;
  settled = settled;
  woken = woken;
  taken = λ p us b size count. taken_list us b (size ∙ count);
  opener = opener;
  known = known;
}
