-- One that was taken is woken, and goes on with its token.
use Rattle.std.proofs.Common.{◌≡◌, ℕ, zero, suc, ◌&&◌, cond, Bool, true, false, List, [], ◌∷◌, Some, None, Result, Ok}
use Rattle.std.proofs.Common.{slice_set, refl, sym, ap, ◌∙◌, subst, eq-eqb}
use Rattle.std.specs.Option.{option_map, option_map_or}
use Rattle.parking_lot_core_model.specs.declared.fault.LotFault.{LotFault}
use Rattle.parking_lot_core_model.specs.declared.parking.ParkResult.{ParkResult}
use Rattle.parking_lot_core_model.specs.declared.parking.ParkResult.TheVariants.{Unparked}
use Rattle.parking_lot_core_model.specs.declared.parking.UnparkToken.{UnparkToken}
use Rattle.parking_lot_core_model.specs.declared.place.Place.TheVariants.{Running, Taken}
use Rattle.parking_lot_core_model.specs.declared.place.Sleep.{Sleep}
use Rattle.parking_lot_core_model.specs.Machine.{Machine, Does, Unless, busy, changed_at, resume_fault, resume_fault_at}
use Rattle.parking_lot_core_model.specs.Operations.{Resumes, ResumesFrom}
use Rattle.parking_lot_core_model.specs.Places.{place_at, is_due, roused}
use Rattle.parking_lot_core_model.proofs.Sounds.{place_at-set_same}
use Rattle.parking_lot_machine.specs.TellLaws.{GoesOn}

set_twice : {X : Type 0} (xs : List X) (i : ℕ) (x y : X) → slice_set (slice_set xs i x) i y ≡ slice_set xs i y
set_twice [] i x y = refl
set_twice (z ∷ zs) zero x y = refl
set_twice (z ∷ zs) (suc i) x y = ap (λ ws. z ∷ ws) (set_twice zs i x y)

pub goes_on : (m : Machine) (v : ℕ) (token : UnparkToken) (key : ℕ) (sleep : Sleep)
    → place_at m.places v ≡ Some (Taken token key sleep false) → sleep.late ≡ false → GoesOn m v token key sleep
goes_on m v token key sleep place late =
    let n : Machine = changed_at roused m v in
    let now : place_at n.places v ≡ Some (Taken token key sleep true) =
    place_at-set_same m.places v (Taken token key sleep false) (option_map roused (place_at m.places v)) place
    ∙ ap (option_map roused) place in
    record {
      due = ap (λ o. option_map_or (is_due sleep.mark) o false) place
          ∙ ap (λ b. b && true) (eq-eqb sleep.mark sleep.mark refl);
      free = ap (resume_fault_at (λ (i : ℕ). busy i n)) now ∙ ap (λ b. cond b (busy key n) None) late;
      place = now;
      runs = set_twice m.places v (option_map roused (place_at m.places v)) (Some Running);
    }

-- what the lot's call then answers and leaves
pub resumed : (m : Machine) (v : ℕ) (token : UnparkToken) (key : ℕ) (sleep : Sleep) → GoesOn m v token key sleep
    → (tells : ℕ → Bool → Type 0) (result : Result ParkResult LotFault) (new : Machine)
    → Does (λ n. resume_fault n v) (Resumes tells v) (changed_at roused m v) result new → (result ≡ Ok (Unparked token))
    × (new ≡ record m { places = slice_set m.places v (Some Running) })
resumed m v token key sleep g tells result new done =
    let n : Machine = changed_at roused m v in
    let went = subst (λ o. ResumesFrom o tells n v result new) g.place
    (subst (λ f. Unless f result n new (Resumes tells v n result new)) g.free done) in
    (went.0, went.1 ∙ ap (λ ps. record m { places = ps }) g.runs)

-- the same of both calls: it is woken by its mark, and then goes on
pub rouses : (m n : Machine) (v mark : ℕ)
    (told : (token : UnparkToken) × (key : ℕ) × (sleep : Sleep)
    × (place_at m.places v ≡ Some (Taken token key sleep false))
    × (sleep.late ≡ false) × (sleep.mark ≡ mark)) (woke : Bool)
    → woke ≡ option_map_or (is_due mark) (place_at m.places v) false → n ≡ cond woke (changed_at roused m v) m
    → (tells : ℕ → Bool → Type 0) (result : Result ParkResult LotFault) (new : Machine)
    → Does (λ o. resume_fault o v) (Resumes tells v) n result new
    → (result ≡ Ok (Unparked told.0)) × (new ≡ record m { places = slice_set m.places v (Some Running) })
rouses m n v mark told woke due woken tells result new done =
    let g = goes_on m v told.0 told.1 told.2 told.3 told.4 in
    let acts : woke ≡ true = due ∙ ap (λ k. option_map_or (is_due k) (place_at m.places v) false) (sym told.5)
    ∙ g.due in
    let is : n ≡ changed_at roused m v = woken ∙ ap (λ b. cond b (changed_at roused m v) m) acts in
    resumed m v told.0 told.1 told.2 g tells result new
    (subst (λ o. Does (λ x. resume_fault x v) (Resumes tells v) o result new) is done)
