-- Who is in the sections of the buckets, once one is entered or left.
use Rattle.std.proofs.Common.{◌≡◌, ◌≢◌, ℕ, ◌*◌, ◌%◌, ◌<◌, List, length, Option, Some, slice_set, sym, ap, ◌∙◌, arith}
use Rattle.std.specs.Option.{option_and_then}
use Rattle.std.proofs.lemmas.List.{length-set}
use Rattle.std.proofs.lemmas.Option.{same_Some}
use Rattle.parking_lot_rules.proofs.Indexed.{get-set_same, get-set_other}
use Rattle.parking_lot_core_model.specs.Buckets.{slot}
use Rattle.parking_lot_protocol_waits.specs.Once.OnceTable.{act_of}
use Rattle.parking_lot_machine_sides.specs.Once.OnceActs.{acted, inside_after}
use Rattle.parking_lot_machine_sides.specs.Once.OnceFits.{Fits}
use Rattle.parking_lot_machine_sides.specs.Once.Onces.{OpenCall, Onces, bucket_of, call_at, inside_at}
use Rattle.parking_lot_machine_sides.proofs.OnceFacts.Acting.{has_slot}

module _ {X : Type 0} where
  pub slot_here : (xs : List (Option X)) (b : ℕ) (o : Option X) → b < length xs → slot (slice_set xs b o) b ≡ o
  slot_here xs b o low =
      let x = has_slot xs b low in
      ap (option_and_then (λ y. y)) (get-set_same xs b x.0 o x.1)

  pub slot_elsewhere : (xs : List (Option X)) (b k : ℕ) (o : Option X) → k ≢ b → slot (slice_set xs b o) k ≡ slot xs k
  slot_elsewhere xs b k o ne = ap (option_and_then (λ y. y)) (get-set_other xs b k o (λ e. ne (sym e)))

-- a once has a bucket
pub bucket_low : (s : Onces) (i : ℕ) → 0 < length s.inside → bucket_of s i < length s.inside
bucket_low s i some = omega (arith, some)

-- who has entered a bucket is in a call at a once of that bucket
pub stands_in : (s : Onces) (t : ℕ) (c : OpenCall) → Fits s → call_at s t ≡ Some c → (b : ℕ) → slot s.inside b ≡ Some t
    → bucket_of s c.once ≡ b
stands_in s t c fits here b at =
    let d = fits.inside b t at in
    ap (λ (x : OpenCall). bucket_of s x.once) (same_Some c d.0 (sym here ∙ d.1)) ∙ d.2

-- AN ACT OF ITS OWN

module _ (s : Onces) (t : ℕ) (c : OpenCall) where
  abbrev u : Onces
  u = acted s t c

  abbrev after : Option ℕ
  after = inside_after (act_of c.core.phase) t (inside_at s c.once)

  pub as_many : length u.inside ≡ length s.inside
  as_many = length-set s.inside (bucket_of s c.once) after

  pub same_bucket : (i : ℕ) → bucket_of u i ≡ bucket_of s i
  same_bucket i = ap (λ (n : ℕ). 2 * i % n) as_many

  pub after_there : 0 < length s.inside → slot u.inside (bucket_of s c.once) ≡ after
  after_there some = slot_here s.inside (bucket_of s c.once) after (bucket_low s c.once some)

  pub now_inside : 0 < length s.inside → inside_at u c.once ≡ after
  now_inside some = ap (slot u.inside) (same_bucket c.once) ∙ after_there some

  pub still_inside : (k : ℕ) → k ≢ bucket_of s c.once → slot u.inside k ≡ slot s.inside k
  still_inside k ne = slot_elsewhere s.inside (bucket_of s c.once) k after ne
