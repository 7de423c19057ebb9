-- Whether a section of some lock is open, once one goes on or is closed.
use Rattle.std.proofs.Common.{◌≡◌, ◌<◌, ◌%◌, ◌==◌, ◌||◌, ℕ, zero, suc, Bool, true, false, Option, Some, None}
use Rattle.std.proofs.Common.{is_some, option_map}
use Rattle.std.proofs.Common.{refl, sym, ap, ◌∙◌, arith}
use Rattle.std.proofs.lemmas.Bool.{eqb-false}
use Rattle.parking_lot_core_model.specs.declared.parking.UnparkToken.{UnparkToken}
use Rattle.parking_lot_core_model.specs.declared.place.Phase.{Phase}
use Rattle.parking_lot_core_model.specs.declared.place.Section.{Section}
use Rattle.parking_lot_core_model.specs.Buckets.{any_open}
use Rattle.parking_lot_core_model.specs.Lists.{updated}
use Rattle.parking_lot_core_model.specs.Machine.{Machine, bucket_of, closed, fresh_section, in_phase, open_at}
use Rattle.parking_lot_core_model.specs.Machine.{opened, stored}
use Rattle.parking_lot_core_model.proofs.Kept.{by_eqb, updated_at, updated_other}
use Rattle.parking_lot_machine.specs.Requeues.{lot_with}

pub both_ways : {X : Type 0} (b : Bool) → b ≡ true → b ≡ false → X
both_ways true e f = absurd cc
both_ways false e f = absurd cc

neither : (a b : Bool) → (a || b) ≡ false → (a ≡ false) × (b ≡ false)
neither true b e = absurd cc
neither false b e = (refl, e)

-- nobody is in one
pub none_open : (n : ℕ) → any_open (λ b. None) n ≡ false
none_open zero = refl
none_open (suc n) = none_open n

-- it isn't open where it wasn't
pub still_shut : (secs secs' : ℕ → Option Section) (b : ℕ) → (is_some (secs' b) ≡ true → is_some (secs b) ≡ true)
    → is_some (secs b) ≡ false → is_some (secs' b) ≡ false
still_shut secs secs' b fewer e = go (is_some (secs' b)) refl
  where
    go : (x : Bool) → is_some (secs' b) ≡ x → is_some (secs' b) ≡ false
    go true f = both_ways (is_some (secs b)) (fewer f) e
    go false f = f

-- where none is open, none is in any bucket
none_at : (secs : ℕ → Option Section) (n b : ℕ) → any_open secs n ≡ false → b < n → secs b ≡ None
none_at secs zero b e low = absurd (omega (arith, low))
none_at secs (suc n) b e low =
    let x = neither (is_some (secs n)) (any_open secs n) e in
    by_eqb b n (secs b ≡ None)
    (λ same. ap secs same ∙ closed_one (secs n) x.0)
    (λ other. none_at secs n b x.1 (omega (arith, low, eqb-false b n other)))
  where
    closed_one : (o : Option Section) → is_some o ≡ false → o ≡ None
    closed_one None e = refl
    closed_one (Some s) e = absurd cc

-- and none of a key
pub none_of_key : (m : Machine) (key : ℕ) → 0 < m.buckets → any_open m.sections m.buckets ≡ false → open_at m key ≡ None
none_of_key m key some e = none_at m.sections m.buckets (key % m.buckets) e (omega (arith, some))

-- where one is open, it is in some bucket
pub some_open : (secs : ℕ → Option Section) (n : ℕ) → any_open secs n ≡ true
    → (b : ℕ) × (o : Section) × (secs b ≡ Some o)
some_open secs zero e = absurd cc
some_open secs (suc n) e = here (secs n) refl (λ f. some_open secs n f)
  where
    here : (o : Option Section) → secs n ≡ o
        → (any_open secs n ≡ true → (b : ℕ) × (x : Section) × (secs b ≡ Some x))
        → (b : ℕ) × (x : Section) × (secs b ≡ Some x)
    here (Some x) is later = (n, x, is)
    here None is later = later (sym (ap (λ (o : Option Section). is_some o || any_open secs n) is) ∙ e)

-- where one is open in a bucket that there is, one is
pub some_there : (secs : ℕ → Option Section) (n b : ℕ) → b < n → is_some (secs b) ≡ true → any_open secs n ≡ true
some_there secs n b low some = go (any_open secs n) refl
  where
    go : (x : Bool) → any_open secs n ≡ x → any_open secs n ≡ true
    go true e = e
    go false e = both_ways (is_some (secs b)) some (ap is_some (none_at secs n b e low))

-- one changes, which isn't open but where it was
fewer_at : (secs : ℕ → Option Section) (k : ℕ) (o : Option Section)
    → (is_some o ≡ true → is_some (secs k) ≡ true) → (b : ℕ) → is_some (updated secs k o b) ≡ true
    → is_some (secs b) ≡ true
fewer_at secs k o fewer b some = by_eqb b k (is_some (secs b) ≡ true)
    (λ e. ap (λ (i : ℕ). is_some (secs i)) e
    ∙ fewer (sym (ap is_some (ap (updated secs k o) e ∙ updated_at secs k o)) ∙ some))
    (λ e. sym (ap is_some (updated_other secs k o b e)) ∙ some)

was_open : (f : Section → Section) (o : Option Section) → is_some (option_map f o) ≡ true → is_some o ≡ true
was_open f None e = e
was_open f (Some x) e = refl

none_open_there : {X : Type 0} → is_some {T = Section} None ≡ true → X
none_open_there e = both_ways false e refl

module _ (m : Machine) (key b : ℕ) (e : is_some (m.sections b) ≡ false) where
  pub phase_shut : (ph : Phase) → is_some ((in_phase m key ph).sections b) ≡ false
  phase_shut ph = still_shut m.sections (in_phase m key ph).sections b
      (fewer_at m.sections (bucket_of m key) (option_map {T = Section} (λ s. record s { phase = ph }) (open_at m key))
      (was_open (λ s. record s { phase = ph }) (open_at m key)) b) e

  pub store_shut : (token : UnparkToken) → is_some ((stored m key token).sections b) ≡ false
  store_shut token = still_shut m.sections (stored m key token).sections b
      (fewer_at m.sections (bucket_of m key)
      (option_map {T = Section} (λ s. record s { phase = Phase.Stored; token = token }) (open_at m key))
      (was_open (λ s. record s { phase = Phase.Stored; token = token }) (open_at m key)) b) e

  pub close_shut : (woken : Bool) → is_some ((closed m key woken).sections b) ≡ false
  close_shut woken = still_shut m.sections (closed m key woken).sections b
      (fewer_at m.sections (bucket_of m key) None (λ some. none_open_there some) b) e

  -- one that is opened in another bucket leaves this one so
  pub opened_shut : (owner : Option ℕ) → (b == bucket_of m key) ≡ false
      → is_some ((opened m owner key).sections b) ≡ false
  opened_shut owner other =
      ap is_some (updated_other m.sections (bucket_of m key) (Some (fresh_section owner key)) b other) ∙ e

  -- other buckets stay
  goes_elsewhere : (n : Machine) (ph : Phase) (i : ℕ) → (i == bucket_of n key) ≡ false
      → (in_phase n key ph).sections i ≡ n.sections i
  goes_elsewhere n ph i e = updated_other n.sections (bucket_of n key)
      (option_map {T = Section} (λ s. record s { phase = ph }) (open_at n key)) i e

  -- a thread that joins a list in a section of its own has left it
  pub joined_shut : (v : ℕ) → is_some ((lot_with m v key).sections b) ≡ false
  joined_shut v =
      let k : ℕ = bucket_of m key in
      let o : Machine = opened m (Some v) key in
      let p : Machine = in_phase o key Phase.Valid in
      let q : Machine = in_phase p key Phase.Joined in
      still_shut m.sections (updated q.sections k None) b
      (λ some. by_eqb b k (is_some (m.sections b) ≡ true)
      (λ e. none_open_there
      (sym (ap is_some (ap (updated q.sections k None) e ∙ updated_at q.sections k None)) ∙ some))
      (λ e. sym (ap is_some (updated_other q.sections k None b e
      ∙ (goes_elsewhere p Phase.Joined b e ∙ (goes_elsewhere o Phase.Valid b e
      ∙ updated_other m.sections k (Some (fresh_section (Some v) key)) b e)))) ∙ some)) e
