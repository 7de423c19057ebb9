-- How the owners of a lock change in a step, by its case.
use Rattle.std.proofs.Common.{◌≡◌, ◌≢◌, ℕ, zero, suc, ◌+◌, inl, inr, ◌⊎◌, Bool, true, false, List, map, Option, Some}
use Rattle.std.proofs.Common.{None, slice_get, slice_set, refl, sym, ap, ◌∙◌, subst}
use Rattle.std.specs.Option.{option_and_then, option_map}
use Rattle.std.proofs.lemmas.Bool.{cases_eq, false≢true}
use Rattle.std.proofs.lemmas.Option.{slice_get-map}
use Rattle.lock_api_desk.specs.declared.mode.Mode.{Mode as HeldMode}
use Rattle.lock_api_desk.specs.declared.mode.Mode.TheVariants as held
use Rattle.mapworld_state.specs.Locks.Views.{held_as}
use Rattle.parking_lot_rules.specs.Lock.{Lock}
use Rattle.parking_lot_rules.specs.Roles.{Mode, Role}
use Rattle.parking_lot_rules.specs.Any.{Rw}
use Rattle.parking_lot_rules.specs.Owners.{Owner, Reading, Upgrading, Awaiting, Writing, Stand, Apart, Waits}
use Rattle.parking_lot_rules.specs.Owners.{WaitsForReaders, Chosen, Standing, Owners, Case, IsCase, Leaves, Converts}
use Rattle.parking_lot_rules.specs.Owners.{appointed, dismissed, given, not_chosen, owner_given, owners, standing}
use Rattle.parking_lot_rules.specs.Owners.{with_standing}
use Rattle.parking_lot_rules.proofs.Indexed.{get-set_same, get-set_other}
use Rattle.parking_lot_machine_calls.specs.declared.calls.OwnMode.{OwnMode}
use Rattle.parking_lot_machine_calls.specs.CallViews.{mode_of, rw_mode}
use Rattle.parking_lot_machine.specs.Worlds.{mode_in}

abbrev pub mode_standing : Standing → Option OwnMode
mode_standing s = mode_of s.owner

-- how a thread owns a lock without its word
abbrev pub owned_in : List Standing → ℕ → Option OwnMode
owned_in threads t = option_and_then mode_standing (slice_get threads t)

pub mode_is_owned : (l : Lock) (t : ℕ) → mode_in (Rw l) t ≡ owned_in (owners l).threads t
mode_is_owned l t = at (slice_get l.roles t)
    ∙ ap (option_and_then mode_standing) (sym (slice_get-map standing l.roles t))
  where
    at : (o : Option Role) → option_and_then rw_mode o ≡ option_and_then mode_standing (option_map standing o)
    at None = refl
    at (Some r) = refl

-- It was taken off the list, and owns the lock now, in place of a thread that has left it.
pub record IsHanded (t v : ℕ) (a b : List Standing) : Type 0 where
  pub before : Standing
  pub was : slice_get a v ≡ Some before
  pub mode : Mode
  pub chosen : before.stand ≡ Chosen mode
  pub after : slice_get b v ≡ Some (record { owner = given mode; stand = Apart })
  pub from : Owner
  pub left : slice_get a t ≡ Some (record { owner = from; stand = Apart })
  pub leaves : Leaves from (Reading 0)
  pub gone : slice_get b t ≡ Some (record { owner = Reading 0; stand = Apart })

-- another thread owns the lock as before, or it was handed it
abbrev pub OthersStay : ℕ → List Standing → List Standing → Type 0
OthersStay t a b = (v : ℕ) → v ≢ t → (owned_in b v ≡ owned_in a v) ⊎ IsHanded t v a b

set_other : (t : ℕ) (a : List Standing) (s : Standing) → OthersStay t a (slice_set a t s)
set_other t a s v ne = inl (ap (option_and_then mode_standing) (get-set_other a t v s (λ e. ne (sym e))))

-- a thread that stands elsewhere now owns the lock as before
set_same : (t w : ℕ) (a : List Standing) (s x : Standing) → slice_get a w ≡ Some x → mode_standing s ≡ mode_standing x
    → OthersStay t a (slice_set a w s)
set_same t w a s x here same v ne = elim (cases_eq v w) [
  | inl e ↦ inl (ap (λ n. owned_in (slice_set a w s) n) e
      ∙ ap (option_and_then mode_standing) (get-set_same a w x s here) ∙ same
      ∙ sym (ap (option_and_then mode_standing) here) ∙ ap (λ n. owned_in a n) (sym e))
  | inr other ↦ inl (ap (option_and_then mode_standing) (get-set_other a w v s (λ e. other (sym e))))
]

told_same : (o : Option Standing) → option_and_then mode_standing (option_map dismissed o) ≡ option_and_then
    mode_standing o
told_same None = refl
told_same (Some s) = refl

told_stay : (a : List Standing) (v : ℕ) → owned_in (map dismissed a) v ≡ owned_in a v
told_stay a v = ap (option_and_then mode_standing) (slice_get-map dismissed a v) ∙ told_same (slice_get a v)

-- those that are appointed own it as before, but where they were chosen
appointed_one : (s : Standing) (st : Stand) → s.stand ≡ st → (mode_standing (appointed s) ≡ mode_standing s)
    ⊎ ((mode : Mode) × (s.stand ≡ Chosen mode) × (appointed s ≡ record { owner = given mode; stand = Apart }))
appointed_one s Apart e = inl (ap (λ x. mode_of (owner_given x s.owner)) e)
appointed_one s (Waits mode) e = inl (ap (λ x. mode_of (owner_given x s.owner)) e)
appointed_one s WaitsForReaders e = inl (ap (λ x. mode_of (owner_given x s.owner)) e)
appointed_one s (Chosen mode) e =
    inr (mode, e, ap (λ x. record { owner = owner_given x s.owner; stand = not_chosen x }) e)

-- of a list where one has left
left_here : (f : Standing → Standing) (a : List Standing) (t : ℕ) (x s : Standing) → slice_get a t ≡ Some x
    → slice_get (slice_set (map f a) t s) t ≡ Some s
left_here f a t x s here = get-set_same (map f a) t (f x) s (slice_get-map f a t ∙ ap (option_map f) here)

handed_over : (t : ℕ) (a : List Standing) (from : Owner) → slice_get a t ≡ Some (record { owner = from; stand = Apart })
    → Leaves from (Reading 0) → OthersStay t a (with_standing (map appointed a) t (Reading 0) Apart)
handed_over t a from here leaves v ne = at (slice_get a v) refl
  where
    other : slice_get (with_standing (map appointed a) t (Reading 0) Apart) v ≡ option_map appointed (slice_get a v)
    other = get-set_other (map appointed a) t v _ (λ e. ne (sym e)) ∙ slice_get-map appointed a v

    at : (o : Option Standing) → slice_get a v ≡ o
        → (owned_in (with_standing (map appointed a) t (Reading 0) Apart) v ≡ owned_in a v)
        ⊎ IsHanded t v a (with_standing (map appointed a) t (Reading 0) Apart)
    at None e = inl (ap (option_and_then mode_standing) (other ∙ ap (option_map appointed) e)
        ∙ sym (ap (option_and_then mode_standing) e))
    at (Some s) e = elim (appointed_one s s.stand refl) [
      | inl same ↦ inl (ap (option_and_then mode_standing) (other ∙ ap (option_map appointed) e) ∙ same
          ∙ sym (ap (option_and_then mode_standing) e))
      | inr (mode, chosen, is) ↦ inr (record {
        before = s;
        was = e;
        mode = mode;
        chosen = chosen;
        after = other ∙ ap (option_map appointed) e ∙ ap Some is;
        from = from;
        left = here;
        leaves = leaves;
        gone = get-set_same (map appointed a) t _ _ (slice_get-map appointed a t ∙ ap (option_map appointed) here);
      })
    ]

told_and_left : (t : ℕ) (a : List Standing) (s : Standing) → OthersStay t a (slice_set (map dismissed a) t s)
told_and_left t a s v ne =
    inl (ap (option_and_then mode_standing) (get-set_other (map dismissed a) t v s (λ e. ne (sym e))) ∙ told_stay a v)

-- the threads of the state afterwards
to : (t : ℕ) (a : List Standing) (b : Owners) (threads first second : _)
    → b ≡ record { threads = threads; first = first; second = second } → OthersStay t a threads
    → OthersStay t a b.threads
to t a b threads first second e h = subst (OthersStay t a) (sym (ap (λ x. x.threads) e)) h

pub others_stay : (t : ℕ) (case : Case) (a b : Owners) → IsCase false t case a b → OthersStay t a.threads b.threads
others_stay t Case.Nothing a b h = λ v ne. inl (ap (λ x. owned_in x.threads v) h)
others_stay t (Case.Enter mode) a b (at, e) = to t _ b _ _ _ e (set_other t _ _)
others_stay t Case.EnterSecond a b (at, e) = to t _ b _ _ _ e (set_other t _ _)
others_stay t (Case.Quit mode i) a b (at, first, e) = to t _ b _ _ _ e (set_other t _ _)
others_stay t (Case.QuitSecond i) a b (at, first, e) = to t _ b _ _ _ e (set_other t _ _)
others_stay t (Case.AdmitShared n) a b (at, nobody, e) = to t _ b _ _ _ e (set_other t _ _)
others_stay t Case.AdmitPending a b (at, nobody, none, e) = to t _ b _ _ _ e (set_other t _ _)
others_stay t Case.AdmitExclusive a b (at, nobody, e) = to t _ b _ _ _ e (set_other t _ _)
others_stay t Case.AdmitAtOnce a b (at, nobody, none, e) = to t _ b _ _ _ e (set_other t _ _)
others_stay t Case.AdmitUpgradable a b (at, nobody, none, e) = to t _ b _ _ _ e (set_other t _ _)
others_stay t (Case.Convert from next) a b (at, can, e) = to t _ b _ _ _ e (set_other t _ _)
others_stay t Case.ConvertAlone a b (at, nobody, e) = to t _ b _ _ _ e (set_other t _ _)
others_stay t (Case.Leave from next) a b (at, can, e) = to t _ b _ _ _ e (set_other t _ _)
others_stay t (Case.GiveUp next) a b (at, can, e) = to t _ b _ _ _ e (set_other t _ _)
others_stay t (Case.Choose i w mode) a b (first, at, over, e) = to t _ b _ _ _ e (set_same t w _ _ _ at refl)
others_stay t (Case.Rouse w) a b (first, at, e) = to t _ b _ _ _ e (set_same t w _ _ _ at refl)
others_stay t Case.Tell a b h = to t _ b _ _ _ h (λ v ne. inl (told_stay a.threads v))
others_stay t (Case.LeaveTelling from) a b (at, can, e) = to t _ b _ _ _ e (told_and_left t _ _)
others_stay t (Case.HandOver from) a b (at, can, e) = to t _ b _ _ _ e (handed_over t _ from at can)

-- OF THE THREAD ITSELF

here_now : (t : ℕ) (a : List Standing) (b : Owners) (x s : Standing) (first second : List ℕ) → slice_get a t ≡ Some x
    → b ≡ record { threads = slice_set a t s; first = first; second = second } → owned_in b.threads t ≡ mode_standing s
here_now t a b x s first second here e = ap (λ y. owned_in y.threads t) e
    ∙ ap (option_and_then mode_standing) (get-set_same a t x s here)

now_then : (f : Standing → Standing) (t : ℕ) (a : List Standing) (b : Owners) (x s : Standing) (first second : List ℕ)
    → slice_get a t ≡ Some x → b ≡ record { threads = slice_set (map f a) t s; first = first; second = second }
    → owned_in b.threads t ≡ mode_standing s
now_then f t a b x s first second here e = ap (λ y. owned_in y.threads t) e
    ∙ ap (option_and_then mode_standing) (left_here f a t x s here)

abbrev is_shared_mode : Option HeldMode → Bool
is_shared_mode (Some held.Shared) = true
is_shared_mode other = false

abbrev is_exclusive : Option HeldMode → Bool
is_exclusive (Some held.Exclusive) = true
is_exclusive other = false

exclusive_not : (o : Option OwnMode) → is_exclusive (held_as o) ≡ false → held_as o ≢ Some held.Exclusive
exclusive_not o h e = false≢true (sym h ∙ ap is_exclusive e)

converted : (from next : Owner) → Converts from next → is_exclusive (held_as (mode_of next)) ≡ false
converted from (Reading zero) can = refl
converted from (Reading (suc n)) can = refl
converted from Upgrading can = refl
converted from Awaiting can = refl
converted (Reading n) Writing can = absurd can
converted Upgrading Writing can = absurd can
converted Awaiting Writing can = absurd can
converted Writing Writing can = absurd can

left_so : (from next : Owner) → Leaves from next → is_exclusive (held_as (mode_of next)) ≡ false
left_so from (Reading zero) can = refl
left_so from (Reading (suc n)) can = refl
left_so from Upgrading can = refl
left_so from Awaiting can = refl
left_so (Reading n) Writing can = absurd can
left_so Upgrading Writing can = absurd can
left_so Awaiting Writing can = absurd can
left_so Writing Writing can = absurd can

given_up : (next : Owner) → (next ≡ Reading 0) ⊎ (next ≡ Upgrading) → is_exclusive (held_as (mode_of next)) ≡ false
given_up next (inl e) = ap (λ o. is_exclusive (held_as (mode_of o))) e
given_up next (inr e) = ap (λ o. is_exclusive (held_as (mode_of o))) e

reads : (n : ℕ) → is_exclusive (held_as (mode_of (Reading n))) ≡ false
reads zero = refl
reads (suc n) = refl

-- where it stays as it was, or becomes something else than the exclusive owner
module _ (t : ℕ) (a b : Owners) (shared : held_as (owned_in a.threads t) ≡ Some held.Shared) where
  kept : owned_in b.threads t ≡ owned_in a.threads t → held_as (owned_in b.threads t) ≢ Some held.Exclusive
  kept e f = false≢true (ap is_exclusive (sym shared ∙ ap held_as (sym e) ∙ f))

  becomes : (o : Owner) → owned_in b.threads t ≡ mode_of o → is_exclusive (held_as (mode_of o)) ≡ false
      → held_as (owned_in b.threads t) ≢ Some held.Exclusive
  becomes o e no_more = λ f. exclusive_not (mode_of o) no_more (ap held_as (sym e) ∙ f)

  not_from : (o : Owner) (s : Stand) → slice_get a.threads t ≡ Some (record { owner = o; stand = s })
      → is_shared_mode (held_as (mode_of o)) ≡ false → ⊥
  not_from o s here no_more =
      false≢true (sym no_more ∙ ap (λ x. is_shared_mode (held_as (option_and_then mode_standing x))) (sym here)
      ∙ ap is_shared_mode shared)

  others_do : (w : ℕ) (x s : Standing) (first second : List ℕ) → slice_get a.threads w ≡ Some x
      → mode_standing s ≡ mode_standing x
      → b ≡ record { threads = slice_set a.threads w s; first = first; second = second }
      → owned_in b.threads t ≡ owned_in a.threads t
  others_do w x s first second here same e = ap (λ y. owned_in y.threads t) e ∙ elim (cases_eq t w) [
    | inl eq ↦ ap (owned_in (slice_set a.threads w s)) eq
        ∙ ap (option_and_then mode_standing) (get-set_same a.threads w x s here) ∙ same
        ∙ sym (ap (option_and_then mode_standing) here) ∙ ap (owned_in a.threads) (sym eq)
    | inr other ↦ ap (option_and_then mode_standing) (get-set_other a.threads w t s (λ k. other (sym k)))
  ]

pub own_stays : (t : ℕ) (case : Case) (a b : Owners) → IsCase false t case a b → held_as (owned_in a.threads t) ≡ Some
    held.Shared → held_as (owned_in b.threads t) ≢ Some held.Exclusive
own_stays t Case.Nothing a b h shared = kept t a b shared (ap (λ x. owned_in x.threads t) h)
own_stays t (Case.Enter mode) a b (at, e) shared = becomes t a b shared (Reading 0) (here_now t _ b _ _ _ _ at e) refl
own_stays t Case.EnterSecond a b (at, e) shared = becomes t a b shared Awaiting (here_now t _ b _ _ _ _ at e) refl
own_stays t (Case.Quit mode i) a b (at, first, e) shared = becomes t a b shared (Reading 0)
    (here_now t _ b _ _ _ _ at e) refl
own_stays t (Case.QuitSecond i) a b (at, first, e) shared = becomes t a b shared Awaiting (here_now t _ b _ _ _ _ at e)
    refl
own_stays t (Case.AdmitShared n) a b (at, nobody, e) shared = becomes t a b shared (Reading (n + 1))
    (here_now t _ b _ _ _ _ at e) (reads (n + 1))
own_stays t Case.AdmitPending a b (at, nobody, none, e) shared =
    becomes t a b shared Awaiting (here_now t _ b _ _ _ _ at e) refl
own_stays t Case.AdmitExclusive a b (at, nobody, e) shared = absurd (not_from t a b shared Awaiting Apart at refl)
own_stays t Case.AdmitAtOnce a b (at, nobody, none, e) shared = absurd (not_from t a b shared (Reading 0) Apart at refl)
own_stays t Case.AdmitUpgradable a b (at, nobody, none, e) shared =
    becomes t a b shared Upgrading (here_now t _ b _ _ _ _ at e) refl
own_stays t (Case.Convert from next) a b (at, can, e) shared = becomes t a b shared next (here_now t _ b _ _ _ _ at e)
    (converted from next can)
own_stays t Case.ConvertAlone a b (at, nobody, e) shared = absurd (not_from t a b shared Upgrading Apart at refl)
own_stays t (Case.Leave from next) a b (at, can, e) shared = becomes t a b shared next (here_now t _ b _ _ _ _ at e)
    (left_so from next can)
own_stays t (Case.GiveUp next) a b (at, can, e) shared = becomes t a b shared next (here_now t _ b _ _ _ _ at e)
    (given_up next can)
own_stays t (Case.Choose i w mode) a b (first, at, over, e) shared =
    kept t a b shared (others_do t a b shared w _ _ _ _ at refl e)
own_stays t (Case.Rouse w) a b (first, at, e) shared = kept t a b shared (others_do t a b shared w _ _ _ _ at refl e)
own_stays t Case.Tell a b h shared = kept t a b shared (ap (λ x. owned_in x.threads t) h ∙ told_stay a.threads t)
own_stays t (Case.LeaveTelling from) a b (at, can, e) shared = becomes t a b shared (Reading 0)
    (now_then dismissed t _ b _ _ _ _ at e) refl
own_stays t (Case.HandOver from) a b (at, can, e) shared = becomes t a b shared (Reading 0)
    (now_then appointed t _ b _ _ _ _ at e) refl
