-- To move waiters into the list of a mutex, one after the other, is a run of the rules.
use Rattle.std.proofs.Common.{◌≡◌, ◌≢◌, ℕ, zero, suc, Bool, true, List, [], ◌∷◌, ◌++◌, map, Some, slice_get, slice_set}
use Rattle.std.proofs.Common.{refl, sym, ap, ◌∙◌, subst}
use Rattle.std.proofs.lemmas.Option.{same_Some}
use Rattle.parking_lot_rules.specs.Roles.{Asleep, Normal}
use Rattle.parking_lot_rules.specs.Mutex.{Alone, Comes, Depart, Finish, Follow, Go, Idle, Moves, Mutex, Queued, Requeue}
use Rattle.parking_lot_rules.specs.Mutex.{Role, Runs, Seeks, Step, Stored, Taken, Wake, Wakes, away, doing}
use Rattle.parking_lot_rules.proofs.Indexed.{get-set_same, get-set_other}
use Rattle.parking_lot_machine.specs.Requeues.{AllRequeuesAreRuns, AreAway, MayCome, all_filed, filed, pull_run}
use Rattle.parking_lot_machine.specs.Requeues.{requeue_run, roused}
use Rattle.parking_lot_machine.proofs.Indexing.{set_twice}
use Rattle.parking_lot_machine.proofs.MutexMoving.{same_mutex, set_same}

set_apart : {X : Type 0} (xs : List X) (i j : ℕ) (x y : X) → i ≢ j → slice_set (slice_set xs i x) j y ≡ slice_set
    (slice_set xs j y) i x
set_apart [] i j x y ne = refl
set_apart (z ∷ zs) zero zero x y ne = absurd (ne refl)
set_apart (z ∷ zs) zero (suc j) x y ne = refl
set_apart (z ∷ zs) (suc i) zero x y ne = refl
set_apart (z ∷ zs) (suc i) (suc j) x y ne = ap (λ ys. z ∷ ys) (set_apart zs i j x y (λ e. ne (ap (λ n. suc n) e)))

module _ (by : ℕ) (o : Bool) where
  abbrev at_rest : Role
  at_rest = record { owns = o; does = Idle }

  -- ALL INTO THE LIST

  -- inside, with the parked bit set
  abbrev moving : Mutex → Mutex
  moving n = record n { roles = slice_set n.roles by (record { owns = o; does = Moves }) }

  goes : (n : Mutex) (vs : List ℕ) → slice_get n.roles by ≡ Some at_rest → n.word.parked ≡ 1 → AreAway n by vs
      → Runs (moving n) (map (λ v. (by, Requeue o v)) vs ++ (by, Alone (Go o)) ∷ []) (all_filed n vs)
  goes n [] here bit apart = (
    (get-set_same n.roles by _ _ here, tt),
    same_mutex _ _ refl (sym (set_twice n.roles by _ at_rest ∙ set_same n.roles by at_rest here)) refl,
  )
  goes n (v ∷ vs) here bit (ne, there, apart) = (
    (get-set_same n.roles by _ _ here, get-set_other n.roles by v _ (λ e. ne (sym e)) ∙ there),
    subst (λ (x : Mutex). Runs x (map (λ w. (by, Requeue o w)) vs ++ (by, Alone (Go o)) ∷ [])
        (all_filed (filed n v) vs)) (sym shape)
        (goes (filed n v) vs (get-set_other n.roles v by _ ne ∙ here) refl apart),
  )
    where
      shape : record (moving n) {
        roles = slice_set (moving n).roles v (doing (Queued Asleep));
        queue = n.queue ++ v ∷ [];
      } ≡ moving (filed n v)
      shape = same_mutex _ _ (λ i. record { locked = n.word.locked; parked = bit i })
          (set_apart n.roles by v _ _ (λ e. ne (sym e))) refl

  pub requeues : (n : Mutex) (v : ℕ) (vs : List ℕ) → MayCome n by o → n.word.locked ≡ 1 → AreAway n by (v ∷ vs)
      → Runs n (requeue_run by o (v ∷ vs)) (all_filed n (v ∷ vs))
  requeues n v vs may locked apart = (
    (may.here, may.free),
    (
      (get-set_same n.roles by at_rest _ may.here, locked),
      subst (λ (x : Mutex). Runs x (map (λ w. (by, Requeue o w)) (v ∷ vs) ++ (by, Alone (Go o)) ∷ [])
          (all_filed n (v ∷ vs))) (sym shape) (goes marked (v ∷ vs) may.here refl apart),
    ),
  )
    where
      marked : Mutex
      marked = record n { word = record n.word { parked = 1 } }

      shape : record n {
        word = record n.word { parked = 1 };
        roles = slice_set (slice_set n.roles by (record { owns = o; does = Comes })) by
            (record { owns = o; does = Moves });
      } ≡ moving marked
      shape = same_mutex _ _ refl (set_twice n.roles by _ _) refl

  -- THE FIRST IS WOKEN

  module _ (v : ℕ) (ne : v ≢ by) where
    abbrev last_steps : List (ℕ × Step)
    last_steps = (by, Alone (Depart o (v ∷ []))) ∷ (by, Wake o v [] Asleep) ∷ (by, Alone (Finish o)) ∷ []

    -- inside, with v taken
    abbrev pulling : Mutex → Mutex
    pulling n = record n {
      roles = slice_set (slice_set n.roles by (record { owns = o; does = Stored (v ∷ []) })) v
          (doing (Taken by Normal Asleep));
    }

    not_v : by ≢ v
    not_v e = ne (sym e)

    -- it leaves, wakes v, and is done
    lasts : (n : Mutex) → slice_get n.roles by ≡ Some at_rest → slice_get n.roles v ≡ Some (doing (Seeks true))
        → Runs (pulling n) last_steps n
    lasts n here first = (
      (at_by, tt),
      (
        (get-set_same pulled by stores wakes_v at_by, get-set_other pulled by v wakes_v not_v ∙ at_v, refl),
        (
          (
            get-set_same (slice_set departed v seeks) by wakes_v wakes_none
                (get-set_other departed v by seeks ne ∙ get-set_same pulled by stores wakes_v at_by),
            tt,
          ),
          same_mutex _ _ refl (sym back) refl,
        ),
      ),
    )
      where
        stores : Role
        stores = record { owns = o; does = Stored (v ∷ []) }

        wakes_v : Role
        wakes_v = record { owns = o; does = Wakes (v ∷ []) }

        wakes_none : Role
        wakes_none = record { owns = o; does = Wakes [] }

        seeks : Role
        seeks = doing (Seeks true)

        pulled : List Role
        pulled = (pulling n).roles

        departed : List Role
        departed = slice_set pulled by wakes_v

        at_by : slice_get pulled by ≡ Some stores
        at_by = get-set_other (slice_set n.roles by stores) v by _ ne ∙ get-set_same n.roles by at_rest stores here

        at_v : slice_get pulled v ≡ Some (doing (Taken by Normal Asleep))
        at_v = get-set_same (slice_set n.roles by stores) v seeks _ (get-set_other n.roles by v stores not_v ∙ first)

        seeking : slice_set pulled v seeks ≡ slice_set n.roles by stores
        seeking = set_twice (slice_set n.roles by stores) v _ seeks ∙ set_apart n.roles by v stores seeks not_v
            ∙ ap (λ rs. slice_set rs by stores) (set_same n.roles v seeks first)

        back : slice_set (slice_set (slice_set departed v seeks) by wakes_none) by at_rest ≡ n.roles
        back =
            set_twice (slice_set departed v seeks) by wakes_none at_rest
            ∙ ap (λ rs. slice_set rs by at_rest) (set_apart pulled by v wakes_v seeks not_v)
            ∙ set_twice (slice_set pulled v seeks) by wakes_v at_rest
            ∙ ap (λ rs. slice_set rs by at_rest) seeking
            ∙ set_twice n.roles by stores at_rest
            ∙ set_same n.roles by at_rest here

    follows : (n : Mutex) (vs : List ℕ) → slice_get n.roles by ≡ Some at_rest
        → slice_get n.roles v ≡ Some (doing (Seeks true)) → AreAway n by vs
        → Runs (pulling n) (map (λ w. (by, Follow o v Asleep w)) vs ++ last_steps) (all_filed n vs)
    follows n [] here first apart = lasts n here first
    follows n (w ∷ vs) here first (apart, there, rest) = (
      (
        get-set_other (slice_set n.roles by stores) v by taken ne ∙ get-set_same n.roles by at_rest stores here,
        get-set_same (slice_set n.roles by stores) v (doing (Seeks true)) taken
            (get-set_other n.roles by v stores not_v ∙ first),
        get-set_other (slice_set n.roles by stores) v w taken (λ e. not_first (sym e))
            ∙ get-set_other n.roles by w stores (λ e. apart (sym e)) ∙ there,
      ),
      subst (λ (x : Mutex). Runs x (map (λ u. (by, Follow o v Asleep u)) vs ++ last_steps) (all_filed (filed n w) vs))
          (sym shape)
          (follows (filed n w) vs (get-set_other n.roles w by _ apart ∙ here)
          (get-set_other n.roles w v _ not_first ∙ first) rest),
    )
      where
        stores : Role
        stores = record { owns = o; does = Stored (v ∷ []) }

        taken : Role
        taken = doing (Taken by Normal Asleep)

        -- it is in no call, and v is in one
        not_first : w ≢ v
        not_first e = let same : away ≡ doing (Seeks true) = same_Some away (doing (Seeks true))
            (sym there ∙ ap (slice_get n.roles) e ∙ first) in let phases = ap (λ (r : Role). r.does) same in cc

        shape : record (pulling n) {
          word = record n.word { parked = 1 };
          roles = slice_set (pulling n).roles w (doing (Queued Asleep));
          queue = n.queue ++ w ∷ [];
        } ≡ pulling (filed n w)
        shape =
            same_mutex _ _ refl
            (set_apart (slice_set n.roles by stores) v w taken (doing (Queued Asleep)) (λ e. not_first (sym e))
            ∙ ap (λ rs. slice_set rs v taken)
            (set_apart n.roles by w stores (doing (Queued Asleep)) (λ e. apart (sym e))))
            refl

    pub pulls : (n : Mutex) (vs : List ℕ) → MayCome n by o → slice_get n.roles v ≡ Some away
        → AreAway (roused n v) by vs → Runs n (pull_run by o v vs) (all_filed (roused n v) vs)
    pulls n vs may there apart = (
      (may.here, may.free),
      (
        (get-set_same n.roles by at_rest comes may.here, get-set_other n.roles by v comes not_v ∙ there),
        subst (λ (x : Mutex). Runs x (map (λ u. (by, Follow o v Asleep u)) vs ++ last_steps)
            (all_filed (roused n v) vs)) (sym shape)
            (follows (roused n v) vs (get-set_other n.roles v by _ ne ∙ may.here) (get-set_same n.roles v away _ there)
            apart),
      ),
    )
      where
        comes : Role
        comes = record { owns = o; does = Comes }

        stores : Role
        stores = record { owns = o; does = Stored (v ∷ []) }

        taken : Role
        taken = doing (Taken by Normal Asleep)

        shape : record n { roles = slice_set (slice_set (slice_set n.roles by comes) by stores) v taken } ≡ pulling
            (roused n v)
        shape =
            same_mutex _ _ refl
            (ap (λ rs. slice_set rs v taken) (set_twice n.roles by comes stores)
            ∙ sym (ap (λ rs. slice_set rs v taken) (sym (set_apart n.roles by v stores (doing (Seeks true)) not_v))
            ∙ set_twice (slice_set n.roles by stores) v (doing (Seeks true)) taken))
            refl

pub laws : AllRequeuesAreRuns
laws n by o = record {
  locked = requeues by o n;
  unlocked = λ v vs may ne there apart. pulls by o v ne n vs may there
      apart;
}
