-- Why a try at a mutex is refused.
use Rattle.std.proofs.Common.{◌≡◌, ◌≢◌, ℕ, ◌<◌, ◌≤◌, ⊎_elim, true, false, List, [], ◌∷◌, ◌++◌, length, map, Some}
use Rattle.std.proofs.Common.{option_map, slice_get, slice_set, sym, ap, ◌∙◌, subst, inl, inr, arith}
use Rattle.std.proofs.lemmas.Option.{same_Some, slice_get-map}
use Rattle.parking_lot_rules.specs.Roles.{Mark, Normal, Handed}
use Rattle.parking_lot_rules.specs.Mutex.{Idle, Seeks, Unlocks, Stored, Role, Owning, weight, Word, Mutex, IsSound, to}
use Rattle.parking_lot_rules.specs.Mutex.{settle, Step, Alone, Join, Quit, QuitLast, Requeue, Pull, Follow, Take, Free}
use Rattle.parking_lot_rules.specs.Mutex.{Hand, Wake, WakeOwner, Pass, doing, Allowed, after, Runs, unlocked}
use Rattle.parking_lot_rules.specs.Tries.{others_run_there, OwnerOf, IsReachedMutex, RefusedTriesAtAMutexHaveACause}
use Rattle.parking_lot_rules.proofs.Indexed.{get-set_other}
use Rattle.parking_lot_rules.proofs.MutexRuns.{run_sound}
use Rattle.parking_lot_rules.proofs.MutexPaying.{somebody}
use Rattle.parking_lot_rules.proofs.Trying.{refused}

-- a thread that asks is left as it is by steps of others
module _ (u t : ℕ) (m : Mutex) (ne : u ≢ t) (at : slice_get m.roles t ≡ Some (doing (Seeks false))) where
  not_this : (v : ℕ) (x : Role) → slice_get m.roles v ≡ Some x → x.does ≢ Seeks false → v ≢ t
  not_this v x there busy e =
      busy (ap (λ (r : Role). r.does)
      (same_Some x (doing (Seeks false)) (sym there ∙ (ap (λ i. slice_get m.roles i) e ∙ at))))

  told_so : (h : Mark) (y : Role) → slice_get (slice_set (map (settle h) m.roles) u y) t ≡ Some (doing (Seeks false))
  told_so h y = get-set_other (map (settle h) m.roles) u t y ne
      ∙ (slice_get-map (settle h) m.roles t ∙ ap (option_map (settle h)) at)

  left_alone : (step : Step) → Allowed u step m → slice_get (after u step m).roles t ≡ Some (doing (Seeks false))
  left_alone (Alone k) may = get-set_other m.roles u t (to k) ne ∙ at
  left_alone Join may = get-set_other m.roles u t _ ne ∙ at
  left_alone (Quit i) may = get-set_other m.roles u t _ ne ∙ at
  left_alone (QuitLast i) may = get-set_other m.roles u t _ ne ∙ at
  left_alone (Requeue o v) may = get-set_other m.roles v t _ (not_this v _ may.1 (λ e. cc)) ∙ at
  left_alone (Pull o v) may = get-set_other (slice_set m.roles u (record { owns = o; does = Stored (v ∷ []) })) v t _
      (not_this v _ may.1 (λ e. cc)) ∙ get-set_other m.roles u t _ ne ∙ at
  left_alone (Follow o v stay w) may = get-set_other m.roles w t _ (not_this w _ may.2 (λ e. cc)) ∙ at
  left_alone (Take v stay) may = get-set_other (slice_set m.roles u (doing (Unlocks (v ∷ [])))) v t _
      (not_this v _ may.2 (λ e. cc)) ∙ get-set_other m.roles u t _ ne ∙ at
  left_alone (Free us) may = told_so Normal (doing (Stored us))
  left_alone (Hand v) may = told_so Handed (doing (Stored (v ∷ [])))
  left_alone (Wake o v us stay) may = get-set_other (slice_set m.roles v (doing (Seeks true))) u t _ ne
      ∙ get-set_other m.roles v t _ (not_this v _ may.1 (λ e. cc)) ∙ at
  left_alone (WakeOwner o v us stay) may = get-set_other (slice_set m.roles v (record { owns = true; does = Idle })) u t
      _ ne ∙ get-set_other m.roles v t _ (not_this v _ may.1 (λ e. cc)) ∙ at
  left_alone (Pass o ws v us) may = get-set_other m.roles u t _ ne ∙ at

module _ (t : ℕ) where
  abbrev Stands : Mutex → Type 0
  Stands m = IsReachedMutex m × (slice_get m.roles t ≡ Some (doing (Seeks false)))

  longer : (es : List (ℕ × Step)) (x m : Mutex) (u : ℕ) (step : Step) → Runs x es m → Allowed u step m
      → Runs x (es ++ (u, step) ∷ []) (after u step m)
  longer [] x m u step run may = (subst (Allowed u step) run may, ap (after u step) run)
  longer (e ∷ es) x m u step run may = (run.0, longer es (after e.0 e.1 x) m u step run.1 may)

  stands : (es : List (ℕ × Step)) (m n : Mutex) → others_run_there t m es n → Stands m → Stands n
  stands [] m n made holds = subst Stands (sym made.0) holds
  stands (e ∷ es) m n made holds = stands es (after e.0 e.1 m) n (made.0.1, made.1.1) (
    (holds.0.0, holds.0.1 ++ (e.0, e.1) ∷ [], longer holds.0.1 (unlocked holds.0.0) m e.0 e.1 holds.0.2 made.0.0),
    left_alone e.0 t m made.1.0 holds.1 e.1 made.0.0,
  )

  costs : (es : List (ℕ × Step)) (m n : Mutex) → others_run_there t m es n → n.word ≢ m.word → 1 ≤ length es
  costs [] m n made ne = absurd (ne (ap (λ (x : Mutex). x.word) made.0))
  costs (e ∷ es) m n made ne = omega arith

  cause : (m : Mutex) → Stands m → 0 < m.word.locked → OwnerOf m t
  unfolding weight
  cause m holds locked =
      let sound : IsSound m = run_sound holds.0.0 holds.0.1 m holds.0.2 in
      let x = somebody Owning m.roles (omega (arith, locked, sound.fits)) in (
        x.0,
        x.1,
        (λ e. omega (
          arith,
          x.3,
          ap (weight Owning)
              (same_Some x.1 (doing (Seeks false)) (sym x.2 ∙ (ap (λ i. slice_get m.roles i) e ∙ holds.1))),
        )),
        x.2,
        x.3,
      )

pub refused_tries : RefusedTriesAtAMutexHaveACause
refused_tries m t stages reached at r = ⊎_elim
    (λ x. inl (x.0, x.1.0, x.2, cause t x.0 x.1 x.2))
    (λ many. inr many)
    (refused (others_run_there t) (λ (v : Mutex). v.word) (λ (w : Word). 0 < w.locked) (λ es. length es) (Stands t)
    (λ x y es made holds. stands t es x y made holds) (λ x y es made ne. costs t es x y made ne) 64 m stages
    (reached, at) r)
