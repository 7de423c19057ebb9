-- Every step keeps a condition variable sound.
use Rattle.std.proofs.Common.{◌≡◌, ◌≢◌, ℕ, zero, suc, ◌+◌, ◌<◌, ◌≤◌, ◌⊎◌, ⊎_elim, List, [], ◌∷◌, ◌++◌, remove}
use Rattle.std.proofs.Common.{replicate, Option, Some, None, slice_get, slice_set, refl, sym, ap, ◌∙◌, subst, inl, inr}
use Rattle.std.proofs.Common.{arith}
use Rattle.std.proofs.lemmas.List.Sums.{sum_by-cons}
use Rattle.std.proofs.lemmas.Option.{none-some, same_Some}
use Rattle.parking_lot_rules.specs.Roles.{Stay, Back}
use Rattle.parking_lot_rules.specs.Lists.{at_index}
use Rattle.parking_lot_rules.specs.Variable.{Phase, Idle, Checked, Joined, Queued, Leaves, Notifies, Class, Inside}
use Rattle.parking_lot_rules.specs.Variable.{Waiting, Settled, Storing, weight, total, Fits, Agrees, Variable, Sound}
use Rattle.parking_lot_rules.specs.Variable.{IsSound, Plain, Enter, Refuse, Check, Show, Rest, Expire, Reenter, Notify}
use Rattle.parking_lot_rules.specs.Variable.{Forget, Keep, Go, from, to, May, written, Step, Alone, Join, Quit, Release}
use Rattle.parking_lot_rules.specs.Variable.{Allowed, after, quiet}
use Rattle.parking_lot_rules.proofs.Indexed.{get-set_other, get-set_cases, sum_by-set_at}
use Rattle.parking_lot_rules.proofs.Waiting.{lists-same, lists-push, lists-drop}

-- what holds of any phases at all
record Counts (n : Class → ℕ) : Type 0 where
  storing : n Storing ≤ n Inside
  waiting : n Settled ≤ n Waiting
  joined : n Waiting ≤ n Settled + n Storing

counts_one : (p : Phase) → Counts (λ c. weight c p)
unfolding weight
counts_one (Queued k s) = omega arith
counts_one p = omega arith

counts_all : (ps : List Phase) → Counts (λ c. total c ps)
counts_all [] = omega arith
counts_all (p ∷ ps) =
    let one : Counts (λ c. weight c p) = counts_one p in
    let more : Counts (λ c. total c ps) = counts_all ps in
    omega (arith, sum_by-cons {X = Phase}, one, more)

plain_fits : (k : Plain) (w : ℕ) (rest : Class → ℕ) → Counts rest → Fits w (λ c. rest c + weight c (from k))
    → May k w (λ c. rest c + weight c (from k)) → Fits (written k w) (λ c. rest c + weight c (to k))
unfolding weight
plain_fits (Enter k) w rest counts fits may = omega arith
plain_fits (Refuse k) w rest counts fits may = omega arith
plain_fits (Check k) w rest counts fits may = omega arith
plain_fits (Show k) w rest counts fits may = omega arith
plain_fits (Rest k) w rest counts fits may = omega arith
plain_fits (Expire k) w rest counts fits may = omega arith
plain_fits (Reenter k) w rest counts fits may = omega arith
plain_fits Notify w rest counts fits may = omega arith
plain_fits (Forget Leaves) w rest counts fits may = omega arith
plain_fits (Forget Notifies) w rest counts fits may = omega arith
plain_fits (Forget p) w rest counts fits may = absurd (⊎_elim (λ e. cc) (λ e. cc) may.0)
plain_fits (Keep Leaves) w rest counts fits may = omega arith
plain_fits (Keep Notifies) w rest counts fits may = omega arith
plain_fits (Keep p) w rest counts fits may = absurd (⊎_elim (λ e. cc) (λ e. cc) may.0)
plain_fits Go w rest counts fits may = omega arith

idle_weighs : (c : Class) → weight c Idle ≡ 0
unfolding weight
idle_weighs Inside = refl
idle_weighs c = refl

total-set : (ps : List Phase) (t : ℕ) (a b : Phase) → slice_get ps t ≡ Some a → (c : Class)
    → total c (slice_set ps t b) ≡ total c (slice_set ps t Idle) + weight c b
total-set ps t a b at c =
    omega (arith, sum_by-set_at (weight c) ps t a b at, sum_by-set_at (weight c) ps t a Idle at, idle_weighs c)

pub total-at : (ps : List Phase) (t : ℕ) (a : Phase) → slice_get ps t ≡ Some a → (c : Class)
    → total c ps ≡ total c (slice_set ps t Idle) + weight c a
total-at ps t a at c = omega (arith, sum_by-set_at (weight c) ps t a Idle at, idle_weighs c)

same_counts : (P : (Class → ℕ) → Type 0) (m n : Class → ℕ) → ((c : Class) → m c ≡ n c) → P m → P n
same_counts P m n e h = let p : m ≡ n = λ i c. e c i in subst P p h

plain_waits : (k : Plain) (w : ℕ) (all : Class → ℕ) → May k w all → weight Waiting (to k) ≡ weight Waiting (from k)
unfolding weight
plain_waits (Forget Leaves) w all may = refl
plain_waits (Forget Notifies) w all may = refl
plain_waits (Forget p) w all may = absurd (⊎_elim (λ e. cc) (λ e. cc) may.0)
plain_waits (Keep Leaves) w all may = refl
plain_waits (Keep Notifies) w all may = refl
plain_waits (Keep p) w all may = absurd (⊎_elim (λ e. cc) (λ e. cc) may.0)
plain_waits k w all may = refl

module _ (w : ℕ) (ps : List Phase) (q : List ℕ) (sound : Sound w ps q) (t : ℕ) where
  fits-set : (w' : ℕ) (a b : Phase) → slice_get ps t ≡ Some a
      → (Fits w (λ c. total c (slice_set ps t Idle) + weight c a)
      → Fits w' (λ c. total c (slice_set ps t Idle) + weight c b)) → Fits w' (λ c. total c (slice_set ps t b))
  fits-set w' a b at keeps = same_counts (Fits w') _ _ (λ c. sym (total-set ps t a b at c))
      (keeps (same_counts (Fits w) _ _ (total-at ps t a at) sound.fits))

  -- who agreed agrees, where one phase changes
  agrees-set : (w' : ℕ) (a b : Phase) → slice_get ps t ≡ Some a → Agrees w' b
      → ((u : ℕ) (p : Phase) → u ≢ t → slice_get ps u ≡ Some p → Agrees w' p)
      → (u : ℕ) (p : Phase) → slice_get (slice_set ps t b) u ≡ Some p → Agrees w' p
  agrees-set w' a b at mine others u p here = go (get-set_cases ps t u a p b at here)
    where
      go : ((u ≡ t) × (p ≡ b)) ⊎ ((u ≢ t) × (slice_get ps u ≡ Some p)) → Agrees w' p
      go (inl e) = subst (Agrees w') (sym e.1) mine
      go (inr e) = others u p e.0 e.1

  -- another thread counts beside this one
  beside : (c : Class) (a : Phase) (u : ℕ) (p : Phase) → slice_get ps t ≡ Some a → u ≢ t → slice_get ps u ≡ Some p
      → weight c a + weight c p ≤ total c ps
  beside c a u p at ne there =
      omega (
        arith,
        total-at ps t a at c,
        total-at (slice_set ps t Idle) u p (get-set_other ps t u Idle (λ e. ne (sym e)) ∙ there) c,
      )

  -- a word is written by one that is inside: nobody else is, and those in the list agree with it
  agree_after : (w' : ℕ) (a : Phase) → slice_get ps t ≡ Some a → weight Inside a ≡ 1
      → ((k : ℕ) → w ≡ k + 1 → 0 < total Waiting ps → w' ≡ k + 1) → (u : ℕ) (p : Phase) → u ≢ t
      → slice_get ps u ≡ Some p → Agrees w' p
  unfolding weight
  agree_after w' a at within same u (Checked k) ne there =
      absurd (omega (arith, sound.fits, within, beside Inside a u (Checked k) at ne there))
  agree_after w' a at within same u (Joined k) ne there =
      absurd (omega (arith, sound.fits, within, beside Inside a u (Joined k) at ne there))
  agree_after w' a at within same u (Queued k s) ne there = same k (sound.agrees u (Queued k s) there)
      (omega (arith, total-at ps u (Queued k s) there Waiting))
  agree_after w' a at within same u p ne there = tt

  others_agree : (u : ℕ) (p : Phase) → u ≢ t → slice_get ps u ≡ Some p → Agrees w p
  others_agree u p ne there = sound.agrees u p there

  alone_agrees : (k : Plain) → slice_get ps t ≡ Some (from k) → May k w (λ c. total c ps) → (u : ℕ) (p : Phase)
      → slice_get (slice_set ps t (to k)) u ≡ Some p → Agrees (written k w) p
  unfolding weight
  alone_agrees (Enter k) at may = agrees-set w _ _ at tt others_agree
  alone_agrees (Refuse k) at may = agrees-set w _ _ at tt others_agree
  alone_agrees (Check k) at may = agrees-set w _ _ at may others_agree
  alone_agrees (Show k) at may =
      agrees-set (k + 1) _ _ at refl
      (agree_after (k + 1) (Joined k) at refl
      (λ j e some. ⊎_elim (λ none. absurd (omega (arith, e, none))) (λ mine. sym mine ∙ e)
      (sound.agrees t (Joined k) at)))
  alone_agrees (Rest k) at may = agrees-set w _ _ at (sound.agrees t _ at) others_agree
  alone_agrees (Expire k) at may = agrees-set w _ _ at (sound.agrees t _ at) others_agree
  alone_agrees (Reenter k) at may = agrees-set w _ _ at (sound.agrees t _ at) others_agree
  alone_agrees Notify at may = agrees-set w _ _ at tt others_agree
  alone_agrees (Forget Leaves) at may =
      agrees-set 0 _ _ at tt (agree_after 0 Leaves at refl (λ j e some. absurd (omega (arith, some, may.1))))
  alone_agrees (Forget Notifies) at may =
      agrees-set 0 _ _ at tt (agree_after 0 Notifies at refl (λ j e some. absurd (omega (arith, some, may.1))))
  alone_agrees (Forget p) at may = absurd (⊎_elim (λ e. cc) (λ e. cc) may.0)
  alone_agrees (Keep p) at may = agrees-set w _ _ at tt others_agree
  alone_agrees Go at may = agrees-set w _ _ at tt others_agree

  sound_alone : (k : Plain) → slice_get ps t ≡ Some (from k) → May k w (λ c. total c ps)
      → Sound (written k w) (slice_set ps t (to k)) q
  sound_alone k at may = record {
    fits = fits-set (written k w) (from k) (to k) at
        (λ before. plain_fits k w _ (counts_all (slice_set ps t Idle)) before
        (same_counts (May k w) (λ c. total c ps) _ (total-at ps t (from k) at) may));
    waiting = lists-same (weight Waiting) q ps t (from k) (to k) at sound.waiting (plain_waits k w _ may);
    agrees = alone_agrees k at may;
  }

  join_fits : (k : ℕ) → Fits w (λ c. total c (slice_set ps t Idle) + weight c (Checked k))
      → Fits w (λ c. total c (slice_set ps t Idle) + weight c (Joined k))
  unfolding weight
  join_fits k fits = omega arith

  quit_fits : (k : ℕ) → Fits w (λ c. total c (slice_set ps t Idle) + weight c (Queued k Back))
      → Fits w (λ c. total c (slice_set ps t Idle) + weight c Leaves)
  unfolding weight
  quit_fits k fits = omega arith

  sound_join : (k : ℕ) → slice_get ps t ≡ Some (Checked k) → Sound w (slice_set ps t (Joined k)) (q ++ t ∷ [])
  unfolding weight
  sound_join k at = record {
    fits = fits-set w _ _ at (join_fits k);
    waiting = lists-push (weight Waiting) q ps t _ _ at sound.waiting refl refl;
    agrees = agrees-set w _ _ at (sound.agrees t (Checked k) at) others_agree;
  }

  sound_quit : (k i : ℕ) → slice_get ps t ≡ Some (Queued k Back) → slice_get q i ≡ Some t
      → Sound w (slice_set ps t Leaves) (remove q i)
  unfolding weight
  sound_quit k i at stood = record {
    fits = fits-set w _ _ at (quit_fits k);
    waiting = lists-drop (weight Waiting) q ps t _ _ at sound.waiting i stood refl refl;
    agrees = agrees-set w _ _ at tt others_agree;
  }

-- the one that is taken off the list; another is inside, and is to write the word
release_fits : (w : ℕ) (rest : Class → ℕ) (k : ℕ) (stay : Stay) → 0 < rest Storing
    → Fits w (λ c. rest c + weight c (Queued k stay)) → Fits w (λ c. rest c + weight c Idle)
unfolding weight
release_fits w rest k stay some fits = omega arith

sound_release : (w : ℕ) (ps : List Phase) (q : List ℕ) (sound : Sound w ps q) (t u k : ℕ) (stay : Stay)
    → slice_get ps t ≡ Some Notifies → slice_get q 0 ≡ Some u → slice_get ps u ≡ Some (Queued k stay)
    → Sound w (slice_set ps u Idle) (remove q 0)
unfolding weight
sound_release w ps q sound t u k stay at first there =
    let ne : u ≢ t = λ e. (let x = same_Some _ _ (sym there ∙ ap (λ i. slice_get ps i) e ∙ at) in cc) in
    let some : 0 < total Storing (slice_set ps u Idle) =
    omega (arith, total-at (slice_set ps u Idle) t Notifies (get-set_other ps u t Idle ne ∙ at) Storing) in
    record {
      fits = fits-set w ps q sound u w _ _ there (release_fits w _ k stay some);
      waiting = lists-drop (weight Waiting) q ps u _ _ there sound.waiting 0 first refl refl;
      agrees = agrees-set w ps q sound u w _ _ there tt (others_agree w ps q sound u);
    }

pub step_sound : (t : ℕ) (step : Step) (v : Variable) → IsSound v → Allowed t step v → IsSound (after t step v)
step_sound t (Alone k) v sound may = sound_alone v.word v.phases v.queue sound t k may.0 may.1
step_sound t (Join k) v sound may = sound_join v.word v.phases v.queue sound t k may
step_sound t (Quit k i) v sound may = sound_quit v.word v.phases v.queue sound t k i may.0 may.1
step_sound t (Release u k stay) v sound may = sound_release v.word v.phases v.queue sound t u k stay may.0 may.1 may.2

all_idle : (n u : ℕ) (p : Phase) → slice_get (replicate n Idle) u ≡ Some p → p ≡ Idle
all_idle zero u p at = absurd (none-some p at)
all_idle (suc n) zero p at = sym (same_Some Idle p at)
all_idle (suc n) (suc u) p at = all_idle n u p at

idle_total : (c : Class) (n : ℕ) → total c (replicate n Idle) ≡ 0
idle_total c zero = refl
idle_total c (suc n) = omega (arith, sum_by-cons (weight c) Idle (replicate n Idle), idle_weighs c, idle_total c n)

zero_fits : Fits 0 (λ c. 0)
zero_fits = omega arith

pub quiet_sound : (n : ℕ) → IsSound (quiet n)
quiet_sound n = record {
  fits = same_counts (Fits 0) (λ c. 0) _ (λ c. sym (idle_total c n)) zero_fits;
  waiting = record {
    count = sym (idle_total Waiting n);
    each = λ u. sym (none u (slice_get (replicate n Idle) u) refl);
  };
  agrees = λ u p at. subst (Agrees 0) (sym (all_idle n u p at)) tt;
}
  where
    none : (u : ℕ) (o : Option Phase) → slice_get (replicate n Idle) u ≡ o
        → at_index (weight Waiting) (slice_get (replicate n Idle) u) ≡ 0
    none u None e = ap (at_index (weight Waiting)) e
    none u (Some p) e = ap (at_index (weight Waiting)) e
        ∙ (ap (weight Waiting) (all_idle n u p e) ∙ idle_weighs Waiting)
