-- Every step keeps a mutex sound.
use Rattle.std.proofs.Common.{◌≡◌, ◌≢◌, ℕ, zero, suc, ◌+◌, ◌<◌, ◌≤◌, ◌⊎◌, ⊎_elim, Bool, true, List, [], ◌∷◌, ◌++◌, length, map, remove, Option, Some, None, option_map, slice_get, slice_set, refl, sym, ap, ◌∙◌, subst, inl, inr, arith}
use Rattle.std.proofs.lemmas.List.{map-set}
use Rattle.std.proofs.lemmas.List.Sums.{sum_by-cons}
use Rattle.std.proofs.lemmas.Bool.{cases_eq}
use Rattle.std.proofs.lemmas.Option.{none-some, same_Some, slice_get-map}
use Rattle.parking_lot_rules.specs.Roles.{Stay, Fresh, Asleep, Back, Mark, Open, Normal, Handed}
use Rattle.parking_lot_rules.specs.Lists.{occurs, at_index, IsListOf, AreNotedBy}
use Rattle.parking_lot_rules.specs.Classes.{inside}
use Rattle.parking_lot_rules.specs.Mutex.{Phase, Idle, Seeks, Checked, Queued, Taken, Masks, Leaves, Unlocks, Stored, Wakes, Comes, Moves, Role, away, Class, Owning, Inside, Waiting, Masking, Called, Untold, Counted, weight, total, Word, Fits, Counts, phase_note, phase_wakes, note_of, wakes, Mutex, Sound, IsSound, Plain, Begin, Refuse, Lock, Flag, Enter, Check, Retreat, Rest, Expire, ExpireTaken, Reenter, ReenterTaken, Mask, Leave, Resume, Receive, Unlock, Look, Depart, Finish, Come, MarkParked, GoUnmarked, Go, from, to, May, written, are_left, told, settle, Step, Alone, Join, Quit, QuitLast, Requeue, Pull, Follow, Take, Free, Hand, Wake, WakeOwner, Pass, doing, Allowed, after}
use Rattle.parking_lot_rules.proofs.Indexed.{get-set_same, get-set_other, get-set_cases, sum_by-set_at}
use Rattle.parking_lot_rules.proofs.Waiting.{lists-same, lists-push, lists-drop, occurs-cons, occurs-without, counted-same}
use Rattle.parking_lot_rules.proofs.Noting.{noted-set, WillWakeBy}
use Rattle.parking_lot_rules.proofs.Fitting.{zero_or}

plain_fits : (k : Plain) (w : Word) (rest : Class → ℕ) → Counts rest → Fits w (λ x. rest x + weight x (from k)) → May k w (λ x. rest x + weight x (from k)) → Fits (written k w) (λ x. rest x + weight x (to k))
unfolding weight
plain_fits Begin w rest counts fits may = omega arith
plain_fits Refuse w rest counts fits may = omega arith
plain_fits (Lock c) w rest counts fits may = omega arith
plain_fits (Flag c) w rest counts fits may = omega arith
plain_fits (Enter c) w rest counts fits may = omega arith
plain_fits (Check c) w rest counts fits may = omega arith
plain_fits (Retreat c) w rest counts fits may = omega arith
plain_fits Rest w rest counts fits may = omega arith
plain_fits Expire w rest counts fits may = omega arith
plain_fits (ExpireTaken by how) w rest counts fits may = omega arith
plain_fits Reenter w rest counts fits may = omega arith
plain_fits (ReenterTaken by how) w rest counts fits may = omega arith
plain_fits Mask w rest counts fits may = omega arith
plain_fits Leave w rest counts fits may = omega arith
plain_fits (Resume by) w rest counts fits may = omega arith
plain_fits (Receive by) w rest counts fits may = omega arith
plain_fits Unlock w rest counts fits may = omega arith
plain_fits Look w rest counts fits may = omega arith
plain_fits (Depart o us) w rest counts fits may = omega arith
plain_fits (Finish o) w rest counts fits may = omega arith
plain_fits (Come o) w rest counts fits may = omega arith
plain_fits (MarkParked o) w rest counts fits may = omega arith
plain_fits (GoUnmarked o) w rest counts fits may = omega arith
plain_fits (Go o) w rest counts fits may = omega arith

-- what holds of each role, and so of all
counts_parts : (o : Bool) (p : Phase) → Counts (λ c. weight c (record { owns = o; does = p }))
unfolding weight
counts_parts o Idle = omega arith
counts_parts o p = omega arith

counts_all : (rs : List Role) → Counts (λ c. total c rs)
counts_all [] = omega arith
counts_all (r ∷ rs) =
    let one : Counts (λ c. weight c r) = counts_parts r.owns r.does in
    let more : Counts (λ c. total c rs) = counts_all rs in
    record {
      joining = omega (arith, sum_by-cons {X = Role}, one, more);
      none_taken = λ e.
          let a : weight Counted r ≡ 0 = one.none_taken (omega (arith, sum_by-cons (weight Inside) r rs)) in
          let b : total Counted rs ≡ 0 = more.none_taken (omega (arith, sum_by-cons (weight Inside) r rs)) in
          omega (arith, sum_by-cons (weight Counted) r rs);
    }

pub away_weighs : (c : Class) → weight c away ≡ 0
unfolding weight
away_weighs Owning = refl
away_weighs _ = refl

pub total-set : (rs : List Role) (t : ℕ) (a b : Role) → slice_get rs t ≡ Some a → (c : Class) → total c (slice_set rs t b) ≡ total c (slice_set rs t away) + weight c b
total-set rs t a b at c = omega (arith, sum_by-set_at (weight c) rs t a b at, sum_by-set_at (weight c) rs t a away at, away_weighs c)

pub total-at : (rs : List Role) (t : ℕ) (a : Role) → slice_get rs t ≡ Some a → (c : Class) → total c rs ≡ total c (slice_set rs t away) + weight c a
total-at rs t a at c = omega (arith, sum_by-set_at (weight c) rs t a away at, away_weighs c)

pub same_counts : (P : (Class → ℕ) → Type 0) (m n : Class → ℕ) → ((c : Class) → m c ≡ n c) → P m → P n
same_counts P m n e h = let p : m ≡ n = λ i c. e c i in subst P p h

-- the counts once those that were taken are told
abbrev settled : Mark → (Class → ℕ) → Class → ℕ
settled Normal n Called = n Called + n Untold
settled Handed n Owning = n Owning + n Untold
settled Normal n Untold = 0
settled Handed n Untold = 0
settled mark n c = n c

-- what a taker says in the end
data IsSaid : Mark → Type 0 where
  normal : IsSaid Normal
  handed : IsSaid Handed

settle_weighs : (h : Mark) → IsSaid h → (c : Class) (o : Bool) (p : Phase) → weight c (record { owns = o; does = told h p }) ≡ settled h (λ x. weight x (record { owns = o; does = p })) c
unfolding weight
settle_weighs Open said c o p = elim said [ ]
settle_weighs Normal normal Called o (Taken by Open s) = omega arith
settle_weighs Normal normal Called o (Taken by Normal s) = omega arith
settle_weighs Normal normal Called o (Taken by Handed s) = omega arith
settle_weighs Normal normal Called o p = omega arith
settle_weighs Normal normal c o (Taken by Open s) = refl
settle_weighs Normal normal c o (Taken by Normal s) = refl
settle_weighs Normal normal c o (Taken by Handed s) = refl
settle_weighs Normal normal c o p = refl
settle_weighs Handed handed Owning o (Taken by Open s) = omega arith
settle_weighs Handed handed Owning o (Taken by Normal s) = omega arith
settle_weighs Handed handed Owning o (Taken by Handed s) = omega arith
settle_weighs Handed handed Owning o p = omega arith
settle_weighs Handed handed c o (Taken by Open s) = refl
settle_weighs Handed handed c o (Taken by Normal s) = refl
settle_weighs Handed handed c o (Taken by Handed s) = refl
settle_weighs Handed handed c o p = refl

settled_adds : (h : Mark) → IsSaid h → (m n : Class → ℕ) (c : Class) → settled h m c + settled h n c ≡ settled h (λ x. m x + n x) c
settled_adds Open said m n c = elim said [ ]
settled_adds Normal normal m n Called = omega arith
settled_adds Normal normal m n c = omega arith
settled_adds Handed handed m n Owning = omega arith
settled_adds Handed handed m n c = omega arith

total-settle : (h : Mark) → IsSaid h → (rs : List Role) (c : Class) → total c (map (settle h) rs) ≡ settled h (λ x. total x rs) c
total-settle Open said [] c = elim said [ ]
total-settle Normal normal [] Called = refl
total-settle Normal normal [] c = refl
total-settle Handed handed [] Owning = refl
total-settle Handed handed [] c = refl
total-settle h said (r ∷ rs) c =
    same_counts (λ n. total c (map (settle h) (r ∷ rs)) ≡ settled h n c) (λ x. weight x r + total x rs) (λ x. total x (r ∷ rs)) (λ x. sym (sum_by-cons (weight x) r rs))
    (sum_by-cons (weight c) (settle h r) (map (settle h) rs)
    ∙ (ap (λ k. k + total c (map (settle h) rs)) (settle_weighs h said c r.owns r.does)
    ∙ (ap (λ k. settled h (λ x. weight x r) c + k) (total-settle h said rs c) ∙ settled_adds h said (λ x. weight x r) (λ x. total x rs) c)))

stays : (h : Mark) → IsSaid h → (n : Class → ℕ) → settled h n Waiting ≡ n Waiting
stays Open said n = elim said [ ]
stays Normal normal n = refl
stays Handed handed n = refl

waiting-settle : (h : Mark) → IsSaid h → (q : List ℕ) (rs : List Role) → IsListOf (weight Waiting) q rs → IsListOf (weight Waiting) q (map (settle h) rs)
waiting-settle h said q rs lists = record {
  count = lists.count ∙ sym (total-settle h said rs Waiting ∙ stays h said (λ x. total x rs));
  each = λ u. lists.each u ∙ sym (ap (at_index (weight Waiting)) (slice_get-map (settle h) rs u) ∙ one (slice_get rs u));
}
  where
    one : (r : Option Role) → at_index (weight Waiting) (option_map (settle h) r) ≡ at_index (weight Waiting) r
    one None = refl
    one (Some r) = settle_weighs h said Waiting r.owns r.does ∙ stays h said (λ x. weight x r)

one_inside : (rs : List Role) → total Inside rs ≤ 1 → (t u : ℕ) (a b : Role) → slice_get rs t ≡ Some a → slice_get rs u ≡ Some b → weight Inside a ≡ 1 → weight Inside b ≡ 1 → u ≡ t
one_inside rs few t u a b at there wa wb = ⊎_elim
    (λ e. e)
    (λ ne.
    let still : slice_get (slice_set rs t away) u ≡ Some b = get-set_other rs t u away (λ e. ne (sym e)) ∙ there in
    absurd (omega (arith, few, total-at rs t a at Inside, total-at (slice_set rs t away) u b still Inside, wa, wb)))
    (cases_eq u t)

open_inside : (o : Bool) (p : Phase) (u : ℕ) → 0 < occurs u (phase_wakes p Open) → weight Inside (record { owns = o; does = p }) ≡ 1
unfolding weight
open_inside o (Unlocks us) u some = refl
open_inside o p u some = absurd (omega arith)

told_wakes : (h : Mark) (p : Phase) (mark : Mark) → phase_wakes (told h p) mark ≡ phase_wakes p mark
told_wakes h (Taken by Open s) mark = refl
told_wakes h p mark = refl

stored_wakes : (h : Mark) → IsSaid h → (us : List ℕ) → phase_wakes (Stored us) h ≡ us
stored_wakes Open said us = elim said [ ]
stored_wakes Normal normal us = refl
stored_wakes Handed handed us = refl

told_note : (h : Mark) → IsSaid h → (p : Phase) (by : ℕ) (mark : Mark) → phase_note (told h p) ≡ Some (by, mark)
    → ((phase_note p ≡ Some (by, Open)) × (mark ≡ h)) ⊎ ((phase_note p ≡ Some (by, mark)) × ((us : List ℕ) → phase_wakes (Unlocks us) mark ≡ []))
told_note Open said p by mark took = elim said [ ]
told_note Normal normal (Taken b Open Asleep) by mark took =
    let e : (b, Normal) ≡ (by, mark) = same_Some _ _ took in
    inl (ap (λ (x : ℕ × Mark). Some (x.0, Open)) e, sym (ap (λ (x : ℕ × Mark). x.1) e))
told_note Handed handed (Taken b Open Asleep) by mark took =
    let e : (b, Handed) ≡ (by, mark) = same_Some _ _ took in
    inl (ap (λ (x : ℕ × Mark). Some (x.0, Open)) e, sym (ap (λ (x : ℕ × Mark). x.1) e))
told_note h said (Taken b Normal Asleep) by Open took = absurd (let e : Normal ≡ Open = ap (λ (x : ℕ × Mark). x.1) (same_Some _ _ took) in cc)
told_note h said (Taken b Normal Asleep) by Normal took = inr (took, λ us. refl)
told_note h said (Taken b Normal Asleep) by Handed took = inr (took, λ us. refl)
told_note h said (Taken b Handed Asleep) by Open took = absurd (let e : Handed ≡ Open = ap (λ (x : ℕ × Mark). x.1) (same_Some _ _ took) in cc)
told_note h said (Taken b Handed Asleep) by Normal took = inr (took, λ us. refl)
told_note h said (Taken b Handed Asleep) by Handed took = inr (took, λ us. refl)
told_note h said p by mark took = absurd (none-some (by, mark) took)

-- the arithmetic of the other steps
module _ (w : Word) (rest : Class → ℕ) (counts : Counts rest) where
  join_fits : Fits w (λ x. rest x + weight x (doing Checked)) → Fits w (λ x. rest x + weight x (doing (Queued Fresh)))
  unfolding weight
  join_fits fits = omega (arith, zero_or _ fits.debt)

  quit_fits : Fits w (λ x. rest x + weight x (doing (Queued Back))) → 1 < rest Waiting + weight Waiting (doing (Queued Back)) → Fits w (λ x. rest x + weight x (doing Leaves))
  unfolding weight
  quit_fits fits may = omega arith

  quit_last_fits : Fits w (λ x. rest x + weight x (doing (Queued Back))) → rest Waiting + weight Waiting (doing (Queued Back)) ≡ 1 → Fits w (λ x. rest x + weight x (doing Masks))
  unfolding weight
  quit_last_fits fits may = omega arith

  requeue_fits : (o : Bool) → Fits w (λ x. rest x + (weight x (record { owns = o; does = Moves }) + weight x away)) → Fits w (λ x. rest x + (weight x (record { owns = o; does = Moves }) + weight x (doing (Queued Asleep))))
  unfolding weight
  requeue_fits o fits = omega (arith, zero_or _ fits.debt)

  pull_fits : (o : Bool) (v t : ℕ) → Fits w (λ x. rest x + (weight x (record { owns = o; does = Comes }) + weight x away))
      → Fits w (λ x. rest x + (weight x (record { owns = o; does = Stored (v ∷ []) }) + weight x (doing (Taken t Normal Asleep))))
  unfolding weight
  pull_fits o v t fits = omega arith

  follow_fits : rest Masking + 1 ≤ rest Inside → 1 ≤ rest Called → Fits w (λ x. rest x + weight x away) → Fits (record w { parked = 1 }) (λ x. rest x + weight x (doing (Queued Asleep)))
  unfolding weight
  follow_fits some called fits = omega arith

  take_fits : (v t : ℕ) (stay : Stay) → Fits w (λ x. rest x + (weight x (doing (Unlocks [])) + weight x (doing (Queued stay)))) → Fits w (λ x. rest x + (weight x (doing (Unlocks (v ∷ []))) + weight x (doing (Taken t Open stay))))
  unfolding weight
  take_fits v t stay fits = omega arith

  free_fits : (us : List ℕ) (left : ℕ) → left ≡ rest Waiting → (length us ≡ 0 → left ≡ 0) → Fits w (λ x. rest x + weight x (doing (Unlocks us))) → Fits (record { locked = 0; parked = are_left left }) (λ x. settled Normal rest x + weight x (doing (Stored us)))
  unfolding weight
  free_fits us zero same none fits = omega arith
  free_fits [] (suc left) same none fits = absurd (omega (arith, none refl))
  free_fits (v ∷ us) (suc left) same none fits = omega arith

  hand_fits : (v left : ℕ) → left ≡ rest Waiting → Fits w (λ x. rest x + weight x (doing (Unlocks (v ∷ [])))) → Fits (record { locked = 1; parked = are_left left }) (λ x. settled Handed rest x + weight x (doing (Stored (v ∷ []))))
  unfolding weight
  hand_fits v zero same fits = omega arith
  hand_fits v (suc left) same fits = omega arith

  wake_fits : (t : ℕ) (stay : Stay) → inside stay ≡ 0 → Fits w (λ x. rest x + weight x (doing (Taken t Normal stay))) → Fits w (λ x. rest x + weight x (doing (Seeks true)))
  unfolding weight
  wake_fits t stay out fits = omega arith

  wake_owner_fits : (t : ℕ) (stay : Stay) → inside stay ≡ 0 → Fits w (λ x. rest x + weight x (doing (Taken t Handed stay))) → Fits w (λ x. rest x + weight x (record { owns = true; does = Idle }))
  unfolding weight
  wake_owner_fits t stay out fits = omega arith

  pass_fits : (o : Bool) (us vs : List ℕ) → Fits w (λ x. rest x + weight x (record { owns = o; does = Wakes us })) → Fits w (λ x. rest x + weight x (record { owns = o; does = Wakes vs }))
  unfolding weight
  pass_fits o us vs fits = omega arith

same_note : (k : Plain) → (note_of (to k) ≡ None) ⊎ (note_of (to k) ≡ note_of (from k))
same_note (ExpireTaken by Open) = inr refl
same_note (ExpireTaken by Normal) = inl refl
same_note (ExpireTaken by Handed) = inl refl
same_note (ReenterTaken by Open) = inr refl
same_note (ReenterTaken by Normal) = inl refl
same_note (ReenterTaken by Handed) = inl refl
same_note _ = inl refl

same_wakes : (k : Plain) (mark : Mark) → wakes (to k) mark ≡ wakes (from k) mark
same_wakes (Depart o us) Open = refl
same_wakes (Depart o us) Normal = refl
same_wakes (Depart o us) Handed = refl
same_wakes (Finish o) Open = refl
same_wakes (Finish o) Normal = refl
same_wakes (Finish o) Handed = refl
same_wakes Look Open = refl
same_wakes Look Normal = refl
same_wakes Look Handed = refl
same_wakes _ mark = refl

same_waiting : (k : Plain) → weight Waiting (to k) ≡ weight Waiting (from k)
unfolding weight
same_waiting Begin = refl
same_waiting _ = refl

nothing_noted : (b : Role) (P : ℕ → Mark → Type 0) → note_of b ≡ None → (by : ℕ) (mark : Mark) → note_of b ≡ Some (by, mark) → P by mark
nothing_noted b P none by mark took = absurd (none-some (by, mark) (sym none ∙ took))

take_grows : (v u : ℕ) (mark : Mark) → occurs u (phase_wakes (Unlocks []) mark) ≤ occurs u (phase_wakes (Unlocks (v ∷ [])) mark)
take_grows v u Open = omega arith
take_grows v u Normal = omega arith
take_grows v u Handed = omega arith

pass_shrinks : (ws : List ℕ) (v : ℕ) (us : List ℕ) (u : ℕ) (mark : Mark) → u ≢ v → occurs u (phase_wakes (Wakes (ws ++ v ∷ us)) mark) ≤ occurs u (phase_wakes (Wakes (ws ++ us)) mark)
pass_shrinks ws v us u Open ne = omega arith
pass_shrinks ws v us u Normal ne = occurs-without u ws v us ne
pass_shrinks ws v us u Handed ne = occurs-without u ws v us ne

module _ (w : Word) (rs : List Role) (q : List ℕ) (sound : Sound w rs q) (t : ℕ) where
  fits-set : (w' : Word) (a b : Role) → slice_get rs t ≡ Some a
      → (Fits w (λ c. total c (slice_set rs t away) + weight c a) → Fits w' (λ c. total c (slice_set rs t away) + weight c b)) → Fits w' (λ c. total c (slice_set rs t b))
  fits-set w' a b at keeps = same_counts (Fits w') _ _ (λ c. sym (total-set rs t a b at c)) (keeps (same_counts (Fits w) _ _ (total-at rs t a at) sound.fits))

  fits-set2 : (v : ℕ) (a b x y : Role) → slice_get rs t ≡ Some a → slice_get rs v ≡ Some x → t ≢ v
      → (Fits w (λ c. total c (slice_set (slice_set rs t away) v away) + (weight c a + weight c x)) → Fits w (λ c. total c (slice_set (slice_set rs t away) v away) + (weight c b + weight c y)))
      → Fits w (λ c. total c (slice_set (slice_set rs t b) v y))
  fits-set2 v a b x y at there ne keeps =
      let still : slice_get (slice_set rs t b) v ≡ Some x = get-set_other rs t v b ne ∙ there in
      let left : slice_get (slice_set rs t away) v ≡ Some x = get-set_other rs t v away ne ∙ there in
      same_counts (Fits w) _ _
      (λ c. omega (
        arith,
        sum_by-set_at (weight c) rs t a b at,
        sum_by-set_at (weight c) rs t a away at,
        sum_by-set_at (weight c) (slice_set rs t b) v x y still,
        sum_by-set_at (weight c) (slice_set rs t away) v x away left,
        away_weighs c,
      ))
      (keeps (same_counts (Fits w) _ _
      (λ c. omega (arith, sum_by-set_at (weight c) rs t a away at, sum_by-set_at (weight c) (slice_set rs t away) v x away left, away_weighs c)) sound.fits))

  -- a role changes that takes nobody and wakes nobody
  noted-quiet : (a b : Role) → slice_get rs t ≡ Some a → note_of b ≡ None → ((u : ℕ) (mark : Mark) → occurs u (wakes a mark) ≤ occurs u (wakes b mark)) → AreNotedBy note_of wakes (slice_set rs t b)
  noted-quiet a b at none grows = noted-set note_of wakes rs t a b at sound.noted (nothing_noted b (λ by mark. WillWakeBy wakes rs by t mark) none) (λ u r mark here took. grows u mark)

  sound_alone : (k : Plain) → slice_get rs t ≡ Some (from k) → May k w (λ c. total c rs) → Sound (written k w) (slice_set rs t (to k)) q
  sound_alone k at may = record {
    fits = fits-set (written k w) (from k) (to k) at (λ before.
        plain_fits k w (λ c. total c (slice_set rs t away)) (counts_all (slice_set rs t away)) before (same_counts (May k w) (λ c. total c rs) _ (total-at rs t (from k) at) may));
    waiting = lists-same (weight Waiting) q rs t (from k) (to k) at sound.waiting (same_waiting k);
    noted = noted-set note_of wakes rs t (from k) (to k) at sound.noted
        (λ by mark took. ⊎_elim (λ none. absurd (none-some (by, mark) (sym none ∙ took))) (λ same. sound.noted t by (from k) mark at (sym same ∙ took)) (same_note k))
        (λ u r mark here took. omega (arith, ap (λ us. occurs u us) (same_wakes k mark)));
  }

  sound_join : slice_get rs t ≡ Some (doing Checked) → Sound w (slice_set rs t (doing (Queued Fresh))) (q ++ t ∷ [])
  unfolding weight
  sound_join at = record {
    fits = fits-set w _ _ at (join_fits w _ (counts_all (slice_set rs t away)));
    waiting = lists-push (weight Waiting) q rs t _ _ at sound.waiting refl refl;
    noted = noted-quiet _ _ at refl (λ u mark. omega arith);
  }

  sound_quit : (i : ℕ) → slice_get rs t ≡ Some (doing (Queued Back)) → slice_get q i ≡ Some t → 1 < length q → Sound w (slice_set rs t (doing Leaves)) (remove q i)
  unfolding weight
  sound_quit i at stood more = record {
    fits = fits-set w _ _ at (λ before. quit_fits w _ (counts_all (slice_set rs t away)) before (omega (arith, more, sound.waiting.count, total-at rs t _ at Waiting)));
    waiting = lists-drop (weight Waiting) q rs t _ _ at sound.waiting i stood refl refl;
    noted = noted-quiet _ _ at refl (λ u mark. omega arith);
  }

  sound_quit_last : (i : ℕ) → slice_get rs t ≡ Some (doing (Queued Back)) → slice_get q i ≡ Some t → length q ≡ 1 → Sound w (slice_set rs t (doing Masks)) (remove q i)
  unfolding weight
  sound_quit_last i at stood last = record {
    fits = fits-set w _ _ at (λ before. quit_last_fits w _ (counts_all (slice_set rs t away)) before (omega (arith, last, sound.waiting.count, total-at rs t _ at Waiting)));
    waiting = lists-drop (weight Waiting) q rs t _ _ at sound.waiting i stood refl refl;
    noted = noted-quiet _ _ at refl (λ u mark. omega arith);
  }

  -- the thread t, which was taken, is woken
  sound_woken : (x y : Role) → slice_get rs t ≡ Some x → note_of y ≡ None → ((mark : Mark) → wakes x mark ≡ wakes y mark) → weight Waiting y ≡ weight Waiting x
      → (Fits w (λ c. total c (slice_set rs t away) + weight c x) → Fits w (λ c. total c (slice_set rs t away) + weight c y)) → Sound w (slice_set rs t y) q
  sound_woken x y at none same waits keeps = record {
    fits = fits-set w x y at keeps;
    waiting = lists-same (weight Waiting) q rs t x y at sound.waiting waits;
    noted = noted-quiet x y at none (λ u mark. omega (arith, ap (λ us. occurs u us) (same mark)));
  }

  sound_pass : (o : Bool) (ws : List ℕ) (v : ℕ) (us : List ℕ) → slice_get rs t ≡ Some (record { owns = o; does = Wakes (ws ++ v ∷ us) })
      → ((r : Role) (mark : Mark) → slice_get rs v ≡ Some r → note_of r ≢ Some (t, mark)) → Sound w (slice_set rs t (record { owns = o; does = Wakes (ws ++ us) })) q
  unfolding weight
  sound_pass o ws v us at gone = record {
    fits = fits-set w a b at (pass_fits w _ (counts_all (slice_set rs t away)) o (ws ++ v ∷ us) (ws ++ us));
    waiting = lists-same (weight Waiting) q rs t a b at sound.waiting refl;
    noted = noted-set note_of wakes rs t a b at sound.noted (nothing_noted b (λ by mark. WillWakeBy wakes rs by t mark) refl)
        (λ u r mark here took. pass_shrinks ws v us u mark (λ e. still u r mark (get-set_cases rs t u a r b at here) took e));
  }
    where
      a : Role
      a = record { owns = o; does = Wakes (ws ++ v ∷ us) }

      b : Role
      b = record { owns = o; does = Wakes (ws ++ us) }

      still : (u : ℕ) (r : Role) (mark : Mark) → ((u ≡ t) × (r ≡ b)) ⊎ ((u ≢ t) × (slice_get rs u ≡ Some r)) → note_of r ≡ Some (t, mark) → u ≢ v
      still u r mark (inl x) took e = none-some (t, mark) (sym (ap note_of x.1) ∙ took)
      still u r mark (inr x) took e = gone r mark (ap (λ i. slice_get rs i) (sym e) ∙ x.1) took

  sound_requeue : (o : Bool) (v : ℕ) → slice_get rs t ≡ Some (record { owns = o; does = Moves }) → slice_get rs v ≡ Some away → Sound w (slice_set rs v (doing (Queued Asleep))) (q ++ v ∷ [])
  unfolding weight
  sound_requeue o v at there = record {
    fits = same_counts (Fits w) _ _ (λ c. alike c) (fits-set2 v a a away y at there ne (requeue_fits w _ (counts_all (slice_set (slice_set rs t away) v away)) o));
    waiting = lists-push (weight Waiting) q rs v away y there sound.waiting refl refl;
    noted = noted-set note_of wakes rs v away y there sound.noted (nothing_noted y (λ by mark. WillWakeBy wakes rs by v mark) refl) (λ u r mark here took. omega arith);
  }
    where
      a : Role
      a = record { owns = o; does = Moves }

      y : Role
      y = doing (Queued Asleep)

      ne : t ≢ v
      ne e = let same : a ≡ away = same_Some a away (sym at ∙ ap (λ j. slice_get rs j) e ∙ there) in let phases = ap (λ (r : Role). r.does) same in cc

      alike : (c : Class) → total c (slice_set (slice_set rs t a) v y) ≡ total c (slice_set rs v y)
      alike c = omega (arith, sum_by-set_at (weight c) (slice_set rs t a) v away y (get-set_other rs t v a ne ∙ there), sum_by-set_at (weight c) rs v away y there, sum_by-set_at (weight c) rs t a a at)

  sound_pull : (o : Bool) (v : ℕ) → slice_get rs t ≡ Some (record { owns = o; does = Comes }) → slice_get rs v ≡ Some away
      → Sound w (slice_set (slice_set rs t (record { owns = o; does = Stored (v ∷ []) })) v (doing (Taken t Normal Asleep))) q
  unfolding weight
  sound_pull o v at there = record {
    fits = fits-set2 v a b away y at there ne (pull_fits w _ (counts_all (slice_set (slice_set rs t away) v away)) o v t);
    waiting = lists-same (weight Waiting) q (slice_set rs t b) v away y still (lists-same (weight Waiting) q rs t a b at sound.waiting refl) refl;
    noted = noted-set note_of wakes (slice_set rs t b) v away y still
        (noted-set note_of wakes rs t a b at sound.noted (nothing_noted b (λ by mark. WillWakeBy wakes rs by t mark) refl) (λ u r mark here took. omega arith))
        (λ by mark took.
        let e : (t, Normal) ≡ (by, mark) = same_Some _ _ took in
        subst (λ (z : ℕ × Mark). WillWakeBy wakes (slice_set rs t b) z.0 v z.1) e (b, get-set_same rs t a b at, omega (arith, occurs-cons v v [], counted-same v)))
        (λ u r mark here took. omega arith);
  }
    where
      a : Role
      a = record { owns = o; does = Comes }

      b : Role
      b = record { owns = o; does = Stored (v ∷ []) }

      y : Role
      y = doing (Taken t Normal Asleep)

      ne : t ≢ v
      ne e = let same : a ≡ away = same_Some a away (sym at ∙ ap (λ j. slice_get rs j) e ∙ there) in let phases = ap (λ (r : Role). r.does) same in cc

      still : slice_get (slice_set rs t b) v ≡ Some away
      still = get-set_other rs t v b ne ∙ there

  -- the thread that is inside, the one that it is to wake, and the one that is moved
  sound_follow : (o : Bool) (v : ℕ) (stay : Stay) (x : ℕ) → slice_get rs t ≡ Some (record { owns = o; does = Stored (v ∷ []) }) → slice_get rs v ≡ Some (doing (Taken t Normal stay)) → slice_get rs x ≡ Some away
      → Sound (record w { parked = 1 }) (slice_set rs x (doing (Queued Asleep))) (q ++ x ∷ [])
  unfolding weight
  sound_follow o v stay x at called there = record {
    fits = same_counts (Fits (record w { parked = 1 })) _ _ (λ c. sym (total-set rs x away y there c))
        (follow_fits w (λ c. total c (slice_set rs x away)) (counts_all (slice_set rs x away)) some_inside some_called (same_counts (Fits w) _ _ (total-at rs x away there) sound.fits));
    waiting = lists-push (weight Waiting) q rs x away y there sound.waiting refl refl;
    noted = noted-set note_of wakes rs x away y there sound.noted (nothing_noted y (λ by mark. WillWakeBy wakes rs by x mark) refl) (λ u r mark here took. omega arith);
  }
    where
      a : Role
      a = record { owns = o; does = Stored (v ∷ []) }

      c : Role
      c = doing (Taken t Normal stay)

      y : Role
      y = doing (Queued Asleep)

      apart : (j : ℕ) (r : Role) → slice_get rs j ≡ Some r → (r.does ≡ Idle → ⊥) → x ≢ j
      apart j r here busy e = busy (ap (λ (z : Role). z.does) (sym (same_Some away r (sym there ∙ ap (λ i. slice_get rs i) e ∙ here))))

      still : slice_get (slice_set rs x away) t ≡ Some a
      still = get-set_other rs x t away (apart t a at (λ e. cc)) ∙ at

      some_inside : total Masking (slice_set rs x away) + 1 ≤ total Inside (slice_set rs x away)
      some_inside = omega (arith, counts_all (slice_set (slice_set rs x away) t away), total-at (slice_set rs x away) t a still Inside, total-at (slice_set rs x away) t a still Masking)

      some_called : 1 ≤ total Called (slice_set rs x away)
      some_called = omega (arith, total-at (slice_set rs x away) v c (get-set_other rs x v away (apart v c called (λ e. cc)) ∙ called) Called)

  sound_take : (v : ℕ) (stay : Stay) → slice_get rs t ≡ Some (doing (Unlocks [])) → slice_get q 0 ≡ Some v → slice_get rs v ≡ Some (doing (Queued stay))
      → Sound w (slice_set (slice_set rs t (doing (Unlocks (v ∷ [])))) v (doing (Taken t Open stay))) (remove q 0)
  unfolding weight
  sound_take v stay at first there = record {
    fits = fits-set2 v a b x y at there ne (take_fits w _ (counts_all (slice_set (slice_set rs t away) v away)) v t stay);
    waiting = lists-drop (weight Waiting) q (slice_set rs t b) v x y still (lists-same (weight Waiting) q rs t a b at sound.waiting refl) 0 first refl refl;
    noted = noted-set note_of wakes (slice_set rs t b) v x y still
        (noted-set note_of wakes rs t a b at sound.noted (nothing_noted b (λ by mark. WillWakeBy wakes rs by t mark) refl) (λ u r mark here took. take_grows v u mark))
        (λ by mark took.
        let e : (t, Open) ≡ (by, mark) = same_Some _ _ took in
        subst (λ (z : ℕ × Mark). WillWakeBy wakes (slice_set rs t b) z.0 v z.1) e (b, get-set_same rs t a b at, omega (arith, occurs-cons v v [], counted-same v)))
        (λ u r mark here took. omega arith);
  }
    where
      a : Role
      a = doing (Unlocks [])

      b : Role
      b = doing (Unlocks (v ∷ []))

      x : Role
      x = doing (Queued stay)

      y : Role
      y = doing (Taken t Open stay)

      ne : t ≢ v
      ne e = let same : a ≡ x = same_Some a x (sym at ∙ ap (λ j. slice_get rs j) e ∙ there) in let phases = ap (λ (r : Role). r.does) same in cc

      still : slice_get (slice_set rs t b) v ≡ Some x
      still = get-set_other rs t v b ne ∙ there

  sound_store : (h : Mark) (said : IsSaid h) (w' : Word) (us : List ℕ) → slice_get rs t ≡ Some (doing (Unlocks us))
      → (Fits w (λ c. total c (slice_set rs t away) + weight c (doing (Unlocks us))) → Fits w' (λ c. settled h (λ x. total x (slice_set rs t away)) c + weight c (doing (Stored us))))
      → Sound w' (slice_set (map (settle h) rs) t (doing (Stored us))) q
  unfolding weight
  sound_store h said w' us at keeps = record {
    fits = same_counts (Fits w') _ _ counted (keeps (same_counts (Fits w) _ _ (total-at rs t a at) sound.fits));
    waiting = lists-same (weight Waiting) q told_roles t a b at_told (waiting-settle h said q rs sound.waiting) refl;
    noted = λ u by r mark here took. noted u by r mark (get-set_cases told_roles t u a r b at_told here) took;
  }
    where
      a : Role
      a = doing (Unlocks us)

      b : Role
      b = doing (Stored us)

      told_roles : List Role
      told_roles = map (settle h) rs

      at_told : slice_get told_roles t ≡ Some a
      at_told = slice_get-map (settle h) rs t ∙ ap (option_map (settle h)) at

      counted : (c : Class) → settled h (λ x. total x (slice_set rs t away)) c + weight c b ≡ total c (slice_set told_roles t b)
      counted c = sym (total-set told_roles t a b at_told c ∙ ap (λ k. k + weight c b) (sym (ap (total c) (map-set (settle h) rs t away)) ∙ total-settle h said (slice_set rs t away) c))

      only : (u by : ℕ) (p : Role) → slice_get rs by ≡ Some p → 0 < occurs u (wakes p Open) → (by ≡ t) × (p ≡ a)
      only u by p there some =
          let same : by ≡ t = one_inside rs sound.fits.inside t by a p at there refl (open_inside p.owns p.does u some) in
          (same, same_Some p a (sym there ∙ ap (λ i. slice_get rs i) same ∙ at))

      kept : (u by : ℕ) (mark : Mark) → WillWakeBy wakes rs by u mark → by ≢ t → WillWakeBy wakes (slice_set told_roles t b) by u mark
      kept u by mark p ne = (
        settle h p.0,
        get-set_other told_roles t by b (λ x. ne (sym x)) ∙ slice_get-map (settle h) rs by ∙ ap (option_map (settle h)) p.1,
        subst (λ vs. 0 < occurs u vs) (sym (told_wakes h p.0.does mark)) p.2,
      )

      later : (u by : ℕ) (x : Role) (mark : Mark) → slice_get rs u ≡ Some x → ((note_of x ≡ Some (by, Open)) × (mark ≡ h)) ⊎ ((note_of x ≡ Some (by, mark)) × ((vs : List ℕ) → phase_wakes (Unlocks vs) mark ≡ []))
          → WillWakeBy wakes (slice_set told_roles t b) by u mark
      later u by x mark there (inl told_now) =
          let p = sound.noted u by x Open there told_now.0 in
          let same = only u by p.0 p.1 p.2 in
          let some : 0 < occurs u us = subst (λ (r : Role). 0 < occurs u (wakes r Open)) same.1 p.2 in (
            b,
            ap (λ i. slice_get (slice_set told_roles t b) i) same.0 ∙ get-set_same told_roles t a b at_told,
            subst (λ (n : Mark). 0 < occurs u (phase_wakes (Stored us) n)) (sym told_now.1) (subst (λ vs. 0 < occurs u vs) (sym (stored_wakes h said us)) some),
          )
      later u by x mark there (inr told_before) =
          let p = sound.noted u by x mark there told_before.0 in
          kept u by mark p (λ same.
          let is_a : p.0 ≡ a = same_Some p.0 a (sym p.1 ∙ ap (λ i. slice_get rs i) same ∙ at) in
          let some : 0 < occurs u (wakes a mark) = subst (λ (r : Role). 0 < occurs u (wakes r mark)) is_a p.2 in
          omega (arith, some, ap (λ vs. occurs u vs) (told_before.1 us)))

      noted : (u by : ℕ) (r : Role) (mark : Mark) → ((u ≡ t) × (r ≡ b)) ⊎ ((u ≢ t) × (slice_get told_roles u ≡ Some r)) → note_of r ≡ Some (by, mark) → WillWakeBy wakes (slice_set told_roles t b) by u mark
      noted u by r mark (inl x) took = absurd (none-some (by, mark) (sym (ap note_of x.1) ∙ took))
      noted u by r mark (inr x) took =
          let was = before (slice_get rs u) refl in
          later u by was.0 mark was.1 (told_note h said was.0.does by mark (ap note_of (sym was.2) ∙ took))
        where
          before : (o : Option Role) → slice_get rs u ≡ o → (y : Role) × (slice_get rs u ≡ Some y) × (r ≡ settle h y)
          before None y = absurd (none-some r (sym (slice_get-map (settle h) rs u ∙ ap (option_map (settle h)) y) ∙ x.1))
          before (Some y) e = (y, e, same_Some r (settle h y) (sym x.1 ∙ (slice_get-map (settle h) rs u ∙ ap (option_map (settle h)) e)))

left : (t : ℕ) (m : Mutex) → IsSound m → (us : List ℕ) → slice_get m.roles t ≡ Some (doing (Unlocks us)) → length m.queue ≡ total Waiting (slice_set m.roles t away)
unfolding weight
left t m sound us at = omega (arith, sound.waiting.count, total-at m.roles t (doing (Unlocks us)) at Waiting)

none_left : (us q : List ℕ) → (us ≡ [] → q ≡ []) → length us ≡ 0 → length q ≡ 0
none_left [] q h e = ap (λ x. length x) (h refl)
none_left (u ∷ us) q h e = absurd (omega (arith, e))

waits_same : (h : Mark) (y : Role) (stay : Stay) (t : ℕ) → weight Waiting y ≡ 0 → weight Waiting y ≡ weight Waiting (doing (Taken t h stay))
unfolding weight
waits_same h y stay t e = e

seeks_waits : weight Waiting (doing (Seeks true)) ≡ 0
unfolding weight
seeks_waits = refl

owner_waits : weight Waiting (record { owns = true; does = Idle }) ≡ 0
unfolding weight
owner_waits = refl

-- a thread is woken, and taken off the list of those to wake
woken : (t : ℕ) (m : Mutex) → IsSound m → (o : Bool) (v : ℕ) (us : List ℕ) (x y : Role) → slice_get m.roles t ≡ Some (record { owns = o; does = Wakes (v ∷ us) }) → slice_get m.roles v ≡ Some x
    → Wakes (v ∷ us) ≢ x.does → note_of y ≡ None → ((mark : Mark) → wakes x mark ≡ wakes y mark) → weight Waiting y ≡ weight Waiting x
    → (Fits m.word (λ c. total c (slice_set m.roles v away) + weight c x) → Fits m.word (λ c. total c (slice_set m.roles v away) + weight c y))
    → Sound m.word (slice_set (slice_set m.roles v y) t (record { owns = o; does = Wakes us })) m.queue
woken t m sound o v us x y at there apart none same waits keeps =
    let mid = sound_woken m.word m.roles m.queue sound v x y there none same waits keeps in
    sound_pass m.word (slice_set m.roles v y) m.queue mid t o [] v us
    (get-set_other m.roles v t y (λ e. apart (ap (λ (r : Role). r.does) (same_Some _ x (sym at ∙ ap (λ i. slice_get m.roles i) (sym e) ∙ there)))) ∙ at)
    (λ r mark here took. none-some (t, mark) (sym none ∙ ap note_of (same_Some y r (sym (get-set_same m.roles v x y there) ∙ here)) ∙ took))

-- every step keeps a mutex sound
pub step_sound : (t : ℕ) (step : Step) (m : Mutex) → IsSound m → Allowed t step m → IsSound (after t step m)
step_sound t (Alone k) m sound may = sound_alone m.word m.roles m.queue sound t k may.0 may.1
step_sound t Join m sound may = sound_join m.word m.roles m.queue sound t may
step_sound t (Quit i) m sound may = sound_quit m.word m.roles m.queue sound t i may.0 may.1 may.2
step_sound t (QuitLast i) m sound may = sound_quit_last m.word m.roles m.queue sound t i may.0 may.1 may.2
step_sound t (Requeue o v) m sound may = sound_requeue m.word m.roles m.queue sound t o v may.0 may.1
step_sound t (Pull o v) m sound may = sound_pull m.word m.roles m.queue sound t o v may.0 may.1
step_sound t (Follow o v stay w) m sound may = sound_follow m.word m.roles m.queue sound t o v stay w may.0 may.1 may.2
step_sound t (Take v stay) m sound may = sound_take m.word m.roles m.queue sound t v stay may.0 may.1 may.2
step_sound t (Free us) m sound may =
    sound_store m.word m.roles m.queue sound t Normal normal _ us may.0
    (free_fits m.word (λ x. total x (slice_set m.roles t away)) (counts_all (slice_set m.roles t away)) us (length m.queue) (left t m sound us may.0) (none_left us m.queue may.1))
step_sound t (Hand v) m sound may =
    sound_store m.word m.roles m.queue sound t Handed handed _ (v ∷ []) may
    (hand_fits m.word (λ x. total x (slice_set m.roles t away)) (counts_all (slice_set m.roles t away)) v (length m.queue) (left t m sound (v ∷ []) may))
step_sound t (Wake o v us stay) m sound may = woken t m sound o v us (doing (Taken t Normal stay)) (doing (Seeks true)) may.0 may.1 (λ e. cc) refl (λ mark. refl) (waits_same Normal (doing (Seeks true)) stay t seeks_waits)
    (wake_fits m.word (λ x. total x (slice_set m.roles v away)) (counts_all (slice_set m.roles v away)) t stay may.2)
step_sound t (WakeOwner o v us stay) m sound may = woken t m sound o v us (doing (Taken t Handed stay)) (record { owns = true; does = Idle }) may.0 may.1 (λ e. cc) refl (λ mark. refl) (waits_same Handed (record { owns = true; does = Idle }) stay t owner_waits)
    (wake_owner_fits m.word (λ x. total x (slice_set m.roles v away)) (counts_all (slice_set m.roles v away)) t stay may.2)
step_sound t (Pass o ws v us) m sound may = sound_pass m.word m.roles m.queue sound t o ws v us may.0 may.1
