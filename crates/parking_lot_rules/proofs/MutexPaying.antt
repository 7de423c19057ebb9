-- The debts at a mutex: where they begin and end, and that they are paid and passed on.
use Rattle.std.proofs.Common.{◌≡◌, ◌≢◌, ℕ, suc, ◌+◌, ◌<◌, ◌⊎◌, ⊎_elim, Bool, true, false, ◌||◌, IsTrue, List, [], ◌∷◌}
use Rattle.std.proofs.Common.{◌++◌, length, map, Option, Some, None, option_map, slice_get, slice_set, refl, sym, ap}
use Rattle.std.proofs.Common.{◌∙◌, subst, inl, inr, arith}
use Rattle.std.proofs.lemmas.Bool.{cases_eq}
use Rattle.std.proofs.lemmas.List.Sums.{sum_by-cons}
use Rattle.std.proofs.lemmas.Option.{same_Some, slice_get-map}
use Rattle.parking_lot_rules.specs.Roles.{Fresh, Asleep, Late, Back, Mark, Open, Normal, Handed}
use Rattle.parking_lot_rules.specs.Classes.{bit}
use Rattle.parking_lot_rules.specs.Lists.{occurs, at_index}
use Rattle.parking_lot_rules.specs.Mutex.{Phase, Idle, Seeks, Enters, Queued, Taken, Masks, Leaves, Unlocks, Stored}
use Rattle.parking_lot_rules.specs.Mutex.{Wakes, Role, away, Class, Owning, Waiting, Called, Strange, weight, total}
use Rattle.parking_lot_rules.specs.Mutex.{Word, Fits, phase_note, phase_wakes, Mutex, IsSound, Plain, Begin}
use Rattle.parking_lot_rules.specs.Mutex.{ExpireTaken, ReenterTaken, Depart, from, to, May, told, settle, Step, Alone}
use Rattle.parking_lot_rules.specs.Mutex.{Join, Quit, QuitLast, Requeue, Pull, Follow, Take, Free, Hand, Wake}
use Rattle.parking_lot_rules.specs.Mutex.{WakeOwner, Pass, doing, Allowed, after}
use Rattle.parking_lot_rules.specs.MutexLaws.{is_asleep}
use Rattle.parking_lot_rules.specs.Debts.{is_up, DebtChange, Begins, Ends, Remains, turned, begins_if, ends_without}
use Rattle.parking_lot_rules.specs.Debts.{where_same}
use Rattle.parking_lot_rules.specs.MutexDebts.{owes_section, still_tries, retries, is_in_debt, debts, owing, retrying}
use Rattle.parking_lot_rules.specs.MutexDebts.{handing, retrying_other, SomebodyIsInDebt, SomebodyOwns}
use Rattle.parking_lot_rules.specs.MutexDebts.{MutexDebtsArePaid, MutexDebtsAreBooked, ThroughoutMutex}
use Rattle.parking_lot_rules.proofs.Indexed.{get-set_same, get-set_other, sum_by-set_at, two_apart}
use Rattle.parking_lot_rules.proofs.Finding.{none_or}
use Rattle.parking_lot_rules.proofs.Indebted.{late, back, taken_up, out_of_it, where-same, where-other}
use Rattle.parking_lot_rules.proofs.Paying.{passing-at}
use Rattle.parking_lot_rules.proofs.MutexRuns.{run_sound}
use Rattle.parking_lot_rules.proofs.Mutexes.{total-at, total-set, same_counts}

plain_owes : (k : Plain) → owes_section (to k).does ≡ turned (owing (Alone k)) (owes_section (from k).does)
plain_owes (Depart o []) = refl
plain_owes (Depart o (v ∷ us)) = refl
plain_owes k = refl

plain_retries : (k : Plain) → retries (to k).does ≡ turned (retrying (Alone k)) (retries (from k).does)
plain_retries (ExpireTaken by how) = late (still_tries how)
plain_retries (ReenterTaken by how) = back (still_tries how)
plain_retries k = refl

wakes_owe : (v : ℕ) (us : List ℕ) → owes_section (Wakes us) ≡ turned (ends_without us) (owes_section (Wakes (v ∷ us)))
wakes_owe v [] = refl
wakes_owe v (x ∷ us) = refl

pass_owes : (ws : List ℕ) (v : ℕ) (us : List ℕ) → owes_section (Wakes (ws ++ us)) ≡ turned (ends_without (ws ++ us))
    (owes_section (Wakes (ws ++ v ∷ us)))
pass_owes [] v us = wakes_owe v us
pass_owes (w ∷ ws) v us = refl

told_owes : (h : Mark) (p : Phase) → owes_section (told h p) ≡ owes_section p
told_owes h (Taken by Open s) = refl
told_owes h p = refl

told_retries : (p : Phase) → retries (told Normal p) ≡ retries p
told_retries (Taken by Open s) = refl
told_retries p = refl

handed_retries : (p : Phase) → retries (told Handed p) ≡ turned (handing p) (retries p)
handed_retries (Taken by Open s) = refl
handed_retries (Taken by Normal s) = refl
handed_retries (Taken by Handed s) = refl
handed_retries p = refl

abbrev Both : DebtChange → DebtChange → Role → Role → Type 0
Both owes tries a b = (owes_section b.does ≡ turned owes (owes_section a.does))
    × (retries b.does ≡ turned tries (retries a.does))

unmoved : (turn : DebtChange) (a b : Role) → turn ≡ Remains → a ≡ b → Both Remains turn a b
unmoved turn a b still same = (
  ap (λ (r : Role). owes_section r.does) (sym same),
  ap (λ (r : Role). retries r.does) (sym same)
      ∙ ap (λ k. turned k (retries a.does)) (sym still),
)

module _ (t : ℕ) (m : Mutex) where
  -- the role of thread i after the one write, or the two
  now : (rs : List Role) (i : ℕ) (x y b : Role) → slice_get rs i ≡ Some x → slice_get (slice_set rs i y) i ≡ Some b
      → y ≡ b
  now rs i x y b at there = same_Some y b (sym (get-set_same rs i x y at) ∙ there)

  first_now : (i j : ℕ) (x y z b : Role) → i ≢ j → slice_get m.roles i ≡ Some x
      → slice_get (slice_set (slice_set m.roles i y) j z) i ≡ Some b → y ≡ b
  first_now i j x y z b ne at there =
      now m.roles i x y b at (sym (get-set_other (slice_set m.roles i y) j i z (λ e. ne (sym e))) ∙ there)

  second_now : (i j : ℕ) (x y z b : Role) → i ≢ j → slice_get m.roles j ≡ Some x
      → slice_get (slice_set (slice_set m.roles i y) j z) j ≡ Some b → z ≡ b
  second_now i j x y z b ne at there = now (slice_set m.roles i y) j x z b (get-set_other m.roles i j y ne ∙ at) there

  neither : (i j u : ℕ) (x y a b : Role) → u ≢ i → u ≢ j → slice_get m.roles u ≡ Some a
      → slice_get (slice_set (slice_set m.roles i x) j y) u ≡ Some b → a ≡ b
  neither i j u x y a b ni nj here there =
      same_Some a b (sym here
      ∙ sym (get-set_other (slice_set m.roles i x) j u y (λ e. nj (sym e))
      ∙ get-set_other m.roles i u x (λ e. ni (sym e))) ∙ there)

  not_one : (i u : ℕ) (x a b : Role) → u ≢ i → slice_get m.roles u ≡ Some a → slice_get (slice_set m.roles i x) u ≡ Some
      b → a ≡ b
  not_one i u x a b ni here there =
      same_Some a b (sym here ∙ sym (get-set_other m.roles i u x (λ e. ni (sym e))) ∙ there)

  moved : (owes tries : DebtChange) (x y a b : Role) → slice_get m.roles t ≡ Some x → slice_get m.roles t ≡ Some a
      → y ≡ b → Both owes tries x y → Both owes tries a b
  moved owes tries x y a b at here e h = subst (λ (r : Role). Both owes tries r b) (same_Some x a (sym at ∙ here))
      (subst (λ (r : Role). Both owes tries x r) e h)

  told_now : (h : Mark) (x y b : Role) → slice_get m.roles t ≡ Some x
      → slice_get (slice_set (map (settle h) m.roles) t y) t ≡ Some b → y ≡ b
  told_now h x y b at there = now (map (settle h) m.roles) t (settle h x) y b
      (slice_get-map (settle h) m.roles t ∙ ap (option_map (settle h)) at) there

  mover_booked : (step : Step) → Allowed t step m → (a b : Role) → slice_get m.roles t ≡ Some a
      → slice_get (after t step m).roles t ≡ Some b → Both (owing step) (retrying step) a b
  mover_booked (Alone k) may a b here there = moved (owing (Alone k)) (retrying (Alone k)) (from k) (to k) a b may.0
      here (now m.roles t (from k) (to k) b may.0 there) (plain_owes k, plain_retries k)
  mover_booked Join may a b here there = moved Remains Remains _ _ a b may here (now m.roles t _ _ b may there)
      (refl, refl)
  mover_booked (Quit i) may a b here there = moved Remains Remains _ _ a b may.0 here (now m.roles t _ _ b may.0 there)
      (refl, refl)
  mover_booked (QuitLast i) may a b here there = moved Remains Remains _ _ a b may.0 here
      (now m.roles t _ _ b may.0 there) (refl, refl)
  mover_booked (Requeue o v) may a b here there =
      unmoved Remains a b refl
      (not_one v t (doing (Queued Asleep)) a b (two_apart (λ (r : Role). r.does) m.roles t v _ _ may.0 may.1 (λ e. cc))
      here there)
  mover_booked (Pull o v) may a b here there = moved Remains Remains _ _ a b may.0 here
      (first_now t v _ _ _ b (two_apart (λ (r : Role). r.does) m.roles t v _ _ may.0 may.1 (λ e. cc)) may.0 there)
      (refl, refl)
  mover_booked (Follow o v stay w) may a b here there =
      unmoved Remains a b refl
      (not_one w t (doing (Queued Asleep)) a b (two_apart (λ (r : Role). r.does) m.roles t w _ _ may.0 may.2 (λ e. cc))
      here there)
  mover_booked (Take v stay) may a b here there = moved Remains Remains _ _ a b may.0 here
      (first_now t v _ _ _ b (two_apart (λ (r : Role). r.does) m.roles t v _ _ may.0 may.2 (λ e. cc)) may.0 there)
      (refl, refl)
  mover_booked (Free us) may a b here there = moved Remains Remains _ _ a b may.0 here
      (told_now Normal _ _ b may.0 there) (refl, refl)
  mover_booked (Hand v) may a b here there = moved Remains Remains _ _ a b may here (told_now Handed _ _ b may there)
      (refl, refl)
  mover_booked (Wake o v us stay) may a b here there =
      moved (ends_without us) Remains _ _ a b may.0 here
      (second_now v t _ _ _ b (λ e. two_apart (λ (r : Role). r.does) m.roles t v _ _ may.0 may.1 (λ x. cc) (sym e))
      may.0 there) (wakes_owe v us, refl)
  mover_booked (WakeOwner o v us stay) may a b here there =
      moved (ends_without us) Remains _ _ a b may.0 here
      (second_now v t _ _ _ b (λ e. two_apart (λ (r : Role). r.does) m.roles t v _ _ may.0 may.1 (λ x. cc) (sym e))
      may.0 there) (wakes_owe v us, refl)
  mover_booked (Pass o ws v us) may a b here there = moved (ends_without (ws ++ us)) Remains _ _ a b may.0 here
      (now m.roles t _ _ b may.0 there) (pass_owes ws v us, refl)

  -- one thread beside the mover changes
  other : (rs : List Role) (v : ℕ) (turn : DebtChange) (x y : Role) → slice_get m.roles v ≡ Some x
      → (u : ℕ) (a b : Role) → slice_get m.roles u ≡ Some a → slice_get rs u ≡ Some b
      → (slice_get rs v ≡ Some b → y ≡ b) → (u ≢ v → a ≡ b) → Both Remains turn x y
      → Both Remains (where_same u v turn) a b
  other rs v turn x y at u a b here there changed kept h = ⊎_elim
      (λ e.
      let was : x ≡ a = same_Some x a (sym at ∙ ap (λ j. slice_get m.roles j) (sym e) ∙ here) in
      let is : y ≡ b = changed (ap (λ j. slice_get rs j) (sym e) ∙ there) in
      subst (λ (r : Role). Both Remains (where_same u v turn) r b) was
      (subst (λ (r : Role). Both Remains (where_same u v turn) x r) is
      (subst (λ k. Both Remains k x y) (sym (where-same u v turn e)) h)))
      (λ ne. unmoved (where_same u v turn) a b (where-other u v turn ne) (kept ne))
      (cases_eq u v)

  -- and to no effect
  still : (rs : List Role) (v : ℕ) (x y : Role) → slice_get m.roles v ≡ Some x → (u : ℕ) (a b : Role)
      → slice_get m.roles u ≡ Some a → slice_get rs u ≡ Some b
      → (slice_get rs v ≡ Some b → y ≡ b) → (u ≢ v → a ≡ b) → Both Remains Remains x y → Both Remains Remains a b
  still rs v x y at u a b here there changed kept h = ⊎_elim
      (λ e.
      let was : x ≡ a = same_Some x a (sym at ∙ ap (λ j. slice_get m.roles j) (sym e) ∙ here) in
      let is : y ≡ b = changed (ap (λ j. slice_get rs j) (sym e) ∙ there) in
      subst (λ (r : Role). Both Remains Remains r b) was (subst (λ (r : Role). Both Remains Remains x r) is h))
      (λ ne. unmoved Remains a b refl (kept ne))
      (cases_eq u v)

  told_other : (h : Mark) (y : Role) (u : ℕ) (a b : Role) → u ≢ t → slice_get m.roles u ≡ Some a
      → slice_get (slice_set (map (settle h) m.roles) t y) u ≡ Some b → settle h a ≡ b
  told_other h y u a b ne here there =
      same_Some _ b (sym
      (get-set_other (map (settle h) m.roles) t u y (λ x. ne (sym x)) ∙ slice_get-map (settle h) m.roles u
      ∙ ap (option_map (settle h)) here) ∙ there)

  others_booked : (step : Step) → Allowed t step m → (u : ℕ) (a b : Role) → u ≢ t → slice_get m.roles u ≡ Some a
      → slice_get (after t step m).roles u ≡ Some b → Both Remains (retrying_other step u a.does) a b
  others_booked (Alone k) may u a b ne here there = unmoved Remains a b refl (not_one t u (to k) a b ne here there)
  others_booked Join may u a b ne here there = unmoved Remains a b refl (not_one t u _ a b ne here there)
  others_booked (Quit i) may u a b ne here there = unmoved Remains a b refl (not_one t u _ a b ne here there)
  others_booked (QuitLast i) may u a b ne here there = unmoved Remains a b refl (not_one t u _ a b ne here there)
  others_booked (Requeue o v) may u a b ne here there =
      still (slice_set m.roles v (doing (Queued Asleep))) v _ (doing (Queued Asleep)) may.1 u a b here there
      (λ x. now m.roles v _ _ b may.1 x) (λ x. not_one v u _ a b x here there) (refl, refl)
  others_booked (Pull o v) may u a b ne here there =
      let apart : t ≢ v = two_apart (λ (r : Role). r.does) m.roles t v _ _ may.0 may.1 (λ e. cc) in
      still (after t (Pull o v) m).roles v _ (doing (Taken t Normal Asleep)) may.1 u a b here there
      (λ x. second_now t v _ _ _ b apart may.1 x) (λ x. neither t v u _ _ a b ne x here there) (refl, refl)
  others_booked (Follow o v stay w) may u a b ne here there =
      still (slice_set m.roles w (doing (Queued Asleep))) w _ (doing (Queued Asleep)) may.2 u a b here there
      (λ x. now m.roles w _ _ b may.2 x) (λ x. not_one w u _ a b x here there) (refl, refl)
  others_booked (Take v stay) may u a b ne here there =
      let apart : t ≢ v = two_apart (λ (r : Role). r.does) m.roles t v _ _ may.0 may.2 (λ e. cc) in
      other (after t (Take v stay) m).roles v (begins_if (is_up stay)) _ (doing (Taken t Open stay)) may.2 u a b here
      there (λ x. second_now t v _ _ _ b apart may.2 x) (λ x. neither t v u _ _ a b ne x here there)
      (refl, taken_up stay)
  others_booked (Free us) may u a b ne here there = subst (λ (r : Role). Both Remains Remains a r)
      (told_other Normal (doing (Stored us)) u a b ne here there) (told_owes Normal a.does, told_retries a.does)
  others_booked (Hand v) may u a b ne here there = subst (λ (r : Role). Both Remains (handing a.does) a r)
      (told_other Handed (doing (Stored (v ∷ []))) u a b ne here there) (told_owes Handed a.does, handed_retries a.does)
  others_booked (Wake o v us stay) may u a b ne here there =
      let apart : v ≢ t = λ e. two_apart (λ (r : Role). r.does) m.roles t v _ _ may.0 may.1 (λ x. cc) (sym e) in
      other (after t (Wake o v us stay) m).roles v Begins _ (doing (Seeks true)) may.1 u a b here there
      (λ x. first_now v t _ _ _ b apart may.1 x) (λ x. neither v t u _ _ a b x ne here there)
      (sym (out_of_it stay may.2), refl)
  others_booked (WakeOwner o v us stay) may u a b ne here there =
      let apart : v ≢ t = λ e. two_apart (λ (r : Role). r.does) m.roles t v _ _ may.0 may.1 (λ x. cc) (sym e) in
      other (after t (WakeOwner o v us stay) m).roles v Ends _ (record { owns = true; does = Idle }) may.1 u a b here
      there (λ x. first_now v t _ _ _ b apart may.1 x) (λ x. neither v t u _ _ a b x ne here there)
      (sym (out_of_it stay may.2), refl)
  others_booked (Pass o ws v us) may u a b ne here there = unmoved Remains a b refl (not_one t u _ a b ne here there)

abbrev IsNoted : Phase → Type 0
IsNoted p = (by : ℕ) × (mark : Mark) × (phase_note p ≡ Some (by, mark))

pub somebody : (c : Class) (rs : List Role) → 0 < total c rs → (u : ℕ) × (r : Role) × (slice_get rs u ≡ Some r)
    × (0 < weight c r)
somebody c [] some = absurd (omega arith)
somebody c (r ∷ rs) some = ⊎_elim
    (λ none. let more = somebody c rs (omega (arith, sum_by-cons (weight c) r rs, none)) in
    (suc more.0, more.1, more.2, more.3))
    (λ here. (0, r, refl, here))
    (none_or (weight c r))

called_case : (o : Bool) (p : Phase) → 0 < weight Called (record { owns = o; does = p }) → IsTrue (is_in_debt p)
    ⊎ IsNoted p
unfolding weight
called_case o (Seeks true) some = inl refl
called_case o (Seeks false) some = absurd (omega arith)
called_case o (Enters c) some = inl refl
called_case o (Taken by Normal Asleep) some = inr (by, Normal, refl)
called_case o (Taken by Normal Fresh) some = inl refl
called_case o (Taken by Normal Late) some = inl refl
called_case o (Taken by Normal Back) some = inl refl
called_case o p some = absurd (omega arith)

own_case : (o : Bool) (p : Phase) → 0 < weight Owning (record { owns = o; does = p })
    → weight Strange (record { owns = o; does = p }) ≡ 0 → (is_asleep p ≡ false) ⊎ IsNoted p
unfolding weight
own_case true (Queued Asleep) some proper = absurd (omega arith)
own_case false (Queued Asleep) some proper = absurd (omega arith)
own_case o (Taken by Open Asleep) some proper = inr (by, Open, refl)
own_case o (Taken by Normal Asleep) some proper = inr (by, Normal, refl)
own_case o (Taken by Handed Asleep) some proper = inr (by, Handed, refl)
own_case o p some proper = inl refl

waker_in_debt : (p : Phase) (mark : Mark) (u : ℕ) → 0 < occurs u (phase_wakes p mark) → IsTrue (is_in_debt p)
waker_in_debt (Unlocks us) mark u some = refl
waker_in_debt (Stored us) mark u some = refl
waker_in_debt (Wakes (v ∷ us)) mark u some = refl
waker_in_debt (Wakes []) Open u some = absurd (omega arith)
waker_in_debt (Wakes []) Normal u some = absurd (omega arith)
waker_in_debt (Wakes []) Handed u some = absurd (omega arith)
waker_in_debt p mark u some = absurd (omega arith)

plain_passes : (k : Plain) (w : Word) (rest : Class → ℕ) → Fits w (λ c. rest c + weight c (from k))
    → May k w (λ c. rest c + weight c (from k)) → 0 < rest Waiting + weight Waiting (from k)
    → 0 < rest Owning + weight Owning (from k) → rest Owning + weight Owning (to k) ≡ 0
    → IsTrue (is_in_debt (to k).does)
unfolding weight
plain_passes Begin w rest fits may some before none = absurd (omega arith)
plain_passes k w rest fits may some before none = absurd (omega arith)

module _ (m : Mutex) (sound : IsSound m) where
  waker : (u : ℕ) (r : Role) → slice_get m.roles u ≡ Some r → IsNoted r.does → SomebodyIsInDebt m
  waker u r at took =
      let s = sound.noted u took.0 r took.1 at took.2 in
      (took.0, s.0, s.1, waker_in_debt s.0.does took.1 u s.2)

  waiters : 0 < length m.queue → total Owning m.roles ≡ 0 → SomebodyIsInDebt m
  waiters some free =
      let x = somebody Called m.roles
      (omega (arith, sound.fits.debt (omega (arith, some, sound.waiting.count)), free, sound.fits)) in
      ⊎_elim (λ h. (x.0, x.1, x.2, h)) (λ h. waker x.0 x.1 x.2 h) (called_case x.1.owns x.1.does x.3)

  owner_up : 0 < total Owning m.roles → SomebodyIsInDebt m ⊎ SomebodyOwns m
  owner_up some =
      let x = somebody Owning m.roles some in
      ⊎_elim
      (λ up. inr (x.0, x.1, x.2, x.3, up))
      (λ h. inl (waker x.0 x.1 x.2 h))
      (own_case x.1.owns x.1.does x.3 (omega (arith, sound.fits.proper, total-at m.roles x.0 x.1 x.2 Strange)))

  sleeper_up : (u : ℕ) (o : Bool) (p : Phase) → slice_get m.roles u ≡ Some (record { owns = o; does = p })
      → IsTrue (is_asleep p) → SomebodyIsInDebt m ⊎ SomebodyOwns m
  unfolding weight
  sleeper_up u o (Queued Asleep) at asleep =
      ⊎_elim (λ free. inl (waiters (omega (arith, sound.waiting.count, total-at m.roles u _ at Waiting)) free)) owner_up
      (none_or (total Owning m.roles))
  sleeper_up u o (Taken by Open Asleep) at asleep = inl (waker u _ at (by, Open, refl))
  sleeper_up u o (Taken by Normal Asleep) at asleep = inl (waker u _ at (by, Normal, refl))
  sleeper_up u o (Taken by Handed Asleep) at asleep = inl (waker u _ at (by, Handed, refl))
  sleeper_up u o p at asleep = absurd cc

  pub debts_are_paid : MutexDebtsArePaid m
  debts_are_paid = record {
    listed = λ saw u r at. passing-at (λ v s. saw v || is_in_debt s.does) m.roles 0 u u (omega arith)
        ∙ ap (at_index (λ s. bit (saw u || is_in_debt s.does))) at;
    strangers = λ saw u some. there saw u some (slice_get m.roles u) refl;
    waiters = waiters;
    sleepers = λ u r at asleep. sleeper_up u r.owns r.does at asleep;
  }
    where
      there : (saw : ℕ → Bool) (u : ℕ) → 0 < occurs u (debts saw m) → (o : Option Role) → slice_get m.roles u ≡ o
          → (r : Role) × (slice_get m.roles u ≡ Some r)
      there saw u some None e =
          absurd (omega (
            arith,
            some,
            passing-at (λ v s. saw v || is_in_debt s.does) m.roles 0 u u (omega arith),
            ap (at_index (λ (s : Role). bit (saw u || is_in_debt s.does))) e,
          ))
      there saw u some (Some r) e = (r, e)

  owning_same : (rs : List Role) (i : ℕ) (x y : Role) → slice_get rs i ≡ Some x → weight Owning y ≡ weight Owning x
      → total Owning (slice_set rs i y) ≡ total Owning rs
  owning_same rs i x y at same = omega (arith, sum_by-set_at (weight Owning) rs i x y at, same)

  passed : (t : ℕ) (step : Step) → Allowed t step m → (b : Role) → slice_get (after t step m).roles t ≡ Some b
      → 0 < length m.queue → 0 < total Owning m.roles → total Owning (after t step m).roles ≡ 0
      → IsTrue (is_in_debt b.does)
  unfolding weight
  passed t (Alone k) may b there some before none =
      subst (λ (r : Role). IsTrue (is_in_debt r.does)) (now t m m.roles t (from k) (to k) b may.0 there)
      (plain_passes k m.word (λ c. total c (slice_set m.roles t away))
      (same_counts (Fits m.word) _ _ (total-at m.roles t (from k) may.0) sound.fits)
      (same_counts (May k m.word) _ _ (total-at m.roles t (from k) may.0) may.1)
      (omega (arith, some, sound.waiting.count, total-at m.roles t (from k) may.0 Waiting))
      (omega (arith, before, total-at m.roles t (from k) may.0 Owning))
      (omega (arith, none, total-set m.roles t (from k) (to k) may.0 Owning)))
  passed t Join may b there some before none =
      absurd (omega (arith, before, none, owning_same m.roles t _ (doing (Queued Fresh)) may refl))
  passed t (Quit i) may b there some before none =
      absurd (omega (arith, before, none, owning_same m.roles t _ (doing Leaves) may.0 refl))
  passed t (QuitLast i) may b there some before none =
      absurd (omega (arith, before, none, owning_same m.roles t _ (doing Masks) may.0 refl))
  passed t (Requeue o v) may b there some before none =
      absurd (omega (arith, before, none, owning_same m.roles v _ (doing (Queued Asleep)) may.1 refl))
  passed t (Pull o v) may b there some before none =
      subst (λ (r : Role). IsTrue (is_in_debt r.does))
      (first_now t m t v _ (record { owns = o; does = Stored (v ∷ []) }) (doing (Taken t Normal Asleep)) b
      (two_apart (λ (r : Role). r.does) m.roles t v _ _ may.0 may.1 (λ e. cc)) may.0 there) refl
  passed t (Follow o v stay w) may b there some before none =
      absurd (omega (arith, before, none, owning_same m.roles w _ (doing (Queued Asleep)) may.2 refl))
  passed t (Take v stay) may b there some before none =
      subst (λ (r : Role). IsTrue (is_in_debt r.does))
      (first_now t m t v _ (doing (Unlocks (v ∷ []))) (doing (Taken t Open stay)) b
      (two_apart (λ (r : Role). r.does) m.roles t v _ _ may.0 may.2 (λ e. cc)) may.0 there) refl
  passed t (Free us) may b there some before none = subst (λ (r : Role). IsTrue (is_in_debt r.does))
      (told_now t m Normal _ (doing (Stored us)) b may.0 there) refl
  passed t (Hand v) may b there some before none = subst (λ (r : Role). IsTrue (is_in_debt r.does))
      (told_now t m Handed _ (doing (Stored (v ∷ []))) b may there) refl
  passed t (Wake o v us stay) may b there some before none =
      let apart : v ≢ t = λ e. two_apart (λ (r : Role). r.does) m.roles t v _ _ may.0 may.1 (λ x. cc) (sym e) in
      absurd (omega (
        arith,
        before,
        none,
        owning_same (slice_set m.roles v (doing (Seeks true))) t _
            (record { owns = o; does = Wakes us }) (get-set_other m.roles v t (doing (Seeks true)) apart ∙ may.0) refl,
        owning_same m.roles v _ (doing (Seeks true)) may.1 refl,
      ))
  passed t (WakeOwner o v us stay) may b there some before none =
      let apart : v ≢ t = λ e. two_apart (λ (r : Role). r.does) m.roles t v _ _ may.0 may.1 (λ x. cc) (sym e) in
      absurd (omega (
        arith,
        before,
        none,
        owning_same (slice_set m.roles v (record { owns = true; does = Idle })) t _
            (record { owns = o; does = Wakes us })
            (get-set_other m.roles v t (record { owns = true; does = Idle }) apart
            ∙ may.0) refl,
        owning_same m.roles v _ (record { owns = true; does = Idle }) may.1 refl,
      ))
  passed t (Pass o ws v us) may b there some before none =
      absurd (omega (
        arith,
        before,
        none,
        owning_same m.roles t _ (record { owns = o; does = Wakes (ws ++ us) }) may.0
            refl,
      ))

  pub debts_are_booked : (t : ℕ) (step : Step) → Allowed t step m → MutexDebtsAreBooked t step m (after t step m)
  debts_are_booked t step may =
      record {
        booked = record { mover = mover_booked t m step may; others = others_booked t m step may };
        passed = passed t step may;
      }

pub throughout_mutex : (P : ℕ → Step → Mutex → Mutex → Type 0)
    → ((m : Mutex) → IsSound m → (t : ℕ) (step : Step) → Allowed t step m → P t step m (after t step m))
    → ThroughoutMutex P
throughout_mutex P holds threads steps m t step run may = holds m (run_sound threads steps m run) t step may
