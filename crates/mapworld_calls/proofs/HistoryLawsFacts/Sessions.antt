-- A session has one block, and each of its answers is told by that block.
use Rattle.std.proofs.Common.{◌≡◌, ℕ, zero, suc, ◌+◌, ◌-◌, ◌≤◌, ◌⊎◌, inl, inr, ⊎_elim, true, List, Option, Some, None}
use Rattle.std.proofs.Common.{option_map, refl, ap, sym, ◌∙◌, subst, arith}
use Rattle.std.proofs.lemmas.Option.{same_Some}
use Rattle.mapworld_calls.specs.declared.reply.Reply.{Reply}
use Rattle.mapworld_calls.specs.Programs.{opening_key}
use Rattle.mapworld_calls.specs.declared.block.Block.{Block}
use Rattle.mapworld_calls.specs.Deeds.{Deeds}
use Rattle.mapworld_calls.specs.declared.ask.Ask.{Ask}
use Rattle.mapworld_calls.specs.declared.ask.Ask.TheVariants as ask
use Rattle.mapworld_calls.specs.declared.ask.Begin.{Begin}
use Rattle.mapworld_calls.specs.declared.ask.Held.TheVariants as held
use Rattle.mapworld_calls.specs.declared.reply.Answer.{Answer}
use Rattle.mapworld_calls.specs.Calls.{At, shared, exclusive, effect_on, told}
use Rattle.mapworld_calls.specs.Setup.{Setup, ask_at, session_of}
use Rattle.mapworld_calls.specs.Replay.{one, block_work, work_of, reached, told_as, told_by, after_ask, before}
use Rattle.mapworld_calls.specs.Agrees.{IsToldBy, IsAnsweredInSession, IsAnsweredBy, IsAnswered}
use Rattle.mapworld_calls.specs.HistoryLaws.Worlds.{IsWorld, IsBlockOf}
use Rattle.mapworld_calls.proofs.HistoryLawsFacts.Blocks.{own-ask, own-done, one-place}
use Rattle.mapworld_calls.specs.HistoryLaws.Sessions.{IsReplyOf, IsCallOfSession, SessionsTellTheirOwn}
use Rattle.mapworld_calls.specs.HistoryLaws.Sessions.{reads_or_downgrades, read_of, IsReadBehindWrite}
use Rattle.mapworld_calls.specs.HistoryLaws.Sessions.{WritesAreReadBack}

module _ {K V D T : Type 0} (w : Setup K V D T) where
  -- what the call of that number of a session is answered, by what its key had
  abbrev pub told_in : {A : Type 0} → ℕ → ℕ → ℕ → Option (K × V) → Option (Answer K V T A)
  told_in t o n p = option_map (λ a. told w.deeds a (reached w t o n p)) (ask_at w t (o + n))

module _ {K V D T A : Type 0} (w : Setup K V D T) (bs : List (Block K)) (replies : List (Reply K V T A))
    (world : IsWorld w bs replies) (t o : ℕ) (g : Begin K) (asked : ask_at w t o ≡ Some (ask.Begin g)) where
  is-first : (i : ℕ) (b : Block K) → IsBlockOf bs i b t o → b.visit ≡ 0
  is-first i b of = (own-done w bs t o (ask.Begin g) asked replies world i b of).1

  -- and each answer of its session is told by that block
  told-here : (i : ℕ) (b : Block K) → IsBlockOf bs i b t o → (n : ℕ) (a : Answer K V T A) → IsToldBy w bs t o n a
      → told_in w t o n (before w bs i (opening_key g)) ≡ Some a
  told-here i b of n a told =
      let of' : IsBlockOf bs told.place told.block t o =
      record { listed = told.listed; thread = told.thread; call = told.call } in
      let same : told.place ≡ i = one-place w bs replies world t o told.place i told.block b of' of
      (is-first told.place told.block of' ∙ sym (is-first i b of)) in
      let work : block_work w told.block ≡ one (opening_key g) =
      ap (λ x. work_of x) (own-ask w bs t o (ask.Begin g) asked told.place told.block of') in
      let is : told_by w n told.block (before w bs told.place) ≡ told_in w t o n
      (before w bs told.place (opening_key g))
      = ap (λ x. told_as w x told.block n (before w bs told.place)) work ∙ rw (told.thread, told.call) refl in
      ap (λ x. told_in w t o n (before w bs x (opening_key g))) (sym same) ∙ sym is ∙ told.told

  in-session : (i : ℕ) (b : Block K) → IsBlockOf bs i b t o → (c : ℕ) (s : Option ℕ) (a : Answer K V T A) → s ≡ Some o
      → IsAnsweredInSession w bs t c s a → IsToldBy w bs t o (c - o) a
  in-session i b of c s a is answered =
      ⊎_elim (λ told. told) (λ none. absurd (none.1 i b of.listed of.thread of.call))
      (subst (λ (x : Option ℕ). IsAnsweredInSession w bs t c x a) is answered)

  answered-by : (c : ℕ) (x y : Ask K V D) (a : Answer K V T A) → x ≡ y → IsAnsweredBy w bs t c x a
      → IsAnsweredBy w bs t c y a
  answered-by c x y a same h = subst (λ (z : Ask K V D). IsAnsweredBy w bs t c z a) same h

  at-opening : (i : ℕ) (b : Block K) → IsBlockOf bs i b t o → (a : Answer K V T A)
      → IsAnsweredBy w bs t o (ask.Begin g) a → IsToldBy w bs t o 0 a
  at-opening i b of a h = ⊎_elim (λ told. told) (λ none. absurd (none.1 i b of.listed of.thread of.call)) h

  told-reply : (i : ℕ) (b : Block K) → IsBlockOf bs i b t o → (c : ℕ) → IsCallOfSession w t o c → (a : Answer K V T A)
      → IsAnswered w bs t c a → IsToldBy w bs t o (c - o) a
  told-reply i b of c (inl here) a h =
      let asked' : h.ask ≡ ask.Begin g =
      same_Some h.ask (ask.Begin g) (sym h.asked ∙ ap (λ x. ask_at w t x) here ∙ asked) in
      let zeroth : 0 ≡ c - o = omega (arith, here) in
      subst (λ (n : ℕ). IsToldBy w bs t o n a) zeroth
      (at-opening i b of a
      (subst (λ (n : ℕ). IsAnsweredBy w bs t n (ask.Begin g) a) here
      (answered-by c h.ask (ask.Begin g) a asked' h.answered)))
  told-reply i b of c (inr call) a h =
      in-session i b of c (session_of w t c) a call.2
      (answered-by c h.ask (ask.Held call.0) a (same_Some h.ask (ask.Held call.0) (sym h.asked ∙ call.1)) h.answered)

  -- what a call of the session is answered
  pub answer-told : (i : ℕ) (b : Block K) → IsBlockOf bs i b t o → (c : ℕ) → IsCallOfSession w t o c
      → (r : Reply K V T A) → IsReplyOf replies r t c
      → told_in w t o (c - o) (before w bs i (opening_key g)) ≡ Some r.answer
  answer-told i b of c call r is =
      let h = world.agrees.replies_are is.place r is.listed in
      let own : IsAnswered w bs t c r.answer = subst (λ (x : ℕ). IsAnswered w bs x c r.answer) is.thread
      (subst (λ (x : ℕ). IsAnswered w bs r.thread x r.answer) is.call h) in
      told-here i b of (c - o) r.answer (told-reply i b of c call r.answer own)

-- sessions that make the same calls and found the same are at the same after each of them
module _ {K V D T : Type 0} (w w' : Setup K V D T) (deeds : w.deeds ≡ w'.deeds) (t t' o o' n : ℕ) (p : Option (K × V))
    (calls : (m : ℕ) → m ≤ n → ask_at w' t' (o' + m) ≡ ask_at w t (o + m)) where
  reached-alike : (m : ℕ) → m ≤ n → reached w t o m p ≡ reached w' t' o' m p
  reached-alike zero le = refl
  reached-alike (suc m) le =
      ap (λ (d : Deeds D K V T). after_ask d (ask_at w t (o + m)) (reached w t o m p)) deeds
      ∙ ap (λ a. after_ask w'.deeds a (reached w t o m p)) (sym (calls m (omega arith)))
      ∙ ap (λ s. after_ask w'.deeds (ask_at w' t' (o' + m)) s) (reached-alike m (omega arith))

  told-alike : {A : Type 0} → told_in w {A = A} t o n p ≡ told_in w' t' o' n p
  told-alike =
      ap (λ (d : Deeds D K V T). option_map (λ a. told d a (reached w t o n p)) (ask_at w t (o + n))) deeds
      ∙ ap (λ s. option_map (λ a. told w'.deeds a s) (ask_at w t (o + n))) (reached-alike n (omega arith))
      ∙ ap (λ x. option_map (λ a. told w'.deeds a (reached w' t' o' n p)) x) (sym (calls n (omega arith)))

pub tell-their-own : {K V D T A : Type 0} → SessionsTellTheirOwn K V D T A
tell-their-own {K} {V} w w' deeds bs bs' replies replies' world world' t t' o o' n h call call' r r' is is' =
    let k = opening_key h.opening in
    let first : o + 0 ≡ o = omega arith in
    let first' : o' + 0 ≡ o' = omega arith in
    let asked' : ask_at w' t' o' ≡ Some (ask.Begin h.opening) =
    ap (λ x. ask_at w' t' x) (sym first') ∙ h.calls 0 (omega arith) ∙ ap (λ x. ask_at w t x) first ∙ h.asked in
    let back : o + n - o ≡ n = omega arith in
    let back' : o' + n - o' ≡ n = omega arith in
    same_Some r.answer r'.answer
    (sym (answer-told w bs replies world t o h.opening h.asked h.place h.block h.at (o + n) call r is)
    ∙ ap (λ x. told_in w t o x (before w bs h.place k)) back
    ∙ told-alike w w' deeds t t' o o' n (before w bs h.place k) h.calls
    ∙ ap (λ (p : Option (K × V)). told_in w' t' o' n p) h.found
    ∙ ap (λ x. told_in w' t' o' x (before w' bs' h.place' k)) (sym back')
    ∙ answer-told w' bs' replies' world' t' o' h.opening asked' h.place' h.block' h.at' (o' + n) call' r' is')

-- a guard of that pair, exclusive or shared
abbrev IsGuardOf : {K V : Type 0} → At K V → K × V → Type 0
IsGuardOf s p = (s ≡ exclusive p) ⊎ (s ≡ shared p)

module _ {K V D T : Type 0} (w : Setup K V D T) where
  -- reads and downgrades keep the pair
  kept : (a : Option (Ask K V D)) (s : At K V) (p : K × V) → IsGuardOf s p → reads_or_downgrades a ≡ true
      → IsGuardOf (after_ask w.deeds a s) p
  kept None s p guard is = absurd cc
  kept (Some (ask.Keyed x)) s p guard is = absurd cc
  kept (Some (ask.Begin x)) s p guard is = absurd cc
  kept (Some (ask.Walk x)) s p guard is = absurd cc
  kept (Some (ask.Held (held.Read d))) s p (inl e) is = inl (rw e refl)
  kept (Some (ask.Held (held.Read d))) s p (inr e) is = inr (rw e refl)
  kept (Some (ask.Held held.Downgrade)) s p (inl e) is = inr (rw e refl)
  kept (Some (ask.Held held.Downgrade)) s p (inr e) is = inr (rw e refl)
  kept (Some (ask.Held h)) s p guard is = absurd cc

  module _ (t o n m : ℕ) (e d : D) (found : Option (K × V)) (p : K × V)
      (h : IsReadBehindWrite w t o n m e d (reached w t o n found) p) where
    written : reached w t o (suc n) found ≡ exclusive (effect_on w.deeds e p)
    written = ap (λ a. after_ask w.deeds a (reached w t o n found)) h.writes ∙ rw h.guard refl

    between : (j : ℕ) → n + suc j ≤ m → IsGuardOf (reached w t o (n + suc j) found) (effect_on w.deeds e p)
    between zero le =
        let first : suc n ≡ n + 1 = omega arith in
        inl (subst (λ (x : ℕ). reached w t o x found ≡ exclusive (effect_on w.deeds e p)) first written)
    between (suc j) le =
        let step : suc (n + suc j) ≡ n + suc (suc j) = omega arith in
        subst (λ (x : ℕ). IsGuardOf (reached w t o x found) (effect_on w.deeds e p)) step
        (kept (ask_at w t (o + (n + suc j))) (reached w t o (n + suc j) found) (effect_on w.deeds e p)
        (between j (omega arith)) (h.between (n + suc j) (omega arith) (omega arith)))

    told-guard : {A : Type 0} (s : At K V) (q : K × V) → IsGuardOf s q → told {A = A} w.deeds (ask.Held (held.Read d)) s
        ≡ read_of w.deeds d q
    told-guard s q (inl is) = rw is refl
    told-guard s q (inr is) = rw is refl

    pub read-back : {A : Type 0} → told_in w {A = A} t o m found ≡ Some (read_of w.deeds d (effect_on w.deeds e p))
    read-back =
        let order = h.order in
        let last : n + suc (m - suc n) ≡ m = omega (arith, order) in
        let guard = subst (λ (x : ℕ). IsGuardOf (reached w t o x found) (effect_on w.deeds e p)) last
        (between (m - suc n) (omega (arith, order))) in
        ap (λ a. option_map (λ x. told w.deeds x (reached w t o m found)) a) h.reads
        ∙ ap Some (told-guard (reached w t o m found) (effect_on w.deeds e p) guard)

pub read-back-writes : {K V D T A : Type 0} → WritesAreReadBack K V D T A
read-back-writes w bs replies world t o g asked i b of n m e d p h r is =
    let back : o + m - o ≡ m = omega arith in
    same_Some r.answer (read_of w.deeds d (effect_on w.deeds e p))
    (sym (answer-told w bs replies world t o g asked i b of (o + m) (inr (held.Read d, h.reads, h.session)) r is)
    ∙ ap (λ x. told_in w t o x (before w bs i (opening_key g))) back
    ∙ read-back w t o n m e d (before w bs i (opening_key g)) p h)
