-- An answer that is told by its block, or by the visits of its walk, stays so when a block grows or is added.
use Rattle.std.proofs.Common.{◌≡◌, ℕ, zero, suc, ◌-◌, ◌<◌, ◌≤◌, ◌==◌, inl, inr, ⊎_elim, IsSome, Bool, true, false}
use Rattle.std.proofs.Common.{option_map, List, [], ◌∷◌, ◌++◌, length, flat_map, filter, Option, Some, None, slice_get}
use Rattle.std.proofs.Common.{slice_set, refl, ap, sym, ◌∙◌, subst, arith}
use Rattle.std.proofs.lemmas.Bool.{cases_eq}
use Rattle.std.proofs.lemmas.List.{take-append-le}
use Rattle.std.proofs.lemmas.Option.{same_Some, none-some, slice_get_within}
use Rattle.mapworld_calls.specs.declared.block.Block.{Block}
use Rattle.mapworld_calls.specs.declared.ask.Ask.{Ask}
use Rattle.mapworld_calls.specs.declared.ask.Ask.TheVariants as ask
use Rattle.mapworld_calls.specs.declared.ask.Walk.{Walk}
use Rattle.mapworld_calls.specs.declared.ask.Walk.TheVariants as walk
use Rattle.mapworld_calls.specs.declared.reply.Answer.{Answer}
use Rattle.mapworld_calls.specs.Calls.{visit_answer, visit_reads}
use Rattle.mapworld_calls.specs.Setup.{Setup, Laws, ask_at, session_of}
use Rattle.mapworld_calls.specs.Frame.{Grows}
use Rattle.mapworld_calls.specs.Replay.{Work, one, visit, nothing, block_work, work_of, shard_by, done_keys, told_as}
use Rattle.mapworld_calls.specs.Replay.{told_by, frame_of, contents, before}
use Rattle.mapworld_calls.specs.Agrees.{IsToldBy, HasNoBlock, Visit, IsVisitOf, IsVisited, IsWhole, AreWhole, reads_of}
use Rattle.mapworld_calls.specs.Agrees.{HasRead, IsWalkAnswer, IsWalked, IsRefusedWalk, IsAnsweredInSession}
use Rattle.mapworld_calls.specs.Agrees.{IsAnsweredBy, IsAnswered}
use Rattle.mapworld_calls.specs.Growth.{GoesOn}
use Rattle.mapworld_calls.proofs.Lists.{slice_get-set_same, slice_get-set_other, slice_get-set_cases}
use Rattle.mapworld_calls.proofs.Lists.{slice_get-push_below, slice_get-push_cases, slice_get-append_left}
use Rattle.mapworld_calls.proofs.Folds.{take-set_above}
use Rattle.mapworld_calls.proofs.Frames.{turn-same, says-same}
use Rattle.mapworld_calls.proofs.Works.{filter-passes, keeps-to_shard, looks-at_shard}

pub flat_map-same : {X Y : Type 0} (g h : X → List Y) (xs : List X)
    → ((n : ℕ) (x : X) → slice_get xs n ≡ Some x → g x ≡ h x) → flat_map g xs ≡ flat_map h xs
flat_map-same g h [] same = refl
flat_map-same g h (x ∷ xs) same =
    ap (λ ys. ys ++ flat_map g xs) (same zero x refl)
    ∙ ap (λ ys. h x ++ ys) (flat_map-same g h xs (λ n z at. same (suc n) z at))

-- what keeps the visits of a walk: each stays where it stands and finds what it found, and there is no other
pub record KeepsVisits {K V D T : Type 0} (w : Setup K V D T) (bs bs' : List (Block K)) (t c : ℕ) : Type 0 where
  pub listed : (i : ℕ) (b : Block K) → slice_get bs i ≡ Some b → b.thread ≡ t → b.call ≡ c → slice_get bs' i ≡ Some b
  pub finds : (i : ℕ) (b : Block K) → slice_get bs i ≡ Some b → b.thread ≡ t → b.call ≡ c → (q : K)
      → w.route q ≡ b.visit → before w bs' i q ≡ before w bs i q
  pub all : (n : ℕ) → ((i : ℕ) (b : Block K) → slice_get bs i ≡ Some b → b.thread ≡ t → b.call ≡ c → b.visit < n)
      → (i : ℕ) (b : Block K) → slice_get bs' i ≡ Some b → b.thread ≡ t → b.call ≡ c → b.visit < n

-- what keeps an answer: each block that told something still tells it, none was added for calls that had none, and the
-- visits of an answered walk stay
pub record Keeps {K V D T : Type 0} (A : Type 0) (w : Setup K V D T) (bs bs' : List (Block K)) (t c : ℕ) : Type 0 where
  pub told : (b n : ℕ) (a : Answer K V T A) → IsToldBy w bs t b n a → IsToldBy w bs' t b n a
  pub none : (b : ℕ) → b ≤ c → HasNoBlock bs t b → HasNoBlock bs' t b
  pub visits : (f : Walk D) → ask_at w t c ≡ Some (ask.Walk f) → KeepsVisits w bs bs' t c

module _ {K V D T : Type 0} (w : Setup K V D T) (bs bs' : List (Block K)) (t c : ℕ) (f : Walk D)
    (k : KeepsVisits w bs bs' t c) (vs : List (Visit K)) (v : IsVisited w bs t c f vs) where
  pub whole-kept : (x : Visit K) (n : ℕ) → slice_get vs n ≡ Some x → IsWhole w bs x.place x.block
      → IsWhole w bs' x.place x.block
  whole-kept x n at whole q on there =
      let is = v.are n x at in
      whole q on (subst (λ (o : Option (K × V)). IsSome o) (k.finds x.place x.block is.listed is.thread is.call q on)
      there)

  pub are-kept : (x : Visit K) (n : ℕ) → slice_get vs n ≡ Some x → IsVisitOf bs' t c n x
  are-kept x n at =
      let is = v.are n x at in
      record {
        listed = k.listed x.place x.block is.listed is.thread is.call;
        thread = is.thread;
        call = is.call;
        visit = is.visit;
      }

  pub visited-kept : IsVisited w bs' t c f vs
  visited-kept =
      record {
        are = λ n x at. are-kept x n at;
        goes_on = v.goes_on;
        whole = λ n x at lt. whole-kept x n at (v.whole n x at lt);
        within = v.within;
        all = k.all (length vs) v.all;
      }

  pub all-kept : AreWhole w bs vs → AreWhole w bs' vs
  all-kept whole n x at = whole-kept x n at (whole n x at)

  -- what the walk's deed read stays
  pub reads-kept : reads_of w bs' f vs ≡ reads_of w bs f vs
  reads-kept =
      flat_map-same (λ x. flat_map (λ q. visit_reads w.deeds f (before w bs' x.place q)) (done_keys w x.block))
      (λ x. flat_map (λ q. visit_reads w.deeds f (before w bs x.place q)) (done_keys w x.block)) vs (λ n x at.
      let is = v.are n x at in
      flat_map-same (λ q. visit_reads w.deeds f (before w bs' x.place q))
      (λ q. visit_reads w.deeds f (before w bs x.place q)) (done_keys w x.block) (λ m q here.
      let on : (w.route q == x.block.visit) ≡ true = filter-passes (λ z. w.route z == x.block.visit)
      x.block.visited.items m q here in
      let same : w.route q ≡ x.block.visit = grind (arith, on) in
      ap (λ o. visit_reads w.deeds f o) (k.finds x.place x.block is.listed is.thread is.call q same)))

pub read-kept : {K V T A : Type 0} (reads reads' : List T) (a : Answer K V T A) → reads' ≡ reads → HasRead reads a
    → HasRead reads' a
read-kept reads reads' a same h = record { list = h.list; has = h.has ∙ sym same; is = h.is }

walk-answer_kept : {K V D T A : Type 0} (w : Setup K V D T) (bs bs' : List (Block K)) (f : Walk D) (vs : List (Visit K))
    (a : Answer K V T A) → reads_of w bs' f vs ≡ reads_of w bs f vs → IsWalkAnswer w bs f vs a
    → IsWalkAnswer w bs' f vs a
walk-answer_kept w bs bs' (walk.Iter d s) vs a same h = read-kept (reads_of w bs (walk.Iter d s) vs)
    (reads_of w bs' (walk.Iter d s) vs) a same h
walk-answer_kept w bs bs' (walk.IterMut d s) vs a same h = read-kept (reads_of w bs (walk.IterMut d s) vs)
    (reads_of w bs' (walk.IterMut d s) vs) a same h
walk-answer_kept w bs bs' (walk.Retain d) vs a same h = h
walk-answer_kept w bs bs' (walk.AlterAll d) vs a same h = h
walk-answer_kept w bs bs' walk.Clear vs a same h = h
walk-answer_kept w bs bs' walk.Len vs a same h = h
walk-answer_kept w bs bs' walk.IsEmpty vs a same h = h
walk-answer_kept w bs bs' walk.Capacity vs a same h = h
walk-answer_kept w bs bs' walk.ShrinkToFit vs a same h = h

module _ {K V D T : Type 0} (w : Setup K V D T) (bs bs' : List (Block K)) (t c : ℕ) where
  walked-kept : {A : Type 0} (f : Walk D) (a : Answer K V T A) → KeepsVisits w bs bs' t c → IsWalked w bs t c f a
      → IsWalked w bs' t c f a
  walked-kept f a k h =
      record {
        visits = h.visits;
        visited = visited-kept w bs bs' t c f k h.visits h.visited;
        ended = elim h.ended
            [ inl whole ↦ inl (whole.0, all-kept w bs bs' t c f k h.visits h.visited whole.1) | inr stop ↦ inr stop ];
        answered = walk-answer_kept w bs bs' f h.visits a (reads-kept w bs bs' t c f k h.visits h.visited) h.answered;
      }

  refused-kept : (f : Walk D) → KeepsVisits w bs bs' t c → IsRefusedWalk w bs t c f → IsRefusedWalk w bs' t c f
  refused-kept f k h =
      record {
        grows = h.grows;
        visits = h.visits;
        visited = visited-kept w bs bs' t c f k h.visits h.visited;
        ended = all-kept w bs bs' t c f k h.visits h.visited h.ended;
        left_over = h.left_over;
        goes_on = h.goes_on;
      }

  answered-in_session : {A : Type 0} (o : Option ℕ) (a : Answer K V T A) → Keeps A w bs bs' t c
      → ((b : ℕ) → o ≡ Some b → b ≤ c) → IsAnsweredInSession w bs t c o a → IsAnsweredInSession w bs' t c o a
  answered-in_session None a keeps below h = h
  answered-in_session (Some b) a keeps below h =
      elim h [
        | inl told ↦ inl (keeps.told b (c - b) a told)
        | inr none ↦ inr
            (none.0, keeps.none b (below b refl) none.1)
      ]

  pub answered-by : {A : Type 0} (x : Ask K V D) (a : Answer K V T A) → ask_at w t c ≡ Some x → Keeps A w bs bs' t c
      → ((b : ℕ) → session_of w t c ≡ Some b → b ≤ c) → IsAnsweredBy w bs t c x a → IsAnsweredBy w bs' t c x a
  answered-by (ask.Keyed k) a asked keeps below h =
      elim h [ inl told ↦ inl (keeps.told c 0 a told) | inr none ↦ inr (none.0, keeps.none c (omega arith) none.1) ]
  answered-by (ask.Begin b) a asked keeps below h =
      elim h [ inl told ↦ inl (keeps.told c 0 a told) | inr none ↦ inr (none.0, keeps.none c (omega arith) none.1) ]
  answered-by (ask.Held g) a asked keeps below h = answered-in_session (session_of w t c) a keeps below h
  answered-by (ask.Walk f) a asked keeps below h =
      let k = keeps.visits f asked in
      elim h [ inl walked ↦ inl (walked-kept f a k walked) | inr refused ↦ inr (refused.0, refused-kept f k refused.1) ]

  -- an answer stays that of the replay
  pub answered-kept : {A : Type 0} (a : Answer K V T A) → Keeps A w bs bs' t c
      → ((b : ℕ) → session_of w t c ≡ Some b → b ≤ c) → IsAnswered w bs t c a → IsAnswered w bs' t c a
  answered-kept a keeps below h =
      record { ask = h.ask; asked = h.asked; answered = answered-by h.ask a h.asked keeps below h.answered }

pub visit-shard : {K V D T : Type 0} (w : Setup K V D T) (f : Walk D) (b : Block K) (t c : ℕ)
    → ask_at w t c ≡ Some (ask.Walk f) → b.thread ≡ t → b.call ≡ c → (s : ℕ) → s ≡ b.visit
    → shard_by w (block_work w b) b ≡ Some s
visit-shard w f b t c asked thread call s same =
    let at : ask_at w b.thread b.call ≡ Some (ask.Walk f) = ap (λ n. ask_at w n b.call) thread
    ∙ ap (λ n. ask_at w t n) call ∙ asked in
    ap (λ o. shard_by w (work_of o) b) at ∙ ap Some (sym same)

filter-step : {X : Type 0} (p : X → Bool) (x : X) (xs ys : List X) (is : Bool) → p x ≡ is
    → filter p (xs ++ ys) ≡ filter p xs ++ filter p ys → filter p (x ∷ (xs ++ ys)) ≡ filter p (x ∷ xs) ++ filter p ys
filter-step p x xs ys true is rest = rw is (ap (λ zs. x ∷ zs) rest)
filter-step p x xs ys false is rest = rw is rest

pub filter-append : {X : Type 0} (p : X → Bool) (xs ys : List X) → filter p (xs ++ ys) ≡ filter p xs ++ filter p ys
filter-append p [] ys = refl
filter-append p (x ∷ xs) ys = filter-step p x xs ys (p x) refl (filter-append p xs ys)

mapped-stays : {X Y : Type 0} (g : X → Y) (o p : Option X) (y : Y) → ((x : X) → o ≡ Some x → p ≡ Some x)
    → option_map g o ≡ Some y → option_map g p ≡ Some y
mapped-stays g None p y stays h = absurd (none-some y h)
mapped-stays g (Some x) p y stays h = ap (λ q. option_map g q) (stays x refl) ∙ h

module _ {K V D T : Type 0} (w : Setup K V D T) (b c : Block K) (on : GoesOn b c) where
  pub work-grown : block_work w c ≡ block_work w b
  work-grown = rw (on.thread, on.call) refl

  shard-by_grown : (x : Work K D) → shard_by w x c ≡ shard_by w x b
  shard-by_grown (one k) = refl
  shard-by_grown (visit f) = ap Some on.visit
  shard-by_grown nothing = refl

  pub shard-grown : shard_by w (block_work w c) c ≡ shard_by w (block_work w b) b
  shard-grown = ap (λ x. shard_by w x c) work-grown ∙ shard-by_grown (block_work w b)

  pub keys-grown : done_keys w c ≡ done_keys w b ++ filter (λ k. w.route k == b.visit) on.more
  keys-grown =
      ap (λ v. filter (λ k. w.route k == v) c.visited.items) on.visit
      ∙ ap (λ ks. filter (λ k. w.route k == b.visit) ks) on.visited
      ∙ filter-append (λ k. w.route k == b.visit) b.visited.items on.more

  told-again : {A : Type 0} (x : Work K D) (n : ℕ) (m : K → Option (K × V)) (a : Answer K V T A)
      → told_as w x b n m ≡ Some a → told_as w x c n m ≡ Some a
  told-again (one k) n m a h = rw (on.thread, on.call) h
  told-again (visit f) n m a h =
      mapped-stays (λ k. visit_answer w.deeds f (m k)) (slice_get (done_keys w b) n) (slice_get (done_keys w c) n) a
      (λ k at. ap (λ ks. slice_get ks n) keys-grown ∙ slice_get-append_left (done_keys w b)
      (filter (λ k. w.route k == b.visit) on.more) n k at) h
  told-again nothing n m a h = absurd (none-some a h)

  -- the block tells again what it told
  pub tells-again : {A : Type 0} (n : ℕ) (m : K → Option (K × V)) (a : Answer K V T A) → told_by w n b m ≡ Some a
      → told_by w n c m ≡ Some a
  tells-again n m a h = ap (λ x. told_as w x c n m) work-grown ∙ told-again (block_work w b) n m a h

module _ {K V D T : Type 0} (w : Setup K V D T) (laws : Laws w) (bs : List (Block K)) (i : ℕ) (b c : Block K)
    (g : Grows (frame_of w) bs i b c) (on : GoesOn b c) where
  told-own : {A : Type 0} (t x n : ℕ) (a : Answer K V T A) (h : IsToldBy w bs t x n a) → h.place ≡ i
      → IsToldBy w (slice_set bs i c) t x n a
  told-own t x n a h here =
      let same : h.block ≡ b = same_Some h.block b (sym h.listed ∙ ap (λ j. slice_get bs j) here ∙ g.listed) in
      let old : n < b.done.value = subst (λ (d : Block K). n < d.done.value) same h.done in
      let more = on.done in
      let was : told_by w n b (before w bs i) ≡ Some a =
      subst (λ (d : Block K). told_by w n d (before w bs i) ≡ Some a) same
      (subst (λ (j : ℕ). told_by w n h.block (before w bs j) ≡ Some a) here h.told) in
      record {
        place = i;
        block = c;
        listed = slice_get-set_same bs i b c g.listed;
        thread = on.thread ∙ sym (ap (λ d. d.thread) same) ∙ h.thread;
        call = on.call ∙ sym (ap (λ d. d.call) same) ∙ h.call;
        done = omega arith;
        told = ap (λ xs. told_by w n c (contents w xs)) (take-set_above bs i i c (omega arith))
            ∙ tells-again w b c on n (before w bs i) a was;
      }

  told-other : {A : Type 0} (t x n : ℕ) (a : Answer K V T A) (h : IsToldBy w bs t x n a) → (i ≡ h.place → ⊥)
      → IsToldBy w (slice_set bs i c) t x n a
  told-other {A} t x n a h other =
      record {
        place = h.place;
        block = h.block;
        listed = slice_get-set_other bs i h.place c other ∙ h.listed;
        thread = h.thread;
        call = h.call;
        done = h.done;
        told = says-same (frame_of w) (keeps-to_shard w laws) bs i b c g (told_by w {A = A} n) (looks-at_shard w laws n)
            h.place h.block (inr h.listed) ∙ h.told;
      }

  pub told-grown : {A : Type 0} (t x n : ℕ) (a : Answer K V T A) → IsToldBy w bs t x n a
      → IsToldBy w (slice_set bs i c) t x n a
  told-grown t x n a h = ⊎_elim (λ e. told-own t x n a h (sym e)) (λ ne. told-other t x n a h ne) (cases_eq i h.place)

  pub none-grown : (t x : ℕ) → HasNoBlock bs t x → HasNoBlock (slice_set bs i c) t x
  none-grown t x none j d at thread call =
      elim (slice_get-set_cases bs i j b d c g.listed at) [
        | inl own ↦ none i b g.listed (sym (ap (λ z. z.thread) own.1 ∙ on.thread) ∙ thread)
            (sym (ap (λ z. z.call) own.1 ∙ on.call) ∙ call)
        | inr other ↦ none j d other.1 thread call
      ]

  pub visits-grown : (t x : ℕ) (f : Walk D) → ask_at w t x ≡ Some (ask.Walk f) → (b.thread ≡ t → b.call ≡ x → ⊥)
      → KeepsVisits w bs (slice_set bs i c) t x
  visits-grown t x f asked other =
      record {
        listed = λ j d at thread call. slice_get-set_other bs i j c (λ e.
            let same : d ≡ b = same_Some d b (sym at ∙ ap (λ n. slice_get bs n) (sym e) ∙ g.listed) in
            other (sym (ap (λ z. z.thread) same) ∙ thread) (sym (ap (λ z. z.call) same) ∙ call)) ∙ at;
        finds = λ j d at thread call q same.
            turn-same (frame_of w) (keeps-to_shard w laws) bs i b c g j d (inr at) q
            (visit-shard w f d t x asked thread call (w.route q) same);
        all = λ n h j d at thread call.
            elim (slice_get-set_cases bs i j b d c g.listed at) [
              | inl own ↦ absurd
                  (other (sym (ap (λ z. z.thread) own.1 ∙ on.thread) ∙ thread)
                  (sym (ap (λ z. z.call) own.1 ∙ on.call) ∙ call))
              | inr rest ↦ h j d rest.1 thread call
            ];
      }

  -- a block that goes on takes no answer back
  pub keeps-grown : {A : Type 0} (t x : ℕ)
      → ((f : Walk D) → ask_at w t x ≡ Some (ask.Walk f) → b.thread ≡ t → b.call ≡ x → ⊥)
      → Keeps A w bs (slice_set bs i c) t x
  keeps-grown t x other =
      record {
        told = λ y n a h. told-grown t y n a h;
        none = λ y le h. none-grown t y h;
        visits = λ f asked. visits-grown t x f asked (other f asked);
      }

module _ {K V D T : Type 0} (w : Setup K V D T) (bs : List (Block K)) (b : Block K) where
  pub before-push : (j : ℕ) (d : Block K) → slice_get bs j ≡ Some d → before w (bs ++ b ∷ []) j ≡ before w bs j
  before-push j d at =
      let within : j < length bs = slice_get_within bs j d at in
      ap (λ xs. contents w xs) (take-append-le j bs (b ∷ []) (omega arith))

  pub told-push : {A : Type 0} (t x n : ℕ) (a : Answer K V T A) → IsToldBy w bs t x n a
      → IsToldBy w (bs ++ b ∷ []) t x n a
  told-push t x n a h =
      record {
        place = h.place;
        block = h.block;
        listed = slice_get-push_below bs h.place h.block b h.listed;
        thread = h.thread;
        call = h.call;
        done = h.done;
        told = ap (λ m. told_by w n h.block m) (before-push h.place h.block h.listed) ∙ h.told;
      }

  pub none-push : (t x : ℕ) → (b.thread ≡ t → b.call ≡ x → ⊥) → HasNoBlock bs t x → HasNoBlock (bs ++ b ∷ []) t x
  none-push t x other none j d at thread call =
      elim (slice_get-push_cases bs j d b at) [
        | inl old ↦ none j d old thread call
        | inr new ↦ other (sym (ap (λ z. z.thread) new.1) ∙ thread) (sym (ap (λ z. z.call) new.1) ∙ call)
      ]

  pub visits-push : (t x : ℕ) → (b.thread ≡ t → b.call ≡ x → ⊥) → KeepsVisits w bs (bs ++ b ∷ []) t x
  visits-push t x other =
      record {
        listed = λ j d at thread call. slice_get-push_below bs j d b at;
        finds = λ j d at thread call q same. ap (λ m. m q) (before-push j d at);
        all = λ n h j d at thread call.
            elim (slice_get-push_cases bs j d b at) [
              | inl old ↦ h j d old thread call
              | inr new ↦ absurd (other (sym (ap (λ z. z.thread) new.1) ∙ thread) (sym (ap (λ z. z.call) new.1) ∙ call))
            ];
      }

  -- a block that is added for a later call takes no answer back
  pub keeps-push : {A : Type 0} (t x : ℕ) → (b.thread ≡ t → x < b.call) → Keeps A w bs (bs ++ b ∷ []) t x
  keeps-push t x later =
      record {
        told = λ y n a h. told-push t y n a h;
        none = λ y le h. none-push t y (λ thread call. let lt = later thread in absurd (omega arith)) h;
        visits = λ f asked. visits-push t x (λ thread call. let lt = later thread in absurd (omega arith));
      }
