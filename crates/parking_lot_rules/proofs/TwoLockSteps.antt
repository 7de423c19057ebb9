-- A step of a thread at two locks at one time keeps a family of locks sound.
use Rattle.std.proofs.Common.{◌≡◌, ◌≢◌, ℕ, ◌⊎◌, ⊎_elim, Option, Some, None, refl, sym, ap, ◌∙◌, subst, inl, inr, arith}
use Rattle.std.proofs.lemmas.Bool.{cases_eq}
use Rattle.std.proofs.lemmas.Option.{none-some, same_Some}
use Rattle.parking_lot_rules.specs.Family.{Key, First, Second, key, Crossing, Stays, Comes, Goes, Family, Rules}
use Rattle.parking_lot_rules.specs.Family.{SoundFamilyOf, put, IsFree, entered_after}
use Rattle.parking_lot_rules.specs.Every.{if_any_allowed, if_any_after, if_any_crosses, AreTogether, BothOf}
use Rattle.parking_lot_rules.proofs.Crossing.{crossed, WasIn}
use Rattle.parking_lot_rules.proofs.Families.{AreRules, put-same, put-other}

-- a mark stays that isn't that of a section which is entered or left
pub untouched : (bucket : ℕ → ℕ) (e : ℕ → Option ℕ) (j t : ℕ) (c : Crossing) (b : ℕ)
    → ((x : Key) → c ≡ Comes x → b ≢ bucket (key j x)) → ((x : Key) → c ≡ Goes x → b ≢ bucket (key j x))
    → entered_after bucket e j t c b ≡ e b
untouched bucket e j t Stays b came gone = refl
untouched bucket e j t (Comes x) b came gone = put-other e (bucket (key j x)) (Some t) b (came x refl)
untouched bucket e j t (Goes x) b came gone = put-other e (bucket (key j x)) None b (gone x refl)

-- how much the thread itself is inside, where it makes a step or none
module _ {L S : Type 0} (rules : Rules L S) (are : AreRules rules) (j t : ℕ) (l : L) where
  opt_keeps : (s : Option S) → rules.sound l → if_any_allowed rules j t s l → rules.sound (if_any_after rules t s l)
  opt_keeps None sound may = sound
  opt_keeps (Some s) sound may = are.keeps j t s l sound may

  opt_others : (s : Option S) (k : Key) → if_any_allowed rules j t s l → (u : ℕ) → u ≢ t
      → rules.inside (if_any_after rules t s l) k u ≡ rules.inside l k u
  opt_others None k may u ne = refl
  opt_others (Some s) k may u ne = are.others j t s l k may u ne

  opt_moves : (s : Option S) (k : Key) → if_any_allowed rules j t s l → rules.inside (if_any_after rules t s l) k t
      ≡ crossed (if_any_crosses rules s) k (rules.inside l k t)
  opt_moves None k may = refl
  opt_moves (Some s) k may = are.moves j t s l k may

  opt_was : (s : Option S) (k : Key) → if_any_allowed rules j t s l
      → WasIn (if_any_crosses rules s) k (rules.inside l k t)
  opt_was None k may = tt
  opt_was (Some s) k may = are.was j t s l k may

module _ {L S : Type 0} (rules : Rules L S) (are : AreRules rules) (bucket : ℕ → ℕ) (j k t : ℕ) (one two : Option S)
    (old new : Family L) (sound : SoundFamilyOf rules.sound rules.inside bucket old)
    (made : BothOf rules bucket j k t one two old new) where
  abbrev c1 : Crossing
  c1 = if_any_crosses rules one

  abbrev c2 : Crossing
  c2 = if_any_crosses rules two

  abbrev inside_of : Family L → ℕ → Key → ℕ → ℕ
  inside_of f i x u = rules.inside (f.locks i) x u

  abbrev middle : ℕ → Option ℕ
  middle b = entered_after bucket old.entered j t c1 b

  others : (i : ℕ) (x : Key) (u : ℕ) → u ≢ t → inside_of new i x u ≡ inside_of old i x u
  others i x u ne = ⊎_elim
      (λ e. subst (λ y. inside_of new y x u ≡ inside_of old y x u) (sym e)
      (ap (λ (l : L). rules.inside l x u) made.here_one ∙ opt_others rules are j t (old.locks j) one x
      made.allowed_one u ne))
      (λ nj. ⊎_elim
      (λ e. subst (λ y. inside_of new y x u ≡ inside_of old y x u) (sym e)
      (ap (λ (l : L). rules.inside l x u) made.here_two ∙ opt_others rules are k t (old.locks k) two x
      made.allowed_two u ne))
      (λ nk. ap (λ (l : L). rules.inside l x u) (made.elsewhere i nj nk))
      (cases_eq i k))
      (cases_eq i j)

  mine_one : (x : Key) → inside_of new j x t ≡ crossed c1 x (inside_of old j x t)
  mine_one x = ap (λ (l : L). rules.inside l x t) made.here_one ∙ opt_moves rules are j t (old.locks j) one x
      made.allowed_one

  mine_two : (x : Key) → inside_of new k x t ≡ crossed c2 x (inside_of old k x t)
  mine_two x = ap (λ (l : L). rules.inside l x t) made.here_two ∙ opt_moves rules are k t (old.locks k) two x
      made.allowed_two

  nowhere_else : (i : ℕ) (x : Key) → i ≢ j → i ≢ k → inside_of new i x t ≡ 0
  nowhere_else i x nj nk = ap (λ (l : L). rules.inside l x t) (made.elsewhere i nj nk)
      ∙ are.out (old.locks i) x t (made.idle i nj nk)

  was_nowhere_else : (i : ℕ) (x : Key) → i ≢ j → i ≢ k → inside_of old i x t ≡ 0
  was_nowhere_else i x nj nk = are.out (old.locks i) x t (made.idle i nj nk)

  was_one : (x : Key) → WasIn (Goes x) x (inside_of old j x t) → inside_of old j x t ≡ 1
  was_one First h = h
  was_one Second h = h

  was_two : (x : Key) → WasIn (Goes x) x (inside_of old k x t) → inside_of old k x t ≡ 1
  was_two First h = h
  was_two Second h = h

  left_one : (x : Key) → c1 ≡ Goes x → inside_of old j x t ≡ 1
  left_one x goes = was_one x
      (subst (λ c. WasIn c x (inside_of old j x t)) goes (opt_was rules are j t (old.locks j) one x made.allowed_one))

  left_two : (x : Key) → c2 ≡ Goes x → inside_of old k x t ≡ 1
  left_two x goes = was_two x
      (subst (λ c. WasIn c x (inside_of old k x t)) goes (opt_was rules are k t (old.locks k) two x made.allowed_two))

  free_of : (i : ℕ) (c : Crossing) → IsFree bucket old.entered i c → (x : Key) → c ≡ Comes x
      → old.entered (bucket (key i x)) ≡ None
  free_of i c free x e = subst (λ d. IsFree bucket old.entered i d) e free

  -- a mark of a section stays where it isn't entered, nor left
  mark-stays : (b : ℕ) → ((x : Key) → c1 ≡ Comes x → b ≢ bucket (key j x))
      → ((x : Key) → c1 ≡ Goes x → b ≢ bucket (key j x))
      → ((x : Key) → c2 ≡ Comes x → b ≢ bucket (key k x)) → ((x : Key) → c2 ≡ Goes x → b ≢ bucket (key k x))
      → new.entered b ≡ old.entered b
  mark-stays b a1 a2 a3 a4 = made.entered b
      ∙ (untouched bucket (λ y. middle y) k t c2 b a3 a4 ∙ untouched bucket old.entered j t c1 b a1 a2)

  -- a mark of another thread stays
  other-mark : (b u : ℕ) → u ≢ t → old.entered b ≡ Some u → new.entered b ≡ Some u
  other-mark b u ne e = mark-stays b
      (λ x comes same. none-some u (sym (free_of j c1 made.free_one x comes) ∙ (ap old.entered (sym same) ∙ e)))
      (λ x goes same. ne (same_Some u t (sym e ∙ (ap old.entered same ∙ sound.entered j x t (left_one x goes)))))
      (λ x comes same. none-some u (sym (free_of k c2 made.free_two x comes) ∙ (ap old.entered (sym same) ∙ e)))
      (λ x goes same. ne (same_Some u t (sym e ∙ (ap old.entered same ∙ sound.entered k x t (left_two x goes)))))
      ∙ e

  -- where both sections are entered, their marks are the thread's, and so are those that were
  came-mark : (a b : Key) → c1 ≡ Comes a → c2 ≡ Comes b → (y : ℕ) → ((y ≡ bucket (key j a)) ⊎ (y ≡ bucket (key k b)))
      ⊎ (old.entered y ≡ Some t) → new.entered y ≡ Some t
  came-mark a b e f y which = made.entered y ∙ (ap (λ c. entered_after bucket (λ z. middle z) k t c y) f ∙ ⊎_elim
      (λ same. ap (put (λ z. middle z) (bucket (key k b)) (Some t)) same ∙ put-same (λ z. middle z) (bucket (key k b))
      (Some t))
      (λ ne. put-other (λ z. middle z) (bucket (key k b)) (Some t) y ne
      ∙ (ap (λ c. entered_after bucket old.entered j t c y) e ∙ first ne which))
      (cases_eq y (bucket (key k b))))
    where
      first : y ≢ bucket (key k b) → ((y ≡ bucket (key j a)) ⊎ (y ≡ bucket (key k b))) ⊎ (old.entered y ≡ Some t)
          → put old.entered (bucket (key j a)) (Some t) y ≡ Some t
      first ne (inl (inl same)) = ap (put old.entered (bucket (key j a)) (Some t)) same
          ∙ put-same old.entered (bucket (key j a)) (Some t)
      first ne (inl (inr same)) = absurd (ne same)
      first ne (inr was) = ⊎_elim
          (λ same. ap (put old.entered (bucket (key j a)) (Some t)) same ∙ put-same old.entered (bucket (key j a))
          (Some t))
          (λ other. put-other old.entered (bucket (key j a)) (Some t) y other ∙ was)
          (cases_eq y (bucket (key j a)))

  -- one that leaves a section of a lock is in none there afterwards
  gone_there : (l : L) (a x : Key) → rules.inside l a t ≡ 1 → crossed (Goes a) x (rules.inside l x t) ≡ 1 → ⊥
  gone_there l First First was h = omega (arith, h)
  gone_there l Second Second was h = omega (arith, h)
  gone_there l First Second was h = omega (arith, h, was, are.one l t)
  gone_there l Second First was h = omega (arith, h, was, are.one l t)

  -- one that enters a section is inside it, or was inside another
  came_there : (l : L) (a x : Key) → crossed (Comes a) x (rules.inside l x t) ≡ 1 → (x ≡ a) ⊎ (rules.inside l x t ≡ 1)
  came_there l First First h = inl refl
  came_there l Second Second h = inl refl
  came_there l First Second h = inr h
  came_there l Second First h = inr h

  -- the mark of a section that the thread itself is inside
  own : (d1 d2 : Crossing) → c1 ≡ d1 → c2 ≡ d2 → AreTogether d1 d2 → (i : ℕ) (x : Key) → ((i ≡ j) ⊎ (i ≡ k))
      → inside_of new i x t ≡ 1 → new.entered (bucket (key i x)) ≡ Some t
  own Stays Stays e f both i x (inl at) h =
      let was : inside_of old j x t ≡ 1 = ap (λ c. crossed c x (inside_of old j x t)) (sym e)
      ∙ (sym (mine_one x) ∙ (ap (λ y. inside_of new y x t) (sym at) ∙ h)) in
      mark-stays (bucket (key i x)) (λ y c. absurd (let z : Stays ≡ Comes y = sym e ∙ c in cc))
      (λ y c. absurd (let z : Stays ≡ Goes y = sym e ∙ c in cc))
      (λ y c. absurd (let z : Stays ≡ Comes y = sym f ∙ c in cc))
      (λ y c. absurd (let z : Stays ≡ Goes y = sym f ∙ c in cc))
      ∙ (ap (λ y. old.entered (bucket (key y x))) at ∙ sound.entered j x t was)
  own Stays Stays e f both i x (inr at) h =
      let was : inside_of old k x t ≡ 1 = ap (λ c. crossed c x (inside_of old k x t)) (sym f)
      ∙ (sym (mine_two x) ∙ (ap (λ y. inside_of new y x t) (sym at) ∙ h)) in
      mark-stays (bucket (key i x)) (λ y c. absurd (let z : Stays ≡ Comes y = sym e ∙ c in cc))
      (λ y c. absurd (let z : Stays ≡ Goes y = sym e ∙ c in cc))
      (λ y c. absurd (let z : Stays ≡ Comes y = sym f ∙ c in cc))
      (λ y c. absurd (let z : Stays ≡ Goes y = sym f ∙ c in cc))
      ∙ (ap (λ y. old.entered (bucket (key y x))) at ∙ sound.entered k x t was)
  own (Comes a) (Comes b) e f both i x (inl at) h =
      let now : crossed (Comes a) x (inside_of old j x t) ≡ 1 = ap (λ c. crossed c x (inside_of old j x t)) (sym e)
      ∙ (sym (mine_one x) ∙ (ap (λ y. inside_of new y x t) (sym at) ∙ h)) in
      came-mark a b e f (bucket (key i x)) (⊎_elim
      (λ (same : x ≡ a). inl (inl (ap (λ y. bucket (key y x)) at ∙ ap (λ y. bucket (key j y)) same)))
      (λ (was : inside_of old j x t ≡ 1). inr (ap (λ y. old.entered (bucket (key y x))) at ∙ sound.entered j x t was))
      (came_there (old.locks j) a x now))
  own (Comes a) (Comes b) e f both i x (inr at) h =
      let now : crossed (Comes b) x (inside_of old k x t) ≡ 1 = ap (λ c. crossed c x (inside_of old k x t)) (sym f)
      ∙ (sym (mine_two x) ∙ (ap (λ y. inside_of new y x t) (sym at) ∙ h)) in
      came-mark a b e f (bucket (key i x)) (⊎_elim
      (λ (same : x ≡ b). inl (inr (ap (λ y. bucket (key y x)) at ∙ ap (λ y. bucket (key k y)) same)))
      (λ (was : inside_of old k x t ≡ 1). inr (ap (λ y. old.entered (bucket (key y x))) at ∙ sound.entered k x t was))
      (came_there (old.locks k) b x now))
  own (Goes a) (Goes b) e f both i x (inl at) h =
      absurd (gone_there (old.locks j) a x (left_one a e)
      (ap (λ c. crossed c x (inside_of old j x t)) (sym e)
      ∙ (sym (mine_one x) ∙ (ap (λ y. inside_of new y x t) (sym at) ∙ h))))
  own (Goes a) (Goes b) e f both i x (inr at) h =
      absurd (gone_there (old.locks k) b x (left_two b f)
      (ap (λ c. crossed c x (inside_of old k x t)) (sym f)
      ∙ (sym (mine_two x) ∙ (ap (λ y. inside_of new y x t) (sym at) ∙ h))))
  own Stays (Comes b) e f both i x at h = absurd both
  own Stays (Goes b) e f both i x at h = absurd both
  own (Comes a) Stays e f both i x at h = absurd both
  own (Comes a) (Goes b) e f both i x at h = absurd both
  own (Goes a) Stays e f both i x at h = absurd both
  own (Goes a) (Comes b) e f both i x at h = absurd both

  entered : (i : ℕ) (x : Key) (u : ℕ) → inside_of new i x u ≡ 1 → new.entered (bucket (key i x)) ≡ Some u
  entered i x u h = ⊎_elim
      (λ (e : u ≡ t).
      let mine : inside_of new i x t ≡ 1 = ap (λ y. inside_of new i x y) (sym e) ∙ h in
      ⊎_elim
      (λ at. own c1 c2 refl refl made.together i x (inl at) mine ∙ ap (λ y. Some y) (sym e))
      (λ nj. ⊎_elim
      (λ at. own c1 c2 refl refl made.together i x (inr at) mine ∙ ap (λ y. Some y) (sym e))
      (λ nk. absurd (omega (arith, mine, nowhere_else i x nj nk)))
      (cases_eq i k))
      (cases_eq i j))
      (λ ne. other-mark (bucket (key i x)) u ne (sound.entered i x u (sym (others i x u ne) ∙ h)))
      (cases_eq u t)

  came_inside : (c : Crossing) (x : Key) (n : ℕ) → c ≡ Comes x → crossed c x n ≡ 1
  came_inside c First n e = ap (λ d. crossed d First n) e
  came_inside c Second n e = ap (λ d. crossed d Second n) e

  still_there : (c : Crossing) (x : Key) (n : ℕ) → n ≡ 1 → ((y : Key) → c ≡ Goes y → x ≢ y) → crossed c x n ≡ 1
  still_there Stays x n was apart = was
  still_there (Comes First) First n was apart = refl
  still_there (Comes First) Second n was apart = was
  still_there (Comes Second) First n was apart = was
  still_there (Comes Second) Second n was apart = refl
  still_there (Goes First) First n was apart = absurd (apart First refl refl)
  still_there (Goes First) Second n was apart = was
  still_there (Goes Second) First n was apart = was
  still_there (Goes Second) Second n was apart = absurd (apart Second refl refl)

  abbrev Marked : ℕ → ℕ → Type 0
  Marked b u = (i : ℕ) × (x : Key) × (bucket (key i x) ≡ b) × (inside_of new i x u ≡ 1)

  -- a mark that was there, and isn't one of a section that is left
  was_marked : (b u : ℕ) → old.entered b ≡ Some u → ((x : Key) → c1 ≡ Goes x → b ≢ bucket (key j x))
      → ((x : Key) → c2 ≡ Goes x → b ≢ bucket (key k x)) → Marked b u
  was_marked b u e gone_one gone_two =
      let was = sound.is_inside b u e in (
        was.0,
        was.1,
        was.2,
        ⊎_elim
            (λ (mine : u ≡ t). ap (λ y. inside_of new was.0 was.1 y) mine
            ∙ stays was.0 was.1 was.2 (ap (λ y. inside_of old was.0 was.1 y) (sym mine) ∙ was.3))
            (λ ne. others was.0 was.1 u ne ∙ was.3)
            (cases_eq u t),
      )
    where
      stays : (i : ℕ) (x : Key) → bucket (key i x) ≡ b → inside_of old i x t ≡ 1 → inside_of new i x t ≡ 1
      stays i x there h = ⊎_elim
          (λ at. ap (λ y. inside_of new y x t) at
          ∙ (mine_one x ∙ still_there c1 x (inside_of old j x t) (ap (λ y. inside_of old y x t) (sym at) ∙ h)
          (λ y goes same. gone_one y goes
          (sym there ∙ (ap (λ z. bucket (key z x)) at ∙ ap (λ z. bucket (key j z)) same)))))
          (λ nj. ⊎_elim
          (λ at. ap (λ y. inside_of new y x t) at
          ∙ (mine_two x ∙ still_there c2 x (inside_of old k x t) (ap (λ y. inside_of old y x t) (sym at) ∙ h)
          (λ y goes same. gone_two y goes
          (sym there ∙ (ap (λ z. bucket (key z x)) at ∙ ap (λ z. bucket (key k z)) same)))))
          (λ nk. absurd (omega (arith, h, was_nowhere_else i x nj nk)))
          (cases_eq i k))
          (cases_eq i j)

  -- who has a mark afterwards
  marks : (d1 d2 : Crossing) → c1 ≡ d1 → c2 ≡ d2 → AreTogether d1 d2 → (b u : ℕ)
      → entered_after bucket (λ y. entered_after bucket old.entered j t d1 y) k t d2 b ≡ Some u → Marked b u
  marks Stays Stays e f both b u h = was_marked b u h (λ x goes. absurd (let z : Stays ≡ Goes x = sym e ∙ goes in cc))
      (λ x goes. absurd (let z : Stays ≡ Goes x = sym f ∙ goes in cc))
  marks (Comes x) (Comes y) e f both b u h = ⊎_elim
      (λ same.
      let mine : t ≡ u =
      same_Some t u (sym (put-same (λ z. put old.entered (bucket (key j x)) (Some t) z) (bucket (key k y)) (Some t))
      ∙ (ap (put (λ z. put old.entered (bucket (key j x)) (Some t) z) (bucket (key k y)) (Some t)) (sym same) ∙ h))
      in (
        k,
        y,
        sym same,
        ap (λ v. inside_of new k y v) (sym mine)
            ∙ (mine_two y ∙ came_inside c2 y (inside_of old k y t) f),
      ))
      (λ ne. first (sym (put-other (λ z. put old.entered (bucket (key j x)) (Some t) z) (bucket (key k y)) (Some t) b
      ne) ∙ h))
      (cases_eq b (bucket (key k y)))
    where
      first : put old.entered (bucket (key j x)) (Some t) b ≡ Some u → Marked b u
      first h = ⊎_elim
          (λ same.
          let mine : t ≡ u =
          same_Some t u (sym (put-same old.entered (bucket (key j x)) (Some t))
          ∙ (ap (put old.entered (bucket (key j x)) (Some t)) (sym same) ∙ h)) in (
            j,
            x,
            sym same,
            ap (λ v. inside_of new j x v) (sym mine)
                ∙ (mine_one x ∙ came_inside c1 x (inside_of old j x t) e),
          ))
          (λ ne. was_marked b u (sym (put-other old.entered (bucket (key j x)) (Some t) b ne) ∙ h)
          (λ z goes. absurd (let w : Comes x ≡ Goes z = sym e ∙ goes in cc))
          (λ z goes. absurd (let w : Comes y ≡ Goes z = sym f ∙ goes in cc)))
          (cases_eq b (bucket (key j x)))
  marks (Goes x) (Goes y) e f both b u h = ⊎_elim
      (λ same. absurd (none-some u
      (sym (put-same (λ z. put old.entered (bucket (key j x)) None z) (bucket (key k y)) None)
      ∙ (ap (put (λ z. put old.entered (bucket (key j x)) None z) (bucket (key k y)) None) (sym same) ∙ h))))
      (λ ne. first ne (sym (put-other (λ z. put old.entered (bucket (key j x)) None z) (bucket (key k y)) None b ne)
      ∙ h))
      (cases_eq b (bucket (key k y)))
    where
      first : b ≢ bucket (key k y) → put old.entered (bucket (key j x)) None b ≡ Some u → Marked b u
      first apart h = ⊎_elim
          (λ same. absurd (none-some u
          (sym (put-same old.entered (bucket (key j x)) None)
          ∙ (ap (put old.entered (bucket (key j x)) None) (sym same) ∙ h))))
          (λ ne. was_marked b u (sym (put-other old.entered (bucket (key j x)) None b ne) ∙ h)
          (λ z goes same. ne (same ∙ ap (λ w. bucket (key j w)) (let w : Goes z ≡ Goes x = sym goes ∙ e in cc)))
          (λ z goes same. apart (same ∙ ap (λ w. bucket (key k w)) (let w : Goes z ≡ Goes y = sym goes ∙ f in cc))))
          (cases_eq b (bucket (key j x)))
  marks Stays (Comes y) e f both b u h = absurd both
  marks Stays (Goes y) e f both b u h = absurd both
  marks (Comes x) Stays e f both b u h = absurd both
  marks (Comes x) (Goes y) e f both b u h = absurd both
  marks (Goes x) Stays e f both b u h = absurd both
  marks (Goes x) (Comes y) e f both b u h = absurd both

  pub both_sound : SoundFamilyOf rules.sound rules.inside bucket new
  both_sound = record {
    sound = λ i. ⊎_elim
        (λ e. subst rules.sound (sym (ap new.locks e ∙ made.here_one))
        (opt_keeps rules are j t (old.locks j) one (sound.sound j) made.allowed_one))
        (λ nj. ⊎_elim
        (λ e. subst rules.sound (sym (ap new.locks e ∙ made.here_two))
        (opt_keeps rules are k t (old.locks k) two (sound.sound k) made.allowed_two))
        (λ nk. subst rules.sound (sym (made.elsewhere i nj nk)) (sound.sound i))
        (cases_eq i k))
        (cases_eq i j);
    entered = entered;
    is_inside = λ b u h. marks c1 c2 refl refl made.together b u (sym (made.entered b) ∙ h);
  }
