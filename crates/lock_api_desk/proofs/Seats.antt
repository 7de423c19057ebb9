-- What a desk keeps as entries come, go and change.
use Rattle.std.proofs.Common.{◌≡◌, ℕ, Bool, true, false, not, ◌<◌, List, [], ◌∷◌, ◌++◌, length, get_or, set, remove}
use Rattle.std.proofs.Common.{Option, Some, None, slice_get, position, refl, sym, ap, subst, ◌∙◌, arith}
use Rattle.std.specs.Option.{option_map, IfSome}
use Rattle.std.proofs.lemmas.Option.{slice_get-map, slice_get-get_or, slice_get_within, same_Some}
use Rattle.std.proofs.lemmas.Bool.{eqb-true, and_parts, not-true}
use Rattle.std.proofs.lemmas.List.Quantifiers.{position-Some}
use Rattle.std.proofs.lemmas.List.{map-set, map-append, length-map}
use Rattle.lock_api_desk.specs.declared.mode.Mode.{Mode}
use Rattle.lock_api_desk.specs.declared.hold.Hold.{Hold}
use Rattle.lock_api_desk.specs.declared.hold.Entry.{Entry}
use Rattle.lock_api_desk.specs.Guards.{Guard, has_number, guard_of, amend, without, held_in, put_aside, is_in_use}
use Rattle.lock_api_desk.specs.Guards.{excluded, is_full, granted}
use Rattle.lock_api_desk.specs.Out.{Out, admits, one_more, IsOrderly, out_of, count_in}
use Rattle.lock_api_desk.specs.Entries.{guard_in, guards_in, mode_of, aside_of, less, more}
use Rattle.lock_api_desk.specs.Desk.{IsSound}
use Rattle.lock_api_desk.specs.Places.{Stands, StandsAt}
use Rattle.lock_api_desk.proofs.Lists.{find-map, map-remove, find-position, find-no_position}
use Rattle.lock_api_desk.proofs.Counting.{out_at, out_of-append, out_of-set, out_of-remove, orderly_more}
use Rattle.lock_api_desk.proofs.Counting.{orderly_without, admits_from}
use Rattle.lock_api_desk.proofs.Numbers.{Distinct, amend_at, without_at, distinct_append, distinct_remove, numbers_set}

-- the entry at that place has the number, and is the first that has
pub record StandsFor {S E U : Type 0} (entries : List (Entry S E U)) (n place : ℕ) (e : Entry S E U) : Type 0 where
  pub at : slice_get entries place ≡ Some e
  pub number_is : e.number ≡ n
  pub found : guard_of n (guards_in entries) ≡ Some (guard_in e)

abbrev pub guard_with : ℕ → ℕ → Mode → Bool → Guard
guard_with number party mode is_aside = record { number = number; mode = mode; party = party; is_aside = is_aside }

module _ {S E U : Type 0} where
  abbrev pub entry_of : ℕ → ℕ → Hold S E U → Entry S E U
  entry_of number party hold = record { number = number; party = party; hold = hold }

  -- the guard of an entry whose hold is known
  pub guard_is : (e : Entry S E U) (mode : Mode) (is_aside : Bool) → mode_of e.hold ≡ mode → aside_of e.hold ≡ is_aside
      → guard_in e ≡ guard_with e.number e.party mode is_aside
  guard_is e mode is_aside modes asides =
      ap (λ m. guard_with e.number e.party m (aside_of e.hold)) modes ∙ ap (λ b. guard_with e.number e.party mode b)
      asides

  guard_at : (entries : List (Entry S E U)) (i : ℕ) (e : Entry S E U) → slice_get entries i ≡ Some e
      → slice_get (guards_in entries) i ≡ Some (guard_in e)
  guard_at entries i e at = slice_get-map guard_in entries i ∙ ap (λ o. option_map guard_in o) at

  pub stands_limit : (l m : ℕ) (out : Out) (entries : List (Entry S E U)) → m ≡ l → Stands l out entries
      → Stands m out entries
  stands_limit l m out entries same s = let P : ℕ → Type 0 = λ n. Stands n out entries in subst P (sym same) s

  -- one more, which the machine admits
  pub stands_append : (limit : ℕ) (out out' : Out) (entries : List (Entry S E U)) (e : Entry S E U)
      → Stands limit out entries → is_in_use e.number (guards_in entries) ≡ false
      → admits limit (mode_of e.hold) out ≡ true → aside_of e.hold ≡ false → out' ≡ one_more (mode_of e.hold) out
      → Stands limit out' (entries ++ e ∷ [])
  stands_append limit out out' entries e s new admitted held next =
      let grown : guards_in (entries ++ e ∷ []) ≡ guards_in entries ++ guard_in e ∷ [] =
      map-append guard_in entries (e ∷ []) in
      let outs : out_of (guards_in entries ++ guard_in e ∷ []) ≡ one_more (mode_of e.hold) (out_of (guards_in entries))
      =
      out_of-append (guards_in entries) (guard_in e) ∙ ap (λ b. more (mode_of e.hold) b (out_of (guards_in entries)))
      held in
      let orderly = orderly_more limit (mode_of e.hold) (out_of (guards_in entries)) s.sound.orderly
      (ap (λ o. admits limit (mode_of e.hold) o) (sym s.out_is) ∙ admitted) in
      record {
        out_is = next ∙ ap (λ o. one_more (mode_of e.hold) o) s.out_is ∙ sym outs ∙ ap (λ gs. out_of gs) (sym grown);
        sound = (let P : List Guard → Type 0 = λ gs. IsSound limit gs in
            subst P (sym grown) (record {
              distinct = distinct_append (guards_in entries) (guard_in e) s.sound.distinct new;
              orderly = (let Q : Out → Type 0 = λ o. IsOrderly limit o in subst Q (sym outs) orderly);
            }));
      }

  -- one changed in its place
  pub stands_set : (limit : ℕ) (out out' : Out) (entries : List (Entry S E U)) (i : ℕ) (e f : Entry S E U)
      → Stands limit out entries → slice_get entries i ≡ Some e → f.number ≡ e.number
      → out' ≡ more (mode_of f.hold) (aside_of f.hold) (less (mode_of e.hold) (aside_of e.hold) out)
      → IsOrderly limit out' → Stands limit out' (set entries i f)
  stands_set limit out out' entries i e f s at same next orderly =
      let placed : guards_in (set entries i f) ≡ set (guards_in entries) i (guard_in f) =
      map-set guard_in entries i f in
      let outs = out_of-set (guards_in entries) i (guard_in e) (guard_in f) (guard_at entries i e at) in
      let is : out' ≡ out_of (set (guards_in entries) i (guard_in f)) =
      next ∙ ap (λ o. more (mode_of f.hold) (aside_of f.hold) (less (mode_of e.hold) (aside_of e.hold) o)) s.out_is
      ∙ sym outs in
      record {
        out_is = is ∙ ap (λ gs. out_of gs) (sym placed);
        sound = (let P : List Guard → Type 0 = λ gs. IsSound limit gs in
            subst P (sym placed) (record {
              distinct = (let D : List ℕ → Type 0 = λ ns. Distinct ns in
                  subst D (sym (numbers_set (guards_in entries) i (guard_in e) (guard_in f) (guard_at entries i e at)
                  same)) s.sound.distinct);
              orderly = (let Q : Out → Type 0 = λ o. IsOrderly limit o in subst Q is orderly);
            }));
      }

  -- one less
  pub stands_remove : (limit : ℕ) (out out' : Out) (entries : List (Entry S E U)) (i : ℕ) (e : Entry S E U)
      → Stands limit out entries → slice_get entries i ≡ Some e → out' ≡ less (mode_of e.hold) (aside_of e.hold) out
      → Stands limit out' (remove entries i)
  stands_remove limit out out' entries i e s at next =
      let left : guards_in (remove entries i) ≡ remove (guards_in entries) i = map-remove guard_in entries i in
      let outs = out_of-remove (guards_in entries) i (guard_in e) (guard_at entries i e at) in
      record {
        out_is = next ∙ ap (λ o. less (mode_of e.hold) (aside_of e.hold) o) s.out_is ∙ sym outs
            ∙ ap (λ gs. out_of gs) (sym left);
        sound = (let P : List Guard → Type 0 = λ gs. IsSound limit gs in
            subst P (sym left) (record {
              distinct = distinct_remove (guards_in entries) i s.sound.distinct;
              orderly = (let Q : Out → Type 0 = λ o. IsOrderly limit o in
                  subst Q (sym outs)
                  (orderly_without limit (mode_of e.hold) (aside_of e.hold) (out_of (guards_in entries))
                  s.sound.orderly));
            }));
      }

  -- the guards after a change in place
  pub guards_set : (change : Guard → Guard) (n limit : ℕ) (out : Out) (entries : List (Entry S E U)) (i : ℕ)
      (e f : Entry S E U) → Stands limit out entries → slice_get entries i ≡ Some e → e.number ≡ n
      → guard_in f ≡ change (guard_in e) → guards_in (set entries i f) ≡ amend change n (guards_in entries)
  guards_set change n limit out entries i e f s at own is =
      map-set guard_in entries i f
      ∙ ap (λ g. set (guards_in entries) i g) is
      ∙ sym (amend_at change n (guards_in entries) i (guard_in e) s.sound.distinct (guard_at entries i e at) own)

  -- the guards after one went
  pub guards_remove : (n limit : ℕ) (out : Out) (entries : List (Entry S E U)) (i : ℕ) (e : Entry S E U)
      → Stands limit out entries → slice_get entries i ≡ Some e → e.number ≡ n → guards_in (remove entries i) ≡ without
      n (guards_in entries)
  guards_remove n limit out entries i e s at own =
      map-remove guard_in entries i
      ∙ sym (without_at n (guards_in entries) i (guard_in e) s.sound.distinct (guard_at entries i e at) own)

  -- where the number stands first
  pub place_at : (entries : List (Entry S E U)) (n place : ℕ) (e : Entry S E U)
      → position (λ x. has_number n (guard_in x)) entries ≡ Some place → e ≡ get_or entries place e
      → StandsFor entries n place e
  place_at entries n place e first is =
      let f = find-position (λ x. has_number n (guard_in x)) entries place first in
      let here = slice_get-get_or entries place e f.1 ∙ ap (λ x. Some x) (sym is) in
      let p = position-Some (λ x. has_number n (guard_in x)) entries place e first in
      record {
        at = here;
        number_is = eqb-true e.number n (ap (λ x. has_number n (guard_in x)) is ∙ p.1);
        found = find-map guard_in (has_number n) entries ∙ ap (λ o. option_map guard_in o) (f.0 ∙ here);
      }

  pub no_place : (entries : List (Entry S E U)) (n : ℕ) → position (λ x. has_number n (guard_in x)) entries ≡ None
      → guard_of n (guards_in entries) ≡ None
  no_place entries n none =
      find-map guard_in (has_number n) entries
      ∙ ap (λ o. option_map guard_in o) (find-no_position (λ x. has_number n (guard_in x)) entries none)

  pub stands_at : (entries : List (Entry S E U)) (n place : ℕ) (e : Entry S E U) → StandsFor entries n place e
      → StandsAt n (guards_in entries) place
  stands_at entries n place e s = record {
    guard = guard_in e;
    at = guard_at entries place e s.at;
    number_is = s.number_is;
    found = s.found;
  }

  -- a place of the guards is one of the entries
  pub within_at : (entries : List (Entry S E U)) (n place : ℕ) → StandsAt n (guards_in entries) place
      → place < length entries
  within_at entries n place s =
      let within = slice_get_within (guards_in entries) place s.guard s.at in
      let long = length-map entries guard_in in
      omega arith

  pub entry_at : (entries : List (Entry S E U)) (n place : ℕ) (e : Entry S E U) → StandsAt n (guards_in entries) place
      → e ≡ get_or entries place e → StandsFor entries n place e
  entry_at entries n place e s is =
      let here = slice_get-get_or entries place e (within_at entries n place s) ∙ ap (λ x. Some x) (sym is) in
      let same = same_Some (guard_in e) s.guard (sym (guard_at entries place e here) ∙ s.at) in
      record {
        at = here;
        number_is = ap (λ g. g.number) same ∙ s.number_is;
        found = s.found ∙ ap (λ g. Some g) (sym same);
      }

  -- the hold of an entry is out
  pub hold_out : (limit : ℕ) (out : Out) (entries : List (Entry S E U)) (n place : ℕ) (e : Entry S E U)
      → Stands limit out entries → StandsFor entries n place e → aside_of e.hold ≡ false
      → 0 < count_in (mode_of e.hold) out
  hold_out limit out entries n place e s f held =
      let P : Out → Type 0 = λ o. 0 < count_in (mode_of e.hold) o in
      subst P (sym s.out_is) (out_at (guards_in entries) place (guard_in e) (guard_at entries place e f.at) held)

  -- so is that of a hold taken from it
  pub taken_out : (limit : ℕ) (out : Out) (entries : List (Entry S E U)) (n place : ℕ) (e : Entry S E U)
      (h : Hold S E U) → Stands limit out entries → StandsFor entries n place e → h ≡ e.hold → aside_of h ≡ false
      → 0 < count_in (mode_of h) out
  taken_out limit out entries n place e h s f same held =
      let P : Hold S E U → Type 0 = λ k. 0 < count_in (mode_of k) out in
      subst P (sym same) (hold_out limit out entries n place e s f (sym (ap aside_of same) ∙ held))

  -- what is admitted in place of the guard is admitted in place of its hold
  pub admitted_for : (limit : ℕ) (out : Out) (mode : Mode) (entries : List (Entry S E U)) (n place : ℕ)
      (e : Entry S E U) (h : Hold S E U) → Stands limit out entries → StandsFor entries n place e → h ≡ e.hold
      → IfSome (guard_of n (guards_in entries))
      (λ held. admits limit mode (less held.mode held.is_aside (out_of (guards_in entries))) ≡ true)
      → admits limit mode (less (mode_of h) (aside_of h) out) ≡ true
  admitted_for limit out mode entries n place e h s f same next =
      let P : Option Guard → Type 0 =
      λ o. IfSome o (λ held. admits limit mode (less held.mode held.is_aside (out_of (guards_in entries))) ≡ true)
      in
      let here : admits limit mode (less (mode_of e.hold) (aside_of e.hold) (out_of (guards_in entries))) ≡ true =
      subst P f.found next in
      ap (λ k. admits limit mode (less (mode_of k) (aside_of k) out)) same
      ∙ ap (λ o. admits limit mode (less (mode_of e.hold) (aside_of e.hold) o)) s.out_is
      ∙ here

  -- the hold turned into one of the mode
  pub stands_turned : (limit : ℕ) (out out' : Out) (mode : Mode) (entries : List (Entry S E U)) (n place : ℕ)
      (e : Entry S E U) (h k : Hold S E U) → Stands limit out entries → StandsFor entries n place e → h ≡ e.hold
      → admits limit mode (less (mode_of h) (aside_of h) out) ≡ true → mode_of k ≡ mode → aside_of k ≡ false
      → out' ≡ one_more mode (less (mode_of h) (aside_of h) out)
      → Stands limit out' (set entries place (entry_of e.number e.party k))
  stands_turned limit out out' mode entries n place e h k s f same admitted modes held next =
      let old = s.sound.orderly in
      let P : Out → Type 0 = λ o. IsOrderly limit o in
      let mid = orderly_without limit (mode_of h) (aside_of h) out (subst P (sym s.out_is) old) in
      let orderly = subst P (sym next) (orderly_more limit mode (less (mode_of h) (aside_of h) out) mid admitted) in
      let outs : out' ≡ more (mode_of k) (aside_of k) (less (mode_of e.hold) (aside_of e.hold) out) =
      next
      ∙ ap (λ j. one_more mode (less (mode_of j) (aside_of j) out)) same
      ∙ ap (λ m. one_more m (less (mode_of e.hold) (aside_of e.hold) out)) (sym modes)
      ∙ ap (λ b. more (mode_of k) b (less (mode_of e.hold) (aside_of e.hold) out)) (sym held) in
      stands_set limit out out' entries place e (entry_of e.number e.party k) s f.at refl outs orderly

  pub guards_turned : (limit : ℕ) (out : Out) (mode : Mode) (entries : List (Entry S E U)) (n place : ℕ)
      (e : Entry S E U) (k : Hold S E U) → Stands limit out entries → StandsFor entries n place e → mode_of k ≡ mode
      → aside_of k ≡ false → guards_in (set entries place (entry_of e.number e.party k)) ≡ amend (held_in mode) n
      (guards_in entries)
  guards_turned limit out mode entries n place e k s f modes held =
      guards_set (held_in mode) n limit out entries place e (entry_of e.number e.party k) s f.at f.number_is
      (guard_is (entry_of e.number e.party k) mode false modes held)

  -- the hold given back, and its mode kept
  pub stands_put_aside : (limit : ℕ) (out out' : Out) (entries : List (Entry S E U)) (n place : ℕ) (e : Entry S E U)
      (h k : Hold S E U) → Stands limit out entries → StandsFor entries n place e → h ≡ e.hold → aside_of k ≡ true
      → out' ≡ less (mode_of h) (aside_of h) out → Stands limit out' (set entries place (entry_of e.number e.party k))
  stands_put_aside limit out out' entries n place e h k s f same aside next =
      let P : Out → Type 0 = λ o. IsOrderly limit o in
      let mid = orderly_without limit (mode_of h) (aside_of h) out (subst P (sym s.out_is) s.sound.orderly) in
      let outs : out' ≡ more (mode_of k) (aside_of k) (less (mode_of e.hold) (aside_of e.hold) out) =
      next
      ∙ ap (λ j. less (mode_of j) (aside_of j) out) same
      ∙ ap (λ b. more (mode_of k) b (less (mode_of e.hold) (aside_of e.hold) out)) (sym aside) in
      stands_set limit out out' entries place e (entry_of e.number e.party k) s f.at refl outs (subst P (sym next) mid)

  pub guards_put_aside : (limit : ℕ) (out : Out) (entries : List (Entry S E U)) (n place : ℕ) (e : Entry S E U)
      (k : Hold S E U) → Stands limit out entries → StandsFor entries n place e → mode_of k ≡ mode_of e.hold
      → aside_of k ≡ true → guards_in (set entries place (entry_of e.number e.party k)) ≡ amend (put_aside true) n
      (guards_in entries)
  guards_put_aside limit out entries n place e k s f modes aside =
      guards_set (put_aside true) n limit out entries place e (entry_of e.number e.party k) s f.at f.number_is
      (guard_is (entry_of e.number e.party k) (mode_of e.hold) true modes aside)

  -- what the machine grants the raw state admits
  pub admitted_now : (limit : ℕ) (out : Out) (mode : Mode) (entries : List (Entry S E U)) → Stands limit out entries
      → granted limit mode (guards_in entries) ≡ true → admits limit mode out ≡ true
  admitted_now limit out mode entries s grant =
      let parts = and_parts (not (excluded mode (guards_in entries))) (not (is_full limit mode (guards_in entries)))
      grant in
      ap (λ o. admits limit mode o) s.out_is
      ∙ admits_from limit mode (guards_in entries) (not-true (excluded mode (guards_in entries)) parts.0)
      (not-true (is_full limit mode (guards_in entries)) parts.1)
