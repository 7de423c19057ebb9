-- A block that is settled: what it left is what its keys have now, and that stays so.
use Rattle.std.proofs.Common.{◌≡◌, ℕ, zero, suc, ◌<◌, ◌⊎◌, inl, inr, ⊎_elim, List, [], ◌∷◌, ◌++◌, length, Option, Some}
use Rattle.std.proofs.Common.{None, slice_get, slice_set, take, fold, refl, ap, sym, ◌∙◌, subst, arith}
use Rattle.std.proofs.lemmas.Bool.{cases_lt}
use Rattle.std.proofs.lemmas.List.{take-append-le}
use Rattle.std.proofs.lemmas.Option.{same_Some, none-some, slice_get_within}
use Rattle.std.proofs.Math.Seq.{take-append_seam}
use Rattle.mapworld_calls.specs.Frame.{Frame, IsOn, KeepsToShard, contents, before, AreApart, IsLastOnShard, IsSettled}
use Rattle.mapworld_calls.specs.Frame.{IsQuiet, Grows}
use Rattle.mapworld_calls.specs.Laws.{StaysSettled}
use Rattle.mapworld_calls.proofs.Lists.{slice_get-set_cases, slice_get-push_cases}
use Rattle.mapworld_calls.proofs.Frames.{apart-idle, alike-elsewhere, turn-alike}

take_suc : {B O : Type 0} (g : O → B → O) (a : O) (bs : List B) (j : ℕ) (d : B) → slice_get bs j ≡ Some d
    → fold g a (take (suc j) bs) ≡ g (fold g a (take j bs)) d
take_suc g a [] j d at = absurd (none-some d at)
take_suc g a (x ∷ bs) zero d at = ap (λ y. g a y) (same_Some x d at)
take_suc g a (x ∷ bs) (suc j) d at = take_suc g (g a x) bs j d at

take_past : {B : Type 0} (bs : List B) (j : ℕ) → slice_get bs j ≡ None → take (suc j) bs ≡ take j bs
take_past [] zero out = refl
take_past [] (suc j) out = refl
take_past (x ∷ bs) zero out = absurd (none-some x (sym out))
take_past (x ∷ bs) (suc j) out = ap (λ xs. x ∷ xs) (take_past bs j out)

pub take_all : {B : Type 0} (bs : List B) → take (length bs) bs ≡ bs
take_all [] = refl
take_all (x ∷ bs) = ap (λ xs. x ∷ xs) (take_all bs)

module _ {B K O : Type 0} (f : Frame B K O) (keeps : KeepsToShard f) (bs : List B) (i : ℕ) (b : B) where
  pub last-settled : IsLastOnShard f bs i b → IsSettled f bs i b
  last-settled last j d lt at q on = apart-idle f keeps b d q (last j d lt at) on (before f bs j q)

  settled-on : IsSettled f bs i b → (j : ℕ) (o : Option B) → slice_get bs j ≡ o → i < j → (q : K) → IsOn f b q
      → before f bs (suc j) q ≡ before f bs j q
  settled-on settled j None at lt q on = ap (λ xs. contents f xs q) (take_past bs j at)
  settled-on settled j (Some d) at lt q on =
      take_suc (λ o x. f.left x q o) (f.opening q) bs j d at ∙ settled j d lt at q on

  settled-till : slice_get bs i ≡ Some b → IsSettled f bs i b → (j : ℕ) → i < j → (q : K) → IsOn f b q
      → before f bs j q ≡ f.left b q (before f bs i q)
  settled-till listed settled zero lt q on = absurd (omega arith)
  settled-till listed settled (suc j) lt q on =
      ⊎_elim
      (λ more. settled-on settled j (slice_get bs j) refl more q on ∙ settled-till listed settled j more q on)
      (λ le. let same : j ≡ i = omega arith in
      subst (λ (k : ℕ). before f bs (suc k) q ≡ f.left b q (before f bs i q)) (sym same)
      (take_suc (λ o x. f.left x q o) (f.opening q) bs i b listed))
      (cases_lt i j)

  -- what it left is what its keys have now
  pub settled-contents : slice_get bs i ≡ Some b → IsSettled f bs i b → (q : K) → IsOn f b q
      → contents f bs q ≡ f.left b q (before f bs i q)
  settled-contents listed settled q on =
      ap (λ xs. contents f xs q) (sym (take_all bs))
      ∙ settled-till listed settled (length bs) (slice_get_within bs i b listed) q on

  -- a new block at the end that changes nothing of it, or is on another shard
  pub settled-push : slice_get bs i ≡ Some b → IsSettled f bs i b → (x : B)
      → ((q : K) → IsOn f b q → f.left x q (contents f bs q) ≡ contents f bs q) → IsSettled f (bs ++ x ∷ []) i b
  settled-push listed settled x idle j d lt at q on =
      elim (slice_get-push_cases bs j d x at) [
        | inl old ↦
            let within : j < length bs = slice_get_within bs j d old in
            let same : before f (bs ++ x ∷ []) j q ≡ before f bs j q =
            ap (λ xs. contents f xs q) (take-append-le j bs (x ∷ []) (omega arith)) in
            ap (λ o. f.left d q o) same ∙ settled j d lt old q on ∙ sym same
        | inr new ↦
            let same : before f (bs ++ x ∷ []) j q ≡ contents f bs q = ap (λ n. before f (bs ++ x ∷ []) n q) new.0
            ∙ ap (λ xs. contents f xs q) (take-append_seam bs (x ∷ [])) in
            ap (λ o. f.left d q o) same ∙ ap (λ e. f.left e q (contents f bs q)) new.1 ∙ idle q on ∙ sym same
      ]

module _ {B K O : Type 0} (f : Frame B K O) (keeps : KeepsToShard f) (bs : List B) (i : ℕ) (b c : B)
    (g : Grows f bs i b c) where
  settled-step : (k : ℕ) (d : B) (q : K) → IsOn f d q → (f.left c q (before f bs i q) ≡ f.left b q (before f bs i q))
      → ((j : ℕ) (e : B) → k < j → slice_get bs j ≡ Some e → f.left e q (before f bs j q) ≡ before f bs j q)
      → (j : ℕ) (e : B) → k < j → slice_get (slice_set bs i c) j ≡ Some e → f.left e q (before f (slice_set bs i c) j q)
      ≡ before f (slice_set bs i c) j q
  settled-step k d q on alike settled j e lt at =
      let same = turn-alike f keeps bs i b c g j q alike in
      elim (slice_get-set_cases bs i j b e c g.listed at) [
        | inl own ↦
            let here : before f bs j q ≡ before f bs i q = ap (λ n. before f bs n q) own.0 in
            let was : f.left b q (before f bs i q) ≡ before f bs i q =
            subst (λ (n : ℕ). k < n → f.left b q (before f bs n q) ≡ before f bs n q) own.0
            (λ l. settled j b l (subst (λ (n : ℕ). slice_get bs n ≡ Some b) (sym own.0) g.listed))
            (subst (λ (n : ℕ). k < n) own.0 lt) in
            ap (λ o. f.left e q o) (same ∙ here) ∙ ap (λ x. f.left x q (before f bs i q)) own.1 ∙ alike ∙ was
            ∙ sym (same ∙ here)
        | inr other ↦ ap (λ o. f.left e q o) same ∙ settled j e lt other.1 ∙ sym same
      ]

  -- what changes nothing leaves each block settled, and what is on another shard than the block leaves that one so
  pub settled-grown : (k : ℕ) (d : B) → IsQuiet f bs i b c ⊎ AreApart f d b → IsSettled f bs k d
      → IsSettled f (slice_set bs i c) k d
  settled-grown k d quiet settled j e lt at q on =
      settled-step k d q on
      (⊎_elim (λ h. h q) (λ apart. alike-elsewhere f keeps bs i b c g q (λ mine. apart (f.route q) on mine)) quiet)
      (λ n x l h. settled n x l h q on) j e lt at

  -- the grown block itself
  pub settled-own : IsQuiet f bs i b c → IsSettled f bs i b → IsSettled f (slice_set bs i c) i c
  settled-own quiet settled j e lt at q on =
      settled-step i b q (sym g.shard ∙ on) (quiet q) (λ n x l h. settled n x l h q (sym g.shard ∙ on)) j e lt at

  pub last-own : IsLastOnShard f bs i b → IsLastOnShard f (slice_set bs i c) i c
  last-own last j e lt at s mine its =
      elim (slice_get-set_cases bs i j b e c g.listed at) [
        | inl own ↦ let same = own.0 in absurd (omega arith)
        | inr other ↦ last j e lt other.1 s (sym g.shard ∙ mine) its
      ]

  -- a block that was the last on its shard still is
  pub last-grown : (k : ℕ) (d : B) → IsLastOnShard f bs k d → IsLastOnShard f (slice_set bs i c) k d
  last-grown k d last j e lt at s mine its =
      elim (slice_get-set_cases bs i j b e c g.listed at) [
        | inl own ↦ last j b lt (subst (λ (n : ℕ). slice_get bs n ≡ Some b) (sym own.0) g.listed) s mine
            (sym g.shard ∙ sym (ap (λ x. f.shard x) own.1) ∙ its)
        | inr other ↦ last j e lt other.1 s mine its
      ]

pub stays-settled : {B K O : Type 0} (f : Frame B K O) → KeepsToShard f → (bs : List B) (i : ℕ) (b c : B)
    → Grows f bs i b c → StaysSettled f bs i b c
stays-settled f keeps bs i b c g =
    record {
      another = settled-grown f keeps bs i b c g;
      itself = settled-own f keeps bs i b c g;
      last_is_settled = last-settled f keeps bs i b;
      last_stays = last-own f keeps bs i b c g;
      others_stay_last = last-grown f keeps bs i b c g;
    }
