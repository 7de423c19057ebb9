-- What the replay gives at a key: equal keys have equal contents, and a block with a key changes its own key alone.
use Rattle.std.proofs.Common.{◌≡◌, ℕ, true, false, List, [], ◌∷◌, ◌++◌, Option, Some, None, take, fold, refl, ap, sym}
use Rattle.std.proofs.Common.{◌∙◌}
use Rattle.std.specs.List.{list_any}
use Rattle.std.specs.Option.{option_and_then}
use Rattle.std.proofs.Math.Path.{fun_ext}
use Rattle.std.proofs.lemmas.Option.{none-some, same_Some}
use Rattle.mapworld_calls.specs.declared.ask.Ask.{Ask}
use Rattle.mapworld_calls.specs.declared.ask.Ask.TheVariants as ask
use Rattle.mapworld_calls.specs.declared.ask.Walk.{Walk}
use Rattle.mapworld_calls.specs.declared.block.Block.{Block}
use Rattle.mapworld_calls.specs.Pairs.{opening_pair}
use Rattle.mapworld_calls.specs.Programs.{key_of}
use Rattle.mapworld_calls.specs.Calls.{pair_in}
use Rattle.mapworld_calls.specs.Setup.{Setup, Laws, ask_at}
use Rattle.mapworld_calls.specs.Frame.{IsOn}
use Rattle.mapworld_calls.specs.Replay.{Work, one, visit, nothing, work_of, reached, block_work, block_key, done_keys}
use Rattle.mapworld_calls.specs.Replay.{works_on, left, frame_of, contents, before, at_key, found}
use Rattle.mapworld_calls.specs.Laws.{ArePlain}
use Rattle.mapworld_calls.proofs.Pairs.{eq-same_right, opening_pair-same}
use Rattle.mapworld_calls.proofs.Frames as frames
use Rattle.mapworld_calls.proofs.Works.{keeps-to_shard, looks-at_shard}

-- a call with a key works on that key
key-work : {K V D : Type 0} (o : Option (Ask K V D)) (key : K) → option_and_then key_of o ≡ Some key
    → work_of o ≡ one key
key-work None key is = absurd (none-some key is)
key-work (Some (ask.Keyed k)) key is = ap one (same_Some _ key is)
key-work (Some (ask.Begin b)) key is = ap one (same_Some _ key is)
key-work (Some (ask.Held h)) key is = absurd (none-some key is)
key-work (Some (ask.Walk f)) key is = absurd (none-some key is)

pub work-key : {K V D : Type 0} (o : Option (Ask K V D)) (key : K) → work_of o ≡ one key
    → option_and_then key_of o ≡ Some key
work-key None key is = absurd cc
work-key (Some (ask.Keyed k)) key is = ap Some (cc)
work-key (Some (ask.Begin b)) key is = ap Some (cc)
work-key (Some (ask.Held h)) key is = absurd cc
work-key (Some (ask.Walk f)) key is = absurd cc

module _ {K V D T : Type 0} (w : Setup K V D T) where
  pub contents-push : (bs : List (Block K)) (b : Block K) (q : K) → contents w (bs ++ b ∷ []) q ≡ left w b q
      (contents w bs q)
  contents-push bs b q = frames.contents-push (frame_of w) bs b q

module _ {K V D T : Type 0} (w : Setup K V D T) (b : Block K) (key : K) (is : block_key w b ≡ Some key) where
  pub works-on_key : block_work w b ≡ one key
  works-on_key = key-work (ask_at w b.thread b.call) key is

  -- the block is of no walk's call
  pub no-walk : (t c : ℕ) (f : Walk D) → ask_at w t c ≡ Some (ask.Walk f) → b.thread ≡ t → b.call ≡ c → ⊥
  no-walk t c f asked thread call =
      let at : ask_at w b.thread b.call ≡ Some (ask.Walk f) = ap (λ n. ask_at w n b.call) thread
      ∙ ap (λ n. ask_at w t n) call ∙ asked in
      none-some key (sym (ap (option_and_then key_of) at) ∙ is)

  -- the block is on its key's shard
  pub on-shard : IsOn (frame_of w) b key
  on-shard = rw works-on_key refl

  pub found-is : (bs : List (Block K)) (i : ℕ) → found w bs i b ≡ before w bs i key
  found-is bs i = ap (at_key (before w bs i)) is

  pub left-touched : (q : K) (o : Option (K × V)) → w.eq key q ≡ true
      → left w b q o ≡ pair_in (reached w b.thread b.call b.done.value o)
  left-touched q o e = rw works-on_key (rw e refl)

  pub left-untouched : (q : K) (o : Option (K × V)) → w.eq key q ≡ false → left w b q o ≡ o
  left-untouched q o e = rw works-on_key (rw e refl)

module _ {K V D T : Type 0} (w : Setup K V D T) (laws : Laws w) where
  works-same : (x : Work K D) (b : Block K) (j k : K) → w.eq j k ≡ true → works_on w x b j ≡ works_on w x b k
  works-same (one a) b j k same = eq-same_right w.eq laws.equivalence a j k same
  works-same (visit f) b j k same =
      ap (λ test. list_any test (done_keys w b)) (fun_ext (λ a. eq-same_right w.eq laws.equivalence a j k same))
  works-same nothing b j k same = refl

  left-same : (b : Block K) (o : Option (K × V)) (j k : K) → w.eq j k ≡ true → left w b j o ≡ left w b k o
  left-same b o j k same = rw (works-same (block_work w b) b j k same)

  fold-same : (bs : List (Block K)) (o : Option (K × V)) (j k : K) → w.eq j k ≡ true
      → fold (λ x b. left w b j x) o bs ≡ fold (λ x b. left w b k x) o bs
  fold-same [] o j k same = refl
  fold-same (b ∷ bs) o j k same = ap (λ p. fold (λ x d. left w d j x) p bs) (left-same b o j k same)
      ∙ fold-same bs (left w b k o) j k same

  -- equal keys have equal contents
  pub contents-same : (bs : List (Block K)) (j k : K) → w.eq j k ≡ true → contents w bs j ≡ contents w bs k
  contents-same bs j k same =
      ap (λ o. fold (λ x b. left w b j x) o bs) (opening_pair-same w.eq laws.equivalence w.opening j k same)
      ∙ fold-same bs (opening_pair w.eq w.opening k) j k same

  pub before-same : (bs : List (Block K)) (i : ℕ) (j k : K) → w.eq j k ≡ true → before w bs i j ≡ before w bs i k
  before-same bs i j k same = contents-same (take i bs) j k same

pub are-plain : {K V D T A : Type 0} (w : Setup K V D T) → Laws w → ArePlain A w
are-plain w laws = record { keep = keeps-to_shard w laws; look = looks-at_shard w laws; alike = contents-same w laws }
