-- A `&` to a lock word is made of a borrow of it: the borrow goes into an invariant, with what lies with the word.
-- Assumes `Logic`.
use Rattle.std.proofs.Common.{ℕ, zero, ◌+◌, List, [], ◌∷◌}
use seplogic.Ra.Ura.{Ura}
use mir.Val.{Val}
use base.Fraction.{full_share}
use base.Logic.{SProp, ent, sep, wand, ex, id⊢, all_e, apply∗, upd_i}
use base.Fml.{Lft, Share, Fml, ftrue, fsep, fseps, fwand, fupd, fdead, fbor, flft, finv, Incl-refl}
use base.Before.{before}
use types.Logic.{Logic, sem}
use types.Kit.{‵, raw, ◌⊛◌, some, later, ◌$◌, ◌∵◌, !, qed, by, move, keep, drop, split, fsplit, fsplit3, fjoin, fpick}
use types.Kit.{fpack}
use types.Kit.{pick, show, assume, suffices, use0, use1, use2, updating, await, now, done}
use types.Tokens.{bor_open, obor_alter}
use types.Na.{before-Incl}
use denote.RattleType.{RattleType, Denots}
use denote.Memory.{part_of, part_at, cell_at}
use denote.RawPtr.{block_ptr}
use denote.Steps.{nothing}
use denote.Sharing as lent
use denote.SharingLaws.{some_shr_laws, beside_shr_laws, ends_shr_laws, always_shr_laws}
use denote.Struct.Struct.{Struct}
use denote.Struct.Laws.{u64-laws}
use denote.Struct.Members.{Member, row_of, rows_of, parts_at}
use denote.Struct.Parts.{PartsBack, Struct-parts, shape_of}
use Rattle.core.proofs.cell.Borrows.{flag, by_one}
use Rattle.core.proofs.tally.Steps.{word_out, word_in}
use Rattle.core.specs.Sync.RawAtomic.{word}
use Rattle.lock_word.specs.Owning.{kept, word_at, word_shares}
use Rattle.lock_word.specs.contracts.lock_word.LockWord as C
use Rattle.lock_word.proofs.lock_word.LockWord.TheLaw.Statement.{statement}

abbrev members : List Member
members = flag ∷ []

abbrev Data : RattleType
Data = Struct (shape_of [] members)

module _ {M : Type 1} {𝓤 : Ura M} (𝓛 : Logic 𝓤) (name b o : ℕ) (κ : Lft) (q : Share) where
  open 𝓛 use {H, A}

  abbrev ⟦◌⟧ : Fml → SProp 𝓤
  ⟦ P ⟧ = sem 𝓛 P

  -- a lock word in memory
  abbrev Whole : Fml
  Whole = part_at C.the_written full_share name b o

  abbrev Inv : Fml
  Inv = word_at name b o

  abbrev Number : ℕ → Fml
  Number n = part_at Data full_share (n, tt) b o

  abbrev Cell : ℕ → Fml
  Cell n = part_at (row_of flag) full_share n b (o + 0)

  abbrev Back : SProp 𝓤
  Back = PartsBack 𝓛 full_share [] members b o

  apart : ent 𝓤 ⟦ Whole ⟧ (ex 𝓤 (λ (n : ℕ). sep 𝓤 ⟦ Number n ⟧ ⟦ kept name n ⟧))
  unfolding part_of
  apart = qed 𝓛 (‵ Whole ∷ []) ∵ fpick ! (λ vs. fsplit ! $ move ! (1 ∷ []) $ fpick ! (λ n. fsplit ! $
      move ! (2 ∷ 0 ∷ []) $ fjoin ! $
      fpack ! (List Val) (λ us. fsep (cell_at full_share Data.mir us b o) (Data.own_val (n, tt) us)) vs $
      show ! (λ (m : ℕ). sep 𝓤 ⟦ Number m ⟧ ⟦ kept name m ⟧) n $ done !))

  together : (n : ℕ) → ent 𝓤 (sep 𝓤 ⟦ Number n ⟧ ⟦ kept name n ⟧) ⟦ Whole ⟧
  unfolding part_of
  together n = qed 𝓛 (‵ (Number n) ∷ ‵ (kept name n) ∷ []) ∵ fpick ! (λ vs. fsplit ! $ move ! (1 ∷ 2 ∷ []) $ fjoin ! $
      fpack ! ℕ (λ m. fsep (Data.own_val (m, tt) vs) (kept name m)) n $ move ! (1 ∷ 0 ∷ []) $ fjoin ! $
      fpack ! (List Val) (λ us. fsep (cell_at full_share Data.mir us b o) (C.the_written.own_val name us)) vs $ done !)

  -- once the borrow has ended the word is whole again
  ends : ent 𝓤 Back ⟦ fwand (fsep (fdead κ) (fseps (Inv ∷ []))) (fupd Whole) ⟧
  unfolding fseps
  ends = qed 𝓛 (raw Back ∷ []) ∵ assume ! (‵ (fsep (fdead κ) (fseps (Inv ∷ [])))) $
      suffices ! ⟦ Whole ⟧ (upd_i 𝓤 ⟦ Whole ⟧) $
      fsplit3 ! $ drop ! $ fpick ! (λ n. fsplit ! $ use1 𝓛 (‵ (Cell n)) (word_in 𝓛 b (o + 0) n) $
      keep ! (0 ∷ 2 ∷ 3 ∷ 1 ∷ []) $ fjoin ! $ move ! (1 ∷ []) $
      use1 𝓛 (raw (wand 𝓤 ⟦ parts_at full_share members zero (n, tt) b o ⟧ ⟦ Number n ⟧))
      (all_e 𝓤 (λ (a : Denots (rows_of members)).
      wand 𝓤 ⟦ parts_at full_share members zero a b o ⟧ ⟦ part_at Data full_share a b o ⟧) (n, tt)) $
      move ! (1 ∷ 0 ∷ []) $
      use2 𝓛 (‵ (Number n)) (apply∗ 𝓤 ⟦ parts_at full_share members zero (n, tt) b o ⟧ ⟦ Number n ⟧) $
      by ! (together n))

  shared : ent 𝓤 (sep 𝓤 (A.bor κ Whole) (A.lft κ q)) (H.⇛ (sep 𝓤 ⟦ word_shares name (block_ptr b o) κ ⟧ (A.lft κ q)))
  unfolding fseps
  shared = qed 𝓛 (‵ (fbor κ Whole) ∷ ‵ (flft κ q) ∷ []) ∵ updating ! $ bor_open ! tt $ move ! (1 ∷ []) $
      use1 𝓛 (some (λ (n : ℕ). ‵ (Number n) ⊛ ‵ (kept name n))) apart $ pick ! (λ n. split ! $
      use1 𝓛 ((‵ (Cell n) ⊛ ‵ ftrue) ⊛ raw Back) (Struct-parts 𝓛 full_share [] members (u64-laws.lawful 𝓛, tt)
      (n, tt) b o) $ split ! $ split ! $
      use1 𝓛 (‵ (word b (o + 0) n)) (word_out 𝓛 b (o + 0) n) $ move ! (0 ∷ 3 ∷ []) $ fjoin ! $
      fpack ! ℕ (λ m. fsep (word b (o + 0) m) (kept name m)) n $
      nothing ! $ move ! (1 ∷ 0 ∷ []) $ fjoin ! $ move ! (2 ∷ []) $
      use1 𝓛 (‵ (fwand (fsep (fdead κ) (fseps (Inv ∷ []))) (fupd Whole))) ends $ move ! (3 ∷ 1 ∷ 0 ∷ []) $
      obor_alter ! tt (Inv ∷ []) $
      use1 𝓛 (‵ (fbor κ Inv) ⊛ ‵ ftrue) (id⊢ 𝓤 _) $ split ! $
      use1 𝓛 (later (‵ (finv (fbor κ Inv)))) (𝓛.invs.inv_new (fbor κ Inv)) $ await ! tt $
      use0 𝓛 (‵ (before κ κ)) (before-Incl 𝓛 κ κ (Incl-refl κ)) $ fjoin ! $
      fpack ! Lft (λ s. fsep (before κ s) (finv (fbor s Inv))) κ $ now ! $ keep ! (0 ∷ 2 ∷ []) $ done !)

pub shares : statement
shares = record {
  shr_laws = λ name b o. let Inv : Fml = word_at name b o in
      some_shr_laws Lft (λ α. lent.beside (lent.ends α) (lent.always (fbor α Inv)))
      (λ α. beside_shr_laws (lent.ends α) (lent.always (fbor α Inv)) (ends_shr_laws α) (always_shr_laws (fbor α Inv)));
  shares = λ M 𝓤 𝓛 name κ ts b o inc sp. by_one 𝓛 κ ts sp (𝓛.A.bor κ (part_at C.the_written full_share name b o))
      (sem 𝓛 (word_shares name (block_ptr b o) κ)) (shared 𝓛 name b o κ);
}
