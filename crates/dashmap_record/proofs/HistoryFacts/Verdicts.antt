-- The first of the clauses that fails.
use Rattle.std.proofs.Common.{◌≡◌, ◌&&◌, Bool, true, false, not, cond, List, map, Option, Some, None, refl, sym, ◌∙◌}
use Rattle.std.specs.List.{list_all}
use Rattle.std.specs.Option.{option_or}
use Rattle.std.proofs.lemmas.Bool.{true≢false, false≢true}
use Rattle.std.proofs.lemmas.List.Folds.{list_all-map}
use Rattle.dashmap_record.specs.declared.history.fault.GatherFault.{GatherFault}
use Rattle.dashmap_record.specs.declared.history.fault.GatherFault.TheVariants as fault

-- what is known of lists is known of their items
pub of_items : {L X : Type 0} (p : List X → Bool) (items : L → List X) (ls : List L) (r v : Bool)
    → r ≡ list_all (λ l. p (items l)) ls → r ≡ v → list_all p (map items ls) ≡ v
of_items p items ls r v told is = list_all-map p items ls ∙ (sym told ∙ is)

abbrev pub verdict : Bool → Bool → Bool → Bool → Bool → Option GatherFault
verdict a b c d e =
    cond (not a) (Some fault.StampOrder)
    (cond (not b) (Some fault.NotInLog)
    (cond (not c) (Some fault.NotInHistory)
    (cond (not d) (Some fault.WrongShard) (cond (not e) (Some fault.WrongHash) None))))

pub not_rising : (a b c d e : Bool) → a ≡ false → Some fault.StampOrder ≡ verdict a b c d e
not_rising false b c d e is = refl
not_rising true b c d e is = absurd (true≢false is)

pub both_rise : (a b : Bool) → a ≡ true → b ≡ true → (a && b) ≡ true
both_rise true b is it = it
both_rise false b is it = absurd (false≢true is)

pub first_falls : (a b : Bool) → a ≡ false → (a && b) ≡ false
first_falls false b is = refl
first_falls true b is = absurd (true≢false is)

pub second_falls : (a b : Bool) → a ≡ true → b ≡ false → (a && b) ≡ false
second_falls true b is it = it
second_falls false b is it = refl

pub not_logged : (a b c d e : Bool) → a ≡ true → b ≡ false → Some fault.NotInLog ≡ verdict a b c d e
not_logged true false c d e _ _ = refl
not_logged true true c d e _ is = absurd (true≢false is)
not_logged false b c d e is _ = absurd (false≢true is)

pub not_kept : (a b c d e : Bool) → a ≡ true → b ≡ true → c ≡ false → Some fault.NotInHistory ≡ verdict a b c d e
not_kept true true false d e _ _ _ = refl
not_kept true true true d e _ _ is = absurd (true≢false is)
not_kept true false c d e _ is _ = absurd (false≢true is)
not_kept false b c d e is _ _ = absurd (false≢true is)

pub not_routed : (a b c d e : Bool) → a ≡ true → b ≡ true → c ≡ true → d ≡ false → Some fault.WrongShard ≡ verdict a b c
    d e
not_routed true true true false e _ _ _ _ = refl
not_routed true true true true e _ _ _ is = absurd (true≢false is)
not_routed true true false d e _ _ is _ = absurd (false≢true is)
not_routed true false c d e _ is _ _ = absurd (false≢true is)
not_routed false b c d e is _ _ _ = absurd (false≢true is)

pub not_hashed : (a b c d e : Bool) → a ≡ true → b ≡ true → c ≡ true → d ≡ true → e ≡ false
    → Some fault.WrongHash ≡ verdict a b c d e
not_hashed true true true true false _ _ _ _ _ = refl
not_hashed true true true true true _ _ _ _ is = absurd (true≢false is)
not_hashed true true true false e _ _ _ is _ = absurd (false≢true is)
not_hashed true true false d e _ _ is _ _ = absurd (false≢true is)
not_hashed true false c d e _ is _ _ _ = absurd (false≢true is)
not_hashed false b c d e is _ _ _ _ = absurd (false≢true is)

pub no_mismatch : (a b c d e : Bool) → a ≡ true → b ≡ true → c ≡ true → d ≡ true → e ≡ true → None ≡ verdict a b c d e
no_mismatch true true true true true _ _ _ _ _ = refl
no_mismatch true true true true false _ _ _ _ is = absurd (false≢true is)
no_mismatch true true true false e _ _ _ is _ = absurd (false≢true is)
no_mismatch true true false d e _ _ is _ _ = absurd (false≢true is)
no_mismatch true false c d e _ is _ _ _ = absurd (false≢true is)
no_mismatch false b c d e is _ _ _ _ = absurd (false≢true is)

pub record AllHold (a b c d e : Bool) : Type 0 where
  pub rise : a ≡ true
  pub logged : b ≡ true
  pub kept : c ≡ true
  pub routed : d ≡ true
  pub hashed : e ≡ true

pub all_hold : (a b c d e : Bool) → None ≡ verdict a b c d e → AllHold a b c d e
all_hold true true true true true _ = record { rise = refl; logged = refl; kept = refl; routed = refl; hashed = refl }
all_hold true true true true false is = absurd (apart is)
  where
    apart : None ≡ Some fault.WrongHash → ⊥
    apart e = cc
all_hold true true true false e is = absurd (apart is)
  where
    apart : None ≡ Some fault.WrongShard → ⊥
    apart e = cc
all_hold true true false d e is = absurd (apart is)
  where
    apart : None ≡ Some fault.NotInHistory → ⊥
    apart e = cc
all_hold true false c d e is = absurd (apart is)
  where
    apart : None ≡ Some fault.NotInLog → ⊥
    apart e = cc
all_hold false b c d e is = absurd (apart is)
  where
    apart : None ≡ Some fault.StampOrder → ⊥
    apart e = cc

-- the first clause that fails, replies included
abbrev pub with_replies : Option GatherFault → Bool → Option GatherFault
with_replies m r = option_or m (cond r None (Some fault.WrongReply))

pub some_fault : (m : Option GatherFault) (r : Bool) (f : GatherFault) → m ≡ Some f → Some f ≡ with_replies m r
some_fault (Some x) r f is = sym is
some_fault None r f is = absurd (apart is)
  where
    apart : None ≡ Some f → ⊥
    apart e = cc

pub wrong_reply : (m : Option GatherFault) (r : Bool) → m ≡ None → r ≡ false → Some fault.WrongReply ≡ with_replies m r
wrong_reply None false is it = refl
wrong_reply None true is it = absurd (true≢false it)
wrong_reply (Some x) r is it = absurd (apart is)
  where
    apart : Some x ≡ None → ⊥
    apart e = cc

pub no_fault : (m : Option GatherFault) (r : Bool) → m ≡ None → r ≡ true → None ≡ with_replies m r
no_fault None true is it = refl
no_fault None false is it = absurd (false≢true it)
no_fault (Some x) r is it = absurd (apart is)
  where
    apart : Some x ≡ None → ⊥
    apart e = cc

pub cleared : (m : Option GatherFault) (r : Bool) → None ≡ with_replies m r → (None ≡ m) × (r ≡ true)
cleared None true is = (refl, refl)
cleared None false is = absurd (apart is)
  where
    apart : None ≡ Some fault.WrongReply → ⊥
    apart e = cc
cleared (Some x) r is = absurd (apart is)
  where
    apart : None ≡ Some x → ⊥
    apart e = cc
