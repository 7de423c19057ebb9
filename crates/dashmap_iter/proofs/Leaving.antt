-- Each item of a walk leaves fewer to come.
use Rattle.std.proofs.Common.{◌≡◌, ℕ, zero, suc, ◌+◌, ◌*◌, ◌-◌, ◌^◌, ◌<◌, ◌≤◌, Bool, true, false, cond, List, [], ◌∷◌}
use Rattle.std.proofs.Common.{length, Option, Some, None, IsSome, slice_get, sym, ap, subst, ◌∙◌, inl, inr, arith}
use Rattle.std.specs.Prelude.{Result, Ok, Err, IfOk, OnErr, ⊤}
use Rattle.std.specs.Option.{option_map}
use Rattle.std.specs.Iterator.{MakesProgress, at_most}
use Rattle.std.proofs.lemmas.Bool.{false≢true}
use Rattle.std.proofs.lemmas.Option.{none-some, slice_get_within}
use Rattle.crossbeam_utils.specs.Padded.{padded_value}
use Rattle.dashmap_table.specs.declared.entry.Entry.{Entry}
use Rattle.dashmap_table.specs.Slots.{at, IsNextFull}
use Rattle.dashmap_table.specs.Table.{Table}
use Rattle.dashmap_table.proofs.Cases.{option_cases}
use Rattle.dashmap_iter.specs.Lending.{Walk, slots_held, left, Enters, Passes, LendsPair, Fails, Gives}

-- a full slot is one of the slots
pub full_within : {K V : Type 0} (xs : List (Option (Entry K V))) (i : ℕ) → IsSome (at xs i) → i < length xs
full_within [] zero full = absurd (false≢true full)
full_within [] (suc i) full = absurd (false≢true full)
full_within (x ∷ xs) zero full = omega arith
full_within (x ∷ xs) (suc i) full = let rest = full_within xs i full in omega (arith, rest)

-- an element of a list of which something was read is within it
mapped_within : {X Y : Type 0} (f : X → Y) (xs : List X) (i : ℕ) (y : Y) → option_map f (slice_get xs i) ≡ Some y
    → i < length xs
mapped_within f xs i y read = elim (option_cases (slice_get xs i)) [
  | inl none ↦ absurd (none-some y (sym (ap (option_map f) none) ∙ read))
  | inr some ↦ slice_get_within xs i some.0 some.1
]

-- what holds in any case holds where there is an error
pub on_err : {T E P : Type 0} (r : Result T E) → P → OnErr r P
on_err (Ok x) p = tt
on_err (Err e) p = p

shard_further : (amount next slots rest f : ℕ) → next < amount → slots < 2 ^ 63
    → (amount - (next + 1)) * 2 ^ 63 + (slots - 0) + f ≤ (amount - next) * 2 ^ 63 + rest + f
shard_further amount next slots rest f more few =
    let is : amount - next ≡ (amount - (next + 1)) + 1 = omega (arith, more) in
    omega (arith, is, few)

slot_further : (a slots from i f : ℕ) → from ≤ i → i < slots → a + (slots - (i + 1)) + f < a + (slots - from) + f
slot_further a slots from i f above below = omega (arith, above, below)

module _ {K V Q G : Type 0} (eq : K → K → Bool) (table : G → Table K V) (lock : G → Q)
    (seen : Q → Table K V → Type 0) where
  enters_left : (v w : Walk Q G) → Enters eq table lock seen v w → left table w ≤ left table v
  enters_left v w e =
      subst (λ (x : Walk Q G). left table x ≤ left table v) (sym e.after)
      (shard_further (length v.locks) v.next (length (table e.guard).slots) (length (slots_held table v.held) - v.from)
      (cond v.failed 0 1)
      (mapped_within padded_value v.locks v.next (lock e.guard) e.taken) e.sound.numbered)

  pub passes_left : (n : ℕ) (v w : Walk Q G) → Passes eq table lock seen n v w → left table w ≤ left table v
  passes_left zero v w same = subst (λ (x : Walk Q G). left table x ≤ left table v) same (omega arith)
  passes_left (suc n) v w p =
      let before = passes_left n v p.0 p.1 in
      let here = enters_left p.0 w p.3 in
      omega (arith, before, here)

  pub passes_failed : (n : ℕ) (v w : Walk Q G) → Passes eq table lock seen n v w → w.failed ≡ v.failed
  passes_failed zero v w same = ap (λ (x : Walk Q G). x.failed) (sym same)
  passes_failed (suc n) v w p = ap (λ (x : Walk Q G). x.failed) p.3.after ∙ passes_failed n v p.0 p.1

  pub item_left : (v : Walk Q G) (item : G × ℕ) (w : Walk Q G) → LendsPair eq table lock seen v item w
      → left table w < left table v
  item_left v item w e =
      let below = full_within (table item.0).slots item.1 e.slot.full in
      let is : length (slots_held table e.stop.held) ≡ length (table item.0).slots =
      ap (λ o. length (slots_held table o)) e.held in
      let nearer = slot_further ((length e.stop.locks - e.stop.next) * 2 ^ 63) (length (slots_held table e.stop.held))
      e.stop.from item.1 (cond e.stop.failed 0 1) e.slot.above (subst (λ n. item.1 < n) (sym is) below) in
      let before = passes_left e.passed v e.stop e.passes in
      subst (λ (x : Walk Q G). left table x < left table v) (sym e.after) (omega (arith, nearer, before))

  pub fail_left : (v w : Walk Q G) → Fails eq table lock seen v w → left table w < left table v
  fail_left v w e =
      let before = passes_left e.passed v e.stop e.passes in
      let ready : ◌≡◌ {A = ℕ} (cond e.stop.failed 0 1) 1 =
      ap (λ b. cond b 0 1) (passes_failed e.passed v e.stop e.passes ∙ e.ready) in
      subst (λ (x : Walk Q G). left table x < left table v) (sym e.after) (omega (arith, before, ready))

  -- what was answered of the slot that was found is what a call of `next` gives
  pub shared : {E : Type 0} (v u : Walk Q G) (slot passed : ℕ) (r : Result (G × ℕ) E) (w : Walk Q G) → v.failed ≡ false
      → Passes eq table lock seen passed v u → IsNextFull (slots_held table u.held) u.from slot
      → IfOk r (λ item. (u.held ≡ Some item.0) × (item.1 ≡ slot) × (w ≡ record u { from = slot + 1 }))
      → OnErr r (w ≡ record u { failed = true }) → Gives eq table lock seen v (Some r) w
  shared v u slot passed (Ok item) w ready passes next lent none =
      let here : IsNextFull (table item.0).slots u.from slot =
      subst (λ (o : Option G). IsNextFull (slots_held table o) u.from slot) lent.0 next in
      record {
        ready = ready;
        passed = passed;
        stop = u;
        passes = passes;
        held = lent.0;
        slot = subst (λ (i : ℕ). IsNextFull (table item.0).slots u.from i) (sym lent.1) here;
        after = lent.2
            ∙ ap (λ (i : ℕ). record u { from = i + 1 }) (sym lent.1);
      }
  shared v u slot passed (Err e) w ready passes next none failed =
      record { ready = ready; passed = passed; stop = u; passes = passes; after = failed }

  -- what a call of `next` gives leaves fewer items
  pub progress : {E : Type 0} (v : Walk Q G) (r : Option (Result (G × ℕ) E)) (w : Walk Q G) → Gives eq table lock seen v r w
      → MakesProgress (λ _. ⊤) (λ x. at_most (left table x)) v r w
  progress v None w gives = record { on = λ _. tt; keeps = tt; rests = λ _. tt }
  progress v (Some (Ok item)) w gives =
      record { on = λ _. (tt, tt, item_left v item w gives); keeps = tt; rests = λ _. tt }
  progress v (Some (Err e)) w gives = record { on = λ _. (tt, tt, fail_left v w gives); keeps = tt; rests = λ _. tt }
