-- Who has entered which bucket once a section is opened, goes on or is closed.
use Rattle.std.proofs.Common.{◌≡◌, ℕ, zero, suc, ◌+◌, ◌*◌, ◌<◌, ◌==◌, Option, Some, None, sym, ap, ◌∙◌, subst, arith}
use Rattle.std.proofs.Common.{eq-eqb, false}
use Rattle.std.specs.Option.{option_and_then, option_map}
use Rattle.std.proofs.lemmas.Bool.{cond-true, cond-false, eqb-false, ne_eqb}
use Rattle.parking_lot_core_model.specs.declared.place.Section.{Section}
use Rattle.parking_lot_core_model.specs.Lists.{updated}
use Rattle.parking_lot_core_model.proofs.Kept.{by_eqb, updated_at, updated_other}
use Rattle.parking_lot_rules.specs.Family.{put}
use Rattle.parking_lot_protocol.specs.declared.act.Act.{Act}
use Rattle.parking_lot_protocol.specs.declared.act.SectionAct.TheVariants as section
use Rattle.parking_lot_machine_calls.specs.declared.open_call.Call.{Call}
use Rattle.parking_lot_machine_calls.specs.CallActs.{key_of}
use Rattle.parking_lot_machine_calls.specs.Stances.{Doing, Stance, In, stance}
use Rattle.parking_lot_machine.specs.Ranks.{is_shut_to}
use Rattle.parking_lot_machine.specs.RowFits.{LotFits}
use Rattle.parking_lot_machine.specs.Rows.{State, bucket, call_at, entered_in, open_at}
use Rattle.parking_lot_machine.proofs.LotActs.{same_section, seat_of}
use Rattle.parking_lot_machine.proofs.Making.{entries}
use Rattle.parking_lot_machine.proofs.OwnMoves.{AfterAct}
use Rattle.parking_lot_machine.proofs.Passing.{IsAround, around_at}

abbrev whose : Option Section → Option ℕ
whose o = option_and_then (λ (x : Section). x.thread) o

module _ (s u : State) (key : ℕ) (after : Option Section)
    (secs : (b : ℕ) → u.lot.sections b ≡ updated s.lot.sections (bucket s key) after b) where
  -- one bucket changes
  pub entered_put : (b : ℕ) → entered_in u b ≡ put (entered_in s) (bucket s key) (whose after) b
  entered_put b = by_eqb b (bucket s key) (entered_in u b ≡ put (entered_in s) (bucket s key) (whose after) b)
      (λ e. ap whose (secs b ∙ (ap (updated s.lot.sections (bucket s key) after) e
      ∙ updated_at s.lot.sections (bucket s key) after))
      ∙ sym (cond-true (b == bucket s key) (whose after) (entered_in s b) (eq-eqb b (bucket s key) e)))
      (λ e. ap whose (secs b ∙ updated_other s.lot.sections (bucket s key) after b e)
      ∙ sym (cond-false (b == bucket s key) (whose after) (entered_in s b) e))

  -- its section goes on
  pub entered_still : whose after ≡ entered_in s (bucket s key) → (b : ℕ) → entered_in u b ≡ entered_in s b
  entered_still same b = by_eqb b (bucket s key) (entered_in u b ≡ entered_in s b)
      (λ e. entered_put b ∙ (cond-true (b == bucket s key) (whose after) (entered_in s b) (eq-eqb b (bucket s key) e)
      ∙ (same ∙ ap (entered_in s) (sym e))))
      (λ e. entered_put b ∙ cond-false (b == bucket s key) (whose after) (entered_in s b) e)

  -- and who isn't shut out by it isn't shut out then
  pub shut_put : (t : ℕ) → is_shut_to t (whose after) ≡ false
      → is_shut_to t (entered_in s (bucket s key)) ≡ false → (b : ℕ)
      → is_shut_to t (entered_in u b) ≡ is_shut_to t (entered_in s b)
  shut_put t now was b = by_eqb b (bucket s key) (is_shut_to t (entered_in u b) ≡ is_shut_to t (entered_in s b))
      (λ e. ap (is_shut_to t) (entered_put b
      ∙ cond-true (b == bucket s key) (whose after) (entered_in s b) (eq-eqb b (bucket s key) e))
      ∙ (now ∙ sym (ap (λ (n : ℕ). is_shut_to t (entered_in s n)) e ∙ was)))
      (λ e. ap (is_shut_to t) (entered_put b ∙ cond-false (b == bucket s key) (whose after) (entered_in s b) e))

-- a lock's key by its number is that of the rules
module _ (s u : State) (t j : ℕ) (after : Option Section) where
  pub comes_at : (a : Stance) (which : ℕ) → which < 2 → entered_in s (bucket s (2 * j + which)) ≡ None
      → whose after ≡ Some t
      → ((b : ℕ) → u.lot.sections b ≡ updated s.lot.sections (bucket s (2 * j + which)) after b)
      → AfterAct a (Act.Enter which) t (entries s j) (entries u j)
  comes_at a zero two free mine secs =
      let same : 2 * j + 0 ≡ 2 * j = omega arith in (
        subst (λ (k : ℕ). entered_in s (bucket s k) ≡ None) same free,
        λ b. entered_put s u (2 * j + 0) after secs b
            ∙ (ap (λ (o : Option ℕ). put (entered_in s) (bucket s (2 * j + 0)) o b) mine
            ∙ ap (λ (k : ℕ). put (entered_in s) (bucket s k) (Some t) b) same),
      )
  comes_at a (suc which) two free mine secs =
      let same : 2 * j + suc which ≡ 2 * j + 1 = omega (arith, two) in (
        subst (λ (k : ℕ). entered_in s (bucket s k) ≡ None) same free,
        λ b. entered_put s u (2 * j + suc which) after secs b
            ∙ (ap (λ (o : Option ℕ). put (entered_in s) (bucket s (2 * j + suc which)) o b) mine
            ∙ ap (λ (k : ℕ). put (entered_in s) (bucket s k) (Some t) b) same),
      )

  pub goes_at : (which : ℕ) (how : Doing) → which < 2 → whose after ≡ None
      → ((b : ℕ) → u.lot.sections b ≡ updated s.lot.sections (bucket s (2 * j + which)) after b)
      → AfterAct (In which how) (Act.Section section.Leave) t (entries s j) (entries u j)
  goes_at zero how two none secs =
      let same : 2 * j + 0 ≡ 2 * j = omega arith in (
        tt,
        λ b. entered_put s u (2 * j + 0) after secs b
            ∙ (ap (λ (o : Option ℕ). put (entered_in s) (bucket s (2 * j + 0)) o b) none
            ∙ ap (λ (k : ℕ). put (entered_in s) (bucket s k) None b) same),
      )
  goes_at (suc which) how two none secs =
      let same : 2 * j + suc which ≡ 2 * j + 1 = omega (arith, two) in (
        tt,
        λ b. entered_put s u (2 * j + suc which) after secs b
            ∙ (ap (λ (o : Option ℕ). put (entered_in s) (bucket s (2 * j + suc which)) o b) none
            ∙ ap (λ (k : ℕ). put (entered_in s) (bucket s k) None b) same),
      )

-- A section of thread t goes on, and changes but its own list.
pub record Continues (s u : State) (t : ℕ) : Type 0 where
  pub entered : (b : ℕ) → entered_in u b ≡ entered_in s b
  pub around : IsAround s u t

pub continues : (s u : State) (t : ℕ) (c : Call) → LotFits s → call_at s t ≡ Some c → (k : ℕ) (how : Doing)
    → stance c.core ≡ In k how → (f : Section → Section) → ((x : Section) → (f x).thread ≡ x.thread)
    → ((b : ℕ) → u.lot.sections b ≡ updated s.lot.sections (bucket s (key_of c k))
    (option_map f (open_at s (key_of c k))) b) → u.lot.buckets ≡ s.lot.buckets
    → ((l : ℕ) → (l == key_of c k) ≡ false → u.lot.queues l ≡ s.lot.queues l) → Continues s u t
continues s u t c h here k how from f keeps secs same queues =
    let seat = seat_of s h t c (In k how) here from in
    let key : ℕ = key_of c k in
    let after : Option Section = option_map f (open_at s key) in
    let now : after ≡ Some (f seat.0) = ap (option_map f) seat.1 in
    record {
      entered = entered_still s u key after secs (ap whose now ∙ (keeps seat.0 ∙ sym (ap whose seat.1)));
      around = around_at s u t key after secs same
          (λ x e. ap (λ (y : Section). y.thread) (sym (same_section (sym now ∙ e))) ∙ (keeps seat.0 ∙ seat.2))
          (λ l e. queues l (ne_eqb l key (λ is. eqb-false (bucket s l) (bucket s key) e (ap (bucket s) is))));
    }
