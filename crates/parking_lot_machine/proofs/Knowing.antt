-- What a call knows of its list goes on through its thread's own acts.
use Rattle.std.proofs.Common.{◌≡◌, ℕ, inl, inr, List, sym, subst}
use Rattle.parking_lot_core_model.specs.declared.parking.UnparkToken.{UnparkToken}
use Rattle.parking_lot_core_model.specs.declared.place.Waiter.{Waiter}
use Rattle.parking_lot_protocol.specs.declared.act.Act.{Act}
use Rattle.parking_lot_protocol.specs.declared.act.SectionAct.TheVariants as section
use Rattle.parking_lot_protocol.specs.declared.act.ActResult.{ActResult}
use Rattle.parking_lot_protocol.specs.declared.mutex_phase.MutexPhase.{MutexPhase}
use Rattle.parking_lot_protocol.specs.Acts.{Gives}
use Rattle.parking_lot_machine_calls.specs.declared.seat.Core.{Core}
use Rattle.parking_lot_machine_calls.specs.Stances.{Looks, TurnsBack, Joins, Joined, Takes, Stores, Tells, Stance, Out}
use Rattle.parking_lot_machine_calls.specs.Stances.{In, Asleep, mutex_stance, stance, core_act, core_next}
use Rattle.parking_lot_machine_calls.specs.StanceLaws.{Leads}
use Rattle.parking_lot_machine.specs.RowFits.{mutex_knows}
use Rattle.parking_lot_machine.proofs.OwnMoves.{IsOwnAct}
use Rattle.parking_lot_machine_calls.proofs.Stancing.{leads_by}

-- it isn't about to store
abbrev pub StoresNone : Stance → Type 0
StoresNone Out = Unit {0}
StoresNone (In key Looks) = Unit {0}
StoresNone (In key TurnsBack) = Unit {0}
StoresNone (In key (Joins token)) = Unit {0}
StoresNone (In key (Joined token)) = Unit {0}
StoresNone (In key Takes) = Unit {0}
StoresNone (In key Stores) = ⊥
StoresNone (In key (Tells token)) = Unit {0}
StoresNone (Asleep key token) = Unit {0}

is_so : (a b : Stance) → a ≡ b → StoresNone b → StoresNone a
is_so a b e h = subst StoresNone (sym e) h

stores_none : (a : Act) (s : ActResult) (x y : Stance) (i j : ℕ) (says : UnparkToken) → IsOwnAct a
    → Leads a s x y i j says → StoresNone y
stores_none Act.Load s x y i j says own h = is_so y Out h.1 tt
stores_none (Act.Exchange from to) s x y i j says own h = is_so y Out h.1 tt
stores_none (Act.Add by) s x y i j says own h = is_so y Out h.1 tt
stores_none (Act.FetchAnd keep) s x y i j says own h = absurd own
stores_none Act.Spin s x y i j says own h = is_so y Out h.1 tt
stores_none (Act.Enter key) s x y i j says own h =
    elim h.1 [ inl e ↦ is_so y (In key Looks) e tt | inr e ↦ is_so y (In key Takes) e tt ]
stores_none (Act.Section section.Check) s x y i j says own h =
    elim h.2 [ inl e ↦ is_so y (In h.0 TurnsBack) e tt | inr e ↦ is_so y (In h.0 (Joins e.0)) e.1 tt ]
stores_none (Act.Section section.TakeFirst) s x y i j says own h = absurd own
stores_none (Act.Section (section.TakeNext sum)) s x y i j says own h = absurd own
stores_none (Act.Section (section.Append token)) s x y i j says own h = absurd own
stores_none (Act.Section (section.Store plain fair)) s x y i j says own h = absurd own
stores_none (Act.Section section.Leave) s x y i j says own (inl h) = is_so y Out h.2 tt
stores_none (Act.Section section.Leave) s x y i j says own (inr (inl h)) = is_so y (Asleep h.0 h.1) h.3 tt
stores_none (Act.Section section.Leave) s x y i j says own (inr (inr h)) = is_so y Out h.3 tt
stores_none (Act.Section section.Wake) s x y i j says own h = absurd own
stores_none Act.Sleep s x y i j says own h = absurd own
stores_none (Act.Done answer) s x y i j says own h = absurd h

mutex_knows_none : (p : MutexPhase) → StoresNone (mutex_stance p) → (q : List Waiter) → mutex_knows p q
mutex_knows_none (MutexPhase.Stores giving taken left) h q = absurd h
mutex_knows_none p h q = tt

-- at a mutex
pub mutex_learns : (c : Core) (p : MutexPhase) (x : ℕ) (s : ActResult) → core_act c ≡ core_act c
    → stance (core_next c s) ≡ mutex_stance p → IsOwnAct (core_act c) → Gives (core_act c) x s → (q : List Waiter)
    → mutex_knows p q
mutex_learns c p x s same e own gives q =
    mutex_knows_none p
    (subst StoresNone e (stores_none (core_act c) s _ _ _ _ _ own (leads_by c (core_act c) x s same gives))) q
