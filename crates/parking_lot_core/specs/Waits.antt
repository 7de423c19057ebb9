-- Lists of those that wait, whatever they are kept in.
use Rattle.std.specs.Prelude.{ℕ, ◌+◌, ◌≤◌, ◌==◌, ◌%◌, ◌&&◌, Bool, true, false, if◌then◌else◌, nat_lt}
use Rattle.std.specs.Prelude.{List, [], ◌∷◌, ◌++◌}
use Rattle.parking_lot_core_model.specs.declared.parking.FilterOp.{FilterOp}
use Rattle.parking_lot_core_model.specs.declared.parking.FilterOp.TheVariants.{Unpark, Skip, Stop}
use Rattle.parking_lot_core_model.specs.declared.parking.RequeueOp.{RequeueOp}
use Rattle.parking_lot_core_model.specs.declared.parking.RequeueOp.TheVariants as op
use Rattle.parking_lot_core_model.specs.declared.place.Waiter.{Waiter}
use Rattle.parking_lot_core.specs.declared.chain.Links.{Links, Nil, Link'}
use Rattle.parking_lot_core.specs.declared.chain.Waiting.{Waiting}
use Rattle.parking_lot_core.specs.declared.chain.Wanted.{Wanted}
use Rattle.parking_lot_core.specs.declared.chain.Wanted.TheVariants.{Key, Thread, Within}

-- who waits in nodes, one behind the other
abbrev pub items : {A : Type 0} → Links A → List Waiting
items Nil = []
items (Link' p waiting next) = waiting ∷ items next

-- who is looked for
abbrev pub fits : Wanted → Waiting → Bool
fits (Key key) w = w.key == key
fits (Thread thread) w = w.waiter.thread == thread
fits (Within bucket count) w = nat_lt 0 count && ((w.key % count) == bucket)

-- the first list, moved one by one to the front of the second
abbrev pub onto : List Waiting → List Waiting → List Waiting
onto [] ys = ys
onto (x ∷ xs) ys = onto xs (x ∷ ys)

-- a list without the first that passes; that one
abbrev pub without : (Waiting → Bool) → List Waiting → List Waiting
without p [] = []
without p (x ∷ xs) = if p x then xs else x ∷ without p xs

abbrev pub found : (Waiting → Bool) → List Waiting → List Waiting
found p [] = []
found p (x ∷ xs) = if p x then x ∷ [] else found p xs

-- those that pass; those that don't
abbrev pub every : (Waiting → Bool) → List Waiting → List Waiting
every p [] = []
every p (x ∷ xs) = if p x then x ∷ every p xs else every p xs

abbrev pub others : (Waiting → Bool) → List Waiting → List Waiting
others p [] = []
others p (x ∷ xs) = if p x then others p xs else x ∷ others p xs

-- one of them passes
abbrev pub any : (Waiting → Bool) → List Waiting → Bool
any p [] = false
any p (x ∷ xs) = if p x then true else any p xs

-- the same waiters, under another key
abbrev pub under : ℕ → List Waiting → List Waiting
under key [] = []
under key (x ∷ xs) = record x { key = key } ∷ under key xs

-- the waiters of a key, in their order
abbrev pub queue : List Waiting → ℕ → List Waiter
queue [] key = []
queue (x ∷ xs) key = if x.key == key then x.waiter ∷ queue xs key else queue xs key

-- the waiters, whatever their keys
abbrev pub waiters_of : List Waiting → List Waiter
waiters_of [] = []
waiters_of (x ∷ xs) = x.waiter ∷ waiters_of xs

-- how often a thread stands in a list
abbrev pub often : ℕ → List Waiting → ℕ
often thread [] = 0
often thread (x ∷ xs) = (if x.waiter.thread == thread then 1 else 0) + often thread xs

-- nobody stands there twice
abbrev pub Apart : List Waiting → Type 0
Apart xs = (thread : ℕ) → often thread xs ≤ 1

-- what a bucket holds, in the order of arrival: the newest stands first in the second chain
abbrev pub line : List Waiting → List Waiting → List Waiting
line front back = front ++ onto back []

-- a filter's answers, behind the first of them; whether that takes whom it was shown
abbrev pub behind : List FilterOp → List FilterOp
behind [] = []
behind (Unpark ∷ answers) = answers
behind (Skip ∷ answers) = answers
behind (Stop ∷ answers) = []

abbrev pub takes : List FilterOp → Bool
takes [] = false
takes (Unpark ∷ answers) = true
takes (Skip ∷ answers) = false
takes (Stop ∷ answers) = false

-- where a key's waiters are shown to a filter that answers so: those that are taken; those that are left
abbrev pub picked : ℕ → List FilterOp → List Waiting → List Waiting
picked key answers [] = []
picked key answers (x ∷ xs) = if x.key == key then (if takes answers then x ∷ picked key (behind answers) xs
    else picked key (behind answers) xs) else picked key answers xs

abbrev pub kept : ℕ → List FilterOp → List Waiting → List Waiting
kept key answers [] = []
kept key answers (x ∷ xs) = if x.key == key then (if takes answers then kept key (behind answers) xs
    else x ∷ kept key (behind answers) xs) else x ∷ kept key answers xs

-- the thread of one of the first stands among the second, too
abbrev pub meet : List Waiting → List Waiting → Bool
meet [] ys = false
meet (x ∷ xs) ys = if any (fits (Thread x.waiter.thread)) ys then true else meet xs ys

-- of those under a key, what a requeue wakes; what it moves; and all that it leaves
abbrev pub woken_of : RequeueOp → ℕ → List Waiting → List Waiting
woken_of op.Abort key xs = []
woken_of op.UnparkOneRequeueRest key xs = found (fits (Key key)) xs
woken_of op.RequeueAll key xs = []
woken_of op.UnparkOne key xs = found (fits (Key key)) xs
woken_of op.RequeueOne key xs = []

abbrev pub moved_of : RequeueOp → ℕ → List Waiting → List Waiting
moved_of op.Abort key xs = []
moved_of op.UnparkOneRequeueRest key xs = every (fits (Key key)) (without (fits (Key key)) xs)
moved_of op.RequeueAll key xs = every (fits (Key key)) xs
moved_of op.UnparkOne key xs = []
moved_of op.RequeueOne key xs = found (fits (Key key)) xs

abbrev pub rest_of : RequeueOp → ℕ → List Waiting → List Waiting
rest_of op.Abort key xs = xs
rest_of op.UnparkOneRequeueRest key xs = others (fits (Key key)) (without (fits (Key key)) xs)
rest_of op.RequeueAll key xs = others (fits (Key key)) xs
rest_of op.UnparkOne key xs = without (fits (Key key)) xs
rest_of op.RequeueOne key xs = without (fits (Key key)) xs
