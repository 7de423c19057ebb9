-- Waiters as linked nodes: one node for each thread number, and one chain of them for each bucket of keys.
use Rattle.std.specs.Prelude.{◌≡◌, ℕ, zero, suc, ◌<◌, ◌≤◌, ◌%◌, List, [], ◌∷◌, ◌++◌, length, map, Option, Some, None}
use Rattle.std.specs.Prelude.{slice_get, slice_set, count_by, ◌==◌}
use Rattle.std.specs.Option.{option_and_then}
use Rattle.parking_lot_core_model.specs.declared.chains.Node.{Node}
use Rattle.parking_lot_core_model.specs.declared.chains.Head.{Head}
use Rattle.parking_lot_core_model.specs.declared.chains.Spot.{Spot}
use Rattle.parking_lot_core_model.specs.declared.chains.Trail.{Trail}
use Rattle.parking_lot_core_model.specs.declared.lists.Entry.{Entry}
use Rattle.parking_lot_core_model.specs.declared.place.Waiter.{Waiter}
use Rattle.parking_lot_core_model.specs.Lists.{lists_of}

-- what a walk tells of a number's node, and of the number before it
abbrev pub spot_at : Option ℕ → ℕ → Node → Spot
spot_at before n node = record { before = before; key = node.key; waiter = record { thread = n; token = node.token } }

-- a walk from a number on, over so many nodes at most
abbrev pub walk_at : (Option ℕ → Option ℕ → List Spot) → Option ℕ → ℕ → Option Node → List Spot
walk_at rest before n None = []
walk_at rest before n (Some node) = spot_at before n node ∷ rest (Some n) node.next

abbrev pub walk_on : List Node → (Option ℕ → Option ℕ → List Spot) → Option ℕ → Option ℕ → List Spot
walk_on nodes rest before None = []
walk_on nodes rest before (Some n) = walk_at rest before n (slice_get nodes n)

abbrev pub walk : List Node → ℕ → Option ℕ → Option ℕ → List Spot
walk nodes zero before at = []
walk nodes (suc left) before at = walk_on nodes (walk nodes left) before at

-- a whole one
abbrev pub walk_from : List Node → Option ℕ → List Spot
walk_from nodes first = walk nodes (length nodes) None first

-- what is left of the code's walk
abbrev pub left_of : Trail → List Spot
left_of w = walk w.nodes.now w.left w.before w.at

-- the entries of a chain, and of all
abbrev pub entry_of : Spot → Entry Waiter
entry_of spot = record { key = spot.key; item = spot.waiter }

abbrev pub chain : List Node → Head → List (Entry Waiter)
chain nodes head = map entry_of (walk_from nodes head.first)

abbrev pub entries : List Node → List Head → List (Entry Waiter)
entries nodes [] = []
entries nodes (head ∷ heads) = chain nodes head ++ entries nodes heads

-- the last of some numbers
abbrev pub last_of : Option ℕ → List ℕ → Option ℕ
last_of before [] = before
last_of before (n ∷ ns) = last_of (Some n) ns

-- from a first number the nodes lead along all these, and then there; all are of the bucket
abbrev pub Leads : List Node → ℕ → ℕ → Option ℕ → List ℕ → Option ℕ → Type 0
Leads nodes count bucket at [] to = at ≡ to
Leads nodes count bucket at (n ∷ ns) to = (node : Node) × (at ≡ Some n) × (slice_get nodes n ≡ Some node)
    × (node.key % count ≡ bucket) × Leads nodes count bucket node.next ns to

-- the nodes of a bucket are linked from its first to its last
abbrev pub IsChain : List Node → ℕ → ℕ → Head → Type 0
IsChain nodes count bucket head = (ns : List ℕ) × Leads nodes count bucket head.first ns None
    × (head.last ≡ last_of None ns) × (length ns ≤ length nodes)

-- every bucket's nodes are, and there is a node for each
pub record AreLinked (heads : List Head) (nodes : List Node) : Type 0 where
  pub some : 0 < length heads
  pub few : length (entries nodes heads) ≤ length nodes
  pub chains : (bucket : ℕ) (head : Head) → slice_get heads bucket ≡ Some head
      → IsChain nodes (length heads) bucket head

-- one of two, by whether there is a number
abbrev pub where_some : Option ℕ → Option ℕ → Option ℕ → Option ℕ
where_some None there else_so = else_so
where_some (Some n) there else_so = there

-- the nodes with another next behind a number's, where there is one
abbrev pub node_to : List Node → ℕ → Option ℕ → Option Node → List Node
node_to nodes n next None = nodes
node_to nodes n next (Some node) = slice_set nodes n (record node { next = next })

abbrev pub with_next : List Node → Option ℕ → Option ℕ → List Node
with_next nodes None next = nodes
with_next nodes (Some n) next = node_to nodes n next (slice_get nodes n)

-- who stands behind a number
abbrev pub next_of : List Node → ℕ → Option ℕ
next_of nodes n = option_and_then (λ node. node.next) (slice_get nodes n)

-- the node of one who joins
abbrev pub last_node : ℕ → Waiter → Node
last_node key waiter = record { key = key; token = waiter.token; next = None }

-- the ends of a chain that a number joins; of one that it leaves
abbrev pub head_with : Head → ℕ → Head
head_with head n = record { first = where_some head.first head.first (Some n); last = Some n }

abbrev pub head_without : Head → Option ℕ → Option ℕ → Head
head_without head before next = record {
  first = where_some before head.first next;
  last = where_some next head.last before;
}

-- a waiter joins the end of its key's chain
abbrev pub Joins : List Head → List Node → ℕ → Waiter → List Head → List Node → Type 0
Joins heads nodes key waiter heads' nodes' = (head : Head) × (slice_get heads (key % length heads) ≡ Some head)
    × (heads' ≡ slice_set heads (key % length heads) (head_with head waiter.thread))
    × (nodes' ≡ with_next (slice_set nodes waiter.thread (last_node key waiter)) head.last (Some waiter.thread))

-- it leaves it
abbrev pub Leaves : List Head → List Node → Spot → List Head → List Node → Type 0
Leaves heads nodes spot heads' nodes' = (head : Head) × (slice_get heads (spot.key % length heads) ≡ Some head)
    × (heads' ≡ slice_set heads (spot.key % length heads)
    (head_without head spot.before (next_of nodes spot.waiter.thread)))
    × (nodes' ≡ with_next nodes spot.before (next_of nodes spot.waiter.thread))

-- the ends of an empty chain
abbrev pub nobody : Head
nobody = record { first = None; last = None }

abbrev pub AreEmpty : List Head → Type 0
AreEmpty [] = Unit {0}
AreEmpty (head ∷ heads) = (head ≡ nobody) × AreEmpty heads

-- each thread of these entries has a node
abbrev pub HaveNodes : ℕ → List (Entry Waiter) → Type 0
HaveNodes count [] = Unit {0}
HaveNodes count (e ∷ es) = (e.item.thread < count) × HaveNodes count es

-- so many nodes serve to link them: no thread comes twice
pub record MayBeLinked (nodes : ℕ) (es : List (Entry Waiter)) : Type 0 where
  pub within : HaveNodes nodes es
  pub once : (thread : ℕ) → count_by (λ e. e.item.thread == thread) es ≤ 1
  pub few : length es ≤ nodes

-- what waits: the entries, chain behind chain, and how many nodes there are
pub record WaiterLists : Type 0 where
  pub entries : List (Entry Waiter)
  pub nodes : ℕ

-- each key's list
abbrev pub queued : WaiterLists → ℕ → List Waiter
queued w = lists_of w.entries

-- how many wait in all, and for how many there is room
abbrev pub total : WaiterLists → ℕ
total w = length w.entries

abbrev pub room : WaiterLists → ℕ
room w = w.nodes
