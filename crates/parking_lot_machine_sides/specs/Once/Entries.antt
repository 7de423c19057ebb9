-- Many lists of threads, kept in one.
use Rattle.std.specs.Prelude.{ℕ, ◌==◌, Bool, List, [], ◌∷◌, ◌++◌, map, filter}
use Rattle.parking_lot_machine_sides.specs.declared.once.entry.Entry.{Entry}

abbrev pub is_in : ℕ → Entry → Bool
is_in list e = e.list == list

-- one of them, in order
abbrev pub list_of : List Entry → ℕ → List ℕ
list_of es list = map (λ e. e.thread) (filter (is_in list) es)

-- a thread joins the end of a list
abbrev pub joined : List Entry → ℕ → ℕ → List Entry
joined es list thread = es ++ record { list = list; thread = thread } ∷ []
