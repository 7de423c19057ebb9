-- When histories and logs belong together, clause by clause, and the first clause that fails.
use Rattle.std.specs.Prelude.{ℕ, ◌^◌, ◌==◌, nat_le, nat_lt, Bool, true, not, ◌&&◌, if◌then◌else◌, List, [], ◌∷◌, length}
use Rattle.std.specs.Prelude.{Option, None, Some, slice_index_or}
use Rattle.std.specs.List.{list_all, list_any, enumerate_from}
use Rattle.std.specs.Option.{option_or}
use Rattle.dashmap_table.specs.Route.{log2, route_of}
use Rattle.dashmap_record.specs.declared.history.entry.Entered.{Entered}
use Rattle.dashmap_record.specs.declared.history.fault.GatherFault.{GatherFault}
use Rattle.dashmap_record.specs.declared.history.fault.GatherFault.TheVariants as fault
use Rattle.dashmap_record.specs.History.Entries.{key_of, same_entry}
use Rattle.dashmap_record.specs.History.Replay.{nothing, replies_hold}

-- a number is above the last one, if there is a last one
abbrev pub is_above : Option ℕ → ℕ → Bool
is_above None n = true
is_above (Some last) n = nat_lt last n

-- whether there may be so many shards
abbrev pub is_amount : ℕ → Bool
is_amount n = (n == 2 ^ log2 n) && (nat_le 2 n && nat_le n (2 ^ 16))

module _ {K V : Type 0} where
  -- stamps rise strictly, and the first is above the last one before
  abbrev pub rises_above : Option ℕ → List (Entered K V) → Bool
  rises_above last [] = true
  rises_above last (e ∷ es) = is_above last e.stamp && rises_above (Some e.stamp) es

  abbrev pub rises : List (Entered K V) → Bool
  rises es = rises_above None es

  -- the list of a number; there is none behind the last
  abbrev pub list_at : List (List (Entered K V)) → ℕ → List (Entered K V)
  list_at lists i = slice_index_or lists i []

  -- each list's stamps rise
  abbrev pub all_rise : List (List (Entered K V)) → Bool
  all_rise lists = list_all rises lists

  -- an entry of history i is of shard i, and its hash's route leads there
  abbrev pub is_routed : ℕ → ℕ → Entered K V → Bool
  is_routed shards i e = (e.shard == i) && (is_amount shards && (route_of e.hash shards == i))

  abbrev pub is_routed_list : ℕ → ℕ × List (Entered K V) → Bool
  is_routed_list shards p = list_all (is_routed shards p.0) p.1

  abbrev pub are_routed : List (List (Entered K V)) → Bool
  are_routed histories = list_all (is_routed_list (length histories)) (enumerate_from 0 histories)

  -- an entry's hash is that of its key
  abbrev pub are_hashed : (K → ℕ) → List (List (Entered K V)) → Bool
  are_hashed hash histories = list_all (λ es. list_all (λ e. e.hash == hash (key_of e.call)) es) histories

  module _ (eq : K → K → Bool) (alike : V → V → Bool) where
    -- an equal entry is in the list of this number
    abbrev pub is_in : List (List (Entered K V)) → ℕ → Entered K V → Bool
    is_in lists i e = list_any (same_entry eq alike e) (list_at lists i)

    -- a history's entry is in its caller's log
    abbrev pub are_logged : List (List (Entered K V)) → List (List (Entered K V)) → Bool
    are_logged histories logs = list_all (λ es. list_all (λ e. is_in logs e.caller e) es) histories

    -- an entry of log i is of caller i, and in its shard's history
    abbrev pub is_kept : List (List (Entered K V)) → ℕ → Entered K V → Bool
    is_kept histories i e = (e.caller == i) && is_in histories e.shard e

    abbrev pub is_kept_list : List (List (Entered K V)) → ℕ × List (Entered K V) → Bool
    is_kept_list histories p = list_all (is_kept histories p.0) p.1

    abbrev pub are_kept : List (List (Entered K V)) → List (List (Entered K V)) → Bool
    are_kept histories logs = list_all (is_kept_list histories) (enumerate_from 0 logs)

    -- each history's replies are those of its calls on an empty map
    abbrev pub are_replayed : List (List (Entered K V)) → Bool
    are_replayed histories = list_all (replies_hold eq alike (nothing K V)) histories

    -- the first clause that fails, replies aside
    abbrev pub first_mismatch : (K → ℕ) → List (List (Entered K V)) → List (List (Entered K V)) → Option GatherFault
    first_mismatch hash histories logs =
        if not (all_rise histories && all_rise logs) then Some fault.StampOrder
        else if not (are_logged histories logs) then Some fault.NotInLog
        else if not (are_kept histories logs) then Some fault.NotInHistory
        else if not (are_routed histories) then Some fault.WrongShard
        else if not (are_hashed hash histories) then Some fault.WrongHash
        else None

    -- the first clause that fails: of calls whose replies don't hold, none before
    abbrev pub first_fault : (K → ℕ) → List (List (Entered K V)) → List (List (Entered K V)) → Option GatherFault
    first_fault hash histories logs =
        option_or (first_mismatch hash histories logs) (if are_replayed histories then None else Some fault.WrongReply)
