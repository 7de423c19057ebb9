-- What each act of a call gives, and what it leaves of the machine.
use Rattle.std.specs.Prelude.{ℕ, ◌==◌, ◌&&◌, Bool, true, false, is_some, is_none, nat_lt, if◌then◌else◌, List, []}
use Rattle.std.specs.Prelude.{length, remove, replicate, Option, Some, None, slice_get, slice_set}
use Rattle.std.specs.List.{position}
use Rattle.std.specs.Option.{option_map, option_and_then, option_map_or}
use Rattle.parking_lot_protocol.specs.declared.act.Act.{Act}
use Rattle.parking_lot_protocol.specs.declared.act.Act.TheVariants as act
use Rattle.parking_lot_protocol.specs.declared.act.SectionAct.TheVariants as section
use Rattle.parking_lot_protocol.specs.declared.act.ActResult.{ActResult}
use Rattle.parking_lot_protocol.specs.declared.act.ActResult.TheVariants as seen
use Rattle.parking_lot_protocol.specs.Acts.{change_of}
use Rattle.parking_lot_rules.specs.declared.once.once_state.OnceState.{OnceState}
use Rattle.parking_lot_rules.specs.declared.once.once_state.OnceState.TheVariants.{New}
use Rattle.parking_lot_protocol_waits.specs.declared.once.once_phase.OnceAnswer.{OnceAnswer}
use Rattle.parking_lot_protocol_waits.specs.declared.once.once_phase.OnceAnswer.TheVariants as end
use Rattle.parking_lot_protocol_waits.specs.declared.once.once_phase.OncePhase.TheVariants.{Asking, Returning}
use Rattle.parking_lot_protocol_waits.specs.Once.OnceTable.{act_of, answer_of, next_phase}
use Rattle.parking_lot_machine_sides.specs.declared.once.calls.OnceCall.{OnceCall}
use Rattle.parking_lot_machine_sides.specs.declared.once.calls.OnceReply.{OnceReply}
use Rattle.parking_lot_machine_sides.specs.Once.Entries.{is_in, joined}
use Rattle.parking_lot_machine_sides.specs.Once.OnceCalls.{ends_well, reply_by, wish_of}
use Rattle.parking_lot_core_model.specs.Buckets.{buckets_for}
use Rattle.parking_lot_machine_sides.specs.Once.Onces.{Entry, OpenCall, Onces, bucket_of, call_at, inside_at, word_at}

-- CALLS

-- it is told what its act gave
abbrev pub told : OpenCall → ActResult → OpenCall
told c s = record c { core = record { phase = next_phase c.core.phase s } }

abbrev pub call_for : ℕ → OnceCall → OpenCall
call_for i call = record {
  once = i;
  call = call;
  core = record { phase = next_phase (Asking (wish_of call)) seen.Start };
  taker = None;
  before = New;
  woken = false;
}

abbrev pub off_list : ℕ → OpenCall → OpenCall
off_list by c = record c { taker = Some by }

abbrev pub woken : OpenCall → OpenCall
woken c = record (told c (seen.Woken (record { 0 = 0 }))) { taker = None; woken = true }

-- its closure has run, which was handed that state
abbrev pub ran : OpenCall → OnceState → OpenCall
ran c before = record c {
  core = record { phase = next_phase (Returning (ends_well c.call)) seen.Start };
  before = before;
}

-- ACTS

-- what an act gives at a word, if it is one of its own thread and its once alone
abbrev pub shown : Act → ℕ → ActResult
shown act.Load w = seen.Word w
shown (act.Exchange from to) w = if w == from then seen.Exchanged else seen.Word w
shown act.Spin w = seen.Spun true
shown (act.Enter key) w = seen.Entered
shown (act.Section section.Check) w = seen.Word w
shown (act.Section (section.Store plain fair)) w = seen.Stored false
shown a w = seen.Made

-- the word after it
abbrev pub written : Act → ℕ → ℕ
written (act.Exchange from to) w = if w == from then to else w
written (act.Section (section.Store plain fair)) w = change_of plain w
written a w = w

-- and who is inside the section of its bucket
abbrev pub inside_after : Act → ℕ → Option ℕ → Option ℕ
inside_after (act.Enter key) t o = Some t
inside_after (act.Section section.Leave) t o = None
inside_after a t o = o

-- WHAT A STEP LEAVES OF THE MACHINE

abbrev pub with_call : Onces → ℕ → Option OpenCall → Onces
with_call s t o = record s { calls = slice_set s.calls t o }

-- an act of the thread and its once alone
abbrev pub acted : Onces → ℕ → OpenCall → Onces
acted s t c = record s {
  words = slice_set s.words c.once (written (act_of c.core.phase) (word_at s c.once));
  calls = slice_set s.calls t (Some (told c (shown (act_of c.core.phase) (word_at s c.once))));
  inside = slice_set s.inside (bucket_of s c.once) (inside_after (act_of c.core.phase) t (inside_at s c.once));
}

-- it joins the list
abbrev pub appended : Onces → ℕ → OpenCall → Onces
appended s t c = record s { calls = slice_set s.calls t (Some (told c seen.Made)); waiting = joined s.waiting c.once t }

-- whether anybody stands in a list
abbrev pub is_left : List Entry → ℕ → Bool
is_left es list = is_some (position (is_in list) es)

abbrev pub thread_in : List Entry → ℕ → ℕ
thread_in es n = option_map_or (λ (e : Entry). e.thread) (slice_get es n) 0

-- it takes v off the list, which stands n-th among all that wait
abbrev pub took_at : Onces → ℕ → OpenCall → ℕ → ℕ → Onces
took_at s t c n v = record s {
  calls = slice_set (slice_set s.calls v (option_map (off_list t) (call_at s v))) t
      (Some (told c (seen.Took (Some (record { 0 = 0 })) (is_left (remove s.waiting n) c.once))));
  waiting = remove s.waiting n;
  wakes = joined s.wakes t v;
}

abbrev pub took_by : Option ℕ → Onces → ℕ → OpenCall → Onces
took_by None s t c = with_call s t (Some (told c (seen.Took None false)))
took_by (Some n) s t c = took_at s t c n (thread_in s.waiting n)

-- it takes the first of the list, or finds nobody there
abbrev pub took : Onces → ℕ → OpenCall → Onces
took s t c = took_by (position (is_in c.once) s.waiting) s t c

-- it wakes v, which stands n-th among all that are to be woken
abbrev pub woke_at : Onces → ℕ → OpenCall → ℕ → ℕ → Onces
woke_at s t c n v =
    record s {
      calls = slice_set (slice_set s.calls v (option_map woken (call_at s v))) t (Some (told c seen.Made));
      wakes = remove s.wakes n;
    }

abbrev pub woke_by : Option ℕ → Onces → ℕ → OpenCall → Onces
woke_by None s t c = s
woke_by (Some n) s t c = woke_at s t c n (thread_in s.wakes n)

-- it wakes the first of those whom it has taken
abbrev pub woke : Onces → ℕ → OpenCall → Onces
woke s t c = woke_by (position (is_in t) s.wakes) s t c

-- its core has ended: its closure runs and returns, or the call is over
abbrev pub ended_by : Option OnceAnswer → Onces → ℕ → OpenCall → Onces
ended_by None s t c = s
ended_by (Some (end.Runs before)) s t c = with_call s t (Some (ran c before))
ended_by (Some end.Completed) s t c = with_call s t None
ended_by (Some end.Poisoned) s t c = with_call s t None
ended_by (Some end.Finished) s t c = with_call s t None

abbrev pub ended : Onces → ℕ → OpenCall → Onces
ended s t c = ended_by (answer_of c.core.phase) s t c

-- The machine after a step of a thread in that call, whole, by the act that the call asks for.
abbrev pub stepped : Act → Onces → ℕ → OpenCall → Onces
stepped (act.Section (section.TakeNext sum)) s t c = took s t c
stepped (act.Section (section.Append token)) s t c = appended s t c
stepped (act.Section section.Wake) s t c = woke s t c
stepped (act.Done answer) s t c = ended s t c
stepped a s t c = acted s t c

-- what the call is answered by that step
abbrev pub replied : OpenCall → Option OnceReply
replied c = option_and_then (reply_by c.call c.before) (answer_of c.core.phase)

-- the call begins
abbrev pub begun : Onces → ℕ → ℕ → OnceCall → Onces
begun s t i call = with_call s t (Some (call_for i call))

-- WHEN A STEP MAY BE MADE

-- one that sleeps makes none, and a section is entered only where none is open in its bucket
abbrev pub is_possible : Bool → Act → Bool
is_possible free act.Sleep = false
is_possible free (act.Enter key) = free
is_possible free other = true

abbrev pub can_move : Onces → ℕ → Bool
can_move s t = option_map_or (λ c. is_possible (is_none (inside_at s c.once)) (act_of c.core.phase)) (call_at s t) false

-- one in no call begins one at a once that there is
abbrev pub may_begin : Onces → ℕ → ℕ → Bool
may_begin s t i = nat_lt t (length s.calls) && (is_none (call_at s t) && nat_lt i (length s.words))

-- one that waits in its list, or was taken off it, until another thread wakes it
abbrev pub sleeps : Act → Bool
sleeps act.Sleep = true
sleeps other = false

abbrev pub is_asleep : Onces → ℕ → Bool
is_asleep s t = option_map_or (λ c. sleeps (act_of c.core.phase)) (call_at s t) false

-- a machine of new onces, where nobody is in a call
abbrev pub at_rest : ℕ → ℕ → Onces
at_rest threads onces = record {
  words = replicate onces 0;
  calls = replicate threads None;
  waiting = [];
  wakes = [];
  inside = replicate (buckets_for threads) None;
}
