-- What the calls of a session are answered is told by the session: by what its key had at the session's place in the
-- order of blocks, and by the session's own calls up to each of them.
use Rattle.std.specs.Prelude.{◌≡◌, ℕ, ◌+◌, ◌<◌, ◌≤◌, ◌⊎◌, Bool, true, false, List, Option, Some, slice_get, IsTrue}
use Rattle.mapworld_calls.specs.declared.reply.Reply.{Reply}
use Rattle.mapworld_calls.specs.Programs.{opening_key}
use Rattle.mapworld_calls.specs.declared.block.Block.{Block}
use Rattle.mapworld_calls.specs.declared.ask.Ask.{Ask}
use Rattle.mapworld_calls.specs.declared.ask.Ask.TheVariants as ask
use Rattle.mapworld_calls.specs.declared.ask.Begin.{Begin}
use Rattle.mapworld_calls.specs.declared.ask.Held.{Held}
use Rattle.mapworld_calls.specs.declared.ask.Held.TheVariants as held
use Rattle.mapworld_calls.specs.declared.reply.Answer.{Answer}
use Rattle.mapworld_calls.specs.declared.reply.Answer.TheVariants as answer
use Rattle.mapworld_calls.specs.Deeds.{Deeds}
use Rattle.mapworld_calls.specs.Calls.{At, exclusive, effect_on}
use Rattle.mapworld_calls.specs.Setup.{Setup, ask_at, session_of}
use Rattle.mapworld_calls.specs.Replay.{reached, before}
use Rattle.mapworld_calls.specs.HistoryLaws.Worlds.{IsWorld, IsBlockOf}

-- the reply to that call of the thread
pub record IsReplyOf {K V T A : Type 0} (replies : List (Reply K V T A)) (r : Reply K V T A) (t c : ℕ) : Type 0 where
  pub place : ℕ
  pub listed : slice_get replies place ≡ Some r
  pub thread : r.thread ≡ t
  pub call : r.call ≡ c

-- the call is the session's opening, or a call on its guard
abbrev pub IsCallOfSession : {K V D T : Type 0} → Setup K V D T → ℕ → ℕ → ℕ → Type 0
IsCallOfSession {K} {V} {D} w t o c =
    (c ≡ o) ⊎ ((h : Held V D) × (ask_at w t c ≡ Some (ask.Held h)) × (session_of w t c ≡ Some o))

-- two sessions, of any threads in any two worlds, that make the same calls up to their n-th and found the same
pub record AreAlike {K V D T : Type 0} (w w' : Setup K V D T) (bs bs' : List (Block K)) (t t' o o' n : ℕ) : Type 0 where
  pub opening : Begin K
  pub asked : ask_at w t o ≡ Some (ask.Begin opening)
  pub calls : (m : ℕ) → m ≤ n → ask_at w' t' (o' + m) ≡ ask_at w t (o + m)
  pub place : ℕ
  pub block : Block K
  pub at : IsBlockOf bs place block t o
  pub place' : ℕ
  pub block' : Block K
  pub at' : IsBlockOf bs' place' block' t' o'
  pub found : before w bs place (opening_key opening) ≡ before w' bs' place' (opening_key opening)

-- their n-th calls are answered the same, whatever other blocks are listed before them and behind them
abbrev pub SessionsTellTheirOwn : Type 0 → Type 0 → Type 0 → Type 0 → Type 0 → Type 0
SessionsTellTheirOwn K V D T A =
    (w w' : Setup K V D T) → w.deeds ≡ w'.deeds → (bs bs' : List (Block K)) (replies replies' : List (Reply K V T A))
    → IsWorld w bs replies → IsWorld w' bs' replies'
    → (t t' o o' n : ℕ) → AreAlike w w' bs bs' t t' o o' n
    → IsCallOfSession w t o (o + n) → IsCallOfSession w' t' o' (o' + n)
    → (r r' : Reply K V T A) → IsReplyOf replies r t (o + n) → IsReplyOf replies' r' t' (o' + n) → r.answer ≡ r'.answer

-- a call on the guard that reads, or makes the guard a shared one
abbrev pub reads_or_downgrades : {K V D : Type 0} → Option (Ask K V D) → Bool
reads_or_downgrades (Some (ask.Held (held.Read d))) = true
reads_or_downgrades (Some (ask.Held held.Downgrade)) = true
reads_or_downgrades a = false

-- call n of the session writes by the deed e, on an exclusive guard of the pair p, and call m reads by the deed d;
-- between them the session reads and downgrades only
pub record IsReadBehindWrite {K V D T : Type 0} (w : Setup K V D T) (t o n m : ℕ) (e d : D) (found : At K V)
    (p : K × V) : Type 0 where
  pub guard : found ≡ exclusive p
  pub writes : ask_at w t (o + n) ≡ Some (ask.Held (held.Write e))
  pub order : n < m
  pub between : (j : ℕ) → n < j → j < m → IsTrue (reads_or_downgrades (ask_at w t (o + j)))
  pub reads : ask_at w t (o + m) ≡ Some (ask.Held (held.Read d))
  pub session : session_of w t (o + m) ≡ Some o

-- what reading the pair by a deed is answered
abbrev pub read_of : {D K V T A : Type 0} → Deeds D K V T → D → K × V → Answer K V T A
read_of deeds d p = answer.Read (deeds.answer d p.0 p.1)

-- the read gives what the write stored: the deed of the write, applied to the pair that the guard had
abbrev pub WritesAreReadBack : Type 0 → Type 0 → Type 0 → Type 0 → Type 0 → Type 0
WritesAreReadBack K V D T A =
    (w : Setup K V D T) (bs : List (Block K)) (replies : List (Reply K V T A)) → IsWorld w bs replies
    → (t o : ℕ) (g : Begin K) → ask_at w t o ≡ Some (ask.Begin g) → (i : ℕ) (b : Block K) → IsBlockOf bs i b t o
    → (n m : ℕ) (e d : D) (p : K × V)
    → IsReadBehindWrite w t o n m e d (reached w t o n (before w bs i (opening_key g))) p
    → (r : Reply K V T A) → IsReplyOf replies r t (o + m) → r.answer ≡ read_of w.deeds d (effect_on w.deeds e p)
