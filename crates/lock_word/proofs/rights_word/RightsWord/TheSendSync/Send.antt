-- A word may go to another thread: the rights that lie with it are no thread's own.
use Rattle.std.proofs.Common.{ℕ, zero, suc}
use base.Shift.{Keyless}
use denote.Param.Send.{IsSend}
use Rattle.lock_word.specs.Sharing.{kept}
use Rattle.lock_word.specs.contracts.rights_word.RightsWord.{the_row}

pub kept_keyless : (name kind n : ℕ) → Keyless (kept name kind n)
kept_keyless name zero n = λ all. ((λ _. tt), tt)
kept_keyless name (suc k) n = λ some. ((λ _. tt), tt)

pub send : IsSend the_row
send = record {
  owned = λ it vs. ((λ _. tt), λ n. ((λ vss. (tt, ((tt, tt), tt))), kept_keyless it.0 it.1 n));
  leaving = λ k d w. tt;
}
