use denote.Param.Send.{IsSend}
use Rattle.lock_word.specs.contracts.lock_word.LockWord.{the_row}

pub send : IsSend the_row
send = record {
  owned = λ name vs. (
    (λ _. tt),
    λ n. (
      (λ vss. (tt, ((tt, tt), tt))),
      λ _.
          (tt, tt),
    ),
  );
  leaving = λ k d w. tt;
}
