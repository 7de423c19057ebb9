-- A key owns nothing, so it may go to another thread.
use denote.Param.Send.{IsSend}
use Rattle.parking_lot_driver.specs.contracts.key.Key.{the_row}

pub send : IsSend the_row
send = record { owned = λ d vs. ((λ vss. (tt, ((λ uss. (tt, tt)), tt))), tt); leaving = λ k f vs. tt }
