use denote.Param.Send.{given_send, given_sync, param_send, param_sync}
use Rattle.dashmap_plain.proofs.iter_mut.fn.write_map.replace_with+FnOnce.call_once.Goals as goal

-- what a bound says of a type parameter holds of the type that stands for it, as the closure's argument names it
pub replace_with-requires : goal.replace_with-requires
replace_with-requires g c =
    let (callable, bounds) = c.requires.1.1.1.1.1.1.1.1 in
    let key = param_send 0 _ (given_send 0 _ g.row.K bounds.0) in
    let value = param_send 1 _ (given_send 1 _ g.row.V bounds.1) in
    let alloc = param_send 4 _ (given_send 4 _ g.row.A bounds.2) in
    let rt = param_sync 5 _ (given_sync 5 g.row.R bounds.3) in
    let f = param_sync 6 _ (given_sync 6 g.row.F bounds.4) in (key, (value, (alloc, (rt, (f, (bounds.5, callable))))))
