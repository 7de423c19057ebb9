use Rattle.lock_api_rw.proofs.rwlock.RwLockHasValue.with_value.Goals as goal

-- the value that the std guard lends
pub returns : goal.returns
returns g c = (c.deref.result.now, c.lent.ensures)
