use Rattle.lock_api_rw.proofs.rwlock.RwLockHasValueMut.with_value_mut.Goals as goal

-- the value that the std guard lends, and what the closure leaves
pub returns : goal.returns
returns g c = (c.deref_mut.result.now, c.lent_mut.new.value, c.lent_mut.ensures)
