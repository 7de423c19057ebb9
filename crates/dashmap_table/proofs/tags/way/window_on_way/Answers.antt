use Rattle.std.proofs.Common.{sym}
use Rattle.std.proofs.lemmas.Bool.{cond-true, cond-false, lt-ltb, le-ltb}
use Rattle.dashmap_table.specs.Tags.Way.{home}
use Rattle.dashmap_table.proofs.tags.way.window_on_way.Goals as goal

pub returns-then-window-windows-clause-window : goal.returns-then-window-windows-clause-window
unfolding home
returns-then-window-windows-clause-window c = sym (cond-true _ _ _ (lt-ltb _ _ c.if-window-windows.true))

pub returns-else-window-windows-clause-window : goal.returns-else-window-windows-clause-window
unfolding home
returns-else-window-windows-clause-window c = sym (cond-false _ _ _ (le-ltb _ _ c.if-window-windows.false))
