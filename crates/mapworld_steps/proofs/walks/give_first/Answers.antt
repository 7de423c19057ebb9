use Rattle.mapworld_steps.proofs.walks.give_first.Goals as goal

pub start-requires-clause-may : goal.start-requires-clause-may
start-requires-clause-may g c =
    rw c.gives_up.ensures
    (c.requires.may c.take_first-hold.result c.take_first-hold.new.holds.items c.take_first-hold.ensures)
