use Rattle.std.proofs.Common.{map}
use Rattle.mapworld_explorer.proofs.Leading.{led-on}
use Rattle.mapworld_explorer.proofs.worlds.world_led_by.Goals as goal

pub returns-in-Ok : goal.returns-in-Ok
returns-in-Ok g c =
    led-on g.D.Deed g.S.BuildHasher g.S.Hasher.Hasher g.K.PartialEq.eq g.K.Hash.hash_input c.args.shards c.args.hasher
    c.args.pairs.items (map (λ program. program.items) c.args.programs.items) c.args.schedule.now c.in-Ok.world
    c.led_on.result c.in-Ok.ensures.made c.led_on.ensures
