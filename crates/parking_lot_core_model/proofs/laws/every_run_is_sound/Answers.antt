use Rattle.parking_lot_core_model.specs.Runs.{fresh, fresh_paired}
use Rattle.parking_lot_core_model.proofs.Sequences.{sound_after_all, sound_fresh, sound_fresh_paired}
use Rattle.parking_lot_core_model.proofs.laws.every_run_is_sound.Goals as goal

pub returns : goal.returns
returns c = record {
  single = λ limit number operations. sound_after_all operations (fresh limit number) (sound_fresh limit number);
  paired = λ limit number operations. sound_after_all operations (fresh_paired limit number)
      (sound_fresh_paired limit number);
}
