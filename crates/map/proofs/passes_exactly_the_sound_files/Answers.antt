use Rattle.map.proofs.Faults.{sound_exactly}
use Rattle.map.proofs.passes_exactly_the_sound_files.Goals as goal

pub returns : goal.returns
returns c = sound_exactly
