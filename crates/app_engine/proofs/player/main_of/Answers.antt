use Rattle.std.proofs.Common.{refl}
use Rattle.world_log.specs.Print.{main_name}
use Rattle.app_engine.proofs.Parts.{same_parts}
use Rattle.app_engine.proofs.player.main_of.Goals as goal

pub returns : goal.returns
returns c = same_parts _ main_name refl refl refl
