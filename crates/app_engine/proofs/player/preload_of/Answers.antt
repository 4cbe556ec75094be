use Rattle.std.proofs.Common.{refl}
use Rattle.app_engine.specs.Log.{preload_name}
use Rattle.app_engine.proofs.Parts.{same_parts}
use Rattle.app_engine.proofs.player.preload_of.Goals as goal

pub returns : goal.returns
returns c = same_parts _ (preload_name c.args.number) refl refl refl
