use Rattle.app_engine.proofs.Adding.{causal}
use Rattle.app_engine.proofs.laws.causal.Goals as goal

pub returns : goal.returns
returns c = causal
