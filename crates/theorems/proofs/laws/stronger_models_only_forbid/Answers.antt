use Rattle.theorems.proofs.Monotone.{stronger}
use Rattle.theorems.proofs.laws.stronger_models_only_forbid.Goals as goal

pub returns : goal.returns
returns c = stronger
