use Rattle.theorems.proofs.Monotone.{addressed}
use Rattle.theorems.proofs.laws.address_dependencies_only_forbid.Goals as goal

pub returns : goal.returns
returns c = addressed
