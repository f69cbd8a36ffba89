use Rattle.semantics.specs.Events.{events_of}
use Rattle.theorems.proofs.Bridging.{bridge}
use Rattle.theorems.proofs.Computed.{dec_kept}
use Rattle.theorems.proofs.laws.bridge.Goals as goal

pub returns : goal.returns
returns c = λ ps initial keeps complete. bridge (events_of ps initial keeps) (dec_kept keeps ps)
