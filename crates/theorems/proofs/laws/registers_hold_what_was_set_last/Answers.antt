use Rattle.theorems.proofs.LastSet.{registers}
use Rattle.theorems.proofs.laws.registers_hold_what_was_set_last.Goals as goal

pub returns : goal.returns
returns c = registers
