-- the registers are those of the thread once it has run its instructions before the place
use Rattle.std.proofs.Common.{◌≡◌, ℕ, ◌<◌, length, get_or}
use Rattle.semantics.specs.Values.{held}
use Rattle.semantics.proofs.values.registers_at.Given as goal

abbrev pub invariant-loop-placed : goal.invariant-loop-placed
invariant-loop-placed l =
    (length l.registers ≡ 256)
    × ((k : ℕ) → k < 256 → get_or l.registers k 0 ≡ held l.places l.thread l.placed-index k)
