-- the counts are those of the brackets before the index, and no beginning up to it is too deep
use Rattle.std.proofs.Common.{◌≡◌, ℕ, ◌+◌, ◌<◌, ◌≤◌, eqb, take, count_by}
use Rattle.formulas.proofs.depth.too_deep.Given as goal

abbrev pub invariant-loop-byte : goal.invariant-loop-byte
invariant-loop-byte l =
    (l.opened ≡ count_by (eqb 40) (take l.byte-index l.text))
    × (l.closed ≡ count_by (eqb 41) (take l.byte-index l.text))
    × (l.opened ≤ l.byte-index)
    × (l.closed ≤ l.byte-index)
    × ((n : ℕ) → n < l.byte-index + 1 → count_by (eqb 41) (take n l.text) + 8 < count_by (eqb 40) (take n l.text) → ⊥)
