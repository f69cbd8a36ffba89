-- Answers by yes or no.
use Rattle.std.specs.Prelude.{Bool, MatchBool}

-- r tells whether P holds
abbrev pub Tells : Bool → Type 0 → Type 0
Tells r P = MatchBool r P (P → ⊥)
