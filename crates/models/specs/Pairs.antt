-- What two models keep together.
use Rattle.std.specs.Prelude.{Bool, ◌&&◌, ◌||◌}
use Rattle.models.specs.declared.facts.Facts.{Facts}

-- what one or the other keeps
abbrev pub union : (Facts → Bool) → (Facts → Bool) → Facts → Bool
union a b f = a f || b f

-- what both keep
abbrev pub intersection : (Facts → Bool) → (Facts → Bool) → Facts → Bool
intersection a b f = a f && b f
