-- What each refusal says: its number and, of some, a place.
use Rattle.std.specs.Prelude.{ℕ, ◌++◌, List, Some, None, codes, decimal, Option}
use Rattle.models.specs.declared.refusal.Refusal.{Refusal}
use Rattle.models.specs.declared.refusal.Refusal.TheVariants.{FormulaTooLong, UnknownWord, NoFormula, TooDeep, UnknownName, UnknownCell, OutOfMemory}

pub data Told : Type 0 where
  numbered : ℕ → Told
  -- a number and a place, from 0
  placed : ℕ → ℕ → Told
  -- want of memory, which is in no list of refusals
  unnumbered : Told

abbrev pub told : Refusal → Told
told FormulaTooLong = numbered 10
told (UnknownWord place) = placed 11 place
told NoFormula = numbered 12
told TooDeep = numbered 13
told UnknownName = numbered 17
told UnknownCell = numbered 18
told OutOfMemory = unnumbered

abbrev pub number_of : Told → Option ℕ
number_of (numbered n) = Some n
number_of (placed n p) = Some n
number_of unnumbered = None

abbrev pub place_of : Told → Option ℕ
place_of (numbered n) = None
place_of (placed n p) = Some p
place_of unnumbered = None

-- the text that tells a refusal: its number and, where it has one, its place
abbrev pub text_of : Told → List ℕ
text_of (numbered n) = codes "refused " ++ decimal n
text_of (placed n p) = codes "refused " ++ (decimal n ++ (codes " place " ++ decimal p))
text_of unnumbered = codes "out of memory"
