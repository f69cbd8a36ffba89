-- A formula has no "not", so what it makes true stays true when a fact turns from no to yes.
use Rattle.std.specs.Prelude.{◌≡◌, true, refl}
use Rattle.std.proofs.Common.{⊎_elim, subst}
use Rattle.std.proofs.lemmas.Bool.{and_parts, and_from, or_cases, or_left, or_right}
use Rattle.models.specs.Facts.{Positive, same}
use Rattle.models.specs.Trees.{Tree, word, both, either, word_holds, holds}
use Rattle.models.specs.declared.facts.Kind.{Kind}
use Rattle.models.specs.declared.facts.Kind.TheVariants.{Read, Write, Fence}
use Rattle.models.specs.declared.formula.Word.{Word}
use Rattle.models.specs.declared.formula.Word.TheVariants.{True, ReadX, ReadY, WriteX, WriteY, FenceX, FenceY, SameAddr, DataDep, ControlDep}

same_earlier : (k : Kind) → Positive (λ f. same f.earlier k)
same_earlier k f g up e = subst (λ (j : Kind). same j k ≡ true) up.earlier e

same_later : (k : Kind) → Positive (λ f. same f.later k)
same_later k f g up e = subst (λ (j : Kind). same j k ≡ true) up.later e

word_positive : (w : Word) → Positive (word_holds w)
word_positive True f g up e = refl
word_positive ReadX f g up e = same_earlier Read f g up e
word_positive ReadY f g up e = same_later Read f g up e
word_positive WriteX f g up e = same_earlier Write f g up e
word_positive WriteY f g up e = same_later Write f g up e
word_positive FenceX f g up e = same_earlier Fence f g up e
word_positive FenceY f g up e = same_later Fence f g up e
word_positive SameAddr f g up e = up.address e
word_positive DataDep f g up e = up.dependency e
word_positive ControlDep f g up e = up.control e

pub positive : (t : Tree) → Positive (holds t)
positive (word w) f g up e = word_positive w f g up e
positive (both t u) f g up e =
    let parts = and_parts (holds t f) (holds u f) e in
    and_from (holds t g) (holds u g) (positive t f g up parts.0) (positive u f g up parts.1)
positive (either t u) f g up e =
    ⊎_elim
    (λ l. or_left (holds t g) (holds u g) (positive t f g up l))
    (λ r. or_right (holds t g) (holds u g) (positive u f g up r))
    (or_cases (holds t f) (holds u f) e)
