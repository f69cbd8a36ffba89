-- Formulas as trees, and what a tree makes true.
use Rattle.std.specs.Prelude.{Bool, true, ◌&&◌, ◌||◌}
use Rattle.models.specs.Facts.{same}
use Rattle.models.specs.declared.facts.Facts.{Facts}
use Rattle.models.specs.declared.facts.Kind.TheVariants.{Read, Write, Fence}
use Rattle.models.specs.declared.formula.Formula.{Formula}
use Rattle.models.specs.declared.formula.Formula.TheVariants.{Word as Leaf, Both', Either'}
use Rattle.models.specs.declared.formula.Word.{Word}
use Rattle.models.specs.declared.formula.Word.TheVariants.{True, ReadX, ReadY, WriteX, WriteY, FenceX, FenceY, SameAddr, DataDep, ControlDep}

pub data Tree : Type 0 where
  word : Word → Tree
  -- joined by `&`
  both : Tree → Tree → Tree
  -- joined by `|`
  either : Tree → Tree → Tree

-- the tree that a formula holds: each box's pointer and allocator are left out
abbrev pub shape : Formula → Tree
shape (Leaf w) = word w
shape (Both' p l q r) = both (shape l) (shape r)
shape (Either' p l q r) = either (shape l) (shape r)

-- `Read.x` is true when x, the earlier instruction, is a read, and so with the others; y is the later one
abbrev pub word_holds : Word → Facts → Bool
word_holds True f = true
word_holds ReadX f = same f.earlier Read
word_holds ReadY f = same f.later Read
word_holds WriteX f = same f.earlier Write
word_holds WriteY f = same f.later Write
word_holds FenceX f = same f.earlier Fence
word_holds FenceY f = same f.later Fence
word_holds SameAddr f = f.same_addr
word_holds DataDep f = f.data_dep
word_holds ControlDep f = f.control_dep

-- `&` is and, `|` is or
abbrev pub holds : Tree → Facts → Bool
holds (word w) f = word_holds w f
holds (both t u) f = holds t f && holds u f
holds (either t u) f = holds t f || holds u f
