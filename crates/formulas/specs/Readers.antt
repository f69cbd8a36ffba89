-- What the readers of formulas, terms and factors find in the words that stand before them.
use Rattle.std.specs.Prelude.{◌≡◌, ℕ, List, IfOk, Some, None, Option, Result}
use Rattle.std.specs.declared.alloc.AllocError.{AllocError}
use Rattle.formulas.specs.Grammar.{Level, formula, term, factor, Reads}
use Rattle.models.specs.Trees.{Tree, shape}
use Rattle.formulas.specs.Items.{NotFirst}
use Rattle.formulas.specs.Words.{Tokens}
use Rattle.models.specs.declared.Formula.{Formula}
use Rattle.formulas.specs.declared.token.Token.{Token}
use Rattle.formulas.specs.declared.token.Token.TheVariants.{And, Or}

-- the words that follow do not go on with the same formula or term
abbrev pub Stops : Level → List Token → Type 0
Stops formula us = NotFirst And us × NotFirst Or us
Stops term us = NotFirst And us
Stops factor us = Unit {0}

-- the longest formula, term or factor that the words ts begin with has the tree t, and us are left
pub record Longest (l : Level) (ts : List Token) (t : Tree) (us : List Token) : Type 0 where
  pub reads : Reads l ts t us
  pub stops : Stops l us

-- what was read of the words from i on: a tree, unless memory was wanting, and the words that are left begin at j; or that there is nothing to read
abbrev pub Finds : Level → List ℕ → ℕ → Option (Result Formula AllocError) → ℕ → Type 0
Finds l s i None j = (ts : List Token) → Tokens s i ts → (t : Tree) (us : List Token) → Longest l ts t us → ⊥
Finds l s i (Some r) j = (ts : List Token) → Tokens s i ts → (t : Tree) × (us : List Token) × (Longest l ts t us) × (Tokens s j us) × IfOk r (λ f. shape f ≡ t)
