-- The grammar of formulas: which words and signs form one, and its tree.
use Rattle.std.specs.Prelude.{◌≡◌, ℕ, ◌<◌, ◌≤◌, List, [], ◌∷◌, length, MatchBool, ◌==◌}
use Rattle.models.specs.Refusals.{Told, numbered, placed, unnumbered}
use Rattle.models.specs.Trees.{Tree, word, both, either}
use Rattle.formulas.specs.Words.{Tokens, Unknown, FirstUnknown, TooDeep}
use Rattle.formulas.specs.declared.token.Token.{Token}
use Rattle.formulas.specs.declared.token.Token.TheVariants.{Name, And, Or, Open, Close}
use Rattle.models.specs.declared.Word.{Word}

pub data Level : Type 0 where
  formula term factor : Level

-- Reads l ts t us: the words ts begin with a formula, term or factor whose tree is t, and us are left.
-- A formula is terms joined by `|`, a term is factors joined by `&`, and a factor is a word or a formula in brackets.
pub data Reads : Level → List Token → Tree → List Token → Type 0 where
  one_term : {ts us : List Token} {t : Tree} → Reads term ts t us → Reads formula ts t us
  more_terms : {ts us vs : List Token} {t u : Tree} → Reads term ts t (Or ∷ us) → Reads formula us u vs → Reads formula ts (either t u) vs
  one_factor : {ts us : List Token} {t : Tree} → Reads factor ts t us → Reads term ts t us
  more_factors : {ts us vs : List Token} {t u : Tree} → Reads factor ts t (And ∷ us) → Reads term us u vs → Reads term ts (both t u) vs
  name : {w : Word} {ts : List Token} → Reads factor (Name w ∷ ts) (word w) ts
  bracketed : {ts us : List Token} {t : Tree} → Reads formula ts t (Close ∷ us) → Reads factor (Open ∷ ts) t us

-- the words of the text s form a formula with the tree t
abbrev pub Forms : List ℕ → Tree → Type 0
Forms s t = (ts : List Token) × (Tokens s 0 ts) × Reads formula ts t []

-- what must hold of a text before its grammar counts
pub record Admitted (s : List ℕ) : Type 0 where
  pub short : length s ≤ 256
  pub known : (p : ℕ) → Unknown s p → ⊥
  pub shallow : TooDeep s → ⊥

-- a text that is taken, and its tree
pub record Taken (s : List ℕ) (t : Tree) : Type 0 where
  pub admitted : Admitted s
  pub forms : Forms s t

-- a text has at most one tree
abbrev pub Unambiguous : List ℕ → Type 0
Unambiguous s = (t u : Tree) → Forms s t → Forms s u → t ≡ u

-- the refusal that is the first to apply to a text, of 10, 11, 13 and 12 in this order;
-- want of memory is told only of a text that none of them applies to
abbrev pub Refused : List ℕ → Told → Type 0
Refused s (numbered n) =
    MatchBool (n == 10) (256 < length s)
    (MatchBool (n == 13) ((length s ≤ 256) × ((p : ℕ) → Unknown s p → ⊥) × TooDeep s)
    (MatchBool (n == 12) (Admitted s × ((t : Tree) → Forms s t → ⊥)) ⊥))
Refused s (placed n p) = (n ≡ 11) × (length s ≤ 256) × FirstUnknown s p
Refused s unnumbered = (t : Tree) × Taken s t
