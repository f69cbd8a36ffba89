-- The facts of a pair of instructions, and the law that every model obeys.
use Rattle.std.specs.Prelude.{◌≡◌, ℕ, Bool, true, List, [], ◌∷◌, ◌==◌}
use Rattle.models.specs.declared.facts.Facts.{Facts}
use Rattle.models.specs.declared.facts.Kind.{Kind}
use Rattle.models.specs.declared.facts.Kind.TheVariants.{Read, Write, Fence, Arithmetic, Branch}

-- the place of a kind among the rows, and among the columns, of a table
abbrev pub index : Kind → ℕ
index Read = 0
index Write = 1
index Fence = 2
index Arithmetic = 3
index Branch = 4

-- whether two kinds are the same one
abbrev pub same : Kind → Kind → Bool
same k l = index k == index l

-- all kinds, in the order of a table's rows and columns
abbrev pub all_kinds : List Kind
all_kinds = Read ∷ Write ∷ Fence ∷ Arithmetic ∷ Branch ∷ []

-- P holds of each kind
abbrev pub EachKind : (Kind → Type 0) → Type 0
EachKind P = P Read × (P Write × (P Fence × (P Arithmetic × P Branch)))

-- how many kinds there are
abbrev pub kinds : ℕ
kinds = 5

-- g is f, but that some of the three facts may have turned from no to yes
pub record Grows (f g : Facts) : Type 0 where
  pub earlier : f.earlier ≡ g.earlier
  pub later : f.later ≡ g.later
  pub address : f.same_addr ≡ true → g.same_addr ≡ true
  pub dependency : f.data_dep ≡ true → g.data_dep ≡ true
  pub control : f.control_dep ≡ true → g.control_dep ≡ true

-- what is kept stays kept when a fact turns from no to yes
abbrev pub Positive : (Facts → Bool) → Type 0
Positive keeps = (f g : Facts) → Grows f g → keeps f ≡ true → keeps g ≡ true
