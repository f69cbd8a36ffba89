-- What is computed at each combination of facts holds of all of them.
use Rattle.std.proofs.Common.{◌≡◌, Bool, true, false, not, ◌&&◌, sym, refl}
use Rattle.std.proofs.lemmas.Bool.{and_parts, not-true}
use Rattle.models.specs.Named.{Is, numbers_of, cells_of, formula_of, table_of}
use Rattle.models.specs.declared.by_name.Named.{Named}
use Rattle.models.specs.declared.by_name.Named.TheVariants.{Sc, Ibm370, Tso, Rmo}
use Rattle.models.specs.Summaries.{facts}
use Rattle.models.specs.Tables.{table_keeps}
use Rattle.models.specs.Trees.{Tree, holds}
use Rattle.models.specs.declared.facts.Facts.{Facts}
use Rattle.models.specs.declared.facts.Kind.{Kind}
use Rattle.models.specs.declared.facts.Kind.TheVariants.{Read, Write, Fence, Arithmetic, Branch}
use Rattle.models.specs.declared.table.Table.{Table}
use Rattle.models.proofs.ByKind.{by_kind}

abbrev pub every_bool : (Bool → Bool) → Bool
every_bool p = p false && p true

at_bool : (p : Bool → Bool) → every_bool p ≡ true → (b : Bool) → p b ≡ true
at_bool p e false = (and_parts (p false) (p true) e).0
at_bool p e true = (and_parts (p false) (p true) e).1

abbrev pub every_kind : (Kind → Bool) → Bool
every_kind p = p Read && (p Write && (p Fence && (p Arithmetic && p Branch)))

at_kind : (p : Kind → Bool) → every_kind p ≡ true → (k : Kind) → p k ≡ true
at_kind p e k =
    let r = and_parts (p Read) (p Write && (p Fence && (p Arithmetic && p Branch))) e in
    let w = and_parts (p Write) (p Fence && (p Arithmetic && p Branch)) r.1 in
    let f = and_parts (p Fence) (p Arithmetic && p Branch) w.1 in
    let a = and_parts (p Arithmetic) (p Branch) f.1 in
    by_kind (λ j. p j ≡ true) r.0 w.0 f.0 a.0 a.1 k

-- the test p at all combinations
abbrev pub everywhere : (Facts → Bool) → Bool
everywhere p = every_kind (λ x. every_kind (λ y. every_bool (λ s. every_bool (λ d. every_bool (λ c. p (facts x y s d c))))))

pub at : (p : Facts → Bool) → everywhere p ≡ true → (f : Facts) → p f ≡ true
at p e f =
    let x = f.earlier in
    let y = f.later in
    let s = f.same_addr in
    let d = f.data_dep in
    let ex = at_kind (λ k. every_kind (λ y. every_bool (λ s. every_bool (λ d. every_bool (λ c. p (facts k y s d c)))))) e x in
    let ey = at_kind (λ k. every_bool (λ s. every_bool (λ d. every_bool (λ c. p (facts x k s d c))))) ex y in
    let es = at_bool (λ b. every_bool (λ d. every_bool (λ c. p (facts x y b d c)))) ey s in
    let ed = at_bool (λ b. every_bool (λ c. p (facts x y s b c))) es d in
    at_bool (λ b. p (facts x y s d b)) ed f.control_dep

abbrev iff : Bool → Bool → Bool
iff true b = b
iff false b = not b

from_iff : (a b : Bool) → iff a b ≡ true → a ≡ b
from_iff true b e = sym e
from_iff false b e = sym (not-true b e)

-- whether a table and a formula say the same, computed at all combinations
abbrev pub agrees : Table → Tree → Bool
agrees t p = everywhere (λ f. iff (table_keeps t f) (holds p f))

tested : (n : Named) → agrees (table_of n) (formula_of n) ≡ true
tested Sc = refl
tested Ibm370 = refl
tested Tso = refl
tested Rmo = refl

numbered : (n : Named) → numbers_of (table_of n) ≡ cells_of n
numbered Sc = refl
numbered Ibm370 = refl
numbered Tso = refl
numbered Rmo = refl

pub is_named : (n : Named) → Is n (table_of n)
is_named n = record {
  cells = numbered n;
  meaning = λ f. from_iff (table_keeps (table_of n) f) (holds (formula_of n) f) (at (λ f. iff (table_keeps (table_of n) f) (holds (formula_of n) f)) (tested n) f);
}
