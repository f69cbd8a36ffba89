use Rattle.std.proofs.Common.{◌≡◌, ℕ, ◌<◌, List, length, take, get_or, set, sym, refl, ap, ◌∙◌, subst, ⊎_elim, arith, length-set}
use lib.Seq.{take-set-lt}
use Rattle.std.proofs.lemmas.Grind.{common_steps}
use Rattle.std.proofs.lemmas.List.{get_or_past}
use Rattle.std.proofs.lemmas.Bool.{cases_lt}
use Rattle.models.specs.declared.Kind.TheVariants.{Read}
use Rattle.semantics.specs.Building.{expecting}
use Rattle.semantics.specs.Bounds.{PlacesInBounds}
use Rattle.semantics.specs.Contents.{places_of}
use Rattle.semantics.specs.Program.{kind_of, place_at, nothing}
use Rattle.semantics.specs.declared.placed.Placed.{Placed}
use Rattle.semantics.specs.declared.test.Test.{Test}
use Rattle.semantics.proofs.Growing.{at_front, bounded_set, length_of}
use Rattle.semantics.proofs.test.Test.expect.Goals as goal

-- a read stands among the places
within : (ps : List Placed) (x : ℕ) → kind_of (place_at ps x).instruction ≡ Read → x < length ps
within ps x e = ⊎_elim (λ h. h) (λ h. let past = ap (λ p. kind_of p.instruction) (get_or_past ps x nothing h) in cc) (cases_lt x (length ps))

-- where a read stands at x; d is what a look past the slots would give
module _ (t : Test) (x v : ℕ) (d : Placed) (a_read : kind_of (place_at (places_of t) x).instruction ≡ Read) where
  held : x < t.len
  held = omega (arith, within (places_of t) x a_read, length_of t)

  places : take t.len (set t.slots x (expecting (get_or t.slots x d) v)) ≡ set (places_of t) x (expecting (place_at (places_of t) x) v)
  places =
      take-set-lt t.len t.slots x (expecting (get_or t.slots x d) v) held
      ∙ ap (λ q. set (places_of t) x (expecting q v)) (sym (at_front t.slots t.len x nothing d (within (places_of t) x a_read)))

  bounded : PlacesInBounds (take t.len (set t.slots x (expecting (get_or t.slots x d) v)))
  bounded = subst PlacesInBounds (sym places) (bounded_set (places_of t) t.bounded.places x (expecting (place_at (places_of t) x) v) (within (places_of t) x a_read) refl refl)

pub invariant_of-self : goal.invariant_of-self
invariant_of-self c =
    let t : Test = c.args.self.now in
    let a_read : kind_of (place_at (places_of t) c.args.place).instruction ≡ Read = grind (arith, common_steps) in
    record {
      bounded = record {
        room = length-set _ _ _ ∙ t.bounded.room;
        short = t.bounded.short;
        locations = t.bounded.locations;
        places = bounded t c.args.place c.args.value _ a_read;
      };
    }

pub returns : goal.returns
returns c =
    let t : Test = c.args.self.now in
    let x : ℕ = c.args.place in
    let a_read : kind_of (place_at (places_of t) x).instruction ≡ Read = grind (arith, common_steps) in
    record {
      within = within (places_of t) x a_read;
      read = a_read;
      places = places t x c.args.value _ a_read;
      initial = refl;
    }
