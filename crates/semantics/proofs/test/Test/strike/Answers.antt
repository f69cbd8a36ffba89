use Rattle.std.proofs.Common.{ℕ, ◌≤◌, subst, arith}
use Rattle.std.proofs.lemmas.List.{take-take}
use Rattle.std.proofs.lemmas.Grind.{common_steps}
use Rattle.semantics.specs.Bounds.{PlacesInBounds}
use Rattle.semantics.specs.Contents.{places_of}
use Rattle.semantics.specs.declared.test.Test.{Test}
use Rattle.semantics.proofs.Growing.{bounded_take}
use Rattle.semantics.proofs.test.Test.strike.Goals as goal

pub invariant_of-self : goal.invariant_of-self
invariant_of-self c =
    let t : Test = c.args.self.now in
    let n : ℕ = c.in_ok-self.field-0 in
    let less : n ≤ t.len = grind (arith, common_steps) in
    record {
      bounded = record {
        room = t.bounded.room;
        short = omega (arith, t.bounded.short);
        locations = t.bounded.locations;
        places = subst PlacesInBounds (take-take n t.len t.slots less) (bounded_take (places_of t) t.bounded.places n);
      };
    }
