use Rattle.std.proofs.Common.{◌≡◌, ◌+◌, ◌<◌, List, [], ◌∷◌, ◌++◌, take, set, sym, refl, ◌∙◌, subst, arith, length-set}
use Rattle.std.proofs.lemmas.List.{take_more_set}
use Rattle.semantics.specs.Bounds.{PlacesInBounds, RoomFor}
use Rattle.semantics.specs.Building.{entered}
use Rattle.semantics.specs.Contents.{places_of}
use Rattle.semantics.specs.declared.instruction.Instruction.{Instruction}
use Rattle.semantics.specs.declared.placed.Placed.{Placed}
use Rattle.semantics.specs.declared.test.Test.{Test}
use Rattle.semantics.proofs.Growing.{bounded_push, length_of}
use Rattle.semantics.proofs.test.Test.enter.Goals as goal

-- the places with one more
grown : (t : Test) (p : Placed) → t.len < 32 → take (t.len + 1) (set t.slots t.len p) ≡ places_of t ++ p ∷ []
grown t p h = take_more_set t.slots t.len p (omega (arith, t.bounded.room))

pub invariant_of-self : goal.invariant_of-self
invariant_of-self c =
    let t : Test = c.args.self.now in
    let i : Instruction = c.args.instruction in
    let p : Placed = entered c.args.thread i in
    let room : RoomFor (places_of t) i = subst (λ (ps : List Placed). RoomFor ps i) c.places.ensures c.if-not-room_for.ensures in
    record {
      bounded = record {
        room = length-set _ _ _ ∙ t.bounded.room;
        short = omega arith;
        locations = t.bounded.locations;
        places = subst PlacesInBounds (sym (grown t p c.if-place-ge-PLACES.false)) (bounded_push (places_of t) t.bounded.places p (omega arith) c.if-not-in_bounds.ensures room);
      };
    }

pub returns : goal.returns
returns c =
    let t : Test = c.args.self.now in
    let i : Instruction = c.args.instruction in
    let p : Placed = entered c.args.thread i in
    record {
      could = record {
        thread = omega arith;
        bounds = c.if-not-in_bounds.ensures;
        place = omega (arith, length_of t);
        writes = subst (λ (ps : List Placed). RoomFor ps i) c.places.ensures c.if-not-room_for.ensures;
      };
      place = sym (length_of t);
      places = grown t p c.if-place-ge-PLACES.false;
      initial = refl;
    }
