-- What holds of each place of a test, after a change.
use Rattle.std.proofs.Common.{All, ◌≡◌, ℕ, ◌<◌, cond, List, [], ◌∷◌, ◌++◌, length, take, get_or, set, sym, ◌∙◌, subst, ⊎_elim, arith}
use Rattle.std.proofs.lemmas.List.{length-take, length-take-le, get_or_past, get_or_default, get_or-take}
use Rattle.std.proofs.lemmas.List.Elements.{All-from_get_or, All-get_or, All-push, All-set, All-take}
use Rattle.std.proofs.lemmas.List.Sums.{sum_by_push, sum_by-set, sum_by-take-le}
use Rattle.std.proofs.lemmas.Bool.{cases_lt, cases_Bool, cond-true, cond-false}
use Rattle.semantics.specs.Bounds.{is_write_to, InBounds, FewWrites, PlacesInBounds, RoomFor}
use Rattle.semantics.specs.Contents.{places_of}
use Rattle.semantics.specs.Program.{nothing, place_at}
use Rattle.semantics.specs.declared.placed.Placed.{Placed}
use Rattle.semantics.specs.declared.test.Test.{Test}

-- what stands in a beginning of the places, whatever a look past the end gives
pub at_front : (ps : List Placed) (end n : ℕ) (d e : Placed) → n < length (take end ps) → get_or (take end ps) n d ≡ get_or ps n e
at_front ps end n d e h = get_or-take end ps n d (omega (arith, length-take end ps)) ∙ get_or_default ps n d e (omega (arith, length-take end ps))

-- what holds of each place, past the end too
abbrev Each : (Placed → Type 0) → List Placed → Type 0
Each P ps = (x : ℕ) → P (place_at ps x)

module _ (P : Placed → Type 0) (ps : List Placed) (each : Each P ps) where
  all : All P ps
  all = All-from_get_or P ps nothing (λ x h. each x)

  -- what holds past the end of one list holds past the end of another
  each_of : (qs : List Placed) → All P qs → Each P qs
  each_of qs h x =
      let past = subst P (get_or_past ps (length ps) nothing (omega arith)) (each (length ps)) in
      ⊎_elim (λ less. All-get_or P qs x nothing less h) (λ over. subst P (sym (get_or_past qs x nothing over)) past) (cases_lt x (length qs))

  each_push : (p : Placed) → P p → Each P (ps ++ p ∷ [])
  each_push p h = each_of (ps ++ p ∷ []) (All-push P ps p all h)

  each_set : (k : ℕ) (p : Placed) → P p → Each P (set ps k p)
  each_set k p h = each_of (set ps k p) (All-set P ps k p h all)

  each_take : (k : ℕ) → Each P (take k ps)
  each_take k = each_of (take k ps) (All-take P k ps all)

-- 1 for a write to location l, else 0
abbrev tally : ℕ → Placed → ℕ
tally l p = cond (is_write_to l p.instruction) 1 0

few_push : (ps : List Placed) (p : Placed) → FewWrites ps → RoomFor ps p.instruction → FewWrites (ps ++ p ∷ [])
few_push ps p few room l =
    ⊎_elim
    (λ e. omega (arith, sum_by_push (tally l) ps p, cond-true {A = ℕ} _ 1 0 e, room l e))
    (λ e. omega (arith, sum_by_push (tally l) ps p, cond-false {A = ℕ} _ 1 0 e, few l))
    (cases_Bool (is_write_to l p.instruction))

few_set : (ps : List Placed) (k : ℕ) (p : Placed) → k < length ps → p.instruction ≡ (place_at ps k).instruction → FewWrites ps → FewWrites (set ps k p)
few_set ps k p within same few l =
    let e : tally l p ≡ tally l (place_at ps k) = cc in
    omega (arith, sum_by-set (tally l) ps k p nothing within, few l)

few_take : (ps : List Placed) (k : ℕ) → FewWrites ps → FewWrites (take k ps)
few_take ps k few l = omega (arith, sum_by-take-le (tally l) ps k, few l)

module _ (ps : List Placed) (bounded : PlacesInBounds ps) where
  pub bounded_push : (p : Placed) → p.thread < 4 → InBounds p.instruction → RoomFor ps p.instruction → PlacesInBounds (ps ++ p ∷ [])
  bounded_push p thread bounds room = record {
    threads = each_push (λ q. q.thread < 4) ps bounded.threads p thread;
    instructions = each_push (λ q. InBounds q.instruction) ps bounded.instructions p bounds;
    writes = few_push ps p bounded.writes room;
  }

  -- the place keeps its thread and its instruction
  pub bounded_set : (k : ℕ) (p : Placed) → k < length ps → p.thread ≡ (place_at ps k).thread → p.instruction ≡ (place_at ps k).instruction → PlacesInBounds (set ps k p)
  bounded_set k p within thread same = record {
    threads = each_set (λ q. q.thread < 4) ps bounded.threads k p (subst (λ (t : ℕ). t < 4) (sym thread) (bounded.threads k));
    instructions = each_set (λ q. InBounds q.instruction) ps bounded.instructions k p (subst InBounds (sym same) (bounded.instructions k));
    writes = few_set ps k p within same bounded.writes;
  }

  pub bounded_take : (k : ℕ) → PlacesInBounds (take k ps)
  bounded_take k = record {
    threads = each_take (λ q. q.thread < 4) ps bounded.threads k;
    instructions = each_take (λ q. InBounds q.instruction) ps bounded.instructions k;
    writes = few_take ps k bounded.writes;
  }

pub length_of : (t : Test) → length (places_of t) ≡ t.len
length_of t = length-take-le t.len t.slots (omega (arith, t.bounded.room, t.bounded.short))
