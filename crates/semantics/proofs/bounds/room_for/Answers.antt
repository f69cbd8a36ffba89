use Rattle.std.proofs.Common.{◌≡◌, ℕ, ◌<◌, Bool, true, false, eqb, ltb, List, sym, refl, ap, ◌∙◌, subst, arith}
use Rattle.std.proofs.lemmas.Bool.{ltb-true, ltb-false, eqb-true, eq-eqb}
use Rattle.models.specs.Tells.{Tells}
use Rattle.semantics.specs.Bounds.{is_write_to, write_count, RoomFor}
use Rattle.semantics.specs.declared.instruction.Instruction.{Instruction}
use Rattle.semantics.specs.declared.placed.Placed.{Placed}
use Rattle.semantics.proofs.bounds.room_for.Goals as goal

-- a write is compared at its own location alone
compared : (ps : List Placed) (i : Instruction) (l n : ℕ) → ((k : ℕ) → is_write_to k i ≡ eqb l k) → n ≡ write_count l ps → (b : Bool) → ltb n 4 ≡ b → Tells b (RoomFor ps i)
compared ps i l n at_own e true t = λ k own. let same : l ≡ k = eqb-true l k (sym (at_own k) ∙ own) in subst (λ (j : ℕ). write_count j ps < 4) same (omega (arith, ltb-true n 4 t))
compared ps i l n at_own e false t = λ room. omega (arith, room l (at_own l ∙ eq-eqb l l refl), ltb-false n 4 t)

pub returns-in-Write : goal.returns-in-Write
returns-in-Write c =
    compared c.args.places.now c.args.instruction c.in-Write.location c.write_count.result (λ k. ap (is_write_to k) c.in-Write.is) c.write_count.ensures _ refl
