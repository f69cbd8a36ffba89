use Rattle.std.proofs.Common.{◌≡◌, ℕ, ◌<◌, ◌↔◌, Bool, true, false, MatchBool, List, length, Some, None, Option, refl, subst, rules, tests}
use Rattle.std.specs.List.{AllWithin, HoldsAt, Contains}
use Rattle.std.proofs.lemmas.Iterator.{cases_from_all, YieldsList-from_slice}
use Rattle.std.proofs.lemmas.List.Elements.{All-from_all_within, All-contains, Contains-get_or}
use Rattle.models.specs.Tells.{Tells}
use Rattle.semantics.specs.Bounds.{NamedInBounds}
use Rattle.semantics.specs.Program.{Names}
use Rattle.semantics.specs.declared.instruction.Instruction.{Instruction}
use Rattle.semantics.proofs.bounds.named_in_bounds.Goals as goal

abbrev Below : Option ℕ → Type 0
Below o = (n : ℕ) → o ≡ Some n → n < 8

-- the registers that are named are in bounds if each of the list is
told_named : (i : Instruction) (named : List (Option ℕ)) (r : Bool) → ((n : ℕ) → Contains named (Some n) ↔ Names i n) → MatchBool r (AllWithin Below named 0 (length named)) ((k : ℕ) × (k < length named) × HoldsAt (λ o. Below o → ⊥) named k) → Tells r (NamedInBounds i)
told_named i named true iff h = λ n names. All-contains Below named (Some n) (All-from_all_within Below named h) ((iff n).1 names) n refl
told_named i named false iff h = λ all. h.2 None (λ n e. all n ((iff n).0 (subst (Contains named) e (Contains-get_or named h.0 None h.1))))

pub returns : goal.returns
returns c =
    told_named c.args.instruction c.named.result _ c.named.ensures
    (cases_from_all _ _ _ Below (λ o. Below o → ⊥) c.all.ensures.ran (YieldsList-from_slice c.named.result cc) (λ o q k. search (rules, tests)) (λ o q k. search (rules, tests)))
