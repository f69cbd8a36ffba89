use Rattle.std.proofs.Common.{◌≡◌, ℕ, ◌-◌, ◌<◌, Bool, true, false, not, MatchBool, List, length, get_or, refl, subst, ◌∙◌, arith, rules, tests}
use Rattle.std.specs.List.{AllWithin, HoldsAt, range_with_len}
use Rattle.std.proofs.lemmas.Iterator.{cases_from_any, YieldsList-from_range}
use Rattle.std.proofs.lemmas.List.FromFn.{length-range_with_len, get_or-range_with_len}
use Rattle.semantics.specs.PairFacts.{EachBetween, SomeBetween}
use Rattle.semantics.specs.Program.{Precedes, instruction_at}
use Rattle.semantics.specs.declared.instruction.Instruction.{Instruction}
use Rattle.semantics.specs.declared.placed.Placed.{Placed}
use Rattle.semantics.proofs.pair_facts.Pair.none_between.Goals as goal

module _ (ps : List Placed) (x y : ℕ) where
  -- z stands between them, and is such an instruction
  abbrev Between : (Instruction → Type 0) → ℕ → Type 0
  Between Such z = Precedes ps x z × Precedes ps z y × Such (instruction_at ps z)

  -- if z stands between them, it is such an instruction
  abbrev IfBetween : (Instruction → Type 0) → ℕ → Type 0
  IfBetween Such z = Precedes ps x z → Precedes ps z y → Such (instruction_at ps z)

  -- what a search through the places from x on tells of those between
  searched : (No Yes : Instruction → Type 0) (found : Bool) →
      MatchBool found ((k : ℕ) × (k < length (range_with_len x (y - x))) × HoldsAt (Between Yes) (range_with_len x (y - x)) k) (AllWithin (IfBetween No) (range_with_len x (y - x)) 0 (length (range_with_len x (y - x)))) →
      MatchBool (not found) (EachBetween ps x y No) (SomeBetween ps x y Yes)
  searched No Yes true h = let (p, q, given) = h.2 0 in (get_or (range_with_len x (y - x)) h.0 0, p, q, given)
  searched No Yes false h = λ z p q.
      let at : get_or (range_with_len x (y - x)) (z - x) 0 ≡ z = get_or-range_with_len x (y - x) (z - x) 0 (omega (arith, p.earlier, q.earlier)) ∙ omega (arith, p.earlier) in
      subst (IfBetween No) at (h (z - x) 0 (omega arith) (omega (arith, p.earlier, q.earlier, length-range_with_len x (y - x)))) p q

pub returns : goal.returns
returns g c =
    let ps = c.args.self.now.places.now in
    let x = c.args.self.now.x in
    let y = c.args.self.now.y in
    searched ps x y (λ i. goal.F-post g c.args.such i false) (λ i. goal.F-post g c.args.such i true) _
    (cases_from_any _ _ _ (Between ps x y (λ i. goal.F-post g c.args.such i true)) (IfBetween ps x y (λ i. goal.F-post g c.args.such i false)) c.any.ensures.ran (YieldsList-from_range x y _ refl refl) (λ z q k. search (rules, tests)) (λ z q k. search (rules, tests)))
