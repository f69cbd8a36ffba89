-- The latest of the visible writes, looked for from the end of the order.
use Rattle.std.proofs.Common.{◌≡◌, ℕ, ◌-◌, ◌<◌, Bor, Iter, List, [], ◌∷◌, length, get_or, reverse, Some, None, Option, MatchOption, option_map, sym, ap, ◌∙◌, subst, inl, inr, ⊎_elim, arith}
use Rattle.std.proofs.lemmas.Bool.{cases_order}
use Rattle.std.proofs.lemmas.Iterator.{YieldsList}
use Rattle.std.proofs.lemmas.Iterator.Consumers.{YieldsList-from_shown}
use Rattle.std.proofs.lemmas.List.{get_or-reverse, length-reverse, reverse-append}
use Rattle.std.specs.Slice.Iter.{iter_rest, iter_steps_back}
use Rattle.std.specs.List.{AllWithin, HoldsAt}
use Rattle.semantics.specs.Events.{Events}
use Rattle.semantics.specs.Lists.{Listed}
use Rattle.semantics.specs.Orders.{Visible, Latest}

-- what a slice yields from its end
pub from_back : {s : Iter ℕ} (xs : List ℕ) → iter_rest s ≡ xs → YieldsList iter_steps_back (λ y. y.now) s (reverse xs)
from_back {s} xs is = subst (λ (k : List ℕ). YieldsList iter_steps_back (λ (y : Bor ℕ). y.now) s (reverse k)) is
    (YieldsList-from_shown iter_steps_back (λ (y : Bor ℕ). y.now) (λ u. reverse (iter_rest u)) (λ u t p. length-reverse _ ∙ p.0)
    (λ u x t p. ap reverse p ∙ reverse-append (iter_rest t) (x.now ∷ [])) s)

module _ (e : Events) (o : List ℕ) (r l : ℕ) (listed : (w : ℕ) → Visible e o r l w → Listed o w) where
  abbrev Unseen : ℕ → Type 0
  Unseen w = Visible e o r l w → ⊥

  -- what stands at j in the order, from its end
  from_end : (j : ℕ) → j < length o → get_or (reverse o) (length o - 1 - j) 0 ≡ get_or o j 0
  from_end j under =
      let back : length o - 1 - (length o - 1 - j) ≡ j = omega arith in
      get_or-reverse o (length o - 1 - j) 0 (omega arith) ∙ ap (λ k. get_or o k 0) back

  -- the first that is visible from the end
  pub latest_found : {A : Type 0} (v : A → ℕ) (found : Option A) → MatchOption found (AllWithin Unseen (reverse o) 0 (length (reverse o))) (λ x. Visible e o r l (v x) × (i : ℕ) × (i < length (reverse o)) × HoldsAt (λ y. y ≡ v x) (reverse o) i × AllWithin Unseen (reverse o) 0 i) → MatchOption (option_map v found) ((w : ℕ) → Unseen w) (Latest e o r l)
  latest_found v None none = λ w seen.
      let (j, under, is) = listed w seen in
      subst Unseen (from_end j under ∙ is) (none (length o - 1 - j) 0 (omega arith) (omega (arith, length-reverse o))) seen
  latest_found v (Some x) (seen, i, under, at, none) =
      let within : i < length o = omega (arith, length-reverse o) in
      let last : get_or o (length o - 1 - i) 0 ≡ v x = sym (get_or-reverse o i 0 within) ∙ at 0 in
      record {
        visible = seen;
        latest = λ u shown.
            let (j, here, is) = listed u shown in
            ⊎_elim
            (λ same. inl (sym is ∙ ap (λ k. get_or o k 0) same ∙ last))
            (⊎_elim
            (λ less. inr (j, length o - 1 - i, less, omega arith, is, last))
            (λ more. absurd (subst Unseen (from_end j here ∙ is) (none (length o - 1 - j) 0 (omega arith) (omega arith)) shown)))
            (cases_order j (length o - 1 - i));
      }
