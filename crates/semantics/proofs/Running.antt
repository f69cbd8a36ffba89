-- What registers hold after one more place.
use Rattle.std.proofs.Common.{◌≡◌, ℕ, ◌+◌, ◌<◌, false, cond, List, length, get_or, set, Some, None, sym, refl, ap, ◌∙◌, ⊎_elim, add-one, get_or-set_other, get_or-set_same}
use Rattle.std.proofs.lemmas.Bool.{cond-true, cond-false, and_from, and_left, and_right, eq-eqb, ne_eqb, cases_eq}
use Rattle.semantics.specs.Program.{target_of, place_at}
use Rattle.semantics.specs.Values.{held, sets_register, is_target, result_of}
use Rattle.semantics.specs.declared.placed.Placed.{Placed}

-- p stands at n, and the list holds what the registers of thread t hold before it
module _ (ps : List Placed) (t n : ℕ) (p : Placed) (is : p ≡ place_at ps n) (rs : List ℕ) (known : (k : ℕ) → k < 256 → get_or rs k 0 ≡ held ps t n k) where
  step : (k : ℕ) → held ps t (n + 1) k ≡ cond (sets_register p t k) (result_of p.instruction p.expected (held ps t n)) (held ps t n k)
  step k = rw (add-one, is) refl

  kept : (k : ℕ) → k < 256 → sets_register p t k ≡ false → get_or rs k 0 ≡ held ps t (n + 1) k
  kept k h no_set = known k h ∙ sym (step k ∙ cond-false _ _ _ no_set)

  pub other_thread : (p.thread ≡ t → ⊥) → (k : ℕ) → k < 256 → get_or rs k 0 ≡ held ps t (n + 1) k
  other_thread ne k h = kept k h (and_left _ _ (ne_eqb p.thread t ne))

  pub no_target : target_of p.instruction ≡ None → (k : ℕ) → k < 256 → get_or rs k 0 ≡ held ps t (n + 1) k
  no_target e k h = kept k h (and_right _ _ (ap (is_target k) e))

  module _ (target v : ℕ) (same : p.thread ≡ t) (e : target_of p.instruction ≡ Some target) (value : v ≡ result_of p.instruction p.expected (held ps t n)) (room : target < length rs) where
    pub at_target : (k : ℕ) → k < 256 → get_or (set rs target v) k 0 ≡ held ps t (n + 1) k
    at_target k h =
        ⊎_elim
        (λ here. ap (λ j. get_or (set rs target v) j 0) (sym here) ∙ get_or-set_same rs target v 0 room ∙ value ∙ sym (step k ∙ cond-true _ _ _ (and_from _ _ (eq-eqb p.thread t same) (ap (is_target k) e ∙ eq-eqb target k here))))
        (λ other. get_or-set_other rs target k v 0 (λ s. other (sym s)) ∙ kept k h (and_right _ _ (ap (is_target k) e ∙ ne_eqb target k other)))
        (cases_eq target k)
