-- A register holds what the last instruction to set it put there.
use Rattle.std.proofs.Common.{◌≡◌, ℕ, zero, suc, ◌<◌, true, false, List, Some, None, Option, sym, refl, ap, ◌∙◌, subst, ⊎_elim, arith}
use Rattle.std.proofs.lemmas.Bool.{and_parts, and_from, cases_Bool, cases_eq, cond-true, cond-false, eqb-true, eq-eqb}
use Rattle.semantics.specs.PairFacts.{Sets}
use Rattle.semantics.specs.Program.{place_at, instruction_at, thread_at}
use Rattle.semantics.specs.Values.{held, result_of, sets_register, is_target}
use Rattle.semantics.specs.declared.Placed.{Placed}
use Rattle.theorems.specs.Statements.{Registers}

is_target_lem : (r : ℕ) (o : Option ℕ) → is_target r o ≡ true → o ≡ Some r
is_target_lem r None e = let z : ◌≡◌ {A = ℕ} 0 1 = cc in absurd (omega arith)
is_target_lem r (Some t) e = ap Some (eqb-true t r e)

module _ (ps : List Placed) (t r : ℕ) where
  -- the instruction at n is of the thread and sets the register
  SetsAt : ℕ → Type 0
  SetsAt n = (thread_at ps n ≡ t) × Sets r (instruction_at ps n)

  set_at : (n : ℕ) → sets_register (place_at ps n) t r ≡ true → SetsAt n
  unfolding SetsAt
  set_at n e = let parts = and_parts _ _ e in (eqb-true _ _ parts.0, is_target_lem r _ parts.1)

  at_set : (n : ℕ) → SetsAt n → sets_register (place_at ps n) t r ≡ true
  unfolding SetsAt
  at_set n h = and_from _ _ (eq-eqb _ _ h.0) (ap (is_target r) h.1 ∙ eq-eqb r r refl)

  not_set : (n : ℕ) → (SetsAt n → ⊥) → sets_register (place_at ps n) t r ≡ false
  not_set n f = ⊎_elim (λ e. absurd (f (set_at n e))) (λ e. e) (cases_Bool (sets_register (place_at ps n) t r))

  held_none : (n : ℕ) → ((z : ℕ) → z < n → SetsAt z → ⊥) → held ps t n r ≡ 0
  held_none zero none = refl
  held_none (suc n) none = cond-false _ _ _ (not_set n (none n (omega arith))) ∙ held_none n (λ z h. none z (omega arith))

  held_last : (n z : ℕ) → z < n → SetsAt z → ((k : ℕ) → z < k → k < n → SetsAt k → ⊥) → held ps t n r ≡ result_of (instruction_at ps z) (place_at ps z).expected (held ps t z)
  held_last zero z h here none = absurd (omega arith)
  held_last (suc n) z h here none =
      ⊎_elim
      (λ e. subst (λ (k : ℕ). held ps t (suc n) r ≡ result_of (instruction_at ps k) (place_at ps k).expected (held ps t k)) (sym e) (cond-true _ _ _ (at_set n (subst SetsAt e here))))
      (λ ne. cond-false _ _ _ (not_set n (none n (omega arith) (omega arith))) ∙ held_last n z (omega arith) here (λ k over under. none k over (omega arith)))
      (cases_eq z n)

pub registers : Registers
unfolding SetsAt
registers ps x r within = (
  λ z before sets none.
      held_last ps (thread_at ps x) r x z before.earlier (before.same, sets)
      (λ k over under h. none k (record { earlier = over; within = omega arith; same = before.same ∙ sym h.0 }) (record { earlier = under; within = within; same = h.0 }) h.1)
      ∙ ap (λ t. result_of (instruction_at ps z) (place_at ps z).expected (held ps t z)) (sym before.same),
  λ none. held_none ps (thread_at ps x) r x (λ z h s. none z (record { earlier = h; within = within; same = s.0 }) s.1),
)
