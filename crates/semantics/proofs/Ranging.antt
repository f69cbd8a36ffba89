-- What `all` tells, over a list and over the numbers below an end.
use Rattle.std.proofs.Common.{◌≡◌, ℕ, ◌<◌, ◌≤◌, Bool, true, false, List, length, get_or, Option, MatchBool, sym, ◌∙◌, subst, zero-add, ⊎_elim, arith}
use Rattle.std.proofs.lemmas.Bool.{cases_lt}
use Rattle.std.proofs.lemmas.Iterator.{YieldsList, YieldsList-from_range, YieldsList-from_slice, cases_from_all}
use Rattle.std.proofs.lemmas.List.FromFn.{get_or-range_with_len, length-range_with_len}
use Rattle.std.proofs.iter.Yields.{fronts, nat_range_steps}
use Rattle.std.specs.Fn.{Called}
use Rattle.std.specs.Iterator.{ChecksAll}
use Rattle.std.specs.List.{range_with_len, AllWithin, HoldsAt}
use Rattle.std.specs.Slice.Iter.{iter_rest}
use Rattle.std.specs.declared.ops.Range.{Range}
use Rattle.std.specs.declared.slice.Iter.{Iter}
use denote.Param.Members.{Mut}
use denote.Ref.{Bor}
use Rattle.models.specs.Tells.{Tells}
use Rattle.models.proofs.Telling.{told_again}

-- of the elements that an iterator gives
told_all : {S A B F : Type 0} {steps : S → Option A → S → Type 0} {v : A → B} {g : Mut F (A × Unit {0}) Bool} {s : S} (u : S) (f : F) (r : Bool) (P : B → Type 0) (d : B) (xs : List B) → ChecksAll steps g s f r u → YieldsList steps v s xs → ((x : A) (q : F) → Called g f (x, tt) true q → (q ≡ f) × P (v x)) → ((x : A) (q : F) → Called g f (x, tt) false q → P (v x) → ⊥) → Tells r ((k : ℕ) → k < length xs → P (get_or xs k d))
told_all u f r P d xs ran yields passes fails = from r (cases_from_all u f r P (λ y. P y → ⊥) ran yields passes fails)
  where
    from : (b : Bool) → MatchBool b (AllWithin P xs 0 (length xs)) ((k : ℕ) × (k < length xs) × HoldsAt (λ y. P y → ⊥) xs k) → Tells b ((k : ℕ) → k < length xs → P (get_or xs k d))
    from true h = λ k under. h k d (omega arith) under
    from false h = λ all. h.2 d (all h.0 h.1)

pub told_each : {A F : Type 0} {g : Mut F (Bor A × Unit {0}) Bool} {s : Iter A} (u : Iter A) (f : F) (r : Bool) (P : A → Type 0) (d : A) (xs : List A) → ChecksAll fronts g s f r u → iter_rest s ≡ xs → ((x : Bor A) (q : F) → Called g f (x, tt) true q → (q ≡ f) × P x.now) → ((x : Bor A) (q : F) → Called g f (x, tt) false q → P x.now → ⊥) → Tells r ((k : ℕ) → k < length xs → P (get_or xs k d))
told_each u f r P d xs ran is passes fails = told_all u f r P d xs ran (YieldsList-from_slice xs is) passes fails

pub told_below : {F : Type 0} {g : Mut F (ℕ × Unit {0}) Bool} {s : Range ℕ} (u : Range ℕ) (f : F) (r : Bool) (P : ℕ → Type 0) (n : ℕ) → ChecksAll nat_range_steps g s f r u → s ≡ record { start = 0; end = n } → ((x : ℕ) (q : F) → Called g f (x, tt) true q → (q ≡ f) × P x) → ((x : ℕ) (q : F) → Called g f (x, tt) false q → P x → ⊥) → Tells r ((k : ℕ) → k < n → P k)
told_below u f r P n ran is passes fails =
    told_again r ((k : ℕ) → k < length (range_with_len 0 n) → P (get_or (range_with_len 0 n) k 0)) ((k : ℕ) → k < n → P k)
    (λ all k under. subst P (reads k under) (all k (omega (arith, length-range_with_len 0 n))))
    (λ all k under. let below : k < n = omega (arith, length-range_with_len 0 n) in subst P (sym (reads k below)) (all k below))
    (told_all u f r P 0 (range_with_len 0 n) ran (YieldsList-from_range 0 n n is (omega arith)) passes fails)
  where
    reads : (k : ℕ) → k < n → get_or (range_with_len 0 n) k 0 ≡ k
    reads k under = get_or-range_with_len 0 n k 0 under ∙ zero-add k

-- where it holds past the end anyway
pub told_every : {F : Type 0} {g : Mut F (ℕ × Unit {0}) Bool} {s : Range ℕ} (u : Range ℕ) (f : F) (r : Bool) (P : ℕ → Type 0) (n : ℕ) → ChecksAll nat_range_steps g s f r u → s ≡ record { start = 0; end = n } → ((x : ℕ) → n ≤ x → P x) → ((x : ℕ) (q : F) → Called g f (x, tt) true q → (q ≡ f) × P x) → ((x : ℕ) (q : F) → Called g f (x, tt) false q → P x → ⊥) → Tells r ((k : ℕ) → P k)
told_every u f r P n ran is past passes fails =
    told_again r ((k : ℕ) → k < n → P k) ((k : ℕ) → P k)
    (λ below k. ⊎_elim (below k) (past k) (cases_lt k n))
    (λ all k under. all k)
    (told_below u f r P n ran is passes fails)

pub told_of_none : (r : Bool) (P Q : Type 0) → r ≡ false → (Q → P) → Tells r P → Tells r Q
told_of_none true P Q e back h = absurd (cc)
told_of_none false P Q e back h = λ q. h (back q)
