-- An order that fulfils an outcome still does when less is kept and nothing else changes.
use Rattle.std.proofs.Common.{◌≡◌, ℕ, zero, suc, ◌<◌, Bool, cond, ◌&&◌, eqb, List, Some, None, sym, refl, ap, ◌∙◌, subst, ap₂, inl, inr, ⊎_elim, arith}
use mathlib.Core.Path.{fun_ext}
use Rattle.models.specs.Facts.{Grows, Positive}
use Rattle.models.specs.declared.Facts.{Facts}
use Rattle.semantics.specs.declared.Access.TheVariants.{Writing}
use Rattle.semantics.specs.Events.{Events, ProgramOrder, Reads, Writes, KeptBy, read_access, access_of, events_of}
use Rattle.semantics.specs.Lists.{ListsEach}
use Rattle.semantics.specs.Orders.{Visible, Latest, Sees, written, untouched, Fulfils}
use Rattle.semantics.specs.PairFacts.{SameAddr, NoneBetween, Sets, IsWrite, DataDep, ControlDep, HasFacts}
use Rattle.semantics.specs.Program.{kind_of, location_of, target_of, Names, place_at, instruction_at, thread_at, Precedes}
use Rattle.semantics.specs.Values.{held, result_of, sets_register, is_target, stored_value}
use Rattle.semantics.specs.declared.Instruction.{Instruction}
use Rattle.semantics.specs.declared.Instruction.TheVariants.{Read, Write, Fence, Sum, Difference, Branch}
use Rattle.semantics.specs.declared.Placed.{Placed}
use Rattle.theorems.specs.Statements.{OnlyForbids, StrongerModels, Addressed, same, read, write, AddsAddresses, AddressDependencies}
use Rattle.theorems.proofs.Bridging.{bridge}
use Rattle.theorems.proofs.Computed.{facts_of, has_facts, dec_kept}
use Rattle.theorems.proofs.Tested.{from_test, to_test}

-- the two differ at most in what is kept
record Alike (e f : Events) : Type 0 where
  size : e.size ≡ f.size
  thread : (x : ℕ) → e.thread x ≡ f.thread x
  access : (x : ℕ) → e.access x ≡ f.access x
  initial : (l : ℕ) → e.initial l ≡ f.initial l

alike_back : {e f : Events} → Alike e f → Alike f e
alike_back h = record {
  size = sym h.size;
  thread = λ x. sym (h.thread x);
  access = λ x. sym (h.access x);
  initial = λ l. sym (h.initial l);
}

module _ {e f : Events} (alike : Alike e f) where
  within_alike : {x : ℕ} → x < e.size → x < f.size
  within_alike {x} h = subst (λ (n : ℕ). x < n) alike.size h

  earlier_alike : {x y : ℕ} → ProgramOrder e x y → ProgramOrder f x y
  earlier_alike {x} {y} h = record {
    earlier = h.earlier;
    within = within_alike h.within;
    same = sym (alike.thread x) ∙ h.same ∙ alike.thread y;
  }

  reads_alike : {r l v : ℕ} → Reads e r l v → Reads f r l v
  reads_alike {r} h = (within_alike h.0, sym (alike.access r) ∙ h.1)

  writes_alike : {w l v : ℕ} → Writes e w l v → Writes f w l v
  writes_alike {w} h = (within_alike h.0, sym (alike.access w) ∙ h.1)

  visible_alike : {o : List ℕ} {r l w : ℕ} → Visible e o r l w → Visible f o r l w
  visible_alike h = record {
    write = (h.write.0, writes_alike h.write.1);
    before = ⊎_elim inl (λ k. inr (earlier_alike k)) h.before;
  }

latest_alike : {e f : Events} {o : List ℕ} {r l w : ℕ} → Alike e f → Latest e o r l w → Latest f o r l w
latest_alike alike h = record {
  visible = visible_alike alike h.visible;
  latest = λ u k. h.latest u (visible_alike (alike_back alike) k);
}

sees_alike : {e f : Events} {o : List ℕ} {r l v : ℕ} → Alike e f → Sees e o r l v → Sees f o r l v
sees_alike alike (written h k) = written (latest_alike alike h) (writes_alike alike k)
sees_alike {f = f} {o} {r} {l} alike (untouched h) =
    subst (Sees f o r l) (sym (alike.initial l)) (untouched (λ w k. h w (visible_alike (alike_back alike) k)))

-- where all else is the same and less is kept, the order still fulfils
fulfils_alike : {e f : Events} {o : List ℕ} → Alike e f → ((x y : ℕ) → ProgramOrder f x y → f.Kept x y → e.Kept x y) → Fulfils e o → Fulfils f o
fulfils_alike {o = o} alike kept h =
    let back = alike_back alike in
    record {
      lists = subst (λ (n : ℕ). ListsEach (λ x. x < n) o) alike.size h.lists;
      kept = λ x y b k. h.kept x y (earlier_alike back b) (kept x y b k);
      writes = λ x y l b v w. h.writes x y l (earlier_alike back b) (v.0, writes_alike back v.1) (w.0, writes_alike back w.1);
      reads = λ r l v k. sees_alike alike (h.reads r l v (reads_alike back k));
      own = λ r l v w k last b. h.own r l v w (reads_alike back k) (latest_alike back last) (earlier_alike back b);
    }

-- where each order carries over, so does what is forbidden
only_forbids : {e f : Events} → ((x y : ℕ) → Dec (e.Kept x y)) → ((x y : ℕ) → Dec (f.Kept x y)) → ((o : List ℕ) → Fulfils f o → Fulfils e o) → OnlyForbids e f
only_forbids {e} {f} d k carries = record {
  orders = carries;
  forbidden = λ none allowed. let found = (bridge f k).0 allowed in none ((bridge e d).1 (found.0, carries found.0 found.1));
}

-- what is forbidden under a model stays forbidden under one that keeps more
pub stronger : StrongerModels
stronger ps initial keeps more grows =
    only_forbids (dec_kept keeps ps) (dec_kept more ps)
    (λ o h. fulfils_alike (record { size = refl; thread = λ x. refl; access = λ x. refl; initial = λ l. refl }) grows h)

kind_same : {i j : Instruction} → Addressed i j → kind_of i ≡ kind_of j
kind_same same = refl
kind_same read = refl
kind_same write = refl

location_same : {i j : Instruction} → Addressed i j → location_of i ≡ location_of j
location_same same = refl
location_same read = refl
location_same write = refl

target_same : {i j : Instruction} → Addressed i j → target_of i ≡ target_of j
target_same same = refl
target_same read = refl
target_same write = refl

result_same : {i j : Instruction} → Addressed i j → result_of i ≡ result_of j
result_same same = refl
result_same read = refl
result_same write = refl

-- what is named stays named
names_more : {i j : Instruction} (r : ℕ) → Addressed i j → Names i r → Names j r
names_more r same h = h
names_more r read h = let z : ◌≡◌ {A = ℕ} 0 1 = cc in absurd (omega arith)
names_more r write (inl h) = inl h
names_more r write (inr h) = let z : ◌≡◌ {A = ℕ} 0 1 = cc in absurd (omega arith)

module _ (ps qs : List Placed) (adds : AddsAddresses ps qs) where
  sets_same : (t n r : ℕ) → sets_register (place_at ps n) t r ≡ sets_register (place_at qs n) t r
  sets_same t n r =
      ap₂ (λ a b. eqb a t && is_target r b) (adds.thread n) (target_same (adds.instruction n))

  -- registers hold the same
  held_same : (t n r : ℕ) → held ps t n r ≡ held qs t n r
  held_same t zero r = refl
  held_same t (suc n) r =
      let one = sets_same t n r in
      let before = held_same t n in
      let results = result_same (adds.instruction n) in
      let expects = adds.expected n in
      λ i. cond (one i) (results i (expects i) (λ s. before s i)) (before r i)

  value_same : (x : ℕ) → held ps (thread_at ps x) x ≡ held qs (thread_at qs x) x
  value_same x = fun_ext (held_same (thread_at ps x) x) ∙ ap (λ t. held qs t x) (adds.thread x)

  access_same : (x : ℕ) (i : Instruction) → access_of ps x i ≡ access_of qs x i
  access_same x (Read location target address) = ap (read_access location) (adds.expected x)
  access_same x (Write location stored address) = ap (λ h. Some (Writing location (stored_value stored h))) (value_same x)
  access_same x Fence = refl
  access_same x (Sum target first second) = refl
  access_same x (Difference target first second) = refl
  access_same x (Branch source) = refl

  access_addressed : (x : ℕ) {i j : Instruction} → Addressed i j → access_of ps x i ≡ access_of qs x j
  access_addressed x (same {i}) = access_same x i
  access_addressed x (read {location} {target}) = access_same x (Read location target None)
  access_addressed x (write {location} {stored = stored}) = access_same x (Write location stored None)

  precedes_back : {x y : ℕ} → Precedes qs x y → Precedes ps x y
  precedes_back {x} {y} h = record {
    earlier = h.earlier;
    within = omega (arith, h.within, adds.size);
    same = adds.thread x ∙ h.same ∙ sym (adds.thread y);
  }

  between : (P : Instruction → Type 0) (x y : ℕ) → ((z : ℕ) → P (instruction_at qs z) → P (instruction_at ps z)) → NoneBetween ps x y P → NoneBetween qs x y P
  between P x y back h z from to k = h z (precedes_back from) (precedes_back to) (back z k)

  same_addr_lem : (x y : ℕ) → SameAddr ps x y → SameAddr qs x y
  same_addr_lem x y h = (h.0, sym (location_same (adds.instruction x)) ∙ h.1, sym (location_same (adds.instruction y)) ∙ h.2)

  data_dep_lem : (x y : ℕ) → DataDep ps x y → DataDep qs x y
  data_dep_lem x y h = (
    h.0,
    sym (target_same (adds.instruction x)) ∙ h.1,
    names_more h.0 (adds.instruction y) h.2,
    between (Sets h.0) x y (λ z k. target_same (adds.instruction z) ∙ k) h.3,
  )

  control_dep_lem : (x y : ℕ) → ControlDep ps x y → ControlDep qs x y
  control_dep_lem x y h = record {
    branch = sym (kind_same (adds.instruction x)) ∙ h.branch;
    write = sym (kind_same (adds.instruction y)) ∙ h.write;
    first = between IsWrite x y (λ z k. kind_same (adds.instruction z) ∙ k) h.first;
  }

  -- facts only turn from no to yes
  grows : {x y : ℕ} {f g : Facts} → HasFacts ps x y f → HasFacts qs x y g → Grows f g
  grows {x} {y} h k = record {
    earlier = h.earlier ∙ kind_same (adds.instruction x) ∙ sym k.earlier;
    later = h.later ∙ kind_same (adds.instruction y) ∙ sym k.later;
    address = λ t. to_test (record { tells = k.address }) (same_addr_lem x y (from_test (record { tells = h.address }) t));
    dependency = λ t. to_test (record { tells = k.dependency }) (data_dep_lem x y (from_test (record { tells = h.dependency }) t));
    control = λ t. to_test (record { tells = k.control }) (control_dep_lem x y (from_test (record { tells = h.control }) t));
  }

  kept_more : (keeps : Facts → Bool) → Positive keeps → (x y : ℕ) → KeptBy keeps ps x y → KeptBy keeps qs x y
  kept_more keeps positive x y h =
      (facts_of qs x y, has_facts qs x y, positive h.0 (facts_of qs x y) (grows h.1 (has_facts qs x y)) h.2)

-- what is forbidden stays forbidden when an access that named no address register names one
pub addressed : AddressDependencies
addressed ps qs initial keeps positive adds =
    let alike : Alike (events_of ps initial keeps) (events_of qs initial keeps) =
    record { size = adds.size; thread = adds.thread; access = λ x. access_addressed ps qs adds x (adds.instruction x); initial = λ l. refl } in
    only_forbids (dec_kept keeps ps) (dec_kept keeps qs)
    (λ o h. fulfils_alike (alike_back alike) (λ x y b k. kept_more ps qs adds keeps positive x y k) h)
