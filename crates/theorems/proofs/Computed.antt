-- The facts of a pair, computed.
use Rattle.std.proofs.Common.{◌≡◌, ℕ, zero, suc, Bool, false, not, ◌&&◌, ◌||◌, eqb, ltb, List, length, Some, None, Option, sym, refl, ap, ◌∙◌, subst, arith}
use Rattle.models.specs.Facts.{index, same}
use Rattle.models.specs.declared.Facts.{Facts}
use Rattle.models.specs.declared.Kind.{Kind}
use Rattle.models.specs.declared.Kind.TheVariants.{Read as ReadKind, Write as WriteKind, Fence as FenceKind, Arithmetic, Branch as BranchKind}
use Rattle.semantics.specs.Events.{KeptBy}
use Rattle.semantics.specs.PairFacts.{SameAddr, NoneBetween, Sets, DataDep, ControlDep, HasFacts}
use Rattle.semantics.specs.Program.{kind_of, location_of, target_of, Names, instruction_at, thread_at, ThreadOrder, Precedes}
use Rattle.semantics.specs.Values.{is_target}
use Rattle.semantics.specs.declared.Instruction.{Instruction}
use Rattle.semantics.specs.declared.Instruction.TheVariants.{Read, Write, Fence, Sum, Difference, Branch}
use Rattle.semantics.specs.declared.Placed.{Placed}
use Rattle.semantics.specs.declared.Stored.{Stored}
use Rattle.semantics.specs.declared.Stored.TheVariants.{Constant, Register}
use Rattle.theorems.proofs.Tested.{Tested, all_below, tested_again, tested_both, tested_either, tested_not, tested_never, tested_equal, tested_below, tested_all, tested_true, one_answer, decided}

-- program order
abbrev pub in_thread : ℕ → (ℕ → ℕ) → ℕ → ℕ → Bool
in_thread n thread x y =
    let one_thread = eqb (thread x) (thread y) in
    let rest = ltb y n && one_thread in
    ltb x y && rest

pub tested_in_thread : (n : ℕ) (thread : ℕ → ℕ) (x y : ℕ) → Tested (in_thread n thread x y) (ThreadOrder n thread x y)
tested_in_thread n thread x y =
    tested_again
    (λ h. record { earlier = h.0; within = h.1.0; same = h.1.1 })
    (λ h. (h.earlier, (h.within, h.same)))
    (tested_both (tested_below x y) (tested_both (tested_below y n) (tested_equal (thread x) (thread y))))

abbrev precedes : List Placed → ℕ → ℕ → Bool
precedes ps x y = in_thread (length ps) (thread_at ps) x y

tested_precedes : (ps : List Placed) (x y : ℕ) → Tested (precedes ps x y) (Precedes ps x y)
tested_precedes ps x y = tested_in_thread (length ps) (thread_at ps) x y

tested_target : (r : ℕ) (o : Option ℕ) → Tested (is_target r o) (o ≡ Some r)
tested_target r None = tested_never (λ e. let z : ◌≡◌ {A = ℕ} 0 1 = cc in omega arith)
tested_target r (Some t) = tested_again (λ e. cc) (λ e. cc) (tested_equal t r)

-- both are there, and the same
abbrev same_some : Option ℕ → Option ℕ → Bool
same_some None b = false
same_some (Some l) b = is_target l b

tested_same_some : (a b : Option ℕ) → Tested (same_some a b) ((l : ℕ) × (a ≡ Some l) × (b ≡ Some l))
tested_same_some None b = tested_never (λ h. let e = h.1 in let z : ◌≡◌ {A = ℕ} 0 1 = cc in omega arith)
tested_same_some (Some l) b = tested_again (λ e. (l, refl, e)) (λ h. let d = h.1 in let e = h.2 in cc) (tested_target l b)

kind_at : ℕ → Kind
kind_at zero = ReadKind
kind_at (suc zero) = WriteKind
kind_at (suc (suc zero)) = FenceKind
kind_at (suc (suc (suc zero))) = Arithmetic
kind_at (suc (suc (suc (suc n)))) = BranchKind

kind_at_index : (k : Kind) → kind_at (index k) ≡ k
unfolding kind_at
kind_at_index ReadKind = refl
kind_at_index WriteKind = refl
kind_at_index FenceKind = refl
kind_at_index Arithmetic = refl
kind_at_index BranchKind = refl

tested_same_kind : (k l : Kind) → Tested (same k l) (k ≡ l)
tested_same_kind k l =
    tested_again (λ e. sym (kind_at_index k) ∙ ap kind_at e ∙ kind_at_index l) (ap index) (tested_equal (index k) (index l))

abbrev is_register : Stored → ℕ → Bool
is_register (Constant v) r = false
is_register (Register s) r = eqb s r

tested_register : (s : Stored) (r : ℕ) → Tested (is_register s r) (s ≡ Register r)
tested_register (Constant v) r = tested_never (λ e. let z : ◌≡◌ {A = ℕ} 0 1 = cc in omega arith)
tested_register (Register s) r = tested_again (λ e. cc) (λ e. cc) (tested_equal s r)

abbrev names : Instruction → ℕ → Bool
names (Read location target address) r = is_target r address
names (Write location stored address) r = is_register stored r || is_target r address
names Fence r = false
names (Sum target first second) r = eqb first r || eqb second r
names (Difference target first second) r = eqb first r || eqb second r
names (Branch source) r = eqb source r

tested_names : (i : Instruction) (r : ℕ) → Tested (names i r) (Names i r)
tested_names (Read location target address) r = tested_target r address
tested_names (Write location stored address) r = tested_either (tested_register stored r) (tested_target r address)
tested_names Fence r = tested_never (λ h. h)
tested_names (Sum target first second) r = tested_either (tested_equal first r) (tested_equal second r)
tested_names (Difference target first second) r = tested_either (tested_equal first r) (tested_equal second r)
tested_names (Branch source) r = tested_equal source r

-- no place between x and y in their thread has an instruction that passes the test p
abbrev none_between : List Placed → ℕ → ℕ → (Instruction → Bool) → Bool
none_between ps x y p =
    all_below y (λ z.
    let passes = p (instruction_at ps z) in
    let rest = precedes ps z y && passes in
    not (precedes ps x z && rest))

tested_between : {p : Instruction → Bool} {P : Instruction → Type 0} (ps : List Placed) (x y : ℕ) → ((i : Instruction) → Tested (p i) (P i)) → Tested (none_between ps x y p) (NoneBetween ps x y P)
tested_between ps x y t =
    tested_again
    (λ h z from to here. h z to.earlier (from, (to, here)))
    (λ h z below k. h z k.0 k.1.0 k.1.1)
    (tested_all (λ z. tested_not (tested_both (tested_precedes ps x z) (tested_both (tested_precedes ps z y) (t (instruction_at ps z))))) y)

abbrev depends_on : List Placed → ℕ → ℕ → Option ℕ → Bool
depends_on ps x y None = false
depends_on ps x y (Some r) =
    let last = none_between ps x y (λ i. is_target r (target_of i)) in
    names (instruction_at ps y) r && last

-- with the target of x, if it has one
tested_depends : (ps : List Placed) (x y : ℕ) (o : Option ℕ) → target_of (instruction_at ps x) ≡ o → Tested (depends_on ps x y o) (DataDep ps x y)
tested_depends ps x y None e = tested_never (λ h. let d = h.1 in let z : ◌≡◌ {A = ℕ} 0 1 = cc in omega arith)
tested_depends ps x y (Some r) e =
    tested_again
    (λ h. (r, e, h.0, h.1))
    (λ h.
    let d = h.1 in
    let q : h.0 ≡ r = cc in
    subst (λ (s : ℕ). Names (instruction_at ps y) s × NoneBetween ps x y (Sets s)) q (h.2, h.3))
    (tested_both (tested_names (instruction_at ps y) r) (tested_between ps x y (λ i. tested_target r (target_of i))))

abbrev controlled : List Placed → ℕ → ℕ → Bool
controlled ps x y =
    let first = none_between ps x y (λ i. same (kind_of i) WriteKind) in
    let rest = same (kind_of (instruction_at ps y)) WriteKind && first in
    same (kind_of (instruction_at ps x)) BranchKind && rest

tested_control : (ps : List Placed) (x y : ℕ) → Tested (controlled ps x y) (ControlDep ps x y)
tested_control ps x y =
    tested_again
    (λ h. record { branch = h.0; write = h.1.0; first = h.1.1 })
    (λ h. (h.branch, (h.write, h.first)))
    (tested_both (tested_same_kind (kind_of (instruction_at ps x)) BranchKind)
    (tested_both (tested_same_kind (kind_of (instruction_at ps y)) WriteKind)
    (tested_between ps x y (λ i. tested_same_kind (kind_of i) WriteKind))))

abbrev pub facts_of : List Placed → ℕ → ℕ → Facts
facts_of ps x y = record {
  earlier = kind_of (instruction_at ps x);
  later = kind_of (instruction_at ps y);
  same_addr = same_some (location_of (instruction_at ps x)) (location_of (instruction_at ps y));
  data_dep = depends_on ps x y (target_of (instruction_at ps x));
  control_dep = controlled ps x y;
}

pub has_facts : (ps : List Placed) (x y : ℕ) → HasFacts ps x y (facts_of ps x y)
has_facts ps x y = record {
  earlier = refl;
  later = refl;
  address = (tested_same_some (location_of (instruction_at ps x)) (location_of (instruction_at ps y))).tells;
  dependency = (tested_depends ps x y (target_of (instruction_at ps x)) refl).tells;
  control = (tested_control ps x y).tells;
}

-- no other facts are theirs
pub facts_unique : {ps : List Placed} {x y : ℕ} {f g : Facts} → HasFacts ps x y f → HasFacts ps x y g → f ≡ g
facts_unique {ps} {x} {y} {f} {g} h k =
    let a : f.earlier ≡ g.earlier = cc in
    let b : f.later ≡ g.later = cc in
    let s = one_answer {P = SameAddr ps x y} (record { tells = h.address }) (record { tells = k.address }) in
    let d = one_answer {P = DataDep ps x y} (record { tells = h.dependency }) (record { tells = k.dependency }) in
    let c = one_answer {P = ControlDep ps x y} (record { tells = h.control }) (record { tells = k.control }) in
    λ i. record { earlier = a i; later = b i; same_addr = s i; data_dep = d i; control_dep = c i }

-- whether a model that keeps these combinations of facts keeps the pair
abbrev pub keptb : (Facts → Bool) → List Placed → ℕ → ℕ → Bool
keptb keeps ps x y = keeps (facts_of ps x y)

pub tested_kept : (keeps : Facts → Bool) (ps : List Placed) (x y : ℕ) → Tested (keptb keeps ps x y) (KeptBy keeps ps x y)
tested_kept keeps ps x y =
    tested_again
    (λ e. (facts_of ps x y, has_facts ps x y, e))
    (λ h. ap keeps (facts_unique (has_facts ps x y) h.1) ∙ h.2)
    (tested_true (keptb keeps ps x y))

pub dec_kept : (keeps : Facts → Bool) (ps : List Placed) (x y : ℕ) → Dec (KeptBy keeps ps x y)
dec_kept keeps ps x y = decided (tested_kept keeps ps x y)
