-- From an order that fulfils an outcome to a choice that explains it: what each read sees, and each location's writes as
-- they stand in the order.
use Rattle.std.proofs.Common.{◌≡◌, ℕ, ◌<◌, List, [], ◌∷◌, Some, None, Option, sym, refl, subst, subst₂, inl, inr, ⊎_elim, arith}
use native.Mathlib.Decide.{dec_lt}
use Rattle.semantics.specs.declared.Access.{Access}
use Rattle.semantics.specs.declared.Access.TheVariants.{Reading, Writing}
use Rattle.semantics.specs.Events.{Events, ProgramOrder, Reads, Writes, WritesTo}
use Rattle.semantics.specs.HappensBefore.{Choice, Allowed, Edge, preserved, coherence, external_reads_from, from_read, from_initial_read, Path, last, then, ArrangesWrites, ReadsFrom}
use Rattle.semantics.specs.Lists.{Listed, Before, ListsEach}
use Rattle.semantics.specs.Orders.{Visible, Latest, Sees, written, untouched, Fulfils}
use Rattle.semantics.proofs.Standing.{In, here, there, Ahead, now, later, in_listed, listed_in, ahead_before, before_ahead, either_way, before_then, not_both_ways}
use Rattle.theorems.proofs.Edges.{reads_or_writes, dec_writes_to, at_location, later_writes}
use Rattle.theorems.proofs.Sorting.{choose}

-- the list cut down to what P holds of
module _ {P : ℕ → Type 0} (d : (x : ℕ) → Dec (P x)) where
  abbrev cut : List ℕ → List ℕ
  cut [] = []
  cut (a ∷ o) = choose (d a) (a ∷ cut o) (cut o)

  cut_keeps : {x : ℕ} {o : List ℕ} → P x → In x o → In x (cut o)
  cut_keeps {x} p (here {a = a} {o = o} e) = from (d a)
    where
      from : (k : Dec (P a)) → In x (choose k (a ∷ cut o) (cut o))
      from (yes q) = here e
      from (no f) = absurd (f (subst P (sym e) p))
  cut_keeps {x} p (there {a = a} {o = o} h) = from (d a) (cut_keeps p h)
    where
      from : (k : Dec (P a)) → In x (cut o) → In x (choose k (a ∷ cut o) (cut o))
      from (yes q) i = there i
      from (no f) i = i

  cut_only : {x : ℕ} (o : List ℕ) → In x (cut o) → P x × In x o
  cut_only [] h = elim h [ ]
  cut_only {x} (a ∷ o) h = from (d a) (cut_only o) h
    where
      more : P x × In x o → P x × In x (a ∷ o)
      more p = (p.0, there p.1)

      from : (k : Dec (P a)) → (In x (cut o) → P x × In x o) → In x (choose k (a ∷ cut o) (cut o)) → P x × In x (a ∷ o)
      from (yes q) rest (here e) = (subst P e q, here e)
      from (yes q) rest (there i) = more (rest i)
      from (no f) rest i = more (rest i)

  cut_ahead : {x y : ℕ} (o : List ℕ) → Ahead x y (cut o) → Ahead x y o
  cut_ahead [] h = elim h [ ]
  cut_ahead {x} {y} (a ∷ o) h = from (d a) (cut_ahead o) h
    where
      from : (k : Dec (P a)) → (Ahead x y (cut o) → Ahead x y o) → Ahead x y (choose k (a ∷ cut o) (cut o)) → Ahead x y (a ∷ o)
      from (yes q) rest (now e i) = now e (cut_only o i).1
      from (yes q) rest (later i) = later (rest i)
      from (no f) rest i = later (rest i)

  cut_before : (o : List ℕ) (x y : ℕ) → Before (cut o) x y → Before o x y
  cut_before o x y b = ahead_before (cut_ahead o (before_ahead (cut o) x y b))

  cut_lists : (o : List ℕ) → ((x : ℕ) → P x → Listed o x) → ((x : ℕ) → Before o x x → ⊥) → ListsEach P (cut o)
  cut_lists o every once = record {
    every = λ x p. in_listed (cut_keeps p (listed_in o x (every x p)));
    only = λ x h. (cut_only o (listed_in (cut o) x h)).0;
    once = λ x b. once x (cut_before o x x b);
  }

module _ (e : Events) (o : List ℕ) where
  -- the write that a read sees, or none
  abbrev source_of : {r l v : ℕ} → Sees e o r l v → Option ℕ
  source_of (written {w = w} latest write) = Some w
  source_of (untouched none) = None

  -- the read at r of location l, with v expected, sees this write or none
  abbrev Seen : ℕ → ℕ → ℕ → Option ℕ → Type 0
  Seen r l v (Some w) = Latest e o r l w × Writes e w l v
  Seen r l v None = ((w : ℕ) → Visible e o r l w → ⊥) × (e.initial l ≡ v)

  seen : {r l v : ℕ} (s : Sees e o r l v) → Seen r l v (source_of s)
  seen (written latest write) = (latest, write)
  seen (untouched none) = (none, refl)

module _ (e : Events) (o : List ℕ) (fulfils : Fulfils e o) where
  -- the write that is seen at r, if r reads
  abbrev pick : (r : ℕ) (a : Option Access) → e.access r ≡ a → Dec (r < e.size) → Option ℕ
  pick r (Some (Reading l v)) is (yes h) = source_of e o (fulfils.reads r l v (h, is))
  pick r (Some (Reading l v)) is (no f) = None
  pick r (Some (Writing l v)) is d = None
  pick r None is d = None

  pick_seen : (r l v : ℕ) → Reads e r l v → (a : Option Access) (is : e.access r ≡ a) (d : Dec (r < e.size)) → Seen e o r l v (pick r a is d)
  pick_seen r l v reads (Some (Reading k u)) is (yes h) =
      let f = reads.1 in
      let place : k ≡ l = cc in
      let value : u ≡ v = cc in
      subst₂ (λ m n. Seen e o r m n (source_of e o (fulfils.reads r k u (h, is)))) place value (seen e o (fulfils.reads r k u (h, is)))
  pick_seen r l v reads (Some (Reading k u)) is (no f) = absurd (f reads.0)
  pick_seen r l v reads (Some (Writing k u)) is d = absurd (reads_or_writes e reads (reads.0, is))
  pick_seen r l v reads None is d = let f = reads.1 in absurd (cc)

  abbrev choice : Choice
  choice = record {
    source = λ r. pick r (e.access r) refl (dec_lt r e.size);
    arranged = λ l. cut (dec_writes_to e l) o;
  }

  sees : {r l v : ℕ} → Reads e r l v → (s : Option ℕ) → choice.source r ≡ s → Seen e o r l v s
  sees {r} {l} {v} reads s source = subst (Seen e o r l v) source (pick_seen r l v reads (e.access r) refl (dec_lt r e.size))

  coherent : ArrangesWrites e choice
  coherent l = cut_lists (dec_writes_to e l) o (λ x write. fulfils.lists.every x write.1.0) fulfils.lists.once

  reads_from_lem : ReadsFrom e choice
  reads_from_lem = record {
    value = λ r l v w reads source. (sees reads (Some w) source).1;
    own = λ r l v w reads source. fulfils.own r l v w reads (sees reads (Some w) source).0;
    initial = λ r l v reads source. (sees reads None source).1;
  }

  in_order : {w u : ℕ} (l : ℕ) → Before (choice.arranged l) w u → Before o w u
  in_order {w} {u} l = cut_before (dec_writes_to e l) o w u

  -- what follows the writer of a read in coherence is a write to its location that is not visible to it
  overtaker : {r l v w u : ℕ} → Reads e r l v → choice.source r ≡ Some w → (k : ℕ) → Before (choice.arranged k) w u → WritesTo e l u × (Visible e o r l u → ⊥)
  overtaker {r} {l} {v} {w} {u} reads source k b =
      let seen_w = sees reads (Some w) source in
      let there_b = at_location e choice coherent l (v, seen_w.1) (k, b) in
      let after = in_order k b in (
        (later_writes e choice coherent l there_b).1,
        λ visible.
            ⊎_elim
            (λ same. fulfils.lists.once u (subst (λ x. Before o x u) (sym same) after))
            (not_both_ways o fulfils.lists.once w u after)
            (seen_w.0.latest u visible),
      )

  -- a write that is not visible to a read of its location stands after it
  unseen : {r l v u : ℕ} → Reads e r l v → WritesTo e l u → (Visible e o r l u → ⊥) → Before o r u
  unseen {r} {l} {v} {u} reads write none =
      ⊎_elim
      (λ b. b)
      (λ b. absurd (none (record { write = write; before = inl b })))
      (either_way o r u (fulfils.lists.every r reads.0) (fulfils.lists.every u write.1.0) (λ same. reads_or_writes e reads (subst (λ x. Writes e x l write.0) (sym same) write.1)))

  -- every edge goes forward in the order
  forward : {x y : ℕ} → Edge e choice x y → Before o x y
  forward (preserved h k) = fulfils.kept _ _ h k
  forward (coherence h) = in_order h.0 h.1
  forward (external_reads_from {w = w} reads source other) =
      ⊎_elim (λ b. b) (λ h. absurd (other h.same)) (sees reads (Some w) source).0.visible.before
  forward (from_read reads source h) = let p = overtaker reads source h.0 h.1 in unseen reads p.0 p.1
  forward (from_initial_read reads source write) = unseen reads write ((sees reads None source).0 _)

  -- no edge goes against program order
  admitted : {x y : ℕ} → Edge e choice x y → ProgramOrder e y x → ⊥
  admitted (preserved h k) back = omega arith
  admitted {x} {y} (coherence (l, b)) back =
      let p = later_writes e choice coherent l b in
      not_both_ways o fulfils.lists.once x y (in_order l b) (fulfils.writes y x l back p.1 p.0)
  admitted (external_reads_from reads source other) back = other (sym back.same)
  admitted (from_read reads source h) back =
      let p = overtaker reads source h.0 h.1 in
      p.1 (record { write = p.0; before = inr back })
  admitted (from_initial_read {u = u} reads source write) back = (sees reads None source).0 u (record { write = write; before = inr back })

  path_forward : {x y : ℕ} → Path e choice x y → Before o x y
  path_forward (last h) = forward h
  path_forward (then {x = x} {y = y} {z = z} h path) = before_then o fulfils.lists.once x y z (forward h) (path_forward path)

  -- some choice explains what the order fulfils
  pub order_to_choice : Allowed e
  order_to_choice = (
    choice,
    record {
      reads_from = reads_from_lem;
      arranges = coherent;
      admitted = λ x y. admitted;
      acyclic = λ x path. fulfils.lists.once x (path_forward path);
    },
  )
