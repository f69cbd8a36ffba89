-- The direct edges of a choice: there is a decision whether one leads from x to y, and both its ends are instructions.
use Rattle.std.proofs.Common.{◌≡◌, ℕ, ◌<◌, ◌⊎◌, Some, None, Option, sym, refl, subst, inl, inr, arith}
use native.Mathlib.Decide.{dec_lt, ℕ_discrete, map_dec}
use Rattle.semantics.specs.declared.Access.{Access}
use Rattle.semantics.specs.declared.Access.TheVariants.{Reading, Writing}
use Rattle.semantics.specs.Events.{Events, ProgramOrder, Reads, Writes, WritesTo}
use Rattle.semantics.specs.HappensBefore.{Choice, CoherenceBefore, ReadsFrom, ArrangesWrites, Edge, preserved, coherence, external_reads_from, from_read, from_initial_read}
use Rattle.semantics.specs.Lists.{Before}
use Rattle.semantics.proofs.Standing.{dec_before, listed_first, listed_second}
use Rattle.theorems.proofs.Sorting.{dec_both, dec_either}

dec_not : {A : Type 0} → Dec A → Dec (A → ⊥)
dec_not (yes a) = no (λ f. f a)
dec_not (no f) = yes f

-- one instruction does not both read and write
pub reads_or_writes : (e : Events) {x l k v u : ℕ} → Reads e x l v → Writes e x k u → ⊥
reads_or_writes e (h, read) (i, write) = cc

-- it accesses one location
pub one_location_lem : (e : Events) {x l k v u : ℕ} → Writes e x l v → Writes e x k u → l ≡ k
one_location_lem e (h, write) (i, other) = cc

dec_earlier : (e : Events) (x y : ℕ) → Dec (ProgramOrder e x y)
dec_earlier e x y =
    map_dec
    (λ p. record { earlier = p.0; within = p.1.0; same = p.1.1 })
    (λ p. (p.earlier, (p.within, p.same)))
    (dec_both (dec_lt x y) (dec_both (dec_lt y e.size) (ℕ_discrete (e.thread x) (e.thread y))))

-- x is a read
abbrev ReadAt : Events → ℕ → Type 0
ReadAt e x = (l : ℕ) × (v : ℕ) × Reads e x l v

dec_read : (e : Events) (x : ℕ) → Dec (ReadAt e x)
dec_read e x = from (e.access x) refl (dec_lt x e.size)
  where
    from : (a : Option Access) → e.access x ≡ a → Dec (x < e.size) → Dec (ReadAt e x)
    from (Some (Reading l v)) is (yes h) = yes (l, v, (h, is))
    from (Some (Reading l v)) is (no f) = no (λ r. f r.2.0)
    from (Some (Writing l v)) is d = no (λ r. let f = r.2.1 in cc)
    from None is d = no (λ r. let f = r.2.1 in cc)

pub dec_writes_to : (e : Events) (l x : ℕ) → Dec (WritesTo e l x)
dec_writes_to e l x = from (e.access x) refl (dec_lt x e.size)
  where
    here : (k v : ℕ) → e.access x ≡ Some (Writing k v) → x < e.size → Dec (k ≡ l) → Dec (WritesTo e l x)
    here k v is h (yes same) = yes (v, (h, cc))
    here k v is h (no other) = no (λ w. other (one_location_lem e {x = x} {v = v} {u = w.0} (h, is) w.1))

    from : (a : Option Access) → e.access x ≡ a → Dec (x < e.size) → Dec (WritesTo e l x)
    from (Some (Writing k v)) is (yes h) = here k v is h (ℕ_discrete k l)
    from (Some (Writing k v)) is (no f) = no (λ w. f w.1.0)
    from (Some (Reading k v)) is d = no (λ w. let f = w.1.1 in cc)
    from None is d = no (λ w. let f = w.1.1 in cc)

dec_source : (o : Option ℕ) (w : ℕ) → Dec (o ≡ Some w)
dec_source None w = no (λ f. cc)
dec_source (Some u) w = map_dec (λ f. cc) (λ f. cc) (ℕ_discrete u w)

module _ (e : Events) (c : Choice) (coherent : ArrangesWrites e c) where
  -- both are writes to the location in whose coherence order they stand
  pub later_writes : (l : ℕ) {w u : ℕ} → Before (c.arranged l) w u → WritesTo e l w × WritesTo e l u
  later_writes l {w} {u} b =
      ((coherent l).only w (listed_first (c.arranged l) w u b), (coherent l).only u (listed_second (c.arranged l) w u b))

  -- the location is that of either write
  pub at_location : (l : ℕ) {w u : ℕ} → WritesTo e l w → CoherenceBefore c w u → Before (c.arranged l) w u
  at_location l {w} {u} write later =
      subst (λ k. Before (c.arranged k) w u) (one_location_lem e (later_writes later.0 later.1).0.1 write.1) later.1

  dec_later : (w u : ℕ) → Dec (CoherenceBefore c w u)
  dec_later w u = from (e.access w) refl (dec_lt w e.size)
    where
      here : (l : ℕ) → WritesTo e l w → Dec (Before (c.arranged l) w u) → Dec (CoherenceBefore c w u)
      here l write (yes b) = yes (l, b)
      here l write (no f) = no (λ b. f (at_location l write b))

      from : (a : Option Access) → e.access w ≡ a → Dec (w < e.size) → Dec (CoherenceBefore c w u)
      from (Some (Writing l v)) is (yes h) = here l (v, (h, is)) (dec_before (c.arranged l) w u)
      from (Some (Writing l v)) is (no f) = no (λ b. f (later_writes b.0 b.1).0.1.0)
      from (Some (Reading l v)) is d = no (λ b. let f = (later_writes b.0 b.1).0.1.1 in cc)
      from None is d = no (λ b. let f = (later_writes b.0 b.1).0.1.1 in cc)

  -- from a read to each write that follows its writer, or to each write if it has none
  abbrev FromRead : ℕ → Option ℕ → ℕ → Type 0
  FromRead x (Some w) y = ReadAt e x × CoherenceBefore c w y
  FromRead x None y = (l : ℕ) × (v : ℕ) × Reads e x l v × WritesTo e l y

  dec_from_read : (x : ℕ) (o : Option ℕ) (y : ℕ) → Dec (FromRead x o y)
  dec_from_read x (Some w) y = dec_both (dec_read e x) (dec_later w y)
  dec_from_read x None y = from (dec_read e x)
    where
      here : (r : ReadAt e x) → Dec (WritesTo e r.0 y) → Dec (FromRead x None y)
      here r (yes write) = yes (r.0, r.1, r.2, write)
      here r (no f) = no (λ p. let a = r.2.1 in let b = p.2.1 in let same : p.0 ≡ r.0 = cc in f (subst (λ l. WritesTo e l y) same p.3))

      from : Dec (ReadAt e x) → Dec (FromRead x None y)
      from (yes r) = here r (dec_writes_to e r.0 y)
      from (no f) = no (λ p. f (p.0, p.1, p.2))

  -- the direct edges, by kind
  abbrev Kinds : ℕ → ℕ → Type 0
  Kinds x y =
      (ProgramOrder e x y × e.Kept x y)
      ⊎ (CoherenceBefore c x y
      ⊎ ((ReadAt e y × ((c.source y ≡ Some x) × (e.thread x ≡ e.thread y → ⊥))) ⊎ FromRead x (c.source x) y))

  kinds_of : {x y : ℕ} → Edge e c x y → Kinds x y
  kinds_of (preserved h k) = inl (h, k)
  kinds_of (coherence h) = inr (inl h)
  kinds_of (external_reads_from {l = l} {v = v} r s f) = inr (inr (inl ((l, v, r), (s, f))))
  kinds_of (from_read {w = w} {r = x} {l = l} {v = v} {u = y} r s h) =
      inr (inr (inr (subst (λ o. FromRead x o y) (sym s) ((l, v, r), h))))
  kinds_of (from_initial_read {r = x} {l = l} {v = v} {u = y} r s h) =
      inr (inr (inr (subst (λ o. FromRead x o y) (sym s) (l, v, r, h))))

  of_kind : {x y : ℕ} → Kinds x y → Edge e c x y
  of_kind (inl p) = preserved p.0 p.1
  of_kind (inr (inl h)) = coherence h
  of_kind (inr (inr (inl p))) = external_reads_from p.0.2 p.1.0 p.1.1
  of_kind {x} {y} (inr (inr (inr p))) = from (c.source x) refl p
    where
      from : (o : Option ℕ) → c.source x ≡ o → FromRead x o y → Edge e c x y
      from (Some w) s (r, h) = from_read r.2 s h
      from None s (l, v, r, h) = from_initial_read r s h

  -- where it is decided which pairs are kept, so are the direct edges
  pub dec_edge : ((x y : ℕ) → Dec (e.Kept x y)) → (x y : ℕ) → Dec (Edge e c x y)
  dec_edge kept x y =
      map_dec of_kind kinds_of
      (dec_either (dec_both (dec_earlier e x y) (kept x y))
      (dec_either (dec_later x y)
      (dec_either (dec_both (dec_read e y) (dec_both (dec_source (c.source y) x) (dec_not (ℕ_discrete (e.thread x) (e.thread y)))))
      (dec_from_read x (c.source x) y))))

  -- both ends of an edge are instructions
  pub edge_ends : ReadsFrom e c → {x y : ℕ} → Edge e c x y → (x < e.size) × (y < e.size)
  edge_ends from (preserved h k) = (omega arith, h.within)
  edge_ends from (coherence h) = let p = later_writes h.0 h.1 in (p.0.1.0, p.1.1.0)
  edge_ends from (external_reads_from r s f) = ((from.value _ _ _ _ r s).0, r.0)
  edge_ends from (from_read r s h) = (r.0, (later_writes h.0 h.1).1.1.0)
  edge_ends from (from_initial_read r s h) = (r.0, h.1.0)
