-- From a choice that explains an outcome to an order that fulfils it: the edges, sorted.
use Rattle.std.proofs.Common.{◌≡◌, ℕ, ◌<◌, ◌⊎◌, List, Some, None, Option, sym, refl, subst, inl, inr, ⊎_elim, arith}
use native.Mathlib.Decide.{ℕ_discrete}
use Rattle.std.proofs.lemmas.Bool.{cases_eq, cases_order}
use Rattle.semantics.specs.Events.{Events, ProgramOrder, Reads, Writes, WritesTo}
use Rattle.semantics.specs.HappensBefore.{Choice, Edge, preserved, coherence, external_reads_from, from_read, from_initial_read, Path, last, then, Explains}
use Rattle.semantics.specs.Lists.{Before, ListsEach}
use Rattle.semantics.specs.Orders.{Visible, Latest, Sees, written, untouched, Fulfils}
use Rattle.semantics.proofs.Standing.{either_way, not_both_ways}
use Rattle.theorems.specs.Statements.{Fulfillable}
use Rattle.theorems.proofs.Edges.{reads_or_writes, dec_edge, edge_ends}
use Rattle.theorems.proofs.Sorting.{Road, one, more, sorting}

module _ (e : Events) (c : Choice) (explains : Explains e c) where
  -- an order in which every edge goes forward
  module _ (o : List ℕ) (lists : ListsEach (λ x. x < e.size) o) (forward : (x y : ℕ) → Edge e c x y → Before o x y) where
    -- what an edge leads to is not visible where it comes from
    hidden : {r l u : ℕ} → Edge e c r u → Visible e o r l u → ⊥
    hidden {r} {u = u} edge visible =
        ⊎_elim (not_both_ways o lists.once r u (forward r u edge)) (explains.admitted r u edge) visible.before

    writes_forward : (x y l : ℕ) → ProgramOrder e x y → WritesTo e l x → WritesTo e l y → Before o x y
    writes_forward x y l h first second =
        ⊎_elim
        (λ b. forward x y (coherence (l, b)))
        (λ b. absurd (explains.admitted y x (coherence (l, b)) h))
        (either_way (c.arranged l) x y ((explains.arranges l).every x first) ((explains.arranges l).every y second) (λ same. omega arith))

    module _ {r l v : ℕ} (reads : Reads e r l v) where
      module _ {w : ℕ} (source : c.source r ≡ Some w) where
        writer : Writes e w l v
        writer = explains.reads_from.value r l v w reads source

        -- the writer stands before the read, in the order or in its thread
        before_read : Dec (e.thread w ≡ e.thread r) → Before o w r ⊎ ProgramOrder e w r
        before_read (no other) = inl (forward w r (external_reads_from reads source other))
        before_read (yes same) =
            ⊎_elim
            (λ f. absurd (reads_or_writes e reads (subst (λ x. Writes e x l v) f writer)))
            (⊎_elim
            (λ less. inr (record { earlier = less; within = reads.0; same = same }))
            (λ less. absurd (explains.reads_from.own r l v w reads source (record { earlier = less; within = writer.0; same = sym same }))))
            (cases_order w r)

        source_visible : Visible e o r l w
        source_visible = record { write = (v, writer); before = before_read (ℕ_discrete (e.thread w) (e.thread r)) }

        -- no write that is visible stands after the writer
        not_after : (u : ℕ) → Visible e o r l u → (u ≡ w) ⊎ Before o u w
        not_after u visible =
            ⊎_elim
            inl
            (λ other.
            ⊎_elim
            (λ b. inr (forward u w (coherence (l, b))))
            (λ b. absurd (hidden (from_read reads source (l, b)) visible))
            (either_way (c.arranged l) u w ((explains.arranges l).every u visible.write) ((explains.arranges l).every w (v, writer)) other))
            (cases_eq u w)

        source_latest : Latest e o r l w
        source_latest = record { visible = source_visible; latest = not_after }

      sees : (s : Option ℕ) → c.source r ≡ s → Sees e o r l v
      sees (Some w) source = written (source_latest source) (writer source)
      sees None source =
          subst (λ u. Sees e o r l u) (explains.reads_from.initial r l v reads source)
          (untouched (λ u visible. hidden (from_initial_read reads source visible.write) visible))

      -- the latest is the source
      own : {w : ℕ} → Latest e o r l w → ProgramOrder e r w → (s : Option ℕ) → c.source r ≡ s → ⊥
      own {w} latest h None source = hidden (from_initial_read reads source latest.visible.write) latest.visible
      own {w} latest h (Some u) source =
          let itself : (w ≡ u) → ⊥ = λ same. explains.reads_from.own r l v u reads source (subst (λ x. ProgramOrder e r x) same h) in
          ⊎_elim
          itself
          (λ b. ⊎_elim (λ same. itself (sym same)) (not_both_ways o lists.once w u b) (latest.latest u (source_visible source)))
          (not_after source w latest.visible)

    fulfils : Fulfils e o
    fulfils = record {
      lists = lists;
      kept = λ x y h k. forward x y (preserved h k);
      writes = writes_forward;
      reads = λ r l v h. sees h (c.source r) refl;
      own = λ r l v w h latest after. own h latest after (c.source r) refl;
    }

  path_of : {x y : ℕ} → Road (Edge e c) x y → Path e c x y
  path_of (one h) = last h
  path_of (more h road) = then h (path_of road)

  -- some order fulfils what the choice explains
  pub choice_to_order : ((x y : ℕ) → Dec (e.Kept x y)) → Fulfillable e
  choice_to_order kept =
      let (o, lists, forward) = sorting e.size (Edge e c) (dec_edge e c explains.arranges kept) (λ x road. explains.acyclic x (path_of road)) in
      (o, fulfils o lists (λ x y h. let ends = edge_ends e c explains.arranges explains.reads_from h in forward x y ends.0 ends.1 h))
