-- Whether some order fulfils an outcome: a search for one, and that it tells.
use Rattle.std.proofs.Common.{◌≡◌, ℕ, zero, suc, ◌<◌, Bool, true, false, not, ◌&&◌, ◌||◌, eqb, ltb, ◌⊎◌, List, [], ◌∷◌, ◌++◌, length, get_or, Some, None, Option, sym, refl, ap, ◌∙◌, subst, subst₂, inl, inr, arith}
use Rattle.std.proofs.lemmas.List.{append-nil, append_assoc, get_or_append_left, get_or_at, length-append, nil_from_length}
use Rattle.std.proofs.lemmas.Bool.{cases_order}
use Rattle.models.specs.declared.Facts.{Facts}
use Rattle.semantics.specs.declared.Access.{Access}
use Rattle.semantics.specs.declared.Access.TheVariants.{Reading, Writing}
use Rattle.semantics.specs.Events.{Events, ProgramOrder, events_of}
use Rattle.semantics.specs.Lists.{Listed, Before}
use Rattle.semantics.specs.Orders.{Visible, Latest, Sees, written, untouched, Fulfils}
use Rattle.semantics.specs.declared.Placed.{Placed}
use Rattle.theorems.specs.Statements.{Fulfillable}
use Rattle.theorems.proofs.Computed.{in_thread, tested_in_thread, keptb, tested_kept}
use Rattle.theorems.proofs.Counted.{length_lists}
use Rattle.theorems.proofs.Tested.{Tested, all_below, any_below, listed, before, tested_again, tested_both, tested_either, tested_not, tested_if, tested_never, tested_equal, tested_below, tested_all, tested_some, tested_listed, tested_before}

-- whether it writes to location l
abbrev writes_to : ℕ → Option Access → Bool
writes_to l (Some (Reading m u)) = false
writes_to l (Some (Writing m u)) = eqb m l
writes_to l None = false

tested_writes_to : (l : ℕ) (a : Option Access) → Tested (writes_to l a) ((v : ℕ) × (a ≡ Some (Writing l v)))
tested_writes_to l (Some (Reading m u)) = tested_never (λ h. let d = h.1 in cc)
tested_writes_to l (Some (Writing m u)) = tested_again (λ e. (u, cc)) (λ h. let d = h.1 in cc) (tested_equal m l)
tested_writes_to l None = tested_never (λ h. let d = h.1 in cc)

-- whether it writes v to location l
abbrev stores : ℕ → ℕ → Option Access → Bool
stores l v (Some (Reading m u)) = false
stores l v (Some (Writing m u)) = eqb m l && eqb u v
stores l v None = false

tested_stores : (l v : ℕ) (a : Option Access) → Tested (stores l v a) (a ≡ Some (Writing l v))
tested_stores l v (Some (Reading m u)) = tested_never (λ e. cc)
tested_stores l v (Some (Writing m u)) =
    tested_again (λ h. let d = h.0 in let e = h.1 in cc) (λ e. (cc, cc)) (tested_both (tested_equal m l) (tested_equal u v))
tested_stores l v None = tested_never (λ e. cc)

-- both write to one location
abbrev SameTarget : Option Access → Option Access → Type 0
SameTarget a b = (l : ℕ) × ((v : ℕ) × (a ≡ Some (Writing l v))) × ((v : ℕ) × (b ≡ Some (Writing l v)))

abbrev same_target : Option Access → Option Access → Bool
same_target (Some (Reading m u)) b = false
same_target (Some (Writing m u)) b = writes_to m b
same_target None b = false

tested_same_target : (a b : Option Access) → Tested (same_target a b) (SameTarget a b)
tested_same_target (Some (Reading m u)) b = tested_never (λ h. let d = h.1.1 in cc)
tested_same_target (Some (Writing m u)) b =
    tested_again (λ h. (m, (u, refl), h)) (λ h. let d = h.1.1 in let e = h.2.1 in (h.2.0, cc)) (tested_writes_to m b)
tested_same_target None b = tested_never (λ h. let d = h.1.1 in cc)

abbrev earlier : Events → ℕ → ℕ → Bool
earlier e x y = in_thread e.size e.thread x y

tested_earlier : (e : Events) (x y : ℕ) → Tested (earlier e x y) (ProgramOrder e x y)
tested_earlier e x y = tested_in_thread e.size e.thread x y

module _ (e : Events) (o : List ℕ) where
  module _ (r l : ℕ) where
    abbrev visible : ℕ → Bool
    visible w =
        let own = earlier e w r in
        let stands = before o w r || own in
        let rest = ltb w e.size && stands in
        writes_to l (e.access w) && rest

    tested_visible : (w : ℕ) → Tested (visible w) (Visible e o r l w)
    tested_visible w =
        tested_again
        (λ h. record { write = (h.0.0, (h.1.0, h.0.1)); before = h.1.1 })
        (λ h. ((h.write.0, h.write.1.1), (h.write.1.0, h.before)))
        (tested_both (tested_writes_to l (e.access w))
        (tested_both (tested_below w e.size) (tested_either (tested_before o w r) (tested_earlier e w r))))

    abbrev latest : ℕ → Bool
    latest w =
        let rest =
        all_below e.size (λ u.
        let stands = before o u w in
        let up_to = eqb u w || stands in
        not (visible u) || up_to) in
        visible w && rest

    tested_latest : (w : ℕ) → Tested (latest w) (Latest e o r l w)
    tested_latest w =
        tested_again
        (λ h. record { visible = h.0; latest = λ u k. h.1 u k.write.1.0 k })
        (λ h. (h.visible, λ u within k. h.latest u k))
        (tested_both (tested_visible w)
        (tested_all (λ u. tested_if (tested_visible u) (tested_either (tested_equal u w) (tested_before o u w))) e.size))

    abbrev sees : ℕ → Bool
    sees v =
        let none = all_below e.size (λ w. not (visible w)) in
        let initially = eqb (e.initial l) v && none in
        any_below e.size (λ w. let last = latest w in stores l v (e.access w) && last) || initially

    -- the two ways to see v
    abbrev Seen : ℕ → Type 0
    Seen v =
        ((w : ℕ) × (w < e.size) × ((e.access w ≡ Some (Writing l v)) × Latest e o r l w))
        ⊎ ((e.initial l ≡ v) × ((w : ℕ) → w < e.size → Visible e o r l w → ⊥))

    seen : {v : ℕ} → Sees e o r l v → Seen v
    seen (written {w} h k) = inl (w, k.0, (k.1, h))
    seen (untouched h) = inr (refl, λ w within. h w)

    from_seen : {v : ℕ} → Seen v → Sees e o r l v
    from_seen (inl h) = written h.2.1 (h.1, h.2.0)
    from_seen (inr h) = subst (Sees e o r l) h.0 (untouched (λ w k. h.1 w k.write.1.0 k))

    tested_sees : (v : ℕ) → Tested (sees v) (Sees e o r l v)
    tested_sees v =
        tested_again from_seen seen
        (tested_either
        (tested_some (λ w. tested_both (tested_stores l v (e.access w)) (tested_latest w)) e.size)
        (tested_both (tested_equal (e.initial l) v) (tested_all (λ w. tested_not (tested_visible w)) e.size)))

  -- a read at r of location l sees v, and no write that follows it in its thread
  abbrev Right : ℕ → ℕ → ℕ → Type 0
  Right r l v = Sees e o r l v × ((w : ℕ) → w < e.size → ProgramOrder e r w × Latest e o r l w → ⊥)

  abbrev right : ℕ → Option Access → Bool
  right r (Some (Reading l v)) =
      let own = all_below e.size (λ w. let last = latest r l w in not (earlier e r w && last)) in
      sees r l v && own
  right r (Some (Writing l v)) = true
  right r None = true

  tested_right : (r : ℕ) (a : Option Access) → Tested (right r a) ((l v : ℕ) → a ≡ Some (Reading l v) → Right r l v)
  tested_right r (Some (Reading m u)) =
      tested_again
      (λ h l v d. let p : m ≡ l = cc in let q : u ≡ v = cc in subst₂ (λ (i j : ℕ). Right r i j) p q h)
      (λ h. h m u refl)
      (tested_both (tested_sees r m u)
      (tested_all (λ w. tested_not (tested_both (tested_earlier e r w) (tested_latest r m w))) e.size))
  tested_right r (Some (Writing m u)) = record { tells = λ l v d. absurd (cc) }
  tested_right r None = record { tells = λ l v d. absurd (cc) }

module _ (e : Events) (kept : ℕ → ℕ → Bool) where
  -- whether x must stand before y
  abbrev bound : ℕ → ℕ → Bool
  bound x y =
      let writes = same_target (e.access x) (e.access y) in
      let either = kept x y || writes in
      earlier e x y && either

  -- whether the order fulfils the outcome; what reads see comes first, since in a search it alone may fail
  abbrev fulfils : List ℕ → Bool
  fulfils o =
      let once = all_below e.size (λ x. not (before o x x)) in
      let only = all_below (length o) (λ i. ltb (get_or o i 0) e.size) && once in
      let every = all_below e.size (λ x. listed o x) && only in
      let ordered = all_below e.size (λ y. all_below y (λ x. let stands = before o x y in not (bound x y) || stands)) && every in
      all_below e.size (λ r. right e o r (e.access r)) && ordered

  -- whether x may stand next
  abbrev may : List ℕ → ℕ → Bool
  may prefix x =
      let ready = all_below x (λ z. let stands = listed prefix z in not (bound z x) || stands) in
      not (listed prefix x) && ready

  -- whether some k more places after the prefix fulfil the outcome
  abbrev search : ℕ → List ℕ → Bool
  search zero prefix = fulfils prefix
  search (suc k) prefix = any_below e.size (λ x. let rest = search k (prefix ++ x ∷ []) in may prefix x && rest)

  module _ (told : (x y : ℕ) → Tested (kept x y) (e.Kept x y)) where
    -- x must stand before y
    abbrev MustPrecede : ℕ → ℕ → Type 0
    MustPrecede x y = ProgramOrder e x y × (e.Kept x y ⊎ SameTarget (e.access x) (e.access y))

    tested_bound : (x y : ℕ) → Tested (bound x y) (MustPrecede x y)
    tested_bound x y = tested_both (tested_earlier e x y) (tested_either (told x y) (tested_same_target (e.access x) (e.access y)))

    bound_before : (o : List ℕ) → Fulfils e o → (x y : ℕ) → MustPrecede x y → Before o x y
    bound_before o f x y h =
        elim h.1 [
          | inl k ↦ f.kept x y h.0 k
          | inr k ↦ f.writes x y k.0 h.0
              (k.1.0, (omega (arith, h.0.earlier, h.0.within), k.1.1)) (k.2.0, (h.0.within, k.2.1))
        ]

    tested_fulfils : (o : List ℕ) → Tested (fulfils o) (Fulfils e o)
    tested_fulfils o =
        tested_again
        (λ h. record {
          lists = record {
            every = h.1.1.0;
            only = λ x k. subst (λ (y : ℕ). y < e.size) k.2 (h.1.1.1.0 k.0 k.1);
            once = λ x k. h.1.1.1.1 x (subst (λ (y : ℕ). y < e.size) k.5 (h.1.1.1.0 k.1 k.3)) k;
          };
          kept = λ x y b k. h.1.0 y b.within x b.earlier (b, inl k);
          writes = λ x y l b v w. h.1.0 y b.within x b.earlier (b, inr (l, (v.0, v.1.1), (w.0, w.1.1)));
          reads = λ r l v k. (h.0 r k.0 l v k.1).0;
          own = λ r l v w k last b. (h.0 r k.0 l v k.1).1 w last.visible.write.1.0 (b, last);
        })
        (λ f. (λ r within l v k. (f.reads r l v (within, k), λ w h b. f.own r l v w (within, k) b.1 b.0), (λ y within x h b. bound_before o f x y b, (f.lists.every, (λ i h. f.lists.only (get_or o i 0) (i, h, refl), λ x h. f.lists.once x)))))
        (tested_both (tested_all (λ r. tested_right e o r (e.access r)) e.size)
        (tested_both (tested_all (λ y. tested_all (λ x. tested_if (tested_bound x y) (tested_before o x y)) y) e.size)
        (tested_both (tested_all (λ x. tested_listed o x) e.size)
        (tested_both (tested_all (λ i. tested_below (get_or o i 0) e.size) (length o))
        (tested_all (λ x. tested_not (tested_before o x x)) e.size)))))

    -- x may stand next
    abbrev May : List ℕ → ℕ → Type 0
    May prefix x = (Listed prefix x → ⊥) × ((z : ℕ) → z < x → MustPrecede z x → Listed prefix z)

    tested_may : (prefix : List ℕ) (x : ℕ) → Tested (may prefix x) (May prefix x)
    tested_may prefix x =
        tested_both (tested_not (tested_listed prefix x)) (tested_all (λ z. tested_if (tested_bound z x) (tested_listed prefix z)) x)

    -- k more places after the prefix fulfil the outcome
    abbrev Completed : ℕ → List ℕ → Type 0
    Completed k prefix = (rest : List ℕ) × (length rest ≡ k) × Fulfils e (prefix ++ rest)

    -- what comes next in an order that fulfils the outcome may stand there
    next_may : (prefix : List ℕ) (x : ℕ) (rest : List ℕ) → Fulfils e (prefix ++ x ∷ rest) → (x < e.size) × May prefix x
    next_may prefix x rest f =
        let o = prefix ++ x ∷ rest in
        let at = get_or_at prefix x rest 0 (length prefix) refl in
        let here : length prefix < length o = simp length-append (omega arith) in (
          f.lists.only x (length prefix, here, at),
          (
            λ k. f.lists.once x (k.0, length prefix, k.1, here, get_or_append_left prefix (x ∷ rest) 0 k.0 k.1 ∙ k.2, at),
            λ z h b.
                let s = bound_before o f z x b in
                let below : s.0 < length prefix =
                elim (cases_order s.1 (length prefix)) [
                  | inl q ↦ omega (arith, s.2)
                  | inr (inl q) ↦ absurd (f.lists.once x (s.1, length prefix, q, here, s.5, at))
                  | inr (inr q) ↦ absurd (f.lists.once x (length prefix, s.1, q, s.3, at, s.5))
                ] in
                (s.0, below, sym (get_or_append_left prefix (x ∷ rest) 0 s.0 below) ∙ s.4),
          ),
        )

    next_completed : (k : ℕ) (prefix rest : List ℕ) → length rest ≡ suc k → Fulfils e (prefix ++ rest) → (x : ℕ) × (x < e.size) × (May prefix x × Completed k (prefix ++ x ∷ []))
    next_completed k prefix [] h f = absurd (omega arith)
    next_completed k prefix (x ∷ rest) h f =
        let q = next_may prefix x rest f in
        (x, q.0, (q.1, (rest, omega arith, subst (Fulfils e) (sym (append_assoc prefix (x ∷ []) rest)) f)))

    -- the search passes over nothing that fulfils the outcome
    tested_search : (k : ℕ) (prefix : List ℕ) → Tested (search k prefix) (Completed k prefix)
    tested_search zero prefix =
        tested_again
        (λ f. ([], refl, subst (Fulfils e) (sym (append-nil prefix)) f))
        (λ h. subst (Fulfils e) (ap (λ r. prefix ++ r) (nil_from_length h.0 h.1) ∙ append-nil prefix) h.2)
        (tested_fulfils prefix)
    tested_search (suc k) prefix =
        tested_again
        (λ h. (h.0 ∷ h.2.1.0, ap suc h.2.1.1, subst (Fulfils e) (append_assoc prefix (h.0 ∷ []) h.2.1.0) h.2.1.2))
        (λ h. next_completed k prefix h.0 h.1 h.2)
        (tested_some (λ x. tested_both (tested_may prefix x) (tested_search k (prefix ++ x ∷ []))) e.size)

    tested_fulfillable : Tested (search e.size []) (Fulfillable e)
    tested_fulfillable =
        tested_again
        (λ h. (h.0, h.2))
        (λ h. (h.0, length_lists e.size h.0 h.1.lists, h.1))
        (tested_search e.size [])

-- whether some order fulfils the outcome
abbrev pub decide : List Placed → List ℕ → (Facts → Bool) → Bool
decide ps initial keeps = search (events_of ps initial keeps) (keptb keeps ps) (length ps) []

pub decides : (ps : List Placed) (initial : List ℕ) (keeps : Facts → Bool) → Tested (decide ps initial keeps) (Fulfillable (events_of ps initial keeps))
decides ps initial keeps = tested_fulfillable (events_of ps initial keeps) (keptb keeps ps) (tested_kept keeps ps)
