-- What a read sees in an order, and what that rests on.
use Rattle.std.proofs.Common.{◌≡◌, ℕ, ◌<◌, Bool, true, false, not, eqb, List, [], length, get_or, Some, sym, refl, subst, subst₂, ⊎_elim}
use Rattle.std.proofs.lemmas.Bool.{eqb-true, eqb-false}
use Rattle.models.specs.Tells.{Tells}
use Rattle.models.specs.declared.Facts.{Facts}
use Rattle.semantics.specs.Events.{events_of, access_at, Reads, Writes}
use Rattle.semantics.specs.Lists.{ListsEach}
use Rattle.semantics.specs.Orders.{Visible, Latest, Sees, written, untouched}
use Rattle.semantics.specs.Parts.{accesses, valued, ReadStands}
use Rattle.semantics.specs.Program.{Precedes}
use Rattle.semantics.specs.declared.access.Access.TheVariants.{Reading}
use Rattle.semantics.specs.declared.placed.Placed.{Placed}
use Rattle.semantics.proofs.Accessing.{reading}
use Rattle.semantics.proofs.Ranging.{told_of_none}
use Rattle.semantics.proofs.Standing.{not_both_ways}

-- neither the initial values nor the model have a part in what is visible, or the latest
module _ (ps : List Placed) (o : List ℕ) (i j : List ℕ) (keeps more : Facts → Bool) where
  pub visible_as : {r l w : ℕ} → Visible (events_of ps i keeps) o r l w → Visible (events_of ps j more) o r l w
  visible_as h = record { write = h.write; before = h.before }

module _ (ps : List Placed) (o : List ℕ) (i j : List ℕ) (keeps more : Facts → Bool) where
  pub latest_as : {r l w : ℕ} → Latest (events_of ps i keeps) o r l w → Latest (events_of ps j more) o r l w
  latest_as h = record {
    visible = visible_as ps o i j keeps more h.visible;
    latest = λ u k. h.latest u (visible_as ps o j i more keeps k);
  }

-- nor has the model in what is seen
pub sees_as : (ps : List Placed) (o i : List ℕ) (keeps more : Facts → Bool) {r l v : ℕ} → Sees (events_of ps i keeps) o r l v → Sees (events_of ps i more) o r l v
sees_as ps o i keeps more (written h e) = written (latest_as ps o i i keeps more h) e
sees_as ps o i keeps more (untouched f) = untouched (λ w h. f w (visible_as ps o i i more keeps h))

-- in an order that lists each place once
module _ (ps : List Placed) (o : List ℕ) (each : ListsEach (λ x. x < length ps) o) where
  one_latest : {r l u w : ℕ} → Latest (accesses ps) o r l u → Latest (accesses ps) o r l w → u ≡ w
  one_latest {u = u} {w = w} h k =
      ⊎_elim
      (λ e. e)
      (λ before. ⊎_elim sym (λ back. absurd (not_both_ways o each.once u w before back)) (h.latest w k.visible))
      (k.latest u h.visible)

  -- a read of location l at r that expects v
  module _ (initial : List ℕ) (r l v : ℕ) (e : access_at ps r ≡ Some (Reading l v)) where
    valued_visible : {w : ℕ} → Visible (accesses ps) o r l w → Visible (valued ps initial) o r l w
    valued_visible = visible_as ps o [] initial (λ f. false) (λ f. false)

    unvalued_visible : {w : ℕ} → Visible (valued ps initial) o r l w → Visible (accesses ps) o r l w
    unvalued_visible = visible_as ps o initial [] (λ f. false) (λ f. false)

    reads : Reads (accesses ps) r l v
    reads = (reading ps r l v e, e)

    only_location : {k u : ℕ} → Reads (accesses ps) r k u → l ≡ k
    only_location h = let f = h.1 in cc

    only_value : {k u : ℕ} → Reads (accesses ps) r k u → v ≡ u
    only_value h = let f = h.1 in cc

    stands : Sees (valued ps initial) o r l v → ((w : ℕ) → Latest (accesses ps) o r l w → Precedes ps r w → ⊥) → ReadStands ps initial o r
    stands s own = record {
      sees = λ k u h. subst₂ (λ (a b : ℕ). Sees (valued ps initial) o r a b) (only_location h) (only_value h) s;
      own = λ k u w h. subst (λ (a : ℕ). Latest (accesses ps) o r a w → Precedes ps r w → ⊥) (only_location h) (own w);
    }

    -- the latest write is w
    module _ (w : ℕ) (latest : Latest (accesses ps) o r l w) where
      seen_is : {u : ℕ} → Sees (valued ps initial) o r l u → Writes (accesses ps) w l u
      seen_is {u = u} (written h k) = subst (λ (x : ℕ). Writes (accesses ps) x l u) (one_latest (latest_as ps o initial [] (λ f. false) (λ f. false) h) latest) k
      seen_is (untouched f) = absurd (f w (valued_visible latest.visible))

      pub by_write : Writes (accesses ps) w l v → (b : Bool) → Tells b (Precedes ps r w) → Tells (not b) (ReadStands ps initial o r)
      by_write h true follows = λ k. k.own l v w reads latest follows
      by_write h false apart =
          stands (written (latest_as ps o [] initial (λ f. false) (λ f. false) latest) h)
          (λ u k. subst (λ (x : ℕ). Precedes ps r x → ⊥) (one_latest latest k) apart)

      pub not_by_write : (b : Bool) → b ≡ false → Tells b (Writes (accesses ps) w l v) → Tells b (ReadStands ps initial o r)
      not_by_write b e t = told_of_none b _ _ e (λ k. seen_is (k.sees l v reads)) t

    -- there is none
    module _ (none : (w : ℕ) → Visible (accesses ps) o r l w → ⊥) where
      initial_is : {u : ℕ} → Sees (valued ps initial) o r l u → get_or initial l 0 ≡ u
      initial_is (written h k) = absurd (none _ (unvalued_visible h.visible))
      initial_is (untouched f) = refl

      pub by_initial : (b : Bool) → eqb (get_or initial l 0) v ≡ b → Tells b (ReadStands ps initial o r)
      by_initial true t = stands (subst (Sees (valued ps initial) o r l) (eqb-true _ _ t) (untouched (λ w h. none w (unvalued_visible h)))) (λ w h. absurd (none w h.visible))
      by_initial false t = λ k. eqb-false _ _ t (initial_is (k.sees l v reads))

-- where nothing is read, nothing is asked
pub no_read : (ps : List Placed) (initial o : List ℕ) (r : ℕ) → ((l v : ℕ) → access_at ps r ≡ Some (Reading l v) → ⊥) → ReadStands ps initial o r
no_read ps initial o r f = record {
  sees = λ l v h. absurd (f l v h.1);
  own = λ l v w h. absurd (f l v h.1);
}
