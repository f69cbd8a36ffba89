-- An order fulfils an outcome if its parts hold.
use Rattle.std.proofs.Common.{ℕ, ◌<◌, Bool, false, List, [], length, inl, inr, ⊎_elim}
use Rattle.models.specs.declared.Facts.{Facts}
use Rattle.semantics.specs.Events.{events_of}
use Rattle.semantics.specs.Lists.{ListsEach}
use Rattle.semantics.specs.Orders.{Fulfils}
use Rattle.semantics.specs.Parts.{PairsStand, ReadsStand}
use Rattle.semantics.specs.declared.placed.Placed.{Placed}
use Rattle.semantics.proofs.Seeing.{latest_as, sees_as}

module _ (ps : List Placed) (initial o : List ℕ) (keeps : Facts → Bool) where
  pub fulfilled : ListsEach (λ x. x < length ps) o → PairsStand keeps ps o → ReadsStand ps initial o → Fulfils (events_of ps initial keeps) o
  fulfilled each pairs reads = record {
    lists = each;
    kept = λ x y earlier k. pairs y x earlier (inl k);
    writes = λ x y l earlier a b. pairs y x earlier (inr (l, a, b));
    reads = λ r l v h. sees_as ps o initial (λ f. false) keeps ((reads r).sees l v h);
    own = λ r l v w h latest earlier. (reads r).own l v w h (latest_as ps o initial [] keeps (λ f. false) latest) earlier;
  }

  pub pairs_of : Fulfils (events_of ps initial keeps) o → PairsStand keeps ps o
  pairs_of f y x earlier bound = ⊎_elim (λ k. f.kept x y earlier k) (λ w. f.writes x y w.0 earlier w.1 w.2) bound

  pub reads_of : Fulfils (events_of ps initial keeps) o → ReadsStand ps initial o
  reads_of f r = record {
    sees = λ l v h. sees_as ps o initial keeps (λ f. false) (f.reads r l v h);
    own = λ l v w h latest earlier. f.own r l v w h (latest_as ps o [] initial (λ f. false) keeps latest) earlier;
  }
