-- What a reader may conclude from what the readers that it called found.
use Rattle.std.proofs.Common.{◌≡◌, ℕ, true, false, Bool, ◌⊎◌, List, [], ◌∷◌, IfOk, Some, None, Ok, Option, Result, sym, refl, subst, inl, inr, ⊎_elim}
use Rattle.std.specs.Bool.{then_some}
use Rattle.std.specs.declared.alloc.AllocError.{AllocError}
use Rattle.formulas.specs.Grammar.{Level, formula, term, factor, Reads, one_term, more_terms, one_factor, more_factors, name, bracketed, Forms, Admitted, Taken, Unambiguous}
use Rattle.formulas.specs.Items.{Comes, NotFirst, AfterSign}
use Rattle.formulas.specs.Readers.{Stops, Longest, Finds}
use Rattle.models.specs.Trees.{Tree, word, both, either, shape}
use Rattle.formulas.specs.Words.{Tokens}
use Rattle.models.specs.declared.Formula.{Formula}
use Rattle.formulas.specs.declared.token.Token.{Token}
use Rattle.formulas.specs.declared.token.Token.TheVariants.{Name, And, Or, Open, Close}
use Rattle.models.specs.declared.Word.{Word}
use Rattle.formulas.proofs.Lexing.{after, first_is, first_is_not, none_left, tokens_unique}
use Rattle.formulas.proofs.Grammars.{determined, or_no_and, close_stops, same_rest}

-- an upper level of the grammar is a lower one, some of them joined by a sign
pub record Joined (upper lower : Level) (sign : Token) (join : Tree → Tree → Tree) : Type 0 where
  pub one : {ts us : List Token} {t : Tree} → Longest lower ts t us → NotFirst sign us → Longest upper ts t us
  pub more : {ts us vs : List Token} {t u : Tree} → Longest lower ts t (sign ∷ us) → Longest upper us u vs → Longest upper ts (join t u) vs
  pub split : {ts vs : List Token} {t : Tree} → Longest upper ts t vs → (Longest lower ts t vs × NotFirst sign vs) ⊎ ((u : Tree) × (w : Tree) × (us : List Token) × (Longest lower ts u (sign ∷ us)) × Longest upper us w vs)

split_term : {ts vs : List Token} {t : Tree} → Reads term ts t vs → Stops term vs → (Longest factor ts t vs × NotFirst And vs) ⊎ ((u : Tree) × (w : Tree) × (us : List Token) × (Longest factor ts u (And ∷ us)) × Longest term us w vs)
split_term (one_factor r) s = inl (record { reads = r; stops = tt }, s)
split_term (more_factors r k) s = inr (_, _, _, record { reads = r; stops = tt }, record { reads = k; stops = s })

split_formula : {ts vs : List Token} {t : Tree} → Reads formula ts t vs → Stops formula vs → (Longest term ts t vs × NotFirst Or vs) ⊎ ((u : Tree) × (w : Tree) × (us : List Token) × (Longest term ts u (Or ∷ us)) × Longest formula us w vs)
split_formula (one_term r) s = inl (record { reads = r; stops = s.0 }, s.1)
split_formula (more_terms r k) s = inr (_, _, _, record { reads = r; stops = or_no_and _ }, record { reads = k; stops = s })

pub factors : Joined term factor And both
factors = record {
  one = λ f stop. record { reads = one_factor f.reads; stops = stop };
  more = λ f rest. record { reads = more_factors f.reads rest.reads; stops = rest.stops };
  split = λ h. split_term h.reads h.stops;
}

pub terms : Joined formula term Or either
terms = record {
  one = λ f stop. record { reads = one_term f.reads; stops = (f.stops, stop) };
  more = λ f rest. record { reads = more_terms f.reads rest.reads; stops = rest.stops };
  split = λ h. split_formula h.reads h.stops;
}

pub alike : {l : Level} {ts us vs : List Token} {t u : Tree} → Longest l ts t us → Longest l ts u vs → (t ≡ u) × (us ≡ vs)
alike h k = determined h.reads h.stops k.reads k.stops

module _ {upper lower : Level} {sign : Token} {join : Tree → Tree → Tree} (j : Joined upper lower sign join) (s : List ℕ) (i : ℕ) where
  no_rest : {ts us : List Token} {t : Tree} → Longest lower ts t (sign ∷ us) → ((u : Tree) (vs : List Token) → Longest upper us u vs → ⊥) → (u : Tree) (vs : List Token) → Longest upper ts u vs → ⊥
  no_rest {us = us} first no_upper u vs h =
      ⊎_elim
      (λ a. a.1 us (sym (alike first a.0).1))
      (λ b. no_upper _ _ (subst (λ (x : List Token). Longest upper x b.1 vs) (sym (same_rest (alike first b.3).1)) b.4))
      (j.split h)

  module _ (p : Result Formula AllocError) (m : ℕ) (first : Finds lower s i (Some p) m) where
    pub found_one : (n : ℕ) → n ≡ m → AfterSign s m sign false n → Finds upper s i (Some p) n
    found_one n same stop ts all =
        let (t, us, longest, rest, tree) = first ts all in
        (t, us, j.one longest (stop us rest), subst (λ (k : ℕ). Tokens s k us) (sym same) rest, tree)

    pub none_rest : (n k l : ℕ) → AfterSign s m sign true n → Finds upper s n None k → Finds upper s i None l
    none_rest n k l after no_upper ts all =
        let (t, us, longest, rest, tree) = first ts all in
        let (vs, e, next) = after us rest in
        no_rest (subst (λ (x : List Token). Longest lower ts t x) e longest) (no_upper vs next)

    pub found_more : (n k : ℕ) (q r : Result Formula AllocError) → AfterSign s m sign true n → Finds upper s n (Some q) k → ((t u : Tree) → IfOk p (λ f. shape f ≡ t) → IfOk q (λ f. shape f ≡ u) → IfOk r (λ f. shape f ≡ join t u)) → Finds upper s i (Some r) k
    found_more n k q r after second joined ts all =
        let (t, us, longest, rest, tree) = first ts all in
        let (vs, e, next) = after us rest in
        let (u, ws, others, left, other) = second vs next in
        (join t u, ws, j.more (subst (λ (x : List Token). Longest lower ts t x) e longest) others, left, joined t u tree other)

factor_reads : {ts us : List Token} {t : Tree} → Reads factor ts t us → ((w : Word) × (ts ≡ Name w ∷ us)) ⊎ ((vs : List Token) × (ts ≡ Open ∷ vs) × Reads formula vs t (Close ∷ us))
factor_reads (name {w = w}) = inl (w, refl)
factor_reads (bracketed r) = inr (_, refl, r)

-- a factor is a word, or begins with a bracket
no_factor : {ts : List Token} → ((w : Word) (us : List Token) → ts ≡ Name w ∷ us → ⊥) → ((vs : List Token) → ts ≡ Open ∷ vs → (t : Tree) (us : List Token) → Longest formula vs t (Close ∷ us) → ⊥) → (t : Tree) (us : List Token) → Longest factor ts t us → ⊥
no_factor no_name no_bracket t us h =
    ⊎_elim
    (λ a. no_name a.0 us a.1)
    (λ b. no_bracket b.0 b.1 t us (record { reads = b.2; stops = close_stops us }))
    (factor_reads h.reads)

-- nothing that a factor may begin with comes
pub none_comes : {s : List ℕ} {i : ℕ} {o : Result (Option Token) ℕ} {j : ℕ} → Comes s i o j → ((w : Word) → o ≡ Ok (Some (Name w)) → ⊥) → (o ≡ Ok (Some Open) → ⊥) → (k : ℕ) → Finds factor s i None k
none_comes c no_name no_open k ts all =
    no_factor (λ w us e. first_is_not c (Name w) (no_name w) ts all us e) (λ vs e t us h. first_is_not c Open no_open ts all vs e)

pub found_name : {s : List ℕ} {i : ℕ} {o : Result (Option Token) ℕ} {j : ℕ} (w : Word) → o ≡ Ok (Some (Name w)) → Comes s i o j → (ts : List Token) → Tokens s i ts → (t : Tree) × (us : List Token) × (Longest factor ts t us) × (Tokens s j us) × (word w ≡ t)
found_name w is c ts all =
    let (us, begins, rest) = first_is c (Name w) is ts all in
    (word w, us, record { reads = subst (λ (x : List Token). Reads factor x (word w) us) (sym begins) name; stops = tt }, rest, refl)

-- an opening bracket comes, and the others begin at j
module _ {s : List ℕ} {i j : ℕ} {o : Result (Option Token) ℕ} (c : Comes s i o j) (is : o ≡ Ok (Some Open)) where
  no_bracketed : (ts : List Token) → Tokens s i ts → ((vs : List Token) → Tokens s j vs → (t : Tree) (us : List Token) → Longest formula vs t (Close ∷ us) → ⊥) → (t : Tree) (us : List Token) → Longest factor ts t us → ⊥
  no_bracketed ts all none =
      let (us, begins, rest) = first_is c Open is ts all in
      no_factor
      (λ w vs f. cc)
      (λ vs f t ws h. let same : us ≡ vs = cc in none vs (subst (λ (x : List Token). Tokens s j x) same rest) t ws h)

  pub none_inside : (m k : ℕ) → Finds formula s j None m → Finds factor s i None k
  none_inside m k none ts all = no_bracketed ts all (λ vs rest t us. none vs rest t (Close ∷ us))

  module _ (p : Result Formula AllocError) (m : ℕ) (inside : Finds formula s j (Some p) m) where
    pub closed : (n : ℕ) (b : Bool) → AfterSign s m Close b n → Finds factor s i (then_some b p) n
    closed n false open_end = λ ts all.
        no_bracketed ts all (λ vs rest u us h. let (t, ws, inner, left, tree) = inside vs rest in open_end ws left us (alike inner h).1)
    closed n true closing = λ ts all.
        let (us, begins, rest) = first_is c Open is ts all in
        let (t, ws, inner, left, tree) = inside us rest in
        let (vs, closed, others) = closing ws left in (
          t,
          vs,
          record { reads = subst (λ (x : List Token). Reads factor x t vs) (sym begins) (bracketed (subst (λ (x : List Token). Reads formula us t x) closed inner.reads)); stops = tt },
          others,
          tree,
        )

nothing_stops : Stops formula []
nothing_stops = (λ vs e. cc, λ vs e. cc)

-- a formula's words, all of a text's, are the longest formula that they begin with
whole : {s : List ℕ} {ts : List Token} {t : Tree} → Tokens s 0 ts → Forms s t → Longest formula ts t []
whole {ts = ts} {t = t} all (us, same, reads) = record { reads = subst (λ (x : List Token). Reads formula x t []) (tokens_unique _ same all) reads; stops = nothing_stops }

module _ {s : List ℕ} {ts : List Token} (all : Tokens s 0 ts) (p : Result Formula AllocError) (j : ℕ) (read : Finds formula s 0 (Some p) j) (o : Result (Option Token) ℕ) (k : ℕ) (c : Comes s j o k) where
  pub left_over : (o ≡ Ok None → ⊥) → (t : Tree) → Forms s t → ⊥
  left_over more t forms =
      let (u, us, longest, left, tree) = read ts all in
      let none : us ≡ [] = (alike longest (whole all forms)).1 in
      more (none_left c (subst (λ (x : List Token). Tokens s j x) none left))

  pub taken : Admitted s → o ≡ Ok None → (t : Tree) × (Taken s t) × IfOk p (λ f. shape f ≡ t)
  taken admitted none =
      let (t, us, longest, left, tree) = read ts all in (
        t,
        record { admitted = admitted; forms = (ts, all, subst (λ (x : List Token). Reads formula ts t x) (after (subst (λ x. Comes s j x k) none c) left) longest.reads) },
        tree,
      )

pub single : (s : List ℕ) → Unambiguous s
single s t u (ts, all, reads) (us, same, others) =
    (determined reads nothing_stops (subst (λ (x : List Token). Reads formula x u []) (tokens_unique s same all) others) nothing_stops).0
