-- The words of a command line, by their number and by the first of them.
use Rattle.std.proofs.Common.{◌≡◌, ℕ, suc, ◌-◌, ◌<◌, List, [], ◌∷◌, length, get_or, take, drop, codes, sym, refl, ap, ◌∙◌, arith, take_all, Bor, rules}
use lib.ListN.{length-map, get_or-map}
use Rattle.litmus.specs.Requests.{texts, Rows, Asks, Requests}
use Rattle.litmus.specs.declared.request.Choice.{Choice}
use Rattle.litmus.specs.declared.request.Choice.TheVariants.{Name, Formula, Table, Either, Both}
use Rattle.litmus.specs.declared.request.Request.{Request}
use Rattle.litmus.specs.declared.request.Request.TheVariants.{Help, Models, Examples, Keeps}

-- what stands past the end of the words
abbrev pub past : Bor (List ℕ)
past = record { ref_ptr = (0, 0); now = [] }

pub one_word : (ws : List (Bor (List ℕ))) → length ws ≡ 1 → texts ws ≡ (get_or ws 0 past).now ∷ []
one_word [] h = absurd (omega arith)
one_word (a ∷ []) h = refl
one_word (a ∷ b ∷ ws) h = absurd (omega arith)

pub two_words : (ws : List (Bor (List ℕ))) → length ws ≡ 2 → texts ws ≡ (get_or ws 0 past).now ∷ (get_or ws 1 past).now ∷ []
two_words [] h = absurd (omega arith)
two_words (a ∷ []) h = absurd (omega arith)
two_words (a ∷ b ∷ []) h = refl
two_words (a ∷ b ∷ c ∷ ws) h = absurd (omega arith)

pub three_words : (ws : List (Bor (List ℕ))) → length ws ≡ 3 → texts ws ≡ (get_or ws 0 past).now ∷ (get_or ws 1 past).now ∷ (get_or ws 2 past).now ∷ []
three_words [] h = absurd (omega arith)
three_words (a ∷ []) h = absurd (omega arith)
three_words (a ∷ b ∷ []) h = absurd (omega arith)
three_words (a ∷ b ∷ c ∷ []) h = refl
three_words (a ∷ b ∷ c ∷ d ∷ ws) h = absurd (omega arith)

-- words as a list, by how many they are
pub ruleset counted_words = (one_word, two_words, three_words)

-- the words after the first
abbrev pub after : List (Bor (List ℕ)) → List (Bor (List ℕ))
after ws = take (length ws - 1) (drop 1 ws)

more_words : (ws : List (Bor (List ℕ))) → 0 < length ws → texts ws ≡ (get_or ws 0 past).now ∷ texts (after ws)
more_words [] h = absurd (omega arith)
more_words (a ∷ ws) h = ap (λ l. a.now ∷ texts l) (sym (take_all (suc (length ws) - 1) ws (omega arith)))

-- words of which the first is known
pub headed : (ws : List (Bor (List ℕ))) (w : List ℕ) → 0 < length ws → (get_or ws 0 past).now ≡ w → texts ws ≡ w ∷ texts (after ws)
headed ws w some is = more_words ws some ∙ ap (λ v. v ∷ texts (after ws)) is

-- of two words and more, some come after the first
pub some_after : (ws : List (Bor (List ℕ))) → 1 < length ws → length (texts (after ws)) ≡ 0 → ⊥
some_after ws two none = omega (arith, length-map ws (λ x. x.now), ap length (more_words ws (omega arith)))

-- where `table` comes first of several words, only a table can be asked for
pub no_table : (rest : List (List ℕ)) → (length rest ≡ 0 → ⊥) → ((rows : List (List ℕ)) → Rows rest rows → ⊥) → (c : Choice) → Asks (codes "table" ∷ rest) c → ⊥
no_table rest some h (Name n) e = some (omega (arith, ap length e))
no_table rest some h (Formula t) e = search rules
no_table rest some h (Table rows) e = search rules
no_table rest some h (Either a b) e = search rules
no_table rest some h (Both a b) e = search rules

-- where `keeps` comes first, only what a model keeps can be asked for
pub no_choice : (rest : List (List ℕ)) → ((c : Choice) → Asks rest c → ⊥) → (q : Request) → Requests (codes "keeps" ∷ rest) q → ⊥
no_choice rest h Help e = search rules
no_choice rest h Models e = search rules
no_choice rest h Examples e = search rules
no_choice rest h (Keeps c) e = search rules

module _ (ws : List (Bor (List ℕ))) where
  -- the number of the words, and the first of them, where they are known
  count : (us : List (List ℕ)) → texts ws ≡ us → length ws ≡ length us
  count us e = sym (length-map ws (λ x. x.now)) ∙ ap length e

  first : (us : List (List ℕ)) → texts ws ≡ us → (get_or ws 0 past).now ≡ get_or us 0 []
  first us e = sym (get_or-map (λ x. x.now) ws 0 past) ∙ ap (λ l. get_or l 0 []) e

  pub none_asked : (0 < length ws → (get_or ws 0 past).now ≡ codes "table" → ⊥) → (length ws ≡ 1 → ⊥) → (length ws ≡ 2 → (get_or ws 0 past).now ≡ codes "formula" → ⊥) → (length ws ≡ 3 → ⊥) → (c : Choice) → Asks (texts ws) c → ⊥
  none_asked t n f p (Name a) e = n (count _ e)
  none_asked t n f p (Formula a) e = f (count _ e) (first _ e)
  none_asked t n f p (Table rows) e = t (omega (arith, count _ e.1)) (first _ e.1)
  none_asked t n f p (Either a b) e = p (count _ e)
  none_asked t n f p (Both a b) e = p (count _ e)

  pub none_requested : (0 < length ws → (get_or ws 0 past).now ≡ codes "keeps" → ⊥) → (length ws ≡ 1 → (get_or ws 0 past).now ≡ codes "help" → ⊥) → (length ws ≡ 1 → (get_or ws 0 past).now ≡ codes "models" → ⊥) → (length ws ≡ 1 → (get_or ws 0 past).now ≡ codes "examples" → ⊥) → (q : Request) → Requests (texts ws) q → ⊥
  none_requested k h m x Help e = h (count _ e) (first _ e)
  none_requested k h m x Models e = m (count _ e) (first _ e)
  none_requested k h m x Examples e = x (count _ e) (first _ e)
  none_requested k h m x (Keeps c) e = k (omega (arith, count _ e.1)) (first _ e.1)
