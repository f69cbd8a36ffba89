-- The words of a formula text: what comes next in it, and that its words are the only ones.
use Rattle.std.proofs.Common.{◌≡◌, ◌==◌, ℕ, zero, suc, ◌+◌, ◌-◌, ◌<◌, ◌≤◌, max, true, false, cond, eqb, Bool, List, [], ◌∷◌, length, get_or, take, drop, Some, None, Option, Ok, Err, Result, is_some, sym, refl, ap, ◌∙◌, subst, ⊎_elim, arith, below_more, ◌≢◌, length-drop, get_or-drop, get_or-take, drop-cons}
use Rattle.std.specs.List.{prefix_len}
use Rattle.std.specs.Str.{bytes_eq}
use Rattle.std.proofs.lemmas.Bool.{false≢true, both_ways, cases_eq, cases_lt, eqb-true}
use Rattle.std.proofs.lemmas.List.{take_all}
use Rattle.std.proofs.lemmas.List.Sums.{prefix_len_passes, prefix_len_stops, prefix_len-le-length, prefix_len-drop_yes, prefix_len-drop_no}
use Rattle.formulas.specs.Items.{Comes, bytes_of, AfterSign}
use Rattle.formulas.specs.Items.Comes.{end, space, sign, word, strange_byte, strange_word}
use Rattle.formulas.specs.Words.{letter, spelling, sign_byte, part, Run, Fresh, Strange, Unknown, FirstUnknown, Tokens}
use Rattle.formulas.specs.Words.Tokens.{end as the_end, space as a_space, sign as a_sign, word as a_word}
use Rattle.formulas.specs.Words.Unknown.{byte as new_byte, word as new_word}
use Rattle.formulas.specs.declared.token.Token.{Token}
use Rattle.formulas.specs.declared.token.Token.TheVariants.{Name, And, Or, Open, Close}
use Rattle.models.specs.declared.Word.{Word}
use Rattle.models.specs.declared.Word.TheVariants.{True, ReadX, ReadY, WriteX, WriteY, FenceX, FenceY, SameAddr, DataDep, ControlDep}

-- what holds of each sign and its byte
by_sign : (P : ℕ → Token → Type 0) → P 38 And → P 124 Or → P 40 Open → P 41 Close → (b : ℕ) (t : Token) → sign_byte t ≡ Some b → P b t
by_sign P a o l r b (Name w) e = cc
by_sign P a o l r b And e = subst (λ x. P x And) (cc) a
by_sign P a o l r b Or e = subst (λ x. P x Or) (cc) o
by_sign P a o l r b Open e = subst (λ x. P x Open) (cc) l
by_sign P a o l r b Close e = subst (λ x. P x Close) (cc) r

-- the sign that a byte is
abbrev sign_of : ℕ → Token
sign_of b = cond (eqb b 38) And (cond (eqb b 124) Or (cond (eqb b 40) Open Close))

-- the byte of a sign is no letter, no space, and the byte of no other sign
signed : (b : ℕ) (t : Token) → sign_byte t ≡ Some b → (letter b ≡ false) × (b ≡ 32 → ⊥) × (sign_of b ≡ t)
signed = by_sign _ (refl, omega arith, refl) (refl, omega arith, refl) (refl, omega arith, refl) (refl, omega arith, refl)

-- the first of some words with a spelling
read : List Word → List ℕ → Word
read [] p = True
read (w ∷ ws) p = cond (bytes_eq p (spelling w)) w (read ws p)

abbrev words : List Word
words = True ∷ ReadX ∷ ReadY ∷ WriteX ∷ WriteY ∷ FenceX ∷ FenceY ∷ SameAddr ∷ DataDep ∷ ControlDep ∷ []

read_back : (w : Word) → read words (spelling w) ≡ w
unfolding read
read_back True = refl
read_back ReadX = refl
read_back ReadY = refl
read_back WriteX = refl
read_back WriteY = refl
read_back FenceX = refl
read_back FenceY = refl
read_back SameAddr = refl
read_back DataDep = refl
read_back ControlDep = refl

-- no two words are spelled alike
same_word : (v w : Word) → spelling v ≡ spelling w → v ≡ w
same_word v w e = sym (read_back v) ∙ ap (read words) e ∙ read_back w

-- a word has more than one letter
long : (w : Word) → 1 < length (spelling w)
long True = omega arith
long ReadX = omega arith
long ReadY = omega arith
long WriteX = omega arith
long WriteY = omega arith
long FenceX = omega arith
long FenceY = omega arith
long SameAddr = omega arith
long DataDep = omega arith
long ControlDep = omega arith

-- a word begins with a letter, a sign is another byte
by_letter : (t : Token) → letter (get_or (bytes_of t) 0 0) ≡ true → (w : Word) × (t ≡ Name w)
by_letter (Name w) e = (w, refl)
by_letter And e = absurd (both_ways _ refl e)
by_letter Or e = absurd (both_ways _ refl e)
by_letter Open e = absurd (both_ways _ refl e)
by_letter Close e = absurd (both_ways _ refl e)

by_byte : (b : ℕ) (t : Token) → b ∷ [] ≡ bytes_of t → sign_byte t ≡ Some b
by_byte b (Name w) e = absurd (omega (arith, ap length e, long w))
by_byte b And e = cc
by_byte b Or e = cc
by_byte b Open e = cc
by_byte b Close e = cc

byte_of : (b : ℕ) (t : Token) → sign_byte t ≡ Some b → b ∷ [] ≡ bytes_of t
byte_of = by_sign _ refl refl refl refl

-- what the words from a place on are, by what comes there and ends before j
abbrev pub After : List ℕ → Result (Option Token) ℕ → ℕ → List Token → Type 0
After s (Ok None) j ts = ts ≡ []
After s (Ok (Some t)) j ts = (us : List Token) × (ts ≡ t ∷ us) × Tokens s j us
After s (Err p) j ts = ⊥

-- nothing unknown begins before i, no run of letters goes on across i, and the words from i on are the last of the text's words
pub record Clear (s : List ℕ) (i : ℕ) : Type 0 where
  pub within : i ≤ length s
  pub starts : i < length s → letter (get_or s i 0) ≡ true → Fresh s i
  pub known : (q : ℕ) → q < i → Unknown s q → ⊥
  pub before : (ts : List Token) → Tokens s i ts → (us : List Token) × Tokens s 0 us

-- what is known of a text once all words before i are, by what comes there and ends before j
abbrev pub Cleared : List ℕ → Result (Option Token) ℕ → ℕ → Type 0
Cleared s (Ok None) j = ((p : ℕ) → Unknown s p → ⊥) × ((ts : List Token) × Tokens s 0 ts)
Cleared s (Ok (Some t)) j = Clear s j
Cleared s (Err p) j = FirstUnknown s p

module _ {s : List ℕ} where
  -- a run begins with a letter
  first_letter : {i j : ℕ} → Run s i j → letter (get_or s i 0) ≡ false → ⊥
  first_letter {i} r e = both_ways _ e (r.letters i (omega arith) r.some)

  not_shorter : {i j h k : ℕ} → Run s i j → Run s h k → h ≤ j → j < k → ⊥
  not_shorter {j = j} r q from short = both_ways _ (r.longest (omega arith)) (q.letters j from short)

  -- two runs that meet end at one place
  same_end : {i j h k : ℕ} → Run s i j → Run s h k → h ≤ j → i ≤ k → j ≡ k
  same_end r q up down = omega (arith, not_shorter r q up, not_shorter q r down)

  -- past the end there are no words
  pub tokens_end : {i : ℕ} {ts : List Token} → length s ≤ i → Tokens s i ts → ts ≡ []
  tokens_end off (the_end h) = refl
  tokens_end off (a_space h c r) = absurd (omega arith)
  tokens_end off (a_sign t h e r) = absurd (omega arith)
  tokens_end off (a_word w j q e r) = absurd (omega arith)

  after_space : {i : ℕ} {ts : List Token} → i < length s → get_or s i 0 ≡ 32 → Tokens s i ts → Tokens s (i + 1) ts
  after_space on b (the_end off) = absurd (omega arith)
  after_space on b (a_space h c r) = r
  after_space on b (a_sign t h e r) = absurd ((signed _ t e).1 b)
  after_space on b (a_word w j q e r) = absurd (first_letter q (ap letter b))

  -- the words from a place on begin with what comes there
  pub after : {i : ℕ} {o : Result (Option Token) ℕ} {j : ℕ} {ts : List Token} → Comes s i o j → Tokens s i ts → After s o j ts
  after (end off) t = tokens_end off t
  after (space on b c) t = after c (after_space on b t)
  after (sign t on e) (the_end off) = absurd (omega arith)
  after (sign t on e) (a_space h c r) = absurd ((signed _ t e).1 c)
  after (sign t on e) (a_sign {ts = ts} u h f r) = (ts, ap (λ v. v ∷ ts) (sym (signed _ u f).2 ∙ (signed _ t e).2), r)
  after (sign t on e) (a_word w j q f r) = absurd (first_letter q (signed _ t e).0)
  after (word w j q e) (the_end off) = absurd (omega arith)
  after (word w j q e) (a_space h c r) = absurd (first_letter q (ap letter c))
  after (word w j q e) (a_sign t h f r) = absurd (first_letter q (signed _ t f).0)
  after {i} (word w j q e) (a_word {ts = ts} v k p f r) =
      let same : k ≡ j = same_end p q (omega arith) (omega arith) in
      (ts, ap (λ u. Name u ∷ ts) (same_word v w (sym f ∙ ap (part s i) same ∙ e)), subst (λ n. Tokens s n ts) same r)
  after (strange_byte on b) (the_end off) = absurd (omega arith)
  after (strange_byte on b) (a_space h c r) = b.no_space c
  after (strange_byte on b) (a_sign t h e r) = b.no_sign t e
  after (strange_byte on b) (a_word w j q e r) = first_letter q b.no_letter
  after (strange_word j q n) (the_end off) = absurd (omega arith)
  after (strange_word j q n) (a_space h c r) = first_letter q (ap letter c)
  after (strange_word j q n) (a_sign t h e r) = first_letter q (signed _ t e).0
  after {i} (strange_word j q n) (a_word w k p e r) = n w (ap (part s i) (same_end q p (omega arith) (omega arith)) ∙ e)

  -- what comes is the first of the words, and no other is
  pub first_is : {i : ℕ} {o : Result (Option Token) ℕ} {j : ℕ} → Comes s i o j → (t : Token) → o ≡ Ok (Some t) → AfterSign s i t true j
  first_is {i} {j = j} c t is ts all = after (subst (λ o. Comes s i o j) is c) all

  pub first_is_not : {i : ℕ} {o : Result (Option Token) ℕ} {j : ℕ} → Comes s i o j → (t : Token) → (o ≡ Ok (Some t) → ⊥) → AfterSign s i t false j
  first_is_not {o = Ok None} c t other ts all us e = let none = after c all in cc
  first_is_not {o = Ok (Some u)} c t other ts all us e = let one = after c all in let is = one.1 in let same : u ≡ t = cc in other (ap (λ v. Ok (Some v)) same)
  first_is_not {o = Err p} c t other ts all us e = after c all

  -- where there are no more words, nothing comes
  pub none_left : {i : ℕ} {o : Result (Option Token) ℕ} {j : ℕ} → Comes s i o j → Tokens s i [] → o ≡ Ok None
  none_left {o = Ok None} c all = refl
  none_left {o = Ok (Some u)} c all = let e = (after c all).1 in cc
  none_left {o = Err p} c all = absurd (after c all)

  -- the words from a place on are what comes there and the words past it
  pub before : {i : ℕ} {t : Token} {j : ℕ} {ts : List Token} → Comes s i (Ok (Some t)) j → Tokens s j ts → Tokens s i (t ∷ ts)
  before (space on b c) r = a_space on b (before c r)
  before (sign t on e) r = a_sign t on e r
  before (word w j q e) r = a_word w j q e r

  pub no_more : {i j : ℕ} → Comes s i (Ok None) j → Tokens s i []
  no_more (end off) = the_end off
  no_more (space on b c) = a_space on b (no_more c)

  -- what is unknown stands within the text
  in_text : {p : ℕ} → Unknown s p → p < length s
  in_text (new_byte h b) = h
  in_text (new_word j f r n) = omega arith

  -- past a space or a sign
  past_byte : {i : ℕ} → Clear s i → i < length s → letter (get_or s i 0) ≡ false → (Strange (get_or s i 0) → ⊥) → ((ts : List Token) → Tokens s (i + 1) ts → (us : List Token) × Tokens s i us) → Clear s (i + 1)
  past_byte {i} c on plain not_strange back =
      record {
        within = omega arith;
        starts = λ h l k e. let same : i ≡ k = omega arith in subst (λ n. letter (get_or s n 0) ≡ false) same plain;
        known = below_more (λ q. Unknown s q → ⊥) i c.known nothing;
        before = λ ts t. c.before _ (back ts t).1;
      }
    where
      nothing : Unknown s i → ⊥
      nothing (new_byte h b) = not_strange b
      nothing (new_word j f r n) = first_letter r plain

  -- within a word that is known nothing unknown begins
  in_word : {i j : ℕ} (w : Word) → Run s i j → part s i j ≡ spelling w → (p : ℕ) → i ≤ p → p < j → Unknown s p → ⊥
  in_word w q e p from to (new_byte h b) = both_ways _ b.no_letter (q.letters p from to)
  in_word {i} {j} w q e p from to (new_word k f r n) =
      ⊎_elim
      (λ same. let ends : j ≡ k = same_end q r (omega arith) (omega arith) in n w (cc))
      (λ other. both_ways _ (f (p - 1) (omega arith)) (q.letters (p - 1) (omega arith) (omega arith)))
      (cases_eq i p)

  -- past a word that is known: the byte after it is no letter
  past_word : {i j : ℕ} (w : Word) → Clear s i → Run s i j → part s i j ≡ spelling w → Clear s j
  past_word {i} w c q e =
      record {
        within = q.within;
        starts = λ on l. absurd (both_ways _ (q.longest on) l);
        known = λ p h u. ⊎_elim (λ low. c.known p low u) (λ from. in_word w q e p from h u) (cases_lt p i);
        before = λ ts t. c.before _ (a_word w _ q e t);
      }

  -- the first that is unknown by its kind is the first unknown word or byte
  pub cleared : {i : ℕ} {o : Result (Option Token) ℕ} {j : ℕ} → Clear s i → Comes s i o j → Cleared s o j
  cleared c (end off) = (λ p u. c.known p (omega (arith, in_text u)) u, c.before [] (the_end off))
  cleared c (space on b rest) = cleared (past_byte c on (ap letter b) (λ x. x.no_space b) (λ ts t. (ts, a_space on b t))) rest
  cleared c (sign t on e) = past_byte c on (signed _ t e).0 (λ x. x.no_sign t e) (λ ts r. (t ∷ ts, a_sign t on e r))
  cleared c (word w j q e) = past_word w c q e
  cleared c (strange_byte on b) = record { here = new_byte on b; first = c.known }
  cleared {i} c (strange_word j q n) = record { here = new_word j (c.starts (omega arith) (q.letters i (omega arith) q.some)) q n; first = c.known }

  pub cleared_more : {i : ℕ} {o : Option Token} {j : ℕ} → Clear s i → Comes s i (Ok o) j → true ≡ is_some o → Clear s j
  cleared_more {o = None} c n e = absurd (false≢true (sym e))
  cleared_more {o = Some t} c n e = cleared c n

  pub cleared_all : {i : ℕ} {o : Option Token} {j : ℕ} → Clear s i → Comes s i (Ok o) j → false ≡ is_some o → Cleared s (Ok None) j
  cleared_all {o = None} c n e = cleared c n
  cleared_all {o = Some t} c n e = absurd (false≢true e)

abbrev pub blank : ℕ → Bool
blank b = b == 32

module _ (s : List ℕ) where
  -- n spaces are stepped over
  past_spaces : (n : ℕ) {i : ℕ} {r : Result (Option Token) ℕ} {j : ℕ} → ((k : ℕ) → k < n → get_or s (i + k) 0 ≡ 32) → i + n ≤ length s → Comes s (i + n) r j → Comes s i r j
  past_spaces zero {i} {r} {j} blank h c = subst (λ m. Comes s m r j) (omega arith) c
  past_spaces (suc n) {i} {r} {j} blank h c =
      space (omega arith) (subst (λ m. get_or s m 0 ≡ 32) (omega arith) (blank 0 (omega arith)))
      (past_spaces n (λ k below. subst (λ m. get_or s m 0 ≡ 32) (omega arith) (blank (k + 1) (omega arith))) (omega arith) (subst (λ m. Comes s m r j) (omega arith) c))

  -- what comes past the spaces that the text goes on with
  past : (i n : ℕ) {r : Result (Option Token) ℕ} {j : ℕ} → i ≤ length s → n ≡ prefix_len blank (drop i s) → Comes s (i + n) r j → Comes s i r j
  past i n within count c =
      let most = prefix_len-le-length blank (drop i s) in
      past_spaces n
      (λ k below. sym (get_or-drop i s k 0) ∙ eqb-true _ 32 (prefix_len_passes blank (drop i s) k 0 (omega arith)))
      (omega (arith, length-drop i s))
      c

  -- and no space stands there
  no_space : (i n : ℕ) → n ≡ prefix_len blank (drop i s) → i + n < length s → get_or s (i + n) 0 ≡ 32 → ⊥
  no_space i n count on e =
      let h : get_or (drop i s) (prefix_len blank (drop i s)) 0 ≡ 32 = get_or-drop i s (prefix_len blank (drop i s)) 0 ∙ ap (λ m. get_or s (i + m) 0) (sym count) ∙ e in
      both_ways _ (prefix_len_stops blank (drop i s) 0 (omega (arith, length-drop i s))) (ap blank h)

  module _ (i : ℕ) (on : i < length s) where
    -- the letters that the text goes on with are a run
    run : letter (get_or s i 0) ≡ true → Run s i (i + prefix_len letter (drop i s))
    run begins = record {
      some = omega (arith, prefix_len-drop_yes letter s i 0 on begins);
      within = omega (arith, prefix_len-le-length letter (drop i s), length-drop i s);
      letters = λ k up down. let h : get_or (drop i s) (k - i) 0 ≡ get_or s k 0 = get_or-drop i s (k - i) 0 ∙ ap (λ m. get_or s m 0) (omega arith) in sym (ap letter h) ∙ prefix_len_passes letter (drop i s) (k - i) 0 (omega arith);
      longest = λ off. sym (ap letter (get_or-drop i s (prefix_len letter (drop i s)) 0)) ∙ prefix_len_stops letter (drop i s) 0 (omega (arith, length-drop i s));
    }

    one : take 1 (drop i s) ≡ get_or s i 0 ∷ []
    one = rw (drop-cons s i 0) refl

    part_is : (m : ℕ) → part s i (i + m) ≡ take m (drop i s)
    part_is m = ap (λ k. take k (drop i s)) (omega arith)

    -- a piece of m bytes is the letters that the text goes on with, or one byte
    module _ (m : ℕ) (size : m ≡ max (prefix_len letter (drop i s)) 1) where
      run_of : letter (get_or s i 0) ≡ true → Run s i (i + m)
      run_of begins = let r = run begins in subst (λ k. Run s i (i + k)) (omega arith) r

      single : letter (get_or s i 0) ≡ false → m ≡ 1
      single other = omega (arith, prefix_len-drop_no letter s i 0 on other)

      known_at : (b : Bool) → letter (get_or s i 0) ≡ b → (t : Token) → take m (drop i s) ≡ bytes_of t → Comes s i (Ok (Some t)) (i + m)
      known_at true begins t e =
          let first : get_or (take m (drop i s)) 0 0 ≡ get_or s i 0 = get_or-take _ (drop i s) 0 0 (omega arith) ∙ get_or-drop i s 0 0 ∙ ap (λ k. get_or s k 0) (omega arith) in
          let (w, is) = by_letter t (ap (λ l. letter (get_or l 0 0)) (sym e) ∙ ap letter first ∙ begins) in
          subst (λ u. Comes s i (Ok (Some u)) (i + m)) (sym is) (word w _ (run_of begins) (part_is m ∙ e ∙ ap bytes_of is))
      known_at false other t e =
          let one_byte = single other in
          subst (λ k. Comes s i (Ok (Some t)) (i + k)) (sym one_byte) (sign t on (by_byte _ t (sym one ∙ ap (λ k. take k (drop i s)) (sym one_byte) ∙ e)))

      strange_at : (b : Bool) → letter (get_or s i 0) ≡ b → ((t : Token) → take m (drop i s) ≢ bytes_of t) → (get_or s i 0 ≡ 32 → ⊥) → Comes s i (Err i) i
      strange_at true begins none full = strange_word _ (run_of begins) (λ w e. none (Name w) (sym (part_is m) ∙ e))
      strange_at false other none full =
          strange_byte on (record { no_letter = other; no_space = full; no_sign = λ t e. none t (ap (λ k. take k (drop i s)) (single other) ∙ one ∙ byte_of _ t e) })

-- the rest of s from i on, as a range gives it
abbrev pub rest : List ℕ → ℕ → List ℕ
rest s i = take (length s - i) (drop i s)

pub rest_is : (s : List ℕ) (i : ℕ) → rest s i ≡ drop i s
rest_is s i = take_all _ (drop i s) (omega (arith, length-drop i s))

-- what comes from i on, where n spaces stand first, and then a piece of m bytes: the letters, or one byte
module _ (s : List ℕ) (i n : ℕ) (within : i ≤ length s) (spaces : n ≡ prefix_len blank (rest s i)) where
  spaces_is : n ≡ prefix_len blank (drop i s)
  spaces_is = spaces ∙ ap (prefix_len blank) (rest_is s i)

  pub nothing_comes : length s ≤ i + n → Comes s i (Ok None) (i + n)
  nothing_comes off = past s i n within spaces_is (end off)

  module _ (on : i + n < length s) (m : ℕ) (size : m ≡ max (prefix_len letter (rest s (i + n))) 1) where
    size_is : m ≡ max (prefix_len letter (drop (i + n) s)) 1
    size_is = size ∙ ap (λ l. max (prefix_len letter l) 1) (rest_is s (i + n))

    piece_is : take m (rest s (i + n)) ≡ take m (drop (i + n) s)
    piece_is = ap (λ l. take m l) (rest_is s (i + n))

    pub known_comes : (t : Token) → take m (rest s (i + n)) ≡ bytes_of t → Comes s i (Ok (Some t)) (i + n + m)
    known_comes t e = past s i n within spaces_is (known_at s (i + n) on m size_is (letter (get_or s (i + n) 0)) refl t (sym piece_is ∙ e))

    pub strange_comes : ((t : Token) → take m (rest s (i + n)) ≢ bytes_of t) → Comes s i (Err (i + n)) (i + n)
    strange_comes none =
        past s i n within spaces_is (strange_at s (i + n) on m size_is (letter (get_or s (i + n) 0)) refl (λ t e. none t (piece_is ∙ e)) (no_space s i n spaces_is on))

-- a text has one list of words
pub tokens_unique : (s : List ℕ) {i : ℕ} {ts us : List Token} → Tokens s i ts → Tokens s i us → ts ≡ us
tokens_unique s (the_end off) t = sym (tokens_end off t)
tokens_unique s (a_space on b r) t = tokens_unique s r (after_space on b t)
tokens_unique s (a_sign u on e r) t = let rest = after (sign u on e) t in ap (λ l. u ∷ l) (tokens_unique s r rest.2) ∙ sym rest.1
tokens_unique s (a_word w j q e r) t = let rest = after (word w j q e) t in ap (λ l. Name w ∷ l) (tokens_unique s r rest.2) ∙ sym rest.1
