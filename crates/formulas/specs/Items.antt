-- What comes next in a formula text.
use Rattle.std.specs.Prelude.{◌≡◌, ℕ, ◌+◌, ◌<◌, ◌≤◌, Bool, true, false, List, ◌∷◌, length, Some, None, Option, option_to_list, Ok, Err, Result, ◌≢◌, slice_index}
use Rattle.formulas.specs.Words.{spelling, sign_byte, part, Run, Strange, Tokens}
use Rattle.formulas.specs.declared.token.Token.{Token}
use Rattle.formulas.specs.declared.token.Token.TheVariants.{Name, And, Or, Open, Close}
use Rattle.models.specs.declared.Word.{Word}

-- the bytes of a word, and the one byte of a sign
abbrev pub bytes_of : Token → List ℕ
bytes_of (Name w) = spelling w
bytes_of And = option_to_list (sign_byte And)
bytes_of Or = option_to_list (sign_byte Or)
bytes_of Open = option_to_list (sign_byte Open)
bytes_of Close = option_to_list (sign_byte Close)

-- from i on, past any spaces, comes a word or sign that ends just before j, or no more, or something unknown, told by its place
pub data Comes (s : List ℕ) : ℕ → Result (Option Token) ℕ → ℕ → Type 0 where
  end : {i : ℕ} → length s ≤ i → Comes s i (Ok None) i
  space : {i : ℕ} {r : Result (Option Token) ℕ} {j : ℕ} → i < length s → slice_index s i ≡ 32 → Comes s (i + 1) r j → Comes s i r j
  sign : {i : ℕ} (t : Token) → i < length s → sign_byte t ≡ Some (slice_index s i) → Comes s i (Ok (Some t)) (i + 1)
  word : {i : ℕ} (w : Word) (j : ℕ) → Run s i j → part s i j ≡ spelling w → Comes s i (Ok (Some (Name w))) j
  strange_byte : {i : ℕ} → i < length s → Strange (slice_index s i) → Comes s i (Err i) i
  strange_word : {i : ℕ} (j : ℕ) → Run s i j → ((w : Word) → part s i j ≢ spelling w) → Comes s i (Err i) i

-- the words ts do not begin with the sign t
abbrev pub NotFirst : Token → List Token → Type 0
NotFirst t ts = (us : List Token) → ts ≢ t ∷ us

-- whether the words from i on begin with the sign t; if so, the others begin at j
abbrev pub AfterSign : List ℕ → ℕ → Token → Bool → ℕ → Type 0
AfterSign s i t false j = (ts : List Token) → Tokens s i ts → NotFirst t ts
AfterSign s i t true j = (ts : List Token) → Tokens s i ts → (us : List Token) × (ts ≡ t ∷ us) × (Tokens s j us)
