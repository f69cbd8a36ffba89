-- A formula text as words and signs: which stand in it, and which of its bytes are unknown.
use Rattle.std.specs.Prelude.{◌≡◌, ℕ, ◌+◌, ◌<◌, ◌≤◌, Bool, true, false, ◌||◌, List, [], ◌∷◌, length, take, Some, None, codes, count_by, Option, ◌==◌, ◌≢◌, nat_eq, slice_index, slice_range}
use Rattle.std.specs.Char.{is_ascii_alphabetic}
use Rattle.formulas.specs.declared.token.Token.{Token}
use Rattle.formulas.specs.declared.token.Token.TheVariants.{Name, And, Or, Open, Close}
use Rattle.models.specs.declared.Word.{Word}
use Rattle.models.specs.declared.Word.TheVariants.{True, ReadX, ReadY, WriteX, WriteY, FenceX, FenceY, SameAddr, DataDep, ControlDep}

-- what words are made of: A to Z, a to z, and dots
abbrev pub letter : ℕ → Bool
letter b = is_ascii_alphabetic b || b == 46

abbrev pub spelling : Word → List ℕ
spelling True = codes "true"
spelling ReadX = codes "Read.x"
spelling ReadY = codes "Read.y"
spelling WriteX = codes "Write.x"
spelling WriteY = codes "Write.y"
spelling FenceX = codes "Fence.x"
spelling FenceY = codes "Fence.y"
spelling SameAddr = codes "SameAddr"
spelling DataDep = codes "DataDep"
spelling ControlDep = codes "ControlDep"

-- the byte of a sign; a word is none
abbrev pub sign_byte : Token → Option ℕ
sign_byte (Name w) = None
sign_byte And = Some 38
sign_byte Or = Some 124
sign_byte Open = Some 40
sign_byte Close = Some 41

-- the bytes of s from i up to j, which is not among them
abbrev pub part : List ℕ → ℕ → ℕ → List ℕ
part s i j = slice_range s i j

-- from i on, the letters of s go on just up to j
pub record Run (s : List ℕ) (i j : ℕ) : Type 0 where
  pub some : i < j
  pub within : j ≤ length s
  pub letters : (k : ℕ) → i ≤ k → k < j → letter (slice_index s k) ≡ true
  pub longest : j < length s → letter (slice_index s j) ≡ false

-- no letter stands just before i
abbrev pub Fresh : List ℕ → ℕ → Type 0
Fresh s i = (k : ℕ) → k + 1 ≡ i → letter (slice_index s k) ≡ false

-- a byte that is no letter, no sign and no space
pub record Strange (b : ℕ) : Type 0 where
  pub no_letter : letter b ≡ false
  pub no_space : b ≡ 32 → ⊥
  pub no_sign : (t : Token) → sign_byte t ≢ Some b

-- an unknown byte stands at p, or an unknown word begins there; a word is a longest run of letters
pub data Unknown (s : List ℕ) (p : ℕ) : Type 0 where
  byte : p < length s → Strange (slice_index s p) → Unknown s p
  word : (j : ℕ) → Fresh s p → Run s p j → ((w : Word) → part s p j ≢ spelling w) → Unknown s p

pub record FirstUnknown (s : List ℕ) (p : ℕ) : Type 0 where
  pub here : Unknown s p
  pub first : (q : ℕ) → q < p → Unknown s q → ⊥

-- the words and signs of s from i on, in their order; spaces only separate
pub data Tokens (s : List ℕ) : ℕ → List Token → Type 0 where
  end : {i : ℕ} → length s ≤ i → Tokens s i []
  space : {i : ℕ} {ts : List Token} → i < length s → slice_index s i ≡ 32 → Tokens s (i + 1) ts → Tokens s i ts
  sign : {i : ℕ} {ts : List Token} (t : Token) → i < length s → sign_byte t ≡ Some (slice_index s i) → Tokens s (i + 1) ts → Tokens s i (t ∷ ts)
  word : {i : ℕ} {ts : List Token} (w : Word) (j : ℕ) → Run s i j → part s i j ≡ spelling w → Tokens s j ts → Tokens s i (Name w ∷ ts)

-- some beginning of s has over 8 more opening than closing brackets
abbrev pub TooDeep : List ℕ → Type 0
TooDeep s = (n : ℕ) × (n ≤ length s) × (count_by (nat_eq 41) (take n s) + 8 < count_by (nat_eq 40) (take n s))
