-- Laws of what is read and shown.
use Rattle.std.specs.Prelude.{◌≡◌, ℕ, ◌+◌, ◌<◌, ◌≤◌, true, false, List, [], ◌∷◌, ◌++◌, All, length, take, slice_index, encode_utf8}
use Rattle.std.specs.Char.{IsScalar}
use Rattle.msc_spoken.specs.declared.reading.Notation.TheVariants.{Plain}
use Rattle.msc_spoken.specs.Reading.{characters_of}
use Rattle.msc_spoken.specs.Showing.{is_shown, shown_text}
use Rattle.msc_spoken.specs.Speaking.{is_blank, spoken_text, unquoted}
use Rattle.msc_spoken.specs.Cutting.{columns_of, cut_text, fitting}

-- no character begins here: the bytes do not begin with the UTF-8 of one
abbrev pub BeginsNone : List ℕ → Type 0
BeginsNone bytes = (c : ℕ) (rest : List ℕ) → IsScalar c → ¬ (bytes ≡ encode_utf8 c ++ rest)

-- Bytes read as characters: the UTF-8 of a character as that character, and each byte that begins none
-- as `?`.
pub data ReadAs : List ℕ → List ℕ → Type 0 where
  nothing : ReadAs [] []
  character : (c : ℕ) (bytes cs : List ℕ) → IsScalar c → ReadAs bytes cs → ReadAs (encode_utf8 c ++ bytes) (c ∷ cs)
  stray : (b : ℕ) (bytes cs : List ℕ) → BeginsNone (b ∷ bytes) → ReadAs bytes cs → ReadAs (b ∷ bytes) (63 ∷ cs)

-- The characters of a text are those that its bytes read as.
abbrev pub ReadsUtf8 : Type 0
ReadsUtf8 = (bytes : List ℕ) → ReadAs bytes (characters_of Plain bytes)

-- each of the characters is one that is shown
abbrev pub AreShown : List ℕ → Type 0
AreShown cs = All (λ c. is_shown c ≡ true) cs

-- Only such characters are shown of a text, and of a name or label; also if these are cut.
pub record OnlyShownCharacters : Type 0 where
  pub shown : (bytes : List ℕ) → AreShown (shown_text bytes)
  pub spoken : (bytes : List ℕ) → AreShown (spoken_text bytes)
  pub unquoted : (bytes : List ℕ) → AreShown (unquoted (spoken_text bytes))
  pub cut : (cs : List ℕ) → AreShown cs → AreShown (cut_text cs)

-- So many characters are the longest front that fits into so many columns.
pub record IsLongestFront (room : ℕ) (cs : List ℕ) (n : ℕ) : Type 0 where
  pub within : n ≤ length cs
  pub fits : columns_of (take n cs) ≤ room
  pub longest : (m : ℕ) → m ≤ length cs → columns_of (take m cs) ≤ room → m ≤ n

-- A text is cut after the longest front that fits, and then takes at most 43 columns.
pub record CutsToFit : Type 0 where
  pub front : (room : ℕ) (cs : List ℕ) → IsLongestFront room cs (fitting room cs)
  pub columns : (cs : List ℕ) → columns_of (cut_text cs) ≤ 43

-- no blank is at the beginning or at the end, and no two are next to each other
pub record HasSingleBlanks (cs : List ℕ) : Type 0 where
  pub first : is_blank (slice_index cs 0) ≡ false
  pub others : (i : ℕ) → is_blank (slice_index cs i) ≡ true → (i + 1 < length cs) × (is_blank (slice_index cs (i + 1)) ≡ false)

-- a spoken name or label has such blanks only
abbrev pub SpokenHasSingleBlanks : Type 0
SpokenHasSingleBlanks = (bytes : List ℕ) → HasSingleBlanks (spoken_text bytes)
