-- Rows of bits: sets of numbers, with a word for each 64.
use Rattle.std.specs.Prelude.{◌≡◌, ℕ, ◌+◌, ◌^◌, ◌*◌, ◌/◌, ◌%◌, ◌<◌, Bool, false, not, ◌&&◌, ◌||◌, List, length, get_or, nat_eq, IsTrue}
use Rattle.std.specs.Int.{bit_at, div_ceil}

-- bit i of a word
unfoldable pub bit_of : ℕ → ℕ → Bool
bit_of word i = nat_eq (bit_at word i) 1

-- how many words have a bit for each number below n
unfoldable pub word_count : ℕ → ℕ
word_count n = div_ceil n 64

-- the row has number y: bit y % 64 of word y / 64
unfoldable pub has : List ℕ → ℕ → Bool
has row y = bit_of (get_or row (y / 64) 0) (y % 64)

-- the numbers of word k of a row, and the number past them, have 32 bits
abbrev pub HasNumbersOf32Bits : ℕ → Type 0
HasNumbersOf32Bits k = 64 * k + 64 < 2 ^ 32

-- the word that has every bit
abbrev pub all_ones : ℕ
all_ones = 18446744073709551615

-- the row has lost x, and nothing else
abbrev pub IsWithout : List ℕ → List ℕ → ℕ → Type 0
IsWithout old new x = (y : ℕ) → has new y ≡ (has old y && not (nat_eq y x))

-- the row has x where that is wanted, and what it had
abbrev pub IsWith : List ℕ → List ℕ → Bool → ℕ → Type 0
IsWith old new wanted x = (y : ℕ) → has new y ≡ (has old y || (wanted && nat_eq y x))

-- two rows have no number in common in their words below k
abbrev pub AreApartTo : List ℕ → List ℕ → ℕ → Type 0
AreApartTo one other k = (y : ℕ) → y < 64 * k → IsTrue (has one y) → has other y ≡ false

-- two rows have nothing in common in their words below k, and something in word k, where there is one
pub record IsFirstCommon (one other : List ℕ) (k : ℕ) : Type 0 where
  pub apart : AreApartTo one other k
  pub some : k < length one → (y : ℕ) × (y / 64 ≡ k) × IsTrue (has one y) × IsTrue (has other y)
