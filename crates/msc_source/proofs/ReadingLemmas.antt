-- What calls of `read` give together.
use Rattle.msc_source.specs.declared.reading.TheConstants.{BYTE_LIMIT}
use Rattle.std.proofs.Common.{◌≡◌, ℕ, ◌≤◌, ◌<◌, List, [], ◌++◌, length, take, Option, Some, None, sym, ap, ◌∙◌, append_assoc, arith, inl, inr}
use Rattle.std.specs.Prelude.{IfSome}
use Rattle.std.specs.Io.KnownBytes.{Consumes}
use Rattle.std.proofs.lemmas.Bool.{cases_lt}
use Rattle.std.proofs.lemmas.List.{append-nil, take_at, take_all}
use Rattle.msc_source.specs.Inputs.{IsReadFrom}

-- what is taken twice is taken together
pub Consumes-append : (old mid new : Option (List ℕ)) (xs ys : List ℕ) → Consumes old mid xs → Consumes mid new ys → Consumes old new (xs ++ ys)
Consumes-append None mid new xs ys a b = tt
Consumes-append (Some o) None new xs ys a b = absurd a
Consumes-append (Some o) (Some m) None xs ys a b = absurd b
Consumes-append (Some o) (Some m) (Some n) xs ys a b = a ∙ ap (λ (t : List ℕ). xs ++ t) b ∙ sym (append_assoc xs ys n)

-- bytes that end at a limit, or with their source, are the source's front up to the limit
front_to : (limit : ℕ) (xs ys bytes : List ℕ) → xs ≡ bytes ++ ys → length bytes ≤ limit → (length bytes < limit → ys ≡ []) → bytes ≡ take limit xs
front_to limit xs ys bytes whole most end =
    elim (cases_lt (length bytes) limit) [
      | inl less ↦
          let all : xs ≡ bytes = whole ∙ ap (λ (t : List ℕ). bytes ++ t) (end less) ∙ append-nil bytes in
          sym all ∙ sym (take_all limit xs (let n = ap length all in omega (arith, n)))
      | inr full ↦
          let n : length bytes ≡ limit = omega (arith, full, most) in
          sym (take_at bytes ys limit n) ∙ ap (take limit) (sym whole)
    ]

-- what was read is the front of the known bytes, as far as the limit
pub read_front : (old new : Option (List ℕ)) (bytes : List ℕ) → IsReadFrom old new bytes → IfSome old (λ xs. bytes ≡ take BYTE_LIMIT xs)
read_front None new bytes h = tt
read_front (Some xs) None bytes h = absurd h.taken
read_front (Some xs) (Some ys) bytes h = front_to BYTE_LIMIT xs ys bytes h.taken h.most h.whole
