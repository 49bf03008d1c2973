-- Where a note, a text and a run end.
use Rattle.std.proofs.Common.{◌≡◌, ◌≢◌, ℕ, ◌+◌, ◌-◌, ◌<◌, ◌≤◌, true, ◌==◌, List, [], ◌∷◌, ◌++◌, length, get_or, take, drop, refl, sym, ap, ◌∙◌, append_assoc, one-add, inl, inr, arith}
use Rattle.std.specs.List.{prefix_len}
use Rattle.std.proofs.lemmas.Bool.{cases_lt, eqb-true, ne_eqb}
use Rattle.std.proofs.lemmas.List.{take-append-drop, get_or-take, get_or_past, get_or-drop, length-take, length-drop, take_all, take_more}
use Rattle.memchr.specs.Find.{Nowhere, Passes, is_byte}
use Rattle.msc_lexer.specs.Bytes.{begins, is_run_byte}
use Rattle.msc_lexer.specs.Pieces.{NeverCloses, doubled, IsRun}
use Rattle.msc_lexer.specs.Scanning.{ClosesAt, IsDoubled}
use Rattle.msc_lexer.proofs.Quotes.{doubled-append}

-- ---- notes

-- a byte other than 0 in the front of a list is in the list
read_take : (n : ℕ) (body : List ℕ) (i v : ℕ) → get_or (take n body) i 0 ≡ v → 0 < v
    → (i < n) × (get_or body i 0 ≡ v)
read_take n body i v e pos =
    elim (cases_lt i n) [
      | inl lt ↦ (lt, sym (get_or-take n body i 0 lt) ∙ e)
      | inr le ↦ absurd (omega (arith, sym e ∙ get_or_past (take n body) i 0 (omega (arith, length-take n body)), pos))
    ]

-- no `*/` ends before this place
abbrev pub StaysOpen : List ℕ → ℕ → Type 0
StaysOpen body at =
    (k : ℕ) → k + 1 < at → get_or body k 0 ≡ 42 → get_or body (k + 1) 0 ≡ 47 → ⊥

-- the first `*/` after a search that found none before it
pub closes_at : (body : List ℕ) (at : ℕ) → 1 ≤ at → at < length body → StaysOpen body at
    → get_or body (at - 1) 0 ≡ 42 → get_or body at 0 ≡ 47 → ClosesAt body (at - 1)
closes_at body at low high stays star slash =
    let back : at - 1 + 1 ≡ at = omega arith in
    record {
      inside = omega arith;
      star = star;
      slash = rw back slash;
      first = λ k a b.
          let p = read_take (at - 1) body k 42 a (omega arith) in
          let q = read_take (at - 1) body (k + 1) 47 b (omega arith) in
          stays k (omega (arith, q.0)) p.1 q.1;
    }

-- what is left of a list from a place on, as a slice of it is told
abbrev pub rest_from : List ℕ → ℕ → List ℕ
rest_from body at = take (length body - at) (drop at body)

-- it is the list without its front
rest_is : (body : List ℕ) (at : ℕ) → rest_from body at ≡ drop at body
rest_is body at = take_all (length body - at) (drop at body) (omega (arith, length-drop at body))

-- how many bytes are left
pub rest_long : (body : List ℕ) (at : ℕ) → at ≤ length body
    → at + length (rest_from body at) ≡ length body
rest_long body at low = omega (arith, ap (λ l. length l) (rest_is body at), length-drop at body)

-- a byte of the rest is one of the whole
rest_byte : (body : List ℕ) (at k : ℕ) → get_or (rest_from body at) k 0 ≡ get_or body (at + k) 0
rest_byte body at k = ap (λ l. get_or l k 0) (rest_is body at) ∙ get_or-drop at body k 0

-- what passes the test for a slash there is a slash of the whole
pub slash_there : (body : List ℕ) (at k : ℕ) → Passes (is_byte 47) (rest_from body at) k
    → get_or body (at + k) 0 ≡ 47
slash_there body at k passes = sym (rest_byte body at k) ∙ eqb-true _ _ passes

-- and a slash of the whole passes it
slash_left : (body : List ℕ) (at k : ℕ) → at ≤ k → get_or body k 0 ≡ 47
    → Passes (is_byte 47) (rest_from body at) (k - at)
slash_left body at k low is =
    let whole : at + (k - at) ≡ k = omega arith in
    ap (λ v. v == 47) (rest_byte body at (k - at) ∙ ap (λ j. get_or body j 0) whole ∙ is)

-- none ends before the first slash from a place on
pub open_to_slash : (body : List ℕ) (at n : ℕ) → StaysOpen body at
    → Nowhere (Passes (is_byte 47) (rest_from body at)) 0 n → StaysOpen body (at + n)
open_to_slash body at n stays none k lt star slash =
    elim (cases_lt (k + 1) at) [
      | inl before ↦ stays k before star slash
      | inr from ↦ none (k + 1 - at) (omega arith) (omega arith) (slash_left body at (k + 1) from slash)
    ]

-- nor at a slash that no star stands before
pub open_past_slash : (body : List ℕ) (at : ℕ) → StaysOpen body at
    → (0 < at → get_or body (at - 1) 0 ≡ 42 → ⊥) → StaysOpen body (at + 1)
open_past_slash body at stays other k lt star slash =
    elim (cases_lt (k + 1) at) [
      | inl before ↦ stays k before star slash
      | inr from ↦
          let same : k ≡ at - 1 = omega arith in
          other (omega arith) (ap (λ j. get_or body j 0) (sym same) ∙ star)
    ]

-- a search that found none up to the end
pub never_closes : (body : List ℕ) (at : ℕ) → length body ≤ at → StaysOpen body at
    → NeverCloses body
never_closes body at high stays k a b =
    elim (cases_lt (k + 1) (length body)) [
      | inl lt ↦ stays k (omega arith) a b
      | inr le ↦ absurd (omega (arith, sym b ∙ get_or_past body (k + 1) 0 le))
    ]

-- ---- texts

-- a byte that is no apostrophe goes on what is doubled
pub doubled-plain : (bytes : List ℕ) (at : ℕ) → at < length bytes → (get_or bytes at 0 ≡ 39 → ⊥)
    → IsDoubled (take at bytes) → IsDoubled (take (at + 1) bytes)
doubled-plain bytes at lt other d =
    let b : ℕ = get_or bytes at 0 in
    let one : doubled (b ∷ []) ≡ b ∷ [] = rw (ne_eqb (get_or bytes at 0) 39 other) refl in
    (d.0 ++ b ∷ [], take_more bytes at 0 lt ∙ ap (λ (l : List ℕ). l ++ b ∷ []) d.1 ∙ ap (λ (l : List ℕ). doubled d.0 ++ l) (sym one) ∙ sym (doubled-append d.0 (b ∷ [])))

-- two apostrophes go on what is doubled
pub doubled-twice : (bytes : List ℕ) (at : ℕ) → at + 1 < length bytes → get_or bytes at 0 ≡ 39
    → get_or bytes (at + 1) 0 ≡ 39 → IsDoubled (take at bytes) → IsDoubled (take (at + 2) bytes)
doubled-twice bytes at lt first second d =
    let two : at + 1 + 1 ≡ at + 2 = omega arith in
    let e : take (at + 2) bytes ≡ (doubled d.0 ++ 39 ∷ []) ++ 39 ∷ [] = rw (← two) (take_more bytes (at + 1) 0 lt ∙ rw (take_more bytes at 0 (omega arith), first, second, d.1) refl) in
    (d.0 ++ 39 ∷ [], e ∙ append_assoc (doubled d.0) (39 ∷ []) (39 ∷ []) ∙ sym (doubled-append d.0 (39 ∷ [])))

-- ---- runs

-- a list with a first element is not empty
nonempty : (b : ℕ) (bs : List ℕ) → b ∷ bs ≢ []
nonempty b bs e = cc

-- the run that the prefix of run bytes is
pub run_at : (text : List ℕ) → begins is_run_byte text ≡ true
    → IsRun (take (prefix_len is_run_byte text) text) (drop (prefix_len is_run_byte text) text)
run_at [] h = absurd cc
run_at (b ∷ bs) h = record {
  some = rw (h, one-add) (nonempty b (take (prefix_len is_run_byte bs) bs));
  longest = rw (take-append-drop (prefix_len is_run_byte (b ∷ bs)) (b ∷ bs)) refl;
}
