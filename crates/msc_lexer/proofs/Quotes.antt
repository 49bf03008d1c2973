-- What a text between apostrophes holds: each doubled apostrophe halved.
use Rattle.std.proofs.Common.{◌≡◌, ◌≢◌, ℕ, ◌+◌, ◌-◌, ◌<◌, true, false, cond, eqb, List, [], ◌∷◌, ◌++◌, length, get_or, refl, sym, ap, ◌∙◌, append_assoc, inl, inr, arith}
use Rattle.std.proofs.lemmas.Bool.{cases_Bool, eqb-true, eq-eqb, ne_eqb}
use Rattle.std.specs.List.{slice_range}
use Rattle.std.proofs.lemmas.List.{length-append, take_at, get_or-append_right}
use Rattle.msc_lexer.specs.Pieces.{doubled, quoted}
use Rattle.msc_lexer.specs.Lexemes.{halved, unquoted}

-- ---- doubling

-- doubling goes through joining
pub doubled-append : (xs ys : List ℕ) → doubled (xs ++ ys) ≡ doubled xs ++ doubled ys
doubled-append [] ys = refl
doubled-append (x ∷ xs) ys =
    elim (eqb x 39) as (λ t. cond t (39 ∷ 39 ∷ doubled (xs ++ ys)) (x ∷ doubled (xs ++ ys)) ≡ cond t (39 ∷ 39 ∷ doubled xs) (x ∷ doubled xs) ++ doubled ys) [
      | true ↦ ap (λ (l : List ℕ). 39 ∷ 39 ∷ l) (doubled-append xs ys)
      | false ↦ ap (λ (l : List ℕ). x ∷ l) (doubled-append xs ys)
    ]

-- ---- what is quoted is what was there

-- a byte that is no apostrophe stays, where another byte follows
halved-plain : (b : ℕ) (bs : List ℕ) → eqb b 39 ≡ false → bs ≢ [] → halved (b ∷ bs) ≡ b ∷ halved bs
halved-plain b [] e some = absurd (some refl)
halved-plain b (c ∷ bs) e some = rw e refl

-- something stands before the last apostrophe, or that
ends_some : (bs : List ℕ) → bs ++ 39 ∷ [] ≢ []
ends_some [] e = cc
ends_some (b ∷ bs) e = cc

-- halving takes doubling back
halved-doubled : (body : List ℕ) → halved (doubled body ++ 39 ∷ []) ≡ body
halved-doubled [] = refl
halved-doubled (b ∷ bs) = elim (cases_Bool (eqb b 39)) [
  | inl e ↦
      let same : b ≡ 39 = eqb-true b 39 e in
      rw (e, same) (ap (λ (l : List ℕ). 39 ∷ l) (halved-doubled bs))
  | inr e ↦ rw e (halved-plain b (doubled bs ++ 39 ∷ []) e (ends_some (doubled bs)) ∙ ap (λ (l : List ℕ). b ∷ l) (halved-doubled bs))
]

-- what is quoted holds what was there
pub unquoted-quoted : (body : List ℕ) → unquoted (quoted body) ≡ body
unquoted-quoted body = halved-doubled body

-- ---- the loop that halves

-- What was read up to a place is `out`, doubled, and what follows is doubled too.
pub record IsHalvedTo (bytes : List ℕ) (at : ℕ) (out : List ℕ) : Type 0 where
  pub rest : List ℕ
  pub whole : bytes ≡ doubled out ++ doubled rest
  pub reached : at ≡ length (doubled out)

-- the first byte of what is doubled
first_doubled : (b : ℕ) (bs : List ℕ) → get_or (doubled (b ∷ bs)) 0 0 ≡ b
first_doubled b bs = elim (cases_Bool (eqb b 39)) [
  | inl e ↦ rw e (sym (eqb-true b 39 e))
  | inr e ↦ rw e refl
]

-- a number less itself
sub_self : (n : ℕ) → n - n ≡ 0
sub_self n = omega arith

-- an apostrophe takes two bytes
pub mark_step : (b step : ℕ) → b ≡ 39 → step ≡ 2 → step ≡ length (doubled (b ∷ []))
mark_step b step e two = rw (eq-eqb b 39 e) two

-- another byte takes one
pub plain_step : (b step : ℕ) → (b ≡ 39 → ⊥) → step ≡ 1 → step ≡ length (doubled (b ∷ []))
plain_step b step other one = rw (ne_eqb b 39 other) one

-- one more byte was read, and as many bytes as it takes doubled
pub halved_more : (bytes : List ℕ) (at step : ℕ) (out : List ℕ) → at < length bytes
    → IsHalvedTo bytes at out → step ≡ length (doubled (get_or bytes at 0 ∷ []))
    → IsHalvedTo bytes (at + step) (out ++ get_or bytes at 0 ∷ [])
halved_more bytes at step out lt h e = more h.rest h.whole
  where
    -- something is left, and it begins with the byte that was read
    more : (rest : List ℕ) → bytes ≡ doubled out ++ doubled rest
        → IsHalvedTo bytes (at + step) (out ++ get_or bytes at 0 ∷ [])
    more [] w =
        let n = ap length w in
        let m = h.reached in
        absurd (omega (arith, lt, n, m, length-append (doubled out) []))
    more (b ∷ bs) w =
        let first : get_or bytes at 0 ≡ b = rw w (get_or-append_right (doubled out) (doubled (b ∷ bs)) at at 0 (sym h.reached) (omega arith) ∙ ap (λ (n : ℕ). get_or (doubled (b ∷ bs)) n 0) (sub_self at) ∙ first_doubled b bs) in
        record {
          rest = bs;
          whole = w ∙ ap (λ (l : List ℕ). doubled out ++ l) (doubled-append (b ∷ []) bs) ∙ sym (append_assoc (doubled out) (doubled (b ∷ [])) (doubled bs)) ∙ ap (λ (l : List ℕ). l ++ doubled bs) (sym (doubled-append out (b ∷ []))) ∙ ap (λ (c : ℕ). doubled (out ++ c ∷ []) ++ doubled bs) (sym first);
          reached = let r = h.reached in rw (doubled-append out (get_or bytes at 0 ∷ [])) (omega (arith, e, r, length-append (doubled out) (doubled (get_or bytes at 0 ∷ []))));
        }

-- ---- the bytes of a token

-- what is between the apostrophes of a text
pub between : (bytes body : List ℕ) → bytes ≡ quoted body
    → slice_range bytes 1 (length bytes - 1) ≡ doubled body
between bytes body e =
    let n : length (quoted body) - 1 - 1 ≡ length (doubled body) = omega (arith, length-append (doubled body) (39 ∷ [])) in
    rw (e, n) (take_at (doubled body) (39 ∷ []) (length (doubled body)) refl)

-- what stands doubled between the apostrophes is what the text holds
pub held : (bytes body v : List ℕ) → bytes ≡ quoted body
    → doubled v ≡ slice_range bytes 1 (length bytes - 1) → v ≡ unquoted bytes
held bytes body v e h =
    let same : quoted v ≡ bytes = ap (λ (l : List ℕ). 39 ∷ (l ++ 39 ∷ [])) (h ∙ between bytes body e) ∙ sym e in
    sym (unquoted-quoted v) ∙ ap unquoted same
