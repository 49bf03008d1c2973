-- The shape of a piece is told by its first byte.
use Rattle.std.proofs.Common.{◌≡◌, ◌≢◌, ◌⊎◌, ℕ, ◌+◌, true, false, cond, ◌||◌, eqb, List, [], ◌∷◌, ◌++◌, take, Option, Some, None, refl, sym, ap, ◌∙◌, inl, inr}
use Rattle.std.specs.Char.{is_ascii_alphanumeric}
use Rattle.std.specs.List.{take_while}
use Rattle.std.specs.Option.{is_some}
use Rattle.std.proofs.lemmas.Bool.{or_cases, eqb-true, true≢false, cases_Bool}
use Rattle.msc_lexer.specs.declared.token.Kind.{Kind}
use Rattle.msc_lexer.specs.Bytes.{is_white, is_run_byte}
use Rattle.msc_lexer.specs.Pieces.{Piece, Blank, Note, Run, Quoted, Mark, mark_of, IsRun, spelled, Fits}

-- the shape that a first byte tells: 1 white space, 2 a run, 3 a text, 4 a note or a lone `/`, 5 another
unfoldable pub class_of : ℕ → ℕ
class_of b = cond (is_white b) 1 (cond (is_run_byte b) 2 (cond (eqb b 39) 3 (cond (eqb b 47) 4 5)))

-- that of the first byte of a text
unfoldable pub class_at : List ℕ → ℕ
unfolding class_of
class_at [] = 0
class_at (b ∷ bs) = class_of b

-- the shape of a piece, by the same numbers
unfoldable pub shape_of : Piece → ℕ
shape_of (Blank b) = 1
shape_of (Run bytes) = 2
shape_of (Quoted body) = 3
shape_of (Note body) = 4
shape_of (Mark b) = 5

-- the bytes of white space
pub white_cases : (b : ℕ) → is_white b ≡ true → (b ≡ 32) ⊎ ((b ≡ 9) ⊎ ((b ≡ 13) ⊎ (b ≡ 10)))
white_cases b h =
    elim (or_cases (eqb b 32 || eqb b 9 || eqb b 13) (eqb b 10) h) [
      | inl x ↦ elim (or_cases (eqb b 32 || eqb b 9) (eqb b 13) x) [
        | inl y ↦ elim (or_cases (eqb b 32) (eqb b 9) y) [ inl z ↦ inl (eqb-true b 32 z) | inr z ↦ inr (inl (eqb-true b 9 z)) ]
        | inr y ↦ inr (inr (inl (eqb-true b 13 y)))
      ]
      | inr x ↦ inr (inr (inr (eqb-true b 10 x)))
    ]

-- white space is no run byte
pub white_is_no_run : (b : ℕ) → is_white b ≡ true → is_run_byte b ≡ false
white_is_no_run b h =
    elim (white_cases b h) [
      | inl e ↦ rw e refl
      | inr x ↦ elim x [ inl e ↦ rw e refl | inr y ↦ elim y [ inl e ↦ rw e refl | inr e ↦ rw e refl ] ]
    ]

-- a run byte is no white space
pub run_is_no_white : (b : ℕ) → is_run_byte b ≡ true → is_white b ≡ false
run_is_no_white b h =
    elim (cases_Bool (is_white b)) [
      | inl e ↦ absurd (true≢false (sym h ∙ white_is_no_run b e))
      | inr e ↦ e
    ]

-- the bytes of marks
pub IsMark : ℕ → Type 0
IsMark b = (b ≡ 59) ⊎ ((b ≡ 44) ⊎ ((b ≡ 58) ⊎ ((b ≡ 40) ⊎ (b ≡ 41))))

-- a chain of tests for marks, one test at a time
pub if_mark : (b n : ℕ) (k : Kind) (other : Option Kind) (P : Type 0) → ((b ≡ n) → P)
    → (other ≢ None → P) → cond (eqb b n) (Some k) other ≢ None → P
if_mark b n k other P same differs h =
    elim (cases_Bool (eqb b n)) [
      | inl e ↦ same (eqb-true b n e)
      | inr e ↦ differs (λ q. h (rw e q))
    ]

-- only these bytes are marks
pub mark_cases : (b : ℕ) → mark_of b ≢ None → IsMark b
unfolding IsMark
mark_cases b h =
    if_mark b 59 _ _ _ (λ e. inl e) (λ h1.
    if_mark b 44 _ _ _ (λ e. inr (inl e)) (λ h2.
    if_mark b 58 _ _ _ (λ e. inr (inr (inl e))) (λ h3.
    if_mark b 40 _ _ _ (λ e. inr (inr (inr (inl e)))) (λ h4.
    if_mark b 41 _ _ _ (λ e. inr (inr (inr (inr e)))) (λ h5. absurd (h5 refl)) h4) h3) h2) h1) h

-- a mark is of the last shape
pub mark_class : (b : ℕ) → mark_of b ≢ None → class_of b ≡ 5
unfolding class_of IsMark
mark_class b h =
    elim (mark_cases b h) [
      | inl e ↦ rw e refl
      | inr x ↦ elim x [ inl e ↦ rw e refl | inr y ↦ elim y [ inl e ↦ rw e refl | inr z ↦ elim z [ inl e ↦ rw e refl | inr e ↦ rw e refl ] ] ]
    ]

-- a run byte tells a run
pub run_class : (b : ℕ) → is_run_byte b ≡ true → class_of b ≡ 2
unfolding class_of
run_class b h = rw (run_is_no_white b h, h) refl

-- a run begins with a byte of runs
pub run_begins : (bytes rest : List ℕ) → IsRun bytes rest
    → (b : ℕ) × (bs : List ℕ) × (bytes ≡ b ∷ bs) × (is_run_byte b ≡ true)
run_begins [] rest r = absurd (r.some refl)
run_begins (b ∷ bs) rest r =
    elim (cases_Bool (is_run_byte b)) [
      | inl e ↦ (b, bs, refl, e)
      | inr e ↦ absurd (let long : b ∷ bs ≡ take (cond (is_run_byte b) (1 + Rattle.std.specs.List.prefix_len is_run_byte (bs ++ rest)) 0) (b ∷ (bs ++ rest)) = r.longest in let none : b ∷ bs ≡ [] = rw e at long in cc)
    ]

-- the first byte of a piece tells its shape
pub class_of_piece : (p : Piece) (rest : List ℕ) → Fits p rest
    → class_at (spelled p ++ rest) ≡ shape_of p
unfolding class_at class_of shape_of
class_of_piece (Blank b) rest h = rw h refl
class_of_piece (Run bytes) rest h =
    let r = run_begins bytes rest h.0 in
    ap (λ (t : List ℕ). class_at (t ++ rest)) r.2 ∙ run_class r.0 r.3
class_of_piece (Quoted body) rest h = refl
class_of_piece (Note body) rest h = refl
class_of_piece (Mark b) rest h = mark_class b h
