-- At the front of a text at most one piece stands.
use Rattle.std.proofs.Common.{◌≡◌, ◌≢◌, ◌⊎◌, ℕ, suc, ◌+◌, false, eqb, nat_eq, List, [], ◌∷◌, ◌++◌, length, get_or, refl, sym, ap, ◌∙◌, append_assoc, inl, inr, arith}
use Rattle.std.specs.List.{take_while}
use Rattle.std.proofs.lemmas.Bool.{eqb-true, true≢false, cases_Bool}
use Rattle.std.proofs.lemmas.List.{append_cancel_left, get_or_at, get_or-append-add}
use Rattle.msc_lexer.specs.Bytes.{is_run_byte, begins}
use Rattle.msc_lexer.specs.Pieces.{Piece, Blank, Note, Run, Quoted, Mark, NeverCloses, doubled, spelled, Fits}
use Rattle.msc_lexer.proofs.Shapes.{class_at, shape_of, class_of_piece}

-- in a note the first `*/` ends it
pub note_at_end : (body rest : List ℕ)
    → (get_or ((body ++ 42 ∷ 47 ∷ []) ++ rest) (length body) 0 ≡ 42) × (get_or ((body ++ 42 ∷ 47 ∷ []) ++ rest) (length body + 1) 0 ≡ 47)
note_at_end body rest =
    rw append_assoc (get_or_at body 42 (47 ∷ rest) 0 (length body) refl, get_or-append-add body (42 ∷ 47 ∷ rest) 1 0)

-- what holds of a body holds behind its first byte
pub NeverCloses-rest : (x : ℕ) (xs : List ℕ) → NeverCloses (x ∷ xs) → NeverCloses xs
NeverCloses-rest x xs h k a b =
    h (suc k) a (let e : suc k + 1 ≡ suc (k + 1) = omega arith in rw e b)

-- two bodies up to the first `*/` are one
pub same_note : (a b r s : List ℕ) → NeverCloses a → NeverCloses b
    → (a ++ 42 ∷ 47 ∷ []) ++ r ≡ (b ++ 42 ∷ 47 ∷ []) ++ s → a ≡ b
same_note [] [] r s f g e = refl
same_note [] (x ∷ []) r s f g e = let h : ◌≡◌ {A = ℕ} 47 42 = cc in absurd (omega (arith, h))
same_note [] (x ∷ (y ∷ ys)) r s f g e =
    let h : 42 ≡ x = cc in let i : 47 ≡ y = cc in absurd (g 0 (sym h) (sym i))
same_note (x ∷ []) [] r s f g e = let h : ◌≡◌ {A = ℕ} 42 47 = cc in absurd (omega (arith, h))
same_note (x ∷ (y ∷ ys)) [] r s f g e =
    let h : x ≡ 42 = cc in let i : y ≡ 47 = cc in absurd (f 0 h i)
same_note (x ∷ xs) (y ∷ ys) r s f g e =
    let h : x ≡ y = cc in
    let t : (xs ++ 42 ∷ 47 ∷ []) ++ r ≡ (ys ++ 42 ∷ 47 ∷ []) ++ s = cc in
    let u = same_note xs ys r s (NeverCloses-rest x xs f) (NeverCloses-rest y ys g) t in
    cc

-- the first element of bytes of which each apostrophe is doubled
pub doubled_first : (x : ℕ) (xs : List ℕ)
    → ((x ≡ 39) × (doubled (x ∷ xs) ≡ 39 ∷ 39 ∷ doubled xs)) ⊎ ((x ≢ 39) × (doubled (x ∷ xs) ≡ x ∷ doubled xs))
doubled_first x xs =
    elim (cases_Bool (eqb x 39)) [
      | inl e ↦ inl (eqb-true x 39 e, rw e refl)
      | inr e ↦ inr (λ q. true≢false (sym (rw q refl) ∙ e), rw e refl)
    ]

-- two bodies up to the lone apostrophe are one
pub same_quote : (a b r s : List ℕ) → begins (nat_eq 39) r ≡ false → begins (nat_eq 39) s ≡ false
    → (doubled a ++ 39 ∷ []) ++ r ≡ (doubled b ++ 39 ∷ []) ++ s → a ≡ b
same_quote [] [] r s f g e = refl
same_quote [] (y ∷ ys) r s f g e =
    elim (doubled_first y ys) [
      | inl q ↦ let t : 39 ∷ r ≡ 39 ∷ 39 ∷ ((doubled ys ++ 39 ∷ []) ++ s) = e ∙ rw q.1 refl in let u : r ≡ 39 ∷ ((doubled ys ++ 39 ∷ []) ++ s) = cc in absurd (true≢false (sym (rw u refl) ∙ f))
      | inr q ↦ let t : 39 ∷ r ≡ y ∷ ((doubled ys ++ 39 ∷ []) ++ s) = e ∙ rw q.1 refl in let u : y ≡ 39 = cc in absurd (q.0 u)
    ]
same_quote (x ∷ xs) [] r s f g e =
    elim (doubled_first x xs) [
      | inl q ↦ let t : 39 ∷ 39 ∷ ((doubled xs ++ 39 ∷ []) ++ r) ≡ 39 ∷ s = sym (rw q.1 refl) ∙ e in let u : s ≡ 39 ∷ ((doubled xs ++ 39 ∷ []) ++ r) = cc in absurd (true≢false (sym (rw u refl) ∙ g))
      | inr q ↦ let t : x ∷ ((doubled xs ++ 39 ∷ []) ++ r) ≡ 39 ∷ s = sym (rw q.1 refl) ∙ e in let u : x ≡ 39 = cc in absurd (q.0 u)
    ]
same_quote (x ∷ xs) (y ∷ ys) r s f g e =
    elim (doubled_first x xs) [
      | inl p ↦ elim (doubled_first y ys) [
        | inl q ↦
            let t : 39 ∷ 39 ∷ ((doubled xs ++ 39 ∷ []) ++ r) ≡ 39 ∷ 39 ∷ ((doubled ys ++ 39 ∷ []) ++ s) = sym (rw p.1 refl) ∙ e ∙ rw q.1 refl in
            let u : (doubled xs ++ 39 ∷ []) ++ r ≡ (doubled ys ++ 39 ∷ []) ++ s = cc in
            let v = same_quote xs ys r s f g u in
            let w : x ≡ y = p.0 ∙ sym q.0 in cc
        | inr q ↦ let t : 39 ∷ 39 ∷ ((doubled xs ++ 39 ∷ []) ++ r) ≡ y ∷ ((doubled ys ++ 39 ∷ []) ++ s) = sym (rw p.1 refl) ∙ e ∙ rw q.1 refl in let u : y ≡ 39 = cc in absurd (q.0 u)
      ]
      | inr p ↦ elim (doubled_first y ys) [
        | inl q ↦ let t : x ∷ ((doubled xs ++ 39 ∷ []) ++ r) ≡ 39 ∷ 39 ∷ ((doubled ys ++ 39 ∷ []) ++ s) = sym (rw p.1 refl) ∙ e ∙ rw q.1 refl in let u : x ≡ 39 = cc in absurd (p.0 u)
        | inr q ↦
            let t : x ∷ ((doubled xs ++ 39 ∷ []) ++ r) ≡ y ∷ ((doubled ys ++ 39 ∷ []) ++ s) = sym (rw p.1 refl) ∙ e ∙ rw q.1 refl in
            let u : (doubled xs ++ 39 ∷ []) ++ r ≡ (doubled ys ++ 39 ∷ []) ++ s = cc in
            let v = same_quote xs ys r s f g u in
            let w : x ≡ y = cc in cc
      ]
    ]

-- two pieces of one shape at the front are one
pub one_piece : (p q : Piece) (r s : List ℕ) → Fits p r → Fits q s → spelled p ++ r ≡ spelled q ++ s
    → shape_of p ≡ shape_of q → p ≡ q
unfolding shape_of
one_piece (Blank a) (Blank b) r s f g e h = let i : a ≡ b = cc in cc
one_piece (Run a) (Run b) r s f g e h =
    let i : a ≡ b = f.0.longest ∙ ap (take_while is_run_byte) e ∙ sym g.0.longest in cc
one_piece (Quoted a) (Quoted b) r s f g e h =
    let t : (doubled a ++ 39 ∷ []) ++ r ≡ (doubled b ++ 39 ∷ []) ++ s = cc in
    let i = same_quote a b r s f g t in cc
one_piece (Note a) (Note b) r s f g e h =
    let t : (a ++ 42 ∷ 47 ∷ []) ++ r ≡ (b ++ 42 ∷ 47 ∷ []) ++ s = cc in
    let i = same_note a b r s f g t in cc
one_piece (Mark a) (Mark b) r s f g e h = let i : a ≡ b = cc in cc
one_piece (Blank a) q r s f g e h = absurd (omega (arith, h))
one_piece (Run a) q r s f g e h = absurd (omega (arith, h))
one_piece (Quoted a) q r s f g e h = absurd (omega (arith, h))
one_piece (Note a) q r s f g e h = absurd (omega (arith, h))
one_piece (Mark a) q r s f g e h = absurd (omega (arith, h))

-- two pieces at the front are of one shape
pub same_shape : (p q : Piece) (r s : List ℕ) → Fits p r → Fits q s
    → spelled p ++ r ≡ spelled q ++ s → shape_of p ≡ shape_of q
same_shape p q r s f g e = sym (class_of_piece p r f) ∙ ap class_at e ∙ class_of_piece q s g

-- two pieces at the front are one, and so is what follows them
pub same_front : (p q : Piece) (r s : List ℕ) → Fits p r → Fits q s
    → spelled p ++ r ≡ spelled q ++ s → (p ≡ q) × (r ≡ s)
same_front p q r s f g e =
    let same = one_piece p q r s f g e (same_shape p q r s f g e) in
    let t : spelled q ++ r ≡ spelled q ++ s = sym (rw same refl) ∙ e in
    (same, append_cancel_left (spelled q) r s t)
