-- Where the lines of a text begin, byte by byte.
use Rattle.std.proofs.Common.{◌≡◌, ◌≤◌, ◌<◌, ◌⊎◌, ⊎_elim, ℕ, ◌+◌, Bool, true, false, nat_eq, cond, List, [], ◌∷◌, ◌++◌, length, get_or, drop, refl, sym, ap, ◌∙◌, subst, arith, append_assoc, add-zero}
use Rattle.std.proofs.lemmas.List.{drop_more, drop_all}
use Rattle.std.proofs.lemmas.Bool.{false≢true}
use Rattle.msc_mermaid.specs.Lines.{starts_behind}

-- the first of some places is this one
Headed : ℕ → List ℕ → Type 0
Headed at xs = at ∷ drop 1 xs ≡ xs

by_cond : (b : Bool) (at : ℕ) (xs ys : List ℕ) → Headed at xs → Headed at ys → Headed at (cond b xs ys)
by_cond true at xs ys h k = h
by_cond false at xs ys h k = k

-- the first line begins where the text does
pub head_is : (at : ℕ) (bs : List ℕ) → at ∷ drop 1 (starts_behind at false bs) ≡ starts_behind at false bs
unfolding starts_behind Headed
head_is at [] = refl
head_is at (b ∷ bs) =
    by_cond (nat_eq b 13) at (at ∷ starts_behind (at + 1) true bs) (cond (nat_eq b 10) (at ∷ starts_behind (at + 1) false bs) (at ∷ drop 1 (starts_behind (at + 1) false bs))) refl
    (by_cond (nat_eq b 10) at (at ∷ starts_behind (at + 1) false bs) (at ∷ drop 1 (starts_behind (at + 1) false bs)) refl refl)

-- what follows, whose first line has begun before unless it follows a CR
abbrev headed : Bool → ℕ → List ℕ → List ℕ
headed true start xs = xs
headed false start xs = start ∷ drop 1 xs

-- The places up to byte i: those that are there, that of the line that goes on, and those of what is left are those of
-- the text.
pub record AreStarted (before : ℕ) (text starts : List ℕ) (start : ℕ) (cr : Bool) (i : ℕ) : Type 0 where
  pub fresh : cr ≡ true → start ≡ before + i
  pub told : starts ++ headed cr start (starts_behind (before + i) cr (drop i text)) ≡ starts_behind before false text

-- a line that has begun here
headed_first : (cr : Bool) (start at : ℕ) (xs : List ℕ) → (cr ≡ true → start ≡ at) → headed cr start (at ∷ xs) ≡ start ∷ xs
headed_first true start at xs fresh = ap (λ n. n ∷ xs) (sym (fresh refl))
headed_first false start at xs fresh = refl

-- one byte more
behind_crlf : (at : ℕ) (bs : List ℕ) → starts_behind at true (10 ∷ bs) ≡ starts_behind (at + 1) false bs
unfolding starts_behind
behind_crlf at bs = refl

behind_lf : (at : ℕ) (bs : List ℕ) → starts_behind at false (10 ∷ bs) ≡ at ∷ starts_behind (at + 1) false bs
unfolding starts_behind
behind_lf at bs = refl

behind_cr : (at : ℕ) (cr : Bool) (bs : List ℕ) → starts_behind at cr (13 ∷ bs) ≡ at ∷ starts_behind (at + 1) true bs
unfolding starts_behind
behind_cr at cr bs = refl

behind_other : (at : ℕ) (cr : Bool) (b : ℕ) (bs : List ℕ) → nat_eq b 10 ≡ false → nat_eq b 13 ≡ false → starts_behind at cr (b ∷ bs) ≡ at ∷ drop 1 (starts_behind (at + 1) false bs)
unfolding starts_behind
behind_other at cr b bs lf return = rw (return, lf) refl

-- nothing was passed
pub started_none : (before : ℕ) (text : List ℕ) → AreStarted before text [] before false 0
started_none before text = record {
  fresh = λ h. absurd (false≢true h);
  told = ap (λ n. before ∷ drop 1 (starts_behind n false text)) (add-zero before) ∙ head_is before text;
}

module _ (before : ℕ) (text starts : List ℕ) (start : ℕ) (cr : Bool) (i : ℕ) (are : AreStarted before text starts start cr i) (inside : i < length text) where
  -- what is left begins with this byte
  left : drop i text ≡ get_or text i 0 ∷ drop (i + 1) text
  left = drop_more text i 0 inside

  -- the places of what is left
  told_at : (xs : List ℕ) → starts_behind (before + i) cr (get_or text i 0 ∷ drop (i + 1) text) ≡ xs → starts ++ headed cr start xs ≡ starts_behind before false text
  told_at xs e = ap (λ x. starts ++ headed cr start x) (sym (ap (starts_behind (before + i) cr) left ∙ e)) ∙ are.told

  -- the same, where the line that goes on is the first of them
  told_first : (xs : List ℕ) → starts_behind (before + i) cr (get_or text i 0 ∷ drop (i + 1) text) ≡ (before + i) ∷ xs → starts ++ start ∷ xs ≡ starts_behind before false text
  told_first xs e = ap (λ x. starts ++ x) (sym (headed_first cr start (before + i) xs are.fresh)) ∙ told_at ((before + i) ∷ xs) e

  -- those behind the byte
  abbrev after : Bool → List ℕ
  after next = starts_behind (before + (i + 1)) next (drop (i + 1) text)

  next_is : (next : Bool) → after next ≡ starts_behind (before + i + 1) next (drop (i + 1) text)
  next_is next = let same : before + (i + 1) ≡ before + i + 1 = omega arith in ap (λ n. starts_behind n next (drop (i + 1) text)) same

  now_headed : (before + i + 1) ∷ drop 1 (after false) ≡ starts_behind (before + i + 1) false (drop (i + 1) text)
  now_headed = ap (λ x. (before + i + 1) ∷ drop 1 x) (next_is false) ∙ head_is (before + i + 1) (drop (i + 1) text)

  -- a byte of a line
  pub started_on : nat_eq (get_or text i 0) 10 ≡ false → nat_eq (get_or text i 0) 13 ≡ false → AreStarted before text starts start (nat_eq (get_or text i 0) 13) (i + 1)
  started_on lf return =
      let told : starts ++ start ∷ drop 1 (after false) ≡ starts_behind before false text = ap (λ x. starts ++ start ∷ drop 1 x) (next_is false) ∙ told_first _ (behind_other (before + i) cr (get_or text i 0) (drop (i + 1) text) lf return) in
      subst (λ t. AreStarted before text starts start t (i + 1)) (sym return) (record { fresh = λ h. absurd (false≢true h); told = told })

  -- the LF behind a CR
  pub started_past : get_or text i 0 ≡ 10 → cr ≡ true → AreStarted before text starts (before + i + 1) (nat_eq (get_or text i 0) 13) (i + 1)
  started_past lf behind =
      let rest = drop (i + 1) text in
      let here : starts_behind (before + i) cr (get_or text i 0 ∷ rest) ≡ starts_behind (before + i + 1) false rest = ap (λ t. starts_behind (before + i) t (get_or text i 0 ∷ rest)) behind ∙ ap (λ b. starts_behind (before + i) true (b ∷ rest)) lf ∙ behind_crlf (before + i) rest in
      let now : starts ++ starts_behind (before + i + 1) false rest ≡ starts_behind before false text = ap (λ t. starts ++ headed t start (starts_behind (before + i + 1) false rest)) (sym behind) ∙ told_at _ here in
      let told : starts ++ ((before + i + 1) ∷ drop 1 (after false)) ≡ starts_behind before false text = ap (λ x. starts ++ x) now_headed ∙ now in
      let ends : nat_eq (get_or text i 0) 13 ≡ false = ap (λ b. nat_eq b 13) lf in
      subst (λ t. AreStarted before text starts (before + i + 1) t (i + 1)) (sym ends) (record { fresh = λ h. absurd (false≢true h); told = told })

  -- the end of a line
  pub started_end : (get_or text i 0 ≡ 13) ⊎ ((get_or text i 0 ≡ 10) × (cr ≡ false)) → AreStarted before text (starts ++ start ∷ []) (before + i + 1) (nat_eq (get_or text i 0) 13) (i + 1)
  started_end h =
      let rest = drop (i + 1) text in
      let F : Bool → Type 0 = λ t. AreStarted before text (starts ++ start ∷ []) (before + i + 1) t (i + 1) in
      ⊎_elim
      (λ return.
      let here : starts_behind (before + i) cr (get_or text i 0 ∷ rest) ≡ (before + i) ∷ starts_behind (before + i + 1) true rest = ap (λ b. starts_behind (before + i) cr (b ∷ rest)) return ∙ behind_cr (before + i) cr rest in
      let told : (starts ++ start ∷ []) ++ after true ≡ starts_behind before false text = ap (λ x. (starts ++ start ∷ []) ++ x) (next_is true) ∙ append_assoc starts (start ∷ []) _ ∙ told_first _ here in
      subst F (sym (ap (λ b. nat_eq b 13) return)) (record { fresh = λ _. omega arith; told = told }))
      (λ lf.
      let here : starts_behind (before + i) cr (get_or text i 0 ∷ rest) ≡ (before + i) ∷ starts_behind (before + i + 1) false rest = ap (λ t. starts_behind (before + i) t (get_or text i 0 ∷ rest)) lf.1 ∙ ap (λ b. starts_behind (before + i) false (b ∷ rest)) lf.0 ∙ behind_lf (before + i) rest in
      let told : (starts ++ start ∷ []) ++ ((before + i + 1) ∷ drop 1 (after false)) ≡ starts_behind before false text = ap (λ x. (starts ++ start ∷ []) ++ x) now_headed ∙ append_assoc starts (start ∷ []) _ ∙ told_first _ here in
      subst F (sym (ap (λ b. nat_eq b 13) lf.0)) (record { fresh = λ h. absurd (false≢true h); told = told }))
      h

-- all was passed: the last line is what is left
pub started_all : (before : ℕ) (text starts : List ℕ) (start : ℕ) (cr : Bool) (i : ℕ) → AreStarted before text starts start cr i → length text ≤ i → starts ++ start ∷ [] ≡ starts_behind before false text
unfolding starts_behind
started_all before text starts start cr i are over =
    let none : drop i text ≡ [] = drop_all i text over in
    let last : headed cr start (starts_behind (before + i) cr (drop i text)) ≡ start ∷ [] = ap (λ x. headed cr start (starts_behind (before + i) cr x)) none ∙ headed_first cr start (before + i) [] are.fresh in
    sym (ap (λ x. starts ++ x) last) ∙ are.told
