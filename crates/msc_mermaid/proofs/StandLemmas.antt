-- Lines stand in their text where they begin.
use Rattle.std.proofs.Common.{◌≡◌, ℕ, suc, ◌+◌, ◌-◌, Bool, true, false, cond, nat_eq, List, [], ◌∷◌, ◌++◌, length, take, drop, refl, sym, ap, ◌∙◌, subst, arith, append_assoc, length-drop, length-append}
use Rattle.std.specs.List.{starts_with}
use Rattle.std.proofs.lemmas.List.{length-take, take-append-drop}
use Rattle.msc_mermaid.specs.Laws.{Stand}
use Rattle.msc_mermaid.specs.Lines.{led_by, lines_behind, lines_of, starts_behind, starts_of}
use Rattle.msc_mermaid.proofs.StartLemmas.{head_is}

-- a line that is empty, and others
stand_empty : (text : List ℕ) (at : ℕ) (starts : List ℕ) (lines : List (List ℕ)) → Stand text starts lines → Stand text (at ∷ starts) ([] ∷ lines)
unfolding Stand
stand_empty text at starts lines s = (refl, s)

-- a line with a byte more in front
stand_led : (text : List ℕ) (at b : ℕ) (bs : List ℕ) → drop at text ≡ b ∷ bs → drop (at + 1) text ≡ bs → (starts : List ℕ) (lines : List (List ℕ)) → (at + 1) ∷ drop 1 starts ≡ starts → Stand text starts lines → Stand text (at ∷ drop 1 starts) (led_by (b ∷ []) lines)
unfolding Stand
stand_led text at b bs here next [] lines first s = cc
stand_led text at b bs here next (x ∷ xs) [] first s = absurd s
stand_led text at b bs here next (x ∷ xs) (l ∷ ls) first s =
    let same : at + 1 ≡ x = cc in
    let rest : take (length l) bs ≡ l = ap (take (length l)) (sym next ∙ ap (λ (n : ℕ). drop n text) same) ∙ s.0 in
    (ap (take (suc (length l))) here ∙ ap (λ (t : List ℕ). b ∷ t) rest, s.1)

-- behind the first bytes of a text
drop_front : (front bs : List ℕ) → drop (length front) (front ++ bs) ≡ bs
drop_front [] bs = refl
drop_front (x ∷ xs) bs = drop_front xs bs

module _ (front : List ℕ) (b : ℕ) (bs : List ℕ) where
  -- one byte further on
  longer : (front ++ b ∷ []) ++ bs ≡ front ++ b ∷ bs
  longer = append_assoc front (b ∷ []) bs

  long : length (front ++ b ∷ []) ≡ length front + 1
  long = length-append front (b ∷ [])

  Rest : Bool → Type 0
  Rest cr = Stand (front ++ b ∷ bs) (starts_behind (length front + 1) cr bs) (lines_behind cr bs)

  further_on : (cr : Bool) → Stand ((front ++ b ∷ []) ++ bs) (starts_behind (length (front ++ b ∷ [])) cr bs) (lines_behind cr bs) → Rest cr
  unfolding Rest
  further_on cr s =
      subst (λ (t : List ℕ). Stand t (starts_behind (length front + 1) cr bs) (lines_behind cr bs)) longer
      (subst (λ (n : ℕ). Stand ((front ++ b ∷ []) ++ bs) (starts_behind n cr bs) (lines_behind cr bs)) long s)

  -- by what the byte is
  one_more : (cr is_return is_feed : Bool) → Rest false → Rest true → Stand (front ++ b ∷ bs) (cond is_return (length front ∷ starts_behind (length front + 1) true bs) (cond is_feed (cond cr (starts_behind (length front + 1) false bs) (length front ∷ starts_behind (length front + 1) false bs)) (length front ∷ drop 1 (starts_behind (length front + 1) false bs)))) (cond is_return ([] ∷ lines_behind true bs) (cond is_feed (cond cr (lines_behind false bs) ([] ∷ lines_behind false bs)) (led_by (b ∷ []) (lines_behind false bs))))
  unfolding Rest
  one_more cr true is_feed plain behind = stand_empty (front ++ b ∷ bs) (length front) _ _ behind
  one_more true false true plain behind = plain
  one_more false false true plain behind = stand_empty (front ++ b ∷ bs) (length front) _ _ plain
  one_more cr false false plain behind =
      let next : drop (length front + 1) (front ++ b ∷ bs) ≡ bs = ap (λ (t : List ℕ). drop (length front + 1) t) (sym longer) ∙ ap (λ (n : ℕ). drop n ((front ++ b ∷ []) ++ bs)) (sym long) ∙ drop_front (front ++ b ∷ []) bs in
      stand_led (front ++ b ∷ bs) (length front) b bs (drop_front front (b ∷ bs)) next (starts_behind (length front + 1) false bs) (lines_behind false bs) (head_is (length front + 1) bs) plain

all_stand : (front : List ℕ) (cr : Bool) (bs : List ℕ) → Stand (front ++ bs) (starts_behind (length front) cr bs) (lines_behind cr bs)
unfolding starts_behind lines_behind Stand
all_stand front cr [] = (refl, tt)
all_stand front cr (b ∷ bs) =
    one_more front b bs cr (nat_eq b 13) (nat_eq b 10)
    (further_on front b bs false (all_stand (front ++ b ∷ []) false bs))
    (further_on front b bs true (all_stand (front ++ b ∷ []) true bs))

-- behind its mark, if it has one
marked_stand : (mark : Bool) (text : List ℕ) → let rest : List ℕ = cond mark (drop 3 text) text in Stand text (starts_behind (length text - length rest) false rest) (lines_behind false rest)
marked_stand true text =
    let many : length (take 3 text) ≡ length text - length (drop 3 text) = let a = length-take 3 text in let b = length-drop 3 text in omega (arith, a, b) in
    subst (λ (n : ℕ). Stand text (starts_behind n false (drop 3 text)) (lines_behind false (drop 3 text))) many
    (subst (λ (t : List ℕ). Stand t (starts_behind (length (take 3 text)) false (drop 3 text)) (lines_behind false (drop 3 text))) (take-append-drop 3 text) (all_stand (take 3 text) false (drop 3 text)))
marked_stand false text =
    let none : 0 ≡ length text - length text = omega arith in
    subst (λ (n : ℕ). Stand text (starts_behind n false text) (lines_behind false text)) none (all_stand [] false text)

pub lines_stand : (text : List ℕ) → Stand text (starts_of text) (lines_of text)
lines_stand text = marked_stand (starts_with nat_eq text (239 ∷ 187 ∷ 191 ∷ [])) text
