-- What is written one after the other is the text of the pieces one after the other, and what is
-- written byte by byte with each apostrophe twice is what is doubled.
use Rattle.std.proofs.Common.{◌≡◌, ℕ, ◌+◌, ◌<◌, List, [], ◌∷◌, ◌++◌, length, get_or, take, refl, sym, ap, ◌∙◌, append_assoc}
use Rattle.std.proofs.lemmas.List.Concat.{flat_map-append}
use Rattle.std.proofs.lemmas.Bool.{ne_eqb}
use Rattle.std.proofs.lemmas.List.{take_more}
use Rattle.msc_lexer.specs.Pieces.{Piece, doubled, spelled, text_of}
use Rattle.msc_lexer.proofs.Quotes.{doubled-append}

-- the text of pieces that stand between others
pub between : (front mid back : List Piece) (o a b c : List ℕ) → a ≡ o ++ text_of front
    → b ≡ a ++ text_of mid → c ≡ b ++ text_of back → c ≡ o ++ text_of (front ++ (mid ++ back))
between front mid back o a b c first second third =
    let parts : text_of (front ++ (mid ++ back)) ≡ text_of front ++ (text_of mid ++ text_of back) = flat_map-append spelled front (mid ++ back) ∙ ap (λ (x : List ℕ). text_of front ++ x) (flat_map-append spelled mid back) in
    third ∙ rw (second, first, parts) (append_assoc (o ++ text_of front) (text_of mid) (text_of back) ∙ append_assoc o (text_of front) (text_of mid ++ text_of back))

-- one more byte was written, doubled
one_doubled : (bytes o : List ℕ) {a b : List ℕ} (i : ℕ) → i < length bytes
    → a ≡ o ++ doubled (take i bytes) → b ≡ a ++ doubled (get_or bytes i 0 ∷ [])
    → b ≡ o ++ doubled (take (i + 1) bytes)
one_doubled bytes o i lt before written =
    let x : ℕ = get_or bytes i 0 in
    written ∙ ap (λ (l : List ℕ). l ++ doubled (x ∷ [])) before ∙ append_assoc o (doubled (take i bytes)) (doubled (x ∷ [])) ∙ ap (λ (l : List ℕ). o ++ l) (sym (doubled-append (take i bytes) (x ∷ [])) ∙ ap doubled (sym (take_more bytes i 0 lt)))

-- an apostrophe was written behind another one
pub mark_doubled : (bytes o : List ℕ) {a m b : List ℕ} (i : ℕ) → i < length bytes
    → get_or bytes i 0 ≡ 39 → a ≡ o ++ doubled (take i bytes) → m ≡ a ++ 39 ∷ []
    → b ≡ m ++ get_or bytes i 0 ∷ [] → b ≡ o ++ doubled (take (i + 1) bytes)
mark_doubled bytes o {a = a} i lt is before first second =
    one_doubled bytes o i lt before (second ∙ rw (first, is) (append_assoc a (39 ∷ []) (39 ∷ [])))

-- another byte was written
pub plain_doubled : (bytes o : List ℕ) {a b : List ℕ} (i : ℕ) → i < length bytes
    → (get_or bytes i 0 ≡ 39 → ⊥) → a ≡ o ++ doubled (take i bytes)
    → b ≡ a ++ get_or bytes i 0 ∷ [] → b ≡ o ++ doubled (take (i + 1) bytes)
plain_doubled bytes o {a = a} i lt other before written =
    let one : doubled (get_or bytes i 0 ∷ []) ≡ get_or bytes i 0 ∷ [] = rw (ne_eqb (get_or bytes i 0) 39 other) refl in
    one_doubled bytes o i lt before (written ∙ ap (λ (l : List ℕ). a ++ l) (sym one))
