-- That the lines of a box are plain, where its text is.
use Rattle.std.proofs.Common.{◌≡◌, ℕ, zero, suc, Bool, true, false, cond, List, [], ◌∷◌, ◌++◌, codes, length, get_or, take, fold, nat_eq, nat_lt, refl}
use Rattle.msc_picture.specs.Plain.{is_plain}
use Rattle.msc_picture.proofs.PlainBytes.{plain_by, plain_cons, plain_join, plain_single, plain_take}
use Rattle.msc_svg.specs.declared.action.WordPart.{WordPart}
use Rattle.msc_svg.specs.Actions.{action_box, cut_line, ended, filled, fits_behind, part_of, parts_after, parts_of, with_part}
use Rattle.msc_svg.proofs.PlainTrees.{ArePlain, one_of}

-- each of several parts of words
abbrev AreParts : List WordPart → Type 0
AreParts [] = is_plain [] ≡ true
AreParts (x ∷ xs) = (is_plain x.text ≡ true) × AreParts xs

parts_join : (xs ys : List WordPart) → AreParts xs → AreParts ys → AreParts (xs ++ ys)
parts_join [] ys p q = q
parts_join (x ∷ xs) ys p q = (p.0, parts_join xs ys p.1 q)

part_choice : (b : Bool) (xs ys : List WordPart) → AreParts xs → AreParts ys
    → AreParts (cond b xs ys)
part_choice true xs ys p q = p
part_choice false xs ys p q = q

part_plain : (held : List ℕ) (later : Bool) → is_plain held ≡ true → AreParts (part_of held later)
part_plain held later p =
    part_choice (nat_eq (length held) 0) [] _ (plain_by [] refl) (p, plain_by [] refl)

-- the parts of a text
parts_plain : (held : List ℕ) (later : Bool) (text : List ℕ) → is_plain held ≡ true
    → is_plain text ≡ true → AreParts (parts_after held later text)
parts_plain held later [] p q = part_plain held later p
parts_plain held later (b ∷ bs) p q =
    let parts = plain_cons b bs q in
    part_choice (nat_eq b 32) _ _
    (parts_join (part_of held later) (parts_after [] false bs) (part_plain held later p)
    (parts_plain [] false bs (plain_by [] refl) parts.1))
    (part_choice (nat_eq (length held) 24) _ _
    (parts_join (part_of held later) (parts_after (b ∷ []) true bs) (part_plain held later p)
    (parts_plain (b ∷ []) true bs (plain_single b parts.0) parts.1))
    (parts_plain (held ++ b ∷ []) later bs
    (plain_join held (b ∷ []) p (plain_single b parts.0)) parts.1))

-- the lines so far
abbrev AreLines : List (List ℕ) × List ℕ → Type 0
AreLines s = ArePlain s.0 × (is_plain s.1 ≡ true)

texts_join : (xs ys : List (List ℕ)) → ArePlain xs → ArePlain ys → ArePlain (xs ++ ys)
texts_join [] ys p q = q
texts_join (x ∷ xs) ys p q = (p.0, texts_join xs ys p.1 q)

lines_choice : (b : Bool) (s t : List (List ℕ) × List ℕ) → AreLines s → AreLines t
    → AreLines (cond b s t)
lines_choice true s t p q = p
lines_choice false s t p q = q

one_more : (s : List (List ℕ) × List ℕ) (part : WordPart) → AreLines s → is_plain part.text ≡ true
    → AreLines (with_part s part)
one_more s part p q =
    lines_choice (nat_eq (length s.1) 0) (s.0, part.text) _ (p.0, q)
    (lines_choice (fits_behind s.1 part) (s.0, (s.1 ++ codes " ") ++ part.text)
    (s.0 ++ s.1 ∷ [], part.text)
    (p.0, plain_join (s.1 ++ codes " ") part.text (plain_join s.1 (codes " ") p.1 (plain_by _ refl)) q)
    (texts_join s.0 (s.1 ∷ []) p.0 (p.1, plain_by [] refl), q))

all_more : (s : List (List ℕ) × List ℕ) (parts : List WordPart) → AreLines s → AreParts parts
    → AreLines (fold with_part s parts)
all_more s [] p q = p
all_more s (x ∷ xs) p q = all_more (with_part s x) xs (one_more s x p q.0) q.1

ended_plain : (s : List (List ℕ) × List ℕ) → AreLines s → ArePlain (ended s)
ended_plain s p = texts_join s.0 (s.1 ∷ []) p.0 (p.1, plain_by [] refl)

-- the first of them
first_some : (n : ℕ) (xs : List (List ℕ)) → ArePlain xs → ArePlain (take n xs)
first_some zero xs p = plain_by [] refl
first_some (suc n) [] p = plain_by [] refl
first_some (suc n) (x ∷ xs) p = (p.0, first_some n xs p.1)

cut_plain : (b : Bool) (lines : List (List ℕ)) → ArePlain lines
    → ArePlain (cond b (take 3 lines ++ cut_line (get_or lines 3 []) ∷ []) lines)
cut_plain true lines p =
    texts_join (take 3 lines) _ (first_some 3 lines p) (
      plain_join (take 22 (get_or lines 3 [])) (codes "..")
          (plain_take 22 (get_or lines 3 []) (one_of lines 3 p)) (plain_by _ refl),
      plain_by [] refl,
    )
cut_plain false lines p = p

pub box_plain : (text : List ℕ) → is_plain text ≡ true → ArePlain (action_box text).lines
box_plain text p =
    cut_plain (nat_lt 4 (length (filled text))) (filled text)
    (ended_plain (fold with_part ([], []) (parts_of text))
    (all_more ([], []) (parts_of text) (plain_by [] refl, plain_by [] refl)
    (parts_plain [] false text (plain_by [] refl) p)))
