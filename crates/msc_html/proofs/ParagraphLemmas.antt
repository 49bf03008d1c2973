-- A text is its paragraphs and what is left of it.
use Rattle.std.proofs.Common.{◌≡◌, ℕ, Bool, true, false, List, [], ◌∷◌, ◌++◌, cond, nat_eq, refl, sym, ap, ◌∙◌, append_assoc, append-nil}
use Rattle.std.specs.List.{flat_map}
use Rattle.std.proofs.lemmas.Bool.{eqb-true}
use Rattle.std.proofs.lemmas.Grind.{flat_map-append}
use Rattle.msc_html.specs.Paragraphs.{Cut, cut_by, cut_on, held, uncut, with_byte, with_empty_line, with_line_end, with_paragraph, ParagraphsMakeTheText}

-- what was read
abbrev read : Cut → List ℕ
read c = flat_map with_empty_line c.found ++ held c

-- a byte more that ends no line
byte_read : (c : Cut) (b : ℕ) → read (with_byte c b) ≡ read c ++ b ∷ []
byte_read c b = sym (append_assoc (flat_map with_empty_line c.found) (held c) (b ∷ []))

-- a line end more, whether a line ends there already or not
end_read : (found : List (List ℕ)) (current : List ℕ) (ended : Bool)
    → read (cond ended (with_paragraph (record { found = found; current = current; ended = ended }))
    (with_line_end (record { found = found; current = current; ended = ended })))
    ≡ read (record { found = found; current = current; ended = ended }) ++ 10 ∷ []
end_read found current true =
    let before = flat_map with_empty_line found in
    append-nil (flat_map with_empty_line (found ++ current ∷ []))
    ∙ flat_map-append with_empty_line found (current ∷ [])
    ∙ ap (λ (l : List ℕ). before ++ l) (append-nil (with_empty_line current)
    ∙ sym (append_assoc current (10 ∷ []) (10 ∷ [])))
    ∙ sym (append_assoc before (current ++ 10 ∷ []) (10 ∷ []))
end_read found current false =
    sym (append_assoc (flat_map with_empty_line found) current (10 ∷ []))

-- one byte more
step_read : (c : Cut) (b : ℕ) (ends : Bool) → nat_eq b 10 ≡ ends
    → read (cond ends (cond c.ended (with_paragraph c) (with_line_end c)) (with_byte c b)) ≡ read c ++ b ∷ []
step_read c b true is =
    end_read c.found c.current c.ended ∙ ap (λ (x : ℕ). read c ++ x ∷ []) (sym (eqb-true b 10 is))
step_read c b false is = byte_read c b

-- these bytes more
all_read : (c : Cut) (text : List ℕ) → read (cut_on c text) ≡ read c ++ text
all_read c [] = sym (append-nil (read c))
all_read c (b ∷ text) =
    all_read (cut_by c b) text ∙ ap (λ (l : List ℕ). l ++ text) (step_read c b (nat_eq b 10) refl)
    ∙ append_assoc (read c) (b ∷ []) text

-- the text from its beginning
pub paragraphs_make_the_text : ParagraphsMakeTheText
paragraphs_make_the_text text = all_read uncut text
