-- The bytes of sentences, and items that are put one behind the other.
use Rattle.std.proofs.Common.{◌≡◌, ◌<◌, ℕ, List, [], ◌∷◌, ◌++◌, codes, length, map, refl, sym, ap, ◌∙◌, append_assoc, append-nil, arith}
use Rattle.msc_html.specs.declared.part.SentenceStyle.{SentenceStyle}
use Rattle.msc_html.specs.declared.part.Part.{Part}
use Rattle.msc_html.specs.Parts.{code, words, style_attributes, part_node, part_text, parts_text, sentence}
use Rattle.std.proofs.lemmas.Grind.{flat_map-append}
use Rattle.msc_tree.specs.Trees.{Attribute, attribute_text, attributes_text, children, line_text, nodes_text}

-- further items behind a beginning
pub put_behind : {X : Type 0} (base x b now next : List X) → now ≡ base ++ x → next ≡ now ++ b
    → next ≡ base ++ (x ++ b)
put_behind {X} base x b now next so_far more =
    more ∙ ap (λ (l : List X). l ++ b) so_far ∙ append_assoc base x b

-- the bytes of the parts of a sentence are those of its children
parts_are_children : (parts : List Part) → nodes_text (children (map part_node parts)) ≡ parts_text parts
parts_are_children [] = refl
parts_are_children (p ∷ ps) = ap (λ (l : List ℕ). part_text p ++ l) (parts_are_children ps)

-- the parts of an element in another order of joining
shape : (o g p s n e l : List ℕ)
    → (((o ++ g) ++ p) ++ ((s ++ n) ++ e)) ++ l ≡ o ++ ((((g ++ p) ++ s) ++ n) ++ (e ++ l))
shape o g p s n e l = simp append_assoc

-- a sentence without parts
pub empty_sentence : (name : List ℕ) (style : SentenceStyle) (parts : List Part) → length parts ≡ 0
    → ((codes "<" ++ name) ++ attributes_text (style_attributes style)) ++ codes "/>\n"
    ≡ line_text (sentence name style parts)
empty_sentence name style [] none =
    sym (append_assoc ((codes "<" ++ name) ++ attributes_text (style_attributes style)) (codes "/>") (codes "\n"))
empty_sentence name style (p ∷ ps) none = absurd (omega (arith, none))

-- a sentence with parts
pub some_sentence : (name : List ℕ) (style : SentenceStyle) (parts : List Part) → 0 < length parts
    → ((codes "<" ++ name) ++ attributes_text (style_attributes style))
    ++ ((((codes ">" ++ parts_text parts) ++ codes "</") ++ name) ++ codes ">\n")
    ≡ line_text (sentence name style parts)
some_sentence name style [] some = absurd (omega (arith, some))
some_sentence name style (p ∷ ps) some =
    let o = (codes "<" ++ name) ++ attributes_text (style_attributes style) in
    sym (ap (λ (l : List ℕ). (((o ++ codes ">") ++ (part_text p ++ l)) ++ ((codes "</" ++ name) ++ codes ">")) ++ codes "\n")
    (parts_are_children ps)
    ∙ shape o (codes ">") (parts_text (p ∷ ps)) (codes "</") name (codes ">") (codes "\n"))

-- words and code behind a sentence, by what stands as code
pub told_pair : (old next : List Part) (w t t' : List ℕ) → next ≡ old ++ words w ∷ code t ∷ [] → t ≡ t'
    → next ≡ old ++ words w ∷ code t' ∷ []
told_pair old next w t t' put same = put ∙ ap (λ (x : List ℕ). old ++ words w ∷ code x ∷ []) same

-- code alone
pub told_code : (old next : List Part) (t t' : List ℕ) → next ≡ old ++ code t ∷ [] → t ≡ t'
    → next ≡ old ++ code t' ∷ []
told_code old next t t' put same = put ∙ ap (λ (x : List ℕ). old ++ code x ∷ []) same

-- the beginning of an element, with two attributes behind others
pub attributes_then : (begin : List ℕ) (xs : List Attribute) (y z : Attribute)
    → ((begin ++ attributes_text xs) ++ attribute_text y) ++ attribute_text z
    ≡ begin ++ attributes_text (xs ++ y ∷ z ∷ [])
attributes_then begin xs y z =
    let a = attributes_text xs in
    let b = attribute_text y in
    let d = attribute_text z in
    append_assoc (begin ++ a) b d ∙ append_assoc begin a (b ++ d)
    ∙ ap (λ (l : List ℕ). begin ++ (a ++ (b ++ l))) (sym (append-nil d))
    ∙ ap (λ (l : List ℕ). begin ++ l) (sym (flat_map-append attribute_text xs (y ∷ z ∷ [])))
