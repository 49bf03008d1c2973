-- A comment of a text begins at its place with its mark.
use Rattle.std.proofs.Common.{◌≡◌, ◌<◌, ◌≤◌, ℕ, zero, suc, ◌+◌, ◌-◌, ◌^◌, Bool, true, false, cond, ◌&&◌, nat_lt, List, [], ◌∷◌, length, get_or, take, drop, refl, sym, ap, ◌∙◌, arith}
use Rattle.std.proofs.lemmas.Bool.{ltb-false}
use Rattle.std.proofs.lemmas.Slice.Eq.{bytes_eq-Decides}
use Rattle.std.proofs.Math.Nat.{min-eq_left}
use Rattle.std.specs.Char.{to_ascii_lowercase}
use Rattle.msc_lexer.specs.declared.TheConstants.{TEXT_LIMIT}
use Rattle.msc_mermaid.specs.declared.key.Mark.TheVariants as marks
use Rattle.msc_mermaid.specs.declared.line_kind.LineKind.TheVariants as line_kinds
use Rattle.msc_mermaid.specs.Keys.{begin_so, mark_text}
use Rattle.msc_mermaid.specs.Laws.{BeginsWithItsMark}
use Rattle.msc_mermaid.specs.Lines.{further}
use Rattle.msc_mermaid.specs.Mermaid.{comment_span, is_head, line_kind_of}
use Rattle.msc_mermaid.specs.Patterns.{is_empty}
use Rattle.msc_mermaid.specs.White.{behind_white, body, front, trimmed}
use Rattle.msc_mermaid.proofs.SpellLemmas.{drop_back, drop_twice}
use Rattle.msc_mermaid.proofs.StepLemmas.{by_test}

-- a byte that is a percent sign in small letters is one
percent : (b : ℕ) → to_ascii_lowercase b ≡ 37 → b ≡ 37
percent b e =
    let upper : Bool → ℕ = λ t. cond t (b + 32) b in
    let other : Bool → ℕ = λ t. cond t b (upper (nat_lt b 91)) in
    by_test (nat_lt b 65)
    (λ low. sym (ap other low) ∙ e)
    (λ high.
    let ge : 65 ≤ b = ltb-false b 65 high in
    let f : upper (nat_lt b 91) ≡ 37 = sym (ap other high) ∙ e in
    by_test (nat_lt b 91)
    (λ capital. let g : b + 32 ≡ 37 = sym (ap upper capital) ∙ f in omega (arith, ge, g))
    (λ small. sym (ap upper small) ∙ f))

and_right : (a b : Bool) → (a && b) ≡ true → b ≡ true
and_right true b e = e
and_right false b e = cc

-- bytes that begin with the mark
two_signs : (bytes : List ℕ) → begin_so bytes (mark_text marks.Comment) ≡ true → take 2 bytes ≡ 37 ∷ 37 ∷ []
two_signs [] e = cc
two_signs (x ∷ []) e = cc
two_signs (x ∷ y ∷ rest) e =
    let same : to_ascii_lowercase x ∷ to_ascii_lowercase y ∷ [] ≡ 37 ∷ 37 ∷ [] = (bytes_eq-Decides (to_ascii_lowercase x ∷ to_ascii_lowercase y ∷ []) (37 ∷ 37 ∷ [])).0 (and_right _ _ e) in
    ap (λ n. n ∷ y ∷ []) (percent x (ap (λ (l : List ℕ). get_or l 0 0) same)) ∙ ap (λ n. 37 ∷ n ∷ []) (percent y (ap (λ (l : List ℕ). get_or l 1 0) same))

-- a line that is a comment does
is_comment : (bytes : List ℕ) → line_kind_of bytes ≡ line_kinds.Comment → begin_so bytes (mark_text marks.Comment) ≡ true
unfolding line_kind_of
is_comment bytes e =
    by (is_empty bytes) (begin_so bytes (mark_text marks.Directive)) (begin_so bytes (mark_text marks.Comment)) (is_head bytes) e
  where
    by : (empty directive comment head : Bool) → cond empty line_kinds.Nothing (cond directive line_kinds.Directive (cond comment line_kinds.Comment (cond head line_kinds.Head line_kinds.Other))) ≡ line_kinds.Comment → comment ≡ true
    by true directive comment head e = cc
    by false true comment head e = cc
    by false false true head e = refl
    by false false false true e = cc
    by false false false false e = cc

-- two signs that stand in front of the first bytes stand in front of all
signs_in_front : (n : ℕ) (xs : List ℕ) → take 2 (take n xs) ≡ 37 ∷ 37 ∷ [] → take 2 xs ≡ 37 ∷ 37 ∷ []
signs_in_front zero xs e = cc
signs_in_front (suc n) [] e = cc
signs_in_front (suc zero) (x ∷ xs) e = cc
signs_in_front (suc (suc n)) (x ∷ []) e = cc
signs_in_front (suc (suc n)) (x ∷ y ∷ xs) e = e

-- and so behind some bytes
signs_behind : (at n : ℕ) (xs : List ℕ) → take 2 (drop at (take n xs)) ≡ 37 ∷ 37 ∷ [] → take 2 (drop at xs) ≡ 37 ∷ 37 ∷ []
signs_behind zero n xs e = signs_in_front n xs e
signs_behind (suc at) zero xs e = cc
signs_behind (suc at) (suc n) [] e = cc
signs_behind (suc at) (suc n) (x ∷ xs) e = signs_behind at n xs e

signs_within : (n : ℕ) (xs : List ℕ) → take 2 (drop n xs) ≡ 37 ∷ 37 ∷ [] → n < length xs
signs_within zero [] e = cc
signs_within zero (x ∷ xs) e = omega arith
signs_within (suc n) [] e = cc
signs_within (suc n) (x ∷ xs) e = let r = signs_within n xs e in omega (arith, r)

-- a comment on a line that stands in the text where it begins
module _ (text : List ℕ) (short : length text ≤ TEXT_LIMIT) (start : ℕ) (l : List ℕ) (stands : take (length l) (drop start text) ≡ l) where
  pub mark_begins : (k : ℕ) → line_kind_of (trimmed (drop k l)) ≡ line_kinds.Comment → BeginsWithItsMark text (comment_span start l (drop k l))
  unfolding further
  mark_begins k is =
      let own : List ℕ = behind_white (drop k l) in
      let from : ℕ = k + front 0 (drop k l) in
      let at : ℕ = length l - length own in
      let behind : own ≡ drop from l = drop_twice k (front 0 (drop k l)) l in
      let back : drop at l ≡ drop from l = ap (λ (x : List ℕ). drop (length l - length x) l) behind ∙ drop_back from l in
      let here : take 2 own ≡ 37 ∷ 37 ∷ [] = signs_in_front (body 0 own) own (two_signs (trimmed (drop k l)) (is_comment (trimmed (drop k l)) is)) in
      let in_line : take 2 (drop at l) ≡ 37 ∷ 37 ∷ [] = ap (take 2) (back ∙ sym behind) ∙ here in
      let in_text : take 2 (drop at (drop start text)) ≡ 37 ∷ 37 ∷ [] = signs_behind at (length l) (drop start text) (ap (λ (x : List ℕ). take 2 (drop at x)) stands ∙ in_line) in
      let there : take 2 (drop (start + at) text) ≡ 37 ∷ 37 ∷ [] = ap (take 2) (sym (drop_twice start at text)) ∙ in_text in
      let within = signs_within (start + at) text there in
      let low : start + at ≤ 2 ^ 64 - 1 = omega (arith, within, short) in
      ap (λ (n : ℕ). take 2 (drop n text)) (min-eq_left low) ∙ there
