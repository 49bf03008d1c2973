-- Rows of which each character is shown.
use Rattle.std.proofs.Common.{◌≡◌, ◌<◌, ℕ, zero, suc, ◌+◌, ◌-◌, ◌/◌, ◌%◌, Bool, true, false, cond, ◌&&◌, ◌==◌, ◌⊎◌, inl, inr, List, [], ◌∷◌, ◌++◌, length, take, drop, replicate, nat_lt, refl, sym, ap, ◌∙◌, arith}
use Rattle.std.proofs.lemmas.Bool.Decides.{nat_tests}
use Rattle.std.proofs.lemmas.List.Elements.{All-append, All-drop, All-from_recursion, All-nil, All-take, recursion_from_All}
use Rattle.std.proofs.lemmas.Str.{encode_ascii, encodes-append}
use Rattle.std.specs.Fmt.{decimal, digits, digits_onto}
use Rattle.std.specs.List.{AllByRecursion, flat_map, list_all, suffix_len}
use Rattle.std.specs.Prelude.{codes, encode_utf8_all}
use Rattle.ucd_category.proofs.Computing.{ucd_category}
use Rattle.msc_spoken.specs.Laws as spoken
use Rattle.msc_spoken.specs.Showing.{is_filler, is_shown, is_visible}
use Rattle.msc_spoken.specs.Speaking.{before_blanks, is_blank}
use Rattle.msc_diagnostic.specs.declared.diagnostic.Level.{Level}
use Rattle.msc_diagnostic.specs.declared.diagnostic.Level.TheVariants as levels
use Rattle.msc_diagnostic.specs.declared.diagnostic.NoteKind.{NoteKind}
use Rattle.msc_diagnostic.specs.declared.diagnostic.NoteKind.TheVariants as kinds
use Rattle.msc_diagnostic.specs.declared.mark.Sign.{Sign}
use Rattle.msc_diagnostic.specs.declared.mark.Sign.TheVariants.{Caret, Dash}
use Rattle.msc_diagnostic.specs.declared.window.Window.{Window}
use Rattle.msc_diagnostic.specs.Windows.{dots_if, ended, window_text}
use Rattle.msc_diagnostic.specs.Rows.{blank_before, blanks, end_row, kind_word, level_word, sign_code}
use Rattle.msc_diagnostic.specs.ShownTexts.{AreShownRows, IsShownText}

-- a character that is shown, or ends a row
abbrev Fine : ℕ → Type 0
Fine c = (is_shown c ≡ true) ⊎ (c ≡ 10)

pub none : AreShownRows []
none = record { characters = []; utf8 = refl; shown = tt }

all_both : (P : ℕ → Type 0) (xs ys : List ℕ) → AllByRecursion P xs → AllByRecursion P ys → AllByRecursion P (xs ++ ys)
all_both P [] ys first then = then
all_both P (x ∷ xs) ys first then = (first.0, all_both P xs ys first.1 then)

-- rows, one after the other
pub then : (xs ys : List ℕ) → AreShownRows xs → AreShownRows ys → AreShownRows (xs ++ ys)
then xs ys first second = record {
  characters = first.characters ++ second.characters;
  utf8 = ap (λ t. t ++ ys) first.utf8 ∙ ap (λ t. encode_utf8_all first.characters ++ t) second.utf8 ∙ sym (encodes-append first.characters second.characters);
  shown = all_both Fine first.characters second.characters first.shown second.shown;
}

fine : (cs : List ℕ) → AllByRecursion (λ c. is_shown c ≡ true) cs → AllByRecursion Fine cs
fine [] all = tt
fine (c ∷ cs) all = (inl all.0, fine cs all.1)

-- a text that is shown
pub text_rows : (bytes : List ℕ) → IsShownText bytes → AreShownRows bytes
text_rows bytes is = record { characters = is.characters; utf8 = is.utf8; shown = fine is.characters is.shown }

-- a byte that is a character of its own, and is shown
byte_first : (b : ℕ) (bytes : List ℕ) → b < 128 → Fine b → AreShownRows bytes → AreShownRows (b ∷ bytes)
byte_first b bytes low one rest = record {
  characters = b ∷ rest.characters;
  utf8 = ap (λ t. b ∷ t) rest.utf8 ∙ ap (λ t. t ++ encode_utf8_all rest.characters) (sym (encode_ascii b low));
  shown = (one, rest.shown);
}

-- literals, by computing
abbrev passes : ℕ → Bool
passes b = nat_lt b 128 && is_shown b

first_of : (a b : Bool) → (a && b) ≡ true → a ≡ true
first_of true b is = refl
first_of false b is = absurd cc

second_of : (a b : Bool) → (a && b) ≡ true → b ≡ true
second_of true b is = is
second_of false b is = absurd cc

low_byte : (b : ℕ) → nat_lt b 128 ≡ true → b < 128
low_byte b is = grind (arith, nat_tests)

literal : (bytes : List ℕ) → list_all passes bytes ≡ true → AreShownRows bytes
literal [] is = none
literal (b ∷ bytes) is =
    let one = first_of (passes b) (list_all passes bytes) is in
    byte_first b bytes (low_byte b (first_of (nat_lt b 128) (is_shown b) one)) (inl (second_of (nat_lt b 128) (is_shown b) one)) (literal bytes (second_of (passes b) (list_all passes bytes) is))

blank_shown : is_shown 32 ≡ true
unfolding is_shown is_visible is_filler ucd_category
blank_shown = refl

caret_shown : is_shown 94 ≡ true
unfolding is_shown is_visible is_filler ucd_category
caret_shown = refl

dash_shown : is_shown 45 ≡ true
unfolding is_shown is_visible is_filler ucd_category
dash_shown = refl

dot_shown : is_shown 46 ≡ true
unfolding is_shown is_visible is_filler ucd_category
dot_shown = refl

many : (n b : ℕ) → b < 128 → is_shown b ≡ true → AreShownRows (replicate n b)
many zero b low is = none
many (suc n) b low is = byte_first b (replicate n b) low (inl is) (many n b low is)

pub row_end : AreShownRows (10 ∷ [])
row_end = byte_first 10 [] (omega arith) (inr refl) none

-- the digits of a number
digit_shown : (d : ℕ) → d < 10 → is_shown (48 + d) ≡ true
unfolding is_shown is_visible is_filler ucd_category
digit_shown zero less = refl
digit_shown (suc zero) less = refl
digit_shown (suc (suc zero)) less = refl
digit_shown (suc (suc (suc zero))) less = refl
digit_shown (suc (suc (suc (suc zero)))) less = refl
digit_shown (suc (suc (suc (suc (suc zero))))) less = refl
digit_shown (suc (suc (suc (suc (suc (suc zero)))))) less = refl
digit_shown (suc (suc (suc (suc (suc (suc (suc zero))))))) less = refl
digit_shown (suc (suc (suc (suc (suc (suc (suc (suc zero)))))))) less = refl
digit_shown (suc (suc (suc (suc (suc (suc (suc (suc (suc zero))))))))) less = refl
digit_shown (suc (suc (suc (suc (suc (suc (suc (suc (suc (suc d)))))))))) less = absurd (omega arith)

glyph_rows : (d : ℕ) (bytes : List ℕ) (test : Bool) (other : ℕ) → nat_lt d 10 ≡ test → d < 10 → AreShownRows bytes → AreShownRows (cond test (48 + d) other ∷ bytes)
glyph_rows d bytes true other is less rest = byte_first (48 + d) bytes (omega arith) (inl (digit_shown d less)) rest
glyph_rows d bytes false other is less rest = absurd (grind (arith, nat_tests))

pub either : (b : Bool) (xs ys : List ℕ) → AreShownRows xs → AreShownRows ys → AreShownRows (cond b xs ys)
either true xs ys first second = first
either false xs ys first second = second

digit_rows : (k n : ℕ) (bytes : List ℕ) → AreShownRows bytes → AreShownRows (digits_onto k 10 false n bytes)
digit_rows zero n bytes rest = rest
digit_rows (suc k) n bytes rest =
    let more = glyph_rows (n % 10) bytes (nat_lt (n % 10) 10) (87 + n % 10) refl (omega arith) rest in
    either (n / 10 == 0) _ _ more (digit_rows k (n / 10) _ more)

pub decimal_rows : (n : ℕ) → AreShownRows (decimal n)
unfolding digits
decimal_rows n = digit_rows 64 n [] none

pub each : (X : Type 0) (P : X → Type 0) (f : X → List ℕ) (xs : List X) → ((x : X) → P x → AreShownRows (f x)) → AllByRecursion P xs → AreShownRows (flat_map f xs)
each X P f [] one all = none
each X P f (x ∷ xs) one all = then (f x) (flat_map f xs) (one x all.0) (each X P f xs one all.1)

-- the literals of rows
error_lit : AreShownRows (codes "error")
unfolding is_shown is_visible is_filler ucd_category
error_lit = literal (codes "error") refl

warning_lit : AreShownRows (codes "warning")
unfolding is_shown is_visible is_filler ucd_category
warning_lit = literal (codes "warning") refl

note_lit : AreShownRows (codes "note")
unfolding is_shown is_visible is_filler ucd_category
note_lit = literal (codes "note") refl

help_lit : AreShownRows (codes "help")
unfolding is_shown is_visible is_filler ucd_category
help_lit = literal (codes "help") refl

pub open_lit : AreShownRows (codes "[")
unfolding is_shown is_visible is_filler ucd_category
open_lit = literal (codes "[") refl

pub close_lit : AreShownRows (codes "]")
unfolding is_shown is_visible is_filler ucd_category
close_lit = literal (codes "]") refl

pub colon_lit : AreShownRows (codes ": ")
unfolding is_shown is_visible is_filler ucd_category
colon_lit = literal (codes ": ") refl

pub blank_lit : AreShownRows (codes " ")
unfolding is_shown is_visible is_filler ucd_category
blank_lit = literal (codes " ") refl

pub arrow_lit : AreShownRows (codes "-->")
unfolding is_shown is_visible is_filler ucd_category
arrow_lit = literal (codes "-->") refl

pub bar_sign_lit : AreShownRows (codes " |")
unfolding is_shown is_visible is_filler ucd_category
bar_sign_lit = literal (codes " |") refl

pub dots_lit : AreShownRows (codes "...")
unfolding is_shown is_visible is_filler ucd_category
dots_lit = literal (codes "...") refl

pub equals_lit : AreShownRows (codes " = ")
unfolding is_shown is_visible is_filler ucd_category
equals_lit = literal (codes " = ") refl

pub three_lit : AreShownRows (codes "   ")
unfolding is_shown is_visible is_filler ucd_category
three_lit = literal (codes "   ") refl

pub level_rows : (level : Level) → AreShownRows (level_word level)
level_rows levels.Error = error_lit
level_rows levels.Warning = warning_lit

pub kind_rows : (kind : NoteKind) → AreShownRows (kind_word kind)
kind_rows kinds.Note = note_lit
kind_rows kinds.Help = help_lit

pub sign_rows : (sign : Sign) (count : ℕ) → AreShownRows (replicate count (sign_code sign))
sign_rows Caret count = many count 94 (omega arith) caret_shown
sign_rows Dash count = many count 45 (omega arith) dash_shown

pub blanks_rows : (count : ℕ) → AreShownRows (blanks count)
blanks_rows count = many count 32 (omega arith) blank_shown

pub blank_before_rows : (text : List ℕ) → AreShownRows (blank_before text)
blank_before_rows text = either (length text == 0) [] (codes " ") none blank_lit

pub ended_text : (text : List ℕ) → AreShownRows text → AreShownRows (text ++ end_row)
ended_text text is = then text end_row is row_end

-- what is shown of a line in a window
abbrev Shown : ℕ → Type 0
Shown c = is_shown c ≡ true

dots_shown : spoken.AreShown (codes "...")
dots_shown = All-from_recursion Shown (codes "...") (dot_shown, (dot_shown, (dot_shown, tt)))

one_of_two : (b : Bool) (xs ys : List ℕ) → spoken.AreShown xs → spoken.AreShown ys → spoken.AreShown (cond b xs ys)
one_of_two true xs ys first second = first
one_of_two false xs ys first second = second

ended_shown : (left_out : Bool) (cs : List ℕ) → spoken.AreShown cs → spoken.AreShown (ended left_out cs)
ended_shown left_out cs all =
    one_of_two left_out (cs ++ codes "...") (before_blanks cs) (All-append Shown cs (codes "...") all dots_shown)
    (All-take Shown (length cs - suffix_len is_blank cs) cs all)

window_shown : (window : Window) (cs : List ℕ) → spoken.AreShown cs → spoken.AreShown (window_text window cs)
window_shown window cs all =
    let front = dots_if (nat_lt 0 window.skipped) in
    let front_shown = one_of_two (nat_lt 0 window.skipped) (codes "...") [] dots_shown (All-nil Shown) in
    let part = take window.count (drop window.skipped cs) in
    let part_shown = All-take Shown window.count (drop window.skipped cs) (All-drop Shown window.skipped cs all) in
    ended_shown (nat_lt (window.skipped + window.count) (length cs)) (front ++ part) (All-append Shown front part front_shown part_shown)

pub window_rows : (window : Window) (cs : List ℕ) → spoken.AreShown cs → AreShownRows (encode_utf8_all (window_text window cs))
window_rows window cs all = record {
  characters = window_text window cs;
  utf8 = refl;
  shown = fine (window_text window cs) (recursion_from_All Shown (window_text window cs) (window_shown window cs all));
}
