-- A text's diagram is one as it is read.
use Rattle.std.proofs.Common.{◌≡◌, ℕ, ◌+◌, ◌≤◌, ◌==◌, Bool, true, false, cond, ◌-◌, nat_eq, nat_le, nat_lt, length, map, drop, sym, arith, inl, inr, List, [], ◌∷◌, Option, None, Some, Result, Ok, Err, refl, ap, subst, ◌∙◌}
use Rattle.std.specs.List.{starts_with}
use Rattle.std.proofs.lemmas.Bool.{cases_lt, lt-ltb}
use Rattle.std.proofs.lemmas.List.{length-append}
use Rattle.msc_chart.proofs.ListLemmas.{by_test, clash}
use Rattle.msc_lexer.specs.declared.TheConstants.{TEXT_LIMIT}
use Rattle.msc_mermaid.specs.declared.fault.ImportFault.{ImportFault}
use Rattle.msc_mermaid.specs.declared.fault.ImportFault.TheVariants.{Expected, NoDiagram, Stray, TooLong}
use Rattle.msc_mermaid.specs.declared.fault.Expectation.TheVariants as expectations
use Rattle.msc_import.specs.declared.importing.Language.{Language}
use Rattle.msc_import.specs.declared.importing.Language.TheVariants as languages
use Rattle.msc_mermaid.specs.declared.statement.Cross.{Cross}
use Rattle.msc_mermaid.specs.declared.statement.Diagram.{Diagram}
use Rattle.msc_markdown.specs.declared.markdown.Start.{Start}
use Rattle.msc_markdown.specs.Markdowns.{Found, block_diagram, diagram_of_block, first_diagram, found_in, is_block, is_markup, is_none, markdown, own_parts, said_by}
use Rattle.msc_markdown.proofs.RoomLemmas.{own_room, parts_room}
use Rattle.msc_import.specs.Importing.{begins_at, begins_diagram, diagram_by, diagram_from, diagram_in, is_any, only_diagram, told_by_content}
use Rattle.msc_mermaid.specs.Lines.{behind_mark, led_by, lines_behind, lines_of, starts_of}
use Rattle.msc_mermaid.specs.Cutting.{room}
use Rattle.msc_mermaid.specs.Mermaid.{mermaid, said_in}
use Rattle.msc_mermaid.specs.Parts.{Stretch, blanked, first_place, said_of}
use Rattle.msc_mermaid.proofs.StepLemmas.{read_all, read_parts}
use Rattle.msc_place.specs.declared.position.Position.{Position}
use Rattle.msc_import_laws.specs.Lines.{StandsOnce}
use Rattle.msc_import_laws.specs.Outlined.{IsOutlined}
use Rattle.msc_mermaid.proofs.SpellLemmas.{bound}
use Rattle.msc_import_laws.proofs.Reading.{IsFound, IsRead, comment_read, none_read, one_read, read_outlined, read_same}
use Rattle.msc_mermaid.proofs.StepLemmas.{drop_short}

led_room : (front : List ℕ) (ls : List (List ℕ)) → 1 ≤ room ls → room (led_by front ls) ≡ length front + room ls
unfolding room
led_room front [] h = absurd (omega (arith, h))
led_room front (l ∷ ls) h = let r = length-append front l in omega (arith, r)

text_room : (cr : Bool) (bs : List ℕ) → (1 ≤ room (lines_behind cr bs)) × (room (lines_behind cr bs) ≤ length bs + 1)
unfolding room lines_behind
text_room cr [] = (omega arith, omega arith)
text_room cr (b ∷ bs) =
    let plain = text_room false bs in
    let behind = text_room true bs in
    by_test (b == 13)
    (λ return. rw return (let h = behind.1 in (omega arith, omega (arith, h))))
    (λ other. by_test (b == 10)
    (λ feed. rw (other, feed) (by_test cr
    (λ again. rw again (let l = plain.0 in let h = plain.1 in (omega (arith, l), omega (arith, h))))
    (λ first. rw first (let h = plain.1 in (omega arith, omega (arith, h))))))
    (λ byte. rw (other, byte) (let l = led_room (b ∷ []) (lines_behind false bs) plain.0 in let h = plain.1 in (omega (arith, l), omega (arith, l, h)))))

-- the diagram of a Mermaid text
cond_short : (b : Bool) (text : List ℕ) → length (cond b (drop 3 text) text) ≤ length text
cond_short true text = drop_short 3 text
cond_short false text = omega arith

pub mermaid_outlined : (cross : Option Cross) (text : List ℕ) (d : Diagram) → mermaid cross text ≡ Ok d → IsFound d
unfolding mermaid
mermaid_outlined cross text d e =
    by_test (nat_lt TEXT_LIMIT (length text))
    (λ long. let f : ◌≡◌ {A = Result Diagram ImportFault} (Err TooLong) (Ok d) = sym (ap (λ b. cond b (Err TooLong) (said_in cross (starts_of text) (lines_of text))) long) ∙ e in cc)
    (λ short.
    let f : said_in cross (starts_of text) (lines_of text) ≡ Ok d = sym (ap (λ b. cond b (Err TooLong) (said_in cross (starts_of text) (lines_of text))) short) ∙ e in
    let r = read_all IsRead (λ n k r le read. read_same n k r r le refl refl refl read) one_read comment_read cross (starts_of text) (lines_of text) d f none_read in
    let within : length text ≤ TEXT_LIMIT = elim (cases_lt TEXT_LIMIT (length text)) [ inl lt ↦ clash (lt-ltb TEXT_LIMIT (length text) lt) short | inr ge ↦ ge ] in
    let a = (text_room false (behind_mark text)).1 in
    let c = cond_short (starts_with nat_eq text (239 ∷ 187 ∷ 191 ∷ [])) text in
    read_outlined (0 + room (lines_of text)) r.0 d (omega (arith, a, c, within)) r.1 r.2)

-- and of a text in any language, in Markdown or not
content_outlined : (cross : Option Cross) (text : List ℕ) (d : Diagram) → told_by_content cross text ≡ Ok d → IsFound d
unfolding told_by_content
content_outlined cross text d e =
    by_test (nat_lt TEXT_LIMIT (length text))
    (λ long. let f : ◌≡◌ {A = Result Diagram ImportFault} (Err TooLong) (Ok d) = sym (ap (λ b. cond b (Err TooLong) (begun text)) long) ∙ e in cc)
    (λ short.
    let f : begun text ≡ Ok d = sym (ap (λ b. cond b (Err TooLong) (begun text)) short) ∙ e in
    by_test (begins_diagram text)
    (λ here. mermaid_outlined cross text d (sym (ap (λ b. cond b (mermaid cross text) (none text)) here) ∙ f))
    (λ nowhere. let g : none text ≡ Ok d = sym (ap (λ b. cond b (mermaid cross text) (none text)) nowhere) ∙ f in cc))
  where
    none : List ℕ → Result Diagram ImportFault
    none text = Err (Expected (begins_at text) expectations.AnyDiagram)

    begun : List ℕ → Result Diagram ImportFault
    begun text = cond (begins_diagram text) (mermaid cross text) (none text)

by_outlined : (language : Language) (cross : Option Cross) (text : List ℕ) (d : Diagram) → diagram_by language cross text ≡ Ok d → IsFound d
unfolding diagram_by
by_outlined languages.Mermaid cross text d e = mermaid_outlined cross text d e
by_outlined languages.Any cross text d e = content_outlined cross text d e

-- the diagram of parts of lines that are not too long
module _ (cross : Option Cross) (d : Diagram) where
  parts_outlined : (markup : Bool) (starts : List ℕ) (last : Position) (parts : List Stretch) → room (map blanked parts) ≤ TEXT_LIMIT + 1 → said_of markup cross starts last parts ≡ Ok d → IsFound d
  parts_outlined markup starts last parts few e =
      let r = read_parts IsRead (λ n k r le read. read_same n k r r le refl refl refl read) one_read comment_read markup cross starts last parts d e none_read in
      read_outlined (0 + room (map blanked parts)) r.0 d (omega (arith, few)) r.1 r.2

  module _ (any : Bool) (f : Found) (few : room (map blanked f.parts) ≤ TEXT_LIMIT + 1) where
    -- and of a block of these
    said_outlined : (markup : Bool) (parts : List Stretch) → room (map blanked parts) ≤ TEXT_LIMIT + 1 → said_by markup any cross f parts ≡ Ok d → IsFound d
    said_outlined markup parts low e = by (is_none any parts) e
      where
        by : (b : Bool) → ◌≡◌ {A = Result Diagram ImportFault} (cond b (Err (Expected (first_place parts f.end) expectations.AnyDiagram)) (said_of markup cross f.line_starts f.end parts)) (Ok d) → IsFound d
        by true e = cc
        by false e = parts_outlined markup f.line_starts f.end parts low e

    block_outlined : (s : Start) (others : List Start) → block_diagram any cross f s others ≡ Ok d → IsFound d
    block_outlined s others e = by (is_block s) e
      where
        by : (b : Bool) → ◌≡◌ {A = Result Diagram ImportFault} (cond b (said_by (is_markup s.kind) any cross f (own_parts s others f.parts)) (Err (Stray (first_place (own_parts s others f.parts) f.end)))) (Ok d) → IsFound d
        by true e = let o = own_room s others f.parts in said_outlined (is_markup s.kind) (own_parts s others f.parts) (omega (arith, o, few)) e
        by false e = cc

    first_outlined : (n : ℕ) (blocks : List Start) → first_diagram any cross f n blocks ≡ Ok d → IsFound d
    first_outlined n [] e = cc
    first_outlined n (s ∷ ss) e = block_outlined s ss e

    number_outlined : (n : ℕ) → diagram_of_block any cross n f ≡ Ok d → IsFound d
    unfolding diagram_of_block
    number_outlined n e = by (nat_le 1 n) e
      where
        by : (b : Bool) → ◌≡◌ {A = Result Diagram ImportFault} (cond b (first_diagram any cross f n (drop (n - 1) f.blocks)) (Err (NoDiagram n))) (Ok d) → IsFound d
        by true e = first_outlined n (drop (n - 1) f.blocks) e
        by false e = cc

-- what a text holds has no more room than the text
found_few : (text : List ℕ) (f : Found) → markdown text ≡ Ok f → room (map blanked f.parts) ≤ TEXT_LIMIT + 1
unfolding markdown
found_few text f e =
    by_test (nat_lt TEXT_LIMIT (length text))
    (λ long. let g : ◌≡◌ {A = Result Found ImportFault} (Err TooLong) (Ok f) = sym (ap (λ b. cond b (Err TooLong) (Ok (found_in text))) long) ∙ e in cc)
    (λ short.
    let g : ◌≡◌ {A = Result Found ImportFault} (Ok (found_in text)) (Ok f) = sym (ap (λ b. cond b (Err TooLong) (Ok (found_in text))) short) ∙ e in
    let same : found_in text ≡ f = cc in
    let within : length text ≤ TEXT_LIMIT = elim (cases_lt TEXT_LIMIT (length text)) [ inl lt ↦ clash (lt-ltb TEXT_LIMIT (length text) lt) short | inr ge ↦ ge ] in
    let p = parts_room 1 None (lines_of text) in
    let a = (text_room false (behind_mark text)).1 in
    let c = cond_short (starts_with nat_eq text (239 ∷ 187 ∷ 191 ∷ [])) text in
    subst (λ (x : Found). room (map blanked x.parts) ≤ TEXT_LIMIT + 1) same (omega (arith, p, a, c, within)))

only_outlined : (language : Language) (cross : Option Cross) (f : Found) (ns : List ℕ) (d : Diagram) → room (map blanked f.parts) ≤ TEXT_LIMIT + 1 → only_diagram language cross f ns ≡ Ok d → IsFound d
only_outlined language cross f [] d few e = by_outlined language cross f.text d e
only_outlined language cross f (n ∷ []) d few e = number_outlined cross d (is_any language) f few n e
only_outlined language cross f (n ∷ m ∷ ns) d few e = cc

from_outlined : (language : Language) (cross : Option Cross) (fence : Option ℕ) (f : Found) (d : Diagram) → room (map blanked f.parts) ≤ TEXT_LIMIT + 1 → diagram_from language cross fence f ≡ Ok d → IsFound d
unfolding diagram_from
from_outlined language cross None f d few e = by f.whole e
  where
    by : (b : Bool) → cond b (diagram_by language cross f.text) (only_diagram language cross f f.numbers) ≡ Ok d → IsFound d
    by true e = by_outlined language cross f.text d e
    by false e = only_outlined language cross f f.numbers d few e
from_outlined language cross (Some number) f d few e = number_outlined cross d (is_any language) f few number e

text_found : (language : Language) (cross : Option Cross) (fence : Option ℕ) (text : List ℕ) (d : Diagram) → diagram_in language cross fence text ≡ Ok d → IsFound d
unfolding diagram_in
text_found language cross fence text d e =
    let b = bound (markdown text) (diagram_from language cross fence) d e in
    from_outlined language cross fence b.0 d (found_few text b.0 b.1) b.2

pub text_outlined : (language : Language) (cross : Option Cross) (fence : Option ℕ) (text : List ℕ) (d : Diagram) → diagram_in language cross fence text ≡ Ok d → IsOutlined d
text_outlined language cross fence text d e = (text_found language cross fence text d e).outlined

-- each of its lines stands once
pub text_once : (language : Language) (cross : Option Cross) (fence : Option ℕ) (text : List ℕ) (d : Diagram) → diagram_in language cross fence text ≡ Ok d → StandsOnce d.lines
text_once language cross fence text d e = (text_found language cross fence text d e).once
