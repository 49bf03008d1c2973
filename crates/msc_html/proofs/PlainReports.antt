-- That reports are plain, where the texts of their pictures are.
use Rattle.std.proofs.Common.{◌≡◌, ℕ, ◌-◌, Bool, true, false, cond, List, [], ◌∷◌, Option, None, Some, codes, length, map, nat_eq, nat_lt, refl}
use Rattle.std.specs.Fmt.{decimal}
use Rattle.msc_chart.specs.Architectures.{usual_of}
use Rattle.msc_chart.specs.Drawings.{Drawing}
use Rattle.msc_chart.specs.declared.queue.Queues.{Queues}
use Rattle.msc_chart.specs.declared.queue.LinkKind.{LinkKind}
use Rattle.msc_chart.specs.declared.queue.LinkKind.TheVariants.{Pair, Mailbox, Single}
use Rattle.msc_chart.proofs.ListLemmas.{by_test}
use Rattle.msc_draw.specs.Verdicts.{counts_text, races_word, verdict_text}
use Rattle.msc_links.specs.Said.{queue_options, queues_said}
use Rattle.msc_picture.specs.declared.scene.Scene.{Scene}
use Rattle.msc_picture.specs.Plain.{HasPlainTexts, is_plain, is_plain_byte}
use Rattle.msc_picture.proofs.PlainBytes.{looks_plain, plain_by, plain_choice, plain_cons, plain_decimal, plain_join, plain_shown, plain_single}
use Rattle.msc_svg.specs.Elements.{picture_nodes}
use Rattle.msc_svg.specs.Layouts.{layout_of}
use Rattle.msc_svg.specs.Svg.{tip}
use Rattle.msc_svg.proofs.PlainSvg.{elements_plain, size_plain, tip_plain}
use Rattle.msc_svg.proofs.PlainTrees.{PlainAttributes, PlainLines, PlainNode, block_plain, both_plain, choice_lines, class_plain, empty_plain, held_plain, join_lines, line_plain, more_plain, next_line, no_lines, none_plain, opened_plain, valued_plain}
use Rattle.msc_tree.specs.Trees.{Attribute, Node, children, opened}
use Rattle.msc_tree.specs.Trees.Node.{block}
use Rattle.msc_html.specs.declared.article.ShownRace.{ShownRace}
use Rattle.msc_html.specs.declared.part.SentenceStyle.TheVariants.{Plain, Soft, Verdict, Pass, Scrolled}
use Rattle.msc_html.specs.Articles.{Article, article_node, open_attributes, place_text, run_node, run_text, run_told, told_nodes}
use Rattle.msc_html.specs.Figures.{drawing_attributes, drawing_node, figure_node, figure_of}
use Rattle.msc_html.specs.Front.{advice_nodes, head_node, named_meta, sheet, store_node}
use Rattle.msc_html.specs.Parts.{code, words}
use Rattle.msc_html.specs.Plain.{ArePlainRuns, HasPlainInstances}
use Rattle.msc_html.specs.Reports.{Report, begin_nodes, body_node, caption_text, chart_node, chart_nodes, checked_text, count_text, counted_nodes, end_nodes, front_nodes, if_any, link_text, main_nodes, more_node, more_nodes, passed_nodes, queues_text, race_text, races_nodes, races_title, report_node, report_text, shown_node, text_byte, title_text, verdict_nodes, version_node}
use Rattle.msc_html.proofs.PlainQueues.{options_plain, said_plain}
use Rattle.msc_html.proofs.PlainSentences.{drawn_plain, causes_plain, next_part, no_parts, one_part, reason_plain, sentence_plain, title_plain}

-- a block, which may be empty
block_any : (name : List ℕ) (attributes : List Attribute) (xs : List Node) → looks_plain name ≡ true
    → PlainAttributes attributes → PlainLines xs → PlainNode (block name attributes (children xs))
unfolding PlainNode
block_any name attributes [] p q r =
    plain_join (opened name attributes) (codes "/>") (opened_plain name attributes p q) (plain_by _ refl)
block_any name attributes (x ∷ xs) p q r = block_plain name attributes x xs p q r

-- a figure
drawing_plain : (s : Scene) (label : List ℕ) → HasPlainTexts s → is_plain label ≡ true
    → PlainNode (drawing_node s label)
drawing_plain s label texts p =
    let l = layout_of s [] in
    block_any (codes "svg") (drawing_attributes l label) (picture_nodes s l []) refl
    (both_plain _ _ (size_plain l)
    (more_plain _ _ (valued_plain (codes "role") (codes "img") refl (plain_by _ refl))
    (more_plain _ [] (valued_plain (codes "aria-label") label refl p) none_plain)))
    (elements_plain s l [] texts (plain_by [] refl))

node_choice : (b : Bool) (x y : Node) → PlainNode x → PlainNode y → PlainNode (cond b x y)
node_choice true x y p q = p
node_choice false x y p q = q

figure_plain : (s : Scene) (label : List ℕ) (below : List Node) → HasPlainTexts s
    → is_plain label ≡ true → PlainLines below → PlainNode (figure_of s label below)
figure_plain s label below texts p q =
    node_choice (nat_eq (length s.heads) 0) _ (figure_node s label below)
    (held_plain (codes "p") (codes "It has no instances.") refl (plain_by _ refl))
    (block_plain (codes "figure") _ (drawing_node s label) below refl
    (more_plain _ [] (valued_plain (codes "tabindex") (codes "0") refl (plain_by _ refl)) none_plain)
    (next_line (drawing_node s label) below (drawing_plain s label texts p) q))

-- an article
run_plain : (t : ShownRace) → is_plain (run_text t) ≡ true
run_plain t =
    plain_join _ (decimal t.first) (plain_join _ (codes " before event ")
    (plain_join (codes "A run with event ") (decimal t.second) (plain_by _ refl)
    (plain_decimal t.second)) (plain_by _ refl)) (plain_decimal t.first)

told_plain : (d : Drawing) (queues : Queues) (t : ShownRace) → HasPlainInstances d → PlainNode (run_told d queues t)
told_plain d queues t names =
    sentence_plain (codes "p") Plain _ refl
    (next_part (words _) _ (plain_join (run_text t) (codes ": ") (run_plain t) (plain_by _ refl))
    (next_part (code _) _ (plain_join _ (decimal t.second) (plain_join _ (codes " ") (plain_join _ (decimal t.first)
    (plain_join _ (codes " FILE ") (plain_join (codes "msc reverse ") (queue_options d queues)
    (plain_by _ refl) (options_plain d queues names)) (plain_by _ refl)) (plain_decimal t.first))
    (plain_by _ refl)) (plain_decimal t.second)) no_parts))

attributes_choice : (b : Bool) (xs ys : List Attribute) → PlainAttributes xs → PlainAttributes ys
    → PlainAttributes (cond b xs ys)
attributes_choice true xs ys p q = p
attributes_choice false xs ys p q = q

run_node_plain : (d : Drawing) (queues : Queues) (t : ShownRace) (o : Option Scene) → HasPlainInstances d
    → ((run : Scene) → o ≡ Some run → HasPlainTexts run) → PlainNode (run_node d queues t o)
run_node_plain d queues t None names texts = told_plain d queues t names
run_node_plain d queues t (Some run) names texts =
    block_plain (codes "details") (open_attributes t.number) _ _ refl
    (attributes_choice (nat_lt t.number 4) _ [] (more_plain _ [] (valued_plain (codes "open") [] refl
    (plain_by [] refl)) none_plain) none_plain)
    (next_line _ _ (held_plain (codes "summary") (run_text t) refl (run_plain t))
    (next_line _ [] (figure_plain run (run_text t) [] (texts run refl) (run_plain t) no_lines) no_lines))

article_plain : (s : Scene) (d : Drawing) (queues : Queues) (a : Article) → HasPlainInstances d → HasPlainTexts s
    → ((run : Scene) → a.run ≡ Some run → HasPlainTexts run) → PlainNode (article_node s d queues a)
article_plain s d queues a names texts runs =
    let t = a.told in
    block_plain (codes "article") _ _ _ refl
    (more_plain _ [] (valued_plain (codes "id") (place_text t.number) refl
    (plain_join (codes "race-") (decimal t.number) (plain_by _ refl) (plain_decimal t.number)))
    none_plain)
    (join_lines (told_nodes s t) (run_node d queues t a.run ∷ [])
    (next_line _ _ (sentence_plain (codes "h3") Plain _ refl (title_plain s texts t.number t.first t.cause))
    (next_line _ _ (sentence_plain (codes "p") Plain _ refl (drawn_plain s texts t.first t.second))
    (next_line _ _ (sentence_plain (codes "p") Plain _ refl
    (reason_plain s texts t.first t.second t.cause))
    (next_line _ [] (sentence_plain (codes "p") Plain _ refl (causes_plain s texts t.cause)) no_lines))))
    (next_line _ [] (run_node_plain d queues t a.run names runs) no_lines))

articles_plain : (s : Scene) (d : Drawing) (queues : Queues) (articles : List Article) → HasPlainInstances d
    → HasPlainTexts s → ArePlainRuns articles → PlainLines (map (article_node s d queues) articles)
articles_plain s d queues [] names texts runs = no_lines
articles_plain s d queues (a ∷ others) names texts runs =
    next_line (article_node s d queues a) (map (article_node s d queues) others)
    (article_plain s d queues a names texts runs.0) (articles_plain s d queues others names texts runs.1)

-- the verdict
count_plain : (races closest : ℕ) → is_plain (count_text races closest) ≡ true
count_plain races closest =
    plain_choice (nat_eq races 1) (codes "1 race") _ (plain_by _ refl)
    (plain_join _ (codes " of them closest") (plain_join _ (decimal closest)
    (plain_join (decimal races) (codes " races, ") (plain_decimal races) (plain_by _ refl))
    (plain_decimal closest)) (plain_by _ refl))

verdict_plain : (races closest : ℕ) → PlainLines (verdict_nodes races closest)
verdict_plain races closest =
    choice_lines (nat_eq races 0) passed_nodes (counted_nodes races closest)
    (next_line _ _ (sentence_plain (codes "p") Pass _ refl (one_part _ (plain_by _ refl)))
    (next_line _ [] (held_plain (codes "p") _ refl (plain_by _ refl)) no_lines))
    (next_line _ _ (sentence_plain (codes "p") Verdict _ refl (one_part _ (count_plain races closest)))
    (next_line _ [] (held_plain (codes "p") race_text refl (plain_by _ refl)) no_lines))

-- the verdict over a picture
pub over_plain : (d : Drawing) (queues : Queues) (races closest : ℕ) → HasPlainInstances d
    → is_plain (verdict_text d queues races closest) ≡ true
over_plain d queues races closest names =
    plain_join _ _ (plain_join (queues_said d queues) (codes ": ") (said_plain d queues names) (plain_by _ refl))
    (plain_choice (nat_eq races 0) (codes "pass") (counts_text races closest) (plain_by _ refl)
    (plain_join _ (codes " closest") (plain_join _ (decimal closest)
    (plain_join (decimal races) (races_word races) (plain_decimal races)
    (plain_choice (nat_eq races 1) _ _ (plain_by _ refl) (plain_by _ refl)))
    (plain_decimal closest)) (plain_by _ refl)))

title_of_page : (name : List ℕ) (d : Drawing) (queues : Queues) (races closest : ℕ) → HasPlainInstances d
    → is_plain name ≡ true → is_plain (title_text name d queues races closest) ≡ true
title_of_page name d queues races closest names p =
    plain_join _ (verdict_text d queues races closest) (plain_join name (codes ", ") p (plain_by _ refl))
    (over_plain d queues races closest names)

link_told : (kind : LinkKind) → is_plain (link_text kind) ≡ true
link_told Pair = plain_by _ refl
link_told Mailbox = plain_by _ refl
link_told Single = plain_by _ refl

queues_told : (queues : Queues) → is_plain (queues_text queues) ≡ true
queues_told queues = link_told (usual_of queues)

checked_plain : (d : Drawing) (queues : Queues) → HasPlainInstances d → is_plain (checked_text d queues) ≡ true
checked_plain d queues names =
    plain_join _ (codes ").") (plain_join _ (queues_said d queues) (plain_join _ (codes " (")
    (plain_join (codes "Message sequence chart, checked with ") (queues_text queues)
    (plain_by _ refl) (queues_told queues)) (plain_by _ refl))
    (said_plain d queues names)) (plain_by _ refl)

front_plain : (s : Scene) (d : Drawing) (queues : Queues) (races closest : ℕ) → HasPlainInstances d → HasPlainTexts s
    → PlainLines (front_nodes s d queues races closest)
front_plain s d queues races closest names texts =
    join_lines _ (chart_nodes s races)
    (join_lines (begin_nodes s.name d queues) (verdict_nodes races closest)
    (next_line _ _ (held_plain (codes "h1") s.name refl texts.name)
    (next_line _ [] (sentence_plain (codes "p") Soft _ refl (one_part _ (checked_plain d queues names))) no_lines))
    (verdict_plain races closest))
    (next_line _ _ (held_plain (codes "h2") (codes "The chart") refl (plain_by _ refl))
    (next_line (chart_node s races) [] (figure_plain s (codes "The chart as drawn") _ texts
    (plain_by _ refl) (choice_lines (nat_eq (length (caption_text races)) 0) [] _ no_lines
    (next_line _ [] (held_plain (codes "figcaption") (caption_text races) refl
    (plain_choice (nat_eq races 0) _ _ (plain_by _ refl) (plain_by _ refl))) no_lines))) no_lines))

-- what stands below the articles
more_races : (d : Drawing) (queues : Queues) (closest : ℕ) → HasPlainInstances d → PlainLines (more_nodes d queues closest)
more_races d queues closest names =
    choice_lines (nat_lt 50 closest) _ [] (next_line (more_node d queues closest) []
    (sentence_plain (codes "p") Plain _ refl
    (next_part (words _) _ (plain_join _ (codes " more: ") (plain_join (codes "And ") (decimal (closest - 50))
    (plain_by _ refl) (plain_decimal (closest - 50))) (plain_by _ refl))
    (next_part (code _) _ (plain_join _ (codes " --closest --why FILE") (plain_join (codes "msc check ")
    (queue_options d queues) (plain_by _ refl) (options_plain d queues names)) (plain_by _ refl)) no_parts))) no_lines)
    no_lines

advice_plain : PlainLines advice_nodes
unfolding PlainLines
advice_plain = plain_by _ refl

races_plain : (d : Drawing) (queues : Queues) (races closest : ℕ) (articles : List Node) → HasPlainInstances d
    → PlainLines articles → PlainLines (races_nodes d queues races closest articles)
races_plain d queues races closest articles names p =
    join_lines _ (if_any races advice_nodes)
    (join_lines _ (more_nodes d queues closest)
    (join_lines (if_any races races_title) articles
    (choice_lines (nat_eq races 0) [] races_title no_lines
    (next_line _ [] (held_plain (codes "h2") (codes "Closest races") refl (plain_by _ refl)) no_lines)) p)
    (more_races d queues closest names)) (choice_lines (nat_eq races 0) [] advice_nodes no_lines advice_plain)

-- the text, masked
masked_byte : (b : ℕ) → is_plain_byte (text_byte b) ≡ true
masked_byte b = by_test (nat_eq b 10)
    (λ end. rw end refl)
    (λ other. rw other (plain_cons _ [] (plain_shown (b ∷ []))).0)

masked_plain : (text : List ℕ) → is_plain (map text_byte text) ≡ true
masked_plain [] = plain_by [] refl
masked_plain (b ∷ bs) =
    plain_join (text_byte b ∷ []) (map text_byte bs) (plain_single (text_byte b) (masked_byte b))
    (masked_plain bs)

end_plain : (text version : List ℕ) → is_plain version ≡ true → PlainLines (end_nodes text version)
end_plain text version p =
    next_line _ _ (held_plain (codes "h2") (codes "The text") refl (plain_by _ refl))
    (next_line (shown_node text) _ (sentence_plain (codes "pre") Scrolled _ refl
    (one_part _ (masked_plain text)))
    (next_line (version_node version) [] (held_plain (codes "footer") _ refl
    (plain_join (codes "msc ") version (plain_by _ refl) p)) no_lines))

sheet_plain : is_plain sheet ≡ true
sheet_plain = plain_by sheet refl

meta_plain : (name content : List ℕ) → looks_plain name ≡ true → looks_plain content ≡ true
    → PlainNode (named_meta name content)
meta_plain name content p q =
    empty_plain (codes "meta") _ refl
    (more_plain _ _ (valued_plain (codes "name") name refl (plain_by name p))
    (more_plain _ [] (valued_plain (codes "content") content refl (plain_by content q)) none_plain))

head_plain : (title : List ℕ) → is_plain title ≡ true → PlainNode (head_node title)
head_plain title p =
    block_plain (codes "head") [] _ _ refl none_plain
    (next_line _ _ (empty_plain (codes "meta") _ refl
    (more_plain _ [] (valued_plain (codes "charset") (codes "utf-8") refl (plain_by _ refl)) none_plain))
    (next_line _ _ (meta_plain (codes "viewport") (codes "width=device-width,initial-scale=1") refl refl)
    (next_line _ _ (meta_plain (codes "color-scheme") (codes "light dark") refl refl)
    (next_line _ _ (held_plain (codes "title") title refl p)
    (next_line _ [] (held_plain (codes "style") sheet refl sheet_plain) no_lines)))))

store_plain : PlainNode store_node
store_plain =
    block_plain (codes "svg") _ tip [] refl
    (more_plain _ _ (class_plain (codes "store") (plain_by _ refl))
    (more_plain _ _ (valued_plain (codes "width") (codes "0") refl (plain_by _ refl))
    (more_plain _ _ (valued_plain (codes "height") (codes "0") refl (plain_by _ refl))
    (more_plain _ [] (valued_plain (codes "aria-hidden") (codes "true") refl (plain_by _ refl))
    none_plain)))) (next_line tip [] tip_plain no_lines)

main_plain : (r : Report) → HasPlainInstances r.chart → HasPlainTexts r.scene → ArePlainRuns r.articles → is_plain r.version ≡ true
    → PlainLines (main_nodes r)
main_plain r names texts runs p =
    join_lines _ (end_nodes r.text r.version)
    (join_lines (front_nodes r.scene r.chart r.queues r.races r.closest) _
    (front_plain r.scene r.chart r.queues r.races r.closest names texts)
    (races_plain r.chart r.queues r.races r.closest _ names (articles_plain r.scene r.chart r.queues r.articles names texts runs)))
    (end_plain r.text r.version p)

-- so is the whole page
pub report_plain : (r : Report) → HasPlainInstances r.chart → HasPlainTexts r.scene → ArePlainRuns r.articles
    → is_plain r.version ≡ true → is_plain (report_text r) ≡ true
report_plain r names texts runs p =
    plain_join (codes "<!DOCTYPE html>\n") _ (plain_by _ refl)
    (line_plain (report_node r) (block_plain (codes "html") _ _ _ refl
    (more_plain _ [] (valued_plain (codes "lang") (codes "en") refl (plain_by _ refl)) none_plain)
    (next_line _ _ (head_plain (title_text r.scene.name r.chart r.queues r.races r.closest)
    (title_of_page r.scene.name r.chart r.queues r.races r.closest names texts.name))
    (next_line (body_node r) [] (block_plain (codes "body") [] store_node _ refl none_plain
    (next_line store_node _ store_plain
    (next_line _ [] (block_any (codes "main") [] (main_nodes r) refl none_plain
    (main_plain r names texts runs p)) no_lines))) no_lines))))
