-- The texts of events while they are made, and the lines that are put together of them.
use Rattle.std.proofs.Common.{◌≡◌, ℕ, ◌+◌, ◌-◌, ◌<◌, ◌≤◌, List, [], ◌∷◌, ◌++◌, codes, length, take, drop, map, get_or, None, refl, sym, ap, ap₂, ◌∙◌, subst, inl, inr, arith, append_assoc, slice_range, length-append, length-drop, length-take}
use Rattle.std.proofs.Math.Seq.{drop-append_seam, take-append_seam, take-append-add}
use Rattle.std.proofs.lemmas.Bool.{cases_lt}
use Rattle.std.proofs.lemmas.List.{append-nil, drop-append-le, take-append-le, take-take, get_or_append_left, get_or-append-add, get_or-map, length-map}
use Rattle.std.proofs.lemmas.List.Elements.{All-get_or, All-push, All-weaker}
use Rattle.msc_chart.specs.Drawings.{Drawing}
use Rattle.msc_report.specs.declared.event_texts.Span.{Span}
use Rattle.msc_report.specs.EventTexts.{EventText, parts_of, no_text, AreTextsOf}
use Rattle.msc_report.specs.Editors.{told_text}
use Rattle.msc_report.specs.Lines.{both_at, pair_line}
use Rattle.msc_report.specs.Spans.{named_text, place_text, text_at, no_span, with_parts, AllAreShort, AreShort, IsSpanIn, HasPutText, AreMade}
use Rattle.msc_report.specs.BlockedPairs.{told_line}
use Rattle.msc_report.specs.Verdicts.{event_text, race_text, spaced}

-- what stands within a list stands there when more is put behind it
pub range_kept : (xs ys : List ℕ) (i j : ℕ) → i ≤ j → j ≤ length xs → slice_range (xs ++ ys) i j ≡ slice_range xs i j
range_kept xs ys i j rising within =
    let size = length-drop i xs in
    ap (take (j - i)) (drop-append-le i xs ys (omega (arith, rising, within)))
    ∙ take-append-le (j - i) (drop i xs) ys (omega (arith, rising, within, size))

-- and so do the parts of a text
text_kept : (old rest : List ℕ) (s : Span) → IsSpanIn old s → text_at (old ++ rest) s ≡ text_at old s
text_kept old rest s within =
    let opening = within.opening in
    let number = within.number in
    let colon = within.colon in
    let first = within.first in
    let next = within.next in
    let placed = within.placed in
    let second = within.second in
    let stop = within.stop in
    let end = within.end in
    rw (
      range_kept old rest s.opening s.colon (omega (arith, opening, number)) (omega (arith, end, stop, second, placed, next, first, colon)),
      range_kept old rest s.number s.colon number (omega (arith, end, stop, second, placed, next, first, colon)),
      range_kept old rest s.number s.first (omega (arith, number, colon)) (omega (arith, end, stop, second, placed, next, first)),
      range_kept old rest s.first s.placed (omega (arith, first, next)) (omega (arith, end, stop, second, placed)),
      range_kept old rest s.second s.end (omega (arith, second, stop)) end,
      range_kept old rest s.second s.stop second (omega (arith, end, stop)),
      range_kept old rest s.placed s.stop (omega (arith, placed, second)) (omega (arith, end, stop)),
      range_kept old rest s.next s.end (omega (arith, next, placed, second, stop)) end,
    ) refl

-- whose places are within the longer list
within_kept : (old rest : List ℕ) (s : Span) → IsSpanIn old s → IsSpanIn (old ++ rest) s
within_kept old rest s within = record {
  opening = within.opening;
  number = within.number;
  colon = within.colon;
  first = within.first;
  next = within.next;
  placed = within.placed;
  second = within.second;
  stop = within.stop;
  end = let size = length-append old rest in let end = within.end in omega (arith, size, end);
}

-- and the texts that were made stand there
pub made_kept : (d : Drawing) (old rest : List ℕ) (spans : List Span) (e : ℕ)
    → AreMade d old spans e → AreMade d (old ++ rest) spans e
made_kept d old rest spans e made = record {
  size = made.size;
  within = All-weaker (IsSpanIn old) (IsSpanIn (old ++ rest)) (within_kept old rest) spans made.within;
  each = λ k below.
      let there : k < length spans = let size = made.size in omega (arith, below, size) in
      text_kept old rest (get_or spans k no_span) (All-get_or (IsSpanIn old) spans k no_span there made.within)
      ∙ made.each k below;
}

-- of texts whose parts are all short, each two make a race whose parts are short
pub each_two_short : (bytes : List ℕ) (spans : List Span) (e f : ℕ) (one two : Span)
    → AllAreShort bytes spans → e < length spans → f < length spans
    → one ≡ get_or spans e one → two ≡ get_or spans f two → AreShort (length bytes) one two
each_two_short bytes spans e f one two short e_known f_known one_is two_is =
    let each : (k : ℕ) (s : Span) → k < length spans → s ≡ get_or spans k s → AreShort (length bytes) s s =
    λ k s known is. rw is (All-get_or (λ s. AreShort (length bytes) s s) spans k s known short) in
    let first = each e one e_known one_is in
    let second = each f two f_known two_is in
    record {
      opening = first.opening;
      number = second.number;
      first = first.first;
      second = second.second;
      first_block = first.first_block;
      second_block = second.second_block;
    }

-- one text more is made
pub made_more : (d : Drawing) (old new : List ℕ) (spans : List Span) (e : ℕ) (s : Span)
    → AreMade d old spans e → HasPutText d e old new s → AreMade d new (spans ++ s ∷ []) (e + 1)
made_more d old new spans e s made put =
    let rest : List ℕ = put.kept.0 in
    let is : new ≡ old ++ rest = put.kept.1 in
    let size = made.size in
    record {
      size = let all = length-append spans (s ∷ []) in omega (arith, all, size);
      within = All-push (IsSpanIn new) spans s
          (All-weaker (IsSpanIn old) (IsSpanIn new) (λ x h. subst (λ b. IsSpanIn b x) (sym is) (within_kept old rest x h)) spans made.within)
          put.within;
      each = λ k below. elim (cases_lt k e) [
        | inl before ↦
            let there : k < length spans = omega (arith, before, size) in
            let x : Span = get_or spans k no_span in
            ap (text_at new) (get_or_append_left spans (s ∷ []) no_span k there)
            ∙ ap (λ b. text_at b x) is
            ∙ text_kept old rest x (All-get_or (IsSpanIn old) spans k no_span there made.within)
            ∙ made.each k before
        | inr last ↦
            let same : k ≡ length spans + 0 = omega (arith, below, last, size) in
            let own : k ≡ e = omega (arith, below, last) in
            ap (λ i. text_at new (get_or (spans ++ s ∷ []) i no_span)) same
            ∙ ap (text_at new) (get_or-append-add spans (s ∷ []) 0 no_span)
            ∙ put.text ∙ ap (parts_of d) (sym own)
      ];
    }

-- when all are made, they are the texts of the events
pub made_all : (d : Drawing) (bytes : List ℕ) (spans : List Span) (e : ℕ) → e ≡ length d.events
    → AreMade d bytes spans e → AreTextsOf d (map (text_at bytes) spans)
made_all d bytes spans e all made = record {
  size = let size = made.size in let mapped = length-map spans (text_at bytes) in omega (arith, size, mapped, all);
  each = λ k below.
      let there : k < length spans = let size = made.size in omega (arith, below, size, all) in
      get_or-map (text_at bytes) spans k no_span no_text there ∙ made.each k (omega (arith, below, all));
}

-- a block whose front is a part of the bytes, put into a room, puts that part there
pub block_put : (room bytes rest : List ℕ) (at from to n : ℕ) → from ≤ to → to ≤ from + n
    → from + n ≤ length bytes → at ≤ length room
    → take (at + (to - from)) (take at room ++ (slice_range bytes from (from + n) ++ rest))
    ≡ take at room ++ slice_range bytes from to
block_put room bytes rest at from to n rising short inside within =
    let block = slice_range bytes from (from + n) in
    let front : length (take at room) ≡ at = omega (arith, length-take at room) in
    let size : to - from ≤ length block = omega (arith, length-take (from + n - from) (drop from bytes), length-drop from bytes) in
    let more : to - from ≤ from + n - from = omega arith in
    ap (λ k. take (k + (to - from)) (take at room ++ (block ++ rest))) (sym front)
    ∙ take-append-add (take at room) (block ++ rest) (to - from)
    ∙ ap (λ (l : List ℕ). take at room ++ l) (take-append-le (to - from) block rest size ∙ take-take (to - from) (from + n - from) (drop from bytes) more)

-- what was put between two lists stands there
range_put : (xs ys zs : List ℕ) → slice_range ((xs ++ ys) ++ zs) (length xs) (length (xs ++ ys)) ≡ ys
range_put xs ys zs =
    let size : length (xs ++ ys) - length xs ≡ length ys = omega (arith, length-append xs ys) in
    rw (size, append_assoc, drop-append_seam xs (ys ++ zs)) (take-append_seam ys zs)

-- the same, where both places are known as the sizes of lists
pub part_put : (front part mid rest all : List ℕ) (i j : ℕ) → mid ≡ front ++ part → all ≡ mid ++ rest
    → i ≡ length front → j ≡ length mid → slice_range all i j ≡ part
part_put front part mid rest all i j mid_is all_is i_is j_is =
    rw (i_is, j_is, all_is, mid_is) (range_put front part rest)

-- what is put behind two lists is put behind the first with the second
pub joined : (old mid new xs ys : List ℕ) → mid ≡ old ++ xs → new ≡ mid ++ ys → new ≡ old ++ (xs ++ ys)
joined old mid new xs ys before after = after ∙ ap (λ (l : List ℕ). l ++ ys) before ∙ append_assoc old xs ys

-- a list that was put behind another is no shorter
pub longer : (old new xs : List ℕ) (i j : ℕ) → new ≡ old ++ xs → i ≡ length old → j ≡ length new → i ≤ j
longer old new xs i j is i_is j_is =
    let size : length new ≡ length old + length xs = ap (λ (l : List ℕ). length l) is ∙ length-append old xs in
    omega (arith, size, i_is, j_is)

-- the parts of an event's text that were put one behind the other stand at the places between them
pub text_put : (d : Drawing) (e : ℕ) (old b1 b2 b3 b4 b5 b6 b7 b8 b9 : List ℕ) (s : Span)
    → b1 ≡ old ++ codes "race" → b2 ≡ b1 ++ spaced e → b3 ≡ b2 ++ codes ": " → b4 ≡ b3 ++ place_text d e
    → b5 ≡ b4 ++ event_text d e → b6 ≡ b5 ++ codes "; " → b7 ≡ b6 ++ named_text d e
    → b8 ≡ b7 ++ event_text d e → b9 ≡ b8 ++ codes "\n"
    → s.opening ≡ length old → s.number ≡ length b1 → s.colon ≡ length b2 → s.first ≡ length b3
    → s.next ≡ length b5 → s.placed ≡ length b6 → s.second ≡ length b7 → s.stop ≡ length b8
    → s.end ≡ length b9 → HasPutText d e old b9 s
text_put d e old b1 b2 b3 b4 b5 b6 b7 b8 b9 s is1 is2 is3 is4 is5 is6 is7 is8 is9 at0 at1 at2 at3 at5 at6 at7 at8 at9 =
    let event = event_text d e in
    let end = codes "\n" in
    let t8 : b9 ≡ b8 ++ end = is9 in
    let t7 = joined b7 b8 b9 event end is8 t8 in
    let t6 = joined b6 b7 b9 (named_text d e) (event ++ end) is7 t7 in
    let t5 = joined b5 b6 b9 (codes "; ") (named_text d e ++ (event ++ end)) is6 t6 in
    let t4 = joined b4 b5 b9 event (codes "; " ++ (named_text d e ++ (event ++ end))) is5 t5 in
    let t3 = joined b3 b4 b9 (place_text d e) (event ++ (codes "; " ++ (named_text d e ++ (event ++ end)))) is4 t4 in
    let t2 = joined b2 b3 b9 (codes ": ") (place_text d e ++ (event ++ (codes "; " ++ (named_text d e ++ (event ++ end))))) is3 t3 in
    let t1 = joined b1 b2 b9 (spaced e) (codes ": " ++ (place_text d e ++ (event ++ (codes "; " ++ (named_text d e ++ (event ++ end)))))) is2 t2 in
    let t0 = joined old b1 b9 (codes "race") (spaced e ++ (codes ": " ++ (place_text d e ++ (event ++ (codes "; " ++ (named_text d e ++ (event ++ end))))))) is1 t1 in
    let first : (parts_of d e).first ≡ place_text d e ++ (event ++ codes "; ") = sym (simp append_assoc) in
    let placed : (parts_of d e).placed ≡ named_text d e ++ event = sym (simp append_assoc) in
    let next : (parts_of d e).next ≡ codes "; " ++ (named_text d e ++ (event ++ end)) = sym (simp append_assoc) in
    record {
      kept = (_, t0);
      within = record {
        opening = longer old b1 (codes "race") s.opening s.number is1 at0 at1;
        number = longer b1 b2 (spaced e) s.number s.colon is2 at1 at2;
        colon = longer b2 b3 (codes ": ") s.colon s.first is3 at2 at3;
        first = longer b3 b5 (place_text d e ++ event) s.first s.next (joined b3 b4 b5 (place_text d e) event is4 is5) at3 at5;
        next = longer b5 b6 (codes "; ") s.next s.placed is6 at5 at6;
        placed = longer b6 b7 (named_text d e) s.placed s.second is7 at6 at7;
        second = longer b7 b8 event s.second s.stop is8 at7 at8;
        stop = longer b8 b9 end s.stop s.end is9 at8 at9;
        end = omega (arith, at9);
      };
      text =
          rw (
            part_put old (codes "race" ++ spaced e) b2 _ b9 s.opening s.colon (joined old b1 b2 (codes "race") (spaced e) is1 is2) t2 at0 at2,
            part_put b1 (spaced e) b2 _ b9 s.number s.colon is2 t2 at1 at2,
            part_put b1 (spaced e ++ codes ": ") b3 _ b9 s.number s.first (joined b1 b2 b3 (spaced e) (codes ": ") is2 is3) t3 at1 at3,
            part_put b3 (place_text d e ++ (event ++ codes "; ")) b6 _ b9 s.first s.placed
                (joined b3 b4 b6 (place_text d e) (event ++ codes "; ") is4 (joined b4 b5 b6 event (codes "; ") is5 is6)) t6 at3 at6,
            part_put b7 (event ++ end) b9 [] b9 s.second s.end t7 (sym (append-nil b9)) at7 at9,
            part_put b7 event b8 end b9 s.second s.stop is8 t8 at7 at8,
            part_put b6 (named_text d e ++ event) b8 end b9 s.placed s.stop (joined b6 b7 b8 (named_text d e) event is7 is8) t8 at6 at8,
            part_put b5 (codes "; " ++ (named_text d e ++ (event ++ end))) b9 [] b9 s.next s.end t5 (sym (append-nil b9)) at5 at9,
            first,
            next,
            placed,
          ) refl;
    }

-- what is put together of the texts of two events is what is printed of them
pub told_joined : (d : Drawing) (e f : ℕ) (page word : List ℕ) (texts : List EventText) → AreTextsOf d texts
    → e < length texts → f < length texts
    → ((((page ++ word) ++ (get_or texts e no_text).number) ++ (get_or texts f no_text).number) ++ (get_or texts e no_text).first) ++ (get_or texts f no_text).second
    ≡ page ++ told_line word d e f
told_joined d e f page word texts are e_known f_known =
    let size = are.size in
    rw (are.each e (omega (arith, size, e_known)), are.each f (omega (arith, size, f_known))) (simp append_assoc)

-- the same without the end of the line
pub words_joined : (d : Drawing) (e f : ℕ) (page word : List ℕ) (texts : List EventText) → AreTextsOf d texts
    → e < length texts → f < length texts
    → ((((page ++ word) ++ (get_or texts e no_text).number) ++ (get_or texts f no_text).number) ++ (get_or texts e no_text).first) ++ (get_or texts f no_text).words
    ≡ page ++ told_text word d e f
words_joined d e f page word texts are e_known f_known =
    let size = are.size in
    rw (are.each e (omega (arith, size, e_known)), are.each f (omega (arith, size, f_known))) (simp append_assoc)

-- so are both events at their places
pub both_joined : (d : Drawing) (e f : ℕ) (page : List ℕ) (texts : List EventText) → AreTextsOf d texts
    → e < length texts → f < length texts
    → (page ++ (get_or texts e no_text).placed) ++ (get_or texts f no_text).next ≡ page ++ both_at d e f
both_joined d e f page texts are e_known f_known =
    let size = are.size in
    rw (are.each e (omega (arith, size, e_known)), are.each f (omega (arith, size, f_known))) (simp append_assoc)

-- and the line that names them
pub pair_joined : (d : Drawing) (e f : ℕ) (page word : List ℕ) (texts : List EventText) → AreTextsOf d texts
    → e < length texts → f < length texts
    → ((((page ++ word) ++ (get_or texts e no_text).number) ++ (get_or texts f no_text).numbered) ++ (get_or texts e no_text).placed) ++ (get_or texts f no_text).next
    ≡ page ++ pair_line word d e f
pair_joined d e f page word texts are e_known f_known =
    let size = are.size in
    rw (are.each e (omega (arith, size, e_known)), are.each f (omega (arith, size, f_known))) (simp append_assoc)

-- the parts of both texts, put behind a page, are the text of their race
pub race_joined : (d : Drawing) (e f : ℕ) (page : List ℕ)
    → with_parts page (parts_of d e) (parts_of d f) ≡ page ++ race_text d e f None
race_joined d e f page = simp (append_assoc, append-nil) refl

-- and so are the parts that stand where the texts were made
pub race_put : (d : Drawing) (bytes seen : List ℕ) (spans : List Span) (texts : List EventText)
    (e f : ℕ) (one two : Span) (page : List ℕ) → map (text_at bytes) spans ≡ texts
    → AreTextsOf d texts → e < length texts → f < length texts
    → seen ≡ bytes → one ≡ get_or spans e one → two ≡ get_or spans f two
    → with_parts page (text_at seen one) (text_at seen two) ≡ page ++ race_text d e f None
race_put d bytes seen spans texts e f one two page view made e_known f_known is e_is f_is =
    let size = made.size in
    let mapped : length texts ≡ length spans = ap (λ (l : List EventText). length l) (sym view) ∙ length-map spans (text_at bytes) in
    let found : (k : ℕ) (s : Span) → k < length texts → s ≡ get_or spans k s → text_at seen s ≡ parts_of d k =
    λ k s known s_is. ap (λ b. text_at b s) is ∙ ap (text_at bytes) s_is
    ∙ sym (get_or-map (text_at bytes) spans k s no_text (omega (arith, known, mapped)))
    ∙ ap (λ l. get_or l k no_text) view ∙ made.each k (omega (arith, known, size)) in
    ap₂ (with_parts page) (found e one e_known e_is) (found f two f_known f_is) ∙ race_joined d e f page

-- seven pieces that were put behind a page follow it in one
pub seven_joined : (page b1 b2 b3 b4 b5 b6 b7 x1 x2 x3 x4 x5 x6 x7 : List ℕ)
    → b1 ≡ page ++ x1 → b2 ≡ b1 ++ x2 → b3 ≡ b2 ++ x3 → b4 ≡ b3 ++ x4 → b5 ≡ b4 ++ x5 → b6 ≡ b5 ++ x6 → b7 ≡ b6 ++ x7
    → b7 ≡ page ++ (x1 ++ (x2 ++ (x3 ++ (x4 ++ (x5 ++ (x6 ++ x7))))))
seven_joined page b1 b2 b3 b4 b5 b6 b7 x1 x2 x3 x4 x5 x6 x7 is1 is2 is3 is4 is5 is6 is7 =
    joined page b1 b7 x1 (x2 ++ (x3 ++ (x4 ++ (x5 ++ (x6 ++ x7))))) is1
    (joined b1 b2 b7 x2 (x3 ++ (x4 ++ (x5 ++ (x6 ++ x7)))) is2
    (joined b2 b3 b7 x3 (x4 ++ (x5 ++ (x6 ++ x7))) is3
    (joined b3 b4 b7 x4 (x5 ++ (x6 ++ x7)) is4
    (joined b4 b5 b7 x5 (x6 ++ x7) is5 (joined b5 b6 b7 x6 x7 is6 is7)))))
