-- What a reading keeps from statement to statement it keeps from line to line.
use Rattle.std.proofs.Common.{◌≡◌, ℕ, zero, suc, ◌+◌, ◌-◌, ◌≤◌, Bool, true, false, cond, ◌&&◌, length, map, take, drop, sym, arith, List, [], ◌∷◌, ◌++◌, Option, None, Some, Result, Ok, Err, refl, ap, subst, ◌∙◌}
use Rattle.msc_mermaid.specs.declared.fault.ImportFault.{ImportFault}
use Rattle.msc_mermaid.specs.declared.fault.ImportFault.TheVariants.{Entity, Expected}
use Rattle.msc_mermaid.specs.declared.fault.Expectation.TheVariants as expectations
use Rattle.msc_mermaid.specs.declared.cutting.Turn.{Turn}
use Rattle.msc_mermaid.specs.declared.cutting.Turn.TheVariants as turns
use Rattle.msc_mermaid.specs.declared.key.Mark.{Mark}
use Rattle.msc_mermaid.specs.declared.key.Mark.TheVariants as marks
use Rattle.msc_mermaid.specs.declared.pattern.Pattern.TheVariants as patterns
use Rattle.msc_mermaid.specs.declared.progress.Inside.{Inside}
use Rattle.msc_mermaid.specs.declared.progress.Inside.TheVariants as inside
use Rattle.msc_mermaid.specs.declared.progress.Progress.{Progress}
use Rattle.msc_mermaid.specs.declared.reading.StatementStart.{StatementStart}
use Rattle.msc_mermaid.specs.declared.saying.Said.{Said}
use Rattle.msc_mermaid.specs.declared.saying.Said.TheVariants as said
use Rattle.msc_mermaid.specs.declared.seeking.Sought.TheVariants as sought
use Rattle.msc_mermaid.specs.declared.line_kind.LineKind.{LineKind}
use Rattle.msc_mermaid.specs.declared.line_kind.LineKind.TheVariants as line_kinds
use Rattle.msc_mermaid.specs.declared.statement.Cross.{Cross}
use Rattle.msc_mermaid.specs.declared.statement.Diagram.{Diagram}
use Rattle.msc_mermaid.specs.declared.statement.Span.{Span}
use Rattle.msc_mermaid.specs.declared.statement.Statement.{Statement}
use Rattle.msc_place.specs.declared.position.Position.{Position}
use Rattle.msc_mermaid.specs.Cutting.{cut, cut_by, cut_from, room, turn_at}
use Rattle.msc_mermaid.specs.Gives.{unless}
use Rattle.msc_mermaid.specs.Keys.{begin_so, mark_text}
use Rattle.msc_mermaid.specs.Lines.{led_by, start_on}
use Rattle.msc_mermaid.specs.Patterns.{first_fit, is_empty}
use Rattle.msc_mermaid.specs.Saying.{is_unended}
use Rattle.msc_mermaid.specs.Seeking.{before, holds}
use Rattle.msc_mermaid.specs.White.{behind_white, front, trimmed}
use Rattle.msc_mermaid.specs.Mermaid.{behind_head, body, body_as, closed, comment_read, comment_span, commented, config_end, configured_as, described_as, end_of, ended_in, ended_on, first_line, goes_on, gone_on, head_as, is_commented, is_front, is_last, left_out, now_at, now_in, outside, piece_as, piece_by, piece_said, put_off, put_off_said, read_piece, read_pieces, said_in, said_on, line_kind_of, spot_behind, stated, statement, step, step_in, steps, text_within, titled, told_of, undirected, unread}
use Rattle.msc_mermaid.specs.Parts.{Stretch, blanked, entity_place, has_entity, part_start, part_step, said_of, steps_of}
use Rattle.msc_mermaid.specs.Outlines.{Outline, laid}
use Rattle.msc_mermaid.specs.Reading.{Read, listed, noted, read_one, told, untold, with_comment}
use Rattle.msc_mermaid.proofs.SpellLemmas.{bound}

-- by a test
pub by_test : {X : Type 0} (b : Bool) → (b ≡ true → X) → (b ≡ false → X) → X
by_test true f g = f refl
by_test false f g = g refl

pub drop_short : {X : Type 0} (k : ℕ) (xs : List X) → length (drop k xs) ≤ length xs
drop_short zero [] = omega arith
drop_short zero (x ∷ xs) = omega arith
drop_short (suc k) [] = omega arith
drop_short (suc k) (x ∷ xs) = let r = drop_short k xs in omega (arith, r)

-- what holds of what was read holds behind one statement more: it says nothing, or which line ends,
-- or it is listed
pub noted_by : (P : Read → Type 0) (r : Read) (here : Position) (whole : Span) (q : Read) → P r → ((names : List (List ℕ)) → P (record { dying = names; arrows = r.arrows; outline = r.outline; said = r.said; comments = r.comments })) → ((s : Statement) (name tail : ℕ) (o : Outline) → laid here whole.first name s r.outline ≡ Ok o → P (listed r here whole tail s o)) → (s : Said) → noted r here whole s ≡ Ok q → P q
unfolding noted
noted_by P r here whole q nothing dies stated said.Nothing e = let same : r ≡ q = cc in subst P same nothing
noted_by P r here whole q nothing dies stated (said.Dies name) e =
    let same : record { dying = r.dying ++ name ∷ []; arrows = r.arrows; outline = r.outline; said = r.said; comments = r.comments } ≡ q = cc in
    subst P same (dies (r.dying ++ name ∷ []))
noted_by P r here whole q nothing dies stated (said.Statement s t) e =
    let b = bound (laid here whole.first (whole.past - t.name) s r.outline) (λ (o : Outline). Ok (listed r here whole t.shown s o)) q e in
    let f : ◌≡◌ {A = Result Read ImportFault} (Ok (listed r here whole t.shown s b.0)) (Ok q) = b.2 in
    let same : listed r here whole t.shown s b.0 ≡ q = cc in
    subst P same (stated s (whole.past - t.name) t.shown b.0 b.1)

-- R n r: what was read so far is r, and n statements were read for it at most, and any comments
module _ (R : ℕ → Read → Type 0) (wider : (n k : ℕ) (r : Read) → n ≤ k → R n r → R k r) (one : (n : ℕ) (cross : Option Cross) (spot : StatementStart) (bytes : List ℕ) (r q : Read) → R n r → read_one cross spot bytes r ≡ Ok q → R (n + 1) q) (comment : (n : ℕ) (c : Span) (r : Read) → R n r → R n (with_comment c r)) where
  -- what a line leaves of so many arrows: as many, and one for each of its pieces at most
  kept_on : (n k : ℕ) (r q : Read) → n ≤ k → R n r → r ≡ q → R k q
  kept_on n k r q le read same = subst (R k) same (wider n k r le read)

  ok_reader : (p q : Progress) → ◌≡◌ {A = Result Progress ImportFault} (Ok p) (Ok q) → p.reader ≡ q.reader
  ok_reader p q e = cc

  unless_reader : (b : Bool) (f : ImportFault) (p q : Progress) → unless b f p ≡ Ok q → p.reader ≡ q.reader
  unless_reader true f p q e = ok_reader p q e
  unless_reader false f p q e = cc

  -- what is left out reads nothing
  left_same : (line : ℕ) (whole : List ℕ) (part : Inside) (m : Mark) (bytes : List ℕ) (p q : Progress) → left_out line whole part m bytes p ≡ Ok q → p.reader ≡ q.reader
  unfolding left_out
  left_same line whole part m bytes p q e =
      let b = bound (closed line whole m bytes) _ q e in
      ok_reader (now_in (cond b.0 inside.Rest part) p) q b.2

  titled_same : (here : Position) (text : List ℕ) (p q : Progress) → titled here text p ≡ Ok q → p.reader ≡ q.reader
  unfolding titled
  titled_same here text p q e = unless_reader _ _ (now_in inside.Rest p) q e

  -- a statement
  stated_read : (n : ℕ) (cross : Option Cross) (spot : StatementStart) (bytes : List ℕ) (part : Inside) (p q : Progress) → stated cross spot bytes part p ≡ Ok q → R n p.reader → R (n + 1) q.reader
  unfolding stated
  stated_read n cross spot bytes part p q e read =
      let b = bound (read_one cross spot bytes p.reader) _ q e in
      let same : b.0 ≡ q.reader = ok_reader (record { start = p.start; inside = part; begun = p.begun; reader = b.0; waiting = p.waiting }) q b.2 in
      subst (R (n + 1)) same (one n cross spot bytes p.reader b.0 read b.1)

  statement_read : (n : ℕ) (cross : Option Cross) (spot : StatementStart) (bytes : List ℕ) (p q : Progress) → statement cross spot bytes p ≡ Ok q → R n p.reader → R (n + 1) q.reader
  unfolding statement
  statement_read n cross spot bytes p q e read =
      let short = trimmed (take (before (sought.Text marks.Comment) bytes) bytes) in
      let either = λ (t : Bool). cond t (stated cross spot short inside.Rest p) (stated cross spot bytes p.inside p) in
      by_test (is_commented bytes)
      (λ comment. stated_read n cross spot short inside.Rest p q (sym (ap either comment) ∙ e) read)
      (λ plain. stated_read n cross spot bytes p.inside p q (sym (ap either plain) ∙ e) read)

  -- a statement, or the first line of one
  piece_said_read : (n : ℕ) (cross : Option Cross) (spot : StatementStart) (rest piece : List ℕ) (p q : Progress) → piece_said cross spot rest piece p ≡ Ok q → R n p.reader → R (n + 1) q.reader
  unfolding piece_said
  piece_said_read n cross spot rest piece p q e read =
      let own = trimmed piece in
      let either = λ (t : Bool). cond t (Ok (put_off spot own p)) (statement cross spot own p) in
      by_test (is_last rest piece && is_unended own)
      (λ off. kept_on n (n + 1) p.reader q.reader (omega arith) read (ok_reader (put_off spot own p) q (sym (ap either off) ∙ e)))
      (λ whole. statement_read n cross spot own p q (sym (ap either whole) ∙ e) read)

  -- a piece of a line
  module _ (n : ℕ) (cross : Option Cross) (whole : List ℕ) (spot : StatementStart) (rest piece : List ℕ) (p q : Progress) (read : R n p.reader) where
    as_read : (o : Option (List ℕ)) → piece_as cross whole spot rest piece p o ≡ Ok q → R (n + 1) q.reader
    as_read (Some text) e = kept_on n (n + 1) p.reader q.reader (omega arith) read (left_same spot.here.line whole inside.Description marks.DescriptionEnd text p q e)
    as_read None e =
        let either = λ (t : Bool). cond t (Ok (now_in inside.Rest p)) (piece_said cross spot rest piece p) in
        by_test (begin_so rest (mark_text marks.Comment))
        (λ comment. kept_on n (n + 1) p.reader q.reader (omega arith) read (ok_reader (now_in inside.Rest p) q (sym (ap either comment) ∙ e)))
        (λ other. piece_said_read n cross spot rest piece p q (sym (ap either other) ∙ e) read)

    by_read : (o : Option (List ℕ)) → piece_by cross whole spot rest piece p o ≡ Ok q → R (n + 1) q.reader
    by_read (Some text) e = kept_on n (n + 1) p.reader q.reader (omega arith) read (titled_same spot.here text p q e)
    by_read None e = as_read (first_fit (patterns.AccBlock ∷ []) rest) e

  piece_read : (n : ℕ) (cross : Option Cross) (whole : List ℕ) (spot : StatementStart) (rest piece : List ℕ) (p q : Progress) → read_piece cross whole spot rest piece p ≡ Ok q → R n p.reader → R (n + 1) q.reader
  unfolding read_piece
  piece_read n cross whole spot rest piece p q e read =
      let found = first_fit (patterns.AccTitle ∷ patterns.AccDescr ∷ []) (behind_white rest) in
      let either = λ (t : Bool). cond t (piece_by cross whole spot (behind_white rest) piece p found) (Ok p) in
      by_test (goes_on p.inside)
      (λ on. by_read n cross whole spot (behind_white rest) piece p q read found (sym (ap either on) ∙ e))
      (λ over. kept_on n (n + 1) p.reader q.reader (omega arith) read (ok_reader p q (sym (ap either over) ∙ e)))

  -- those of a line
  pieces_read : (n : ℕ) (cross : Option Cross) (line : ℕ) (bytes : List ℕ) (at : ℕ) (xs : List (List ℕ)) (p q : Progress) → read_pieces cross line bytes at xs p ≡ Ok q → R n p.reader → R (n + length xs) q.reader
  unfolding read_pieces
  pieces_read n cross line bytes at [] p q e read = kept_on n (n + 0) p.reader q.reader (omega arith) read (ok_reader p q e)
  pieces_read n cross line bytes at (x ∷ xs) p q e read =
      let spot : StatementStart = spot_behind p.start line bytes (at + front 0 x) in
      let b = bound (read_piece cross bytes spot (drop at bytes) x p) (λ q. read_pieces cross line bytes (at + (length x + 1)) xs q) q e in
      let first = piece_read n cross bytes spot (drop at bytes) x p b.0 b.1 read in
      let rest = pieces_read (n + 1) cross line bytes (at + (length x + 1)) xs b.0 q b.2 first in
      wider ((n + 1) + length xs) (n + suc (length xs)) q.reader (omega arith) rest

  -- a line has no more pieces than bytes, and one
  led_many : (lead : List ℕ) (ls : List (List ℕ)) (n : ℕ) → length ls ≤ n + 1 → length (led_by lead ls) ≤ n + 1
  led_many lead [] n h = omega arith
  led_many lead (l ∷ ls) n h = h

  cut_few : (within : Bool) (bs : List ℕ) → length (cut_from within bs) ≤ length bs + 1
  unfolding cut_from
  cut_few within [] = omega arith
  cut_few within (b ∷ bs) = by (turn_at within b bs) (λ w. cut_few w bs)
    where
      by : (t : Turn) → ((w : Bool) → length (cut_from w bs) ≤ length bs + 1) → length (cut_by t b (λ w. cut_from w bs)) ≤ suc (length bs) + 1
      by turns.End more = omega arith
      by turns.Cut more = let r = more false in omega (arith, r)
      by (turns.On w) more = led_many (b ∷ []) (cut_from w bs) (suc (length bs)) (let r = more w in omega (arith, r))

  -- what one line more leaves, which has so many bytes
  Next : ℕ → List ℕ → Read → Type 0
  Next n l r = R (n + (length l + 1)) r

  kept_next : (n : ℕ) (l : List ℕ) (r q : Read) → R n r → r ≡ q → Next n l q
  unfolding Next
  kept_next n l r q read same = kept_on n (n + (length l + 1)) r q (omega arith) read same

  left_next : (n : ℕ) (l : List ℕ) (line : ℕ) (whole : List ℕ) (part : Inside) (m : Mark) (bytes : List ℕ) (p q : Progress) → left_out line whole part m bytes p ≡ Ok q → R n p.reader → Next n l q.reader
  left_next n l line whole part m bytes p q e read = kept_next n l p.reader q.reader read (left_same line whole part m bytes p q e)

  commented_next : (n : ℕ) (l : List ℕ) (line : ℕ) (whole bytes : List ℕ) (p q : Progress) → commented line whole bytes p ≡ Ok q → R n p.reader → Next n l q.reader
  commented_next n l line whole bytes p q e read =
      let c = comment_span p.start whole bytes in
      kept_next n l (with_comment c p.reader) q.reader (comment n c p.reader read) (unless_reader _ _ (comment_read c p) q e)

  ok_next : (n : ℕ) (l : List ℕ) (p q : Progress) → ◌≡◌ {A = Result Progress ImportFault} (Ok p) (Ok q) → R n p.reader → Next n l q.reader
  ok_next n l p q e read = kept_next n l p.reader q.reader read (ok_reader p q e)

  said_next : (n : ℕ) (cross : Option Cross) (line : ℕ) (l : List ℕ) (at : ℕ) (p q : Progress) → said_on cross line l at p ≡ Ok q → R n p.reader → Next n l q.reader
  unfolding said_on Next
  said_next n cross line l at p q e read =
      let b = bound (undirected line l (drop at l)) _ q e in
      let found = pieces_read n cross line l at (cut (drop at l)) p q b.2 read in
      let few = cut_few false (drop at l) in
      let short = drop_short at l in
      wider (n + length (cut (drop at l))) (n + (length l + 1)) q.reader (omega (arith, few, short)) found

  body_as_next : (n : ℕ) (cross : Option Cross) (line : ℕ) (l : List ℕ) (at : ℕ) (p q : Progress) (s : LineKind) → body_as cross line l at p s ≡ Ok q → R n p.reader → Next n l q.reader
  unfolding body_as
  body_as_next n cross line l at p q line_kinds.Nothing e read = ok_next n l p q e read
  body_as_next n cross line l at p q line_kinds.Directive e read = left_next n l line l inside.Directive marks.DirectiveEnd (drop at l) p q e read
  body_as_next n cross line l at p q line_kinds.Comment e read = commented_next n l line l (drop at l) p q e read
  body_as_next n cross line l at p q line_kinds.Head e read = said_next n cross line l at p q e read
  body_as_next n cross line l at p q line_kinds.Other e read = said_next n cross line l at p q e read

  body_next : (n : ℕ) (cross : Option Cross) (line : ℕ) (l : List ℕ) (at : ℕ) (p q : Progress) → body cross line l at p ≡ Ok q → R n p.reader → Next n l q.reader
  unfolding body
  body_next n cross line l at p q e read = body_as_next n cross line l at p q _ e read

  head_as_next : (n : ℕ) (cross : Option Cross) (line : ℕ) (l : List ℕ) (p q : Progress) (s : LineKind) → head_as cross line l p s ≡ Ok q → R n p.reader → Next n l q.reader
  unfolding head_as
  head_as_next n cross line l p q line_kinds.Nothing e read = ok_next n l p q e read
  head_as_next n cross line l p q line_kinds.Directive e read = left_next n l line l inside.Directive marks.DirectiveEnd l p q e read
  head_as_next n cross line l p q line_kinds.Comment e read = commented_next n l line l l p q e read
  head_as_next n cross line l p q line_kinds.Head e read =
      body_next n cross line l (behind_head l) (record { start = p.start; inside = p.inside; begun = true; reader = p.reader; waiting = p.waiting }) q e read
  head_as_next n cross line l p q line_kinds.Other e read = cc

  outside_next : (n : ℕ) (cross : Option Cross) (line : ℕ) (l : List ℕ) (p q : Progress) → outside cross line l p ≡ Ok q → R n p.reader → Next n l q.reader
  unfolding outside
  outside_next n cross line l p q e read =
      let either = λ (t : Bool). cond t (body cross line l 0 p) (head_as cross line l p (line_kind_of (trimmed l))) in
      by_test p.begun
      (λ begun. body_next n cross line l 0 p q (sym (ap either begun) ∙ e) read)
      (λ first. head_as_next n cross line l p q (line_kind_of (trimmed l)) (sym (ap either first) ∙ e) read)

  first_next : (n : ℕ) (cross : Option Cross) (line : ℕ) (l : List ℕ) (p q : Progress) → first_line cross line l p ≡ Ok q → R n p.reader → Next n l q.reader
  unfolding first_line
  first_next n cross line l p q e read =
      let other = λ (t : Bool). cond t (Ok (now_in inside.Front p)) (outside cross line l (now_in inside.Nothing p)) in
      let either = λ (t : Bool). cond t (Ok p) (other (is_front (trimmed l))) in
      by_test (is_empty (trimmed l))
      (λ empty. ok_next n l p q (sym (ap either empty) ∙ e) read)
      (λ some. let f = sym (ap either some) ∙ e in
      by_test (is_front (trimmed l))
      (λ front. ok_next n l (now_in inside.Front p) q (sym (ap other front) ∙ f) read)
      (λ plain. outside_next n cross line l (now_in inside.Nothing p) q (sym (ap other plain) ∙ f) read))

  described_next : (n : ℕ) (line : ℕ) (l : List ℕ) (p q : Progress) (s : LineKind) → described_as line l p s ≡ Ok q → R n p.reader → Next n l q.reader
  unfolding described_as
  described_next n line l p q line_kinds.Nothing e read = ok_next n l p q e read
  described_next n line l p q line_kinds.Directive e read =
      let b = bound (closed line l marks.DirectiveEnd l) _ q e in
      kept_next n l p.reader q.reader read (unless_reader b.0 _ p q b.2)
  described_next n line l p q line_kinds.Comment e read = commented_next n l line l l p q e read
  described_next n line l p q line_kinds.Head e read =
      let b = bound (undirected line l l) _ q e in left_next n l line l inside.Description marks.DescriptionEnd b.0 p q b.2 read
  described_next n line l p q line_kinds.Other e read =
      let b = bound (undirected line l l) _ q e in left_next n l line l inside.Description marks.DescriptionEnd b.0 p q b.2 read

  -- the pieces of a line in which a configuration ends
  ended_read : (n : ℕ) (cross : Option Cross) (line : ℕ) (bytes : List ℕ) (at : ℕ) (xs : List (List ℕ)) (p q : Progress) → ended_on cross line bytes at xs p ≡ Ok q → R n p.reader → R (n + length xs) q.reader
  unfolding ended_on
  ended_read n cross line bytes at [] p q e read = kept_on n (n + 0) p.reader q.reader (omega arith) read (ok_reader p q e)
  ended_read n cross line bytes at (x ∷ xs) p q e read =
      let whole : Progress = gone_on (take (at + length x) bytes) p in
      let b = bound (put_off_said cross whole) (λ q. read_pieces cross line bytes (at + (length x + 1)) xs q) q e in
      let first = stated_read n cross whole.waiting.spot (trimmed whole.waiting.bytes) inside.Nothing whole b.0 b.1 read in
      let rest = pieces_read (n + 1) cross line bytes (at + (length x + 1)) xs b.0 q b.2 first in
      wider ((n + 1) + length xs) (n + suc (length xs)) q.reader (omega arith) rest

  text_next : (n : ℕ) (cross : Option Cross) (line : ℕ) (l : List ℕ) (p q : Progress) → text_within cross line l p ≡ Ok q → R n p.reader → Next n l q.reader
  unfolding text_within Next
  text_next n cross line l p q e read =
      let u = bound (undirected line l l) _ q e in
      let at : ℕ = config_end l in
      let either = λ (t : Bool). cond t (ended_on cross line l at (cut (drop at l)) p) (Ok (gone_on l p)) in
      by_test (holds l (sought.Text marks.DescriptionEnd))
      (λ ends.
      let found = ended_read n cross line l at (cut (drop at l)) p q (sym (ap either ends) ∙ u.2) read in
      let few = cut_few false (drop at l) in
      let short = drop_short at l in
      wider (n + length (cut (drop at l))) (n + (length l + 1)) q.reader (omega (arith, few, short)) found)
      (λ on. kept_on n (n + (length l + 1)) p.reader q.reader (omega arith) read (ok_reader (gone_on l p) q (sym (ap either on) ∙ u.2)))

  configured_next : (n : ℕ) (cross : Option Cross) (line : ℕ) (l : List ℕ) (p q : Progress) (s : LineKind) → configured_as cross line l p s ≡ Ok q → R n p.reader → Next n l q.reader
  unfolding configured_as
  configured_next n cross line l p q line_kinds.Nothing e read = described_next n line l p q line_kinds.Nothing e read
  configured_next n cross line l p q line_kinds.Directive e read = described_next n line l p q line_kinds.Directive e read
  configured_next n cross line l p q line_kinds.Comment e read = described_next n line l p q line_kinds.Comment e read
  configured_next n cross line l p q line_kinds.Head e read = text_next n cross line l p q e read
  configured_next n cross line l p q line_kinds.Other e read = text_next n cross line l p q e read

  step_in_next : (n : ℕ) (cross : Option Cross) (line : ℕ) (l : List ℕ) (p q : Progress) (i : Inside) → step_in cross line l p i ≡ Ok q → R n p.reader → Next n l q.reader
  unfolding step_in
  step_in_next n cross line l p q inside.Start e read = first_next n cross line l p q e read
  step_in_next n cross line l p q inside.Nothing e read = outside_next n cross line l p q e read
  step_in_next n cross line l p q inside.Rest e read = outside_next n cross line l (now_in inside.Nothing p) q e read
  step_in_next n cross line l p q inside.Front e read = ok_next n l (now_in (cond (is_front (trimmed l)) inside.Nothing inside.Front) p) q e read
  step_in_next n cross line l p q inside.Directive e read = left_next n l line l inside.Directive marks.DirectiveEnd l p q e read
  step_in_next n cross line l p q inside.Description e read = described_next n line l p q (line_kind_of (trimmed l)) e read
  step_in_next n cross line l p q inside.Configuration e read = configured_next n cross line l p q (line_kind_of (trimmed l)) e read

  pub steps_read : (cross : Option Cross) (starts : List ℕ) (ls : List (List ℕ)) (n line : ℕ) (p q : Progress) → steps cross starts line ls p ≡ Ok q → R n p.reader → R (n + room ls) q.reader
  unfolding steps step room Next
  steps_read cross starts [] n line p q e read =
      let same : p.reader ≡ q.reader = ok_reader p q e in
      subst (R (n + 0)) same (wider n (n + 0) p.reader (omega arith) read)
  steps_read cross starts (l ∷ ls) n line p q e read =
      let b = bound (step_in cross line l (now_at (start_on starts line) p) p.inside) (λ q. steps cross starts (line + 1) ls q) q e in
      let first = step_in_next n cross line l (now_at (start_on starts line) p) b.0 p.inside b.1 read in
      let rest = steps_read cross starts ls (n + (length l + 1)) (line + 1) b.0 q b.2 first in
      wider ((n + (length l + 1)) + room ls) (n + (length l + 1 + room ls)) q.reader (omega arith) rest

  -- what was told of a text is what was read of it
  told_now : (here : Position) (p : Progress) (d : Diagram) → told_of here p ≡ Ok d → told p.reader ≡ Ok d
  told_now here p d e =
      let either = λ (t : Bool). cond t (told p.reader) (Err (Expected here expectations.Diagram)) in
      by_test p.begun
      (λ begun. sym (ap either begun) ∙ e)
      (λ none. let f : ◌≡◌ {A = Result Diagram ImportFault} (Err (Expected here expectations.Diagram)) (Ok d) = sym (ap either none) ∙ e in cc)

  ended_is : (here : Position) (p : Progress) (i : Inside) (d : Diagram) → ended_in here p i ≡ Ok d → told p.reader ≡ Ok d
  unfolding ended_in
  ended_is here p inside.Front d e = cc
  ended_is here p inside.Directive d e = cc
  ended_is here p inside.Description d e = cc
  ended_is here p inside.Configuration d e = cc
  ended_is here p inside.Start d e = told_now here p d e
  ended_is here p inside.Nothing d e = told_now here p d e
  ended_is here p inside.Rest d e = told_now here p d e

  -- what was read of all lines
  pub read_all : (cross : Option Cross) (starts : List ℕ) (ls : List (List ℕ)) (d : Diagram) → said_in cross starts ls ≡ Ok d → R 0 untold → (r : Read) × R (0 + room ls) r × (told r ≡ Ok d)
  unfolding said_in
  read_all cross starts ls d e none =
      let b = bound (steps cross starts 1 ls unread) (λ p. ended_in (end_of ls) p p.inside) d e in
      (b.0.reader, steps_read cross starts ls 0 1 unread b.0 b.1 none, ended_is (end_of ls) b.0 b.0.inside d b.2)

  -- what was read of parts of lines
  part_next : (n : ℕ) (markup : Bool) (cross : Option Cross) (starts : List ℕ) (s : Stretch) (p q : Progress) → part_step markup cross starts s p ≡ Ok q → R n p.reader → Next n (blanked s) q.reader
  unfolding part_step step
  part_next n markup cross starts s p q e read = by (markup && has_entity (blanked s) p) e
    where
      by : (b : Bool) → ◌≡◌ {A = Result Progress ImportFault} (cond b (Err (Entity (entity_place s))) (step_in cross s.line (blanked s) (now_at (part_start starts s) p) p.inside)) (Ok q) → Next n (blanked s) q.reader
      by true e = cc
      by false e = step_in_next n cross s.line (blanked s) (now_at (part_start starts s) p) q p.inside e read

  steps_of_read : (markup : Bool) (cross : Option Cross) (starts : List ℕ) (ss : List Stretch) (n : ℕ) (p q : Progress) → steps_of markup cross starts ss p ≡ Ok q → R n p.reader → R (n + room (map blanked ss)) q.reader
  unfolding steps_of room Next
  steps_of_read markup cross starts [] n p q e read =
      let same : p.reader ≡ q.reader = ok_reader p q e in
      subst (R (n + 0)) same (wider n (n + 0) p.reader (omega arith) read)
  steps_of_read markup cross starts (s ∷ ss) n p q e read =
      let l = blanked s in
      let b = bound (part_step markup cross starts s p) (λ q. steps_of markup cross starts ss q) q e in
      let first = part_next n markup cross starts s p b.0 b.1 read in
      let rest = steps_of_read markup cross starts ss (n + (length l + 1)) b.0 q b.2 first in
      wider ((n + (length l + 1)) + room (map blanked ss)) (n + (length l + 1 + room (map blanked ss))) q.reader (omega arith) rest

  pub read_parts : (markup : Bool) (cross : Option Cross) (starts : List ℕ) (last : Position) (ss : List Stretch) (d : Diagram) → said_of markup cross starts last ss ≡ Ok d → R 0 untold → (r : Read) × R (0 + room (map blanked ss)) r × (told r ≡ Ok d)
  unfolding said_of
  read_parts markup cross starts last ss d e none =
      let b = bound (steps_of markup cross starts ss unread) (λ p. ended_in last p p.inside) d e in
      (b.0.reader, steps_of_read markup cross starts ss 0 unread b.0 b.1 none, ended_is last b.0 b.0.inside d b.2)
