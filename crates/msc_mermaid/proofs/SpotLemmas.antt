-- Where statements and comments begin: what holds of each place at which one may begin holds of
-- those that are read.
use Rattle.std.proofs.Common.{◌≡◌, ℕ, ◌+◌, Bool, true, false, cond, ◌&&◌, length, take, drop, sym, List, [], ◌∷◌, Option, None, Some, Result, Ok, refl, subst}
use Rattle.msc_mermaid.specs.declared.fault.ImportFault.{ImportFault}
use Rattle.msc_mermaid.specs.declared.key.Mark.{Mark}
use Rattle.msc_mermaid.specs.declared.key.Mark.TheVariants as marks
use Rattle.msc_mermaid.specs.declared.pattern.Pattern.TheVariants as patterns
use Rattle.msc_mermaid.specs.declared.progress.Inside.{Inside}
use Rattle.msc_mermaid.specs.declared.progress.Inside.TheVariants as inside
use Rattle.msc_mermaid.specs.declared.progress.Progress.{Progress}
use Rattle.msc_mermaid.specs.declared.reading.StatementStart.{StatementStart}
use Rattle.msc_mermaid.specs.declared.seeking.Sought.TheVariants as sought
use Rattle.msc_mermaid.specs.declared.line_kind.LineKind.{LineKind}
use Rattle.msc_mermaid.specs.declared.line_kind.LineKind.TheVariants as line_kinds
use Rattle.msc_mermaid.specs.declared.statement.Cross.{Cross}
use Rattle.msc_mermaid.specs.declared.statement.Span.{Span}
use Rattle.msc_place.specs.declared.position.Position.{Position}
use Rattle.msc_mermaid.specs.Cutting.{cut}
use Rattle.msc_mermaid.specs.Gives.{unless}
use Rattle.msc_mermaid.specs.Keys.{begin_so, mark_text}
use Rattle.msc_mermaid.specs.Lines.{start_on}
use Rattle.msc_mermaid.specs.Patterns.{first_fit, is_empty}
use Rattle.msc_mermaid.specs.Saying.{is_unended}
use Rattle.msc_mermaid.specs.Seeking.{before, holds}
use Rattle.msc_mermaid.specs.White.{behind_white, front, trimmed}
use Rattle.msc_mermaid.specs.Mermaid.{behind_head, body, body_as, closed, comment_read, comment_span, commented, config_end, configured_as, described_as, ended_on, first_line, goes_on, gone_on, head_as, is_commented, is_front, is_last, left_out, now_at, now_in, outside, piece_as, piece_by, piece_said, put_off, put_off_said, read_piece, read_pieces, said_on, line_kind_of, spot_behind, stated, statement, step, step_in, steps, text_within, titled, undirected}
use Rattle.msc_mermaid.specs.Reading.{Read, read_one, with_comment}
use Rattle.msc_mermaid.proofs.SpellLemmas.{bound}

module _ (R : Read → Type 0) (S : StatementStart → Type 0) (C : Span → Type 0) (one : (cross : Option Cross) (spot : StatementStart) (bytes : List ℕ) (r q : Read) → S spot → R r → read_one cross spot bytes r ≡ Ok q → R q) (comment : (c : Span) (r : Read) → C c → R r → R (with_comment c r)) where
  -- a statement that waits for further lines has begun at such a place
  abbrev pub Waits : Inside → StatementStart → Type 0
  Waits inside.Start spot = Unit {0}
  Waits inside.Nothing spot = Unit {0}
  Waits inside.Front spot = Unit {0}
  Waits inside.Directive spot = Unit {0}
  Waits inside.Description spot = Unit {0}
  Waits inside.Configuration spot = S spot
  Waits inside.Rest spot = Unit {0}

  either : (b : Bool) (x y : Inside) (spot : StatementStart) → Waits x spot → Waits y spot → Waits (cond b x y) spot
  either true x y spot h k = h
  either false x y spot h k = k

  -- what was read, within a line that begins here
  abbrev Fine : ℕ → Progress → Type 0
  Fine start p = R p.reader × Waits p.inside p.waiting.spot × (p.start ≡ start)

  same : (start : ℕ) (p q : Progress) → ◌≡◌ {A = Result Progress ImportFault} (Ok p) (Ok q) → Fine start p → Fine start q
  same start p q e f = let is : p ≡ q = cc in subst (Fine start) is f

  unless_fine : (start : ℕ) (b : Bool) (fault : ImportFault) (p q : Progress) → unless b fault p ≡ Ok q → Fine start p → Fine start q
  unless_fine start true fault p q e f = same start p q e f
  unless_fine start false fault p q e f = cc

  module _ (start : ℕ) where
    left_fine : (line : ℕ) (whole : List ℕ) (part : Inside) (m : Mark) (bytes : List ℕ) (p q : Progress) → Waits part p.waiting.spot → left_out line whole part m bytes p ≡ Ok q → Fine start p → Fine start q
    unfolding left_out
    left_fine line whole part m bytes p q w e f =
        let b = bound (closed line whole m bytes) _ q e in
        same start (now_in (cond b.0 inside.Rest part) p) q b.2 (f.0, either b.0 inside.Rest part p.waiting.spot tt w, f.2)

    titled_fine : (here : Position) (text : List ℕ) (p q : Progress) → titled here text p ≡ Ok q → Fine start p → Fine start q
    unfolding titled
    titled_fine here text p q e f = unless_fine start _ _ (now_in inside.Rest p) q e (f.0, tt, f.2)

    commented_fine : (line : ℕ) (whole bytes : List ℕ) (p q : Progress) → C (comment_span start whole bytes) → commented line whole bytes p ≡ Ok q → Fine start p → Fine start q
    commented_fine line whole bytes p q given e f =
        let c = comment_span p.start whole bytes in
        let here : C c = subst (λ (n : ℕ). C (comment_span n whole bytes)) (sym f.2) given in
        unless_fine start _ _ (comment_read c p) q e (comment c p.reader here f.0, f.1, f.2)

    stated_fine : (cross : Option Cross) (spot : StatementStart) (bytes : List ℕ) (part : Inside) (p q : Progress) → S spot → Waits part p.waiting.spot → stated cross spot bytes part p ≡ Ok q → Fine start p → Fine start q
    unfolding stated
    stated_fine cross spot bytes part p q given w e f =
        let b = bound (read_one cross spot bytes p.reader) _ q e in
        same start (record { start = p.start; inside = part; begun = p.begun; reader = b.0; waiting = p.waiting }) q b.2 (one cross spot bytes p.reader b.0 given f.0 b.1, w, f.2)

    statement_fine : (cross : Option Cross) (spot : StatementStart) (bytes : List ℕ) (p q : Progress) → S spot → statement cross spot bytes p ≡ Ok q → Fine start p → Fine start q
    unfolding statement
    statement_fine cross spot bytes p q given e f = by (is_commented bytes) e
      where
        by : (b : Bool) → cond b (stated cross spot (trimmed (take (before (sought.Text marks.Comment) bytes) bytes)) inside.Rest p) (stated cross spot bytes p.inside p) ≡ Ok q → Fine start q
        by true e = stated_fine cross spot (trimmed (take (before (sought.Text marks.Comment) bytes) bytes)) inside.Rest p q given tt e f
        by false e = stated_fine cross spot bytes p.inside p q given f.1 e f

    piece_said_fine : (cross : Option Cross) (spot : StatementStart) (rest piece : List ℕ) (p q : Progress) → S spot → piece_said cross spot rest piece p ≡ Ok q → Fine start p → Fine start q
    unfolding piece_said
    piece_said_fine cross spot rest piece p q given e f = by (is_last rest piece && is_unended (trimmed piece)) e
      where
        by : (b : Bool) → ◌≡◌ {A = Result Progress ImportFault} (cond b (Ok (put_off spot (trimmed piece) p)) (statement cross spot (trimmed piece) p)) (Ok q) → Fine start q
        by true e = same start (put_off spot (trimmed piece) p) q e (f.0, given, f.2)
        by false e = statement_fine cross spot (trimmed piece) p q given e f

    as_fine : (cross : Option Cross) (whole : List ℕ) (spot : StatementStart) (rest piece : List ℕ) (p q : Progress) (o : Option (List ℕ)) → S spot → piece_as cross whole spot rest piece p o ≡ Ok q → Fine start p → Fine start q
    as_fine cross whole spot rest piece p q (Some text) given e f =
        left_fine spot.here.line whole inside.Description marks.DescriptionEnd text p q tt e f
    as_fine cross whole spot rest piece p q None given e f = by (begin_so rest (mark_text marks.Comment)) e
      where
        by : (b : Bool) → ◌≡◌ {A = Result Progress ImportFault} (cond b (Ok (now_in inside.Rest p)) (piece_said cross spot rest piece p)) (Ok q) → Fine start q
        by true e = same start (now_in inside.Rest p) q e (f.0, tt, f.2)
        by false e = piece_said_fine cross spot rest piece p q given e f

    by_fine : (cross : Option Cross) (whole : List ℕ) (spot : StatementStart) (rest piece : List ℕ) (p q : Progress) (o : Option (List ℕ)) → S spot → piece_by cross whole spot rest piece p o ≡ Ok q → Fine start p → Fine start q
    by_fine cross whole spot rest piece p q (Some text) given e f = titled_fine spot.here text p q e f
    by_fine cross whole spot rest piece p q None given e f =
        as_fine cross whole spot rest piece p q (first_fit (patterns.AccBlock ∷ []) rest) given e f

    piece_fine : (cross : Option Cross) (whole : List ℕ) (spot : StatementStart) (rest piece : List ℕ) (p q : Progress) → S spot → read_piece cross whole spot rest piece p ≡ Ok q → Fine start p → Fine start q
    unfolding read_piece
    piece_fine cross whole spot rest piece p q given e f = by (goes_on p.inside) e
      where
        found : Option (List ℕ)
        found = first_fit (patterns.AccTitle ∷ patterns.AccDescr ∷ []) (behind_white rest)

        by : (b : Bool) → ◌≡◌ {A = Result Progress ImportFault} (cond b (piece_by cross whole spot (behind_white rest) piece p (first_fit (patterns.AccTitle ∷ patterns.AccDescr ∷ []) (behind_white rest))) (Ok p)) (Ok q) → Fine start q
        by true e = by_fine cross whole spot (behind_white rest) piece p q _ given e f
        by false e = same start p q e f

    -- a line of these bytes
    module _ (cross : Option Cross) (line : ℕ) (l : List ℕ) (here : (k : ℕ) → S (spot_behind start line l k)) (remark : (k : ℕ) → line_kind_of (trimmed (drop k l)) ≡ line_kinds.Comment → C (comment_span start l (drop k l))) where
      pieces_fine : (at : ℕ) (xs : List (List ℕ)) (p q : Progress) → read_pieces cross line l at xs p ≡ Ok q → Fine start p → Fine start q
      unfolding read_pieces
      pieces_fine at [] p q e f = same start p q e f
      pieces_fine at (x ∷ xs) p q e f =
          let spot : StatementStart = spot_behind p.start line l (at + front 0 x) in
          let given : S spot = subst (λ (n : ℕ). S (spot_behind n line l (at + front 0 x))) (sym f.2) (here (at + front 0 x)) in
          let b = bound (read_piece cross l spot (drop at l) x p) (λ (v : Progress). read_pieces cross line l (at + (length x + 1)) xs v) q e in
          pieces_fine (at + (length x + 1)) xs b.0 q b.2 (piece_fine cross l spot (drop at l) x p b.0 given b.1 f)

      said_fine : (at : ℕ) (p q : Progress) → said_on cross line l at p ≡ Ok q → Fine start p → Fine start q
      unfolding said_on
      said_fine at p q e f =
          let b = bound (undirected line l (drop at l)) _ q e in
          pieces_fine at (cut (drop at l)) p q b.2 f

      body_as_fine : (at : ℕ) (p q : Progress) (s : LineKind) → line_kind_of (trimmed (drop at l)) ≡ s → body_as cross line l at p s ≡ Ok q → Fine start p → Fine start q
      unfolding body_as
      body_as_fine at p q line_kinds.Nothing is e f = same start p q e f
      body_as_fine at p q line_kinds.Directive is e f = left_fine line l inside.Directive marks.DirectiveEnd (drop at l) p q tt e f
      body_as_fine at p q line_kinds.Comment is e f = commented_fine line l (drop at l) p q (remark at is) e f
      body_as_fine at p q line_kinds.Head is e f = said_fine at p q e f
      body_as_fine at p q line_kinds.Other is e f = said_fine at p q e f

      body_fine : (at : ℕ) (p q : Progress) → body cross line l at p ≡ Ok q → Fine start p → Fine start q
      unfolding body
      body_fine at p q e f = body_as_fine at p q (line_kind_of (trimmed (drop at l))) refl e f

      head_as_fine : (p q : Progress) (s : LineKind) → line_kind_of (trimmed l) ≡ s → head_as cross line l p s ≡ Ok q → Fine start p → Fine start q
      unfolding head_as
      head_as_fine p q line_kinds.Nothing is e f = same start p q e f
      head_as_fine p q line_kinds.Directive is e f = left_fine line l inside.Directive marks.DirectiveEnd l p q tt e f
      head_as_fine p q line_kinds.Comment is e f = commented_fine line l l p q (remark 0 is) e f
      head_as_fine p q line_kinds.Head is e f =
          body_fine (behind_head l) (record { start = p.start; inside = p.inside; begun = true; reader = p.reader; waiting = p.waiting }) q e f
      head_as_fine p q line_kinds.Other is e f = cc

      outside_fine : (p q : Progress) → outside cross line l p ≡ Ok q → Fine start p → Fine start q
      unfolding outside
      outside_fine p q e f = by p.begun e
        where
          by : (b : Bool) → cond b (body cross line l 0 p) (head_as cross line l p (line_kind_of (trimmed l))) ≡ Ok q → Fine start q
          by true e = body_fine 0 p q e f
          by false e = head_as_fine p q (line_kind_of (trimmed l)) refl e f

      first_fine : (p q : Progress) → first_line cross line l p ≡ Ok q → Fine start p → Fine start q
      unfolding first_line
      first_fine p q e f = by (is_empty (trimmed l)) (is_front (trimmed l)) e
        where
          by : (b c : Bool) → ◌≡◌ {A = Result Progress ImportFault} (cond b (Ok p) (cond c (Ok (now_in inside.Front p)) (outside cross line l (now_in inside.Nothing p)))) (Ok q) → Fine start q
          by true c e = same start p q e f
          by false true e = same start (now_in inside.Front p) q e (f.0, tt, f.2)
          by false false e = outside_fine (now_in inside.Nothing p) q e (f.0, tt, f.2)

      described_fine : (p q : Progress) (s : LineKind) → line_kind_of (trimmed l) ≡ s → described_as line l p s ≡ Ok q → Fine start p → Fine start q
      unfolding described_as
      described_fine p q line_kinds.Nothing is e f = same start p q e f
      described_fine p q line_kinds.Directive is e f =
          let b = bound (closed line l marks.DirectiveEnd l) _ q e in unless_fine start b.0 _ p q b.2 f
      described_fine p q line_kinds.Comment is e f = commented_fine line l l p q (remark 0 is) e f
      described_fine p q line_kinds.Head is e f =
          let b = bound (undirected line l l) _ q e in left_fine line l inside.Description marks.DescriptionEnd b.0 p q tt b.2 f
      described_fine p q line_kinds.Other is e f =
          let b = bound (undirected line l l) _ q e in left_fine line l inside.Description marks.DescriptionEnd b.0 p q tt b.2 f

      ended_fine : (at : ℕ) (xs : List (List ℕ)) (p q : Progress) → S p.waiting.spot → ended_on cross line l at xs p ≡ Ok q → Fine start p → Fine start q
      unfolding ended_on
      ended_fine at [] p q w e f = same start p q e f
      ended_fine at (x ∷ xs) p q w e f =
          let whole : Progress = gone_on (take (at + length x) l) p in
          let b = bound (put_off_said cross whole) (λ (v : Progress). read_pieces cross line l (at + (length x + 1)) xs v) q e in
          pieces_fine (at + (length x + 1)) xs b.0 q b.2 (stated_fine cross whole.waiting.spot (trimmed whole.waiting.bytes) inside.Nothing whole b.0 w tt b.1 f)

      text_fine : (p q : Progress) → S p.waiting.spot → text_within cross line l p ≡ Ok q → Fine start p → Fine start q
      unfolding text_within
      text_fine p q w e f = by (holds l (sought.Text marks.DescriptionEnd)) u.2
        where
          u : (x : List ℕ) × (undirected line l l ≡ Ok x) × (cond (holds l (sought.Text marks.DescriptionEnd)) (ended_on cross line l (config_end l) (cut (drop (config_end l) l)) p) (Ok (gone_on l p)) ≡ Ok q)
          u = bound (undirected line l l) _ q e

          by : (b : Bool) → ◌≡◌ {A = Result Progress ImportFault} (cond b (ended_on cross line l (config_end l) (cut (drop (config_end l) l)) p) (Ok (gone_on l p))) (Ok q) → Fine start q
          by true e = ended_fine (config_end l) (cut (drop (config_end l) l)) p q w e f
          by false e = same start (gone_on l p) q e f

      configured_fine : (p q : Progress) (s : LineKind) → line_kind_of (trimmed l) ≡ s → S p.waiting.spot → configured_as cross line l p s ≡ Ok q → Fine start p → Fine start q
      unfolding configured_as
      configured_fine p q line_kinds.Nothing is w e f = described_fine p q line_kinds.Nothing is e f
      configured_fine p q line_kinds.Directive is w e f = described_fine p q line_kinds.Directive is e f
      configured_fine p q line_kinds.Comment is w e f = described_fine p q line_kinds.Comment is e f
      configured_fine p q line_kinds.Head is w e f = text_fine p q w e f
      configured_fine p q line_kinds.Other is w e f = text_fine p q w e f

      step_in_fine : (p q : Progress) (i : Inside) → Waits i p.waiting.spot → step_in cross line l p i ≡ Ok q → Fine start p → Fine start q
      unfolding step_in
      step_in_fine p q inside.Start w e f = first_fine p q e f
      step_in_fine p q inside.Nothing w e f = outside_fine p q e f
      step_in_fine p q inside.Rest w e f = outside_fine (now_in inside.Nothing p) q e (f.0, tt, f.2)
      step_in_fine p q inside.Front w e f =
          same start (now_in (cond (is_front (trimmed l)) inside.Nothing inside.Front) p) q e (f.0, either (is_front (trimmed l)) inside.Nothing inside.Front p.waiting.spot tt tt, f.2)
      step_in_fine p q inside.Directive w e f = left_fine line l inside.Directive marks.DirectiveEnd l p q tt e f
      step_in_fine p q inside.Description w e f = described_fine p q (line_kind_of (trimmed l)) refl e f
      step_in_fine p q inside.Configuration w e f = configured_fine p q (line_kind_of (trimmed l)) refl w e f

  -- the lines of a text, of which the first has this number
  abbrev pub Lined : List ℕ → List (List ℕ) → ℕ → Type 0
  Lined starts [] line = Unit {0}
  Lined starts (l ∷ ls) line = ((k : ℕ) → S (spot_behind (start_on starts line) line l k)) × ((k : ℕ) → line_kind_of (trimmed (drop k l)) ≡ line_kinds.Comment → C (comment_span (start_on starts line) l (drop k l))) × Lined starts ls (line + 1)

  pub steps_fine : (cross : Option Cross) (starts : List ℕ) (ls : List (List ℕ)) (line : ℕ) (p q : Progress) → Lined starts ls line → R p.reader → Waits p.inside p.waiting.spot → steps cross starts line ls p ≡ Ok q → R q.reader
  unfolding steps step
  steps_fine cross starts [] line p q lined read w e = let is : p ≡ q = cc in subst (λ (v : Progress). R v.reader) is read
  steps_fine cross starts (l ∷ ls) line p q lined read w e =
      let start = start_on starts line in
      let b = bound (step_in cross line l (now_at start p) p.inside) (λ (v : Progress). steps cross starts (line + 1) ls v) q e in
      let f = step_in_fine start cross line l lined.0 lined.1 (now_at start p) b.0 p.inside w b.1 (read, w, refl) in
      steps_fine cross starts ls (line + 1) b.0 q lined.2 f.0 f.1 b.2
