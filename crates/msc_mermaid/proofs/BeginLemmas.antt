-- The bytes of each statement and of each comment of a text begin at its place.
use Rattle.std.proofs.Common.{◌≡◌, ◌≤◌, ℕ, zero, suc, ◌+◌, ◌-◌, Bool, true, false, cond, nat_lt, length, get_or, take, drop, sym, arith, List, [], ◌∷◌, ◌++◌, Option, Result, Ok, Err, refl, ap, subst, ◌∙◌, append_assoc, length-append}
use Rattle.std.proofs.lemmas.Bool.{ltb-false}
use Rattle.std.specs.List.{AllByRecursion}
use Rattle.msc_lexer.specs.declared.TheConstants.{TEXT_LIMIT}
use Rattle.msc_mermaid.specs.declared.fault.ImportFault.{ImportFault}
use Rattle.msc_mermaid.specs.declared.fault.ImportFault.TheVariants.{Expected, TooLong}
use Rattle.msc_mermaid.specs.declared.fault.Expectation.TheVariants as expectations
use Rattle.msc_mermaid.specs.declared.progress.Inside.{Inside}
use Rattle.msc_mermaid.specs.declared.progress.Inside.TheVariants as inside
use Rattle.msc_mermaid.specs.declared.progress.Progress.{Progress}
use Rattle.msc_mermaid.specs.declared.reading.StatementStart.{StatementStart}
use Rattle.msc_mermaid.specs.declared.statement.Cross.{Cross}
use Rattle.msc_mermaid.specs.declared.statement.Diagram.{Diagram}
use Rattle.msc_mermaid.specs.declared.statement.Span.{Span}
use Rattle.msc_place.specs.declared.position.Position.{Position}
use Rattle.msc_mermaid.specs.Laws.{BeginsAtItsPlace, BeginsWithItsMark, Stand, line_on}
use Rattle.msc_mermaid.specs.Lines.{column_behind, further, lines_of, start_on, starts_of}
use Rattle.msc_mermaid.specs.Mermaid.{end_of, ended_in, mermaid, said_in, steps, told_of, unread}
use Rattle.msc_mermaid.specs.Outlines.{finished, span_of}
use Rattle.msc_mermaid.specs.Reading.{Read, noted, read_one, told, with_comment}
use Rattle.msc_mermaid.specs.Saying.{said_at}
use Rattle.msc_mermaid.proofs.CommentLemmas.{mark_begins}
use Rattle.msc_mermaid.proofs.SpotLemmas.{Lined, steps_fine}
use Rattle.msc_mermaid.proofs.StandLemmas.{lines_stand}
use Rattle.msc_mermaid.proofs.StepLemmas.{noted_by}
use Rattle.msc_mermaid.proofs.SpellLemmas.{bound}

-- one more of which it holds
all_more : {X : Type 0} (P : X → Type 0) (ps : List X) (p : X) → AllByRecursion P ps → P p → AllByRecursion P (ps ++ p ∷ [])
all_more P [] p all h = (h, tt)
all_more P (q ∷ qs) p all h = (all.0, all_more P qs p all.1 h)

-- a line behind others
line_behind : (front : List (List ℕ)) (l : List ℕ) (ls : List (List ℕ)) → get_or (front ++ l ∷ ls) (length front) [] ≡ l
line_behind [] l ls = refl
line_behind (x ∷ xs) l ls = line_behind xs l ls

-- what was told is what was read
told_now : (here : Position) (p : Progress) (d : Diagram) → told_of here p ≡ Ok d → told p.reader ≡ Ok d
told_now here p d e = by p.begun e
  where
    by : (b : Bool) → ◌≡◌ {A = Result Diagram ImportFault} (cond b (told p.reader) (Err (Expected here expectations.Diagram))) (Ok d) → told p.reader ≡ Ok d
    by true e = e
    by false e = cc

ended_told : (here : Position) (p : Progress) (i : Inside) (d : Diagram) → ended_in here p i ≡ Ok d → told p.reader ≡ Ok d
unfolding ended_in
ended_told here p inside.Front d e = cc
ended_told here p inside.Directive d e = cc
ended_told here p inside.Description d e = cc
ended_told here p inside.Configuration d e = cc
ended_told here p inside.Start d e = told_now here p d e
ended_told here p inside.Nothing d e = told_now here p d e
ended_told here p inside.Rest d e = told_now here p d e

told_said : (r : Read) (d : Diagram) → told r ≡ Ok d → (r.said ≡ d.statements) × (r.comments ≡ d.comments)
unfolding told
told_said r d e =
    let b = bound (finished r.outline) _ d e in
    let f : ◌≡◌ {A = Result Diagram ImportFault} (Ok (record { lines = b.0.0; names = b.0.1; statements = r.said; comments = r.comments })) (Ok d) = b.2 in
    let same : record { lines = b.0.0; names = b.0.1; statements = r.said; comments = r.comments } ≡ d = cc in
    (ap (λ (x : Diagram). x.statements) same, ap (λ (x : Diagram). x.comments) same)

-- a place of a text at which a statement may begin
record IsStatementStart (text : List ℕ) (spot : StatementStart) : Type 0 where
  at : ℕ
  column : spot.here.column ≡ column_behind (take at (line_on (lines_of text) spot.here.line))
  first : spot.first ≡ further (start_on (starts_of text) spot.here.line) at

-- the line of a number stands in its text where it begins
line_stands : (text starts : List ℕ) (lines : List (List ℕ)) (i : ℕ) → Stand text starts lines → take (length (get_or lines i [])) (drop (get_or starts i 0) text) ≡ get_or lines i []
unfolding Stand
line_stands text [] [] i s = refl
line_stands text [] (l ∷ ls) i s = absurd s
line_stands text (x ∷ xs) [] i s = absurd s
line_stands text (x ∷ xs) (l ∷ ls) zero s = s.0
line_stands text (x ∷ xs) (l ∷ ls) (suc i) s = line_stands text xs ls i s.1

module _ (text : List ℕ) (short : length text ≤ TEXT_LIMIT) where
  abbrev AllBegin : Read → Type 0
  AllBegin r = AllByRecursion (BeginsAtItsPlace text) r.said × AllByRecursion (BeginsWithItsMark text) r.comments

  one_begins : (cross : Option Cross) (spot : StatementStart) (bytes : List ℕ) (r q : Read) → IsStatementStart text spot → AllBegin r → read_one cross spot bytes r ≡ Ok q → AllBegin q
  unfolding read_one
  one_begins cross spot bytes r q given read e =
      let whole : Span = span_of spot.first (length bytes) in
      let b = bound (said_at cross r.dying spot.here bytes) (noted r spot.here whole) q e in
      noted_by AllBegin r spot.here whole q read (λ names. read)
      (λ s name tail o laid'. (all_more (BeginsAtItsPlace text) r.said _ read.0 (record { at = given.at; column = given.column; first = given.first }), read.1)) b.0 b.2

  comment_begins : (c : Span) (r : Read) → BeginsWithItsMark text c → AllBegin r → AllBegin (with_comment c r)
  comment_begins c r given read = (read.0, all_more (BeginsWithItsMark text) r.comments c read.1 given)

  lined : (front ls : List (List ℕ)) → front ++ ls ≡ lines_of text → Lined AllBegin (IsStatementStart text) (BeginsWithItsMark text) one_begins comment_begins (starts_of text) ls (length front + 1)
  lined front [] is = tt
  lined front (l ∷ ls) is =
      let place : length front + 1 - 1 ≡ length front = omega arith in
      let here : line_on (lines_of text) (length front + 1) ≡ l = ap (λ (n : ℕ). get_or (lines_of text) n []) place ∙ ap (λ (x : List (List ℕ)). get_or x (length front) []) (sym is) ∙ line_behind front l ls in
      let longer : (front ++ l ∷ []) ++ ls ≡ lines_of text = append_assoc front (l ∷ []) ls ∙ is in
      let many : length (front ++ l ∷ []) ≡ length front + 1 = length-append front (l ∷ []) in
      let start : ℕ = start_on (starts_of text) (length front + 1) in
      let stands : take (length l) (drop start text) ≡ l = subst (λ (x : List ℕ). take (length x) (drop start text) ≡ x) here (line_stands text (starts_of text) (lines_of text) (length front + 1 - 1) (lines_stand text)) in (
        λ k. record { at = k; column = ap (λ (x : List ℕ). column_behind (take k x)) (sym here); first = refl },
        λ k is. mark_begins text short start l stands k is,
        subst (λ (n : ℕ). Lined AllBegin (IsStatementStart text) (BeginsWithItsMark text) one_begins comment_begins (starts_of text) ls (n + 1)) many (lined (front ++ l ∷ []) ls longer),
      )

  said_begins : (cross : Option Cross) (d : Diagram) → said_in cross (starts_of text) (lines_of text) ≡ Ok d → AllByRecursion (BeginsAtItsPlace text) d.statements × AllByRecursion (BeginsWithItsMark text) d.comments
  unfolding said_in
  said_begins cross d e =
      let b = bound (steps cross (starts_of text) 1 (lines_of text) unread) (λ p. ended_in (end_of (lines_of text)) p p.inside) d e in
      let all = steps_fine AllBegin (IsStatementStart text) (BeginsWithItsMark text) one_begins comment_begins cross (starts_of text) (lines_of text) 1 unread b.0 (lined [] (lines_of text) refl) (tt, tt) tt b.1 in
      let said = told_said b.0.reader d (ended_told (end_of (lines_of text)) b.0 b.0.inside d b.2) in
      (subst (AllByRecursion (BeginsAtItsPlace text)) said.0 all.0, subst (AllByRecursion (BeginsWithItsMark text)) said.1 all.1)

-- the statements of a diagram, and its comments
pub all_begin : (cross : Option Cross) (text : List ℕ) (d : Diagram) → mermaid cross text ≡ Ok d → AllByRecursion (BeginsAtItsPlace text) d.statements × AllByRecursion (BeginsWithItsMark text) d.comments
unfolding mermaid
all_begin cross text d e = by (nat_lt TEXT_LIMIT (length text)) refl e
  where
    by : (b : Bool) → nat_lt TEXT_LIMIT (length text) ≡ b → ◌≡◌ {A = Result Diagram ImportFault} (cond b (Err TooLong) (said_in cross (starts_of text) (lines_of text))) (Ok d) → AllByRecursion (BeginsAtItsPlace text) d.statements × AllByRecursion (BeginsWithItsMark text) d.comments
    by true long f = cc
    by false short f = said_begins text (ltb-false TEXT_LIMIT (length text) short) cross d f
