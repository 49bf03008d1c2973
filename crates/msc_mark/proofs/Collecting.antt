-- The comments of a draft's events, collected from its tokens.
use Rattle.std.proofs.Common.{◌≡◌, ℕ, ◌+◌, ◌≤◌, Bool, true, false, List, [], ◌∷◌, ◌++◌, length, Option, None, Some, MatchOption, slice_get, refl, sym, ap, ◌∙◌, subst}
use Rattle.std.specs.List.{cons_option, enumerate_from, filter_map}
use Rattle.std.specs.Option.{option_or}
use Rattle.msc_lexer.specs.declared.token.Token.{Token}
use Rattle.msc_lexer.specs.Lexemes.{Lexeme, lexemes}
use Rattle.msc_lexer.specs.Lexing.{HasTokens}
use Rattle.msc_parser.specs.declared.tree.Statement.{Statement}
use Rattle.msc_parser.specs.Drafts.{statements_of}
use Rattle.msc_parser.specs.Grammar.{Tree, IsEvent}
use Rattle.msc_place.specs.Standing.{begins_event, IsStatement}
use Rattle.msc_place.specs.Collecting.{collected, event_place, never}
use Rattle.msc_place.proofs.Collected.{collected_led, collected_nil, collected_passed}
use Rattle.msc_place.proofs.Walks.{Found, Walks, found_all, match_weaker}
use Rattle.msc_place.proofs.EventWalks.{ReadsEvent, chart_events}
use Rattle.msc_mark.specs.declared.fault.MarkFault.{MarkFault}
use Rattle.msc_mark.specs.declared.mark.Mark.{Mark}
use Rattle.msc_mark.specs.Comments.{comment_in, fault_from, fault_in, listed, mark_in, marks_from}
use Rattle.msc_mark.specs.Statements.{CommentsAreThoseOfStatements, IsCommentOf, comments_of}
use Rattle.msc_mark.proofs.Heard.{comment_told, event_end}
use Rattle.msc_mark.proofs.Steps.{fault_nil, fault_none, fault_one, marks_nil, marks_none, marks_one}

-- the comment of the statement that these tokens begin with
abbrev pub comment_behind : List Lexeme → Option Lexeme
comment_behind [] = None
comment_behind (l ∷ ls) = comment_in ls

comments_nil : comments_of [] ≡ []
unfolding comments_of
comments_nil = refl

comments_one : (l : Lexeme) (ls : List Lexeme) → begins_event l.symbol ≡ true
    → comments_of (l ∷ ls) ≡ comment_in ls ∷ comments_of ls
unfolding comments_of
comments_one l ls is = rw is refl

comments_none : (l : Lexeme) (ls : List Lexeme) → begins_event l.symbol ≡ false
    → comments_of (l ∷ ls) ≡ comments_of ls
unfolding comments_of
comments_none l ls is = rw is refl

-- what these comments say, where the first event has this number
abbrev pub marks_by : ℕ → List (Option Lexeme) → List Mark
marks_by e cs = filter_map (λ (p : ℕ × Option Lexeme). mark_in p.0 p.1) (enumerate_from e cs)

-- the first of those that are faulty
abbrev pub fault_by : List (Option Lexeme) → Option MarkFault
fault_by cs = slice_get (filter_map fault_in cs) 0

marks_by_more : (e : ℕ) (c : Option Lexeme) (cs : List (Option Lexeme))
    → marks_by e (c ∷ cs) ≡ listed (mark_in e c) ++ marks_by (e + 1) cs
marks_by_more e c cs =
    elim (mark_in e c) as (λ (o : Option Mark). cons_option o (marks_by (e + 1) cs) ≡ listed o ++ marks_by (e + 1) cs) [
      | None ↦ refl
      | Some m ↦ refl
    ]

fault_by_more : (c : Option Lexeme) (cs : List (Option Lexeme))
    → fault_by (c ∷ cs) ≡ option_or (fault_in c) (fault_by cs)
fault_by_more c cs =
    elim (fault_in c) as (λ (o : Option MarkFault). slice_get (cons_option o (filter_map fault_in cs)) 0 ≡ option_or o (fault_by cs)) [
      | None ↦ refl
      | Some f ↦ refl
    ]

-- one token more, by whether it begins an event
marks_step : (e : ℕ) (l : Lexeme) (ls : List Lexeme) (b : Bool) → begins_event l.symbol ≡ b
    → marks_from (e + 1) ls ≡ marks_by (e + 1) (comments_of ls) → marks_from e ls ≡ marks_by e (comments_of ls)
    → marks_from e (l ∷ ls) ≡ marks_by e (comments_of (l ∷ ls))
marks_step e l ls true is next same =
    marks_one e l ls is ∙ ap (λ ms. listed (mark_in e (comment_in ls)) ++ ms) next
    ∙ sym (marks_by_more e (comment_in ls) (comments_of ls)) ∙ ap (marks_by e) (sym (comments_one l ls is))
marks_step e l ls false is next same =
    marks_none e l ls is ∙ same ∙ ap (marks_by e) (sym (comments_none l ls is))

-- the marks of the tokens are those of the comments
marks_same : (ls : List Lexeme) (e : ℕ) → marks_from e ls ≡ marks_by e (comments_of ls)
marks_same [] e = marks_nil e ∙ ap (marks_by e) (sym comments_nil)
marks_same (l ∷ ls) e =
    marks_step e l ls (begins_event l.symbol) refl (marks_same ls (e + 1)) (marks_same ls e)

fault_step : (l : Lexeme) (ls : List Lexeme) (b : Bool) → begins_event l.symbol ≡ b
    → fault_from ls ≡ fault_by (comments_of ls) → fault_from (l ∷ ls) ≡ fault_by (comments_of (l ∷ ls))
fault_step l ls true is same =
    fault_one l ls is ∙ ap (λ f. option_or (fault_in (comment_in ls)) f) same
    ∙ sym (fault_by_more (comment_in ls) (comments_of ls)) ∙ ap fault_by (sym (comments_one l ls is))
fault_step l ls false is same = fault_none l ls is ∙ same ∙ ap fault_by (sym (comments_none l ls is))

-- and so is the first faulty one
fault_same : (ls : List Lexeme) → fault_from ls ≡ fault_by (comments_of ls)
fault_same [] = fault_nil ∙ ap fault_by (sym comments_nil)
fault_same (l ∷ ls) = fault_step l ls (begins_event l.symbol) refl (fault_same ls)

collect_step : (l : Lexeme) (ls : List Lexeme) (b : Bool) → begins_event l.symbol ≡ b
    → comments_of ls ≡ collected begins_event never comment_behind ls
    → comments_of (l ∷ ls) ≡ collected begins_event never comment_behind (l ∷ ls)
collect_step l ls true is same =
    comments_one l ls is ∙ ap (λ cs. comment_in ls ∷ cs) same
    ∙ sym (collected_led begins_event never comment_behind l ls refl is)
collect_step l ls false is same =
    comments_none l ls is ∙ same ∙ sym (collected_passed begins_event never comment_behind l ls refl is)

-- the comments are collected as places are
comments_same : (ls : List Lexeme) → comments_of ls ≡ collected begins_event never comment_behind ls
comments_same [] = comments_nil ∙ sym (collected_nil begins_event never comment_behind)
comments_same (l ∷ ls) = collect_step l ls (begins_event l.symbol) refl (comments_same ls)

-- a walk does not say what is collected of it
walk_same : (es : List Statement) (b a : List Lexeme) → Walks begins_event never ReadsEvent event_place b a es
    → Walks begins_event never ReadsEvent comment_behind b a es
walk_same [] b a w = w
walk_same (e ∷ es) b a w = (w.0, w.1, w.2, w.3, w.4, w.5, walk_same es w.1 a w.6)

module _ (text : List ℕ) (t : Tree) (tokens : List Token) (have : HasTokens text tokens) where
  -- the comment that was collected of an event is that of its statement
  comment_stands : (e : ℕ) (c : Option Lexeme)
      → Found begins_event never ReadsEvent comment_behind (lexemes text tokens) (statements_of t.sections) e c
      → IsCommentOf text t e c
  comment_stands e c f =
      let after = f.is_one.0 in
      let stands : (own : List Lexeme) → f.first ∷ f.rest ≡ own ++ after → IsStatement text t e f.element f.front own after =
      λ own parts. record {
        whole = record { tokens = tokens; have = have; seen = f.whole ∙ ap (λ ls. f.front ++ ls) parts };
        earlier = f.earlier;
        listed = f.listed;
        is_event = subst (λ ls. IsEvent ls f.element after) parts f.is_one.1;
      } in
      let told = comment_told text t e f.element f.front f.rest after f.first stands (event_end (f.first ∷ f.rest) after f.element f.is_one.1) in
      subst (IsCommentOf text t e) (sym f.is) told

pub comments_stand : CommentsAreThoseOfStatements
comments_stand = record {
  comments = λ text t tokens have h e.
      let ls = lexemes text tokens in let es = statements_of t.sections in
      let found = found_all begins_event never ReadsEvent comment_behind es ls [] (walk_same es ls [] (chart_events ls t h)) (collected_nil begins_event never comment_behind) e in
      subst (λ cs. MatchOption (slice_get cs e) (length es ≤ e) (IsCommentOf text t e)) (sym (comments_same ls))
      (match_weaker (slice_get (collected begins_event never comment_behind ls) e) _ _ _ _ (λ le. le) (comment_stands text t tokens have e) found);
  marks = λ ls. marks_same ls 0;
  fault = fault_same;
}
