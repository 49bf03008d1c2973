-- The queues that a text names itself, from its comments.
use Rattle.std.proofs.Common.{◌≡◌, ◌<◌, ◌≤◌, ℕ, ◌+◌, true, false, not, Bool, is_some, List, [], ◌∷◌, drop, get_or, length, Option, None, Some, option_map, Result, Ok, Err, refl, sym, ap, subst, ◌∙◌}
use Rattle.std.proofs.lemmas.List.{drop_more, drop_all}
use Rattle.msc_lexer.specs.declared.token.Token.{Token}
use Rattle.msc_lexer.specs.Lexing.{HasTokens}
use Rattle.msc_links.specs.Comments.{OwnText, Reading, own_text}
use Rattle.msc_mark.specs.ChartComments.{chart_comment, plain_comment}
use Rattle.msc_mark.specs.declared.after_name.ChartComment.{ChartComment}
use Rattle.msc_mermaid.specs.declared.statement.Span.{Span}
use Rattle.msc_report.specs.declared.fault.Fault.TheVariants.{Parse, Chart, NotStarted, Memory, Device}
use Rattle.msc_answer.specs.Own.{OwnSaid, silent, unclear, named, said_after_name, said_at, said_first, said_in, said_on_line, IsOwnAt, IsOwnBy, IsSilent, SaysInChart}
use Rattle.msc_answer.specs.declared.ending.Refusal.{Refusal}
use Rattle.msc_answer.specs.declared.ending.Refusal.TheVariants as refusals
use Rattle.msc_answer.specs.declared.own.LinkRefusal.TheVariants.{Given, Text, Unclear}
use Rattle.msc_answer.specs.declared.own.OwnComment.{OwnComment}
use Rattle.msc_answer.specs.declared.own.OwnPlace.{OwnPlace}

-- what the comment after the name of a chart says is what its text says
pub said_in_chart : (text : List ℕ) (comment : Option ChartComment)
    → ((tokens : List Token) → HasTokens text tokens → option_map plain_comment comment ≡ chart_comment text tokens)
    → SaysInChart text (said_after_name (option_map plain_comment comment))
said_in_chart text comment found = λ tokens has. ap said_after_name (found tokens has)

module _ (says_so : OwnSaid → Type 0) (shows : ℕ → OwnPlace → Type 0) where
  -- what the code has found in a comment at a place is what the text says by it
  pub own_by : (at : ℕ) (place : OwnPlace) → shows at place → (reading : Reading) → says_so (said_at at reading)
      → (answer : Result (Option OwnComment) Refusal) → IsOwnAt place reading answer → IsOwnBy says_so shows answer
  own_by at place shown reading said (Ok None) found = subst (λ (r : Reading). says_so (said_at at r)) found said
  own_by at place shown reading said (Ok (Some own)) found =
      (at, subst (λ (r : Reading). says_so (said_at at r)) found.0 said, subst (λ (p : OwnPlace). shows at p) (sym found.1) shown)
  own_by at place shown reading said (Err (refusals.Fault (Parse f))) found = absurd found
  own_by at place shown reading said (Err (refusals.Fault (Chart f))) found = absurd found
  own_by at place shown reading said (Err (refusals.Fault (NotStarted i))) found = absurd found
  own_by at place shown reading said (Err (refusals.Fault Memory)) found = tt
  own_by at place shown reading said (Err (refusals.Fault Device)) found = absurd found
  own_by at place shown reading said (Err (refusals.Pair f)) found = absurd found
  own_by at place shown reading said (Err (refusals.Mark f)) found = absurd found
  own_by at place shown reading said (Err (refusals.ArrowMark f)) found = absurd found
  own_by at place shown reading said (Err (refusals.Instance name)) found = absurd found
  own_by at place shown reading said (Err (refusals.Link (Given fault))) found = absurd found
  own_by at place shown reading said (Err (refusals.Link (Text fault other))) found = absurd found
  own_by at place shown reading said (Err (refusals.Link (Unclear other))) found =
      (at, subst (λ (r : Reading). says_so (said_at at r)) found.0 said, subst (λ (p : OwnPlace). shows at p) (sym found.1) shown)
  own_by at place shown reading said (Err (refusals.Rounds f)) found = absurd found
  own_by at place shown reading said (Err (refusals.Import e)) found = absurd found

-- ---- the comment lines of a diagram

said_cons : (text : List ℕ) (c : Span) (cs : List Span) → said_in text (c ∷ cs) ≡ said_first (said_on_line text c) (said_in text cs)
unfolding said_in
said_cons text c cs = refl

said_none : (text : List ℕ) → said_in text [] ≡ silent
unfolding said_in
said_none text = refl

module _ (text : List ℕ) (cs : List Span) (i : ℕ) where
  module _ (d : Span) (inside : i < length cs) where
    -- one line more, which says this
    said_next : (said : OwnSaid) → said ≡ said_on_line text (get_or cs i d)
        → said_in text (drop i cs) ≡ said_first said (said_in text (drop (i + 1) cs))
    said_next said is =
        ap (said_in text) (drop_more cs i d inside) ∙ said_cons text (get_or cs i d) (drop (i + 1) cs)
        ∙ ap (λ (s : OwnSaid). said_first s (said_in text (drop (i + 1) cs))) (sym is)

    -- a line that says nothing
    pub said_later : silent ≡ said_on_line text (get_or cs i d) → said_in text (drop i cs) ≡ said_in text (drop (i + 1) cs)
    said_later is = said_next silent is

    -- a line that cannot be read
    pub unclear_here : (at : ℕ) → unclear at ≡ said_on_line text (get_or cs i d) → said_in text (drop i cs) ≡ unclear at
    unclear_here at is = said_next (unclear at) is

    -- a line that names queues
    pub named_here : (at : ℕ) (own : OwnText) → named at own ≡ said_on_line text (get_or cs i d)
        → said_in text (drop i cs) ≡ named at own
    named_here at own is = said_next (named at own) is

    module _ (shows : ℕ → OwnPlace → Type 0) (rest : said_in text (drop i cs) ≡ said_in text cs) where
      -- a line that cannot be read is why the diagram cannot be
      pub refused_here : (refusal : Refusal) → IsOwnBy (λ said. said ≡ said_on_line text (get_or cs i d)) shows (Err refusal)
          → IsOwnBy (λ said. said ≡ said_in text cs) shows (Err refusal)
      refused_here (refusals.Fault (Parse f)) found = absurd found
      refused_here (refusals.Fault (Chart f)) found = absurd found
      refused_here (refusals.Fault (NotStarted n)) found = absurd found
      refused_here (refusals.Fault Memory) found = tt
      refused_here (refusals.Fault Device) found = absurd found
      refused_here (refusals.Pair f) found = absurd found
      refused_here (refusals.Mark f) found = absurd found
      refused_here (refusals.ArrowMark f) found = absurd found
      refused_here (refusals.Instance name) found = absurd found
      refused_here (refusals.Link (Given fault)) found = absurd found
      refused_here (refusals.Link (Text fault other)) found = absurd found
      refused_here (refusals.Link (Unclear other)) found = (found.0, sym (unclear_here found.0 found.1) ∙ rest, found.2)
      refused_here (refusals.Rounds f) found = absurd found
      refused_here (refusals.Import e) found = absurd found

      -- what such a line names is what the diagram names
      pub found_here : (own : OwnComment) → IsOwnBy (λ said. said ≡ said_on_line text (get_or cs i d)) shows (Ok (Some own))
          → IsOwnBy (λ said. said ≡ said_in text cs) shows (Ok (Some own))
      found_here own found = (found.0, sym (named_here found.0 (own_text own.queues) found.1) ∙ rest, found.2)

      -- the same of what the code has found, if it is something
      pub found_so : (own : Option OwnComment) → is_some own ≡ true
          → IsOwnBy (λ said. said ≡ said_on_line text (get_or cs i d)) shows (Ok own)
          → IsOwnBy (λ said. said ≡ said_in text cs) shows (Ok own)
      found_so None is found = cc
      found_so (Some own) is found = found_here own found

    -- if it has found nothing, the line says nothing
    pub none_so : (shows : ℕ → OwnPlace → Type 0) (own : Option OwnComment) → is_some own ≡ false
        → IsOwnBy (λ said. said ≡ said_on_line text (get_or cs i d)) shows (Ok own)
        → silent ≡ said_on_line text (get_or cs i d)
    none_so shows None is found = found
    none_so shows (Some own) is found = cc

  -- where the lines end
  pub said_at_end : length cs ≤ i → said_in text (drop i cs) ≡ silent
  said_at_end over = ap (said_in text) (drop_all i cs over) ∙ said_none text

-- a text in which no comment is found says nothing
pub silent_so : (holds : OwnSaid → Type 0) (shows : ℕ → OwnPlace → Type 0) (own : Option OwnComment) (is : Bool) → is_some own ≡ not is
    → IsOwnBy holds shows (Ok own) → IsSilent holds is
silent_so holds shows None true same says = says
silent_so holds shows None false same says = absurd cc
silent_so holds shows (Some own) true same says = absurd cc
silent_so holds shows (Some own) false same says = (says.0, own_text own.queues, says.1)
