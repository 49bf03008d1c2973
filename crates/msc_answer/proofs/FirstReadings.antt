-- The first comment line of a diagram that says something of its queues.
use Rattle.std.proofs.Common.{◌≡◌, ◌<◌, ◌≤◌, ℕ, ◌+◌, List, [], ◌∷◌, drop, get_or, length, Option, None, Some, option_map, refl, sym, ap, subst, ◌∙◌}
use Rattle.std.specs.Global.{Vec}
use Rattle.std.specs.Prelude.{MatchOption}
use Rattle.std.proofs.lemmas.List.{drop_more, drop_all}
use Rattle.msc_chart.specs.Drawings.{chart_of}
use Rattle.msc_import.specs.declared.importing.Imported.{Imported}
use Rattle.msc_links.specs.Comments.{Reading, says_nothing, unreadable, says, own_text}
use Rattle.msc_links.specs.Said.{HasFault, SaysOwn}
use Rattle.msc_links.specs.declared.comment.OwnQueues.{OwnQueues}
use Rattle.msc_links.specs.declared.line.LineNames.{LineNames}
use Rattle.msc_mermaid.specs.declared.statement.Span.{Span}
use Rattle.msc_answer.specs.Importing.{first_reading, line_reading, reading_first, IsFirstOwn, IsOwnComment}
use Rattle.msc_answer.specs.Linked.{AreNamesOf}

reading_cons : (text : List ℕ) (c : Span) (cs : List Span) → first_reading text (c ∷ cs) ≡ reading_first (line_reading text c) (first_reading text cs)
unfolding first_reading
reading_cons text c cs = refl

reading_none : (text : List ℕ) → first_reading text [] ≡ says_nothing
unfolding first_reading
reading_none text = refl

module _ (text : List ℕ) (cs : List Span) (i : ℕ) where
  module _ (d : Span) (inside : i < length cs) where
    -- one line more, which reads so
    reading_next : (r : Reading) → r ≡ line_reading text (get_or cs i d)
        → first_reading text (drop i cs) ≡ reading_first r (first_reading text (drop (i + 1) cs))
    reading_next r is =
        ap (first_reading text) (drop_more cs i d inside) ∙ reading_cons text (get_or cs i d) (drop (i + 1) cs)
        ∙ ap (λ (s : Reading). reading_first s (first_reading text (drop (i + 1) cs))) (sym is)

    -- a line that says nothing
    pub reading_later : says_nothing ≡ line_reading text (get_or cs i d)
        → first_reading text (drop i cs) ≡ first_reading text (drop (i + 1) cs)
    reading_later is = reading_next says_nothing is

    module _ (rest : first_reading text (drop i cs) ≡ first_reading text cs) where
      -- a line that cannot be read
      pub unreadable_here : unreadable ≡ line_reading text (get_or cs i d) → IsFirstOwn (first_reading text cs) None
      unreadable_here is =
          subst (λ (r : Reading). IsFirstOwn r None) (sym (reading_next unreadable is) ∙ rest) refl

      -- a line that says something
      pub says_here : (queues : OwnQueues) → says (own_text queues) ≡ line_reading text (get_or cs i d)
          → IsFirstOwn (first_reading text cs) (Some queues)
      says_here queues is =
          subst (λ (r : Reading). IsFirstOwn r (Some queues)) (sym (reading_next (says (own_text queues)) is) ∙ rest) (queues, refl, refl)

  -- where the lines end
  pub none_at_end : length cs ≤ i → first_reading text (drop i cs) ≡ first_reading text cs
      → IsFirstOwn (first_reading text cs) None
  none_at_end over rest =
      subst (λ (r : Reading). IsFirstOwn r None)
      (sym (ap (first_reading text) (drop_all i cs over) ∙ reading_none text) ∙ rest) refl

module _ (text : List ℕ) (is : Imported) where
  -- the comment of what the code has found
  comment_from : (reading : Reading) (own : OwnQueues) → IsFirstOwn reading (Some own)
      → (names : List LineNames) → AreNamesOf text is.spans (chart_of is.draft) names → (comment : Option (List ℕ))
      → MatchOption comment (HasFault names own.rules.items) (SaysOwn names own) → IsOwnComment reading text is comment
  comment_from says_nothing own first names are comment said = cc
  comment_from unreadable own first names are comment said = cc
  comment_from (says text_of) own (queues, reads, found) names are comment said =
      let same : own ≡ queues = cc in
      (own, subst (λ (q : OwnQueues). own_text q ≡ text_of) (sym same) reads, names, are, said)

  -- the same of a comment in a list of bytes
  pub comment_by : (reading : Reading) (own : OwnQueues) → IsFirstOwn reading (Some own)
      → (names : List LineNames) → AreNamesOf text is.spans (chart_of is.draft) names → (comment : Option (Vec ℕ))
      → MatchOption comment (HasFault names own.rules.items) (λ c. SaysOwn names own c.items)
      → IsOwnComment reading text is (option_map (λ c. c.items) comment)
  comment_by reading own first names are None said = comment_from reading own first names are None said
  comment_by reading own first names are (Some c) said = comment_from reading own first names are (Some c.items) said
