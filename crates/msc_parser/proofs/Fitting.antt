-- The table of places allows behind each beginning of a chart what some chart goes on with.
use Rattle.std.proofs.Common.{◌≡◌, ◌≢◌, ◌↔◌, List, [], ◌∷◌, ◌++◌, Option, Some, None, refl, sym, ap, ◌∙◌, append_assoc}
use Rattle.std.specs.Option.{option_map_or}
use Rattle.std.proofs.lemmas.List.{append-nil}
use Rattle.msc_lexer.specs.Lexemes.{Lexeme}
use Rattle.msc_parser.specs.Grammar.{Tree, IsChart}
use Rattle.msc_parser.specs.Places.{GrammarPlace, Start, Done, next, walk}
use Rattle.msc_parser.specs.Parsing.{IsContinuable}
use Rattle.msc_parser.specs.Table.{place_behind, Allows, TableFitsTheGrammar}
use Rattle.msc_parser.proofs.Accepting.{chart_walks}
use Rattle.msc_parser.proofs.Continuing.{walks_chart}
use Rattle.msc_parser.proofs.FirstFault.{WalksTo, walks_to, stuck, completion, completed}

-- nothing is left of a beginning of a chart where its walk ends
nothing_left : (ls : List Lexeme) → IsContinuable ls → (q : GrammarPlace) (rest : List Lexeme)
    → WalksTo Start ls q rest → rest ≡ []
nothing_left ls c q [] w = refl
nothing_left ls c q (l ∷ rest) w =
    let e : walk Start (ls ++ c.0) ≡ (Done, []) = chart_walks (ls ++ c.0) c.1 c.2 in
    let cut : ls ++ c.0 ≡ w.front ++ l ∷ (rest ++ c.0) =
    ap (λ (x : List Lexeme). x ++ c.0) w.whole ∙ append_assoc w.front (l ∷ rest) c.0 in
    let f : walk Start (ls ++ c.0) ≡ (q, l ∷ (rest ++ c.0)) =
    ap (walk Start) cut ∙ w.leads (l ∷ (rest ++ c.0)) ∙ stuck q l (rest ++ c.0) (w.stops l rest refl) in
    let g : l ∷ (rest ++ c.0) ≡ [] = ap (λ (x : GrammarPlace × List Lexeme). x.1) (sym f ∙ e) in absurd cc

-- the table lets each beginning of a chart through
let_through : (ls : List Lexeme) → IsContinuable ls → (walk Start ls).1 ≡ []
let_through ls c = nothing_left ls c (place_behind ls) (walk Start ls).1 (walks_to ls Start)

-- what stands behind tokens that were let through is walked from the place behind them
walks_on : (front more : List Lexeme) → (walk Start front).1 ≡ []
    → walk Start (front ++ more) ≡ walk (place_behind front) more
walks_on front more through =
    let w = walks_to front Start in
    let same : front ≡ w.front =
    w.whole ∙ ap (λ (x : List Lexeme). w.front ++ x) through ∙ append-nil w.front in
    ap (λ (x : List Lexeme). walk Start (x ++ more)) same ∙ w.leads more

-- what the table lets through is the beginning of a chart, since each place has a way to the end
begins_a_chart : (ls : List Lexeme) → (walk Start ls).1 ≡ [] → IsContinuable ls
begins_a_chart ls through =
    let direction = completion (place_behind ls) in
    let c = walks_chart (ls ++ direction) (walks_on ls direction through ∙ completed (place_behind ls)) in
    (direction, c.0, c.1)

-- an allowed token is let through
allowed : (p : GrammarPlace) (l : Lexeme) (o : Option GrammarPlace) → next p l.symbol ≡ o → o ≢ None
    → (walk p (l ∷ [])).1 ≡ []
allowed p l None step other = absurd (other refl)
allowed p l (Some q) step other =
    ap (λ (o : Option GrammarPlace). (option_map_or (λ n. walk n []) o (p, l ∷ [])).1) step

-- a token that was let through is allowed
was_allowed : (p : GrammarPlace) (l : Lexeme) → (walk p (l ∷ [])).1 ≡ [] → next p l.symbol ≢ None
was_allowed p l through none =
    let e : l ∷ [] ≡ [] =
    sym (ap (λ (x : GrammarPlace × List Lexeme). x.1) (stuck p l [] none)) ∙ through in absurd cc

-- a token is allowed behind a beginning exactly where the two are a beginning
token_fits : (front : List Lexeme) (l : Lexeme) → IsContinuable front
    → (Allows front l.symbol ↔ IsContinuable (front ++ l ∷ []))
token_fits front l c =
    let p = place_behind front in
    let on = ap (λ (x : GrammarPlace × List Lexeme). x.1) (walks_on front (l ∷ []) (let_through front c)) in (
      λ allows. begins_a_chart (front ++ l ∷ []) (on ∙ allowed p l (next p l.symbol) refl allows),
      λ good. was_allowed p l (sym on ∙ let_through (front ++ l ∷ []) good),
    )

-- a walk that ends behind a chart with nothing left
is_end : (end : GrammarPlace × List Lexeme) → end.0 ≡ Done → end.1 ≡ [] → end ≡ (Done, [])
is_end (place, rest) done through = cc

-- the text may end behind a beginning exactly where that is a chart
end_fits : (front : List Lexeme) → IsContinuable front
    → ((place_behind front ≡ Done) ↔ ((t : Tree) × IsChart front t))
end_fits front c =
    let through = let_through front c in (
      λ done. walks_chart front (is_end (walk Start front) done through),
      λ chart. ap (λ (x : GrammarPlace × List Lexeme). x.0) (chart_walks front chart.0 chart.1),
    )

-- the table fits the grammar
pub table_fits : TableFitsTheGrammar
table_fits = record {
  beginnings = λ ls. (let_through ls, begins_a_chart ls);
  tokens = token_fits;
  ends = end_fits;
}
