-- The queues that two tables of rules give.
use Rattle.std.proofs.Common.{◌≡◌, ℕ, ◌<◌, List, [], ◌∷◌, Option, None, Some, length, refl, ◌∙◌, arith}
use Rattle.std.specs.Prelude.{unwrap_or}
use Rattle.std.specs.Option.{option_or}
use Rattle.msc_chart.specs.declared.queue.LinkKind.{LinkKind}
use Rattle.msc_chart.specs.declared.queue.Links.{Links}
use Rattle.msc_chart.specs.declared.queue.Queues.TheVariants.{Uniform, Mixed}
use Rattle.msc_chart.specs.Architectures.{kind_of, link_kind}
use Rattle.msc_links.specs.declared.line.LineNames.{LineNames}
use Rattle.msc_links.specs.declared.link.Link.TheVariants.{To, Between}
use Rattle.msc_links.specs.declared.rule.Rule.{Rule}
use Rattle.msc_links.specs.declared.table.KindTable.{KindTable}
use Rattle.msc_links.specs.Rules.{AreFaultless, AreRuled, given_kind, ruled_kind}
use Rattle.msc_links.specs.Tables.{IsTableOf, tabled_kind}

-- no rule is faultless
none_faultless : (names : List LineNames) → AreFaultless names []
none_faultless names = record { each = λ place rule stands. cc }

-- no rule at all: each link has the usual kind
pub ruled_by_none : (usual : LinkKind) (text given : List Rule) (names : List LineNames)
    → length text ≡ 0 → length given ≡ 0 → AreRuled usual text given names (Uniform usual)
unfolding kind_of ruled_kind given_kind
ruled_by_none usual [] [] names no_text none_given = record {
  text_is_faultless = none_faultless names;
  given_are_faultless = none_faultless names;
  usual_kind = refl;
  kinds = λ s r s_in r_in. refl;
}
ruled_by_none usual [] (g ∷ gs) names no_text none_given = absurd (omega (arith, none_given))
ruled_by_none usual (t ∷ ts) given names no_text none_given = absurd (omega (arith, no_text))

-- the first of four kinds that exists, taken by pairs
first_of : (a b c d : Option LinkKind) (usual : LinkKind)
    → unwrap_or (option_or (option_or a b) (option_or c d)) usual ≡ unwrap_or (option_or a (option_or b (option_or c d))) usual
first_of None b c d usual = refl
first_of (Some kind) b c d usual = refl

-- the kind by the tables of two lists is that which the lists give
module _ (usual : LinkKind) (text given : List Rule) (names : List LineNames) (of_text of_given : KindTable)
    (text_is : IsTableOf names text of_text) (given_is : IsTableOf names given of_given) where
  tabled_is_ruled : (s r : ℕ) → s < 32 → r < 32 → tabled_kind usual of_text of_given s r ≡ ruled_kind usual text given names s r
  unfolding tabled_kind ruled_kind
  tabled_is_ruled s r s_in r_in =
      rw (given_is.kinds (Between s r) (s_in, r_in), text_is.kinds (Between s r) (s_in, r_in), given_is.kinds (To r) r_in, text_is.kinds (To r) r_in)
      (first_of (given_kind names given (Between s r)) (given_kind names text (Between s r)) (given_kind names given (To r)) (given_kind names text (To r)) usual)

  -- links with these kinds are the queues of the rules
  pub ruled_by_tables : (links : Links) → AreFaultless names text → AreFaultless names given → links.usual ≡ usual
      → ((s r : ℕ) → s < 32 → r < 32 → link_kind links s r ≡ tabled_kind usual of_text of_given s r)
      → AreRuled usual text given names (Mixed links)
  unfolding kind_of
  ruled_by_tables links no_text none_given usual_is kinds = record {
    text_is_faultless = no_text;
    given_are_faultless = none_given;
    usual_kind = usual_is;
    kinds = λ s r s_in r_in. kinds s r s_in r_in ∙ tabled_is_ruled s r s_in r_in;
  }
