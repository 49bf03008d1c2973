use Rattle.std.proofs.Common.{subst, sym, ◌∙◌}
use Rattle.msc_lexer.specs.Lexemes.{AreWithin}
use Rattle.msc_place.specs.TokensAt.{IsTokenAt}
use Rattle.msc_place.proofs.SpotLemmas.{spot_within}
use Rattle.msc_place.proofs.tokens_at.token_at.Goals as goal

pub returns-clause-spot : goal.returns-clause-spot
returns-clause-spot c = λ ts h.
    subst (λ us. IsTokenAt us c.args.at c.parted.result) (c.deref.ensures.value ∙ c.in_ok-tokens.ensures.tokens ts h) c.parted.ensures

pub returns-clause-behind : goal.returns-clause-behind
returns-clause-behind c =
    let text = c.args.text.now in
    let within = subst (AreWithin text) (sym c.deref.ensures.value) c.in_ok-tokens.ensures.within in
    (spot_within text c.deref.result.now c.args.at c.parted.result within c.parted.ensures).1

pub returns-clause-token : goal.returns-clause-token
returns-clause-token c =
    let text = c.args.text.now in
    let within = subst (AreWithin text) (sym c.deref.ensures.value) c.in_ok-tokens.ensures.within in
    (spot_within text c.deref.result.now c.args.at c.parted.result within c.parted.ensures).0
