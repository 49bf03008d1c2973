use Rattle.msc_place.proofs.places.tokens_of.Goals as goal

pub returns-in_default-clause-tokens : goal.returns-in_default-clause-tokens
returns-in_default-clause-tokens c = λ ts h.
    absurd (c.in_default.not-Memory (c.in-Err.ensures.only_tokens ts h))
