use Rattle.std.proofs.Common.{inl, inr}
use Rattle.msc_mark.proofs.marks.tokens_of.Goals as goal

pub returns-in_default-clause-tokens : goal.returns-in_default-clause-tokens
returns-in_default-clause-tokens c = λ ts h.
    absurd (c.in_default.not-Memory (c.in-Err.ensures.only_tokens ts h))

pub returns-in_default-clause-own : goal.returns-in_default-clause-own
returns-in_default-clause-own c = inl c.new.ensures.items

pub returns-in-Ok-clause-own : goal.returns-in-Ok-clause-own
returns-in-Ok-clause-own c = inr c.in-Ok.ensures.tokens
