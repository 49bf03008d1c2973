use Rattle.msc_lexer.proofs.OneReading.{one_tokens, one_fault, tokens_or_fault}
use Rattle.msc_lexer.proofs.laws.one_reading.Goals as goal

pub returns : goal.returns
returns c = record { tokens = one_tokens; fault = one_fault; apart = tokens_or_fault }
