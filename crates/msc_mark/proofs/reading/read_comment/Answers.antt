use Rattle.std.proofs.Common.{rules}
use Rattle.msc_mark.specs.Readings.{fault_of, mark_of}
use Rattle.msc_mark.specs.Words.{words_of}
use Rattle.msc_mark.proofs.reading.read_comment.Goals as goal

pub returns-then-not-starts_with : goal.returns-then-not-starts_with
unfolding fault_of mark_of words_of
returns-then-not-starts_with c = search rules

pub returns-then-not-is_complete : goal.returns-then-not-is_complete
unfolding fault_of mark_of words_of
returns-then-not-is_complete c = search rules

pub returns-then-not-has_reason : goal.returns-then-not-has_reason
unfolding fault_of mark_of words_of
returns-then-not-has_reason c = search rules

pub returns : goal.returns
unfolding fault_of mark_of words_of
returns c = search rules
