use Rattle.std.proofs.Common.{◌∷◌}
use Rattle.std.specs.List.{flat_map}
use Rattle.msc_lexer.specs.declared.word.Word.TheVariants.{Concurrent, EndConcurrent}
use Rattle.msc_parser.specs.Canonical.{word, space, line_end, inner_pieces}
use Rattle.msc_parser.proofs.Wording.{between}
use Rattle.msc_parser.proofs.writing.put_coregion.Goals as goal

pub returns : goal.returns
returns c =
    between (space ∷ space ∷ word Concurrent ∷ line_end) (flat_map inner_pieces c.args.events.now) (space ∷ space ∷ word EndConcurrent ∷ line_end) c.args.out.now.items c.extend_from_slice.new.self.items c.put_inner.new.out.items
    c.extend_from_slice-2.new.self.items c.in_ok-extend_from_slice.ensures.items c.in_ok-put_inner.ensures c.in_ok-extend_from_slice-2.ensures.items
