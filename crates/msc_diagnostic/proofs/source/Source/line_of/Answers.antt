use Rattle.std.proofs.Common.{◌≡◌, nat_le, rules, ap, ◌∙◌}
use Rattle.std.proofs.lemmas.List.Sorted.{IsPartitionPoint-from_clause}
use Rattle.std.specs.List.Sorted.{IsPartitionedBy}
use Rattle.msc_diagnostic.specs.Lines.{line_of, line_starts}
use Rattle.msc_diagnostic.proofs.PlaceLemmas.{found_line, starts_parted}
use Rattle.msc_diagnostic.proofs.source.Source.line_of.Goals as goal

pub returns : goal.returns
returns c =
    let source = c.args.self.now in
    let starts = c.as_slice.result.now in
    let same : starts ≡ line_starts source.ends source.text.now = c.as_slice.ensures.value ∙ source.lines in
    let parted : IsPartitionedBy (λ start. nat_le start c.args.at) starts = rw same (starts_parted source.ends source.text.now c.args.at) in
    let point = IsPartitionPoint-from_clause (λ start. nat_le start c.args.at) starts c.partition_point.result c.partition_point.ensures.partitioned parted (λ a r f called. search rules) in
    found_line starts c.args.at c.partition_point.result c.partition_point.ensures.bound point ∙ ap (λ l. line_of l c.args.at) same
