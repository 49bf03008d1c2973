use Rattle.msc_report.proofs.MadeTexts.{pair_joined}
use Rattle.msc_report.proofs.event_texts.EventTexts.print_pair.Goals as goal

pub returns : goal.returns
returns c = λ d texts.
    rw (
      c.in_ok-extend_from_slice-5.ensures.items,
      c.in_ok-extend_from_slice-4.ensures.items,
      c.in_ok-extend_from_slice-3.ensures.items,
      c.in_ok-extend_from_slice-2.ensures.items,
      c.in_ok-extend_from_slice.ensures.items,
      c.next.ensures,
      c.placed.ensures,
      c.numbered.ensures,
      c.number.ensures,
      c.as_bytes.ensures.value,
    ) (pair_joined d c.args.e c.args.f c.args.page.now.bytes.items c.args.word.now c.args.self.now texts c.requires.e_known c.requires.f_known)
