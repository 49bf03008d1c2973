use Rattle.msc_report.proofs.MadeTexts.{words_joined}
use Rattle.msc_report.proofs.event_texts.EventTexts.print_told_words.Goals as goal

pub returns : goal.returns
returns c = λ d texts.
    rw (
      c.in_ok-extend_from_slice-5.ensures.items,
      c.in_ok-extend_from_slice-4.ensures.items,
      c.in_ok-extend_from_slice-3.ensures.items,
      c.in_ok-extend_from_slice-2.ensures.items,
      c.in_ok-extend_from_slice.ensures.items,
      c.words.ensures,
      c.first.ensures,
      c.number-2.ensures,
      c.number.ensures,
      c.as_bytes.ensures.value,
    ) (words_joined d c.args.e c.args.f c.args.page.now.bytes.items c.args.word.now c.args.self.now texts c.requires.e_known c.requires.f_known)
