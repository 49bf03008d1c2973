use Rattle.std.proofs.Common.{◌≡◌, inl, inr, get_or, refl, ◌∙◌, arith}
use Rattle.msc_race.specs.Choices.{event_count, wired_chart}
use Rattle.msc_race.proofs.Making.LinkLemmas.{any_default}
use Rattle.msc_race.proofs.Making.RowLemmas.{row_same}
use Rattle.msc_race.proofs.Pasts.TurnLemmas.{released_more, sent_from, sent_past}
use Rattle.msc_race.proofs.needing.Needs.release.Goals as goal

pub loop-y-init : goal.loop-y-init
loop-y-init c =
    let self = c.args.self.now in
    let choice = c.args.choice.now in
    let firsts = self.spans.firsts.items in
    let first : c.index-y.result.now ≡ get_or firsts c.args.q 0 = c.index-y.ensures ∙ any_default firsts c.args.q c.index-y.result.now 0 c.requires.queue in
    record {
      holds = c.requires.holds;
      spans = refl;
      nexts = refl;
      ready = λ z. (
        λ h. inl h,
        λ h. elim h [
          | inl there ↦ there
          | inr sent ↦
              let from = sent_from (wired_chart choice) choice.e firsts _ (event_count choice) c.args.q _ c.requires.holds.spans refl first z sent.0 in
              let less = sent.1 in absurd (omega (arith, from, less))
        ],
      );
    }

pub loop-y-preserved : goal.loop-y-preserved
loop-y-preserved c =
    let choice = c.args.choice.now in
    let holds = c.loop-y.invariant.holds in
    record {
      holds = record {
        needed_row = holds.needed_row;
        ready_row = row_same (event_count choice) c.loop-y.self.ready c.put_where.new.self c.put_where.ensures.words holds.ready_row;
        needed = holds.needed;
        spans = holds.spans;
        nexts = holds.nexts;
      };
      spans = c.loop-y.invariant.spans;
      nexts = c.loop-y.invariant.nexts;
      ready = released_more (wired_chart choice) choice.e c.args.self.now.ready c.loop-y.self.ready c.put_where.new.self c.args.q c.loop-y.y
          c.is_sent-sent.result c.loop-y.invariant.ready c.put_where.ensures.numbers c.is_sent-sent.ensures;
    }

pub returns-clause-ready : goal.returns-clause-ready
returns-clause-ready c =
    let self = c.args.self.now in
    let choice = c.args.choice.now in
    let ends = self.spans.ends.items in
    let both = c.requires.holds.spans.both in
    let known = c.requires.queue in
    let end : c.index-y-end.result.now ≡ get_or ends c.args.q 0 =
    c.index-y-end.ensures ∙ any_default ends c.args.q c.index-y-end.result.now 0 (omega (arith, known, both)) in
    let over = c.loop-y-test.false in
    λ z. (
      λ h. elim ((c.loop-y.invariant.ready z).0 h) [ inl there ↦ inl there | inr sent ↦ inr sent.0 ],
      λ h. (c.loop-y.invariant.ready z).1 (elim h [
        | inl there ↦ inl there
        | inr sent ↦
            let past = sent_past (wired_chart choice) choice.e _ ends (event_count choice) c.args.q _ c.requires.holds.spans refl end z sent in
            inr (sent, omega (arith, past, over))
      ]),
    )
