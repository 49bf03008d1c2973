use Rattle.std.proofs.Common.{◌≡◌, ◌⊎◌, ◌↔◌, ◌≤◌, length, map, not, refl, sym, ap, subst, ◌∙◌, arith}
use Rattle.std.specs.Prelude.{nat_eq}
use Rattle.std.specs.Cmp.Lexicographic.{pointwise}
use Rattle.std.specs.Map.Iter.{deref}
use Rattle.std.proofs.lemmas.List.{length-map}
use Rattle.std.proofs.lemmas.Option.{slice_get_read}
use Rattle.msc_parser.specs.declared.tree.Section.{Section}
use Rattle.msc_chart.specs.declared.fault.ChartFault.TheVariants.{TwiceInstance}
use Rattle.msc_chart.specs.Lists.{Occurs}
use Rattle.msc_chart.proofs.ListLemmas.{clash}
use Rattle.msc_chart.proofs.Places.{place-map}
use Rattle.msc_notes.specs.Putting.{IsFewRepeats, section_names}
use Rattle.msc_notes.proofs.Putting.{put_begun, put_passed, put_taken}
use Rattle.msc_notes.proofs.SameEnds.{repeat_here, repeat_old, same_names}
use Rattle.msc_notes.proofs.Sets.{earlier_all, earlier_grows, inserted, none_there}
use Rattle.msc_notes.proofs.standing.put_repeated_names.Goals as goal
use Rattle.msc_notes.proofs.standing.put_repeated_names.Goals.{then-is_repeat+in_ok-push, else-is_repeat}

pub loop-i-init : goal.loop-i-init
loop-i-init c = record {
  faults = put_begun TwiceInstance (IsFewRepeats (section_names c.args.sections.now)) c.args.faults.now.items;
  names = λ name. (
    λ o. absurd (none_there deref c.in_ok-names.names.keys name c.in_ok-names.ensures.empty o),
    λ h. absurd (omega (arith, h.1)),
  );
}

pub loop-i-preserved : goal.loop-i-preserved
loop-i-preserved c =
    let ss = c.args.sections.now in let names = section_names ss in let i = c.loop-i.i in
    let s = c.index-sections-i.result in let v = c.as_slice.result in let keys = c.loop-i.names.keys in
    let here = place-map (λ (s : Section). s.decl.name) ss i s (slice_get_read ss (length ss) i s refl c.loop-i-test.true c.index-sections-i.is) in
    let old = c.args.faults.now.items in let now = c.loop-i.faults.items in
    let added = c.in_ok-is_new.ensures.added in let so_far = c.loop-i.invariant.names in
    record {
      faults = elim c.if-is_repeat.branch [
        | then-is_repeat+in_ok-push w ↦
            let it = c.is_repeat.ensures.0 w.if-is_repeat.true in
            rw (ap (λ v. v.items) w.faults-is ∙ w.in_ok-push.ensures.items)
            (put_taken TwiceInstance (IsFewRepeats names) i old now c.loop-i.invariant.faults
            (repeat_here names i s.decl.name here keys v c.as_slice.ensures so_far it.1 (sym added ∙ it.0)))
        | else-is_repeat w ↦
            rw w.faults-is
            (put_passed TwiceInstance (IsFewRepeats names) i old now c.loop-i.invariant.faults
            (λ h. clash (c.is_repeat.ensures.1 (added ∙ ap not (repeat_old names i s.decl.name here keys v c.as_slice.ensures so_far h), h.0)) w.if-is_repeat.false))
      ];
      names = λ name.
          earlier_grows names i s.decl.name here name _ _ (so_far name)
          (subst (λ n. Occurs (map deref c.insert_full.new.self.keys) name ↔ (Occurs (map deref keys) name ⊎ (n ≡ name))) c.as_slice.ensures
          (rw c.in_ok-is_new.ensures.keys (inserted deref (λ a b. pointwise nat_eq a.now b.now) same_names keys v name)));
    }

pub returns-clause-names : goal.returns-clause-names
returns-clause-names c = λ name.
    let names = section_names c.args.sections.now in
    let long : length names ≡ length c.args.sections.now = simp length-map in
    let past : length names ≤ c.loop-i.i = omega (arith, long) in
    let all = earlier_all names c.loop-i.i past name in let so_far = c.loop-i.invariant.names name in
    (λ o. all.0 (so_far.0 o), λ o. so_far.1 (all.1 o))
