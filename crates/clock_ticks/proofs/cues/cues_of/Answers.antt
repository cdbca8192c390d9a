use Rattle.std.proofs.Common.{◌≡◌, ◌+◌, ◌∙◌, ◌∷◌, [], All, length, arith, ap, sym, subst}
use Rattle.std.proofs.lemmas.List.{length-append}
use Rattle.clock_ticks.proofs.Numbered.{all_at}
use Rattle.clock_ticks.proofs.Sinks.{all_more}
use Rattle.clock_ticks.specs.declared.cues.CueList.{CueList}
use Rattle.clock_ticks.proofs.cues.cues_of.Goals as goal

pub loop-init : goal.loop-init
loop-init c = record {
  size = ap length c.in_ok-lists.ensures.items;
  none = subst (λ lists. All (λ (list : CueList). list.marks.items ≡ []) lists) (sym c.in_ok-lists.ensures.items) (λ k d h. absurd (omega (arith, h)));
}

pub loop-preserved : goal.loop-preserved
loop-preserved c = record {
  size = (let more = ap length c.in_ok-push.ensures.items in let long = length-append c.loop.lists.items (_ ∷ []) in let sizes = c.loop.invariant.size in more ∙ long ∙ ap (λ n. n + 1) sizes);
  none = subst (λ lists. All (λ (list : CueList). list.marks.items ≡ []) lists) (sym c.in_ok-push.ensures.items)
      (all_more (λ (list : CueList). list.marks.items ≡ []) c.loop.lists.items _ c.loop.invariant.none c.new.ensures.items);
}

pub returns-clause-size : goal.returns-clause-size
returns-clause-size c = let sizes = c.loop.invariant.size in let many = c.loop.auto.counter-end in omega (arith, sizes, many, c.loop-test.false)

pub returns-clause-none : goal.returns-clause-none
returns-clause-none c k list at = all_at (λ (l : CueList). l.marks.items ≡ []) c.loop.lists.items c.loop.invariant.none k list at
