use Rattle.std.proofs.Common.{◌+◌, ◌∙◌, ◌∷◌, ◌++◌, [], pos, map, arith, refl, ap, sym, rules}
use Rattle.std.specs.List.{range_with_len}
use Rattle.std.proofs.lemmas.List.{length-set, take_more_set, take_all}
use Rattle.std.proofs.lemmas.List.FromFn.{map-range_with_len_more}
use Rattle.op_leaf.proofs.leaf.silence.Goals as goal

pub loop-at-preserved : goal.loop-at-preserved
loop-at-preserved c =
    let now = c.loop-at.invariant in
    let long = length-set c.loop-at.into c.loop-at.at (pos 0) in
    record {
      long = long ∙ now.long;
      zeros = λ p. take_more_set c.loop-at.into c.loop-at.at (pos 0) (omega (arith, c.loop-at-test.true, now.long))
          ∙ ap (λ l. l ++ pos 0 ∷ []) (now.zeros p) ∙ sym (map-range_with_len_more (λ q. pos 0) p c.loop-at.at (p + c.loop-at.at) refl);
    }

pub returns : goal.returns
returns c = λ p.
    let now = c.loop-at.invariant in
    let over = c.loop-at-test.false in
    sym (take_all c.loop-at.at c.loop-at.into (let l = now.long in omega (arith, l, over))) ∙ now.zeros p
    ∙ ap (λ n. map (λ q. pos 0) (range_with_len p n)) (search rules)
