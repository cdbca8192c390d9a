use Rattle.std.proofs.Common.{◌≡◌, ◌∙◌, suc, length, get_or, arith, ap, subst, sym}
use Rattle.std.proofs.lemmas.List.{with_items_is}
use Rattle.clock_infer.specs.declared.clock_map.NodeClock.TheVariants.{Main}
use Rattle.clock_nodes.specs.Nodes.{IsEnd, IsFirst, number_of}
use Rattle.clock_nodes.proofs.nodes.ClockNodes.new.Goals as goal

pub returns : goal.returns
returns c =
    let firsts : length c.link_on.new.firsts ≡ c.in_ok-firsts.firsts.len = omega (arith, c.deref_mut.ensures.len) in
    let nexts : length c.link_on.new.nexts ≡ c.in_ok-nexts.nexts.len = omega (arith, c.deref_mut-2.ensures.len) in
    let ends : length c.link_back.new.ends ≡ c.in_ok-ends.ends.len = omega (arith, c.deref_mut-3.ensures.len) in
    let befores : length c.link_back.new.befores ≡ c.in_ok-befores.befores.len = omega (arith, c.deref_mut-4.ensures.len) in
    record {
      in_nexts = ap length (with_items_is c.in_ok-nexts.nexts c.link_on.new.nexts nexts) ∙ nexts ∙ c.in_ok-nexts.ensures.len;
      in_befores = ap length (with_items_is c.in_ok-befores.befores c.link_back.new.befores befores) ∙ befores ∙ c.in_ok-befores.ensures.len;
      first = λ clock. subst (λ xs. IsFirst c.args.clocks.now clock 0 (get_or xs (number_of clock) (length c.args.clocks.now))) (sym (with_items_is c.in_ok-firsts.firsts c.link_on.new.firsts firsts)) (c.link_on.ensures.first clock);
      next = λ i within. subst (λ xs. IsFirst c.args.clocks.now (get_or c.args.clocks.now i (Main 0)) (suc i) (get_or xs i 0)) (sym (with_items_is c.in_ok-nexts.nexts c.link_on.new.nexts nexts)) (c.link_on.ensures.next i within);
      end = λ clock. subst (λ xs. IsEnd c.args.clocks.now clock (length c.args.clocks.now) (get_or xs (number_of clock) 0)) (sym (with_items_is c.in_ok-ends.ends c.link_back.new.ends ends)) (c.link_back.ensures.end clock);
      before = λ i within. subst (λ xs. IsEnd c.args.clocks.now (get_or c.args.clocks.now i (Main 0)) i (get_or xs i 0)) (sym (with_items_is c.in_ok-befores.befores c.link_back.new.befores befores)) (c.link_back.ensures.before i within);
    }
