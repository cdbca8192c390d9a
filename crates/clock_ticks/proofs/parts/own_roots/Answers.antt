use Rattle.std.proofs.Common.{◌≡◌, ◌∙◌, false, length, get_or, arith, ap, subst, sym}
use Rattle.std.proofs.lemmas.List.{with_items_is}
use Rattle.stream_meaning.specs.Instants.{clock_of, is_root}
use Rattle.clock_nodes.specs.Scenes.{setting_over}
use Rattle.clock_ticks.proofs.Starting.{all_alike}
use Rattle.clock_ticks.proofs.parts.own_roots.Goals as goal

pub demand_roots-requires-clause-none : goal.demand_roots-requires-clause-none
demand_roots-requires-clause-none c i =
    ap (λ xs. get_or xs i false) c.deref_mut.ensures.value ∙ all_alike _ _ _ (c.in_ok-own.ensures.items_if_clones_equal (λ y e. e)) i

pub returns : goal.returns
returns c =
    let long : length c.demand_roots.new.own ≡ c.in_ok-own.own.len = omega (arith, c.deref_mut.ensures.len) in
    record {
      size = ap length (with_items_is c.in_ok-own.own c.demand_roots.new.own long) ∙ long ∙ c.in_ok-own.ensures.len ∙ c.requires.in_clocks;
      roots = λ other. record {
        each = λ i within.
            let setting = setting_over c.args.scene.now other in
            subst (λ xs. get_or xs i false ≡ is_root setting (clock_of setting i) i) (sym (with_items_is c.in_ok-own.own c.demand_roots.new.own long))
            (c.demand_roots.ensures other i (omega (arith, within, c.deref_mut.ensures.len, c.in_ok-own.ensures.len, c.requires.in_clocks)));
      };
    }
