use Rattle.std.proofs.Common.{◌≡◌, ◌∙◌, false, length, get_or, arith, ap, sym}
use Rattle.std.specs.Vec.{with_items}
use Rattle.std.proofs.lemmas.List.{with_items_is}
use Rattle.stream_meaning.specs.Instants.{moment_after, part_at}
use Rattle.clock_instants.specs.Held.{given_by}
use Rattle.clock_nodes.specs.Scenes.{setting_over}
use Rattle.clock_instants.proofs.Demanded.{demands_are}
use Rattle.clock_instants.proofs.latest.Latest.finish_instant.Goals as goal

pub returns-clause-finished : goal.returns-clause-finished
returns-clause-finished c =
    let cleared = with_items c.args.self.now.parts c.clear.new.parts in
    let unmarked = with_items c.args.self.now.demanded c.clear.new.demanded in
    let rooted = with_items unmarked c.demand_roots.new.demanded in
    let many : length c.make_parts.new.parts ≡ c.args.self.now.parts.len = omega (arith, c.deref_mut-3.ensures.len) in
    let roots : length c.demand_roots.new.demanded ≡ c.args.self.now.demanded.len = omega (arith, c.deref_mut-4.ensures.len) in
    let demands : length c.find_demanded.new.demanded ≡ c.args.self.now.demanded.len = omega (arith, c.deref_mut-5.ensures.len) in
    let parts_are = with_items_is cleared c.make_parts.new.parts many in
    let roots_are = with_items_is unmarked c.demand_roots.new.demanded roots in
    let demanded_are = with_items_is rooted c.find_demanded.new.demanded demands in
    record {
      made = λ other sub past filled can.
          let S = setting_over c.args.scene.now other in
          let moment = moment_after S sub c.args.clock past in
          let parts : c.make_parts.new.parts ≡ moment.parts = c.make_parts.ensures.parts other sub past filled can.at can.long can.stands can.settled in
          let demanded : c.find_demanded.new.demanded ≡ moment.demands = demands_are S sub c.args.clock past c.args.own.now c.deref_mut-5.result.now c.find_demanded.new.demanded c.deref.result.now
          (c.deref.ensures.value ∙ parts_are ∙ parts) can.roots
          (λ j low. ap (λ ms. get_or ms j false) (c.deref_mut-5.ensures.value ∙ roots_are) ∙ c.demand_roots.ensures.roots j (omega (arith, low, c.requires.scene.in_clocks)))
          (λ picks. c.find_demanded.ensures.demands (setting_over c.args.scene.now other) picks) in
          let went = c.deref-4.ensures.value ∙ parts_are ∙ parts in
          let asked = c.deref-5.ensures.value ∙ demanded_are ∙ demanded in
          record {
            parts_are = parts_are ∙ parts;
            held_are = record {
              each = λ i low inside.
                  c.hold.ensures.given i (omega (arith, low, c.requires.scene.in_clocks)) inside
                  ∙ ap (λ ms. given_by (get_or ms i false) (part_at c.deref-2.result.now i)) (c.deref-3.ensures.value ∙ demanded_are ∙ demanded)
                  ∙ ap (λ ps. given_by (get_or moment.demands i false) (part_at ps i)) (c.deref-2.ensures.value ∙ parts_are ∙ parts);
            };
            stands = c.advance_all.ensures.stand other sub past moment filled can.long can.stands can.settled went (sym went) (sym asked);
          };
    }
