use Rattle.std.proofs.Common.{◌≡◌, ◌+◌, ◌∙◌, ◌++◌, ◌∷◌, [], ℕ, suc, List, Bool, length, length-append, take, flat_map, ap, arith}
use Rattle.trace_turns.specs.Logs.{side_of}
use Rattle.trace_turns.proofs.Joining.{ends_on, flat_on}
use Rattle.trace_turns.proofs.flat.flatten.Goals as goal

pub loop-window-preserved : goal.loop-window-preserved
loop-window-preserved c =
    let next : suc c.loop-window.window-index ≡ c.loop-window.window-index + 1 = omega arith in
    let added : c.extend_from_slice.new.self.items ≡ c.loop-window.flat.items ++ side_of c.args.puts c.window-item.result = c.in_ok-extend_from_slice.ensures.items ∙ ap (λ (l : List Bool). c.loop-window.flat.items ++ l) c.side_of.ensures in
    let size_is : c.len.result ≡ length c.extend_from_slice.new.self.items = c.len.ensures ∙ c.extend_from_slice.new.self.ok.0 in
    let pushed : c.push.new.self.items ≡ c.loop-window.ends.items ++ length c.extend_from_slice.new.self.items ∷ [] = c.in_ok-push.ensures.items ∙ ap (λ (n : ℕ). c.loop-window.ends.items ++ n ∷ []) size_is in
    let flat = flat_on c.args.puts c.args.windows.now c.loop-window.window-index c.window-item.result c.window-item.is c.loop-window-test.true c.loop-window.flat.items c.extend_from_slice.new.self.items c.loop-window.ends.items c.push.new.self.items
    c.loop-window.invariant.flat added c.loop-window.invariant.size c.loop-window.invariant.ends pushed in
    let ends = ends_on c.args.puts c.args.windows.now c.loop-window.window-index c.window-item.result c.window-item.is c.loop-window-test.true c.loop-window.flat.items c.extend_from_slice.new.self.items c.loop-window.ends.items c.push.new.self.items
    c.loop-window.invariant.flat added c.loop-window.invariant.size c.loop-window.invariant.ends pushed in
    let long = ap (λ (l : List ℕ). length l) pushed in
    let sum = length-append c.loop-window.ends.items (length c.extend_from_slice.new.self.items ∷ []) in
    let before = c.loop-window.invariant.size in
    record {
      flat = flat ∙ ap (λ n. flat_map (side_of c.args.puts) (take n c.args.windows.now)) next;
      size = omega (arith, long, sum, before);
      ends = λ j less. ends j (omega (arith, less));
    }
