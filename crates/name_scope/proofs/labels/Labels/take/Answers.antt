use Rattle.std.proofs.Common.{◌≡◌, ◌∙◌, ap, length-set, Some, Option, arith, ℕ, List, Bor, get_or, true}
use Rattle.name_scope.specs.Labelled.{first_of, head_at, next_at, seen_label}
use Rattle.name_scope.specs.Seen.{left_of}
use Rattle.name_scope.proofs.Labelling.{now_heads, now_left, now_linked, place_inside}
use Rattle.name_scope.proofs.labels.Labels.take.Goals as goal

pub label_at-own-requires : goal.label_at-own-requires
label_at-own-requires c =
    let t = c.args.self.now in
    let found : Some c.in-Some.place ≡ first_of (seen_label c.args.label) (left_of t) = c.in-Some.ensures.at ∙ t.heads (seen_label c.args.label) in
    record { inside = let i = place_inside seen_label t.labels.items t.taken.items (seen_label c.args.label) c.in-Some.place t.taken_all found in omega (arith, i, c.deref.ensures.len) }

pub place_at-after-requires : goal.place_at-after-requires
place_at-after-requires c =
    let t = c.args.self.now in
    let found : Some c.in-Some.place ≡ first_of (seen_label c.args.label) (left_of t) = c.in-Some.ensures.at ∙ t.heads (seen_label c.args.label) in
    record { inside = let i = place_inside seen_label t.labels.items t.taken.items (seen_label c.args.label) c.in-Some.place t.taken_all found in let n = t.next_all in omega (arith, i, n, c.deref-2.ensures.len) }

pub index_mut-requires : goal.index_mut-requires
index_mut-requires c =
    let t = c.args.self.now in
    let found : Some c.in-Some.place ≡ first_of (seen_label c.args.label) (left_of t) = c.in-Some.ensures.at ∙ t.heads (seen_label c.args.label) in
    let i = place_inside seen_label t.labels.items t.taken.items (seen_label c.args.label) c.in-Some.place t.taken_all found in
    let n = t.taken_all in
    omega (arith, i, n, t.taken.ok.0)

pub invariant_of-self-2 : goal.invariant_of-self-2
invariant_of-self-2 c =
    let t = c.args.self.now in
    let found : Some c.in-Some.place ≡ first_of (seen_label c.args.label) (left_of t) = c.in-Some.ensures.at ∙ t.heads (seen_label c.args.label) in
    record {
      taken_all = length-set t.taken.items c.in-Some.place true ∙ t.taken_all;
      next_all = t.next_all;
      linked = now_linked seen_label t.labels.items t.taken.items (seen_label c.args.label) c.in-Some.place t.taken_all found (next_at t.next.items) t.linked;
      heads = now_heads seen_label t.labels.items t.taken.items (seen_label c.args.label) c.in-Some.place t.taken_all found (head_at t.named t.plain) (head_at c.set_head.new.named c.set_head.new.plain) (next_at t.next.items) c.label_at-own.result c.place_at-after.result
          (c.label_at-own.ensures.at ∙ ap (λ (ls : List (Option (Bor (List ℕ)))). get_or ls c.in-Some.place c.label_at-own.result) c.deref.ensures.value)
          (c.place_at-after.ensures.at ∙ ap (λ (ns : List (Option ℕ)). next_at ns c.in-Some.place) c.deref-2.ensures.value)
          t.heads t.linked c.in_ok-set_head.ensures.set;
    }

pub returns-clause-others : goal.returns-clause-others
returns-clause-others c =
    let t = c.args.self.now in
    let found : Some c.in-Some.place ≡ first_of (seen_label c.args.label) (left_of t) = c.in-Some.ensures.at ∙ t.heads (seen_label c.args.label) in
    now_left seen_label t.labels.items t.taken.items (seen_label c.args.label) c.in-Some.place t.taken_all found
