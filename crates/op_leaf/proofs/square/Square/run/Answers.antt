use Rattle.std.proofs.Common.{◌≡◌, ◌<◌, ◌+◌, ◌∙◌, ◌∷◌, ◌++◌, [], ℕ, suc, Some, length, to_z, of_z, w16, FitsSigned, arith, refl, ap, sym, subst, rules}
use Rattle.std.proofs.lemmas.List.{length-set, take_more_set, take_all}
use Rattle.std.proofs.lemmas.List.FromFn.{map-range_with_len_more}
use Rattle.std.proofs.lemmas.Int.{to_z-of_z}
use Rattle.frame_core.specs.declared.cell.Cell.{Cell}
use Rattle.op_leaf.specs.Inner.{lefts_of, rights_of}
use Rattle.op_leaf.specs.Leaves.{square_cell}
use Rattle.op_leaf.specs.Standing.{SquareStandsAt}
use Rattle.op_leaf.proofs.square.Square.run.Goals as goal

pub loop-at-preserved : goal.loop-at-preserved
loop-at-preserved c =
    let at = c.loop-at.at in
    let now = c.loop-at.invariant in
    let fit_left : FitsSigned w16 c.offer-cell.result.left = search rules in
    let fit_right : FitsSigned w16 c.offer-cell.result.right = search rules in
    let long_left = length-set c.loop-at.left at (to_z w16 (of_z w16 c.offer-cell.result.left)) in
    let long_right = length-set c.loop-at.right at (to_z w16 (of_z w16 c.offer-cell.result.right)) in
    let room : at < length c.loop-at.left = omega (arith, c.loop-at-test.true, now.left_long) in
    let room_right : at < length c.loop-at.right = omega (arith, c.loop-at-test.true, now.right_long) in
    let cell_is : (p : ℕ) → SquareStandsAt c.args.self.now p → c.offer-cell.result ≡ square_cell c.args.self.now.pitch c.args.self.now.rate c.args.self.now.kind (p + at) =
    λ p stands. c.offer-cell.ensures (p + at) (now.stands p stands)
    ∙ ap (λ pitch. square_cell pitch c.loop-at.self.rate c.loop-at.self.kind (p + at)) now.pitch
    ∙ ap (λ rate. square_cell c.args.self.now.pitch rate c.loop-at.self.kind (p + at)) now.rate
    ∙ ap (λ kind. square_cell c.args.self.now.pitch c.args.self.now.rate kind (p + at)) now.kind in
    record {
      left_long = long_left ∙ now.left_long;
      right_long = long_right ∙ now.right_long;
      pitch = c.advance.ensures.pitch ∙ now.pitch;
      rate = c.advance.ensures.rate ∙ now.rate;
      kind = c.advance.ensures.kind ∙ now.kind;
      stands = λ p stands. (let e : suc (p + at) ≡ p + (at + 1) = omega arith in
          subst (λ n. SquareStandsAt c.advance.new.self n) e (c.advance.ensures.stands (p + at) (now.stands p stands)));
      left = λ p stands. take_more_set c.loop-at.left at (to_z w16 (of_z w16 c.offer-cell.result.left)) room
          ∙ ap (λ l. l ++ to_z w16 (of_z w16 c.offer-cell.result.left) ∷ []) (now.left p stands)
          ∙ ap (λ x. lefts_of (λ q. Some (square_cell c.args.self.now.pitch c.args.self.now.rate c.args.self.now.kind q)) p at ++ x ∷ [])
          (to_z-of_z w16 c.offer-cell.result.left fit_left ∙ ap (λ (cell : Cell). cell.left) (cell_is p stands))
          ∙ sym (map-range_with_len_more (λ q. (square_cell c.args.self.now.pitch c.args.self.now.rate c.args.self.now.kind q).left) p at (p + at) refl);
      right = λ p stands. take_more_set c.loop-at.right at (to_z w16 (of_z w16 c.offer-cell.result.right)) room_right
          ∙ ap (λ l. l ++ to_z w16 (of_z w16 c.offer-cell.result.right) ∷ []) (now.right p stands)
          ∙ ap (λ x. rights_of (λ q. Some (square_cell c.args.self.now.pitch c.args.self.now.rate c.args.self.now.kind q)) p at ++ x ∷ [])
          (to_z-of_z w16 c.offer-cell.result.right fit_right ∙ ap (λ (cell : Cell). cell.right) (cell_is p stands))
          ∙ sym (map-range_with_len_more (λ q. (square_cell c.args.self.now.pitch c.args.self.now.rate c.args.self.now.kind q).right) p at (p + at) refl);
    }

pub returns-clause-left : goal.returns-clause-left
returns-clause-left c = λ p stands.
    let now = c.loop-at.invariant in
    let over = c.loop-at-test.false in
    sym (take_all c.loop-at.at c.loop-at.left (let l = now.left_long in omega (arith, l, over))) ∙ now.left p stands
    ∙ ap (λ n. lefts_of (λ q. Some (square_cell c.args.self.now.pitch c.args.self.now.rate c.args.self.now.kind q)) p n) (search rules)

pub returns-clause-right : goal.returns-clause-right
returns-clause-right c = λ p stands.
    let now = c.loop-at.invariant in
    let over = c.loop-at-test.false in
    sym (take_all c.loop-at.at c.loop-at.right (let l = now.right_long in omega (arith, l, over))) ∙ now.right p stands
    ∙ ap (λ n. rights_of (λ q. Some (square_cell c.args.self.now.pitch c.args.self.now.rate c.args.self.now.kind q)) p n) (search rules)
