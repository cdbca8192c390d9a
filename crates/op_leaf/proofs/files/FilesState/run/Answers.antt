use Rattle.std.proofs.Common.{◌≡◌, ◌+◌, ◌∙◌, length, take, arith, sym, subst}
use Rattle.op_leaf.specs.Leaves.{place_in_round, sounds_of, total_of}
use Rattle.op_leaf.proofs.Giving.{at_next, further, lefts_are, rights_are}
use Rattle.op_leaf.proofs.files.FilesState.run.Goals as goal

pub returns-then-count-samples-clause-stands : goal.returns-then-count-samples-clause-stands
returns-then-count-samples-clause-stands c = λ p stands.
    let long : length c.read.new.left ≡ length c.args.left.now = omega arith in
    let less = c.if-count-samples.true in
    let samples = c.samples-samples.ensures.samples in
    subst (λ n. total_of (take c.args.self.now.track (sounds_of c.args.library.now c.args.self.now.node)) + (c.args.self.now.at + n)
    ≡ place_in_round (sounds_of c.args.library.now c.args.self.now.node) c.args.self.now.again (p + length c.args.left.now)) (sym long)
    (further c.args.library.now c.args.self.now p (length c.args.left.now) stands c.requires.ahead (omega (arith, less, samples, long)))

pub returns-else-count-samples-clause-stands : goal.returns-else-count-samples-clause-stands
returns-else-count-samples-clause-stands c = λ p stands.
    let long : length c.read.new.left ≡ length c.args.left.now = omega arith in
    let not_less = c.if-count-samples.false in
    let samples = c.samples-samples.ensures.samples in
    let within = c.requires.ahead.within in
    rw c.track_after-self.ensures
    (at_next c.args.library.now c.args.self.now p (length c.args.left.now) stands c.requires.ahead c.tracks.ensures.library c.requires.placed.there c.requires.some
    (omega (arith, not_less, samples, long, within)) c.tracks.result c.tracks.ensures.count)

pub returns-then-count-samples-clause-left : goal.returns-then-count-samples-clause-left
returns-then-count-samples-clause-left c = λ p stands. c.read.ensures.left ∙ lefts_are c.args.library.now c.args.self.now p (length c.args.left.now) stands c.requires.ahead

pub returns-then-count-samples-clause-right : goal.returns-then-count-samples-clause-right
returns-then-count-samples-clause-right c = λ p stands. c.read.ensures.right ∙ rights_are c.args.library.now c.args.self.now p (length c.args.left.now) stands c.requires.ahead

pub returns-else-count-samples-clause-left : goal.returns-else-count-samples-clause-left
returns-else-count-samples-clause-left c = λ p stands. c.read.ensures.left ∙ lefts_are c.args.library.now c.args.self.now p (length c.args.left.now) stands c.requires.ahead

pub returns-else-count-samples-clause-right : goal.returns-else-count-samples-clause-right
returns-else-count-samples-clause-right c = λ p stands. c.read.ensures.right ∙ rights_are c.args.library.now c.args.self.now p (length c.args.left.now) stands c.requires.ahead
