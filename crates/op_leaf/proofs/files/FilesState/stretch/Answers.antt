use Rattle.std.proofs.Common.{◌≡◌, ◌<◌, ◌≤◌, true, false, Option, IsSome, length, ap, sym, subst, arith, ◌+◌, ◌∙◌}
use Rattle.frame_core.specs.declared.cell.Cell.{Cell}
use Rattle.frame_core.specs.Library.{sound_at, tracks_of}
use Rattle.frame_core.specs.Sounds.{length_of}
use Rattle.frame_core.specs.Slots.{title_of}
use Rattle.op_leaf.specs.Inner.{LieInFile}
use Rattle.op_leaf.specs.Leaves.{files_slot}
use Rattle.op_leaf.proofs.Cursors.{files-over}
use Rattle.op_leaf.proofs.Giving.{one_title}
use Rattle.op_leaf.proofs.Stretching.{file_ends, file_inner, stretch_is}
use Rattle.op_leaf.proofs.files.FilesState.stretch.Goals as goal

pub returns-then-self-tracks-clause-stretch : goal.returns-then-self-tracks-clause-stretch
returns-then-self-tracks-clause-stretch c = λ p stands some.
    let over : length (tracks_of c.args.library.now c.args.self.now.node) ≤ c.args.self.now.track = omega (arith, c.if-self-tracks.true, c.tracks.ensures.count) in
    let P : Option Cell → Type 0 = λ slot. IsSome slot in
    let clash : false ≡ true = subst P (files-over c.args.library.now c.args.self.now p stands over) some in
    cc

pub returns-clause-stretch : goal.returns-clause-stretch
returns-clause-stretch c = λ p stands some.
    let there : c.args.self.now.track < length (tracks_of c.args.library.now c.args.self.now.node) = omega (arith, c.if-self-tracks.false, c.tracks.ensures.count) in
    let inside : c.args.self.now.at < length_of (sound_at c.args.library.now c.args.self.now.node c.args.self.now.track) = c.requires.placed.within there in
    let count : c.samples.result ≡ length_of (sound_at c.args.library.now c.args.self.now.node c.args.self.now.track) = c.samples.ensures.samples in
    stretch_is (files_slot c.args.library.now c.args.self.now.node c.args.self.now.again c.args.self.now.kind) p c.args.most c.min.result
    (omega (arith, c.requires.some, c.min.ensures, c.from.ensures, inside, count)) (omega (arith, c.min.ensures, c.from.ensures))
    (λ i more less. file_inner c.args.library.now c.args.self.now p i c.requires.placed stands there more (omega (arith, less, c.min.ensures, inside, count)))
    (λ less. file_ends c.args.library.now c.args.self.now p c.min.result c.tracks.ensures.library c.requires.placed stands there
    (omega (arith, c.requires.some, c.min.ensures, c.from.ensures, inside, count)) (omega (arith, less, c.min.ensures, c.from.ensures, inside, count)))

pub returns-then-self-tracks-clause-titled : goal.returns-then-self-tracks-clause-titled
returns-then-self-tracks-clause-titled c = λ p j stands some low.
    let over : length (tracks_of c.args.library.now c.args.self.now.node) ≤ c.args.self.now.track = omega (arith, c.if-self-tracks.true, c.tracks.ensures.count) in
    let P : Option Cell → Type 0 = λ slot. IsSome slot in
    let clash : false ≡ true = subst P (files-over c.args.library.now c.args.self.now p stands over) some in
    cc

pub returns-clause-titled : goal.returns-clause-titled
returns-clause-titled c = λ p j stands some low.
    let there : c.args.self.now.track < length (tracks_of c.args.library.now c.args.self.now.node) = omega (arith, c.if-self-tracks.false, c.tracks.ensures.count) in
    let inside : c.args.self.now.at < length_of (sound_at c.args.library.now c.args.self.now.node c.args.self.now.track) = c.requires.placed.within there in
    let count : c.samples.result ≡ length_of (sound_at c.args.library.now c.args.self.now.node c.args.self.now.track) = c.samples.ensures.samples in
    let lie : LieInFile c.args.library.now c.args.self.now c.min.result = record {
      there = there;
      within = omega (arith, c.min.ensures, c.from.ensures, inside, count);
    } in
    let e : p + 0 ≡ p = omega arith in
    one_title c.args.library.now c.args.self.now p c.min.result stands lie j low
    ∙ sym (one_title c.args.library.now c.args.self.now p c.min.result stands lie 0 (omega (arith, low)))
    ∙ ap (λ q. title_of (files_slot c.args.library.now c.args.self.now.node c.args.self.now.again c.args.self.now.kind q)) e
