use Rattle.std.proofs.Common.{◌≡◌, true, false, ◌<◌, ◌≤◌, ◌+◌, ◌∙◌, Option, Some, None, IsSome, ap, sym, subst, length, get_or, arith}
use Rattle.frame_core.specs.declared.cell.Cell.{Cell}
use Rattle.frame_core.specs.Sounds.{cell_of, length_of}
use Rattle.frame_core.specs.Library.{no_sound, sound_at, title_at, tracks_of}
use Rattle.op_leaf.specs.Leaves.{sounds_of}
use Rattle.op_leaf.proofs.Cursors.{files-here, files-over, later-here, later-next, length-sounds, some_samples, sounds-at}
use Rattle.op_leaf.proofs.files.FilesState.advance.Goals as goal

pub returns-then-self-tracks-clause-stands : goal.returns-then-self-tracks-clause-stands
returns-then-self-tracks-clause-stands c p stands some =
    let over : length (tracks_of c.args.library.now c.args.self.now.node) ≤ c.args.self.now.track = omega (arith, c.if-self-tracks.true, c.tracks-tracks.ensures.count) in
    let P : Option Cell → Type 0 = λ slot. IsSome slot in
    let clash : false ≡ true = subst P (files-over c.args.library.now c.args.self.now p stands over) some in
    cc

pub returns-then-self-samples-clause-stands : goal.returns-then-self-samples-clause-stands
returns-then-self-samples-clause-stands c p stands some =
    let there : c.args.self.now.track < length (tracks_of c.args.library.now c.args.self.now.node) = omega (arith, c.if-self-tracks.false, c.tracks-tracks.ensures.count) in
    let in_sounds : c.args.self.now.track < length (sounds_of c.args.library.now c.args.self.now.node) = omega (arith, there, length-sounds c.args.library.now c.args.self.now.node) in
    let within : c.args.self.now.at + 1 < length_of (get_or (sounds_of c.args.library.now c.args.self.now.node) c.args.self.now.track no_sound) =
    omega (arith, c.if-self-samples.true, c.samples-samples.ensures.samples, ap length_of (sounds-at c.args.library.now c.args.self.now.node c.args.self.now.track there)) in
    later-here _ _ _ _ p in_sounds within stands

pub returns-then-self-samples-clause-stays : goal.returns-then-self-samples-clause-stays
returns-then-self-samples-clause-stays c p stands none =
    let there : c.args.self.now.track < length (tracks_of c.args.library.now c.args.self.now.node) = omega (arith, c.if-self-tracks.false, c.tracks-tracks.ensures.count) in
    let clash : None ≡ Some (cell_of (sound_at c.args.library.now c.args.self.now.node c.args.self.now.track) (title_at c.args.library.now c.args.self.now.node c.args.self.now.track) c.args.self.now.kind c.args.self.now.at) =
    sym none ∙ files-here c.args.library.now c.args.self.now p c.requires stands there in
    cc

pub returns-else-self-samples-clause-stands : goal.returns-else-self-samples-clause-stands
returns-else-self-samples-clause-stands c p stands some =
    let there : c.args.self.now.track < length (tracks_of c.args.library.now c.args.self.now.node) = omega (arith, c.if-self-tracks.false, c.tracks-tracks.ensures.count) in
    let in_sounds : c.args.self.now.track < length (sounds_of c.args.library.now c.args.self.now.node) = omega (arith, there, length-sounds c.args.library.now c.args.self.now.node) in
    let at_end : c.args.self.now.at + 1 ≡ length_of (get_or (sounds_of c.args.library.now c.args.self.now.node) c.args.self.now.track no_sound) =
    omega (arith, c.if-self-samples.false, c.requires.within there, c.samples-samples.ensures.samples, ap length_of (sounds-at c.args.library.now c.args.self.now.node c.args.self.now.track there)) in
    let count : c.tracks-tracks.result ≡ length (sounds_of c.args.library.now c.args.self.now.node) = c.tracks-tracks.ensures.count ∙ sym (length-sounds c.args.library.now c.args.self.now.node) in
    rw c.track_after-self.ensures
    (later-next _ _ _ _ p _ count in_sounds
    (λ next is.
    let there_next : next < length (tracks_of c.args.library.now c.args.self.now.node) = omega (arith, is, length-sounds c.args.library.now c.args.self.now.node) in
    omega (arith, some_samples c.args.library.now c.args.self.now.node next c.tracks-tracks.ensures.library c.requires.there there_next, ap length_of (sounds-at c.args.library.now c.args.self.now.node next there_next)))
    at_end stands)

pub returns-else-self-samples-clause-stays : goal.returns-else-self-samples-clause-stays
returns-else-self-samples-clause-stays c p stands none =
    let there : c.args.self.now.track < length (tracks_of c.args.library.now c.args.self.now.node) = omega (arith, c.if-self-tracks.false, c.tracks-tracks.ensures.count) in
    let clash : None ≡ Some (cell_of (sound_at c.args.library.now c.args.self.now.node c.args.self.now.track) (title_at c.args.library.now c.args.self.now.node c.args.self.now.track) c.args.self.now.kind c.args.self.now.at) =
    sym none ∙ files-here c.args.library.now c.args.self.now p c.requires stands there in
    cc
