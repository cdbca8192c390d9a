use Rattle.std.proofs.Common.{rules, ◌≡◌, ◌∙◌, ℕ, true, ap, subst}
use Rattle.std.specs.Prelude.{Option, Result, Ok, IfOk}
use Rattle.frame_core.specs.Sounds.{Sound}
use Rattle.track_library.specs.Walk.{Heard, count_of, first_use}
use Rattle.track_library.specs.States.{heard_of, IsHeld}
use Rattle.track_library.specs.declared.fault.Unusable.{Unusable}
use Rattle.track_library.proofs.Finding.{first_finds}
use Rattle.track_library.proofs.Keeping.{one_more}
use Rattle.track_library.proofs.audio.AudioFiles.add.Goals as goal

pub returns-clause-finds : goal.returns-clause-finds
returns-clause-finds c =
    let used : first_use c.args.all (heard_of c.args.self.now) c.args.name.now (count_of c.args.found) ≡ Ok (heard_of c.note-2.new.self, Ok c.in_ok-number.number) = search rules in
    first_finds c.args.all (heard_of c.args.self.now) c.args.name.now (count_of c.args.found) (heard_of c.note-2.new.self) (Ok c.in_ok-number.number) c.requires.heard c.in_ok-number.ensures.few used

pub returns-clause-kept : goal.returns-clause-kept
returns-clause-kept c = λ by told is held.
    let held_as : c.args.self.now.keeps ≡ true → IsHeld by told c.args.name.now c.in-Ok.audio.0 =
    λ keeps. subst (λ (r : Result (Option Sound × ℕ) Unusable). IfOk r (λ audio. IsHeld by told c.args.name.now audio.0)) c.in-Ok.is (held keeps) in
    let noted = c.in_ok-note.ensures.kept by told in
    let titled = ap (λ (heard : Heard). heard.titles) c.in_ok-number.ensures.titled in
    record {
      same = noted.same ∙ c.in_ok-number.ensures.keeps;
      kept = λ k. noted.kept (one_more by told c.args.self.now c.keep.new.self c.args.name.now c.in-Ok.audio.0 c.in-Ok.audio.1 (λ files t. is files t ∙ ap count_of c.in-Ok.is) held_as c.in_ok-number.ensures.keeps titled c.in_ok-number.ensures.files k);
    }

pub returns-in-Err-clause-kept : goal.returns-in-Err-clause-kept
returns-in-Err-clause-kept c = λ by told is held. c.in_ok-note-in-Err.ensures.kept by told
