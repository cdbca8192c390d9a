use Rattle.std.proofs.Common.{◌≡◌, ◌∙◌, ◌++◌, length, take, drop, arith, ap, sym}
use Rattle.std.proofs.Math.Seq.{take-append_seam}
use Rattle.sample_bytes.specs.Wide.{wide_samples_in}
use Rattle.track_library.proofs.Sound.{wide_front}
use Rattle.track_library.proofs.samples.read_wide.Goals as goal

pub returns : goal.returns
returns c =
    let made = c.decode_wide.new.into in
    let behind = drop (length made) c.in_ok-samples.samples.items in
    let is : made ≡ wide_samples_in c.args.blocks.now = c.decode_wide.ensures ∙ ap wide_samples_in c.split_at.ensures.front ∙ wide_front c.args.blocks.now in
    let long : length made ≡ c.in_ok-samples.samples.len = omega (arith, c.deref_mut.ensures.len, c.decode_wide.auto.into) in
    record { samples = ap (λ n. take n (made ++ behind)) (sym long) ∙ take-append_seam made behind ∙ is }
