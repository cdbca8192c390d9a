use Rattle.std.proofs.Common.{◌≡◌, ◌+◌, ◌*◌, ◌∙◌, take, drop, map, arith, ap, sym, w8, w16, to_z}
use Rattle.std.specs.Simd.Lanes.{chunk, put_chunk}
use lib.Lanes.{number_l, digits_l}
use Rattle.std.proofs.lemmas.List.{take-take, drop-take, drop-drop}
use Rattle.std.proofs.lemmas.Simd.{chunk-fits, length-chunk}
use Rattle.sample_bytes.proofs.Shuffles.{picked_bytes, decoded_wide}
use Rattle.sample_bytes.proofs.wide.decode_wide_eight.Goals as goal

pub returns : goal.returns
returns c =
    let bytes = c.args.bytes.now in
    let at = 3 * c.args.at in
    let long = length-chunk at 24 bytes (omega (arith, c.requires.within.0, c.requires.within.1)) in
    let front : chunk at 16 bytes ≡ take 16 (chunk at 24 bytes) = sym (take-take 16 24 (drop at bytes) (omega arith)) in
    let back : chunk (at + 8) 16 bytes ≡ drop 8 (chunk at 24 bytes) = ap (take 16) (sym (drop-drop 8 at bytes)) ∙ sym (drop-take 8 16 (drop at bytes)) in
    ap (λ l. put_chunk c.args.at c.args.into.now (map (to_z w16) (digits_l 65536 8 (number_l 256 (picked_bytes l (chunk (at + 8) 16 bytes)))))) front
    ∙ ap (λ l. put_chunk c.args.at c.args.into.now (map (to_z w16) (digits_l 65536 8 (number_l 256 (picked_bytes (take 16 (chunk at 24 bytes)) l))))) back
    ∙ ap (put_chunk c.args.at c.args.into.now) (decoded_wide (chunk at 24 bytes) long (chunk-fits w8 at 24 bytes c.type_inv.bytes))
