use Rattle.std.proofs.Common.{ap, ◌≡◌, ◌<◌, ◌+◌, ◌*◌, ◌^◌, ◌++◌, codes, ℕ, Some, refl}
use Rattle.std.proofs.lemmas.Bool.{lt-ltb}
use Rattle.liq_base.specs.Kinds.{channels_of}
use Rattle.liq_base.specs.declared.memory.Kind.{Kind}
use Rattle.wav_io.specs.Header.{header_of, header_bytes, block_size, four_bytes, two_bytes}
use Rattle.wav_io.proofs.fields.header.Goals as goal

-- the fields of a header whose sizes fit
header_is : (kind : Kind) (rate samples channels block size whole : ℕ) → 36 + samples * block_size kind < 2 ^ 32 → channels ≡ channels_of kind → block ≡ block_size kind
    → size ≡ samples * block_size kind → whole ≡ 36 + samples * block_size kind
    → Some (codes "RIFF" ++ four_bytes whole ++ codes "WAVE"
    ++ codes "fmt " ++ four_bytes 16 ++ two_bytes 1 ++ two_bytes channels
    ++ four_bytes rate ++ four_bytes (rate * block) ++ two_bytes block ++ two_bytes 16
    ++ codes "data" ++ four_bytes size) ≡ header_of kind rate samples
unfolding header_bytes
header_is kind rate samples channels block size whole fits of_kind of_block is whole_is = rw (lt-ltb (36 + samples * block_size kind) (2 ^ 32) fits, whole_is, is, of_kind, of_block) refl

pub returns : goal.returns
returns c =
    let size = c.in_ok-size.ensures in
    record { header = rw c.field_bytes.ensures (header_is c.args.kind c.args.rate c.args.samples c.channels-channels.result c.block_len-block.result c.in_ok-size.size _ size.0 c.channels-channels.ensures.count c.block_len-block.ensures size.1 (ap (λ n. 36 + n) size.1)) }
