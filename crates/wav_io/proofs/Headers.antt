-- What stands in a header of ours.
use Rattle.std.proofs.Common.{◌≡◌, ◌≤◌, ◌<◌, ℕ, ◌+◌, ◌*◌, ◌^◌, ◌++◌, List, length, drop, Bool, true, false, cond, refl, ◌∙◌, arith}
use Rattle.std.specs.Prelude.{Some, None, nat_lt, codes, if◌then◌else◌}
use Rattle.std.proofs.lemmas.Bool.{ltb-true}
use Rattle.liq_base.specs.declared.limits.TheConstants.{MAX_RATE}
use Rattle.byteorder.specs.Endian.{little_number}
use Rattle.byteorder.specs.Numbers.{little_from-bytes}
use Rattle.liq_base.specs.Kinds.{channels_of}
use Rattle.liq_base.specs.declared.memory.Kind.{Kind}
use Rattle.wav_io.specs.Header.{block_align, block_size, header_at, header_bytes, padded, four_bytes, two_bytes, wide_block, wide_header_bytes}

-- the 44 bytes, by their fields
unfoldable pub fields_of : ℕ → ℕ → ℕ → ℕ → ℕ → ℕ → List ℕ
fields_of whole channels rate block bits size =
    codes "RIFF" ++ four_bytes whole ++ codes "WAVE"
    ++ codes "fmt " ++ four_bytes 16 ++ two_bytes 1 ++ two_bytes channels
    ++ four_bytes rate ++ four_bytes (rate * block) ++ two_bytes block ++ two_bytes bits
    ++ codes "data" ++ four_bytes size

-- the bits of a sample
abbrev pub bits_of : Bool → ℕ
bits_of wide = if wide then 24 else 16

chosen : (b : Bool) (x y : List ℕ) → cond b (Some x) None ≡ Some y → (b ≡ true) × (y ≡ x)
chosen true x y h = (refl, cc)
chosen false x y h = absurd (cc)

-- a header is the bytes of its fields, and its sizes fit
pub record IsHeader (wide : Bool) (kind : Kind) (rate samples : ℕ) (header : List ℕ) : Type 0 where
  pub whole : ℕ
  pub is : header ≡ fields_of whole (channels_of kind) rate (block_align wide kind) (bits_of wide) (samples * block_align wide kind)
  pub fits : samples * block_align wide kind < 2 ^ 32

narrow_fields : (kind : Kind) (rate samples : ℕ)
    → header_bytes kind rate samples ≡ fields_of (36 + samples * block_size kind) (channels_of kind) rate (block_size kind) 16 (samples * block_size kind)
unfolding header_bytes fields_of
narrow_fields kind rate samples = refl

wide_fields : (kind : Kind) (rate samples : ℕ)
    → wide_header_bytes kind rate samples ≡ fields_of (36 + padded (samples * wide_block kind)) (channels_of kind) rate (wide_block kind) 24 (samples * wide_block kind)
unfolding wide_header_bytes fields_of
wide_fields kind rate samples = refl

pub header_is : (wide : Bool) (kind : Kind) (rate samples : ℕ) (header : List ℕ) → header_at wide kind rate samples ≡ Some header → IsHeader wide kind rate samples header
header_is false kind rate samples header h =
    let size = samples * block_size kind in
    let way = chosen (nat_lt (36 + size) (2 ^ 32)) (header_bytes kind rate samples) header h in
    let small : 36 + size < 2 ^ 32 = ltb-true _ _ way.0 in
    record { whole = 36 + size; is = way.1 ∙ narrow_fields kind rate samples; fits = omega (arith, small) }
header_is true kind rate samples header h =
    let size = samples * wide_block kind in
    let way = chosen (nat_lt (36 + padded size) (2 ^ 32)) (wide_header_bytes kind rate samples) header h in
    let small : 36 + padded size < 2 ^ 32 = ltb-true _ _ way.0 in
    record { whole = 36 + padded size; is = way.1 ∙ wide_fields kind rate samples; fits = omega (arith, small) }

pub length_header : (kind : Kind) (rate samples : ℕ) → length (header_bytes kind rate samples) ≡ 44
unfolding header_bytes
length_header kind rate samples = refl

-- the rate stands in the header
pub rate_behind : (whole channels rate block bits size : ℕ) (rest : List ℕ) → rate ≤ MAX_RATE
    → little_number 4 (drop 24 (fields_of whole channels rate block bits size ++ rest)) ≡ rate
unfolding fields_of
rate_behind whole channels rate block bits size rest small =
    little_from-bytes 4 0 rate (drop 28 (fields_of whole channels rate block bits size) ++ rest) ∙ (omega arith)

-- the blocks stand behind it
pub body_behind : (whole channels rate block bits size : ℕ) (rest : List ℕ) → drop 44 (fields_of whole channels rate block bits size ++ rest) ≡ rest
unfolding fields_of
body_behind whole channels rate block bits size rest = refl
