-- What the words of options say.
use Rattle.std.proofs.Common.{◌≡◌, ◌∙◌, ℕ, List, refl, sym, ap, arith}
use Rattle.std.specs.Prelude.{◌++◌, Option, Some, None, codes, is_some, option_map, slice_index_or, if◌then◌else◌}

-- a window, a start and a trace are three words: they differ at the third byte
pub window_or_start : (word window start : List ℕ) → word ≡ codes "--window=" ++ window → word ≡ codes "--start=" ++ start → ⊥
window_or_start word window start one other =
    let third : ◌≡◌ {A = ℕ} 119 115 = ap (λ (w : List ℕ). slice_index_or w 2 0) (sym one ∙ other) in absurd (omega (arith, third))

pub window_or_trace : (word window trace : List ℕ) → word ≡ codes "--window=" ++ window → word ≡ codes "--trace=" ++ trace → ⊥
window_or_trace word window trace one other =
    let third : ◌≡◌ {A = ℕ} 119 116 = ap (λ (w : List ℕ). slice_index_or w 2 0) (sym one ∙ other) in absurd (omega (arith, third))

-- what was not said before is said once
pub said_once : {A B C : Type 0} (f : A → B) (before : Option A) (after : C) → option_map f before ≡ None → ◌≡◌ {A = Option C} (if is_some before then None else Some after) (Some after)
said_once f None after none = refl
said_once f (Some a) after none = absurd (cc)
