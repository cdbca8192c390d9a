-- Tables of the week.
use Rattle.std.proofs.Common.{◌≡◌, ◌≢◌, ◌<◌, ◌≤◌, ◌+◌, ◌-◌, ◌*◌, ◌/◌, ◌%◌, ◌^◌, ◌∙◌, ℕ, Bool, true, false, ◌&&◌, ◌||◌, min, max, List, length, get_or, arith, refl, ap, sym, inl, inr, w64}
use Rattle.std.specs.Prelude.{bit_and, bit_or, nat_le, nat_lt, nat_eq}
use Rattle.std.specs.Int.{bit_at, trailing_zeros}
use Rattle.std.proofs.Math.Arith.{mod-mul}
use Rattle.std.proofs.Math.ListN.{set}
use Rattle.std.proofs.Math.Nat.{add-mod_left, pow-le-pow_right}
use Rattle.std.proofs.lemmas.Bool.{cases_eq, cases_lt}
use Rattle.std.proofs.lemmas.Bool.Decides.{nat_tests}
use Rattle.std.proofs.lemmas.Grind.{get_or-set_at}
use Rattle.std.proofs.lemmas.List.{get_or-set_other}
use Rattle.std.proofs.lemmas.Nat.{and_le_l, pow_pos}
use Rattle.std.proofs.lemmas.Nat.Bits.{bit_at_above, bit_at-trailing_zeros}
use Rattle.week_plan.specs.Tables.{IsTable, is_set, is_told}
use Rattle.week_plan.proofs.Bits.{set_both, set_either, set_nothing, set_span}

-- a second of a minute
second_of : (words : List ℕ) (k s : ℕ) → s < 60 → is_told words (60 * k + s) ≡ is_set (get_or words k 0) s
second_of words k s low =
    let minute : (60 * k + s) / 60 ≡ k = omega (arith, low) in
    let second : (60 * k + s) % 60 ≡ s = omega (arith, low) in
    ap (λ (n : ℕ). is_set (get_or words n 0) ((60 * k + s) % 60)) minute ∙ ap (λ (n : ℕ). is_set (get_or words k 0) n) second

-- two tables have a minute of a second in common
pub met_at : (one other : List ℕ) (k : ℕ) → k < 10080 → IsTable one → bit_and (get_or one k 0) (get_or other k 0) ≢ 0
    → (at : ℕ) × (at < 604800) × ((is_told one at && is_told other at) ≡ true)
met_at one other k here table some = (60 * k + s, omega (arith, here, low), both)
  where
    word : ℕ
    word = bit_and (get_or one k 0) (get_or other k 0)

    small : word < 2 ^ 60
    small = let below = table.small k in let less = and_le_l (get_or one k 0) (get_or other k 0) in omega (arith, below, less)

    positive : 0 < word
    positive = elim (cases_eq word 0) [
      | inl none ↦ absurd (some none)
      | inr is ↦ omega (arith, is)
    ]

    s : ℕ
    s = trailing_zeros w64 word

    lowest : (s < 64) × (bit_at word s ≡ 1) × ((i : ℕ) → i < s → bit_at word i ≡ 0)
    lowest = bit_at-trailing_zeros w64 word positive (omega (arith, small))

    low : s < 60
    low = elim (cases_lt s 60) [
      | inl is ↦ is
      | inr above ↦ (let none = bit_at_above word 60 s small above in let one = lowest.1 in absurd (omega (arith, none, one)))
    ]

    both : (is_told one (60 * k + s) && is_told other (60 * k + s)) ≡ true
    both =
        ap (λ (b : Bool). b && is_told other (60 * k + s)) (second_of one k s low)
        ∙ ap (λ (b : Bool). is_set (get_or one k 0) s && b) (second_of other k s low)
        ∙ sym (set_both (get_or one k 0) (get_or other k 0) s)
        ∙ ap (λ (n : ℕ). nat_eq n 1) lowest.1

pub met_nowhere : (one other : List ℕ) → ((k : ℕ) → k < 10080 → bit_and (get_or one k 0) (get_or other k 0) ≡ 0)
    → (at : ℕ) → at < 604800 → (is_told one at && is_told other at) ≡ false
met_nowhere one other none at low =
    sym (set_both (get_or one (at / 60) 0) (get_or other (at / 60) 0) (at % 60))
    ∙ ap (λ (n : ℕ). is_set n (at % 60)) (none (at / 60) (omega (arith, low)))
    ∙ set_nothing (at % 60)

-- a word more
pub small_set : (words : List ℕ) (k w : ℕ) → k < length words → ((j : ℕ) → get_or words j 0 < 2 ^ 60) → w < 2 ^ 60 → (j : ℕ) → get_or (set words k w) j 0 < 2 ^ 60
small_set words k w here small low j = elim (cases_eq j k) [
  | inl same ↦ (let is = get_or-set_at words k j w 0 same here in omega (arith, is, low))
  | inr other ↦ (let is = get_or-set_other words k j w 0 other in let before = small j in omega (arith, is, before))
]

pub rest_set : (old words : List ℕ) (k w : ℕ) → ((j : ℕ) → k ≤ j → get_or words j 0 ≡ get_or old j 0) → (j : ℕ) → k + 1 ≤ j → get_or (set words k w) j 0 ≡ get_or old j 0
rest_set old words k w rest j from = get_or-set_other words k j w 0 (λ same. absurd (omega (arith, same, from))) ∙ rest j (omega (arith, from))

-- the seconds of a minute from one up to another
pub small_span : (low high : ℕ) → high ≤ 60 → 2 ^ high - 2 ^ low < 2 ^ 60
small_span low high within =
    let most : 2 ^ high ≤ 2 ^ 60 = pow-le-pow_right {n = 2} (omega arith) within in
    let some = pow_pos low in
    omega (arith, most, some)

-- whether a second lies between two
abbrev pub lies : (from to at : ℕ) → Bool
lies from to at = nat_le from at && nat_lt at to

lies_in_minute : (from to k s : ℕ) → s < 60 → lies (max from (k * 60) - k * 60) (min to (k * 60 + 60) - k * 60) s ≡ lies from to (60 * k + s)
lies_in_minute from to k s low = elim (cases_lt (60 * k + s) from) [
  | inl before ↦ (let no : lies (max from (k * 60) - k * 60) (min to (k * 60 + 60) - k * 60) s ≡ false = grind (arith, nat_tests, before, low) in let none : lies from to (60 * k + s) ≡ false = grind (arith, nat_tests, before) in no ∙ sym none)
  | inr first ↦ elim (cases_lt (60 * k + s) to) [
    | inl inside ↦ (let yes : lies (max from (k * 60) - k * 60) (min to (k * 60 + 60) - k * 60) s ≡ true = grind (arith, nat_tests, first, inside, low) in let is : lies from to (60 * k + s) ≡ true = grind (arith, nat_tests, first, inside) in yes ∙ sym is)
    | inr behind ↦ (let no : lies (max from (k * 60) - k * 60) (min to (k * 60 + 60) - k * 60) s ≡ false = grind (arith, nat_tests, behind, low) in let none : lies from to (60 * k + s) ≡ false = grind (arith, nat_tests, behind) in no ∙ sym none)
  ]
]

-- the seconds of one minute more are added
pub span_more : (old words : List ℕ) (from to k word : ℕ) → k < length words
    → ((at : ℕ) → at < 60 * k → is_told words at ≡ (is_told old at || lies from to at))
    → ((j : ℕ) → k ≤ j → get_or words j 0 ≡ get_or old j 0)
    → word ≡ 2 ^ (min to (k * 60 + 60) - k * 60) - 2 ^ (max from (k * 60) - k * 60)
    → (at : ℕ) → at < 60 * (k + 1) → is_told (set words k (bit_or (get_or words k 0) word)) at ≡ (is_told old at || lies from to at)
span_more old words from to k word here done rest is at low = elim (cases_lt at (60 * k)) [
  | inl before ↦ ap (λ (n : ℕ). is_set n (at % 60)) (get_or-set_other words k (at / 60) (bit_or (get_or words k 0) word) 0 (λ same. absurd (omega (arith, same, before)))) ∙ done at before
  | inr first ↦ by (at - 60 * k) (omega (arith, low, first)) (omega (arith, first))
]
  where
    by : (s : ℕ) → s < 60 → at ≡ 60 * k + s → is_told (set words k (bit_or (get_or words k 0) word)) at ≡ (is_told old at || lies from to at)
    by s short same =
        ap (is_told (set words k (bit_or (get_or words k 0) word))) same
        ∙ second_of (set words k (bit_or (get_or words k 0) word)) k s short
        ∙ ap (λ (n : ℕ). is_set n s) (get_or-set_at words k k (bit_or (get_or words k 0) word) 0 refl here)
        ∙ set_either (get_or words k 0) word s
        ∙ ap (λ (n : ℕ). is_set n s || is_set word s) (rest k (omega arith))
        ∙ ap (λ (n : ℕ). is_set (get_or old k 0) s || is_set n s) is
        ∙ ap (λ (b : Bool). is_set (get_or old k 0) s || b) (set_span (max from (k * 60) - k * 60) (min to (k * 60 + 60) - k * 60) s ∙ lies_in_minute from to k s short)
        ∙ ap (λ (b : Bool). b || lies from to (60 * k + s)) (sym (second_of old k s short))
        ∙ ap (λ (n : ℕ). is_told old n || lies from to n) (sym same)

-- one minute more is repeated
pub repeated_more : (old words : List ℕ) (minutes k : ℕ) → k < length words → minutes ≤ k → 0 < minutes
    → ((j : ℕ) → j < k → get_or words j 0 ≡ get_or old (j % minutes) 0)
    → (j : ℕ) → j < k + 1 → get_or (set words k (get_or words (k - minutes) 0)) j 0 ≡ get_or old (j % minutes) 0
repeated_more old words minutes k here from some done j low = elim (cases_eq j k) [
  | inl same ↦
      get_or-set_at words k j (get_or words (k - minutes) 0) 0 same here
      ∙ done (k - minutes) (omega (arith, from, some))
      ∙ ap (λ (n : ℕ). get_or old n 0) (sym (add-mod_left minutes (k - minutes)) ∙ (let is : minutes + (k - minutes) ≡ j = omega (arith, from, same) in ap (λ (n : ℕ). n % minutes) is))
  | inr other ↦ get_or-set_other words k j (get_or words (k - minutes) 0) 0 other ∙ done j (omega (arith, low, other))
]

pub repeated_told : (old words : List ℕ) (minutes : ℕ) → 0 < minutes → ((j : ℕ) → j < 10080 → get_or words j 0 ≡ get_or old (j % minutes) 0)
    → (at : ℕ) → at < 604800 → is_told words at ≡ is_told old (at % (60 * minutes))
repeated_told old words minutes some done at low =
    ap (λ (n : ℕ). is_set n (at % 60)) (done (at / 60) (omega (arith, low)))
    ∙ sym (second_of old (at / 60 % minutes) (at % 60) (omega arith))
    ∙ ap (is_told old) (sym (ap (λ (n : ℕ). at % n) turned ∙ mod-mul at some (omega arith) ∙ placed))
  where
    turned : 60 * minutes ≡ minutes * 60
    turned = omega arith

    placed : (at / 60 % minutes) * 60 + at % 60 ≡ 60 * (at / 60 % minutes) + at % 60
    placed = omega arith
