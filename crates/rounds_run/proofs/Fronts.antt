-- Fronts of bytes.
use Rattle.std.proofs.Common.{◌≡◌, ◌≤◌, ◌∙◌, ◌++◌, ℕ, Bool, zero, suc, Some, None, Option, List, [], append_assoc, arith, refl, ap, sym, subst, inl, inr}
use Rattle.std.proofs.lemmas.List.{append-nil}
use Rattle.liq_base.specs.Pieces.{IsPrefix, grown}
use Rattle.stream_meaning.specs.Instants.{Setting}
use Rattle.stream_meaning.specs.Sinks.{tick_bytes, ticks_bytes}
use Rattle.clock_outputs.proofs.Places.{same_or_other}

pub itself : (bytes : List ℕ) → IsPrefix bytes bytes
itself bytes = record { rest = []; whole_is = sym (append-nil bytes) }

pub front_of : (a b c : List ℕ) → IsPrefix a b → IsPrefix b c → IsPrefix a c
front_of a b c first next = record {
  rest = first.rest ++ next.rest;
  whole_is = next.whole_is ∙ ap (λ x. x ++ next.rest) first.whole_is ∙ append_assoc a first.rest next.rest;
}

-- the bytes of fewer ticks are a front of those of more
pub ticks_front : (setting : Setting) (wide : Bool) (node t n : ℕ) → t ≤ n → IsPrefix (ticks_bytes setting wide node t) (ticks_bytes setting wide node n)
ticks_front setting wide node t zero h =
    let none : t ≡ 0 = omega (arith, h) in
    subst (λ k. IsPrefix (ticks_bytes setting wide node t) (ticks_bytes setting wide node k)) none (itself (ticks_bytes setting wide node t))
ticks_front setting wide node t (suc n) h = elim (same_or_other t (suc n)) [
  | inl same ↦ subst (λ k. IsPrefix (ticks_bytes setting wide node t) (ticks_bytes setting wide node k)) same (itself (ticks_bytes setting wide node t))
  | inr other ↦ (let fewer : t ≤ n = omega (arith, h, other) in
      front_of (ticks_bytes setting wide node t) (ticks_bytes setting wide node n) (ticks_bytes setting wide node (suc n)) (ticks_front setting wide node t n fewer)
      (record { rest = tick_bytes setting wide node n; whole_is = refl }))
]

-- so are those ticks and a front of the next one
pub next_front : (setting : Setting) (wide : Bool) (node t : ℕ) (bytes : List ℕ) → IsPrefix bytes (tick_bytes setting wide node t)
    → IsPrefix (ticks_bytes setting wide node t ++ bytes) (ticks_bytes setting wide node (suc t))
next_front setting wide node t bytes front = record {
  rest = front.rest;
  whole_is = ap (λ b. ticks_bytes setting wide node t ++ b) front.whole_is ∙ sym (append_assoc (ticks_bytes setting wide node t) bytes front.rest);
}

pub grown_nothing : (held : Option (List ℕ)) → held ≡ grown [] held
grown_nothing None = refl
grown_nothing (Some held) = ap Some (sym (append-nil held))

pub grown_twice : (more bytes : List ℕ) (held : Option (List ℕ)) → grown more (grown bytes held) ≡ grown (bytes ++ more) held
grown_twice more bytes None = refl
grown_twice more bytes (Some held) = ap Some (append_assoc held bytes more)
