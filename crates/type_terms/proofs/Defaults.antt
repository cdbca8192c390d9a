-- The solution at which every free kind is stereo and every other free variable is int.
use Rattle.std.proofs.Common.{◌≡◌, ◌∙◌, sym, refl, ℕ, zero, suc, ◌<◌, Option, Some, None, arith}
use Rattle.type_terms.specs.Ground.{Assignment, base_type}
use Rattle.type_terms.specs.Term.{kind_meaning}
use Rattle.type_terms.specs.Table.{Table, Solves, IsSound, kind_at}
use Rattle.type_terms.specs.Extends.{Extends, HasDefaults}
use Rattle.liq_base.specs.declared.memory.Kind.TheVariants.{Mono, Stereo}
use Rattle.type_terms.specs.declared.ty.Base.TheVariants.{Int}
use Rattle.type_terms.specs.declared.ty.KindTerm.{KindTerm}
use Rattle.type_terms.specs.declared.ty.KindTerm.TheVariants.{Fixed, Var}
use Rattle.type_terms.proofs.Solutions.{solution, solution_extends}

module _ (s : Table) (h : IsSound s) (d : Assignment) (e : Extends s (record { type_of = λ _. base_type Int; kind_of = λ _. Stereo }) d) where
  mono_by : (n : ℕ) (o : Option KindTerm) → kind_at s.kinds n ≡ o → ((j : ℕ) → j < n → d.kind_of j ≡ Mono → (a : Assignment) → Solves a s → a.kind_of j ≡ Mono) → d.kind_of n ≡ Mono → (a : Assignment) → Solves a s → a.kind_of n ≡ Mono
  mono_by n None at below m a z = absurd (let f : Stereo ≡ Mono = sym (e.kinds n at) ∙ m in cc)
  mono_by n (Some (Fixed c)) at below m a z = z.kinds n (Fixed c) at ∙ sym (e.solves.kinds n (Fixed c) at) ∙ m
  mono_by n (Some (Var j)) at below m a z = z.kinds n (Var j) at ∙ below j (h.kinds n j at) (sym (e.solves.kinds n (Var j) at) ∙ m) a z

  mono_below : (b n : ℕ) → n < b → d.kind_of n ≡ Mono → (a : Assignment) → Solves a s → a.kind_of n ≡ Mono
  mono_below zero n l m a z = absurd (omega arith)
  mono_below (suc b) n l m a z = mono_by n (kind_at s.kinds n) refl (λ j k. mono_below b j (omega arith)) m a z

  -- a kind that is mono by default is mono at every solution
  pub mono_forced : (k : KindTerm) → kind_meaning d k ≡ Mono → (a : Assignment) → Solves a s → kind_meaning a k ≡ Mono
  mono_forced (Fixed c) m a z = m
  mono_forced (Var n) m a z = mono_below (suc n) n (omega arith) m a z

pub defaults : (s : Table) → IsSound s → HasDefaults s
defaults s h =
    let p : Assignment = record { type_of = λ _. base_type Int; kind_of = λ _. Stereo } in
    let e = solution_extends s h p (λ k _. tt) in
    record { at = solution s h p; solves = e.solves; types = e.types; kinds = e.kinds; mono = mono_forced s h (solution s h p) e }
