-- A name keeps what it held only for a cause.
use Rattle.std.specs.Prelude.{◌≡◌, ◌⊎◌, ◌≤◌, ℕ, List, ◌++◌, Option, Some, None, IsSomeAnd, Result, Ok, Err, OnOk, OnErr, refl}
use Rattle.std.proofs.Common.{sym, ◌∙◌, ap, append_assoc, subst, inl, inr, arith}
use Rattle.liq_base.specs.Counts.{Rose}
use Rattle.liq_base.specs.Pieces.{IsPrefix, SinkTold}
use Rattle.liq_base.specs.Files.{Files, with_file, HoldsPart, Closed, ClosedPart}

-- What writing `bytes` under `name` left of the files: the name holds a prefix of the bytes, or, for this cause, all
-- files are as they were. Nothing else changed.
abbrev pub HoldsPartOr : Type 0 → Files → List ℕ → List ℕ → Files → Type 0
HoldsPartOr cause files name bytes after =
    (cause × (after ≡ files)) ⊎ ((part : List ℕ) × IsPrefix part bytes × (after ≡ with_file files name part))

-- a name that holds a part of h, or what it held, holds a part of what h begins, or what it held for this cause
caused : (cause : Type 0) (files : Files) (name h bytes : List ℕ) → cause → IsPrefix h bytes → (after : Files)
    → HoldsPart files name h after → HoldsPartOr cause files name bytes after
caused cause files name h bytes why p after (inl kept) = inl (why, kept)
caused cause files name h bytes why p after (inr part) =
    inr (
      part.0,
      record {
        rest = part.1.rest ++ p.rest;
        whole_is = p.whole_is ∙ ap (λ v. v ++ p.rest) part.1.whole_is ∙ append_assoc part.0 part.1.rest p.rest;
      },
      part.2,
    )

-- what holds of a told value gives what follows from it
pub some_and : {A : Type 0} (o : Option A) (P Q : A → Type 0) → ((x : A) → P x → Q x) → IsSomeAnd o P → IsSomeAnd o Q
some_and None P Q f p = p
some_and (Some x) P Q f p = f x p

-- whatever a closing answered, the name holds a part of what was to be written, or what it held if the closing failed
pub closed_part_or : {E : Type 0} (r : Result (Unit {0}) E) (cause : Type 0) (out : SinkTold)
    (before after : Option Files) (files : Files) (n h bytes : List ℕ)
    → OnOk r (Closed out before after) → OnErr r (ClosedPart out before after) → OnErr r cause
    → before ≡ Some files → out.name ≡ Some n → out.held ≡ Some h → IsPrefix h bytes
    → IsSomeAnd after (HoldsPartOr cause files n bytes)
closed_part_or (Ok x) cause out before after files n h bytes whole part why b m k p =
    subst (λ a. IsSomeAnd a (HoldsPartOr cause files n bytes)) (sym (whole files b n m h k)) (inr (h, p, refl))
closed_part_or (Err x) cause out before after files n h bytes whole part why b m k p =
    some_and after _ _ (caused cause files n h bytes why p) (part files b n m h k)

-- a name that holds a part of the bytes, or what it held for a cause, does so too for a cause that follows from that
-- one
pub later_cause : (cause more : Type 0) (files : Files) (name bytes : List ℕ) (after : Files) → (cause → more)
    → HoldsPartOr cause files name bytes after → HoldsPartOr more files name bytes after
later_cause cause more files name bytes after f (inl kept) = inl (f kept.0, kept.1)
later_cause cause more files name bytes after f (inr part) = inr part

-- a count that rose between two moments rose between any that stand around them
pub rose_within : (a b c d : ℕ) → a ≤ b → c ≤ d → Rose b c → Rose a d
rose_within a b c d before after rose = omega arith
