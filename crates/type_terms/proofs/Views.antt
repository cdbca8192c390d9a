-- The plain data of each variant of a `Ty`, and the shapes that a type can have.
use Rattle.std.proofs.Common.{◌≡◌, ◌∙◌, sym, ap, refl, ℕ, map, Vec, Box, Global}
use Rattle.type_terms.specs.Term.{Term, base_term, list_term, tuple_term, source_term, variable, term_of, term_step, terms_of}
use Rattle.type_terms.specs.declared.ty.Base.{Base}
use Rattle.type_terms.specs.declared.ty.Base.TheVariants as base
use Rattle.type_terms.specs.declared.ty.KindTerm.{KindTerm}
use Rattle.type_terms.specs.declared.ty.Ty.{Ty}
use Rattle.type_terms.specs.declared.ty.Ty.TheOpen as open_ty
use Rattle.type_terms.specs.declared.ty.Ty.TheViews as view
use Rattle.type_terms.specs.declared.ty.Ty.TheVariants as ty
use Rattle.type_terms.specs.declared.ty.Ty.TheFolds.{fold-roll-Ty}

pub term_Int : (t : Ty) → t ≡ ty.Int → term_of t ≡ base_term base.Int
term_Int t e = ap term_of (e ∙ sym (ty.rolls-Int)) ∙ fold-roll-Ty Term term_step open_ty.Int

pub term_Decimal : (t : Ty) → t ≡ ty.Decimal → term_of t ≡ base_term base.Decimal
term_Decimal t e = ap term_of (e ∙ sym (ty.rolls-Decimal)) ∙ fold-roll-Ty Term term_step open_ty.Decimal

pub term_Text : (t : Ty) → t ≡ ty.Text → term_of t ≡ base_term base.Text
term_Text t e = ap term_of (e ∙ sym (ty.rolls-Text)) ∙ fold-roll-Ty Term term_step open_ty.Text

pub term_Bool : (t : Ty) → t ≡ ty.Bool → term_of t ≡ base_term base.Bool
term_Bool t e = ap term_of (e ∙ sym (ty.rolls-Bool)) ∙ fold-roll-Ty Term term_step open_ty.Bool

pub term_Unit : (t : Ty) → t ≡ ty.Unit → term_of t ≡ base_term base.Unit
term_Unit t e = ap term_of (e ∙ sym (ty.rolls-Unit)) ∙ fold-roll-Ty Term term_step open_ty.Unit

pub term_Format : (t : Ty) → t ≡ ty.Format → term_of t ≡ base_term base.Format
term_Format t e = ap term_of (e ∙ sym (ty.rolls-Format)) ∙ fold-roll-Ty Term term_step open_ty.Format

pub term_Pred : (t : Ty) → t ≡ ty.Pred → term_of t ≡ base_term base.Pred
term_Pred t e = ap term_of (e ∙ sym (ty.rolls-Pred)) ∙ fold-roll-Ty Term term_step open_ty.Pred

pub term_Source : (t : Ty) (k : KindTerm) → t ≡ ty.Source k → term_of t ≡ source_term k
term_Source t k e = ap term_of (e ∙ sym (ty.rolls-Source k)) ∙ fold-roll-Ty Term term_step (open_ty.Source k)

pub term_Var : (t : Ty) (k : ℕ) → t ≡ ty.Var k → term_of t ≡ variable k
term_Var t k e = ap term_of (e ∙ sym (ty.rolls-Var k)) ∙ fold-roll-Ty Term term_step (open_ty.Var k)

pub term_List : (t : Ty) (b : Box Ty Global) → t ≡ view.List b → term_of t ≡ list_term (term_of b.value)
term_List t b e = ap term_of (e ∙ sym (ty.rolls-List b)) ∙ fold-roll-Ty Term term_step (open_ty.List b)

pub term_Tuple : (t : Ty) (v : Vec Ty Global) → t ≡ view.Tuple v → term_of t ≡ tuple_term (terms_of (map term_of v.items))
term_Tuple t v e = ap term_of (e ∙ sym (ty.rolls-Tuple v)) ∙ fold-roll-Ty Term term_step (open_ty.Tuple v)

pub variable_injective : (m n : ℕ) → variable m ≡ variable n → m ≡ n
variable_injective m n e = cc

-- the five shapes of a type
pub data Shape (t : Ty) : Type 0 where
  is_base : (b : Base) → term_of t ≡ base_term b → Shape t
  is_list : (b : Box Ty Global) → t ≡ view.List b → Shape t
  is_tuple : (v : Vec Ty Global) → t ≡ view.Tuple v → Shape t
  is_source : (k : KindTerm) → t ≡ ty.Source k → Shape t
  is_var : (n : ℕ) → t ≡ ty.Var n → Shape t

shape_by : (t : Ty) (x : open_ty.Ty-F Ty) → view.out-Ty t ≡ x → Shape t
shape_by t open_ty.Int e = is_base base.Int (term_Int t (sym (view.roll-out-Ty t) ∙ ap view.roll-Ty e ∙ ty.rolls-Int))
shape_by t open_ty.Decimal e = is_base base.Decimal (term_Decimal t (sym (view.roll-out-Ty t) ∙ ap view.roll-Ty e ∙ ty.rolls-Decimal))
shape_by t open_ty.Text e = is_base base.Text (term_Text t (sym (view.roll-out-Ty t) ∙ ap view.roll-Ty e ∙ ty.rolls-Text))
shape_by t open_ty.Bool e = is_base base.Bool (term_Bool t (sym (view.roll-out-Ty t) ∙ ap view.roll-Ty e ∙ ty.rolls-Bool))
shape_by t open_ty.Unit e = is_base base.Unit (term_Unit t (sym (view.roll-out-Ty t) ∙ ap view.roll-Ty e ∙ ty.rolls-Unit))
shape_by t open_ty.Format e = is_base base.Format (term_Format t (sym (view.roll-out-Ty t) ∙ ap view.roll-Ty e ∙ ty.rolls-Format))
shape_by t open_ty.Pred e = is_base base.Pred (term_Pred t (sym (view.roll-out-Ty t) ∙ ap view.roll-Ty e ∙ ty.rolls-Pred))
shape_by t (open_ty.List b) e = is_list b (sym (view.roll-out-Ty t) ∙ ap view.roll-Ty e ∙ ty.rolls-List b)
shape_by t (open_ty.Tuple v) e = is_tuple v (sym (view.roll-out-Ty t) ∙ ap view.roll-Ty e ∙ ty.rolls-Tuple v)
shape_by t (open_ty.Source k) e = is_source k (sym (view.roll-out-Ty t) ∙ ap view.roll-Ty e ∙ ty.rolls-Source k)
shape_by t (open_ty.Var n) e = is_var n (sym (view.roll-out-Ty t) ∙ ap view.roll-Ty e ∙ ty.rolls-Var n)

pub shape_of : (t : Ty) → Shape t
shape_of t = shape_by t (view.out-Ty t) refl
