-- The builtins, as one table: the parameters with their types, and the type of a call.
use Rattle.std.specs.Prelude.{◌≡◌, ℕ, zero, suc, List, [], ◌∷◌, ◌++◌, map, Option, Some, None, cond, bytes_eq, codes}
use Rattle.liq_base.specs.declared.memory.Kind.{Kind}
use Rattle.liq_base.specs.declared.memory.Kind.TheVariants.{Mono, Stereo}
use Rattle.type_terms.specs.Ground.{Ground, Assignment}
use Rattle.type_terms.specs.Term.{Term, base_term, list_term, tuple_term, source_term, variable, no_terms, one_more, meaning}
use Rattle.type_terms.specs.declared.ty.Base.TheVariants as base
use Rattle.type_terms.specs.declared.ty.KindTerm.TheVariants.{Fixed, Var}
use Rattle.typing_rules.specs.declared.uses.Builtin.{Builtin}
use Rattle.typing_rules.specs.declared.uses.Builtin.TheVariants as builtin
use Rattle.typing_rules.specs.declared.form.Form.TheVariants.{InPlace, Perhaps}
use Rattle.typing_rules.specs.Arguments.{Parameter, GivenArgument, Matched}

-- a parameter and its type
abbrev pub TypedParameter : Type 0
TypedParameter = Parameter × Term

-- The type of a builtin: its parameters and the result of a call, as terms with variables that each call may set anew.
-- `types` is how many type variables there are, and `kinds` how many kind variables, which stand for mono or stereo;
-- both are numbered from 0.
pub record Signature : Type 0 where
  pub params : List TypedParameter
  pub result : Term
  pub types : ℕ
  pub kinds : ℕ

-- a parameter of this name and type that is given by its place, without a label
abbrev pub plain_parameter : List ℕ → Term → TypedParameter
plain_parameter name t = (record { name = name; form = InPlace }, t)

-- a parameter of this name and type that is given by label and may be left out, since it has a default
abbrev pub labelled : List ℕ → Term → TypedParameter
labelled name t = (record { name = name; form = Perhaps }, t)

-- the type of texts
abbrev pub text : Term
text = base_term base.Text

-- the type of truth values
abbrev pub bool : Term
bool = base_term base.Bool

-- the type of ints
abbrev pub int : Term
int = base_term base.Int

-- the type of decimals
abbrev pub decimal : Term
decimal = base_term base.Decimal

-- the type of the value `()`, which calls have that are made for their effect, as `set`
abbrev pub unit : Term
unit = base_term base.Unit

-- the type of a source whose kind, mono or stereo, is variable 0 of a builtin's type
abbrev pub source_k : Term
source_k = source_term (Var 0)

-- the parameter `id`, which most builtins have
abbrev pub id_param : TypedParameter
id_param = labelled (codes "id") text

-- the type of a builtin that takes `id` and these parameters and makes a source; its one kind variable is that of the
-- source, mono or stereo
abbrev pub source_call : List TypedParameter → Signature
source_call params = record { params = id_param ∷ params; result = source_k; types = 0; kinds = 1 }

-- the parameter that is a list of sources, all of the kind, mono or stereo, that the builtin's result has
abbrev pub sources_param : TypedParameter
sources_param = plain_parameter (codes "sources") (list_term source_k)

-- the parameter that is a source, of the kind, mono or stereo, that is variable 0 of the builtin's type
abbrev pub source_param : TypedParameter
source_param = plain_parameter (codes "s") source_k

-- the type of pairs
abbrev pub pair : Term → Term → Term
pair t u = tuple_term (one_more t (one_more u no_terms))

-- the parameters and the result of each builtin
abbrev pub signature : Builtin → Signature
signature builtin.OutputFile = record {
  params = id_param ∷ labelled (codes "fallible") bool ∷ plain_parameter (codes "format") (base_term base.Format)
      ∷ plain_parameter (codes "name") text ∷ source_param ∷ [];
  result = unit;
  types = 0;
  kinds = 1;
}
signature builtin.Set = record {
  params = plain_parameter (codes "key") text ∷ plain_parameter (codes "value") (variable 0) ∷ [];
  result = unit;
  types = 1;
  kinds = 0;
}
signature builtin.Single = source_call (plain_parameter (codes "file") text ∷ [])
signature builtin.Playlist = source_call (labelled (codes "loop") bool ∷ labelled (codes "mode") text
    ∷ plain_parameter (codes "file") text ∷ [])
signature builtin.Blank = source_call (labelled (codes "duration") decimal ∷ [])
signature builtin.Square = source_call (plain_parameter (codes "f") decimal ∷ [])
signature builtin.Fail = source_call []
signature builtin.Fallback = source_call (labelled (codes "track_sensitive") bool ∷ sources_param ∷ [])
signature builtin.Switch = source_call (labelled (codes "track_sensitive") bool
    ∷ plain_parameter (codes "pairs") (list_term (pair (base_term base.Pred) source_k)) ∷ [])
signature builtin.Sequence = source_call (sources_param ∷ [])
signature builtin.Rotate = source_call (sources_param ∷ [])
signature builtin.Random = source_call (labelled (codes "seed") int ∷ sources_param ∷ [])
signature builtin.Add = source_call (labelled (codes "normalize") bool ∷ sources_param ∷ [])
signature builtin.Amplify = source_call (plain_parameter (codes "k") decimal ∷ source_param ∷ [])
signature builtin.Mean = record {
  params = id_param ∷ plain_parameter (codes "s") (source_term (Fixed Stereo)) ∷ [];
  result = source_term (Fixed Mono);
  types = 0;
  kinds = 0;
}
signature builtin.Stereo = record {
  params = id_param ∷ plain_parameter (codes "s") (source_term (Fixed Mono)) ∷ [];
  result = source_term (Fixed Stereo);
  types = 0;
  kinds = 0;
}
signature builtin.Crossfade = source_call (labelled (codes "duration") decimal ∷ source_param ∷ [])
signature builtin.Mksafe = source_call (source_param ∷ [])
signature builtin.Buffer = source_call (labelled (codes "buffer") decimal ∷ labelled (codes "max") decimal
    ∷ source_param ∷ [])
signature builtin.Clock = source_call (source_param ∷ [])

-- the builtins by their names
abbrev pub builtin_names : List (List ℕ × Builtin)
builtin_names =
    (codes "output.file", builtin.OutputFile) ∷ (codes "set", builtin.Set) ∷ (codes "single", builtin.Single)
    ∷ (codes "playlist", builtin.Playlist) ∷ (codes "blank", builtin.Blank) ∷ (codes "square", builtin.Square)
    ∷ (codes "fail", builtin.Fail) ∷ (codes "fallback", builtin.Fallback) ∷ (codes "switch", builtin.Switch)
    ∷ (codes "sequence", builtin.Sequence) ∷ (codes "rotate", builtin.Rotate) ∷ (codes "random", builtin.Random)
    ∷ (codes "add", builtin.Add) ∷ (codes "amplify", builtin.Amplify)
    ∷ (codes "mean", builtin.Mean) ∷ (codes "stereo", builtin.Stereo) ∷ (codes "crossfade", builtin.Crossfade)
    ∷ (codes "mksafe", builtin.Mksafe) ∷ (codes "buffer", builtin.Buffer) ∷ (codes "clock", builtin.Clock) ∷ []

-- the builtin of this name in a table of names and builtins, if there is one
abbrev pub named_in : List ℕ → List (List ℕ × Builtin) → Option Builtin
named_in name [] = None
named_in name (b ∷ bs) = cond (bytes_eq name b.0) (Some b.1) (named_in name bs)

-- the builtin of this name
abbrev pub builtin_named : List ℕ → Option Builtin
builtin_named name = named_in name builtin_names

-- the parameters of a builtin, without their types
abbrev pub params_of_builtin : Builtin → List Parameter
params_of_builtin b = map (λ p. p.0) (signature b).params

-- the kinds, mono or stereo, that an assignment f gives to the kind variables 0 to n - 1, in order
abbrev pub first_kinds : (ℕ → Kind) → ℕ → List Kind
first_kinds f zero = []
first_kinds f (suc n) = first_kinds f n ++ f n ∷ []

-- A call of builtin b with arguments of the types gs may have the type g. Some assignment `at` of the variables makes
-- the builtin's type fit. `ks` are the kinds, mono or stereo, that it gives to the kind variables, and each call has an
-- assignment of its own.
pub record IsCallOf (b : Builtin) (gs : List (GivenArgument Ground)) (ks : List Kind) (g : Ground) : Type 0 where
  pub types : List Ground
  pub matched : Matched (params_of_builtin b) gs types
  pub at : Assignment
  pub params : map (λ p. meaning at p.1) (signature b).params ≡ types
  pub result : meaning at (signature b).result ≡ g
  pub kinds : first_kinds at.kind_of (signature b).kinds ≡ ks
