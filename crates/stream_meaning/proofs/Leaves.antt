-- What a leaf plays, and what the plan says of its operator, agree.
use Rattle.std.proofs.Common.{◌≡◌, ◌⊎◌, ℕ, List, Bool, refl, ap, inl, inr}
use Rattle.liq_base.specs.declared.memory.Kind.{Kind}
use Rattle.plan_core.specs.declared.node.Op.{Op}
use Rattle.plan_core.specs.declared.node.Op.TheVariants.{Single, Playlist, Blank, Square, Fail, Fallback, Switch, Sequence, Rotate, Random, Add, Amplify, Mean, Stereo, Crossfade, Buffer, Clock}
use Rattle.plan_core.specs.Plans.{HasChildren}
use Rattle.fallible_infer.specs.Infallible.{Rests, ByNothing, ByItself, rests_of}
use Rattle.op_leaf.specs.declared.leaf.Leaf.{Leaf}
use Rattle.op_leaf.specs.declared.leaf.Leaf.TheVariants.{Files}
use Rattle.stream_meaning.specs.Operators.{Plays, Reads, work_of}

same_again : (i j : ℕ) (a b : Bool) (k l : Kind) → Plays (Files i a k) ≡ Plays (Files j b l) → a ≡ b
same_again i j a b k l e = cc

module _ (rate i : ℕ) (kind : Kind) where
  -- a leaf has no children
  pub leaf_children : (op : Op) (leaf : Leaf) (n : ℕ) → work_of rate i kind op ≡ Plays leaf → HasChildren op n → n ≡ 0
  leaf_children (Single file) leaf n is has = has
  leaf_children (Playlist file again) leaf n is has = has
  leaf_children (Blank track) leaf n is has = has
  leaf_children (Square pitch) leaf n is has = has
  leaf_children Fail leaf n is has = has
  leaf_children (Fallback sensitive) leaf n is has = absurd cc
  leaf_children (Switch sensitive preds) leaf n is has = absurd cc
  leaf_children Sequence leaf n is has = absurd cc
  leaf_children Rotate leaf n is has = absurd cc
  leaf_children (Random seed) leaf n is has = absurd cc
  leaf_children (Add normalize) leaf n is has = absurd cc
  leaf_children (Amplify factor) leaf n is has = absurd cc
  leaf_children Mean leaf n is has = absurd cc
  leaf_children Stereo leaf n is has = absurd cc
  leaf_children (Crossfade overlap) leaf n is has = absurd cc
  leaf_children (Buffer number) leaf n is has = absurd cc
  leaf_children (Clock id) leaf n is has = absurd cc

  -- so its children do not decide whether it is infallible
  pub leaf_rests : (op : Op) (leaf : Leaf) → work_of rate i kind op ≡ Plays leaf → (rests_of op ≡ ByNothing) ⊎ (rests_of op ≡ ByItself)
  leaf_rests (Single file) leaf is = inr refl
  leaf_rests (Playlist file again) leaf is = inl refl
  leaf_rests (Blank track) leaf is = inr refl
  leaf_rests (Square pitch) leaf is = inr refl
  leaf_rests Fail leaf is = inl refl
  leaf_rests (Fallback sensitive) leaf is = absurd cc
  leaf_rests (Switch sensitive preds) leaf is = absurd cc
  leaf_rests Sequence leaf is = absurd cc
  leaf_rests Rotate leaf is = absurd cc
  leaf_rests (Random seed) leaf is = absurd cc
  leaf_rests (Add normalize) leaf is = absurd cc
  leaf_rests (Amplify factor) leaf is = absurd cc
  leaf_rests Mean leaf is = absurd cc
  leaf_rests Stereo leaf is = absurd cc
  leaf_rests (Crossfade overlap) leaf is = absurd cc
  leaf_rests (Buffer number) leaf is = absurd cc
  leaf_rests (Clock id) leaf is = absurd cc

  -- a reader has no children, and is never infallible
  pub reader_rests : (op : Op) (buffer n : ℕ) → work_of rate i kind op ≡ Reads buffer → HasChildren op n → (n ≡ 0) × (rests_of op ≡ ByNothing)
  reader_rests (Single file) buffer n is has = absurd cc
  reader_rests (Playlist file again) buffer n is has = absurd cc
  reader_rests (Blank track) buffer n is has = absurd cc
  reader_rests (Square pitch) buffer n is has = absurd cc
  reader_rests Fail buffer n is has = absurd cc
  reader_rests (Fallback sensitive) buffer n is has = absurd cc
  reader_rests (Switch sensitive preds) buffer n is has = absurd cc
  reader_rests Sequence buffer n is has = absurd cc
  reader_rests Rotate buffer n is has = absurd cc
  reader_rests (Random seed) buffer n is has = absurd cc
  reader_rests (Add normalize) buffer n is has = absurd cc
  reader_rests (Amplify factor) buffer n is has = absurd cc
  reader_rests Mean buffer n is has = absurd cc
  reader_rests Stereo buffer n is has = absurd cc
  reader_rests (Crossfade overlap) buffer n is has = absurd cc
  reader_rests (Buffer number) buffer n is has = (has, refl)
  reader_rests (Clock id) buffer n is has = absurd cc

  -- a leaf that plays files is a single or a playlist
  pub leaf_files : (op : Op) (j : ℕ) (again : Bool) (k : Kind) → work_of rate i kind op ≡ Plays (Files j again k)
      → (name : List ℕ) × ((op ≡ Single name) ⊎ (op ≡ Playlist name again))
  leaf_files (Single file) j again k is = (file, inl refl)
  leaf_files (Playlist file loops) j again k is = (file, inr (ap (Playlist file) (same_again i j loops again kind k is)))
  leaf_files (Blank track) j again k is = absurd cc
  leaf_files (Square pitch) j again k is = absurd cc
  leaf_files Fail j again k is = absurd cc
  leaf_files (Fallback sensitive) j again k is = absurd cc
  leaf_files (Switch sensitive preds) j again k is = absurd cc
  leaf_files Sequence j again k is = absurd cc
  leaf_files Rotate j again k is = absurd cc
  leaf_files (Random seed) j again k is = absurd cc
  leaf_files (Add normalize) j again k is = absurd cc
  leaf_files (Amplify factor) j again k is = absurd cc
  leaf_files Mean j again k is = absurd cc
  leaf_files Stereo j again k is = absurd cc
  leaf_files (Crossfade overlap) j again k is = absurd cc
  leaf_files (Buffer number) j again k is = absurd cc
  leaf_files (Clock id) j again k is = absurd cc
