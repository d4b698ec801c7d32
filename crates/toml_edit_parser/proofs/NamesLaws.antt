-- The names of the keys of a path, key by key.
use Rattle.std.proofs.Common.{◌≡◌, ℕ, List, [], ◌∷◌, ◌++◌, map, sym, ap, subst, ◌∙◌, append_assoc, Some, None}
use Rattle.toml_edit_model.specs.Text.{Text}
use Rattle.toml_edit_model.specs.Syntax.{Segment, path_text}
use Rattle.toml_edit_model.specs.Paths.{next_start}
use Rattle.toml_edit_model.specs.Tree.{Decor, Key}
use Rattle.toml_edit_laws.specs.Standing.{Stands}
use Rattle.toml_edit_parser.specs.declared.key.PathKey.{PathKey}
use Rattle.toml_edit_parser.specs.declared.key.KeyPath.{KeyPath}
use Rattle.toml_edit_parser.specs.PairRead.{IsEndOfPath}
use Rattle.toml_edit_parser.specs.PathRead.{IsFirstKey, IsPathFrom}
use Rattle.toml_edit_parser.proofs.PathLaws.{key_last, key_passed, same_path}
use Rattle.toml_edit_parser.proofs.EntryLaws.{end_of, path_rest}

abbrev pub keys : List Segment → List Text
keys p = map (λ s. s.key) p

-- What is left of a path, after keys of these names.
pub record NamesLeft (t : Text) (own : Decor) (p : List Segment) (done : List Text) (left : KeyPath) : Type 0 where
  pub start : ℕ
  pub segments : List Segment
  pub ends : IsEndOfPath segments
  pub stands : Stands t start (path_text segments)
  pub read : IsPathFrom own start segments left
  pub all : done ++ keys segments ≡ keys p

pub names-begin : (t : Text) (own : Decor) (p : List Segment) (start : ℕ) (path : KeyPath) (done : List Text) → IsEndOfPath p
    → Stands t start (path_text p)
    → IsPathFrom own start p path → done ≡ [] → NamesLeft t own p done path
names-begin t own p start path done ends stands read none =
    record { start = start; segments = p; ends = ends; stands = stands; read = read; all = ap (λ (ns : List Text). ns ++ keys p) none }

-- a name more
one_more : (done new : List Text) (name key : Text) (ks : List Text) → new ≡ done ++ (name ∷ []) → name ≡ key → new ++ ks ≡ done
    ++ (key ∷ ks)
one_more done new name key ks e same =
    ap (λ (ns : List Text). ns ++ ks) e ∙ append_assoc done (name ∷ []) ks ∙ ap (λ (n : Text). done ++ (n ∷ ks)) same

next_left : (t : Text) (own : Decor) (p : List Segment) (done new : List Text) (start : ℕ) (segments : List Segment) (r : PathKey)
    (inside : KeyPath)
    → IsEndOfPath segments → Stands t start (path_text segments) → done ++ keys segments ≡ keys p → IsFirstKey own start segments r
    → new ≡ done ++ (r.key.name ∷ []) → r.rest ≡ Some inside → NamesLeft t own p new inside
next_left t own p done new start [] r inside ends stands all first more some = absurd first
next_left t own p done new start (s ∷ []) r inside ends stands all first more some =
    let none = (key_last own start s r.key r.rest first.1).1 in
    absurd (let e = sym some ∙ none in cc)
next_left t own p done new start (s ∷ g ∷ q) r inside ends stands all first more some =
    let k = key_passed own start s g q r.key r.rest first.1 in
    let same = same_path inside k.1.0 (sym some ∙ k.1.1) in
    record {
      start = next_start start s;
      segments = g ∷ q;
      ends = end_of s g q ends;
      stands = path_rest t start s g q stands;
      read = subst (IsPathFrom own (next_start start s) (g ∷ q)) (sym same) k.1.2;
      all = one_more done new r.key.name s.key (keys (g ∷ q)) more (ap (λ (x : Key). x.name) k.0) ∙ all;
    }

last_left : (own : Decor) (p : List Segment) (done new : List Text) (start : ℕ) (segments : List Segment) (r : PathKey) → done
    ++ keys segments ≡ keys p
    → IsFirstKey own start segments r → new ≡ done ++ (r.key.name ∷ []) → r.rest ≡ None → new ≡ keys p
last_left own p done new start [] r all first more none = absurd first
last_left own p done new start (s ∷ []) r all first more none =
    let k = key_last own start s r.key r.rest first.1 in
    more ∙ ap (λ (x : Key). done ++ (x.name ∷ [])) k.0 ∙ all
last_left own p done new start (s ∷ g ∷ q) r all first more none =
    let k = key_passed own start s g q r.key r.rest first.1 in
    absurd (let e = sym none ∙ k.1.1 in cc)

-- with the name of the first key that is left, and the path after it
pub names-next : (t : Text) (own : Decor) (p : List Segment) (done new : List Text) (left : KeyPath) (r : PathKey) (inside : KeyPath)
    → (n : NamesLeft t own p done left)
    → IsFirstKey own n.start n.segments r → new ≡ done ++ (r.key.name ∷ []) → r.rest ≡ Some inside → NamesLeft t own p new inside
names-next t own p done new left r inside n first more some =
    next_left t own p done new n.start n.segments r inside n.ends n.stands n.all first more some

-- with the name of the last key they are all
pub names-end : (t : Text) (own : Decor) (p : List Segment) (done new : List Text) (left : KeyPath) (r : PathKey)
    → (n : NamesLeft t own p done left)
    → IsFirstKey own n.start n.segments r → new ≡ done ++ (r.key.name ∷ []) → r.rest ≡ None → new ≡ keys p
names-end t own p done new left r n first more none = last_left own p done new n.start n.segments r n.all first more none
